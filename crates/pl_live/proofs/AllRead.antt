-- A head with no burst left has given its lane all that its bursts bring, and the end where it has read that.
use Rattle.std.proofs.Common.{◌≡◌, ℕ, zero, suc, ◌+◌, ◌<◌, ◌≤◌, Bool, true, false, not, ◌&&◌, List, [], ◌∷◌, ◌++◌, length, map, take, Option, Some, refl, ap, ◌∙◌, inl, inr, arith}
use Rattle.std.specs.Prelude.{if◌then◌else◌, nat_lt, slice_get}
use Rattle.std.specs.List.{flat_map}
use Rattle.std.specs.Option.{option_map_or}
use Rattle.std.proofs.lemmas.Bool.{and_from, cases_lt, cond-true, lt-ltb, le-leb, or_left}
use Rattle.std.proofs.lemmas.List.{length-map, take_all}
use Rattle.std.proofs.lemmas.List.Folds.{flat_map-map}
use Rattle.pl_event.specs.declared.envelopes.Lane.{Lane}
use Rattle.pl_event.specs.declared.events.Event.{Event}
use Rattle.pl_event.specs.declared.events.Event.TheVariants.{Active}
use Rattle.pl_event.specs.Hops.{same_lane, data_lane}
use Rattle.pl_event.specs.Inputs.{Bursts, burst_events, recorded_input, input_after}
use Rattle.pl_event.specs.Meaning.{Meaning}
use Rattle.pl_event.specs.Worlds.{World}
use Rattle.pl_event.proofs.SameLanes.{same_lane-self}
use Rattle.pl_flow.specs.Flows.{nowhere}
use Rattle.pl_head.specs.HeadStand.{HeadView}
use Rattle.pl_head.specs.InputStand.{InputView, InputStands, fed_plan, steps_left}
use Rattle.pl_head.specs.ReadSteps.{step_count, read_items}
use Rattle.pl_head.specs.Transports.{TransportState}
use Rattle.pl_part.specs.ContextHolds.{port_point}
use Rattle.pl_part.specs.HeadHolds.{head_came, head_writes}
use Rattle.pl_part.specs.Parts.{ChannelPartView, part_came, part_writes}
use Rattle.pl_channel.specs.Channels.{PartStands, came_of, writes_here, writes_of}
use Rattle.pl_live.proofs.ContextsGive.{of-part}
use Rattle.pl_live.proofs.Reading.{steps-left}

-- one item more where its lane is closed: the end, or a failure
abbrev pub end_of : Bool → ℕ
end_of is_open = if is_open then 0 else 1

pub end-small : (is_open : Bool) → end_of is_open ≤ 1
end-small true = omega arith
end-small false = omega arith

abbrev whole : List Event → List Event
whole step = step

-- a step that brings nothing adds nothing
past-last : (steps : List (List Event)) (n : ℕ) → length steps ≤ n → flat_map whole (take n (steps ++ [] ∷ [])) ≡ flat_map whole steps
past-last [] zero past = refl
past-last [] (suc n) past = ap (λ (rest : List (List Event)). flat_map whole rest) (take_all n [] (omega arith))
past-last (step ∷ steps) zero past = absurd (omega (arith, past))
past-last (step ∷ steps) (suc n) past = ap (λ (rest : List Event). step ++ rest) (past-last steps n (omega (arith, past)))

all-bursts : (bursts : Bursts) (reads : ℕ) → length bursts < reads → input_after reads bursts ≡ recorded_input bursts
all-bursts bursts zero past = absurd (omega (arith, past))
all-bursts bursts (suc n) past =
    let size = length-map bursts burst_events in
    ap (λ (rest : List Event). Active ∷ rest) (past-last (map burst_events bursts) n (omega (arith, past, size)) ∙ flat_map-map whole burst_events bursts)

module _ (bursts : Bursts) (reads : ℕ) (r : InputView) where
  closed-by : (failed : Bool) → length bursts < reads → r.port.made ≡ read_items bursts reads + (if failed then 1 else 0) → r.port.is_open ≡ (not failed && nat_lt reads (step_count bursts))
      → length (recorded_input bursts) + end_of r.port.is_open ≤ r.port.made
  closed-by true past made is_open =
      let all = ap (λ (es : List Event). length es) (all-bursts bursts reads past) in
      let most = end-small r.port.is_open in
      omega (arith, made, all, most)
  closed-by false past made is_open = elim (cases_lt reads (step_count bursts)) [
    | inl left ↦
        let none = ap end_of (is_open ∙ lt-ltb reads (step_count bursts) left) in
        let all = ap (λ (es : List Event). length es) (all-bursts bursts reads past) in
        omega (arith, made, all, none)
    | inr read ↦
        let most = end-small r.port.is_open in
        let end = ap {B = ℕ} (λ (b : Bool). if b then 1 else 0) (le-leb (step_count bursts) reads read) in
        let all = ap (λ (es : List Event). length es) (all-bursts bursts reads past) in
        omega (arith, made, all, end, most)
  ]

  pub all-read : (failed : Bool) → InputStands (fed_plan bursts) reads failed r → steps_left r ≡ 0 → length (recorded_input bursts) + end_of r.port.is_open ≤ r.port.made
  all-read failed s none =
      let left = steps-left bursts reads failed r s in
      closed-by failed (omega (arith, none, left)) s.made s.is_open

-- ---- the first lane of a channel

module _ {S T : Type 0} (world : World) (meaning : S → Meaning) (stands_after : S → List Event → Type 0) (state : T → TransportState) (ps : List (ChannelPartView S T)) (part : ChannelPartView S T) (here : slice_get ps 0 ≡ Some part)
    (stands : PartStands world meaning stands_after state 0 part) (h : HeadView T) (has : part.head ≡ Some h) where
  abbrev l : Lane
  l = data_lane 0 0

  own-lane : same_lane l (data_lane h.channel 0) ≡ true
  own-lane = ap (λ (n : ℕ). same_lane l (data_lane n 0)) ((stands.holds.head h has).1 ∙ stands.channel) ∙ same_lane-self l

  pub first-written : writes_of meaning ps l ≡ true
  first-written =
      of-part ps part here (λ (q : ChannelPartView S T). writes_here meaning q l) false
      ∙ and_from (nat_lt 0 (length part.path.executors)) (part_writes meaning part l) (lt-ltb 0 (length part.path.executors) (let hops = stands.holds.hops in omega (arith, hops)))
      (ap (λ (o : Option (HeadView T)). option_map_or (λ (x : HeadView T). head_writes x l) o false) has ∙ or_left (same_lane l (data_lane h.channel 0)) _ own-lane)

  -- it has come as far as the head's reads
  pub first-came : came_of meaning ps l ≡ port_point h.input.port
  first-came =
      of-part ps part here (λ (q : ChannelPartView S T). part_came meaning q l) nowhere
      ∙ ap (λ (o : Option (HeadView T)). option_map_or (λ (x : HeadView T). head_came x l) o nowhere) has
      ∙ cond-true (same_lane l (data_lane h.channel 0)) (port_point h.input.port) _ own-lane
