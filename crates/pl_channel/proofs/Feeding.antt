-- What holds of channels in the world of a plan holds, once one of them is fed a burst, in that of the plan with this burst more.
use Rattle.std.proofs.Common.{◌≡◌, ◌≢◌, ℕ, zero, suc, ◌+◌, ◌-◌, ◌<◌, ◌≤◌, ◌⊎◌, inl, inr, Bool, List, [], ◌∷◌, ◌++◌, length, map, get_or, Option, Some, None, refl, sym, ap, subst, ◌∙◌, arith}
use Rattle.std.specs.Prelude.{slice_get}
use Rattle.std.proofs.lemmas.Option.{none-some, same_Some}
use Rattle.pl_event.specs.declared.elements.Element.{Element}
use Rattle.pl_event.specs.declared.events.Event.{Event}
use Rattle.pl_event.specs.declared.stages.Direction.{Direction}
use Rattle.pl_event.specs.declared.stages.Direction.TheVariants.{Inbound, Outbound, Turn}
use Rattle.pl_event.specs.Hops.{data_lane}
use Rattle.pl_event.specs.Inputs.{burst_events, recorded_input}
use Rattle.pl_event.specs.Meaning.{Meaning, IsPrefixOf}
use Rattle.pl_event.specs.Worlds.{World, content_of}
use Rattle.pl_event.proofs.LaneLemmas.{lane-prefix}
use Rattle.pl_event.proofs.Lists.{All-at}
use Rattle.pl_context.specs.declared.standing.Standing.TheVariants as standings
use Rattle.pl_context.specs.ContextViews.{ContextView, IsHop}
use Rattle.pl_head.specs.InputStand.{items_left}
use Rattle.pl_head.specs.HeadStand.{HeadView}
use Rattle.pl_head.specs.Transports.{TransportState}
use Rattle.pl_part.specs.ContextHolds.{IsPlanned}
use Rattle.pl_part.specs.Paths.{context_at}
use Rattle.pl_part.specs.Parts.{ChannelPartView, PartHolds}
use Rattle.pl_part.specs.Growing.{CarriesAll, CarriesMore, fed_part}
use Rattle.pl_part.proofs.Growing.{input-more, reads-on, reads-open, part-grows, part-stays}
use Rattle.pl_part.proofs.Standings.{open-context, open-tail, open-head}
use Rattle.pl_world.specs.Plans.{ChannelPlan, Plan, content, tail_hop, planned_head_hop}
use Rattle.pl_world.specs.PlanRules.{IsChannelPlan}
use Rattle.pl_channel.specs.Lanes.{world_of}
use Rattle.pl_channel.specs.Feeding.{CanBeFed, fed_channel, meant_at, plan_fed}
use Rattle.pl_channel.proofs.Contents.{content-input}
use Rattle.pl_channel.proofs.FedInputs.{few-fed}
use Rattle.pl_channel.proofs.FedPlans.{fed-at, others-at}
use Rattle.pl_channel.proofs.LaneContents.{content-planned, lane-within}
use Rattle.pl_channel.proofs.PlannedLanes.{inbound-lanes, outbound-lanes}
use Rattle.pl_event.specs.declared.limits.TheConstants.{MAX_ITEMS}

-- ---- what handlers mean, by hop

some-at : {A : Type 0} (xs : List A) (i : ℕ) (x : A) → get_or (map (λ y. Some y) xs) i None ≡ Some x → slice_get xs i ≡ Some x
some-at [] i x at = absurd (none-some x at)
some-at (y ∷ xs) zero x at = at
some-at (y ∷ xs) (suc i) x at = some-at xs i x at

-- before the tail's hop an inbound one, and behind it an outbound one
pub above-at : {A : Type 0} (xs ys : List A) (i : ℕ) (x : A) → i < length xs → get_or (map (λ y. Some y) xs ++ None ∷ map (λ y. Some y) ys) i None ≡ Some x → slice_get xs i ≡ Some x
above-at [] ys i x within at = absurd (omega (arith, within))
above-at (y ∷ xs) ys zero x within at = at
above-at (y ∷ xs) ys (suc i) x within at = above-at xs ys i x (omega (arith, within)) at

pub below-at : {A : Type 0} (xs ys : List A) (i j : ℕ) (x : A) → i ≡ length xs + 1 + j → get_or (map (λ y. Some y) xs ++ None ∷ map (λ y. Some y) ys) i None ≡ Some x → slice_get ys j ≡ Some x
below-at [] ys zero j x is at = absurd (omega (arith, is))
below-at [] ys (suc i) j x is at =
    let same : i ≡ j = omega (arith, is) in
    some-at ys j x (ap (λ (n : ℕ). get_or (map (λ y. Some y) ys) n None) (sym same) ∙ at)
below-at (y ∷ xs) ys zero j x is at = absurd (omega (arith, is))
below-at (y ∷ xs) ys (suc i) j x is at = below-at xs ys i j x (omega (arith, is)) at

-- a context stands before the tail or behind it
side : (d : Direction) (hop k : ℕ) → IsHop d hop k → (hop < k) ⊎ (k < hop)
side Inbound hop k is = inl is.0
side Turn hop k is = inl is.0
side Outbound hop k is = inr is.0

-- ---- the part of a channel that is fed

module _ {S T : Type 0} (meaning : S → Meaning) (stands_after : S → List Event → Type 0) (state : T → TransportState) (refuses : Bool) (plan : Plan) (number : ℕ) (p : ChannelPlan) (burst : List Element) (part : ChannelPartView S T)
    (may : CanBeFed meaning plan number p burst part) (holds : PartHolds (world_of refuses plan) meaning stands_after state part) where
  abbrev p' : ChannelPlan
  p' = fed_channel burst p

  abbrev plan' : Plan
  plan' = plan_fed number burst plan

  abbrev world : World
  world = world_of refuses plan

  abbrev world' : World
  world' = world_of refuses plan'

  knows : (hop : ℕ) → hop ≤ planned_head_hop p' → content_of world' (data_lane number hop) ≡ Some (content p' hop)
  knows hop within = content-planned plan' number p' (fed-at burst number plan.channels p may.planned) hop within

  longer : (hop : ℕ) → IsPrefixOf (content p hop) (content p' hop)
  longer hop = lane-prefix p.inbound p.outbound hop (recorded_input p.bursts) (recorded_input p'.bursts) (burst_events burst, sym (input-more burst p.bursts))

  carries : (hop : ℕ) (events : List Event) → content_of world (data_lane number hop) ≡ Some events
      → (rest : List Event) × (content_of world' (data_lane number hop) ≡ Some (events ++ rest)) × (length (events ++ rest) + 1 < MAX_ITEMS)
  carries hop events has =
      let within = lane-within plan number p may.planned hop events has in
      let is : events ≡ content p hop = same_Some events (content p hop) (sym has ∙ content-planned plan number p may.planned hop within) in
      let more = longer hop in
      let whole : content p' hop ≡ events ++ more.0 = sym more.1 ∙ ap (λ (xs : List Event). xs ++ more.0) (sym is) in
      (more.0, knows hop within ∙ ap Some whole, subst (λ (xs : List Event). length xs + 1 < MAX_ITEMS) whole (may.small hop within))

  first : (events : List Event) → content_of world (data_lane number 0) ≡ Some events → content_of world' (data_lane number 0) ≡ Some (events ++ burst_events burst)
  first events has =
      let is : events ≡ recorded_input p.bursts = same_Some events (content p 0) (sym has ∙ content-planned plan number p may.planned 0 (omega arith)) ∙ content-input p in
      knows 0 (omega arith) ∙ ap Some (content-input p' ∙ input-more burst p.bursts ∙ ap (λ (xs : List Event). xs ++ burst_events burst) (sym is))

  rule : IsChannelPlan plan.executors p
  rule = All-at (IsChannelPlan plan.executors) plan.channels number p may.ruled.channels may.planned

  contexts : (hop : ℕ) (c : ContextView S) → context_at part.path hop ≡ Some c → (events : List Event) × IsPlanned world' (meaning c.stage) events part.path.channel hop part.path.tail_hop
  contexts hop c there =
      let meant = may.meant hop c there in
      let placed = λ (at : ℕ) (events : List Event) (same : at ≡ hop) (is : IsPlanned world' (meaning c.stage) events number at (tail_hop p)).
      subst (λ (t : ℕ × ℕ × ℕ). IsPlanned world' (meaning c.stage) events t.0 t.1 t.2) (λ i. (sym may.channel i, same i, sym may.tail_at i)) is in
      elim (side (meaning c.stage).direction hop part.path.tail_hop (holds.path.contexts hop c there).1.fits) [
        | inl near ↦
            let tail = may.tail_at in
            let m = above-at p.inbound p.outbound hop (meaning c.stage) (omega (arith, near, tail)) meant in
            (content p' hop, placed hop (content p' hop) refl (inbound-lanes p' rule.upwards rule.turn rule.downwards may.small world' number knows hop (meaning c.stage) m))
        | inr far ↦
            let tail = may.tail_at in
            let i = hop - part.path.tail_hop - 1 in
            let same : tail_hop p + 1 + i ≡ hop = omega (arith, far, tail) in
            let m = below-at p.inbound p.outbound hop i (meaning c.stage) (sym same) meant in
            (content p' (tail_hop p + 1 + i), placed (tail_hop p + 1 + i) (content p' (tail_hop p + 1 + i)) same (outbound-lanes p' rule.upwards rule.turn rule.downwards may.small world' number knows i (meaning c.stage) m))
      ]

  not-ended : standings.Open ≡ standings.Ended → ⊥
  not-ended e = cc

  pub fed-holds : PartHolds world' meaning stands_after state (fed_part burst part)
  fed-holds = part-grows world world' meaning stands_after state burst part (record {
    more = subst (λ (n : ℕ). CarriesMore world world' n) (sym may.channel) (record { lanes = carries; refuses = refl });
    input = λ events has. (λ i. content_of world' (data_lane (may.channel i) 0)) ∙ first events ((λ i. content_of world (data_lane (sym may.channel i) 0)) ∙ has);
    contexts = contexts;
    context_ended = λ hop c there ended. absurd (not-ended (sym (open-context part may.is_open hop c there) ∙ ended));
    tail_ended = λ t there ended. absurd (not-ended (sym (open-tail part may.is_open t there) ∙ ended));
    head_ended = λ h there ended. absurd (not-ended (sym (open-head part may.is_open h there).1 ∙ ended));
    reads = may.reads;
  }) holds

  -- and there is room for the burst
  pub few-more : (h : HeadView T) → part.head ≡ Some h → h.input.port.made + items_left h.input.steps (h.input.left ++ burst ∷ []) < MAX_ITEMS
  few-more h there =
      let was = holds.head h there in
      let held = was.0.holds in
      let plan-of = was.0.plan in
      let read = recorded_input plan-of.bursts in
      let own : read ≡ recorded_input p.bursts =
      same_Some read (content p 0) (sym held.input ∙ (λ i. content_of world (data_lane ((was.1 ∙ may.channel) i) 0)) ∙ content-planned plan number p may.planned 0 (omega arith)) ∙ content-input p in
      let all : content p' 0 ≡ read ++ burst_events burst = content-input p' ∙ input-more burst p.bursts ∙ ap (λ (xs : List Event). xs ++ burst_events burst) (sym own) in
      few-fed plan-of.bursts burst held.reads.0 h.input (reads-on plan-of held.reads.0 held.reads.1 h.input held.reads.2 (may.reads h there)) (reads-open h.input (may.reads h there)).0
      (subst (λ (xs : List Event). length xs + 1 < MAX_ITEMS) all (may.small 0 (omega arith)))

-- ---- the parts of the others

pub other-holds : {S T : Type 0} (meaning : S → Meaning) (stands_after : S → List Event → Type 0) (state : T → TransportState) (refuses : Bool) (plan : Plan) (number other : ℕ) (q : ChannelPlan) (burst : List Element) (part : ChannelPartView S T)
    → slice_get plan.channels other ≡ Some q → other ≢ number → part.path.channel ≡ other → PartHolds (world_of refuses plan) meaning stands_after state part
    → PartHolds (world_of refuses (plan_fed number burst plan)) meaning stands_after state part
other-holds meaning stands_after state refuses plan number other q burst part at off own holds =
    let plan' = plan_fed number burst plan in
    part-stays (world_of refuses plan) (world_of refuses plan') meaning stands_after state part
    (subst (λ (n : ℕ). CarriesAll (world_of refuses plan) (world_of refuses plan') n) (sym own) (record {
      lanes = λ hop events has.
          let within = lane-within plan other q at hop events has in
          content-planned plan' other q (others-at burst number other plan.channels off ∙ at) hop within ∙ sym (content-planned plan other q at hop within) ∙ has;
      refuses = refl;
    })) holds
