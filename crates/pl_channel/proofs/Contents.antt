-- What the lanes of a plan carry, hop by hop: what a stage makes of its own.
use Rattle.std.proofs.Common.{◌≡◌, ℕ, suc, ◌+◌, ◌-◌, true, List, ◌∷◌, ◌++◌, take, drop, sym, ap, ◌∙◌, arith}
use Rattle.std.specs.Prelude.{slice_get, Some}
use Rattle.std.specs.List.{count_by}
use Rattle.std.proofs.lemmas.List.{take-append-drop}
use Rattle.std.proofs.Math.Seq.{drop-cons}
use Rattle.std.proofs.lemmas.Option.{slice_get_within, get_or_from_slice_get}
use Rattle.pl_event.specs.Meaning.{Meaning, up_of, down_of}
use Rattle.pl_event.specs.Inputs.{recorded_input}
use Rattle.pl_event.specs.Lanes.{through, out_through, written, through_by-push}
use Rattle.pl_event.specs.Paths.{is_turn}
use Rattle.pl_event.proofs.LaneLemmas.{lane-near, lane-far, written-turn}
use Rattle.pl_world.specs.Plans.{ChannelPlan, tail_hop, content}
use Rattle.pl_channel.proofs.Lists.{take-next, only-one}

module _ (p : ChannelPlan) where
  -- the first carries the recorded input
  pub content-input : content p 0 ≡ recorded_input p.bursts
  content-input = lane-near p.inbound p.outbound (recorded_input p.bursts) 0 (omega arith)

  -- behind an inbound stage is what it makes upwards
  pub content-up : (hop : ℕ) (m : Meaning) → slice_get p.inbound hop ≡ Some m → content p (hop + 1) ≡ up_of m (content p hop)
  content-up hop m here =
      let input = recorded_input p.bursts in
      let within = slice_get_within p.inbound hop m here in
      lane-near p.inbound p.outbound input (hop + 1) (omega (arith, within))
      ∙ ap (λ (ms : List Meaning). through ms input) (take-next p.inbound hop m here)
      ∙ through_by-push up_of (take hop p.inbound) m input
      ∙ ap (up_of m) (sym (lane-near p.inbound p.outbound input hop (omega (arith, within))))

  -- behind an outbound stage is what it makes downwards
  pub content-down : (i : ℕ) (m : Meaning) → slice_get p.outbound i ≡ Some m → content p (tail_hop p + 2 + i) ≡ down_of m (content p (tail_hop p + 1 + i))
  content-down i m here =
      let input = recorded_input p.bursts in
      let next : tail_hop p + 2 + i - tail_hop p - 1 ≡ i + 1 = omega arith in
      let own : tail_hop p + 1 + i - tail_hop p - 1 ≡ i = omega arith in
      lane-far p.inbound p.outbound input (tail_hop p + 2 + i) (omega arith)
      ∙ ap (λ (n : ℕ). out_through (take n p.outbound) (written p.inbound input)) next
      ∙ ap (λ (ms : List Meaning). out_through ms (written p.inbound input)) (take-next p.outbound i m here)
      ∙ through_by-push down_of (take i p.outbound) m (written p.inbound input)
      ∙ ap (down_of m) (sym (lane-far p.inbound p.outbound input (tail_hop p + 1 + i) (omega arith) ∙ ap (λ (n : ℕ). out_through (take n p.outbound) (written p.inbound input)) own))

  -- the first lane behind the tail's is what the turn writes, the only one of the inbound chain
  pub content-turn : (hop : ℕ) (m : Meaning) → count_by (λ (n : Meaning). is_turn n.direction) p.inbound ≡ 1 → slice_get p.inbound hop ≡ Some m → is_turn m.direction ≡ true
      → content p (tail_hop p + 1) ≡ down_of m (content p hop)
  content-turn hop m count here turn =
      let input = recorded_input p.bursts in
      let within = slice_get_within p.inbound hop m here in
      let before = only-one (λ (n : Meaning). is_turn n.direction) p.inbound hop m count here turn in
      let split : p.inbound ≡ take hop p.inbound ++ m ∷ drop (suc hop) p.inbound =
      sym (take-append-drop hop p.inbound)
      ∙ ap (λ (ms : List Meaning). take hop p.inbound ++ ms) (drop-cons p.inbound hop m within ∙ ap (λ (n : Meaning). n ∷ drop (suc hop) p.inbound) (get_or_from_slice_get p.inbound hop m m here)) in
      let past : tail_hop p + 1 - tail_hop p - 1 ≡ 0 = omega arith in
      lane-far p.inbound p.outbound input (tail_hop p + 1) (omega arith)
      ∙ ap (λ (n : ℕ). out_through (take n p.outbound) (written p.inbound input)) past
      ∙ ap (λ (ms : List Meaning). written ms input) split
      ∙ (written-turn (take hop p.inbound) m (drop (suc hop) p.inbound) input before.1 turn).0
      ∙ ap (down_of m) (sym (lane-near p.inbound p.outbound input hop (omega (arith, within))))
