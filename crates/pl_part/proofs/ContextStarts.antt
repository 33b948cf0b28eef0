-- A context that has taken nothing.
use Rattle.std.proofs.Common.{◌≡◌, ℕ, ◌+◌, Bool, true, false, not, ◌||◌, ◌&&◌, cond, List, [], refl, ap, sym, ◌∙◌, ⊎_elim, arith}
use Rattle.std.proofs.lemmas.Bool.{cases_Bool, both_ways}
use Rattle.std.proofs.Math.Bool.{and-true}
use Rattle.pl_event.specs.declared.events.Event.{Event}
use Rattle.pl_event.specs.declared.envelopes.Kind.TheVariants.{Flags}
use Rattle.pl_event.specs.declared.envelopes.Lane.{Lane}
use Rattle.pl_event.specs.declared.stages.Direction.{Direction}
use Rattle.pl_event.specs.declared.stages.Direction.TheVariants.{Inbound, Outbound, Turn}
use Rattle.pl_event.specs.Meaning.{Meaning, IsLawful}
use Rattle.pl_context.specs.ContextViews.{IsHop, has_up, has_down, down_hop, new_context}
use Rattle.pl_context.specs.declared.standing.Standing.TheVariants as standings
use Rattle.pl_context.specs.Contexts.{StandsAfter}
use Rattle.pl_event.specs.Hops.{same_lane, data_lane}
use Rattle.pl_event.specs.Worlds.{World}
use Rattle.pl_event.proofs.SameLanes.{same_lane-equal}
use Rattle.pl_flow.specs.Flows.{point, nowhere}
use Rattle.pl_part.specs.ContextHolds.{context_writes, context_came, IsPlanned, HoldsWith}

lanes-apart : (d : Direction) (channel hop k : ℕ) → IsHop d hop k → has_up d ≡ true → has_down d ≡ true → same_lane (data_lane channel (hop + 1)) (data_lane channel (down_hop d hop k)) ≡ false
lanes-apart Inbound channel hop k is u e = absurd (both_ways false refl e)
lanes-apart Outbound channel hop k is u e = absurd (both_ways false refl u)
lanes-apart Turn channel hop k is u e = ⊎_elim
    (λ (t : same_lane (data_lane channel (hop + 1)) (data_lane channel (k + 1)) ≡ true).
    let same = ap (λ (l : Lane). l.hop) (same_lane-equal (data_lane channel (hop + 1)) (data_lane channel (k + 1)) t) in
    let less = is.0 in
    absurd (omega (arith, same, less)))
    (λ (f : same_lane (data_lane channel (hop + 1)) (data_lane channel (k + 1)) ≡ false). f)
    (cases_Bool (same_lane (data_lane channel (hop + 1)) (data_lane channel (k + 1))))

starts-at : (hu hd su sd sf : Bool) → ((hu && su) || ((hd && sd) || (hu && sf))) ≡ true
    → cond (hu && su) (point 0 (not hu)) (cond (hd && sd) (point 0 (not hd)) (cond (hu && sf) (point 0 (not hu)) nowhere)) ≡ point 0 false
starts-at true hd true sd sf e = refl
starts-at true true false true sf e = refl
starts-at true true false false true e = refl
starts-at true true false false false e = absurd (both_ways false refl e)
starts-at true false false sd true e = refl
starts-at true false false sd false e = absurd (both_ways false refl e)
starts-at false true su true sf e = refl
starts-at false true su false sf e = absurd (both_ways false refl e)
starts-at false false su sd sf e = absurd (both_ways false refl e)

module _ {S : Type 0} (world : World) (meaning : S → Meaning) (stands_after : S → List Event → Type 0) (lawful : (s : S) → IsLawful (meaning s)) (channel hop k : ℕ) (stage : S) (at : IsHop (meaning stage).direction hop k)
    (events : List Event) (plan : IsPlanned world (meaning stage) events channel hop k) where
  pub new-holds : StandsAfter meaning stands_after (new_context (meaning stage).direction channel hop k stage) []
      → HoldsWith world meaning stands_after (meaning stage) events (new_context (meaning stage).direction channel hop k stage)
  new-holds stood = record {
    meant = refl;
    wired = assumption (plan, lanes-apart (meaning stage).direction channel hop k at);
    within = λ o. omega arith;
    stood = λ o. stood;
    staged = record { begun = λ m. (0, omega arith, stood.stands); whole = λ e. absurd (not-ended e) };
    up_open = λ o. refl;
    down_open = λ o. sym (and-true (has_down (meaning stage).direction)) ∙ ap (λ (b : Bool). has_down (meaning stage).direction && not b) (sym (lawful stage).starts_open);
    up_over = λ o. absurd (both_ways false refl o);
    down_over = λ o. absurd (both_ways false refl o);
    ended = λ e. absurd (not-ended e);
    up_given = λ e. absurd (not-ended e);
    down_given = λ f has closed. absurd (both_ways (has_down (meaning stage).direction) closed has);
    flags_open = λ o. o;
    flags = λ f o. refl;
    by_call = λ e. absurd (both_ways false refl e);
    few = record { taken = omega arith; flags_taken = omega arith; up = omega arith; down = omega arith; flags = omega arith };
  }
    where
      not-ended : standings.Open ≡ standings.Ended → ⊥
      not-ended e = cc

  pub new-starts : (l : Lane) → context_writes (meaning stage).direction (new_context (meaning stage).direction channel hop k stage) l ≡ true
      → context_came (meaning stage).direction (new_context (meaning stage).direction channel hop k stage) l ≡ point 0 false
  new-starts l e =
      let d = (meaning stage).direction in
      starts-at (has_up d) (has_down d) (same_lane l (data_lane channel (hop + 1))) (same_lane l (data_lane channel (down_hop d hop k))) (same_lane l (record { channel = channel; kind = Flags; hop = hop + 1 })) e
