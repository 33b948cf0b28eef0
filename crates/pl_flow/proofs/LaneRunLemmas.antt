-- What stands on a list of one lane: more is added, its front leaves, and it stands behind another point.
use Rattle.std.proofs.Common.{◌≡◌, Bool, true, false, List, ◌∷◌, ◌++◌, sym, ap, subst, ◌∙◌, ⊎_elim, append-nil}
use Rattle.std.proofs.lemmas.Bool.{cases_Bool, both_ways}
use Rattle.pl_event.specs.declared.envelopes.Envelope.{Envelope}
use Rattle.pl_event.specs.Worlds.{World}
use Rattle.pl_flow.specs.Flows.{Point, after, IsFlow, past}
use Rattle.pl_flow.specs.LaneRuns.{LaneRuns}
use Rattle.pl_flow.specs.Makes.{LaneGrows}
use Rattle.pl_flow.proofs.FlowLemmas.{past-append, IsFlow-append}

-- what nodes add of it
pub lane-grows : (world : World) (writes stopped stopped' cut : Bool) (base from to : Point) (items added : List Envelope) → LaneRuns world base cut stopped items from
    → LaneGrows world writes stopped stopped' from added to → LaneRuns world base cut stopped' (items ++ added) to
lane-grows world writes stopped stopped' cut base from to items added r g = record {
  flow = λ c. ⊎_elim
      (λ (t : stopped ≡ true). subst (λ zs. IsFlow world base zs) (sym (ap (λ zs. items ++ zs) (g.discards t).0 ∙ append-nil items)) (r.flow c))
      (λ (f : stopped ≡ false). IsFlow-append world base items added (r.flow c) (subst (λ p. IsFlow world p added) (sym (r.up_to c f)) (g.flow f)))
      (cases_Bool stopped);
  up_to = λ c e. ⊎_elim
      (λ (t : stopped ≡ true). absurd (both_ways stopped' e (g.discards t).1))
      (λ (f : stopped ≡ false). past-append base items added ∙ ap (λ p. past p added) (r.up_to c f) ∙ g.up_to e)
      (cases_Bool stopped);
}

-- its front leaves
pub lane-leaves : (world : World) (stopped cut : Bool) (base made : Point) (x : Envelope) (items : List Envelope) → LaneRuns world base cut stopped (x ∷ items) made → LaneRuns world (after x) cut stopped items made
lane-leaves world stopped cut base made x items r = record { flow = λ c. (r.flow c).1; up_to = λ c e. r.up_to c e }

-- it stands behind another point, where it is not cut off
pub lane-behind : (world : World) (stopped cut cut' : Bool) (base base' made : Point) (items : List Envelope) → LaneRuns world base cut stopped items made → (cut' ≡ false → (cut ≡ false) × (base' ≡ base)) → LaneRuns world base' cut' stopped items made
lane-behind world stopped cut cut' base base' made items r moves = record {
  flow = λ c. subst (λ p. IsFlow world p items) (sym (moves c).1) (r.flow (moves c).0);
  up_to = λ c e. ap (λ p. past p items) (moves c).1 ∙ r.up_to (moves c).0 e;
}
