-- One lane: what happens to what is queued, what waits and what is listed of it.
use Rattle.std.proofs.Common.{◌≡◌, Bool, true, false, List, [], ◌∷◌, ◌++◌, refl, sym, ap, subst, ◌∙◌, ⊎_elim, append-nil, append_assoc}
use Rattle.std.proofs.lemmas.Bool.{cases_Bool, both_ways}
use Rattle.pl_event.specs.declared.envelopes.Envelope.{Envelope}
use Rattle.pl_event.specs.Worlds.{World}
use Rattle.pl_flow.specs.Flows.{Point, after, IsNext, IsFlow, past}
use Rattle.pl_flow.specs.LaneRuns.{LaneRuns}
use Rattle.pl_flow.specs.Makes.{LaneGrows}
use Rattle.pl_flow.proofs.FlowLemmas.{past-append, IsFlow-append}
use Rattle.pl_flow.proofs.LaneRunLemmas.{lane-grows, lane-leaves}
use Rattle.pl_net.specs.Nets.{LaneStands}

module _ (world : World) where
  -- nodes put more on the list
  pub lane-puts : (writes cut stopped stopped' : Bool) (base from to : Point) (q w items added : List Envelope) → LaneStands world base q w cut stopped items from
      → LaneGrows world writes stopped stopped' from added to → LaneStands world base q w cut stopped' (items ++ added) to
  lane-puts writes cut stopped stopped' base from to q w items added s g =
      record { between = s.between; runs = lane-grows world writes stopped stopped' cut (past base (q ++ w)) from to items added s.runs g }

  -- where nothing is queued or waits, the front of the list is the next to be taken, and is taken
  pub lane-next : (stopped : Bool) (base made : Point) (x : Envelope) (items : List Envelope) → LaneStands world base [] [] false stopped (x ∷ items) made → IsNext world base x
  lane-next stopped base made x items s = (s.runs.flow refl).0

  pub lane-called : (cut stopped : Bool) (base made : Point) (x : Envelope) (items : List Envelope) → LaneStands world base [] [] cut stopped (x ∷ items) made → LaneStands world (after x) [] [] cut stopped items made
  lane-called cut stopped base made x items s = record { between = tt; runs = lane-leaves world stopped cut base made x items s.runs }

  -- the front of the queue is the next to be taken, and is taken
  pub lane-task : (cut stopped : Bool) (base made : Point) (x : Envelope) (q w items : List Envelope) → LaneStands world base (x ∷ q) w cut stopped items made → LaneStands world (after x) q w cut stopped items made
  lane-task cut stopped base made x q w items s = record { between = s.between.1; runs = s.runs }

  -- the first that waits is handed over
  pub lane-handed : (cut stopped : Bool) (base made : Point) (x : Envelope) (q w items : List Envelope) → LaneStands world base q (x ∷ w) cut stopped items made → LaneStands world base (q ++ x ∷ []) w cut stopped items made
  lane-handed cut stopped base made x q w items s =
      let same : q ++ x ∷ w ≡ (q ++ x ∷ []) ++ w = sym (append_assoc q (x ∷ []) w) in record {
        between = subst (λ zs. IsFlow world base zs) same s.between;
        runs = subst (λ zs. LaneRuns world (past base zs) cut stopped items made) same s.runs;
      }

  -- more waits, up to this point
  pub lane-added : (cut cut' stopped : Bool) (base to made : Point) (q w added items : List Envelope) → IsFlow world base (q ++ w) → LaneGrows world true cut cut' (past base (q ++ w)) added to
      → LaneRuns world to cut' stopped items made → LaneStands world base q (w ++ added) cut' stopped items made
  lane-added cut cut' stopped base to made q w added items flow g runs =
      let same : (q ++ w) ++ added ≡ q ++ (w ++ added) = append_assoc q w added in record {
        between = subst (λ zs. IsFlow world base zs) same (⊎_elim
            (λ (t : cut ≡ true). subst (λ zs. IsFlow world base zs) (sym (ap (λ zs. (q ++ w) ++ zs) (g.discards t).0 ∙ append-nil (q ++ w))) flow)
            (λ (f : cut ≡ false). IsFlow-append world base (q ++ w) added flow (g.flow f))
            (cases_Bool cut));
        runs =
            let comes : cut' ≡ false → past base (q ++ (w ++ added)) ≡ to = λ c. ap (past base) (sym same) ∙ past-append base (q ++ w) added ∙ g.up_to c in
            record {
              flow = λ c. subst (λ p. IsFlow world p items) (sym (comes c)) (runs.flow c);
              up_to = λ c e. ap (λ p. past p items) (comes c) ∙ runs.up_to c e;
            };
      }

  -- it was not cut off before, where it is not now
  pub goes-on : (cut cut' : Bool) (from to : Point) (added : List Envelope) → LaneGrows world true cut cut' from added to → cut' ≡ false → cut ≡ false
  goes-on cut cut' from to added g c = ⊎_elim (λ (t : cut ≡ true). absurd (both_ways cut' c (g.discards t).1)) (λ (f : cut ≡ false). f) (cases_Bool cut)
