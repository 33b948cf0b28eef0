-- The writes in a lane, one event after another, and their outcomes at its end.
use Rattle.std.proofs.Common.{◌≡◌, ℕ, ◌+◌, ◌≤◌, leb, cond, List, [], ◌∷◌, ◌++◌, length, map, true, Option, Some, None, refl, sym, ap, ap₂, ◌∙◌, inl, inr, arith, append_assoc, length-append}
use Rattle.std.proofs.lemmas.List.{map-append}
use Rattle.std.proofs.lemmas.Bool.{cases_Bool, cond-true, cond-false}
use Rattle.std.proofs.lemmas.Bool.Decides.{nat_tests}
use Rattle.pl_event.specs.declared.events.Event.{Event}
use Rattle.pl_event.specs.declared.events.Event.TheVariants.{Active, Read, ReadComplete, Caught, User, Write, Flush}
use Rattle.pl_event.specs.declared.outcomes.Outcome.{Outcome}
use Rattle.pl_event.specs.declared.outcomes.Outcome.TheVariants.{Success, Closed, Unsupported}
use Rattle.pl_head.specs.Writes.{write_by, is_flush, flushed_writes, unflushed_writes, bytes_of, out, outcomes_from, outcomes, late_outcome}
use Rattle.pl_head.specs.WaitingMessages.{settled}
use Rattle.pl_head.proofs.Flushing.{flushed-keep, unflushed-push, flushed-flush, unflushed-flush}
use Rattle.pl_head.proofs.Buffering.{bytes_of-append}

-- ---- one write more is written

pub bytes_more : (before bytes new : List ℕ) (ws : List (Option (List ℕ))) (w : Option (List ℕ)) → bytes ≡ before ++ bytes_of ws → new ≡ bytes ++ bytes_of (w ∷ []) → new ≡ before ++ bytes_of (ws ++ w ∷ [])
bytes_more before bytes new ws w so_far step =
    step
    ∙ ap (λ (t : List ℕ). t ++ bytes_of (w ∷ [])) so_far
    ∙ append_assoc before (bytes_of ws) (bytes_of (w ∷ []))
    ∙ ap (λ (t : List ℕ). before ++ t) (sym (bytes_of-append ws (w ∷ [])))

-- ---- one event more

-- a flush writes nothing itself
flush-write : (e : Event) → is_flush e ≡ true → write_by e ≡ []
flush-write Flush on = refl
flush-write Active on = refl
flush-write (Read m) on = refl
flush-write ReadComplete on = refl
flush-write (Caught c) on = refl
flush-write (User n) on = refl
flush-write (Write m) on = cc

module _ (ys : List Event) (e : Event) where
  pub bytes_take : (bytes : List ℕ) (ws : List (Option (List ℕ))) → bytes ≡ out ys → ws ≡ unflushed_writes ys → cond (is_flush e) (bytes ++ bytes_of ws) bytes ≡ out (ys ++ e ∷ [])
  bytes_take bytes ws is waits = elim (cases_Bool (is_flush e)) [
    | inl on ↦
        cond-true (is_flush e) (bytes ++ bytes_of ws) bytes on
        ∙ ap₂ (λ (b : List ℕ) (w : List (Option (List ℕ))). b ++ bytes_of w) is waits
        ∙ sym (bytes_of-append (flushed_writes ys) (unflushed_writes ys))
        ∙ ap bytes_of (sym (flushed-flush ys e on (flush-write e on)))
    | inr off ↦ cond-false (is_flush e) (bytes ++ bytes_of ws) bytes off ∙ is ∙ ap bytes_of (sym (flushed-keep ys e off))
  ]

  pub outcomes_take : (os : List (Option Outcome)) (ws : List (Option (List ℕ))) → os ≡ map settled (flushed_writes ys) → ws ≡ unflushed_writes ys → cond (is_flush e) (os ++ map settled ws) os ≡ map settled (flushed_writes (ys ++ e ∷ []))
  outcomes_take os ws is waits = elim (cases_Bool (is_flush e)) [
    | inl on ↦
        cond-true (is_flush e) (os ++ map settled ws) os on
        ∙ ap₂ (λ (o : List (Option Outcome)) (w : List (Option (List ℕ))). o ++ map settled w) is waits
        ∙ sym (map-append settled (flushed_writes ys) (unflushed_writes ys))
        ∙ ap (map settled) (sym (flushed-flush ys e on (flush-write e on)))
    | inr off ↦ cond-false (is_flush e) (os ++ map settled ws) os off ∙ is ∙ ap (map settled) (sym (flushed-keep ys e off))
  ]

  pub unflushed_take : (ws : List (Option (List ℕ))) → ws ≡ unflushed_writes ys → cond (is_flush e) [] (ws ++ write_by e) ≡ unflushed_writes (ys ++ e ∷ [])
  unflushed_take ws waits = elim (cases_Bool (is_flush e)) [
    | inl on ↦ cond-true (is_flush e) [] (ws ++ write_by e) on ∙ sym (unflushed-flush ys e on)
    | inr off ↦
        cond-false (is_flush e) [] (ws ++ write_by e) off
        ∙ ap (λ (w : List (Option (List ℕ))). w ++ write_by e) waits
        ∙ sym (unflushed-push ys e off)
  ]

-- ---- the end

-- once all their bytes were accepted each of these writes is settled
outcomes-all : (start accepted : ℕ) (ws : List (Option (List ℕ))) → start + length (bytes_of ws) ≤ accepted → outcomes_from start accepted ws ≡ map settled ws
outcomes-all start accepted [] h = refl
outcomes-all start accepted (None ∷ ws) h =
    ap (λ (t : List (Option Outcome)). Some Unsupported ∷ t) (outcomes-all start accepted ws h)
outcomes-all start accepted (Some b ∷ ws) h =
    let size = length-append b (bytes_of ws) in
    let ends : start + length b ≤ accepted = omega (arith, size, h) in
    let test : leb (start + length b) accepted ≡ true = grind (arith, nat_tests) in
    rw test (ap (λ (t : List (Option Outcome)). Some Success ∷ t) (outcomes-all (start + length b) accepted ws (omega (arith, size, h))))

pub outcomes_end : (ys : List Event) → map settled (flushed_writes ys) ++ map (late_outcome Closed) (unflushed_writes ys) ≡ outcomes ys (length (out ys)) true
outcomes_end ys =
    ap (λ (os : List (Option Outcome)). os ++ map (late_outcome Closed) (unflushed_writes ys)) (sym (outcomes-all 0 (length (out ys)) (flushed_writes ys) (omega arith)))
