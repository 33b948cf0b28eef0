-- How many envelopes were taken from a queue.
use Rattle.std.proofs.Common.{◌≡◌, ℕ, ◌+◌, ◌-◌, ◌<◌, ◌≤◌, ◌^◌, min, Bool, true, false, refl, ap, sym, ◌∙◌, ⊎_elim, arith}
use Rattle.std.proofs.lemmas.Bool.{cases_lt, false≢true}
use Rattle.std.proofs.Math.Nat.{min-eq_left, min-eq_right}
use Rattle.pl_words.specs.Admissions.{OwnerSeatView}
use Rattle.pl_threads.specs.Running.{IsCounting}

-- one more was taken
pub counts-take : (owner : OwnerSeatView) (shut : Bool) (ran ran' pops pops' : ℕ) → IsCounting owner shut ran pops → shut ≡ false → ran' ≡ min (ran + 1) (2 ^ 64 - 1) → pops' ≡ pops + 1 → IsCounting owner shut ran' pops'
counts-take owner shut ran ran' pops pops' c unshut more one = record {
  closed = c.closed;
  run = ⊎_elim
      (λ (gt : 2 ^ 64 - 1 < pops').
      let most : 2 ^ 64 - 1 ≤ pops = omega (arith, gt, one) in
      let past : 2 ^ 64 - 1 ≤ pops' = omega (arith, gt) in
      let a = c.run ∙ min-eq_right most in
      let goes : 2 ^ 64 - 1 ≤ ran + 1 = omega (arith, a) in
      more ∙ min-eq_right goes ∙ sym (min-eq_right past))
      (λ (le : pops' ≤ 2 ^ 64 - 1).
      let few : pops ≤ 2 ^ 64 - 1 = omega (arith, le, one) in
      let a = c.run ∙ min-eq_left few in
      let goes : ran + 1 ≤ 2 ^ 64 - 1 = omega (arith, a, le, one) in
      more ∙ min-eq_left goes ∙ ap (λ n. n + 1) a ∙ sym one ∙ sym (min-eq_left le))
      (cases_lt (2 ^ 64 - 1) pops');
  count = λ e. absurd (false≢true (sym unshut ∙ c.closed ∙ e));
}
