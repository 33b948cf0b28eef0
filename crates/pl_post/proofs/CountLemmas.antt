-- A taker counts its pops, and they are few.
use Rattle.std.proofs.Common.{◌≡◌, ◌≤◌, ◌<◌, ◌^◌, ◌+◌, ◌*◌, ℕ, true, false, cond, List, [], ◌∷◌, Some, length, refl, ap, sym, ◌∙◌, ⊎_elim, arith}
use Rattle.std.proofs.lemmas.Bool.{cond-true, cond-false, cases_Bool}
use Rattle.std.proofs.lemmas.List.{length-map}
use Rattle.std.proofs.lemmas.Option.{same_Some, none-some}
use Rattle.pl_event.specs.declared.envelopes.Envelope.{Envelope}
use Rattle.pl_event.specs.declared.envelopes.Lane.{Lane}
use Rattle.pl_event.specs.Hops.{same_lane}
use Rattle.pl_queue.specs.declared.views.TakeCount.{TakeCount}
use Rattle.pl_queue.specs.declared.views.TakerView.{TakerView}
use Rattle.pl_queue.specs.Rule.{Each}
use Rattle.pl_queue.specs.Views.{take_count, next_of, set_take_count, fresh_take_counts, fresh_takes, after_take}
use Rattle.pl_post.specs.Posts.{taken_on, IsTakeCounted}

fresh-none : (lanes : List Lane) → 0 ≡ taken_on (fresh_take_counts lanes)
fresh-none [] = refl
fresh-none (l ∷ ls) = omega (arith, fresh-none ls)

fresh-small : (lanes : List Lane) → Each (λ (c : TakeCount). c.next ≤ 2 ^ 32) (fresh_take_counts lanes)
fresh-small [] = tt
fresh-small (l ∷ ls) = (omega arith, fresh-small ls)

pub counted-fresh : (lanes : List Lane) → length lanes ≤ 8192 → IsTakeCounted (fresh_takes lanes)
counted-fresh lanes few = record {
  pops = fresh-none lanes;
  small = fresh-small lanes;
  few = omega (arith, few, length-map lanes (λ l. take_count l 0));
}

taken_on-set : (l : Lane) (n : ℕ) (cs : List TakeCount) → next_of l cs ≡ Some n → taken_on (set_take_count l (n + 1) cs) ≡ taken_on cs + 1
taken_on-set l n [] h = absurd (none-some n h)
taken_on-set l n (c ∷ cs) h = ⊎_elim
    (λ (t : same_lane l c.lane ≡ true).
    let is : c.next ≡ n = same_Some c.next n (sym (cond-true (same_lane l c.lane) _ _ t) ∙ h) in
    ap taken_on (cond-true (same_lane l c.lane) (take_count c.lane (n + 1) ∷ cs) (c ∷ set_take_count l (n + 1) cs) t) ∙ omega (arith, is))
    (λ (t : same_lane l c.lane ≡ false).
    let rest = taken_on-set l n cs (sym (cond-false (same_lane l c.lane) _ _ t) ∙ h) in
    ap taken_on (cond-false (same_lane l c.lane) (take_count c.lane (n + 1) ∷ cs) (c ∷ set_take_count l (n + 1) cs) t) ∙ omega (arith, rest))
    (cases_Bool (same_lane l c.lane))

small-set : (l : Lane) (n : ℕ) (cs : List TakeCount) → n < 2 ^ 32 → Each (λ (c : TakeCount). c.next ≤ 2 ^ 32) cs → Each (λ (c : TakeCount). c.next ≤ 2 ^ 32) (set_take_count l (n + 1) cs)
small-set l n [] h p = tt
small-set l n (c ∷ cs) h p =
    elim (same_lane l c.lane) as (λ b. Each (λ (c : TakeCount). c.next ≤ 2 ^ 32) (cond b (take_count c.lane (n + 1) ∷ cs) (c ∷ set_take_count l (n + 1) cs))) [
      | true ↦ (omega (arith, h), p.1)
      | false ↦ (p.0, small-set l n cs h p.1)
    ]

length-set : (l : Lane) (n : ℕ) (cs : List TakeCount) → length (set_take_count l n cs) ≡ length cs
length-set l n [] = refl
length-set l n (c ∷ cs) =
    elim (same_lane l c.lane) as (λ b. length (cond b (take_count c.lane n ∷ cs) (c ∷ set_take_count l n cs)) ≡ length (c ∷ cs)) [
      | true ↦ refl
      | false ↦ omega (arith, length-set l n cs)
    ]

pub counted-take : (t : TakerView) (x : Envelope) → IsTakeCounted t → next_of x.lane t.counts ≡ Some x.number → x.number < 2 ^ 32 → IsTakeCounted (after_take t x)
counted-take t x h is small = record {
  pops = omega (arith, h.pops, taken_on-set x.lane x.number t.counts is);
  small = small-set x.lane x.number t.counts small h.small;
  few = omega (arith, h.few, length-set x.lane (x.number + 1) t.counts);
}

taken_on-few : (cs : List TakeCount) → Each (λ (c : TakeCount). c.next ≤ 2 ^ 32) cs → taken_on cs ≤ 2 ^ 32 * length cs
taken_on-few [] p = omega arith
taken_on-few (c ∷ cs) p = omega (arith, p.0, taken_on-few cs p.1)

pub pops-few : (t : TakerView) → IsTakeCounted t → t.pops ≤ 2 ^ 45
pops-few t h = omega (arith, h.pops, taken_on-few t.counts h.small, h.few)
