-- Slots of which the first have been gone over, and some were taken out.
use Rattle.std.proofs.Common.{◌≡◌, ℕ, ◌+◌, ◌<◌, ◌≤◌, Bool, true, false, not, List, [], ◌∷◌, ◌++◌, length, get_or, set, Option, None, refl, ap, sym, ◌∙◌, ⊎_elim, arith, length-append, below_more}
use Rattle.std.specs.Prelude.{nat_lt}
use Rattle.std.proofs.lemmas.Bool.{cases_Bool, ltb-true, ltb-false}
use Rattle.std.proofs.lemmas.List.{get_or-set_same, get_or-set_other, get_or_past, get_or_default}
use Rattle.std.proofs.Math.ListN.{get_or-append}
use Rattle.std.proofs.Math.Seq.{get_or-append_seam}
use Rattle.pl_part.specs.Shares.{only_if}

only-none : {A : Type 0} (b : Bool) → only_if {A = A} b None ≡ None
only-none true = refl
only-none false = refl

-- The slots that there were, which of them are wanted, those that were gone over, and how they are now.
module _ {A : Type 0} (wanted : ℕ → Bool) (old : List (Option A)) (h : ℕ) (now : List (Option A)) (behind : (k : ℕ) → h ≤ k → get_or now k None ≡ get_or old k None) where
  -- the next one is as it was
  next-is : (d : Option A) → h < length now → get_or now h d ≡ get_or old h None
  next-is d within = get_or_default now h d None within ∙ behind h (omega arith)

  pub taken-more : (taken : List (Option A)) → length taken ≡ h → ((k : ℕ) → k < h → get_or taken k None ≡ only_if (wanted k) (get_or old k None))
      → (d out : Option A) (more : List (Option A)) → h < length now → out ≡ only_if (wanted h) (get_or now h d) → more ≡ taken ++ out ∷ []
      → (length more ≡ h + 1) × ((k : ℕ) → k < h + 1 → get_or more k None ≡ only_if (wanted k) (get_or old k None))
  taken-more taken size before d out more within is added = (
    (let count = ap length added in let sum = length-append taken (out ∷ []) in omega (arith, count, sum, size)),
    λ k lt. ap (λ (l : List (Option A)). get_or l k None) added ∙ longer k lt,
  )
    where
      longer : (k : ℕ) → k < h + 1 → get_or (taken ++ out ∷ []) k None ≡ only_if (wanted k) (get_or old k None)
      longer = below_more _ h
          (λ k lt. get_or-append taken (out ∷ []) None k (omega (arith, lt, size)) ∙ before k lt)
          (ap (λ (n : ℕ). get_or (taken ++ out ∷ []) n None) (sym size) ∙ get_or-append_seam taken out [] None ∙ is ∙ ap (λ (s : Option A). only_if (wanted h) s) (next-is d within))

  pub left-more : ((k : ℕ) → k < h → get_or now k None ≡ only_if (not (wanted k)) (get_or old k None))
      → (d left : Option A) → h < length now → left ≡ only_if (not (wanted h)) (get_or now h d)
      → (k : ℕ) → k < h + 1 → get_or (set now h left) k None ≡ only_if (not (wanted k)) (get_or old k None)
  left-more before d left within is = below_more _ h
      (λ k lt. get_or-set_other now h k left None (λ e. omega (arith, e, lt)) ∙ before k lt)
      (get_or-set_same now h left None within ∙ is ∙ ap (λ (s : Option A). only_if (not (wanted h)) s) (next-is d within))

  pub behind-more : (left : Option A) (k : ℕ) → h + 1 ≤ k → get_or (set now h left) k None ≡ get_or old k None
  behind-more left k le = get_or-set_other now h k left None (λ e. omega (arith, e, le)) ∙ behind k (omega (arith, le))

-- all were gone over, and behind the last there are none
pub of-all : {A : Type 0} (wanted : ℕ → Bool) (old slots : List (Option A)) → length slots ≡ length old → ((k : ℕ) → k < length old → get_or slots k None ≡ only_if (wanted k) (get_or old k None))
    → (k : ℕ) → get_or slots k None ≡ only_if (wanted k) (get_or old k None)
of-all wanted old slots size each k = ⊎_elim
    (λ (t : nat_lt k (length old) ≡ true). each k (ltb-true k (length old) t))
    (λ (f : nat_lt k (length old) ≡ false).
    let past = ltb-false k (length old) f in
    get_or_past slots k None (omega (arith, past, size)) ∙ sym (ap (λ (s : Option _). only_if (wanted k) s) (get_or_past old k None past) ∙ only-none (wanted k)))
    (cases_Bool (nat_lt k (length old)))
