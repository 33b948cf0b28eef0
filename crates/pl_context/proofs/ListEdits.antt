-- An element taken out of a list and put back, and one that is lent.
use Rattle.std.proofs.Common.{◌≡◌, ℕ, ◌<◌, List, [], ◌∷◌, length, zero, suc, sym, ap, ◌∙◌, refl, get_or, arith}
use Rattle.std.specs.Prelude.{insert, remove, slice_get, Option, Some, None, IfSome, OnSome, IsSome}
use Rattle.std.specs.Borrow.{Bor}
use Rattle.std.specs.Option.{option_copied}
use Rattle.std.specs.Slice.{IsItemAt}
use Rattle.std.proofs.lemmas.Option.{slice_get_read, slice_get_past}

pub insert-remove : {X : Type 0} (xs : List X) (i : ℕ) (d : X) → i < length xs → insert (remove xs i) i (get_or xs i d) ≡ xs
insert-remove [] i d h = absurd (omega (arith, h))
insert-remove (x ∷ xs) zero d h = refl
insert-remove {X} (x ∷ xs) (suc i) d h = ap (λ (t : List X). x ∷ t) (insert-remove xs i d (omega (arith, h)))

pub gap-after : {X : Type 0} (xs ys : List X) (i : ℕ) (r : Option X) → IfSome r (λ y. y ≡ get_or xs i y) → OnSome r (ys ≡ remove xs i) → (IsSome r → i < length xs) → IfSome r (λ e. xs ≡ insert ys i e)
gap-after xs ys i None is cut within = tt
gap-after {X} xs ys i (Some y) is cut within =
    sym (insert-remove xs i y (within refl)) ∙ ap (λ (z : X). insert (remove xs i) i z) (sym is) ∙ ap (λ (zs : List X). insert zs i y) (sym cut)

pub at-taken : {X : Type 0} (xs : List X) (i : ℕ) (r : Option X) → IfSome r (λ y. y ≡ get_or xs i y) → (IsSome r → i < length xs) → IfSome r (λ e. slice_get xs i ≡ Some e)
at-taken xs i None is within = tt
at-taken xs i (Some y) is within = slice_get_read xs (length xs) i y refl (within refl) is

pub copied-item : {X : Type 0} (xs : List X) (i : ℕ) (r : Option (Bor X)) → IsItemAt xs i r → option_copied r ≡ slice_get xs i
copied-item xs i None item = sym (slice_get_past xs i item.3)
copied-item xs i (Some x) item = sym (slice_get_read xs (length xs) i x.now refl item.3.0 item.1)
