-- Sums over the notes of all seats, and what a change of one seat does to them.
use Rattle.std.proofs.Common.{◌≡◌, ℕ, zero, suc, ◌+◌, ◌*◌, ◌≤◌, List, [], ◌∷◌, ◌++◌, set, refl, sym, ap, arith}
use mathlib.Core.Option.{some, some-injective, some-ne-none}
use lib.ListN.{get_elem?}
use Rattle.pl_words.specs.declared.admission_steps.AdmissionNotes.{AdmissionNotes}
use Rattle.pl_words.specs.AdmissionRule.{total, seats_of}

-- the notes of one seat change, and with them one term
pub total_set : (f : AdmissionNotes → ℕ) (notes : List AdmissionNotes) (by : ℕ) (v w : AdmissionNotes) → get_elem? notes by ≡ some v → total f (set notes by w) + f v ≡ total f notes + f w
total_set f [] by v w at = absurd (some-ne-none v (sym at))
total_set f (x ∷ xs) zero v w at = let same : f x ≡ f v = ap f (some-injective x v at) in omega arith
total_set f (x ∷ xs) (suc by) v w at = let r = total_set f xs by v w at in omega arith

pub total_snoc : (f : AdmissionNotes → ℕ) (notes : List AdmissionNotes) (w : AdmissionNotes) → total f (notes ++ w ∷ []) ≡ total f notes + f w
total_snoc f [] w = omega arith
total_snoc f (x ∷ xs) w = let r = total_snoc f xs w in omega arith

-- one seat's notes change, and a seat is added, or another one's notes change too
pub total_set_snoc : (f : AdmissionNotes → ℕ) (notes : List AdmissionNotes) (by : ℕ) (v w new : AdmissionNotes) → get_elem? notes by ≡ some v → total f (set notes by w ++ new ∷ []) + f v ≡ total f notes + f w + f new
total_set_snoc f notes by v w new at =
    let changed = total_set f notes by v w at in
    let added = total_snoc f (set notes by w) new in
    omega arith

pub total_set_both : (f : AdmissionNotes → ℕ) (notes : List AdmissionNotes) (by other : ℕ) (v w u new : AdmissionNotes) → get_elem? notes by ≡ some v → get_elem? (set notes by w) other ≡ some u
    → total f (set (set notes by w) other new) + f v + f u ≡ total f notes + f w + f new
total_set_both f notes by other v w u new at there =
    let changed = total_set f notes by v w at in
    let last = total_set f (set notes by w) other u new there in
    omega arith

-- where no seat has more than the seats for which it stands allow, nor have all together
pub total_bound : (f : AdmissionNotes → ℕ) (notes : List AdmissionNotes) → ((by : ℕ) (v : AdmissionNotes) → get_elem? notes by ≡ some v → f v ≤ v.seats * 35184372088832) → total f notes ≤ total seats_of notes * 35184372088832
total_bound f [] h = omega arith
total_bound f (x ∷ xs) h =
    let here : f x ≤ x.seats * 35184372088832 = h 0 x refl in
    let there : total f xs ≤ total seats_of xs * 35184372088832 = total_bound f xs (λ by v at. h (suc by) v at) in
    omega arith

-- no term is more than the sum
pub total_least : (f : AdmissionNotes → ℕ) (notes : List AdmissionNotes) (by : ℕ) (v : AdmissionNotes) → get_elem? notes by ≡ some v → f v ≤ total f notes
total_least f [] by v at = absurd (some-ne-none v (sym at))
total_least f (x ∷ xs) zero v at = let same : f x ≡ f v = ap f (some-injective x v at) in omega arith
total_least f (x ∷ xs) (suc by) v at = let r = total_least f xs by v at in omega arith

total_none : (f : AdmissionNotes → ℕ) (notes : List AdmissionNotes) → total seats_of notes ≡ 0 → ((at : ℕ) (u : AdmissionNotes) → get_elem? notes at ≡ some u → u.seats ≡ 0 → f u ≡ 0) → total f notes ≡ 0
total_none f [] all none = refl
total_none f (x ∷ xs) all none =
    let here : f x ≡ 0 = none 0 x refl (omega arith) in
    let there : total f xs ≡ 0 = total_none f xs (omega arith) (λ at u e z. none (suc at) u e z) in
    omega arith

-- where one seat stands for all, and f is 0 of each that stands for none, it has the whole sum
pub total_whole : (f : AdmissionNotes → ℕ) (notes : List AdmissionNotes) (by : ℕ) (v : AdmissionNotes) → get_elem? notes by ≡ some v → total seats_of notes ≡ v.seats
    → ((at : ℕ) (u : AdmissionNotes) → get_elem? notes at ≡ some u → u.seats ≡ 0 → f u ≡ 0) → total f notes ≡ f v
total_whole f [] by v at all none = absurd (some-ne-none v (sym at))
total_whole f (x ∷ xs) zero v at all none =
    let same : f x ≡ f v = ap f (some-injective x v at) in
    let seats : x.seats ≡ v.seats = ap seats_of (some-injective x v at) in
    let there : total f xs ≡ 0 = total_none f xs (omega arith) (λ j u e z. none (suc j) u e z) in
    omega arith
total_whole f (x ∷ xs) (suc by) v at all none =
    let least : v.seats ≤ total seats_of xs = total_least seats_of xs by v at in
    let here : f x ≡ 0 = none 0 x refl (omega arith) in
    let there : total f xs ≡ f v = total_whole f xs by v at (omega arith) (λ j u e z. none (suc j) u e z) in
    omega arith

pub total_same : (f g : AdmissionNotes → ℕ) (notes : List AdmissionNotes) → ((at : ℕ) (u : AdmissionNotes) → get_elem? notes at ≡ some u → f u ≡ g u) → total f notes ≡ total g notes
total_same f g [] same = refl
total_same f g (x ∷ xs) same =
    let here : f x ≡ g x = same 0 x refl in
    let there : total f xs ≡ total g xs = total_same f g xs (λ at u e. same (suc at) u e) in
    omega arith
