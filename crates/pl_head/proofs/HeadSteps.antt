-- What a write to the transport leaves.
use Rattle.std.proofs.Common.{◌≡◌, ℕ, zero, suc, ◌<◌, List, [], ◌++◌, length, true, false, nat_eq, nat_lt, nat_le, ap, ◌∙◌, refl, arith, append-nil, length-append}
use Rattle.std.proofs.lemmas.Bool.Decides.{nat_tests}

-- nothing is left, so no byte waits
pub none_waits : (accepted left whole : List ℕ) → left ≡ [] → accepted ++ left ≡ whole → (false ≡ nat_lt (length accepted) (length whole)) × (true ≡ nat_le (length whole) (length accepted))
none_waits accepted left whole none e =
    let size : length whole ≡ length accepted = omega (arith, ap (λ (t : List ℕ). length t) e, ap (λ (t : List ℕ). length t) none, length-append accepted left) in
    (rw size (tests (length accepted)).0, rw size (tests (length accepted)).1)
  where
    tests : (n : ℕ) → (false ≡ nat_lt n n) × (true ≡ nat_le n n)
    tests n = (grind (arith, nat_tests), grind (arith, nat_tests))

-- a byte is left, so it waits
pub some_waits : (bytes rest left accepted whole : List ℕ) → bytes ++ rest ≡ left → 0 < length bytes → accepted ++ left ≡ whole
    → (true ≡ nat_lt (length accepted) (length whole)) × (false ≡ nat_le (length whole) (length accepted))
some_waits bytes rest left accepted whole split some e =
    let more : length accepted < length whole = omega (arith, some, ap (λ (t : List ℕ). length t) split, ap (λ (t : List ℕ). length t) e, length-append bytes rest, length-append accepted left) in
    tests (length accepted) (length whole) more
  where
    tests : (m n : ℕ) → m < n → (true ≡ nat_lt m n) × (false ≡ nat_le n m)
    tests m n h = (grind (arith, nat_tests), grind (arith, nat_tests))

-- no flushed message waits, or one does, and a byte of it is left
pub flushed_waits : (count : ℕ) (accepted left whole : List ℕ) → (count ≡ 0 → left ≡ []) → (0 < count → 0 < length left) → accepted ++ left ≡ whole → nat_eq count 0 ≡ nat_le (length whole) (length accepted)
flushed_waits zero accepted left whole none some e = (none_waits accepted left whole (none refl) e).1
flushed_waits (suc n) accepted left whole none some e =
    let test : nat_eq (suc n) 0 ≡ false = grind (arith, nat_tests) in
    test ∙ (some_waits left [] left accepted whole (append-nil left) (some (omega arith)) e).1
