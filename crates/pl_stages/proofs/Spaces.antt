-- A text by the position of its first space.
use Rattle.std.proofs.Common.{◌≡◌, ℕ, ◌+◌, ◌<◌, ◌≤◌, List, ◌∷◌, ◌++◌, length, get_or, take, drop, Some, None, Bool, true, false, cond, ltb, refl, sym, ap, ◌∙◌, ⊎_elim, arith}
use Rattle.std.proofs.lemmas.Bool.{false_from_ne_true, both_ways, cases_lt, eqb-true, ltb-true, ltb-false}
use Rattle.std.proofs.lemmas.List.{take_all}
use Rattle.std.proofs.lemmas.List.Elements.{All-from_get_or}
use Rattle.std.proofs.lemmas.List.Folds.{list_any_none, list_any_at}
use Rattle.std.proofs.lemmas.List.Sums.{position_or_len_is, split_at_first, fails_before_first, passes_at_first}
use Rattle.std.specs.List.{list_any, position, position_or_len, after_first}
use Rattle.pl_stages.specs.Commands.{is_space, before_space, after_space}

known_place : (text : List ℕ) (at : ℕ) (inside : Bool) → ltb (position_or_len is_space text) (length text) ≡ inside
    → cond inside (Some (position_or_len is_space text)) None ≡ Some at
    → (position_or_len is_space text ≡ at) × (position_or_len is_space text < length text)
known_place text at true e found = (cc, ltb-true _ _ e)
known_place text at false e found = cc

no_place : (text : List ℕ) (inside : Bool) → ltb (position_or_len is_space text) (length text) ≡ inside
    → cond inside (Some (position_or_len is_space text)) None ≡ None → length text ≤ position_or_len is_space text
no_place text true e none = cc
no_place text false e none = ltb-false _ _ e

-- what is known of the first space where there is one, and where there is none
position_at : (text : List ℕ) (at : ℕ) → position is_space text ≡ Some at
    → (position_or_len is_space text ≡ at) × (position_or_len is_space text < length text)
position_at text at found = known_place text at (ltb (position_or_len is_space text) (length text)) refl found

position_none : (text : List ℕ) → position is_space text ≡ None → length text ≤ position_or_len is_space text
position_none text none = no_place text (ltb (position_or_len is_space text) (length text)) refl none

-- with no space, all is before it
pub before_space-none : (text : List ℕ) → position is_space text ≡ None → before_space text ≡ text
before_space-none text none = take_all (position_or_len is_space text) text (position_none text none)

pub after_space-none : (text : List ℕ) → position is_space text ≡ None → after_space text ≡ None
after_space-none text none =
    let past = position_none text none in
    rw (list_any_none is_space text (All-from_get_or (λ b. is_space b ≡ false) text 0 (λ k h. fails_before_first is_space text k 0 (omega (arith, past)))))

-- where the first space is
pub before_space-at : (text : List ℕ) (at : ℕ) → position is_space text ≡ Some at → before_space text ≡ take at text
before_space-at text at found = ap (λ (k : ℕ). take k text) (position_at text at found).0

pub after_space-at : (text : List ℕ) (at : ℕ) → position is_space text ≡ Some at → after_space text ≡ Some (drop (at + 1) text)
after_space-at text at found =
    let place = position_at text at found in
    rw (list_any_at is_space text (position_or_len is_space text) 0 place.1 (passes_at_first is_space text 0 place.1), place.0)

-- a text with nothing after a space is all before it
pub before_space_whole : (text : List ℕ) → list_any is_space text ≡ false → before_space text ≡ text
before_space_whole text none =
    let fails : (k : ℕ) → k < length text → is_space (get_or text k 0) ≡ false =
    λ k h. false_from_ne_true _ (λ e. both_ways (list_any is_space text) none (list_any_at is_space text k 0 h e)) in
    let at = position_or_len_is is_space text (length text) 0 (omega arith) fails (λ h. absurd (omega arith)) in
    rw (at, take_all (length text) text (omega arith))

split_at_space : (text : List ℕ) → list_any is_space text ≡ true → text ≡ before_space text ++ 32 ∷ after_first is_space text
split_at_space text some =
    let inside : position_or_len is_space text < length text =
    ⊎_elim (λ h. h)
    (λ past. absurd (both_ways (list_any is_space text)
    (list_any_none is_space text (All-from_get_or (λ b. is_space b ≡ false) text 0 (λ k h. fails_before_first is_space text k 0 (omega arith)))) some))
    (cases_lt (position_or_len is_space text) (length text)) in
    split_at_first is_space text 0 inside
    ∙ ap (λ (b : ℕ). before_space text ++ b ∷ after_first is_space text) (eqb-true _ 32 (passes_at_first is_space text 0 inside))

after_none : (b : Bool) (text : List ℕ) → cond b (Some text) None ≡ None → b ≡ false
after_none true text e = cc
after_none false text e = refl

pub after_some : (b : Bool) (text other : List ℕ) → cond b (Some text) None ≡ Some other → (b ≡ true) × (text ≡ other)
after_some true text other e = (refl, cc)
after_some false text other e = cc

pub whole_of : (text : List ℕ) → after_space text ≡ None → text ≡ before_space text
whole_of text e = sym (before_space_whole text (after_none (list_any is_space text) (after_first is_space text) e))

-- a text is what is before its first space, the space and what is after it
pub split_of : (text after : List ℕ) → after_space text ≡ Some after → text ≡ before_space text ++ 32 ∷ after
split_of text after e =
    let found = after_some (list_any is_space text) (after_first is_space text) after e in
    split_at_space text found.0 ∙ ap (λ (t : List ℕ). before_space text ++ 32 ∷ t) found.1
