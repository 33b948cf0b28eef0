-- Each step of a row of promises keeps the rule.
use Rattle.std.proofs.Common.{◌≡◌, ◌≢◌, ℕ, zero, suc, ◌+◌, ◌-◌, ◌<◌, ◌≤◌, ◌==◌, eqb, List, [], ◌∷◌, ◌++◌, map, get_or, set, length, Option, Some, None, sym, refl, ap, ◌∙◌, subst, ⊎_elim, arith, replicate, length-set, get_or-set_same, get_or-set_other}
use mathlib.Core.Option.{none, some, some-injective, some-ne-none}
use mathlib.Core.Logic.{dite}
use native.Mathlib.Decide.{ℕ_discrete}
use lib.ListN.{get_elem?}
use lib.Seq.{map-set}
use Rattle.std.proofs.lemmas.List.{length-replicate, set-get_or}
use Rattle.std.proofs.lemmas.Option.{none-some}
use prog.Atomic.{either}
use Rattle.atomic_table.specs.Table.{State, step, keeps, opening, Allows, Splits}
use Rattle.atomic_table.proofs.Lists.{at_set, at_snoc, set_else, at_longer}
use Rattle.pl_event.specs.declared.outcomes.Outcome.{Outcome}
use Rattle.pl_event.specs.declared.outcomes.Outcome.TheVariants.{Success, Closed, Fault, Unsupported}
use Rattle.pl_words.specs.declared.promise_steps.PromiseNotes.{PromiseNotes}
use Rattle.pl_words.specs.declared.promise_steps.RowSize.{RowSize}
use Rattle.pl_words.specs.PromiseRule.{code, code_of, outcome_in, at, Stands, all_rights, IsSeat, SomeSettled, IsRow, Rule, Sits, row_notes, first_notes, without_rights, with_rights, saw, attempted, Looked, Settled}

-- Words and outcomes

pub outcome_of_code : (o : Outcome) → outcome_in (code o) ≡ Some o
outcome_of_code Success = refl
outcome_of_code Closed = refl
outcome_of_code Fault = refl
outcome_of_code Unsupported = refl

outcome_in-word : (q : Option Outcome) → outcome_in (code_of q) ≡ q
outcome_in-word None = refl
outcome_in-word (Some o) = outcome_of_code o

pub word_at : (outcomes : List (Option Outcome)) (i : ℕ) → get_or (map code_of outcomes) i 0 ≡ code_of (at outcomes i)
word_at [] i = refl
word_at (x ∷ xs) zero = refl
word_at (x ∷ xs) (suc i) = word_at xs i

-- Lists of outcomes

-- where the lists are as long, what stands still does once place i of both is set alike
stands-both : (seen outcomes : List (Option Outcome)) (i : ℕ) (q : Option Outcome) → i < length seen → Stands seen outcomes → Stands (set seen i q) (set outcomes i q)
stands-both seen outcomes i q inside h = (
  length-set seen i q ∙ (h.0 ∙ sym (length-set outcomes i q)),
  λ k o e. dite (ℕ_discrete k i)
      (λ same. ap (at (set outcomes i q)) same ∙ (get_or-set_same outcomes i q None (let long = h.0 in omega arith) ∙ (sym (get_or-set_same seen i q None inside) ∙ (ap (at (set seen i q)) (sym same) ∙ e))))
      (λ away. get_or-set_other outcomes i k q None away ∙ h.1 k o (sym (get_or-set_other seen i k q None away) ∙ e)),
)

-- what is seen once more stands
stands-seen : (seen outcomes : List (Option Outcome)) (i : ℕ) → i < length seen → Stands seen outcomes → Stands (set seen i (at outcomes i)) outcomes
stands-seen seen outcomes i inside h = subst (λ (z : List (Option Outcome)). Stands (set seen i (at outcomes i)) z) (set-get_or outcomes i None) (stands-both seen outcomes i (at outcomes i) inside h)

-- what was settled is still seen where place i is seen once more
settled-seen : (settled seen outcomes : List (Option Outcome)) (i : ℕ) → i < length seen → Stands settled seen → Stands seen outcomes → Stands settled (set seen i (at outcomes i))
settled-seen settled seen outcomes i inside h g = (
  h.0 ∙ sym (length-set seen i (at outcomes i)),
  λ k o e. dite (ℕ_discrete k i)
      (λ same. ap (at (set seen i (at outcomes i))) same ∙ (get_or-set_same seen i (at outcomes i) None inside ∙ (ap (at outcomes) (sym same) ∙ g.1 k o (h.1 k o e))))
      (λ away. get_or-set_other seen i k (at outcomes i) None away ∙ h.1 k o e),
)

none_at : (limit k : ℕ) → at (replicate limit None) k ≡ None
none_at zero k = refl
none_at (suc n) zero = refl
none_at (suc n) (suc k) = none_at n k

-- Rights

rights_set : (notes : List PromiseNotes) (by : ℕ) (v w : PromiseNotes) → get_elem? notes by ≡ some v → all_rights (set notes by w) + v.rights ≡ all_rights notes + w.rights
rights_set [] by v w at = absurd (some-ne-none v (sym at))
rights_set (x ∷ xs) zero v w at = let same : x.rights ≡ v.rights = ap (λ u. u.rights) (some-injective x v at) in omega arith
rights_set (x ∷ xs) (suc by) v w at = let r = rights_set xs by v w at in omega arith

rights_snoc : (notes : List PromiseNotes) (w : PromiseNotes) → all_rights (notes ++ w ∷ []) ≡ all_rights notes + w.rights
rights_snoc [] w = omega arith
rights_snoc (x ∷ xs) w = let r = rights_snoc xs w in omega arith

rights_one : (notes : List PromiseNotes) (by : ℕ) (v : PromiseNotes) → get_elem? notes by ≡ some v → v.rights ≤ all_rights notes
rights_one [] by v at = absurd (some-ne-none v (sym at))
rights_one (x ∷ xs) zero v at = let same : x.rights ≡ v.rights = ap (λ u. u.rights) (some-injective x v at) in omega arith
rights_one (x ∷ xs) (suc by) v at = let r = rights_one xs by v at in omega arith

-- two seats have no more rights than all
rights_two : (notes : List PromiseNotes) (i j : ℕ) (v u : PromiseNotes) → j ≢ i → get_elem? notes i ≡ some v → get_elem? notes j ≡ some u → v.rights + u.rights ≤ all_rights notes
rights_two [] i j v u away a b = absurd (some-ne-none v (sym a))
rights_two (x ∷ xs) zero zero v u away a b = absurd (away refl)
rights_two (x ∷ xs) zero (suc j) v u away a b = let same : x.rights ≡ v.rights = ap (λ u. u.rights) (some-injective x v a) in let r = rights_one xs j u b in omega arith
rights_two (x ∷ xs) (suc i) zero v u away a b = let same : x.rights ≡ u.rights = ap (λ u. u.rights) (some-injective x u b) in let r = rights_one xs i v a in omega arith
rights_two (x ∷ xs) (suc i) (suc j) v u away a b = let r = rights_two xs i j v u (λ e. away (ap suc e)) a b in omega arith

-- Who settled

set_at : (notes : List PromiseNotes) (by : ℕ) (v w : PromiseNotes) → get_elem? notes by ≡ some v → get_elem? (set notes by w) by ≡ some w
set_at [] by v w at = absurd (some-ne-none v (sym at))
set_at (x ∷ xs) zero v w at = refl
set_at (x ∷ xs) (suc by) v w at = set_at xs by v w at

-- who settled a promise did so whatever a seat learns
still_settled : (notes : List PromiseNotes) (by : ℕ) (v w : PromiseNotes) (k : ℕ) (o : Outcome) → get_elem? notes by ≡ some v → (at v.settled k ≡ Some o → at w.settled k ≡ Some o) → SomeSettled notes k o → SomeSettled (set notes by w) k o
still_settled notes by v w k o here more s = dite (ℕ_discrete s.0 by)
    (λ same. (by, w, set_at notes by v w here, more (ap (λ (u : PromiseNotes). at u.settled k) (some-injective v s.1 (sym here ∙ (ap (get_elem? notes) (sym same) ∙ s.2))) ∙ s.3)))
    (λ away. (s.0, s.1, set_else notes by s.0 w away ∙ s.2, s.3))

-- Steps

-- the seat `by` makes a step, from the notes v to the notes w, and these outcomes stand then
moves : (size : RowSize) (words : List ℕ) (notes : List PromiseNotes) (r : IsRow size words notes) (by : ℕ) (v w : PromiseNotes) (i x : ℕ) (outcomes : List (Option Outcome))
    → get_elem? notes by ≡ some v
    → w.rights ≡ v.rights
    → IsSeat size.settlers outcomes w
    → length outcomes ≡ length r.outcomes
    → ((k : ℕ) (o : Outcome) → at r.outcomes k ≡ Some o → at outcomes k ≡ Some o)
    → set words i x ≡ map code_of outcomes
    → ((k : ℕ) (o : Outcome) → at outcomes k ≡ Some o → SomeSettled (set notes by w) k o)
    → IsRow size (set words i x) (set notes by w)
moves size words notes r by v w i x outcomes here same fits long grows is settled = record {
  outcomes = outcomes;
  row = long ∙ r.row;
  words_are = is;
  rights = let s = rights_set notes by v w here in let t = r.rights in omega arith;
  each = λ j u e. ⊎_elim (λ t. subst (λ (z : PromiseNotes). IsSeat size.settlers outcomes z) t.1 fits)
      (λ t. let h = r.each j u t.1 in record { settlers_are = h.settlers_are; seen = (h.seen.0 ∙ sym long, λ k o q. grows k o (h.seen.1 k o q)); settled = h.settled; rightless = h.rightless }) (at_set notes by j w u e);
  by_seats = settled;
}

-- a seat has seen something of each promise
seen_inside : {size : RowSize} {words : List ℕ} {notes : List PromiseNotes} (r : IsRow size words notes) (by i : ℕ) (v : PromiseNotes) → get_elem? notes by ≡ some v → i < size.limit → i < length v.seen
seen_inside r by i v here within =
    let long = (r.each by v here).seen.0 in
    let row = r.row in
    omega arith

-- a seat sees what stands of promise i
sees : (size : RowSize) (words : List ℕ) (notes : List PromiseNotes) (r : IsRow size words notes) (by : ℕ) (v : PromiseNotes) (i x : ℕ) → get_elem? notes by ≡ some v
    → i < size.limit → x ≡ get_or words i 0 → IsRow size (set words i x) (set notes by (saw v i (at r.outcomes i)))
sees size words notes r by v i x here within same =
    let f = r.each by v here in
    let inside = seen_inside r by i v here within in
    let w : PromiseNotes = saw v i (at r.outcomes i) in
    let fits : IsSeat size.settlers r.outcomes w = record {
      settlers_are = f.settlers_are;
      seen = stands-seen v.seen r.outcomes i inside f.seen;
      settled = settled-seen v.settled v.seen r.outcomes i inside f.settled f.seen;
      rightless = f.rightless;
    } in
    moves size words notes r by v w i x r.outcomes here refl fits refl (λ k o e. e) (ap (set words i) same ∙ (set-get_or words i 0 ∙ r.words_are))
    (λ k o e. still_settled notes by v w k o here (λ h. h) (r.by_seats k o e))

-- the outcome that the word of promise i has is the one that stands
finds : {size : RowSize} {words : List ℕ} {notes : List PromiseNotes} (r : IsRow size words notes) (i : ℕ) → outcome_in (get_or words i 0) ≡ at r.outcomes i
finds r i = ap outcome_in (ap (λ (l : List ℕ). get_or l i 0) r.words_are ∙ word_at r.outcomes i) ∙ outcome_in-word (at r.outcomes i)

-- a reader looks
pub peeks : (size : RowSize) (slots id i : ℕ) (me : Sits) → i < size.limit → Allows (Rule size) slots id me i (λ n. n) (Looked (step slots i 0 0 none) me)
peeks size slots id i me within s r _ here _ =
    let v : PromiseNotes = me.0 in
    let n : ℕ = get_or s.words i 0 in
    let stands : outcome_in n ≡ at r.outcomes i = finds r i in
    let f = r.each id v here in
    let inside = seen_inside r id i v here within in (
      saw v i (outcome_in n),
      keeps,
      tt,
      subst (λ (o : Option Outcome). IsRow size (set s.words i n) (set s.views id (saw v i o))) (sym stands) (sees size s.words s.views r id v i n here within refl),
      (refl, get_or-set_same v.seen i (outcome_in n) None inside, λ o e. stands ∙ f.seen.1 i o e),
    )

-- an attempt to settle, by what stands
settles_at : (size : RowSize) (id i : ℕ) (o : Outcome) (v : PromiseNotes) (s : State (Unit {0}) PromiseNotes) (r : Rule size s) → get_elem? s.views id ≡ some v → i < size.limit → 0 < v.rights
    → (q : Option Outcome) → at r.outcomes i ≡ q
    → IsRow size (set s.words i (either (eqb (get_or s.words i 0) 0) (code o) (get_or s.words i 0))) (set s.views id (attempted v i (Some o) q))
settles_at size id i o v s r here within right None is =
    let n : ℕ = get_or s.words i 0 in
    let word : n ≡ 0 = ap (λ (l : List ℕ). get_or l i 0) r.words_are ∙ (word_at r.outcomes i ∙ ap code_of is) in
    let f = r.each id v here in
    let row = r.row in
    let long = f.seen.0 in
    let long' = f.settled.0 in
    let seen : i < length v.seen = omega arith in
    let settled : i < length v.settled = omega arith in
    let inside : i < length r.outcomes = omega arith in
    let outcomes : List (Option Outcome) = set r.outcomes i (Some o) in
    let w : PromiseNotes = attempted v i (Some o) None in
    let fits : IsSeat size.settlers outcomes w = record {
      settlers_are = f.settlers_are;
      seen = stands-both v.seen r.outcomes i (Some o) seen f.seen;
      settled = stands-both v.settled v.seen i (Some o) settled f.settled;
      rightless = λ z. absurd (omega arith);
    } in
    let grows : (k : ℕ) (p : Outcome) → at r.outcomes k ≡ Some p → at outcomes k ≡ Some p =
    λ k p e. dite (ℕ_discrete k i) (λ same. absurd (none-some p (sym is ∙ (ap (at r.outcomes) (sym same) ∙ e)))) (λ away. get_or-set_other r.outcomes i k (Some o) None away ∙ e) in
    let by_seats : (k : ℕ) (p : Outcome) → at outcomes k ≡ Some p → SomeSettled (set s.views id w) k p =
    λ k p e. dite (ℕ_discrete k i)
    (λ same. (id, w, set_at s.views id v w here, ap (at w.settled) same ∙ (get_or-set_same v.settled i (Some o) None settled ∙ (sym (get_or-set_same r.outcomes i (Some o) None inside) ∙ (ap (at outcomes) (sym same) ∙ e)))))
    (λ away. still_settled s.views id v w k p here (λ h. get_or-set_other v.settled i k (Some o) None away ∙ h) (r.by_seats k p (sym (get_or-set_other r.outcomes i k (Some o) None away) ∙ e))) in
    let becomes : ℕ → ℕ = λ z. either (eqb z 0) (code o) z in
    let words_are : set s.words i (becomes n) ≡ map code_of outcomes = ap (λ (z : ℕ). set s.words i (becomes z)) word ∙ (ap (λ (l : List ℕ). set l i (code o)) r.words_are ∙ sym (map-set code_of r.outcomes i (Some o))) in
    moves size s.words s.views r id v w i (becomes n) outcomes here refl fits (length-set r.outcomes i (Some o)) grows words_are by_seats
settles_at size id i o v s r here within right (Some p) is =
    let n : ℕ = get_or s.words i 0 in
    let word : n ≡ code p = ap (λ (l : List ℕ). get_or l i 0) r.words_are ∙ (word_at r.outcomes i ∙ ap code_of is) in
    let becomes : ℕ → ℕ = λ z. either (eqb z 0) (code o) z in
    let kept : becomes n ≡ n = ap becomes word ∙ (stays p ∙ sym word) in
    subst (λ (z : Option Outcome). IsRow size (set s.words i (becomes n)) (set s.views id (saw v i z))) is (sees size s.words s.views r id v i (becomes n) here within kept)
  where
    stays : (p : Outcome) → either (eqb (code p) 0) (code o) (code p) ≡ code p
    stays Success = refl
    stays Closed = refl
    stays Fault = refl
    stays Unsupported = refl

-- the only settler finds what it settled itself
finds_own : (size : RowSize) (id i : ℕ) (v : PromiseNotes) (s : State (Unit {0}) PromiseNotes) (r : Rule size s) → get_elem? s.views id ≡ some v → (o : Outcome) → at r.outcomes i ≡ Some o → v.settlers ≡ v.rights → at v.settled i ≡ Some o
finds_own size id i v s r here o stands sole =
    let by = r.by_seats i o stands in
    let f = r.each id v here in
    dite (ℕ_discrete by.0 id)
    (λ same. ap (λ (u : PromiseNotes). at u.settled i) (some-injective v by.1 (sym here ∙ (ap (get_elem? s.views) (sym same) ∙ by.2))) ∙ by.3)
    (λ away.
    let both = rights_two s.views id by.0 v by.1 away here by.2 in
    let all = r.rights in
    let mine = f.settlers_are in
    let none_left : by.1.rights ≡ 0 = omega arith in
    absurd (none-some o (sym ((r.each by.0 by.1 by.2).rightless none_left i) ∙ by.3)))

-- what was found unset was not seen
unseen_at : (q found : Option Outcome) → ((o : Outcome) → q ≡ Some o → found ≡ Some o) → found ≡ None → q ≡ None
unseen_at None found h e = refl
unseen_at (Some o) found h e = absurd (none-some o (sym e ∙ h o refl))

-- a settler attempts to settle
pub settles : (size : RowSize) (slots id i : ℕ) (o : Outcome) (me : Sits) → i < size.limit → 0 < me.0.rights
    → Allows (Rule size) slots id me i (λ n. either (n == 0) (code o) n) (Settled (step slots i 0 (code o) none) me)
settles size slots id i o me within right s r _ here _ =
    let v : PromiseNotes = me.0 in
    let n : ℕ = get_or s.words i 0 in
    let stands : outcome_in n ≡ at r.outcomes i = finds r i in
    let f = r.each id v here in
    let inside = seen_inside r id i v here within in
    let asked : Option Outcome = outcome_in (code o) in
    let is : Some o ≡ asked = sym (outcome_of_code o) in
    let again : (p : Outcome) → at v.seen i ≡ Some p → outcome_in n ≡ Some p = λ p e. stands ∙ f.seen.1 i p e in
    let w : Option Outcome → PromiseNotes = attempted v i asked in (
      w (outcome_in n),
      keeps,
      tt,
      subst (λ (z : Option Outcome × Option Outcome). IsRow size (set s.words i (either (eqb n 0) (code o) n)) (set s.views id (attempted v i z.0 z.1))) (λ j. (is j, sym stands j)) (settles_at size id i o v s r here within right (at r.outcomes i) refl),
      (
        (λ e. ((λ j. (w (e j), me.1)), unseen_at (at v.seen i) (outcome_in n) again e, ap (λ q. at (w q).seen i) e ∙ get_or-set_same v.seen i asked None inside)),
        (λ p e. ((λ j. (w (e j), me.1)), ap (λ q. at (w q).seen i) e ∙ get_or-set_same v.seen i (Some p) None inside, λ one sole. finds_own size id i v s r here p (sym stands ∙ e) (sole ∙ sym one))),
        again,
      ),
    )

-- The first seat

-- it deals a seat with some of its rights, before it has settled anything
pub deals : (size : RowSize) (id rights given : ℕ) (v : PromiseNotes) → v ≡ row_notes size.limit size.settlers rights → given ≤ rights → Splits (Rule size) id v (without_rights given v) (with_rights given v)
deals size id rights given v is enough s r here =
    let f = r.each id v here in
    let mine : v.rights ≡ rights = ap (λ (u : PromiseNotes). u.rights) is in
    let nothing : (k : ℕ) → at v.settled k ≡ None = λ k. ap (λ (u : PromiseNotes). at u.settled k) is ∙ none_at size.limit k in
    let left : PromiseNotes = without_rights given v in
    let right : PromiseNotes = with_rights given v in
    let fits : (n : ℕ) → IsSeat size.settlers r.outcomes (with_rights n v) = λ n. record { settlers_are = f.settlers_are; seen = f.seen; settled = f.settled; rightless = λ _ k. nothing k } in
    let rights' = rights_set s.views id v left here in
    let rights'' = rights_snoc (set s.views id left) right in
    let all = r.rights in
    record {
      outcomes = r.outcomes;
      row = r.row;
      words_are = r.words_are;
      rights = omega arith;
      each = λ j u e. ⊎_elim
          (λ there. ⊎_elim (λ t. subst (λ (z : PromiseNotes). IsSeat size.settlers r.outcomes z) t.1 (fits (v.rights - given))) (λ t. r.each j u t.1) (at_set s.views id j left u there))
          (λ new. subst (λ (z : PromiseNotes). IsSeat size.settlers r.outcomes z) new (fits given)) (at_snoc (set s.views id left) right u j e);
      by_seats = λ k o e. (let q = still_settled s.views id v left k o here (λ h. h) (r.by_seats k o e) in (q.0, q.1, at_longer (set s.views id left) (right ∷ []) q.0 q.1 q.2, q.3));
    }

-- A new row

unset : (limit : ℕ) → replicate limit 0 ≡ map code_of (replicate limit None)
unset zero = refl
unset (suc n) = ap (λ (l : List ℕ). 0 ∷ l) (unset n)

pub opens : (size : RowSize) (words : List ℕ) → words ≡ replicate size.limit 0 → Rule size (opening words [] (first_notes size))
opens size words is = record {
  outcomes = replicate size.limit None;
  row = length-replicate size.limit None;
  words_are = is ∙ unset size.limit;
  rights = omega arith;
  each = λ j u e. subst (λ (z : PromiseNotes). IsSeat size.settlers (replicate size.limit None) z) (only j u e)
      (record { settlers_are = refl; seen = (refl, λ k o q. q); settled = (refl, λ k o q. q); rightless = λ _ k. none_at size.limit k });
  by_seats = λ k o e. absurd (none-some o (sym (none_at size.limit k) ∙ e));
}
  where
    only : (j : ℕ) (u : PromiseNotes) → get_elem? (first_notes size ∷ []) j ≡ some u → first_notes size ≡ u
    only zero u e = some-injective (first_notes size) u e
    only (suc j) u e = absurd (some-ne-none u (sym e))
