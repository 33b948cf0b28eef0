-- The ways to a target, and whose is the next of them.
use Rattle.std.proofs.Common.{◌≡◌, ℕ, zero, suc, ◌+◌, ◌<◌, ◌≤◌, ◌==◌, ◌||◌, ◌++◌, Bool, true, false, not, List, [], ◌∷◌, drop, length, map, get_or, None, Some, refl, ap, sym, ◌∙◌, subst, ⊎_elim, arith}
use Rattle.std.specs.Prelude.{nat_le, if◌then◌else◌}
use Rattle.std.proofs.lemmas.Bool.{and_from, and_parts, cases_Bool, cases_eq, cond-false, cond-true, eqb-false, eq-eqb, false≢true, le-leb, leb-true, ne_eqb, not_from_false, or_left, or_parts}
use Rattle.std.proofs.lemmas.Option.{none-some, same_Some}
use Rattle.std.proofs.lemmas.List.{drop_all, drop_more, length-map}
use Rattle.pl_event.specs.declared.envelopes.Lane.{Lane}
use Rattle.pl_event.proofs.Lists.{tail-is}
use Rattle.pl_queue.specs.declared.limits.TheConstants.{MAX_LANES, MAX_SENDERS}
use Rattle.pl_queue.specs.declared.mailbox.OpenRefusal.TheVariants.{Limit}
use Rattle.pl_queue.specs.Left.{Apart, lanes_of_senders}
use Rattle.pl_queue.specs.Limits.{is_mailbox_within, opening_fault}
use Rattle.pl_exec.specs.Opening.{Way, way_by, is_way, ways_from, ways_to, CanOpen}
use Rattle.pl_exec.proofs.ListSteps.{cons-head, nil-cons}

-- ---- the ways

module _ (target n : ℕ) (lanes : List Lane) (more : List (List Lane)) where
  -- where it has a way, and where not
  with-way : is_way target n lanes ≡ true → ways_from target n (lanes ∷ more) ≡ way_by n lanes ∷ ways_from target (n + 1) more
  with-way e = cond-true (is_way target n lanes) (way_by n lanes ∷ ways_from target (n + 1) more) (ways_from target (n + 1) more) e

  without-way : is_way target n lanes ≡ false → ways_from target n (lanes ∷ more) ≡ ways_from target (n + 1) more
  without-way e = cond-false (is_way target n lanes) (way_by n lanes ∷ ways_from target (n + 1) more) (ways_from target (n + 1) more) e

pub no-lanes : (lanes : List Lane) → not (length lanes == 0) ≡ false → lanes ≡ []
no-lanes [] e = refl
no-lanes (l ∷ ls) e = absurd (false≢true (sym e ∙ not_from_false (length (l ∷ ls) == 0) (ne_eqb (length (l ∷ ls)) 0 (λ z. omega (arith, z)))))

-- they have all lanes there
pub ways-lanes : (target n : ℕ) (senders : List (List Lane)) → lanes_of_senders (map (λ (w : Way). w.lanes) (ways_from target n senders)) ≡ lanes_of_senders senders
ways-lanes target n [] = refl
ways-lanes target n (lanes ∷ more) = ⊎_elim
    (λ (e : is_way target n lanes ≡ true).
    ap (λ (ws : List Way). lanes_of_senders (map (λ (w : Way). w.lanes) ws)) (with-way target n lanes more e) ∙ ap (λ (l : List Lane). lanes ++ l) (ways-lanes target (n + 1) more))
    (λ (e : is_way target n lanes ≡ false).
    ap (λ (ws : List Way). lanes_of_senders (map (λ (w : Way). w.lanes) ws)) (without-way target n lanes more e) ∙ ways-lanes target (n + 1) more
    ∙ ap (λ (l : List Lane). l ++ lanes_of_senders more) (sym (no-lanes lanes (or_parts (n == target) (not (length lanes == 0)) e).1)))
    (cases_Bool (is_way target n lanes))

-- they are no more than executors
pub ways-few : (target n : ℕ) (senders : List (List Lane)) → length (ways_from target n senders) ≤ length senders
ways-few target n [] = omega arith
ways-few target n (lanes ∷ more) = ⊎_elim
    (λ (e : is_way target n lanes ≡ true).
    let here = ap (λ (ws : List Way). length ws) (with-way target n lanes more e) in
    let rest = ways-few target (n + 1) more in omega (arith, here, rest))
    (λ (e : is_way target n lanes ≡ false).
    let here = ap (λ (ws : List Way). length ws) (without-way target n lanes more e) in
    let rest = ways-few target (n + 1) more in omega (arith, here, rest))
    (cases_Bool (is_way target n lanes))

-- the target's own is one
pub ways-some : (target n : ℕ) (senders : List (List Lane)) → n ≤ target → target < n + length senders → 0 < length (ways_from target n senders)
ways-some target n [] from to = absurd (omega (arith, from, to))
ways-some target n (lanes ∷ more) from to = ⊎_elim
    (λ (e : is_way target n lanes ≡ true).
    let here = ap (λ (ws : List Way). length ws) (with-way target n lanes more e) in omega (arith, here))
    (λ (e : is_way target n lanes ≡ false).
    let here = ap (λ (ws : List Way). length ws) (without-way target n lanes more e) in
    let other = eqb-false n target (or_parts (n == target) (not (length lanes == 0)) e).0 in
    let rest = ways-some target (n + 1) more (by n target from other) (omega (arith, to)) in omega (arith, here, rest))
    (cases_Bool (is_way target n lanes))
  where
    by : (a b : ℕ) → a ≤ b → (a ≡ b → ⊥) → a + 1 ≤ b
    by a b le ne = omega (arith, le, ne)

-- an executor has one to itself, and one where it has lanes
pub own-way : (number : ℕ) (lanes : List Lane) → is_way number number lanes ≡ true
own-way number lanes = or_left (number == number) (not (length lanes == 0)) (eq-eqb number number refl)

pub lanes-way : (target number : ℕ) (lanes : List Lane) → 0 < length lanes → is_way target number lanes ≡ true
lanes-way target number lanes some = by (number == target) (not (length lanes == 0)) (not_from_false (length lanes == 0) (ne_eqb (length lanes) 0 (λ z. omega (arith, some, z))))
  where
    by : (a b : Bool) → b ≡ true → (a || b) ≡ true
    by true b e = refl
    by false b e = e

-- ---- whose is the next

module _ (target n : ℕ) (senders : List (List Lane)) (there : n < length senders) where
  abbrev lanes : List Lane
  lanes = get_or senders n []

  abbrev later : List Way
  later = ways_from target (n + 1) (drop (n + 1) senders)

  abbrev left : List Way
  left = ways_from target n (drop n senders)

  -- what is left has the way of the next executor in front, where that has one
  left-way : is_way target n lanes ≡ true → left ≡ way_by n lanes ∷ later
  left-way e = ap (λ (l : List (List Lane)). ways_from target n l) (drop_more senders n [] there) ∙ with-way target n lanes (drop (n + 1) senders) e

  left-other : is_way target n lanes ≡ false → left ≡ later
  left-other e = ap (λ (l : List (List Lane)). ways_from target n l) (drop_more senders n [] there) ∙ without-way target n lanes (drop (n + 1) senders) e

-- The next way of executors from this number on, and what is left behind it. Executors between have none.
pub record IsNextWay (target n : ℕ) (senders : List (List Lane)) (w : Way) (rest : List Way) : Type 0 where
  pub from : n ≤ w.origin
  pub there : w.origin < length senders
  pub own : w.lanes ≡ get_or senders w.origin []
  pub behind : rest ≡ ways_from target (w.origin + 1) (drop (w.origin + 1) senders)
  pub between : (m : ℕ) → n ≤ m → m < w.origin → is_way target m (get_or senders m []) ≡ false

beyond : (n m : ℕ) → n ≤ m → (n ≡ m → ⊥) → n + 1 ≤ m
beyond n m le ne = omega (arith, le, ne)

-- where one has none, and none of the others up to a bound, so is it of all of these
none-between : (target n bound : ℕ) (senders : List (List Lane)) → is_way target n (get_or senders n []) ≡ false → ((m : ℕ) → n + 1 ≤ m → m < bound → is_way target m (get_or senders m []) ≡ false)
    → (m : ℕ) → n ≤ m → m < bound → is_way target m (get_or senders m []) ≡ false
none-between target n bound senders here others m from to = ⊎_elim
    (λ (e : n ≡ m). subst (λ (k : ℕ). is_way target k (get_or senders k []) ≡ false) e here)
    (λ (e : n ≡ m → ⊥). others m (beyond n m from e) to)
    (cases_eq n m)

all-past : (target n : ℕ) (senders : List (List Lane)) → length senders ≤ n → ways_from target n (drop n senders) ≡ []
all-past target n senders past = ap (λ (l : List (List Lane)). ways_from target n l) (drop_all n senders past)

pub next-way : (target n more : ℕ) (senders : List (List Lane)) (w : Way) (rest : List Way) → n + more ≡ length senders → ways_from target n (drop n senders) ≡ w ∷ rest → IsNextWay target n senders w rest
next-way target n zero senders w rest all front = absurd (nil-cons w rest (sym (all-past target n senders (omega (arith, all))) ∙ front))
next-way target n (suc more) senders w rest all front = ⊎_elim
    (λ (e : is_way target n (get_or senders n []) ≡ true).
    let is = sym (left-way target n senders there e) ∙ front in
    let mine : way_by n (get_or senders n []) ≡ w = same_Some (way_by n (get_or senders n [])) w (cons-head (way_by n (get_or senders n [])) w (ways_from target (n + 1) (drop (n + 1) senders)) rest is) in
    subst (λ (v : Way). IsNextWay target n senders v rest) mine (record {
      from = omega arith;
      there = there;
      own = refl;
      behind = sym (tail-is (way_by n (get_or senders n [])) w (ways_from target (n + 1) (drop (n + 1) senders)) rest is);
      between = λ m from to. absurd (omega (arith, from, to));
    }))
    (λ (e : is_way target n (get_or senders n []) ≡ false).
    let next = next-way target (n + 1) more senders w rest (omega (arith, all)) (sym (left-other target n senders there e) ∙ front) in
    let from = next.from in
    record { from = omega (arith, from); there = next.there; own = next.own; behind = next.behind; between = none-between target n w.origin senders e next.between })
    (cases_Bool (is_way target n (get_or senders n [])))
  where
    there : n < length senders
    there = omega (arith, all)

-- where none is left, none of these executors has one
pub no-more : (target n more : ℕ) (senders : List (List Lane)) → n + more ≡ length senders → ways_from target n (drop n senders) ≡ [] → (m : ℕ) → n ≤ m → m < length senders → is_way target m (get_or senders m []) ≡ false
no-more target n zero senders all none = λ m from to. absurd (omega (arith, all, from, to))
no-more target n (suc more) senders all none = ⊎_elim
    (λ (e : is_way target n (get_or senders n []) ≡ true).
    absurd (nil-cons (way_by n (get_or senders n [])) (ways_from target (n + 1) (drop (n + 1) senders)) (sym none ∙ left-way target n senders there e)))
    (λ (e : is_way target n (get_or senders n []) ≡ false).
    none-between target n (length senders) senders e (no-more target (n + 1) more senders (omega (arith, all)) (sym (left-other target n senders there e) ∙ none)))
    (cases_Bool (is_way target n (get_or senders n [])))
  where
    there : n < length senders
    there = omega (arith, all)

-- ---- a mailbox for the ways

unfaulted : (lanes : List (List Lane)) (capacity : ℕ) → opening_fault lanes capacity ≡ None → is_mailbox_within lanes capacity ≡ true
unfaulted lanes capacity none = ⊎_elim
    (λ (t : is_mailbox_within lanes capacity ≡ true). t)
    (λ (t : is_mailbox_within lanes capacity ≡ false). absurd (none-some Limit (sym none ∙ ap (λ (b : Bool). if b then None else Some Limit) t)))
    (cases_Bool (is_mailbox_within lanes capacity))

-- where one for all senders can be opened, one for the ways can
pub ways-open : (target capacity : ℕ) (senders : List (List Lane)) → CanOpen capacity senders → CanOpen capacity (map (λ (w : Way). w.lanes) (ways_to target senders))
ways-open target capacity senders can =
    let ways = map (λ (w : Way). w.lanes) (ways_to target senders) in
    let same = ways-lanes target 0 senders in
    let all = and_parts _ (nat_le (length (lanes_of_senders senders)) MAX_LANES) (unfaulted senders capacity can.within) in
    let most = and_parts _ (nat_le (length senders) MAX_SENDERS) all.0 in
    let fewer : length ways ≤ 65535 = let few = ways-few target 0 senders in let long = leb-true (length senders) 65535 most.1 in omega (arith, few, long, length-map (ways_to target senders) (λ (w : Way). w.lanes)) in
    let is_within : is_mailbox_within ways capacity ≡ true = and_from _ _ (and_from _ _ most.0 (le-leb (length ways) 65535 fewer)) (ap (λ (l : List Lane). nat_le (length l) MAX_LANES) same ∙ all.1) in
    record {
      apart = subst Apart (sym same) can.apart;
      within = ap (λ (b : Bool). if b then None else Some Limit) is_within;
    }
