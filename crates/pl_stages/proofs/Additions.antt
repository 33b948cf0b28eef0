-- Additions: one more, and what is held and kept of them.
use Rattle.std.proofs.Common.{◌≡◌, ℕ, ◌+◌, ◌<◌, ◌^◌, List, [], ◌∷◌, ◌++◌, length, filter, sum_by, count_by, Bool, true, false, ◌||◌, cond, ltb, leb, Option, Some, None, is_some, unwrap_or, refl, sym, ap, subst, ◌∙◌, append-nil, arith}
use Rattle.std.proofs.lemmas.Bool.{le-ltb, cond_both}
use Rattle.std.proofs.lemmas.Bool.Decides.{nat_tests}
use Rattle.std.proofs.lemmas.List.Elements.{filter-append}
use Rattle.std.proofs.lemmas.List.Sums.{sum_by-append, sum_by-cons}
use Rattle.std.proofs.lemmas.List.Folds.{list_any-append}
use Rattle.std.proofs.lemmas.Slice.Eq.{bytes_eq-Decides}
use Rattle.std.specs.Cmp.Lexicographic.{nat_list_eq_equiv}
use Rattle.std.specs.Str.{bytes_eq}
use Rattle.pl_event.specs.declared.events.Fault.{Fault}
use Rattle.pl_event.specs.declared.events.Fault.TheVariants.{Range, Full}
use Rattle.pl_event.specs.declared.events.Reply.TheVariants.{Total, Error}
use Rattle.pl_stages.specs.declared.limits.TheConstants.{MAX_TOTAL, MAX_KEYS}
use Rattle.pl_stages.specs.declared.totals.Totals.{Totals}
use Rattle.pl_stages.specs.Service.{Addition, total_of, is_held, held_keys, refusal_of, unless_refused, reply_unless}
use Rattle.pl_stages.specs.Totals.{KeepsTotals, kept_total, kept_count}

pub bytes_eq-sym : (xs ys : List ℕ) → bytes_eq xs ys ≡ bytes_eq ys xs
bytes_eq-sym xs ys = nat_list_eq_equiv.symm xs ys

sum_part : (here : Bool) (key : List ℕ) (a : Addition) (rest : List Addition)
    → sum_by (λ b. b.number) (cond here (a ∷ rest) rest) ≡ cond here a.number 0 + sum_by (λ b. b.number) rest
sum_part true key a rest = sum_by-cons (λ (b : Addition). b.number) a rest
sum_part false key a rest = omega arith

-- one more at the front
total_of-cons : (key : List ℕ) (a : Addition) (additions : List Addition)
    → total_of key (a ∷ additions) ≡ cond (bytes_eq key a.key) a.number 0 + total_of key additions
total_of-cons key a additions = sum_part (bytes_eq key a.key) key a (filter (λ b. bytes_eq key b.key) additions)

-- one more at the end
pub total_of-push : (key : List ℕ) (additions : List Addition) (a : Addition)
    → total_of key (additions ++ a ∷ []) ≡ total_of key additions + cond (bytes_eq key a.key) a.number 0
total_of-push key additions a =
    let test = λ (b : Addition). bytes_eq key b.key in
    let one : total_of key (a ∷ []) ≡ cond (bytes_eq key a.key) a.number 0 + 0 = total_of-cons key a [] in
    ap (sum_by (λ b. b.number)) (filter-append test additions (a ∷ []))
    ∙ sum_by-append (λ (b : Addition). b.number) (filter test additions) (filter test (a ∷ []))
    ∙ ap (λ (n : ℕ). total_of key additions + n) (one ∙ omega arith)

or_false : (p q : Bool) → (p || (q || false)) ≡ (p || q)
or_false true q = refl
or_false false true = refl
or_false false false = refl

pub is_held-push : (key : List ℕ) (additions : List Addition) (a : Addition)
    → is_held key (additions ++ a ∷ []) ≡ (is_held key additions || bytes_eq key a.key)
is_held-push key additions a = list_any-append (λ (b : Addition). bytes_eq key b.key) additions (a ∷ []) ∙ or_false (is_held key additions) (bytes_eq key a.key)

-- the total of a key that is not held is 0
not_here : (here rest : Bool) (n m : ℕ) → (here || rest) ≡ false → (rest ≡ false → m ≡ 0) → cond here n 0 + m ≡ 0
not_here true rest n m e h = cc
not_here false rest n m e h = let z = h e in omega arith

pub total_of-not_held : (key : List ℕ) (additions : List Addition) → is_held key additions ≡ false → total_of key additions ≡ 0
total_of-not_held key [] e = refl
total_of-not_held key (a ∷ additions) e =
    total_of-cons key a additions ∙ not_here (bytes_eq key a.key) (is_held key additions) a.number (total_of key additions) e (total_of-not_held key additions)

-- one key more where it was not held
one_key : (held_first same held_new : Bool) (k : List ℕ) (before after : List (List ℕ))
    → length after ≡ length before + cond held_new 0 1 → (same ≡ true → held_new ≡ held_first)
    → length (cond (held_first || same) after (k ∷ after)) ≡ length (cond held_first before (k ∷ before)) + cond (same || held_new) 0 1
one_key true true held_new k before after e h = let t = h refl in grind (arith, nat_tests)
one_key true false held_new k before after e h = e
one_key false true true k before after e h = let t = h refl in cc
one_key false true false k before after e h = omega arith
one_key false false true k before after e h = omega arith
one_key false false false k before after e h = omega arith

pub held_keys-push : (additions : List Addition) (a : Addition)
    → length (held_keys (additions ++ a ∷ [])) ≡ length (held_keys additions) + cond (is_held a.key additions) 0 1
held_keys-push [] a = refl
held_keys-push (b ∷ additions) a =
    ap (λ (held : Bool). length (cond held (held_keys (additions ++ a ∷ [])) (b.key ∷ held_keys (additions ++ a ∷ [])))) (is_held-push b.key additions a)
    ∙ one_key (is_held b.key additions) (bytes_eq b.key a.key) (is_held a.key additions) b.key (held_keys additions) (held_keys (additions ++ a ∷ [])) (held_keys-push additions a)
    (λ e. ap (λ (k : List ℕ). is_held k additions) (sym ((bytes_eq-Decides b.key a.key).0 e)))
    ∙ ap (λ (same : Bool). length (held_keys (b ∷ additions)) + cond (same || is_held a.key additions) 0 1) (bytes_eq-sym b.key a.key)

-- what is kept of a key
found_total : (held : Bool) (total : ℕ) → (held ≡ false → total ≡ 0) → unwrap_or (cond held (Some total) None) 0 ≡ total
found_total true total h = refl
found_total false total h = sym (h refl)

found_held : (held : Bool) (total : ℕ) → is_some (cond held (Some total) None) ≡ held
found_held true total = refl
found_held false total = refl

pub kept-total : (totals : Totals) (additions : List Addition) (key : List ℕ) → KeepsTotals totals additions
    → unwrap_or (kept_total key totals) 0 ≡ total_of key additions
kept-total totals additions key keeps =
    ap (λ (o : Option ℕ). unwrap_or o 0) (keeps.held key) ∙ found_total (is_held key additions) (total_of key additions) (total_of-not_held key additions)

pub kept-held : (totals : Totals) (additions : List Addition) (key : List ℕ) → KeepsTotals totals additions
    → is_some (kept_total key totals) ≡ is_held key additions
kept-held totals additions key keeps = ap is_some (keeps.held key) ∙ found_held (is_held key additions) (total_of key additions)

put_total : (same held : Bool) (old number total : ℕ) → (same ≡ true → total ≡ old + number)
    → cond same (Some total) (cond held (Some old) None) ≡ cond (held || same) (Some (old + cond same number 0)) None
put_total true true old number total e = ap Some (e refl)
put_total true false old number total e = ap Some (e refl)
put_total false true old number total e = let z : old ≡ old + 0 = omega arith in ap Some z
put_total false false old number total e = refl

-- the total of one key set anew keeps the addition that made it
pub KeepsTotals-add : (old new : Totals) (additions : List Addition) (key : List ℕ) (number total : ℕ) → KeepsTotals old additions
    → ((name : List ℕ) → kept_total name new ≡ cond (bytes_eq key name) (Some total) (kept_total name old))
    → kept_count new ≡ kept_count old + cond (is_some (kept_total key old)) 0 1
    → total ≡ total_of key additions + number
    → KeepsTotals new (additions ++ record { key = key; number = number } ∷ [])
KeepsTotals-add old new additions key number total keeps puts count is =
    let a : Addition = record { key = key; number = number } in
    record {
      held = λ name.
          puts name ∙ ap (λ (o : Option ℕ). cond (bytes_eq key name) (Some total) o) (keeps.held name)
          ∙ put_total (bytes_eq key name) (is_held name additions) (total_of name additions) number total
          (λ e. is ∙ ap (λ (k : List ℕ). total_of k additions + number) ((bytes_eq-Decides key name).0 e))
          ∙ ap (λ (same : Bool). cond (is_held name additions || same) (Some (total_of name additions + cond same number 0)) None) (bytes_eq-sym key name)
          ∙ ap (λ (held : Bool). cond held (Some (total_of name additions + cond (bytes_eq name key) number 0)) None) (sym (is_held-push name additions a))
          ∙ ap (λ (n : ℕ). cond (is_held name (additions ++ a ∷ [])) (Some n) None) (sym (total_of-push name additions a));
      count =
          count ∙ ap (λ (held : Bool). kept_count old + cond held 0 1) (kept-held old additions key keeps)
          ∙ ap (λ (n : ℕ). n + cond (is_held key additions) 0 1) keeps.count ∙ sym (held_keys-push additions a);
    }

-- of a key that is held only a total above the greatest is refused
pub refusal_of-held : (totals : Totals) (additions : List Addition) (key : List ℕ) (number total : ℕ) → KeepsTotals totals additions
    → kept_total key totals ≡ Some total
    → (total ≡ total_of key additions) × (refusal_of key number additions ≡ cond (ltb MAX_TOTAL (total + number)) (Some Range) None)
refusal_of-held totals additions key number total keeps found =
    let exact : total ≡ total_of key additions = ap (λ (o : Option ℕ). unwrap_or o 0) (sym found) ∙ kept-total totals additions key keeps in
    let held : is_held key additions ≡ true = sym (kept-held totals additions key keeps) ∙ ap is_some found in
    (exact, rw (exact, held))

-- of a key that is not held a number is refused only where the most keys are
pub refusal_of-first : (totals : Totals) (additions : List Addition) (key : List ℕ) (number : ℕ) → KeepsTotals totals additions
    → kept_total key totals ≡ None → number < 2 ^ 32
    → (total_of key additions ≡ 0) × (refusal_of key number additions ≡ cond (leb MAX_KEYS (kept_count totals)) (Some Full) None)
refusal_of-first totals additions key number keeps found small =
    let none : total_of key additions ≡ 0 = sym (kept-total totals additions key keeps) ∙ ap (λ (o : Option ℕ). unwrap_or o 0) found in
    let held : is_held key additions ≡ false = sym (kept-held totals additions key keeps) ∙ ap is_some found in
    let fits : ltb MAX_TOTAL (total_of key additions + number) ≡ false = le-ltb _ _ (omega (arith, none, small)) in
    (none, rw (fits, held, keeps.count))

-- a total set to what it is
same_total : (totals : Totals) (key name : List ℕ) (total : ℕ) → kept_total key totals ≡ Some total
    → cond (bytes_eq key name) (Some total) (kept_total name totals) ≡ kept_total name totals
same_total totals key name total found =
    cond_both (bytes_eq key name) (Some total) (kept_total name totals) (λ o. o ≡ kept_total name totals)
    (λ e. subst (λ (k : List ℕ). Some total ≡ kept_total k totals) ((bytes_eq-Decides key name).0 e) (sym found))
    (λ e. refl)

raised_unless : (large : Bool) (old new : Totals) (additions : List Addition) (key : List ℕ) (number total : ℕ) → KeepsTotals old additions
    → kept_total key old ≡ Some total → total ≡ total_of key additions
    → ((name : List ℕ) → kept_total name new ≡ cond (bytes_eq key name) (Some (cond large total (total + number))) (kept_total name old))
    → kept_count new ≡ kept_count old
    → KeepsTotals new (additions ++ unless_refused (cond large (Some Range) None) (record { key = key; number = number } ∷ []))
raised_unless true old new additions key number total keeps found exact puts count =
    subst (KeepsTotals new) (sym (append-nil additions))
    (record {
      held = λ name. puts name ∙ same_total old key name total found ∙ keeps.held name;
      count = count ∙ keeps.count;
    })
raised_unless false old new additions key number total keeps found exact puts count =
    KeepsTotals-add old new additions key number (total + number) keeps puts (rw (count, found) (omega arith)) (ap (λ (t : ℕ). t + number) exact)

-- the total of a key that is held is raised, or stays where that is refused
pub KeepsTotals-raise : (old new : Totals) (additions : List Addition) (key : List ℕ) (number total raised : ℕ) → KeepsTotals old additions
    → kept_total key old ≡ Some total → raised ≡ cond (ltb MAX_TOTAL (total + number)) total (total + number)
    → ((name : List ℕ) → kept_total name new ≡ cond (bytes_eq key name) (Some raised) (kept_total name old))
    → kept_count new ≡ kept_count old
    → KeepsTotals new (additions ++ unless_refused (refusal_of key number additions) (record { key = key; number = number } ∷ []))
KeepsTotals-raise old new additions key number total raised keeps found is puts count =
    let refused = refusal_of-held old additions key number total keeps found in
    rw refused.1
    (raised_unless (ltb MAX_TOTAL (total + number)) old new additions key number total keeps found refused.0
    (λ name. puts name ∙ ap (λ (t : ℕ). cond (bytes_eq key name) (Some t) (kept_total name old)) is) count)

-- the reply of a total, unless there is a reason against it
pub reply_unless-cond : (large : Bool) (why : Fault) (total : ℕ)
    → cond large (Error why) (Total total) ≡ reply_unless (cond large (Some why) None) total
reply_unless-cond true why total = refl
reply_unless-cond false why total = refl

-- each key that is held is once among the keys held
count_first : (held_first : Bool) (key first : List ℕ) (keys : List (List ℕ))
    → count_by (bytes_eq key) (cond held_first keys (first ∷ keys))
    ≡ cond held_first (count_by (bytes_eq key) keys) (cond (bytes_eq key first) 1 0 + count_by (bytes_eq key) keys)
count_first true key first keys = refl
count_first false key first keys = sum_by-cons (λ (k : List ℕ). cond (bytes_eq key k) 1 0) first keys

counted : (held_first same held : Bool) (n : ℕ) → (same ≡ true → held ≡ held_first) → n ≡ cond held 1 0
    → cond held_first n (cond same 1 0 + n) ≡ cond (same || held) 1 0
counted true true true n h e = e
counted true true false n h e = let t = h refl in cc
counted true false held n h e = e
counted false true true n h e = let t = h refl in cc
counted false true false n h e = omega arith
counted false false true n h e = omega arith
counted false false false n h e = omega arith

pub held_keys-once : (key : List ℕ) (additions : List Addition)
    → count_by (bytes_eq key) (held_keys additions) ≡ cond (is_held key additions) 1 0
held_keys-once key [] = refl
held_keys-once key (a ∷ additions) =
    count_first (is_held a.key additions) key a.key (held_keys additions)
    ∙ counted (is_held a.key additions) (bytes_eq key a.key) (is_held key additions) (count_by (bytes_eq key) (held_keys additions))
    (λ e. ap (λ (k : List ℕ). is_held k additions) ((bytes_eq-Decides key a.key).0 e)) (held_keys-once key additions)
