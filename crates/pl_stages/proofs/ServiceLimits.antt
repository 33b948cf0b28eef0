-- What the accepted additions come to: their limits, and what changes them.
use Rattle.std.proofs.Common.{◌≡◌, ◌≢◌, ◌↔◌, ℕ, ◌+◌, ◌≤◌, ◌<◌, List, [], ◌∷◌, ◌++◌, length, Bool, true, false, not, ◌&&◌, cond, ltb, leb, Option, Some, None, refl, sym, ap, subst, ◌∙◌, append-nil, append_assoc, arith}
use Rattle.std.proofs.lemmas.Bool.Decides.{nat_tests}
use Rattle.std.proofs.lemmas.Slice.Eq.{bytes_eq-Decides}
use Rattle.std.specs.List.{fold}
use Rattle.std.specs.Str.{bytes_eq}
use Rattle.pl_event.specs.declared.events.Event.{Event}
use Rattle.pl_event.specs.declared.events.Event.TheVariants.{Active, Read, ReadComplete, Caught, User, Write, Flush}
use Rattle.pl_event.specs.declared.events.Message.TheVariants.{Bytes, Line, Command, Reply}
use Rattle.pl_event.specs.declared.events.Command.TheVariants.{Ping, Quit, Echo, Add, Get}
use Rattle.pl_event.specs.declared.events.Fault.{Fault}
use Rattle.pl_event.specs.declared.events.Fault.TheVariants.{Range, Full}
use Rattle.pl_stages.specs.declared.limits.TheConstants.{MAX_TOTAL, MAX_KEYS}
use Rattle.pl_stages.specs.Service.{Addition, accepted, added_by, before_quit, has_quit, held_keys, is_held, refusal_of, total_of, unless_refused, line_service-lawful}
use Rattle.pl_stages.proofs.Accepted.{accepted-open, accepted-ended, accepted-push}
use Rattle.pl_stages.proofs.Additions.{total_of-push, held_keys-push}

-- no total is above the greatest, and at most MAX_KEYS keys are held
record IsWithin (additions : List Addition) : Type 0 where
  totals : (key : List ℕ) → total_of key additions ≤ MAX_TOTAL
  keys : length (held_keys additions) ≤ MAX_KEYS

-- why an addition is refused, by the tests on it
range_refused : (large full : Bool) → (cond large (Some Range) (cond full (Some Full) None) ≡ Some Range) ↔ (large ≡ true)
range_refused true full = (λ e. refl, λ e. refl)
range_refused false true = (λ e. cc, λ e. cc)
range_refused false false = (λ e. cc, λ e. cc)

full_refused : (large full : Bool) → (cond large (Some Range) (cond full (Some Full) None) ≡ Some Full) ↔ ((large ≡ false) × (full ≡ true))
full_refused true full = (λ e. cc, λ e. cc)
full_refused false true = (λ e. (refl, refl), λ e. refl)
full_refused false false = (λ e. cc, λ e. cc)

not_refused : (large full : Bool) → cond large (Some Range) (cond full (Some Full) None) ≡ None → (large ≡ false) × (full ≡ false)
not_refused true full e = cc
not_refused false true e = cc
not_refused false false e = (refl, refl)

large-is : (sum : ℕ) → (ltb MAX_TOTAL sum ≡ true) ↔ (MAX_TOTAL < sum)
large-is sum = (λ e. grind (arith, nat_tests, e), λ h. grind (arith, nat_tests, h))

small-is : (sum : ℕ) → (ltb MAX_TOTAL sum ≡ false) ↔ (sum ≤ MAX_TOTAL)
small-is sum = (λ e. grind (arith, nat_tests, e), λ h. grind (arith, nat_tests, h))

many-is : (n : ℕ) → (leb MAX_KEYS n ≡ true) ↔ (MAX_KEYS ≤ n)
many-is n = (λ e. grind (arith, nat_tests, e), λ h. grind (arith, nat_tests, h))

both : (held many : Bool) → ((not held && many) ≡ true) ↔ ((held ≡ false) × (many ≡ true))
both true many = (λ e. cc, λ e. cc)
both false many = (λ e. (refl, e), λ e. e.1)

pub refusal_of-range : (key : List ℕ) (n : ℕ) (additions : List Addition)
    → (refusal_of key n additions ≡ Some Range) ↔ (MAX_TOTAL < total_of key additions + n)
refusal_of-range key n additions =
    let sum = total_of key additions + n in
    let r = range_refused (ltb MAX_TOTAL sum) (not (is_held key additions) && leb MAX_KEYS (length (held_keys additions))) in
    (λ e. (large-is sum).0 (r.0 e), λ h. r.1 ((large-is sum).1 h))

pub refusal_of-full : (key : List ℕ) (n : ℕ) (additions : List Addition)
    → (refusal_of key n additions ≡ Some Full)
    ↔ ((total_of key additions + n ≤ MAX_TOTAL) × (is_held key additions ≡ false) × (MAX_KEYS ≤ length (held_keys additions)))
refusal_of-full key n additions =
    let sum = total_of key additions + n in
    let held = is_held key additions in
    let many = leb MAX_KEYS (length (held_keys additions)) in
    let r = full_refused (ltb MAX_TOTAL sum) (not held && many) in (
      λ e. let t = (both held many).0 (r.0 e).1 in ((small-is sum).0 (r.0 e).0, t.0, (many-is (length (held_keys additions))).0 t.1),
      λ h. r.1 ((small-is sum).1 h.0, (both held many).1 (h.1, (many-is (length (held_keys additions))).1 h.2)),
    )

raised : (same : Bool) (name key : List ℕ) (old n : ℕ) (additions : List Addition) → bytes_eq name key ≡ same
    → old ≡ total_of name additions → old ≤ MAX_TOTAL → total_of key additions + n ≤ MAX_TOTAL → old + cond same n 0 ≤ MAX_TOTAL
raised true name key old n additions e is h k =
    let same = ap (λ (l : List ℕ). total_of l additions) ((bytes_eq-Decides name key).0 e) in omega arith
raised false name key old n additions e is h k = omega arith

few_enough : (held many : Bool) (old : ℕ) → leb MAX_KEYS old ≡ many → (not held && many) ≡ false → old ≤ MAX_KEYS
    → old + cond held 0 1 ≤ MAX_KEYS
few_enough true many old e f h = omega arith
few_enough false true old e f h = cc
few_enough false false old e f h = grind (arith, nat_tests, e)

IsWithin-add : (additions : List Addition) (key : List ℕ) (n : ℕ) (why : Option Fault) → refusal_of key n additions ≡ why
    → IsWithin additions → IsWithin (additions ++ unless_refused why (record { key = key; number = n } ∷ []))
IsWithin-add additions key n (Some why) e is = subst IsWithin (sym (append-nil additions)) is
IsWithin-add additions key n None e is =
    let a : Addition = record { key = key; number = n } in
    let held = is_held key additions in
    let many = leb MAX_KEYS (length (held_keys additions)) in
    let fits = not_refused (ltb MAX_TOTAL (total_of key additions + n)) (not held && many) e in
    let small = (small-is (total_of key additions + n)).0 fits.0 in
    record {
      totals = λ name.
          let h = raised (bytes_eq name key) name key (total_of name additions) n additions refl refl (is.totals name) small in
          omega (arith, h, total_of-push name additions a);
      keys =
          let h = few_enough held many (length (held_keys additions)) refl fits.1 is.keys in
          omega (arith, h, held_keys-push additions a);
    }

IsWithin-event : (additions : List Addition) (x : Event) → IsWithin additions → IsWithin (additions ++ added_by additions x)
IsWithin-event additions (Read (Command (Add key n))) is = IsWithin-add additions key n (refusal_of key n additions) refl is
IsWithin-event additions (Read (Command Ping)) is = subst IsWithin (sym (append-nil additions)) is
IsWithin-event additions (Read (Command Quit)) is = subst IsWithin (sym (append-nil additions)) is
IsWithin-event additions (Read (Command (Echo text))) is = subst IsWithin (sym (append-nil additions)) is
IsWithin-event additions (Read (Command (Get key))) is = subst IsWithin (sym (append-nil additions)) is
IsWithin-event additions (Read (Bytes b)) is = subst IsWithin (sym (append-nil additions)) is
IsWithin-event additions (Read (Line b)) is = subst IsWithin (sym (append-nil additions)) is
IsWithin-event additions (Read (Reply r)) is = subst IsWithin (sym (append-nil additions)) is
IsWithin-event additions Active is = subst IsWithin (sym (append-nil additions)) is
IsWithin-event additions ReadComplete is = subst IsWithin (sym (append-nil additions)) is
IsWithin-event additions (Caught c) is = subst IsWithin (sym (append-nil additions)) is
IsWithin-event additions (User number) is = subst IsWithin (sym (append-nil additions)) is
IsWithin-event additions (Write m) is = subst IsWithin (sym (append-nil additions)) is
IsWithin-event additions Flush is = subst IsWithin (sym (append-nil additions)) is

IsWithin-fold : (additions : List Addition) (xs : List Event) → IsWithin additions
    → IsWithin (fold (λ (done : List Addition) (e : Event). done ++ added_by done e) additions xs)
IsWithin-fold additions [] is = is
IsWithin-fold additions (x ∷ xs) is = IsWithin-fold (additions ++ added_by additions x) xs (IsWithin-event additions x is)

none_within : IsWithin []
none_within = record { totals = λ key. omega arith; keys = omega arith }

accepted-IsWithin : (xs : List Event) → IsWithin (accepted xs)
accepted-IsWithin xs = IsWithin-fold [] (before_quit xs) none_within

pub total_of-le : (xs : List Event) (key : List ℕ) → total_of key (accepted xs) ≤ MAX_TOTAL
total_of-le xs = (accepted-IsWithin xs).totals

pub held_keys-le : (xs : List Event) → length (held_keys (accepted xs)) ≤ MAX_KEYS
held_keys-le xs = (accepted-IsWithin xs).keys

-- an addition that is not refused raises its own total
pub accepted-add : (xs : List Event) (key : List ℕ) (n : ℕ) → has_quit xs ≡ false → refusal_of key n (accepted xs) ≡ None
    → accepted (xs ++ Read (Command (Add key n)) ∷ []) ≡ accepted xs ++ record { key = key; number = n } ∷ []
accepted-add xs key n still accepts =
    accepted-open xs (Read (Command (Add key n))) still
    ∙ ap (λ (o : Option Fault). accepted xs ++ unless_refused o (record { key = key; number = n } ∷ [])) accepts

pub total_of-add : (xs : List Event) (key : List ℕ) (n : ℕ) (name : List ℕ) → has_quit xs ≡ false → refusal_of key n (accepted xs) ≡ None
    → total_of name (accepted (xs ++ Read (Command (Add key n)) ∷ [])) ≡ total_of name (accepted xs) + cond (bytes_eq name key) n 0
total_of-add xs key n name still accepts =
    ap (total_of name) (accepted-add xs key n still accepts) ∙ total_of-push name (accepted xs) (record { key = key; number = n })

nothing_added : (quit : Bool) (additions : List Addition) → cond quit additions (additions ++ []) ≡ additions
nothing_added true additions = refl
nothing_added false additions = append-nil additions

pub accepted-refused : (xs : List Event) (key : List ℕ) (n : ℕ) (why : Fault) → refusal_of key n (accepted xs) ≡ Some why
    → accepted (xs ++ Read (Command (Add key n)) ∷ []) ≡ accepted xs
accepted-refused xs key n why refused =
    accepted-push xs (Read (Command (Add key n)))
    ∙ ap (λ (o : Option Fault). cond (has_quit xs) (accepted xs) (accepted xs ++ unless_refused o (record { key = key; number = n } ∷ []))) refused
    ∙ nothing_added (has_quit xs) (accepted xs)

adds_nothing : (additions : List Addition) (x : Event) → ((key : List ℕ) (n : ℕ) → x ≢ Read (Command (Add key n))) → added_by additions x ≡ []
adds_nothing additions (Read (Command (Add key n))) other = absurd (other key n refl)
adds_nothing additions (Read (Command Ping)) other = refl
adds_nothing additions (Read (Command Quit)) other = refl
adds_nothing additions (Read (Command (Echo text))) other = refl
adds_nothing additions (Read (Command (Get key))) other = refl
adds_nothing additions (Read (Bytes b)) other = refl
adds_nothing additions (Read (Line b)) other = refl
adds_nothing additions (Read (Reply r)) other = refl
adds_nothing additions Active other = refl
adds_nothing additions ReadComplete other = refl
adds_nothing additions (Caught c) other = refl
adds_nothing additions (User number) other = refl
adds_nothing additions (Write m) other = refl
adds_nothing additions Flush other = refl

pub accepted-other : (xs : List Event) (x : Event) → ((key : List ℕ) (n : ℕ) → x ≢ Read (Command (Add key n)))
    → accepted (xs ++ x ∷ []) ≡ accepted xs
accepted-other xs x other =
    accepted-push xs x
    ∙ ap (λ (added : List Addition). cond (has_quit xs) (accepted xs) (accepted xs ++ added)) (adds_nothing (accepted xs) x other)
    ∙ nothing_added (has_quit xs) (accepted xs)

-- after a quit nothing is added
pub accepted-after_quit : (xs ys : List Event) → has_quit xs ≡ true → accepted (xs ++ ys) ≡ accepted xs
accepted-after_quit xs [] quit = ap accepted (append-nil xs)
accepted-after_quit xs (y ∷ ys) quit =
    ap accepted (sym (append_assoc xs (y ∷ []) ys))
    ∙ accepted-after_quit (xs ++ y ∷ []) ys (line_service-lawful.stays_ended xs y quit)
    ∙ accepted-ended xs y quit
