-- The additions accepted, one event more.
use Rattle.std.proofs.Common.{◌≡◌, List, [], ◌∷◌, ◌++◌, Bool, true, false, not, ◌||◌, cond, refl, sym, ap, subst, ◌∙◌, append-nil}
use Rattle.std.proofs.lemmas.List.Folds.{list_any-append}
use Rattle.std.proofs.lemmas.Grind.{fold-append}
use Rattle.std.proofs.lemmas.List.Sums.{take_while-cons}
use Rattle.std.specs.List.{fold}
use Rattle.pl_event.specs.declared.events.Event.{Event}
use Rattle.pl_event.specs.declared.events.Event.TheVariants.{Active, Read, ReadComplete, Caught, User, Write, Flush}
use Rattle.pl_event.specs.declared.events.Message.TheVariants.{Bytes, Line, Command, Reply}
use Rattle.pl_event.specs.declared.events.Command.TheVariants.{Ping, Quit, Echo, Add, Get}
use Rattle.pl_stages.specs.declared.totals.Totals.{Totals}
use Rattle.pl_stages.specs.Service.{Addition, accepted, added_by, before_quit, has_quit, is_quit, line_service-lawful}
use Rattle.pl_stages.specs.Totals.{KeepsTotals}

stops : (quits later : Bool) (y : Event) (front more : List Event)
    → cond (not quits) (y ∷ cond later front (front ++ more)) []
    ≡ cond (quits || later) (cond (not quits) (y ∷ front) []) (cond (not quits) (y ∷ front) [] ++ more)
stops true later y front more = refl
stops false true y front more = refl
stops false false y front more = refl

-- one event more is before the first quit, unless it is one or one came
pub before_quit-push : (xs : List Event) (x : Event)
    → before_quit (xs ++ x ∷ []) ≡ cond (has_quit xs) (before_quit xs) (before_quit xs ++ before_quit (x ∷ []))
before_quit-push [] x = refl
before_quit-push (y ∷ ys) x =
    take_while-cons (λ (e : Event). not (is_quit e)) y (ys ++ x ∷ [])
    ∙ ap (λ (t : List Event). cond (not (is_quit y)) (y ∷ t) []) (before_quit-push ys x)
    ∙ stops (is_quit y) (has_quit ys) y (before_quit ys) (before_quit (x ∷ []))
    ∙ ap (λ (t : List Event). cond (is_quit y || has_quit ys) t (t ++ before_quit (x ∷ []))) (sym (take_while-cons (λ (e : Event). not (is_quit e)) y ys))

-- what one event adds by itself: a quit adds nothing
added_by-one : (additions : List Addition) (x : Event)
    → fold (λ (done : List Addition) (e : Event). done ++ added_by done e) additions (before_quit (x ∷ [])) ≡ additions ++ added_by additions x
added_by-one additions (Read (Command Ping)) = refl
added_by-one additions (Read (Command Quit)) = sym (append-nil additions)
added_by-one additions (Read (Command (Echo text))) = refl
added_by-one additions (Read (Command (Add key n))) = refl
added_by-one additions (Read (Command (Get key))) = refl
added_by-one additions (Read (Bytes b)) = refl
added_by-one additions (Read (Line b)) = refl
added_by-one additions (Read (Reply r)) = refl
added_by-one additions Active = refl
added_by-one additions ReadComplete = refl
added_by-one additions (Caught c) = refl
added_by-one additions (User number) = refl
added_by-one additions (Write m) = refl
added_by-one additions Flush = refl

accept_all : (quit : Bool) (front more : List Event) (x : Event) → more ≡ before_quit (x ∷ [])
    → fold (λ (done : List Addition) (e : Event). done ++ added_by done e) [] (cond quit front (front ++ more))
    ≡ cond quit (fold (λ (done : List Addition) (e : Event). done ++ added_by done e) [] front) (fold (λ (done : List Addition) (e : Event). done ++ added_by done e) [] front ++ added_by (fold (λ (done : List Addition) (e : Event). done ++ added_by done e) [] front) x)
accept_all true front more x e = refl
accept_all false front more x e =
    let accept = λ (done : List Addition) (e : Event). done ++ added_by done e in
    fold-append accept [] front more ∙ ap (fold accept (fold accept [] front)) e ∙ added_by-one (fold accept [] front) x

-- an event before any quit adds what it adds after the additions accepted before it; a later one adds nothing
pub accepted-push : (xs : List Event) (x : Event)
    → accepted (xs ++ x ∷ []) ≡ cond (has_quit xs) (accepted xs) (accepted xs ++ added_by (accepted xs) x)
accepted-push xs x =
    ap (fold (λ (done : List Addition) (e : Event). done ++ added_by done e) []) (before_quit-push xs x)
    ∙ accept_all (has_quit xs) (before_quit xs) (before_quit (x ∷ [])) x refl

pub accepted-open : (xs : List Event) (x : Event) → has_quit xs ≡ false
    → accepted (xs ++ x ∷ []) ≡ accepted xs ++ added_by (accepted xs) x
accepted-open xs x still = accepted-push xs x ∙ ap (λ (q : Bool). cond q (accepted xs) (accepted xs ++ added_by (accepted xs) x)) still

pub accepted-ended : (xs : List Event) (x : Event) → has_quit xs ≡ true → accepted (xs ++ x ∷ []) ≡ accepted xs
accepted-ended xs x ended = accepted-push xs x ∙ ap (λ (q : Bool). cond q (accepted xs) (accepted xs ++ added_by (accepted xs) x)) ended

or_last : (quits : Bool) (b : Bool) → quits ≡ false → (quits || (b || false)) ≡ b
or_last true b e = cc
or_last false true e = refl
or_last false false e = refl

-- with no quit before, an event is the first quit where it is one
pub has_quit-push : (xs : List Event) (x : Event) → has_quit xs ≡ false → has_quit (xs ++ x ∷ []) ≡ is_quit x
has_quit-push xs x still = list_any-append is_quit xs (x ∷ []) ∙ or_last (has_quit xs) (is_quit x) still

-- a service that has quit stands after one event more
pub stands-ended : (totals : Totals) (flag : Bool) (xs : List Event) (x : Event) → flag ≡ true
    → (flag ≡ has_quit xs) × KeepsTotals totals (accepted xs)
    → (flag ≡ has_quit (xs ++ x ∷ [])) × KeepsTotals totals (accepted (xs ++ x ∷ []))
stands-ended totals flag xs x ended stood =
    let quit : has_quit xs ≡ true = sym stood.0 ∙ ended in (
      ended ∙ sym (line_service-lawful.stays_ended xs x quit),
      subst (λ (additions : List Addition). KeepsTotals totals additions) (sym (accepted-ended xs x quit)) stood.1,
    )

-- one that has not stands after it with the totals that the event leaves
pub stands-open : (old new : Totals) (before after : Bool) (xs : List Event) (x : Event) → before ≡ false → after ≡ is_quit x
    → ((additions : List Addition) → KeepsTotals old additions → KeepsTotals new (additions ++ added_by additions x))
    → (before ≡ has_quit xs) × KeepsTotals old (accepted xs)
    → (after ≡ has_quit (xs ++ x ∷ [])) × KeepsTotals new (accepted (xs ++ x ∷ []))
stands-open old new before after xs x opened is keeps stood =
    let still : has_quit xs ≡ false = sym stood.0 ∙ opened in (
      is ∙ sym (has_quit-push xs x still),
      subst (λ (additions : List Addition). KeepsTotals new additions) (sym (accepted-open xs x still)) (keeps (accepted xs) stood.1),
    )
