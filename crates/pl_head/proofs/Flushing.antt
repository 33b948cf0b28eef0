-- One event more: what is flushed, and what is not.
use Rattle.std.proofs.Common.{◌≡◌, ℕ, List, [], ◌∷◌, ◌++◌, Bool, true, false, ◌||◌, if◌then◌else◌, Option, sym, refl, append_assoc, append-nil, inl, inr}
use Rattle.std.proofs.lemmas.Bool.{or_cases, or_left, or_right, or_parts}
use Rattle.std.proofs.Math.Bool.{or-true}
use Rattle.pl_event.specs.declared.events.Event.{Event}
use Rattle.pl_head.specs.Writes.{write_by, is_flush, has_flush, flushed_writes, unflushed_writes}

has_flush-keep : (ys : List Event) (e : Event) → is_flush e ≡ false → has_flush (ys ++ e ∷ []) ≡ has_flush ys
has_flush-keep [] e h = rw h refl
has_flush-keep (y ∷ ys) e h = rw (has_flush-keep ys e h) refl

pub flushed-keep : (ys : List Event) (e : Event) → is_flush e ≡ false → flushed_writes (ys ++ e ∷ []) ≡ flushed_writes ys
flushed-keep [] e h = rw h refl
flushed-keep (y ∷ ys) e h = rw (has_flush-keep ys e h, flushed-keep ys e h) refl

pub unflushed-push : (ys : List Event) (e : Event) → is_flush e ≡ false → unflushed_writes (ys ++ e ∷ []) ≡ unflushed_writes ys ++ write_by e
unflushed-push [] e h = rw h (append-nil (write_by e))
unflushed-push (y ∷ ys) e h =
    rw (has_flush-keep ys e h, unflushed-push ys e h) (sym (append_assoc (if is_flush y || has_flush ys then [] else write_by y) (unflushed_writes ys) (write_by e)))

has_flush-flush : (ys : List Event) (e : Event) → is_flush e ≡ true → has_flush (ys ++ e ∷ []) ≡ true
has_flush-flush [] e h = rw h refl
has_flush-flush (y ∷ ys) e h = rw (has_flush-flush ys e h) (or-true (is_flush y))

pub flushed-none : (ys : List Event) → has_flush ys ≡ false → flushed_writes ys ≡ []
flushed-none [] h = refl
flushed-none (y ∷ ys) h = rw h (flushed-none ys (or_parts (is_flush y) (has_flush ys) h).1)

joins : (b : Bool) (w fl un : List (Option (List ℕ))) → (b ≡ false → fl ≡ [])
    → w ++ (fl ++ un) ≡ ((if b then w else []) ++ fl) ++ ((if b then [] else w) ++ un)
joins true w fl un h = sym (append_assoc w fl un)
joins false w fl un h = rw (h refl) refl

pub flushed-flush : (ys : List Event) (e : Event) → is_flush e ≡ true → write_by e ≡ [] → flushed_writes (ys ++ e ∷ []) ≡ flushed_writes ys ++ unflushed_writes ys
flushed-flush [] e h w = rw (h, w) refl
flushed-flush (y ∷ ys) e h w =
    rw (has_flush-flush ys e h, or-true (is_flush y), flushed-flush ys e h w)
    (joins (is_flush y || has_flush ys) (write_by y) (flushed_writes ys) (unflushed_writes ys) (λ h. flushed-none ys (or_parts (is_flush y) (has_flush ys) h).1))

pub unflushed-flush : (ys : List Event) (e : Event) → is_flush e ≡ true → unflushed_writes (ys ++ e ∷ []) ≡ []
unflushed-flush [] e h = rw h refl
unflushed-flush (y ∷ ys) e h =
    rw (has_flush-flush ys e h, or-true (is_flush y)) (unflushed-flush ys e h)

pub has_flush-longer : (xs ys : List Event) → has_flush xs ≡ true → has_flush (xs ++ ys) ≡ true
has_flush-longer [] ys h = cc h
has_flush-longer (x ∷ xs) ys h = elim (or_cases (is_flush x) (has_flush xs) h) [
  | inl now ↦ or_left (is_flush x) (has_flush (xs ++ ys)) now
  | inr later ↦ or_right (is_flush x) (has_flush (xs ++ ys)) (has_flush-longer xs ys later)
]
