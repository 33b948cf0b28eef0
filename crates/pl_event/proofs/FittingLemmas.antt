-- Items that fit, and the content of their lane.
use Rattle.std.proofs.Common.{◌≡◌, ℕ, ◌+◌, ◌≤◌, ◌%◌, ◌==◌, Bool, false, List, [], ◌∷◌, ◌++◌, length, drop, zero, suc, sym, ap, subst, ◌∙◌, refl, arith, add-one}
use Rattle.std.specs.Prelude.{Some, slice_get}
use Rattle.std.proofs.Math.Seq.{drop-cons}
use Rattle.std.proofs.lemmas.Option.{same_Some, slice_get_within, get_or_from_slice_get}
use Rattle.std.proofs.lemmas.List.{drop_all}
use Rattle.pl_event.specs.declared.events.Event.{Event}
use Rattle.pl_event.specs.declared.envelopes.Item.{Item}
use Rattle.pl_event.specs.declared.envelopes.Item.TheVariants as item
use Rattle.pl_event.specs.Meaning.{IsPrefixOf}
use Rattle.pl_event.specs.Fitting.{FitFrom, FitFromAsFlags, goes_on, events_of, flags_of}

not_nil : (is : List Item) (i : Item) → is ++ i ∷ [] ≡ [] → ⊥
not_nil [] i e = cc
not_nil (j ∷ is) i e = cc

drop-next : (content : List Event) (n : ℕ) (e : Event) → slice_get content n ≡ Some e → drop n content ≡ e ∷ drop (n + 1) content
drop-next content n e at_n =
    drop-cons content n e (slice_get_within content n e at_n)
    ∙ ap (λ (x : Event). x ∷ drop (suc n) content) (get_or_from_slice_get content n e e at_n)
    ∙ ap (λ (k : ℕ). e ∷ drop k content) (sym (add-one n))

-- the events of items that fit from n on begin what is left of the content
pub events-prefix : (content : List Event) (n : ℕ) (items : List Item) → FitFrom content n items → IsPrefixOf (events_of items) (drop n content)
events-prefix content n [] h = (drop n content, refl)
events-prefix content n (item.Event e ∷ is) h =
    let rest = events-prefix content (n + 1) is h.2 in
    (rest.0, ap (λ (t : List Event). e ∷ t) rest.1 ∙ sym (drop-next content n e h.0))
events-prefix content n (item.End ∷ is) h = subst (λ (t : List Item). IsPrefixOf (events_of t) (drop n content)) (sym (h.1 refl)) (drop n content, refl)
events-prefix content n (item.Fail cause ∷ is) h = subst (λ (t : List Item). IsPrefixOf (events_of t) (drop n content)) (sym (h.1 refl)) (drop n content, refl)
events-prefix content n (item.Flag value ∷ is) h = absurd h.0

-- and are all of it where the end follows
pub events-whole : (content : List Event) (n : ℕ) (items : List Item) → FitFrom content n (items ++ item.End ∷ []) → events_of items ≡ drop n content
events-whole content n [] h = sym (drop_all n content (subst (λ (k : ℕ). length content ≤ k) (sym h.0) (omega arith)))
events-whole content n (item.Event e ∷ is) h =
    ap (λ (t : List Event). e ∷ t) (events-whole content (n + 1) is h.2) ∙ sym (drop-next content n e h.0)
events-whole content n (item.End ∷ is) h = absurd (not_nil is item.End (h.1 refl))
events-whole content n (item.Fail cause ∷ is) h = absurd (not_nil is item.End (h.1 refl))
events-whole content n (item.Flag value ∷ is) h = absurd h.0

-- nothing follows an end or a failure
pub nothing-follows : (content : List Event) (n : ℕ) (items more : List Item) (i : Item) → goes_on i ≡ false → FitFrom content n (items ++ i ∷ more) → more ≡ []
nothing-follows content n [] more i last h = h.1 last
nothing-follows content n (j ∷ is) more i last h = nothing-follows content (n + 1) is more i last h.2

-- flags alternate
pub flags-alternate : (m : ℕ) (items : List Item) (n : ℕ) (value : Bool) → FitFromAsFlags m items → slice_get (flags_of items) n ≡ Some value → value ≡ ((m + n) % 2 == 1)
flags-alternate m [] n value h at_n = cc
flags-alternate m (item.Event e ∷ is) n value h at_n = absurd h.0
flags-alternate m (item.End ∷ is) n value h at_n = absurd h.0
flags-alternate m (item.Fail cause ∷ is) n value h at_n = absurd h.0
flags-alternate m (item.Flag v ∷ is) zero value h at_n = sym (same_Some v value at_n) ∙ h.0 ∙ ap (λ (k : ℕ). k % 2 == 1) (omega arith)
flags-alternate m (item.Flag v ∷ is) (suc n) value h at_n =
    let k : m + 1 + n ≡ m + suc n = omega arith in
    flags-alternate (m + 1) is n value h.1 at_n ∙ ap (λ (k : ℕ). k % 2 == 1) k
