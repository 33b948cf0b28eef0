-- The events of a lane around one of them, and what is made of them.
use Rattle.std.proofs.Common.{◌≡◌, ℕ, zero, suc, ◌+◌, ◌<◌, ◌≤◌, Bool, true, false, not, ◌&&◌, cond, List, [], ◌∷◌, ◌++◌, length, take, drop, Some, refl, ap, sym, ◌∙◌, subst, arith, append_assoc, length-append}
use Rattle.std.specs.List.{slice_get}
use Rattle.std.proofs.lemmas.List.{take-append-drop}
use Rattle.std.proofs.lemmas.Option.{slice_get_within, same_Some}
use Rattle.std.proofs.lemmas.Bool.{both_ways}
use Rattle.pl_event.specs.declared.events.Event.{Event}
use Rattle.pl_event.specs.declared.envelopes.Item.{Item}
use Rattle.pl_event.specs.declared.envelopes.Item.TheVariants as item
use Rattle.pl_event.specs.declared.envelopes.Kind.TheVariants.{Data}
use Rattle.pl_event.specs.declared.envelopes.Lane.{Lane}
use Rattle.pl_event.specs.declared.stages.Turned.{Turned}
use Rattle.pl_event.specs.declared.stages.Turned.TheVariants.{Open, Ended}
use Rattle.pl_event.specs.Fitting.{Fits}
use Rattle.pl_event.specs.Meaning.{Meaning, IsLawful, made_after, made_after-append, made-push, down_of, turned_after}
use Rattle.pl_context.specs.Ports.{as_items, end_after, all_go_on}
use Rattle.pl_event.specs.Worlds.{World, content_of}
use Rattle.pl_flow.specs.Flows.{IsGood}
use Rattle.pl_flow.specs.Makes.{AreGood}
use Rattle.pl_flow.proofs.ItemLemmas.{end-good}
use Rattle.pl_event.specs.declared.limits.TheConstants.{MAX_ITEMS}

-- event n, with those before it and those behind it
pub split-at : (xs : List Event) (n : ℕ) (x : Event) → slice_get xs n ≡ Some x → (rest : List Event) × (take n xs ++ x ∷ rest ≡ xs) × (take (suc n) xs ≡ take n xs ++ x ∷ [])
split-at [] n x e = let within = slice_get_within [] n x e in absurd (omega (arith, within))
split-at (y ∷ ys) zero x e =
    let same : y ≡ x = same_Some y x e in (ys, ap (λ z. z ∷ ys) (sym same), ap (λ z. z ∷ []) same)
split-at (y ∷ ys) (suc n) x e =
    let r = split-at ys n x e in (r.0, ap (λ zs. y ∷ zs) r.1, ap (λ zs. y ∷ zs) r.2)

-- what fits behind the first ones is of the lane, or its end or failure
pub fits-within : (events : List Event) (n : ℕ) (i : Item) → Fits events n i → n ≤ length events
fits-within events n (item.Event x) fits = let within = slice_get_within events n x fits in omega (arith, within)
fits-within events n item.End fits = omega (arith, fits)
fits-within events n (item.Fail cause) fits = fits
fits-within events n (item.Flag value) fits = absurd fits

-- ---- how much is made

pub made-le : (f : List Event → Event → List Event) (n : ℕ) (events : List Event) → length (made_after f [] (take n events)) ≤ length (made_after f [] events)
made-le f n events =
    let whole = ap (λ zs. length (made_after f [] zs)) (sym (take-append-drop n events)) ∙ ap length (made_after-append f [] (take n events) (drop n events)) in
    let sum = length-append (made_after f [] (take n events)) (made_after f (take n events) (drop n events)) in
    omega (arith, whole, sum)

-- what is made of one more event
pub made-more : (f : List Event → Event → List Event) (events before rest : List Event) (x : Event) → before ++ x ∷ rest ≡ events → length (made_after f [] before) + length (f before x) ≤ length (made_after f [] events)
made-more f events before rest x whole =
    let w = ap (λ zs. length (made_after f [] zs)) (sym (append_assoc before (x ∷ []) rest ∙ whole)) ∙ ap length (made_after-append f [] (before ++ x ∷ []) rest) in
    let sum = length-append (made_after f [] (before ++ x ∷ [])) (made_after f (before ++ x ∷ []) rest) in
    let push = ap length (made-push f before x) in
    let two = length-append (made_after f [] before) (f before x) in
    omega (arith, w, sum, push, two)

-- a stage that has quit writes nothing more
pub quiet-rest : (m : Meaning) → IsLawful m → (before rest : List Event) → m.ended before ≡ true → made_after m.down before rest ≡ []
quiet-rest m law before [] e = refl
quiet-rest m law before (x ∷ rest) e =
    ap (λ zs. zs ++ made_after m.down (before ++ x ∷ []) rest) (law.quiet before x e) ∙ quiet-rest m law (before ++ x ∷ []) rest (law.stays_ended before x e)

pub quit-all : (m : Meaning) → IsLawful m → (events before rest : List Event) (x : Event) → before ++ x ∷ rest ≡ events → m.ended (before ++ x ∷ []) ≡ true → length (down_of m before) + length (m.down before x) ≡ length (down_of m events)
quit-all m law events before rest x whole e =
    let w = ap (λ zs. length (down_of m zs)) (sym (append_assoc before (x ∷ []) rest ∙ whole)) ∙ ap length (made_after-append m.down [] (before ++ x ∷ []) rest) in
    let sum = length-append (down_of m (before ++ x ∷ [])) (made_after m.down (before ++ x ∷ []) rest) in
    let none = ap length (quiet-rest m law (before ++ x ∷ []) rest e) in
    let push = ap length (made-push m.down before x) in
    let two = length-append (down_of m before) (m.down before x) in
    omega (arith, w, sum, none, push, two)

-- ---- the end of a stage that has quit

pub length-end : (t : Turned) → length (end_after t) ≤ 1
length-end Open = omega arith
length-end Ended = omega arith

pub goes-on-end : (b : Bool) → all_go_on (end_after (cond b Ended Open)) ≡ not b
goes-on-end true = refl
goes-on-end false = refl

-- what is closed stays closed
pub still-closed : (h a b : Bool) → (a ≡ true → b ≡ true) → ((h && not a) && not b) ≡ (h && not b)
still-closed false a b keeps = refl
still-closed true false b keeps = refl
still-closed true true b keeps = ap not (sym (keeps refl))

pub end-part : (world : World) (lane : Lane) (k : ℕ) (b : Bool) → (b ≡ true → IsGood world (record { lane = lane; number = k; item = item.End })) → AreGood world lane k (end_after (cond b Ended Open))
end-part world lane k true good = (good refl, (λ e. refl), tt)
end-part world lane k false good = tt

pub good-then : (world : World) (lane : Lane) (xs : List Event) (js : List Item) (n : ℕ) → AreGood world lane n (as_items xs) → AreGood world lane (n + length xs) js → AreGood world lane n (as_items xs ++ js)
good-then world lane [] js n good more = let same : n + 0 ≡ n = omega arith in subst (λ k. AreGood world lane k js) same more
good-then world lane (x ∷ xs) js n good more =
    let same : n + length (x ∷ xs) ≡ n + 1 + length xs = omega arith in
    (good.0, (λ e. absurd (both_ways true e refl)), good-then world lane xs js (n + 1) good.2 (subst (λ k. AreGood world lane k js) same more))

-- What is made downwards of an event, with the end where the stage has quit, is good.
pub ends-good : (world : World) (m : Meaning) (law : IsLawful m) (lane : Lane) (events before rest : List Event) (x : Event) (made : ℕ) → lane.kind ≡ Data → content_of world lane ≡ Some (down_of m events) → length (down_of m events) + 1 < MAX_ITEMS
    → before ++ x ∷ rest ≡ events → made ≡ length (down_of m before) → AreGood world lane made (as_items (m.down before x))
    → AreGood world lane made (as_items (m.down before x) ++ end_after (turned_after m (before ++ x ∷ [])))
ends-good world m law lane events before rest x made kind is few whole count good =
    good-then world lane (m.down before x) (end_after (turned_after m (before ++ x ∷ []))) made good
    (end-part world lane (made + length (m.down before x)) (m.ended (before ++ x ∷ []))
    (λ e. let all = quit-all m law events before rest x whole e in
    end-good world lane (down_of m events) (made + length (m.down before x)) kind is few (omega (arith, all, count))))
