-- What an open input was given and what is still to come are together the recorded input and its end: so there is room for a
-- burst more, where the recorded input with it is short.
use Rattle.std.proofs.Common.{◌≡◌, ℕ, zero, suc, ◌+◌, ◌-◌, ◌<◌, ◌≤◌, Bool, true, false, List, [], ◌∷◌, ◌++◌, length, map, take, drop, refl, sym, ap, ◌∙◌, arith, length-append}
use Rattle.std.specs.Prelude.{if◌then◌else◌}
use Rattle.std.specs.List.{flat_map}
use Rattle.std.proofs.lemmas.List.{length-map, take-map, take-append-le, take-append-drop, append-nil}
use Rattle.std.proofs.lemmas.List.Concat.{flat_map-append}
use Rattle.std.proofs.lemmas.List.Folds.{flat_map-map}
use Rattle.std.proofs.lemmas.Bool.{lt-leb, ltb-true}
use Rattle.pl_event.specs.declared.elements.Element.{Element}
use Rattle.pl_event.specs.declared.events.Event.{Event}
use Rattle.pl_event.specs.Inputs.{Bursts, burst_events, recorded_input, input_after}
use Rattle.pl_head.specs.ReadSteps.{step_count, read_items}
use Rattle.pl_head.specs.InputStand.{InputView, InputStands, fed_plan, items_left}
use Rattle.pl_event.specs.declared.limits.TheConstants.{MAX_ITEMS}

abbrev whole : List Event → List Event
whole step = step

-- what the first steps brought, and what the others bring
given : (bursts : Bursts) (n : ℕ) → n < length bursts + 2 → length (input_after n bursts) + items_left n (drop (n - 1) bursts) ≡ length (recorded_input bursts) + 1
given bursts zero few =
    let none : zero - 1 ≡ 0 = omega arith in
    let rest : items_left zero (drop (zero - 1) bursts) ≡ length (flat_map burst_events bursts) + 2 = ap (λ (k : ℕ). items_left zero (drop k bursts)) none in
    let size : length (recorded_input bursts) ≡ suc (length (flat_map burst_events bursts)) = refl in
    omega (arith, rest, size)
given bursts (suc n) few =
    let each = length-map bursts burst_events in
    let first : take n (map burst_events bursts ++ [] ∷ []) ≡ map burst_events (take n bursts) =
    take-append-le n (map burst_events bursts) ([] ∷ []) (omega (arith, few, each)) ∙ take-map burst_events n bursts in
    let came : length (input_after (suc n) bursts) ≡ suc (length (flat_map burst_events (take n bursts))) =
    ap (λ (steps : List (List Event)). suc (length (flat_map whole steps))) first ∙ ap (λ (es : List Event). suc (length es)) (flat_map-map whole burst_events (take n bursts)) in
    let next : suc n - 1 ≡ n = omega arith in
    let rest : items_left (suc n) (drop (suc n - 1) bursts) ≡ length (flat_map burst_events (drop n bursts)) + 1 = ap (λ (k : ℕ). items_left (suc n) (drop k bursts)) next in
    let split = ap (λ (bs : Bursts). length (flat_map burst_events bs)) (sym (take-append-drop n bursts)) in
    let parts = ap (λ (es : List Event). length es) (flat_map-append burst_events (take n bursts) (drop n bursts)) in
    let size : length (recorded_input bursts) ≡ suc (length (flat_map burst_events bursts)) = refl in
    omega (arith, came, rest, split, parts, size, length-append (flat_map burst_events (take n bursts)) (flat_map burst_events (drop n bursts)))

given-all : (bursts : Bursts) (reads : ℕ) (r : InputView) → InputStands (fed_plan bursts) reads false r → r.port.is_open ≡ true → r.port.made + items_left r.steps r.left ≡ length (recorded_input bursts) + 1
given-all bursts reads r s is_open =
    let size = length-append (map burst_events bursts) ([] ∷ []) in
    let each = length-map bursts burst_events in
    let left : reads < step_count bursts = ltb-true reads (step_count bursts) (sym s.is_open ∙ is_open) in
    let none = ap {B = ℕ} (λ (b : Bool). if b then 1 else 0) (lt-leb (step_count bursts) reads left) in
    let items : read_items bursts reads ≡ length (input_after reads bursts) = omega (arith, none) in
    let made = s.made ∙ ap (λ (n : ℕ). n + 0) items in
    let rest : items_left r.steps r.left ≡ items_left reads (drop (reads - 1) bursts) = (λ i. items_left (s.steps i) (s.left i)) in
    omega (arith, made, rest, given bursts reads (omega (arith, left, size, each)))

burst-size : (left : Bursts) (burst : List Element) → length (flat_map burst_events (left ++ burst ∷ [])) ≡ length (flat_map burst_events left) + length (burst_events burst)
burst-size left burst =
    ap (λ (es : List Event). length es) (flat_map-append burst_events left (burst ∷ []) ∙ ap (λ (es : List Event). flat_map burst_events left ++ es) (append-nil (burst_events burst)))
    ∙ length-append (flat_map burst_events left) (burst_events burst)

more-left : (n : ℕ) (left : Bursts) (burst : List Element) → items_left n (left ++ burst ∷ []) ≡ items_left n left + length (burst_events burst)
more-left zero left burst = let size = burst-size left burst in omega (arith, size)
more-left (suc n) left burst = let size = burst-size left burst in omega (arith, size)

pub few-fed : (bursts : Bursts) (burst : List Element) (reads : ℕ) (r : InputView) → InputStands (fed_plan bursts) reads false r → r.port.is_open ≡ true
    → length (recorded_input bursts ++ burst_events burst) + 1 < MAX_ITEMS → r.port.made + items_left r.steps (r.left ++ burst ∷ []) < MAX_ITEMS
few-fed bursts burst reads r s is_open few =
    let all = given-all bursts reads r s is_open in
    let more = more-left r.steps r.left burst in
    let size = length-append (recorded_input bursts) (burst_events burst) in
    omega (arith, all, more, size, few)
