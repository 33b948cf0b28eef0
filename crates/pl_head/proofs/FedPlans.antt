-- A plan of one burst more, behind those that are left: the read steps that were made are the same.
use Rattle.std.proofs.Common.{◌≡◌, ℕ, ◌+◌, ◌-◌, ◌<◌, ◌≤◌, Bool, true, false, List, [], ◌∷◌, ◌++◌, length, map, take, sym, ap, ◌∙◌, arith, length-append}
use Rattle.std.specs.Prelude.{if◌then◌else◌}
use Rattle.std.specs.List.{flat_map}
use Rattle.std.proofs.lemmas.List.{length-map, map-append, append_assoc, take-append-le, drop-append-le}
use Rattle.std.proofs.lemmas.Bool.{lt-leb, lt-ltb, ltb-true}
use Rattle.pl_event.specs.declared.elements.Element.{Element}
use Rattle.pl_event.specs.declared.events.Event.{Event}
use Rattle.pl_event.specs.declared.events.Event.TheVariants as event
use Rattle.pl_event.specs.Inputs.{Bursts, burst_events, read_steps, input_after}
use Rattle.pl_head.specs.ReadSteps.{step_count, read_items}
use Rattle.pl_head.specs.InputStand.{InputView, InputStands, fed_plan, fed_input}

pub count : (bursts : Bursts) → step_count bursts ≡ length bursts + 2
count bursts =
    let size = length-append (map burst_events bursts) ([] ∷ []) in
    let each = length-map bursts burst_events in
    omega (arith, size, each)

-- the steps before the end, to which the end comes, or one burst more and the end
abbrev firsts : Bursts → List (List Event)
firsts bursts = (event.Active ∷ []) ∷ map burst_events bursts

steps-more : (bursts : Bursts) (burst : List Element) → read_steps (bursts ++ burst ∷ []) ≡ firsts bursts ++ (burst_events burst ∷ [] ∷ [])
steps-more bursts burst =
    ap (λ (es : List (List Event)). (event.Active ∷ []) ∷ (es ++ [] ∷ [])) (map-append burst_events bursts (burst ∷ []))
    ∙ ap (λ (es : List (List Event)). (event.Active ∷ []) ∷ es) (append_assoc (map burst_events bursts) (burst_events burst ∷ []) ([] ∷ []))

same-input : (bursts : Bursts) (burst : List Element) (n : ℕ) → n < length bursts + 2 → input_after n (bursts ++ burst ∷ []) ≡ input_after n bursts
same-input bursts burst n h =
    let each = length-map bursts burst_events in
    let within : n ≤ length (firsts bursts) = omega (arith, each, h) in
    let old : take n (read_steps bursts) ≡ take n (firsts bursts) = take-append-le n (firsts bursts) ([] ∷ []) within in
    let new : take n (read_steps (bursts ++ burst ∷ [])) ≡ take n (firsts bursts) =
    ap (λ (es : List (List Event)). take n es) (steps-more bursts burst) ∙ take-append-le n (firsts bursts) (burst_events burst ∷ [] ∷ []) within in
    ap (λ (es : List (List Event)). flat_map (λ step. step) es) (new ∙ sym old)

items-at : (bursts : Bursts) (n : ℕ) → n < length bursts + 2 → read_items bursts n ≡ length (input_after n bursts)
items-at bursts n h =
    let now = ap {B = ℕ} (λ (b : Bool). if b then 1 else 0) (lt-leb (step_count bursts) n (omega (arith, count bursts, h))) in
    omega (arith, now)

same-items : (bursts : Bursts) (burst : List Element) (n : ℕ) → n < length bursts + 2 → read_items (bursts ++ burst ∷ []) n ≡ read_items bursts n
same-items bursts burst n h =
    let size = length-append bursts (burst ∷ []) in
    items-at (bursts ++ burst ∷ []) n (omega (arith, size, h)) ∙ ap (λ (es : List Event). length es) (same-input bursts burst n h) ∙ sym (items-at bursts n h)

pub fed_stands : (bursts : Bursts) (burst : List Element) (reads : ℕ) (r : InputView) → r.port.is_open ≡ true → InputStands (fed_plan bursts) reads false r
    → InputStands (fed_plan (bursts ++ burst ∷ [])) reads false (fed_input burst r)
fed_stands bursts burst reads r is_open s =
    let size = length-append bursts (burst ∷ []) in
    let left : reads < step_count bursts = ltb-true reads (step_count bursts) (sym s.is_open ∙ is_open) in
    let few : reads < length bursts + 2 = omega (arith, left, count bursts) in
    let more : reads < step_count (bursts ++ burst ∷ []) = omega (arith, few, size, count (bursts ++ burst ∷ [])) in
    record {
      steps = s.steps;
      within = omega (arith, more);
      before_abort = λ h. more;
      left = ap (λ (bs : Bursts). bs ++ burst ∷ []) s.left ∙ sym (drop-append-le (reads - 1) bursts (burst ∷ []) (omega (arith, few)));
      aborts = s.aborts;
      made = s.made ∙ ap (λ (n : ℕ). n + 0) (sym (same-items bursts burst reads few));
      is_open = is_open ∙ sym (lt-ltb reads (step_count (bursts ++ burst ∷ [])) more);
    }
