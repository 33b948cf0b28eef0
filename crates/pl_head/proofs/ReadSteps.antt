-- A read step: what it brings, and what is left behind it.
use Rattle.std.proofs.Common.{◌≡◌, ℕ, zero, suc, ◌+◌, ◌-◌, ◌<◌, ◌≤◌, Bool, true, false, List, [], ◌∷◌, ◌++◌, length, map, take, drop, get_or, refl, sym, ap, ap₂, subst, ◌∙◌, arith, append-nil, length-append, add-zero, not, Option, Some, None}
use Rattle.std.specs.Prelude.{◌&&◌, if◌then◌else◌, nat_le, nat_lt}
use Rattle.std.specs.List.{flat_map}
use Rattle.std.proofs.lemmas.List.{length-map, take_more, take-append-drop, nil_from_length, length-drop}
use Rattle.std.proofs.lemmas.List.Concat.{flat_map-cons}
use Rattle.std.proofs.lemmas.Bool.{lt-leb, le-leb, lt-ltb, le-ltb, ltb-true, leb-false}
use Rattle.std.proofs.lemmas.Grind.{flat_map-append}
use Rattle.pl_event.specs.declared.events.Event.{Event}
use Rattle.pl_event.specs.declared.events.Event.TheVariants as event
use Rattle.pl_event.specs.declared.envelopes.Item.{Item}
use Rattle.pl_event.specs.declared.envelopes.Item.TheVariants as item
use Rattle.pl_event.specs.declared.elements.Element.{Element}
use Rattle.pl_event.specs.Inputs.{Bursts, burst_events, read_steps, input_after}
use Rattle.pl_context.specs.declared.ports.Port.{Port}
use Rattle.pl_context.specs.Ports.{as_items, all_go_on, port_after}
use Rattle.pl_context.proofs.PortLemmas.{all_go_on-events}
use Rattle.pl_head.specs.declared.inputs.ReadPlan.{ReadPlan}
use Rattle.pl_head.specs.ReadSteps.{step_count, end_if, step_items, read_items, is_burst, bursts_before, bursts_read, is_aborted, plan_steps, is_abort, has_step}
use Rattle.pl_head.specs.InputStand.{InputView, next_items, left_after, burst_next, last_next, abort_next, input_after_step, InputStands, items_left}

-- ---- the steps of bursts

length-steps : (bursts : Bursts) → step_count bursts ≡ length bursts + 2
length-steps bursts =
    let size = length-append (map burst_events bursts) ([] ∷ []) in
    let each = length-map bursts burst_events in
    omega (arith, size, each)

-- burst j is read step j + 1
step-burst : (bursts : Bursts) (j : ℕ) (elements : List Element) (left : Bursts) → elements ∷ left ≡ drop j bursts
    → get_or (map burst_events bursts ++ [] ∷ []) j [] ≡ burst_events elements
step-burst [] zero elements left h = cc
step-burst [] (suc j) elements left h = cc
step-burst (b ∷ bs) zero elements left h = let same : b ≡ elements = cc in ap burst_events same
step-burst (b ∷ bs) (suc j) elements left h = step-burst bs j elements left h

step-end : (bursts : Bursts) → get_or (map burst_events bursts ++ [] ∷ []) (length bursts) [] ≡ []
step-end [] = refl
step-end (b ∷ bs) = step-end bs

drop-next : {A : Type 0} (j : ℕ) (x : A) (xs ys : List A) → x ∷ xs ≡ drop j ys → xs ≡ drop (suc j) ys
drop-next zero x xs [] h = cc
drop-next zero x xs (y ∷ ys) h = cc
drop-next (suc j) x xs [] h = cc
drop-next (suc j) x xs (y ∷ ys) h = drop-next j x xs ys h

drop-some : {A : Type 0} (j : ℕ) (x : A) (xs ys : List A) → x ∷ xs ≡ drop j ys → j < length ys
drop-some {A = A} j x xs ys h =
    let size = ap (λ (t : List A). length t) h in
    let rest = length-drop j ys in
    omega (arith, size, rest)

-- ---- numbers

pub left-burst : (elements : List Element) (left : Bursts) → length (flat_map burst_events (elements ∷ left)) ≡ length (burst_events elements) + length (flat_map burst_events left)
left-burst elements left = ap (λ (es : List Event). length es) (flat_map-cons burst_events elements left) ∙ length-append (burst_events elements) (flat_map burst_events left)

-- the bursts before an abort bring no more than all
pub few_before : (count : Option ℕ) (bursts : Bursts) → length (flat_map burst_events (bursts_before count bursts)) ≤ length (flat_map burst_events bursts)
few_before None bursts = omega arith
few_before (Some count) bursts =
    let first : List Event = flat_map burst_events (take count bursts) in
    let rest : List Event = flat_map burst_events (drop count bursts) in
    let split = ap (λ (bs : Bursts). length (flat_map burst_events bs)) (sym (take-append-drop count bursts)) in
    let parts = ap (λ (es : List Event). length es) (flat_map-append burst_events (take count bursts) (drop count bursts)) in
    omega (arith, split, parts, length-append first rest)

-- ---- the next one

-- what the next step is, by the count of steps and what is left
pub record NextIs (n : ℕ) (left : Bursts) (items : List Item) (rest : Bursts) (count : ℕ) : Type 0 where
  pub items_are : next_items n left ≡ items
  pub rest_is : left_after n left ≡ rest
  pub count_is : items_left n left ≡ length items + count

pub burst_step : (n : ℕ) (left : Bursts) (elements : List Element) (rest : Bursts) → 0 < n → left ≡ elements ∷ rest
    → NextIs n left (as_items (burst_events elements)) rest (items_left 1 rest)
burst_step zero left elements rest h is = absurd (omega (arith, h))
burst_step (suc n) left elements rest h is =
    let size = left-burst elements rest in
    let each = length-map (burst_events elements) (λ (x : Event). item.Event x) in
    subst (λ (l : Bursts). NextIs (suc n) l (as_items (burst_events elements)) rest (items_left 1 rest)) (sym is)
    (record { items_are = refl; rest_is = refl; count_is = omega (arith, size, each) })

-- an open port after items
pub port_after-open : (items : List Item) (p q : Port) (goes_on : Bool) → p.is_open ≡ true → all_go_on items ≡ goes_on → q ≡ record p { made = p.made + length items; is_open = goes_on } → q ≡ port_after items p
port_after-open items p q goes_on o all is =
    is ∙ ap₂ (λ (n : ℕ) (b : Bool). record p { made = n; is_open = b })
    (sym (ap (λ (b : Bool). if b then p.made + length items else p.made) o))
    (sym all ∙ sym (ap (λ (b : Bool). b && all_go_on items) o))

-- Of read step n the items are known by what is left of the bursts.
pub record NextStep (bursts : Bursts) (n : ℕ) (left : Bursts) : Type 0 where
  pub items : next_items n left ≡ step_items bursts n
  pub rest : left_after n left ≡ drop n bursts
  pub goes_on : all_go_on (next_items n left) ≡ nat_lt (n + 1) (step_count bursts)
  pub burst : burst_next n left ≡ is_burst bursts n
  pub last : last_next n left ≡ nat_le (step_count bursts) (n + 1)

no_end : (bursts : Bursts) (n : ℕ) (is : List Item) → n + 1 < step_count bursts → is ++ end_if (nat_le (step_count bursts) (n + 1)) ≡ is
no_end bursts n is more = ap (λ (b : Bool). is ++ end_if b) (lt-leb (step_count bursts) (n + 1) more) ∙ append-nil is

pub next_step : (bursts : Bursts) (n : ℕ) (left : Bursts) → n < step_count bursts → left ≡ drop (n - 1) bursts → NextStep bursts n left
next_step bursts zero left within is =
    let more : 0 + 1 < step_count bursts = omega (arith, length-steps bursts) in
    record {
      items = sym (no_end bursts 0 (item.Event event.Active ∷ []) more);
      rest = is;
      goes_on = sym (lt-ltb (0 + 1) (step_count bursts) more);
      burst = refl;
      last = sym (lt-leb (step_count bursts) (0 + 1) more);
    }
next_step bursts (suc j) (elements ∷ left) within is =
    let place : suc j - 1 ≡ j = omega arith in
    let here : elements ∷ left ≡ drop j bursts = is ∙ ap (λ (k : ℕ). drop k bursts) place in
    let some : j < length bursts = drop-some j elements left bursts here in
    let more : suc j + 1 < step_count bursts = omega (arith, length-steps bursts, some) in
    record {
      items = ap as_items (sym (step-burst bursts j elements left here)) ∙ sym (no_end bursts (suc j) (as_items (get_or (map burst_events bursts ++ [] ∷ []) j [])) more);
      rest = drop-next j elements left bursts here;
      goes_on = all_go_on-events (burst_events elements) ∙ sym (lt-ltb (suc j + 1) (step_count bursts) more);
      burst = sym (ap₂ (λ (a b : Bool). a && b) (lt-ltb 0 (suc j) (omega arith)) (le-leb (suc j) (length bursts) (omega (arith, some))));
      last = sym (lt-leb (step_count bursts) (suc j + 1) more);
    }
next_step bursts (suc j) [] within is =
    let place : suc j - 1 ≡ j = omega arith in
    let here : [] ≡ drop j bursts = is ∙ ap (λ (k : ℕ). drop k bursts) place in
    let none = ap (λ (t : Bursts). length t) here in
    let rest = length-drop j bursts in
    let last : j ≡ length bursts = omega (arith, none, rest, within, length-steps bursts) in
    let past : step_count bursts ≤ suc j + 1 = omega (arith, length-steps bursts, last) in
    record {
      items =
          sym (ap₂ (λ (es : List Event) (b : Bool). as_items es ++ end_if b)
          (ap (λ (k : ℕ). get_or (map burst_events bursts ++ [] ∷ []) k []) last ∙ step-end bursts)
          (le-leb (step_count bursts) (suc j + 1) past));
      rest = sym (nil_from_length (drop (suc j) bursts) (omega (arith, length-drop (suc j) bursts, last)));
      goes_on = sym (le-ltb (suc j + 1) (step_count bursts) past);
      burst = sym (ap₂ (λ (a b : Bool). a && b) (lt-ltb 0 (suc j) (omega arith)) (lt-leb (suc j) (length bursts) (omega (arith, last))));
      last = sym (le-leb (step_count bursts) (suc j + 1) past);
    }

-- ---- how many items

count_step : (bursts : Bursts) (n : ℕ) → n < step_count bursts → read_items bursts (n + 1) ≡ read_items bursts n + length (step_items bursts n)
count_step bursts n within =
    let step = get_or (read_steps bursts) n [] in
    let brought : length (input_after (n + 1) bursts) ≡ length (input_after n bursts) + length step =
    ap (λ (steps : List (List Event)). length (flat_map (λ (s : List Event). s) steps)) (take_more (read_steps bursts) n [] within)
    ∙ ap (λ (xs : List Event). length xs) (flat_map-append (λ (s : List Event). s) (take n (read_steps bursts)) (step ∷ []) ∙ ap (λ (xs : List Event). input_after n bursts ++ xs) (append-nil step))
    ∙ length-append (input_after n bursts) step in
    let now = ap {B = ℕ} (λ (b : Bool). if b then 1 else 0) (lt-leb (step_count bursts) n within) in
    let size = length-append (as_items step) (end_if (nat_le (step_count bursts) (n + 1))) in
    let events = length-map step (λ (x : Event). item.Event x) in
    let end = one (nat_le (step_count bursts) (n + 1)) in
    omega (arith, brought, now, size, events, end)
  where
    one : (b : Bool) → length (end_if b) ≡ (if b then 1 else 0)
    one true = refl
    one false = refl

-- ---- one step more was made

open-not-failed : (p : ReadPlan) (n : ℕ) (failed : Bool) → has_step p n failed ≡ true → (failed ≡ false) × (nat_lt n (plan_steps p) ≡ true)
open-not-failed p n false e = (refl, e)
open-not-failed p n true e = cc e

module _ (p : ReadPlan) (reads : ℕ) (failed : Bool) (r : InputView) (s : InputStands p reads failed r) (open_ : r.port.is_open ≡ true) where
  abbrev bursts : Bursts
  bursts = bursts_read p

  goes : (failed ≡ false) × (nat_lt reads (plan_steps p) ≡ true)
  goes = open-not-failed p reads failed (sym s.is_open ∙ open_)

  is_left : reads < step_count bursts
  is_left = ltb-true reads (step_count bursts) goes.1

  next : NextStep bursts reads r.left
  next = next_step bursts reads r.left is_left s.left

  made_is : r.port.made ≡ read_items bursts reads
  made_is = s.made ∙ ap (λ (b : Bool). read_items bursts reads + (if b then 1 else 0)) goes.0 ∙ add-zero (read_items bursts reads)

  pub items_of_step : next_items r.steps r.left ≡ step_items (bursts_read p) reads
  items_of_step = ap (λ (n : ℕ). next_items n r.left) s.steps ∙ next.items

  -- the number of the next item
  pub number_of_step : r.port.made ≡ read_items (bursts_read p) reads
  number_of_step = made_is

  pub abort_is : abort_next r ≡ is_abort p reads
  abort_is = ap₂ (λ (a b : Bool). a && b) s.aborts (ap (λ (n : ℕ). last_next n r.left) s.steps ∙ next.last)

  -- a step that is not the abort
  pub stands_after : abort_next r ≡ false → InputStands p (reads + 1) failed (input_after_step r)
  stands_after other =
      let place : reads + 1 - 1 ≡ reads = omega arith in
      let more = ap (λ (is : List Item). length is) items_of_step in
      let count = count_step bursts reads is_left in
      record {
        steps = ap (λ (n : ℕ). n + 1) s.steps;
        within = omega (arith, is_left);
        before_abort = λ aborts. before_last (sym abort_is ∙ other) aborts;
        left = ap (λ (n : ℕ). left_after n r.left) s.steps ∙ next.rest ∙ ap (λ (n : ℕ). drop n bursts) (sym place);
        aborts = s.aborts;
        made =
            ap (λ (b : Bool). if b then r.port.made + length (next_items r.steps r.left) else r.port.made) open_
            ∙ (omega (arith, made_is, more, count))
            ∙ sym (ap (λ (b : Bool). read_items bursts (reads + 1) + (if b then 1 else 0)) goes.0 ∙ add-zero (read_items bursts (reads + 1)));
        is_open =
            ap (λ (b : Bool). b && all_go_on (next_items r.steps r.left)) open_ ∙ ap (λ (n : ℕ). all_go_on (next_items n r.left)) s.steps ∙ next.goes_on
            ∙ sym (ap (λ (b : Bool). not b && nat_lt (reads + 1) (plan_steps p)) goes.0);
      }
    where
      before_last : is_abort p reads ≡ false → is_aborted p ≡ true → reads + 1 < plan_steps p
      before_last none aborts = leb-false (plan_steps p) (reads + 1) (sym (ap (λ (b : Bool). b && nat_le (plan_steps p) (reads + 1)) aborts) ∙ none)
