-- What read steps bring fits on the first lane of a channel.
use Rattle.std.proofs.Common.{◌≡◌, ℕ, ◌+◌, ◌≤◌, ◌<◌, Bool, true, false, List, [], ◌∷◌, ◌++◌, length, take, drop, get_or, refl, sym, ap, ◌∙◌, arith, append-nil, append_assoc, length-append, Option, Some, None}
use Rattle.std.specs.Prelude.{◌&&◌, if◌then◌else◌, nat_le, is_some}
use Rattle.std.specs.List.{flat_map}
use Rattle.std.proofs.lemmas.List.{take_more, take-append-drop}
use Rattle.std.proofs.lemmas.Bool.{lt-leb, leb-true, both_ways}
use Rattle.std.proofs.lemmas.Grind.{flat_map-append}
use Rattle.pl_event.specs.declared.events.Event.{Event}
use Rattle.pl_event.specs.declared.events.Event.TheVariants as event
use Rattle.pl_event.specs.declared.envelopes.Kind.TheVariants.{Data}
use Rattle.pl_event.specs.declared.envelopes.Lane.{Lane}
use Rattle.pl_event.specs.Inputs.{Bursts, burst_events, recorded_input, read_steps, input_after}
use Rattle.pl_event.specs.Worlds.{World, content_of}
use Rattle.pl_event.proofs.LaneLemmas.{input_after-prefix, input_after-all}
use Rattle.pl_flow.specs.Makes.{AreGood}
use Rattle.pl_flow.proofs.ItemLemmas.{end-good}
use Rattle.pl_flow.proofs.StageFlows.{events-good}
use Rattle.pl_head.specs.declared.inputs.ReadPlan.{ReadPlan}
use Rattle.pl_head.specs.ReadSteps.{step_count, end_if, step_items, read_items, bursts_before, bursts_read, plan_steps, is_abort}
use Rattle.pl_part.proofs.EventLists.{good-then}
use Rattle.pl_event.specs.declared.limits.TheConstants.{MAX_ITEMS}

abbrev whole : List Event → List Event
whole step = step

-- ---- the bursts before an abort

-- they bring the first events of all
rest-of : (count : Option ℕ) (bursts : Bursts) → (more : List Event) × (recorded_input (bursts_before count bursts) ++ more ≡ recorded_input bursts)
rest-of None bursts = ([], append-nil (recorded_input bursts))
rest-of (Some n) bursts = (
  flat_map burst_events (drop n bursts),
  ap (λ (es : List Event). event.Active ∷ es) (sym (flat_map-append burst_events (take n bursts) (drop n bursts)) ∙ ap (flat_map burst_events) (take-append-drop n bursts)),
)

all-of : (count : Option ℕ) (bursts : Bursts) → is_some count ≡ false → bursts_before count bursts ≡ bursts
all-of None bursts e = refl
all-of (Some n) bursts e = absurd (both_ways true e refl)

pub one-most : (b : Bool) → (if b then 1 else 0) ≤ 1
one-most true = omega arith
one-most false = omega arith

-- no more is brought than is recorded, and the end
pub items-most : (p : ReadPlan) (n : ℕ) → read_items (bursts_read p) n ≤ length (recorded_input p.bursts) + 1
items-most p n =
    let first = input_after-prefix n (bursts_read p) in
    let more = rest-of p.abort_after p.bursts in
    let some = ap length (sym first.1) ∙ length-append (input_after n (bursts_read p)) first.0 in
    let all = ap length (sym more.1) ∙ length-append (recorded_input (bursts_read p)) more.0 in
    let end = one-most (nat_le (step_count (bursts_read p)) n) in
    omega (arith, some, all, end)

-- ---- one step

module _ (p : ReadPlan) (n : ℕ) (within : n < plan_steps p) where
  abbrev bursts : Bursts
  bursts = bursts_read p

  abbrev step : List Event
  step = get_or (read_steps bursts) n []

  one-more : input_after (n + 1) bursts ≡ input_after n bursts ++ step
  one-more =
      ap (λ (steps : List (List Event)). flat_map whole steps) (take_more (read_steps bursts) n [] within)
      ∙ flat_map-append whole (take n (read_steps bursts)) (step ∷ [])
      ∙ ap (λ (xs : List Event). input_after n bursts ++ xs) (append-nil step)

  rest : (rest : List Event) × (input_after n bursts ++ (step ++ rest) ≡ recorded_input p.bursts)
  rest =
      let first = input_after-prefix (n + 1) bursts in
      let more = rest-of p.abort_after p.bursts in (
        first.0 ++ more.0,
        sym (append_assoc (input_after n bursts) step (first.0 ++ more.0))
            ∙ ap (λ (xs : List Event). xs ++ (first.0 ++ more.0)) (sym one-more)
            ∙ sym (append_assoc (input_after (n + 1) bursts) first.0 more.0)
            ∙ ap (λ (xs : List Event). xs ++ more.0) first.1
            ∙ more.1,
      )

  -- the number of its first item
  number : read_items bursts n ≡ length (input_after n bursts)
  number = let none = ap {B = ℕ} (λ (b : Bool). if b then 1 else 0) (lt-leb (step_count bursts) n within) in omega (arith, none)

  -- no more came than is recorded
  pub number-within : read_items (bursts_read p) n ≤ length (recorded_input p.bursts)
  number-within =
      let all = ap length (sym rest.1) ∙ length-append (input_after n bursts) (step ++ rest.0) in
      omega (arith, all, number)

  last-number : is_abort p n ≡ false → nat_le (step_count bursts) (n + 1) ≡ true → read_items bursts n + length step ≡ length (recorded_input p.bursts)
  last-number off last =
      let plain : is_some p.abort_after ≡ false = not-both (is_some p.abort_after) (nat_le (step_count bursts) (n + 1)) off last in
      let all : input_after (n + 1) bursts ≡ recorded_input p.bursts = input_after-all (n + 1) bursts (leb-true (step_count bursts) (n + 1) last) ∙ ap recorded_input (all-of p.abort_after p.bursts plain) in
      let size = ap length (sym one-more ∙ all) in
      let sum = length-append (input_after n bursts) step in
      omega (arith, number, sum, size)
    where
      not-both : (a b : Bool) → (a && b) ≡ false → b ≡ true → a ≡ false
      not-both true b e f = absurd (both_ways b e f)
      not-both false b e f = refl

  -- Its items may stand there, where it is not the abort.
  pub step-good : (world : World) (lane : Lane) → lane.kind ≡ Data → content_of world lane ≡ Some (recorded_input p.bursts) → length (recorded_input p.bursts) + 1 < MAX_ITEMS → is_abort p n ≡ false
      → AreGood world lane (read_items (bursts_read p) n) (step_items (bursts_read p) n)
  step-good world lane kind is few off =
      good-then world lane step (end_if (nat_le (step_count bursts) (n + 1))) (read_items bursts n)
      (events-good world lane (recorded_input p.bursts) kind is few (input_after n bursts) step rest.0 (read_items bursts n) rest.1 number)
      (end (nat_le (step_count bursts) (n + 1)) refl)
    where
      end : (b : Bool) → nat_le (step_count bursts) (n + 1) ≡ b → AreGood world lane (read_items bursts n + length step) (end_if b)
      end false e = tt
      end true e = (end-good world lane (recorded_input p.bursts) (read_items bursts n + length step) kind is few (last-number off e), (λ g. refl), tt)
