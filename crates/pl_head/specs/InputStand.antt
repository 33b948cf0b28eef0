-- What contracts see of a recorded input that is read step by step, and how many of its read steps were made.
use Rattle.std.specs.Prelude.{◌≡◌, ℕ, zero, suc, ◌+◌, ◌-◌, ◌<◌, ◌≤◌, List, [], ◌∷◌, ◌++◌, length, drop, Bool, true, false, not, ◌&&◌, ◌==◌, if◌then◌else◌, None}
use Rattle.std.specs.List.{flat_map}
use Rattle.pl_event.specs.declared.elements.Element.{Element}
use Rattle.pl_event.specs.declared.events.Event.TheVariants as event
use Rattle.pl_event.specs.declared.envelopes.Item.{Item}
use Rattle.pl_event.specs.declared.envelopes.Item.TheVariants as item
use Rattle.pl_event.specs.Inputs.{Bursts, burst_events}
use Rattle.pl_context.specs.declared.ports.Port.{Port}
use Rattle.pl_context.specs.Ports.{as_items, port_after}
use Rattle.pl_head.specs.declared.inputs.ReadPlan.{ReadPlan}
use Rattle.pl_head.specs.ReadSteps.{entrance, read_items, bursts_read, is_aborted, plan_steps, has_step}
use Rattle.pl_event.specs.declared.limits.TheConstants.{MAX_ITEMS}

-- The lane that the items are given to, closed once the end or a failure was; the bursts that are left; how many steps
-- were made; and whether an abort comes after the bursts, in the place of the end.
pub record InputView : Type 0 where
  pub port : Port
  pub left : Bursts
  pub steps : ℕ
  pub aborts : Bool

-- no step was made
abbrev pub new_input : ℕ → ReadPlan → InputView
new_input channel p =
    record { port = record { lane = entrance channel; made = 0; is_open = true }; left = bursts_read p; steps = 0; aborts = is_aborted p }

-- what the next step brings, by the count of steps made and the bursts that are left
abbrev pub next_items : ℕ → Bursts → List Item
next_items zero left = item.Event event.Active ∷ []
next_items (suc n) [] = item.End ∷ []
next_items (suc n) (elements ∷ left) = as_items (burst_events elements)

-- the bursts that are left after it
abbrev pub left_after : ℕ → Bursts → Bursts
left_after zero left = left
left_after (suc n) left = drop 1 left

-- the next step is a burst
abbrev pub burst_next : ℕ → Bursts → Bool
burst_next zero left = false
burst_next (suc n) [] = false
burst_next (suc n) (elements ∷ left) = true

-- no step is left but the end or the abort
abbrev pub last_next : ℕ → Bursts → Bool
last_next zero left = false
last_next (suc n) [] = true
last_next (suc n) (elements ∷ left) = false

-- the next step is the abort
abbrev pub abort_next : InputView → Bool
abort_next r = r.aborts && last_next r.steps r.left

-- one step more was made
abbrev pub input_after_step : InputView → InputView
input_after_step r = record {
  port = port_after (next_items r.steps r.left) r.port;
  left = left_after r.steps r.left;
  steps = r.steps + 1;
  aborts = r.aborts;
}

-- a failure has closed the lane, if it was open
abbrev pub failed_input : InputView → InputView
failed_input r = record r { port = record r.port { made = if r.port.is_open then r.port.made + 1 else r.port.made; is_open = false } }

-- how many read steps are left before the end or the abort: the first one, and one for each burst that is left
abbrev pub steps_left : InputView → ℕ
steps_left r = length r.left + (if r.steps == 0 then 1 else 0)

-- a burst more may come: the lane is open, and no abort is behind the bursts
abbrev pub takes_bursts : InputView → Bool
takes_bursts r = r.port.is_open && not r.aborts

-- one burst more is left, behind the others and before the end
abbrev pub fed_input : List Element → InputView → InputView
fed_input burst r = record r { left = r.left ++ burst ∷ [] }

-- So many read steps were made, and given to the lane, or then a failure, which has closed it. The abort is a failure,
-- and is not counted.
pub record InputStands (p : ReadPlan) (reads : ℕ) (failed : Bool) (r : InputView) : Type 0 where
  pub steps : r.steps ≡ reads
  pub within : reads ≤ plan_steps p
  pub before_abort : is_aborted p ≡ true → reads < plan_steps p
  pub left : r.left ≡ drop (reads - 1) (bursts_read p)
  pub aborts : r.aborts ≡ is_aborted p
  pub made : r.port.made ≡ read_items (bursts_read p) reads + (if failed then 1 else 0)
  pub is_open : r.port.is_open ≡ has_step p reads failed

-- the plan of a channel that was fed so many bursts, and is not aborted
abbrev pub fed_plan : Bursts → ReadPlan
fed_plan bursts = record { bursts = bursts; abort_after = None }

-- An input is fed a burst. That one more is left, and the steps that were made stand by the plan with it.
pub record InputFeeds (burst : List Element) (r r' : InputView) : Type 0 where
  pub fed : r' ≡ fed_input burst r
  pub stands : (bursts : Bursts) (reads : ℕ) → InputStands (fed_plan bursts) reads false r → InputStands (fed_plan (bursts ++ burst ∷ [])) reads false r'

-- how many items are still to come, while the lane is open
abbrev pub items_left : ℕ → Bursts → ℕ
items_left zero left = length (flat_map burst_events left) + 2
items_left (suc n) left = length (flat_map burst_events left) + 1

-- numbers stay in their bounds
pub record IsInput (port : Port) (left : Bursts) (steps : ℕ) : Type 0 where
  pub counts : steps ≤ port.made
  pub few : port.is_open ≡ true → port.made + items_left steps left < MAX_ITEMS
