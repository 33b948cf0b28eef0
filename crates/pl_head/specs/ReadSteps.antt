-- The items that the read steps of a channel bring to its first lane: the events of each step, and after all of them
-- the end. Where the channel is aborted, the abort is the last step, in the place of the end, and fewer bursts may come.
use Rattle.std.specs.Prelude.{ℕ, ◌+◌, List, [], ◌∷◌, ◌++◌, length, map, take, Bool, ◌&&◌, ◌||◌, not, is_some, if◌then◌else◌, nat_le, nat_lt, slice_index_or, Option, Some, None}
use Rattle.std.specs.Borrow.{Bor}
use Rattle.pl_event.specs.declared.elements.Element.{Element}
use Rattle.pl_event.specs.declared.elements.Element.TheVariants.{Chunk}
use Rattle.pl_event.specs.declared.envelopes.Lane.{Lane}
use Rattle.pl_event.specs.declared.envelopes.Item.{Item}
use Rattle.pl_event.specs.declared.envelopes.Item.TheVariants as item
use Rattle.pl_event.specs.declared.outcomes.Cause.{Cause}
use Rattle.pl_event.specs.Hops.{data_lane}
use Rattle.pl_event.specs.Inputs.{Bursts, read_steps, input_after}
use Rattle.pl_context.specs.Ports.{as_items}
use Rattle.pl_head.specs.declared.inputs.ReadPlan.{ReadPlan}

-- a burst of these chunks, without a user event
abbrev pub chunk_burst : List (Bor (List ℕ)) → List Element
chunk_burst chunks = map (λ chunk. Chunk chunk.now) chunks

-- such bursts, to be read to their end
abbrev pub chunk_plan : List (Bor (List (Bor (List ℕ)))) → ReadPlan
chunk_plan bursts = record { bursts = map (λ burst. chunk_burst burst.now) bursts; abort_after = None }

-- the lane on which a channel's input comes in
abbrev pub entrance : ℕ → Lane
entrance channel = data_lane channel 0

-- how many read steps there are: the first, one for each burst, and the end
abbrev pub step_count : Bursts → ℕ
step_count bursts = length (read_steps bursts)

abbrev pub end_if : Bool → List Item
end_if b = if b then item.End ∷ [] else []

-- the items that read step n brings, counted from 0: the last brings the end
abbrev pub step_items : Bursts → ℕ → List Item
step_items bursts n = as_items (slice_index_or (read_steps bursts) n []) ++ end_if (nat_le (step_count bursts) (n + 1))

-- how many items the first n read steps bring
abbrev pub read_items : Bursts → ℕ → ℕ
read_items bursts n = length (input_after n bursts) + (if nat_le (step_count bursts) n then 1 else 0)

-- read step n is a burst
abbrev pub is_burst : Bursts → ℕ → Bool
is_burst bursts n = nat_lt 0 n && nat_le n (length bursts)

-- ---- with an abort

-- all of these bursts, or as many as come before an abort
abbrev pub bursts_before : Option ℕ → Bursts → Bursts
bursts_before None bursts = bursts
bursts_before (Some count) bursts = take count bursts

-- the bursts that are read
abbrev pub bursts_read : ReadPlan → Bursts
bursts_read p = bursts_before p.abort_after p.bursts

abbrev pub is_aborted : ReadPlan → Bool
is_aborted p = is_some p.abort_after

-- how many read steps there are, the abort among them
abbrev pub plan_steps : ReadPlan → ℕ
plan_steps p = step_count (bursts_read p)

-- read step n is the abort
abbrev pub is_abort : ReadPlan → ℕ → Bool
is_abort p n = is_aborted p && nat_le (plan_steps p) (n + 1)

-- A read step is left, when n were made. The lane is open, and no failure has closed it.
abbrev pub has_step : ReadPlan → ℕ → Bool → Bool
has_step p n failed = not failed && nat_lt n (plan_steps p)

-- The next read step brings a failure. It does once the head has failed by itself, or by the abort.
abbrev pub brings_failure : ReadPlan → ℕ → Option Cause → Bool
brings_failure p n failure = is_some failure || is_abort p n

-- the next read step aborts the head
abbrev pub brings_abort : ReadPlan → ℕ → Option Cause → Bool
brings_abort p n failure = not (is_some failure) && is_abort p n

-- The items of a read step. It is one that does not abort the head.
abbrev pub next_step_items : ReadPlan → ℕ → Option Cause → List Item
next_step_items p n None = step_items (bursts_read p) n
next_step_items p n (Some cause) = item.Fail cause ∷ []

-- How many read steps are counted after the next. One that brings a failure is not counted.
abbrev pub steps_after : ReadPlan → ℕ → Option Cause → ℕ
steps_after p n failure = if brings_failure p n failure then n else n + 1
