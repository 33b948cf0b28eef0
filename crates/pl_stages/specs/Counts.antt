-- How much the handlers make of a whole list, by weight: one for each event, and one for each byte that is read.
use Rattle.std.specs.Prelude.{◌≡◌, ℕ, ◌+◌, ◌*◌, ◌≤◌, List, length, sum_by}
use Rattle.pl_event.specs.declared.events.Event.{Event}
use Rattle.pl_event.specs.declared.stages.Direction.TheVariants.{Outbound}
use Rattle.pl_event.specs.Meaning.{Meaning, up_of, down_of}
use Rattle.pl_stages.specs.Cutting.{read_bytes}

-- the weight of an event: one, and one for each byte read
abbrev pub event_weight : Event → ℕ
event_weight x = 1 + length (read_bytes x)

-- the weight of a list of events
abbrev pub weight : List Event → ℕ
weight xs = sum_by event_weight xs

-- Upwards no more weight is made than taken (count_law). Downwards at most two events are made for each one taken,
-- and by an outbound handler at most one.
pub record IsThrifty (m : Meaning) : Type 0 where
  pub upwards : (xs : List Event) → weight (up_of m xs) ≤ weight xs
  pub downwards : (xs : List Event) → length (down_of m xs) ≤ 2 * length xs
  pub outbound : m.direction ≡ Outbound → (xs : List Event) → length (down_of m xs) ≤ length xs
