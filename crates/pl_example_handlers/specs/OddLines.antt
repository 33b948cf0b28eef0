-- The first, third, fifth and so on of the lines that are read.
use Rattle.std.specs.Prelude.{◌%◌, ◌==◌, ◌≤◌, ◌&&◌, List, [], ◌∷◌, count_by, Bool, true, false, if◌then◌else◌}
use Rattle.std.proofs.Common.{arith}
use Rattle.pl_event.specs.declared.events.Event.{Event}
use Rattle.pl_event.specs.declared.events.Event.TheVariants.{Read}
use Rattle.pl_event.specs.declared.events.Message.TheVariants.{Line}
use Rattle.pl_event.specs.Meaning.{Meaning}
use Rattle.pl_event.specs.Passing.{passing_up}
use Rattle.pl_stages.specs.Counts.{IsThrifty, event_weight, weight}
use Rattle.pl_stages.specs.Thrift.{passing_up-thrifty}

abbrev pub is_line : Event → Bool
is_line (Read (Line line)) = true
is_line _ = false

-- whether the lines among these events are odd in number
abbrev pub is_odd : List Event → Bool
is_odd xs = count_by is_line xs % 2 == 1

-- what is made of an event after others: nothing of a line after an odd number of lines
abbrev pub passed : List Event → Event → List Event
passed xs x = if is_line x && is_odd xs then [] else x ∷ []

abbrev pub odd_lines : Meaning
odd_lines = passing_up passed

passed-light : (is_dropped : Bool) (x : Event) → weight (if is_dropped then [] else x ∷ []) ≤ event_weight x
passed-light true x = omega arith
passed-light false x = omega arith

pub odd_lines-thrifty : IsThrifty odd_lines
odd_lines-thrifty = passing_up-thrifty passed (λ before x. passed-light (is_line x && is_odd before) x)
