-- Lines in upper case.
use Rattle.std.specs.Prelude.{◌≤◌, map}
use Rattle.std.specs.Char.{to_ascii_uppercase}
use Rattle.std.proofs.Common.{arith}
use Rattle.pl_event.specs.declared.events.Event.{Event}
use Rattle.pl_event.specs.declared.events.Event.TheVariants.{Active, Read, ReadComplete, Caught, User, Write, Flush}
use Rattle.pl_event.specs.declared.events.Message.TheVariants.{Bytes, Line, Command, Reply}
use Rattle.pl_stages.specs.Counts.{event_weight}

-- a line that is read, with `A` for `a` and so on; every other event as it is
abbrev pub upper_cased : Event → Event
upper_cased (Read (Line line)) = Read (Line (map to_ascii_uppercase line))
upper_cased x = x

-- it makes no longer bytes of any
pub upper_cased-light : (x : Event) → event_weight (upper_cased x) ≤ event_weight x
upper_cased-light (Read (Line line)) = omega arith
upper_cased-light (Read (Bytes b)) = omega arith
upper_cased-light (Read (Command c)) = omega arith
upper_cased-light (Read (Reply r)) = omega arith
upper_cased-light Active = omega arith
upper_cased-light ReadComplete = omega arith
upper_cased-light (Caught c) = omega arith
upper_cased-light (User n) = omega arith
upper_cased-light (Write m) = omega arith
upper_cased-light Flush = omega arith
