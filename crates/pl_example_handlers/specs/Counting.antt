-- Lines, counted.
use Rattle.std.specs.Prelude.{ℕ, ◌-◌, ◌^◌, List, count_by, min}
use Rattle.std.proofs.Common.{arith}
use Rattle.pl_event.specs.declared.events.Event.{Event}
use Rattle.pl_event.specs.Meaning.{Meaning}
use Rattle.pl_event.specs.Mappings.{mapping_up}
use Rattle.pl_stages.specs.Counts.{IsThrifty}
use Rattle.pl_stages.specs.Thrift.{mapping_up-thrifty}
use Rattle.pl_example_handlers.specs.OddLines.{is_line}

-- how many of these events are lines, as far as a field of 64 bits can tell
abbrev pub lines : List Event → ℕ
lines xs = min (count_by is_line xs) (2 ^ 64 - 1)

-- every event passes
abbrev pub counting : Meaning
counting = mapping_up (λ x. x)

pub counting-thrifty : IsThrifty counting
counting-thrifty = mapping_up-thrifty (λ x. x) (λ x. omega arith)
