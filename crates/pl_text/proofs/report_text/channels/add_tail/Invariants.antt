use Rattle.std.proofs.Common.{◌≡◌, ◌++◌, take}
use Rattle.std.specs.List.{flat_map}
use Rattle.pl_text.specs.ReportTexts.{event_line}
use Rattle.pl_text.proofs.report_text.channels.add_tail.Given as goal

abbrev pub invariant-loop-event : goal.invariant-loop-event
invariant-loop-event l = l.text.items ≡ l.fn.text.items ++ flat_map event_line (take l.event-index l.events)
