use Rattle.std.proofs.Common.{◌≡◌, ◌++◌, drop}
use Rattle.pl_text.specs.ReportTexts.{write_lines}
use Rattle.pl_text.proofs.report_text.channels.add_writes.Given as goal

-- what is written, and what is still to be written
abbrev pub invariant-loop-number : goal.invariant-loop-number
invariant-loop-number l =
    l.text.items ++ write_lines l.number (drop l.number l.writes) ≡ l.fn.text.items ++ write_lines 0 l.writes
