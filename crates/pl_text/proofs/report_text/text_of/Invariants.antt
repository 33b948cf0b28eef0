use Rattle.std.proofs.Common.{◌≡◌, ◌++◌, drop}
use Rattle.pl_text.specs.ReportTexts.{channels_text, report_text}
use Rattle.pl_text.proofs.report_text.text_of.Given as goal

abbrev pub invariant-loop-number : goal.invariant-loop-number
invariant-loop-number l =
    l.text.items ++ channels_text l.number (drop l.number l.report.channels) ≡ report_text l.report
