use Rattle.std.proofs.Common.{◌≤◌, length}
use Rattle.pl_text.specs.declared.session_text.limits.TheConstants.{MAX_SESSION_TEXT}
use Rattle.std.specs.Io.KnownBytes.{Consumes}
use Rattle.pl_tool.proofs.program.input.read_input.Given as goal

abbrev pub invariant-loop : goal.invariant-loop
invariant-loop g l = record {
  taken : Consumes (g.R.Read.remaining l.fn.reader) (g.R.Read.remaining l.reader) l.input.items;
  fits : length l.input.items ≤ MAX_SESSION_TEXT;
}
