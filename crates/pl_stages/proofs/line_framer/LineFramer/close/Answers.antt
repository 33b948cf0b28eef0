use Rattle.std.proofs.Common.{◌++◌}
use Rattle.pl_stages.proofs.line_framer.LineFramer.close.Goals as goal

pub returns-clause-line : goal.returns-clause-line
returns-clause-line c = λ segment keeps.
    let line = rw c.keep.ensures.max at c.take_line-line.ensures.line in
    rw (← line (segment ++ c.args.bytes.now) (c.in_ok-keep.ensures.kept segment keeps), ← c.reserve.ensures.items)
    c.push_reserved-2.ensures.items
