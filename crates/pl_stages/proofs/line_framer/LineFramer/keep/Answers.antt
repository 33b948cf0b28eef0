use Rattle.std.proofs.Common.{length, ap, arith}
use Rattle.std.proofs.lemmas.List.{length-append}
use Rattle.pl_stages.proofs.line_framer.LineFramer.keep.Goals as goal

pub returns-then-len-bytes-clause-kept : goal.returns-then-len-bytes-clause-kept
returns-then-len-bytes-clause-kept c = λ segment keeps.
    let same = rw c.if-self.false at keeps in
    omega (arith, length-append segment c.args.bytes.now, ap length same, c.len.ensures)
