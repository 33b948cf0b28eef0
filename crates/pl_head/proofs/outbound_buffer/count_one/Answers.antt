use Rattle.std.proofs.Common.{List, ℕ, length, ap, sym}
use Rattle.pl_head.proofs.Renumbering.{one-from, one-below}
use Rattle.pl_head.proofs.outbound_buffer.count_one.Goals as goal

pub returns-then-number-first : goal.returns-then-number-first
returns-then-number-first c = sym (ap (λ (ns : List ℕ). length ns) (one-below c.args.first c.args.number c.if-number-first.true))

pub returns : goal.returns
returns c = sym (ap (λ (ns : List ℕ). length ns) (one-from c.args.first c.args.number c.if-number-first.false))
