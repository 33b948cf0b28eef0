use Rattle.std.proofs.Common.{arith}
use Rattle.pl_build.proofs.GroupLemmas.{too_many, few}
use Rattle.pl_build.proofs.grouping.are_few.Goals as goal

pub returns-then-group-left : goal.returns-then-group-left
returns-then-group-left c = too_many c.args.loops _ _ c.args.groups.now _ c.loop-group-test.true c.loop-group.invariant c.if-group-left.true

pub returns : goal.returns
returns c = few c.args.loops _ c.loop-group.group-index c.args.groups.now (omega arith) c.loop-group.invariant
