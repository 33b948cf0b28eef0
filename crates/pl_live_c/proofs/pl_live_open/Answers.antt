use Rattle.std.proofs.Common.{rules}
use Rattle.pl_live_c.proofs.pl_live_open.Goals as goal

pub returns-in-Err-clause-plan : goal.returns-in-Err-clause-plan
returns-in-Err-clause-plan c is = c.in-Err.ensures.plan (search rules)
