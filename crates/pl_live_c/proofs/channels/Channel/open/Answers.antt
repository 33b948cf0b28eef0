use Rattle.std.proofs.Common.{rules}
use Rattle.pl_live_c.proofs.channels.Channel.open.Goals as goal

pub returns-in_err-pipeline-clause-plan : goal.returns-in_err-pipeline-clause-plan
returns-in_err-pipeline-clause-plan c is = c.in_err-pipeline.ensures.plan (search rules)
