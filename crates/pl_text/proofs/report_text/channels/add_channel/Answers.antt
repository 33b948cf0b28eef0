use Rattle.std.proofs.Common.{rules, append_assoc}
use Rattle.std.proofs.lemmas.Result.{IfOk-equal}
use Rattle.pl_text.proofs.report_text.channels.add_channel.Goals as goal

pub returns : goal.returns
returns c = search (rules, IfOk-equal, append_assoc)
