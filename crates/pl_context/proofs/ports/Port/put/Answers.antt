use Rattle.pl_context.proofs.PortLemmas.{put-appends}
use Rattle.pl_context.proofs.ports.Port.put.Goals as goal

pub returns-clause-room : goal.returns-clause-room
returns-clause-room c = λ room. put-appends c.args.self.now c.args.item c.args.outputs.now c.put.new.self c.put.result c.if-not-self.false c.put.ensures room
