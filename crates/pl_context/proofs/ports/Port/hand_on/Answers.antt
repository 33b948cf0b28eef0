use Rattle.pl_context.specs.declared.added.Added.TheVariants.{Last}
use Rattle.pl_context.proofs.PortLemmas.{none-stopped, port_after-one, put-appends}
use Rattle.pl_context.proofs.ports.Port.hand_on.Goals as goal

pub put_reserved-requires-clause-goes_on : goal.put_reserved-requires-clause-goes_on
put_reserved-requires-clause-goes_on c = none-stopped c.args.outputs.now.stopped c.args.self.now.lane c.requires.none

pub returns-clause-port : goal.returns-clause-port
returns-clause-port c = port_after-one c.args.self.now c.args.envelope.item c.if-not-self.false c.requires.event

pub returns-clause-out : goal.returns-clause-out
returns-clause-out c =
    put-appends c.args.self.now c.args.envelope.item c.args.outputs.now c.put_reserved.new.self Last c.if-not-self.false c.put_reserved.ensures (c.requires.room c.if-not-self.false)
