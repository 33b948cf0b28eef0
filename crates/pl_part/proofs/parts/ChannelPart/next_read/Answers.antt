use Rattle.pl_part.proofs.HeadMoves.{read-given}
use Rattle.pl_part.proofs.PartSteps.{given-none, places-there, given-there, reads-of}
use Rattle.pl_part.proofs.parts.ChannelPart.next_read.Goals as goal

pub returns-in_default-clause-given : goal.returns-in_default-clause-given
returns-in_default-clause-given g c = given-none g.S.Stage.meaning g.S.Stage.stands_after g.T.Transport.state _ _ c.self.view_is c.args.work.now c.requires.holds

pub next_read-requires : goal.next_read-requires
next_read-requires g c = record { places = places-there g.S.Stage.meaning g.S.Stage.stands_after g.T.Transport.state _ _ c.self.view_is c.args.work.now c.requires.holds c.in-Some.head c.in-Some.is c.requires.places }

pub returns-clause-reads : goal.returns-clause-reads
returns-clause-reads g c = reads-of g.T.Transport.state _ _ c.self.view_is c.args.work.now c.in-Some.head c.in-Some.is c.next_read.new.self c.next_read.new.outputs c.next_read.result c.next_read.ensures

pub returns-clause-given : goal.returns-clause-given
returns-clause-given g c =
    given-there g.S.Stage.meaning g.S.Stage.stands_after g.T.Transport.state _ _ c.self.view_is c.args.work.now c.requires.holds c.in-Some.head c.in-Some.is c.next_read.new.self c.next_read.new.outputs
    (λ held. read-given g.T.Transport.state c.in-Some.head c.next_read.new.self c.args.work.now c.next_read.new.outputs held c.next_read.result c.next_read.ensures)
