use Rattle.pl_part.proofs.HeadMoves.{write-given}
use Rattle.pl_part.proofs.PartSteps.{beside, given-none, places-there, given-there, writes-of}
use Rattle.pl_part.proofs.parts.ChannelPart.write_once.Goals as goal

pub returns-in_default-clause-given : goal.returns-in_default-clause-given
returns-in_default-clause-given g c = given-none g.S.Stage.meaning g.S.Stage.stands_after g.T.Transport.state _ _ c.self.view_is c.args.work.now c.requires.holds

pub write_once-requires : goal.write_once-requires
write_once-requires g c = record { places = beside c.args.work.now.stopped c.in-Some.head.channel (places-there g.S.Stage.meaning g.S.Stage.stands_after g.T.Transport.state _ _ c.self.view_is c.args.work.now c.requires.holds c.in-Some.head c.in-Some.is c.requires.places) }

pub returns-clause-writes_out : goal.returns-clause-writes_out
returns-clause-writes_out g c = writes-of g.T.Transport.state _ _ c.self.view_is c.args.work.now c.in-Some.head c.in-Some.is c.write_once.new.self c.write_once.new.outputs g.T.Transport.may_refuse c.write_once.result c.write_once.ensures

pub returns-clause-given : goal.returns-clause-given
returns-clause-given g c =
    given-there g.S.Stage.meaning g.S.Stage.stands_after g.T.Transport.state _ _ c.self.view_is c.args.work.now c.requires.holds c.in-Some.head c.in-Some.is c.write_once.new.self c.write_once.new.outputs
    (λ held. write-given g.T.Transport.state c.in-Some.head c.write_once.new.self c.args.work.now c.write_once.new.outputs held g.T.Transport.may_refuse c.write_once.result c.write_once.ensures)
