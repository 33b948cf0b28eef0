use Rattle.pl_part.proofs.HeadMoves.{abort-given}
use Rattle.pl_part.proofs.PartSteps.{given-none, places-there, given-there, aborts-of}
use Rattle.pl_part.proofs.parts.ChannelPart.abort.Goals as goal

pub returns-in_default-clause-given : goal.returns-in_default-clause-given
returns-in_default-clause-given g c = given-none g.S.Stage.meaning g.S.Stage.stands_after g.T.Transport.state _ _ c.self.view_is c.args.work.now c.requires.holds

pub abort-requires : goal.abort-requires
abort-requires g c = record { places = places-there g.S.Stage.meaning g.S.Stage.stands_after g.T.Transport.state _ _ c.self.view_is c.args.work.now c.requires.holds c.in-Some.head c.in-Some.is c.requires.places }

pub returns-clause-aborts : goal.returns-clause-aborts
returns-clause-aborts g c = aborts-of g.T.Transport.state _ _ c.self.view_is c.args.work.now c.in-Some.head c.in-Some.is c.abort.new.self c.abort.new.outputs c.abort.ensures

pub returns-clause-given : goal.returns-clause-given
returns-clause-given g c =
    given-there g.S.Stage.meaning g.S.Stage.stands_after g.T.Transport.state _ _ c.self.view_is c.args.work.now c.requires.holds c.in-Some.head c.in-Some.is c.abort.new.self c.abort.new.outputs
    (λ held. abort-given g.T.Transport.state c.in-Some.head c.abort.new.self c.args.work.now c.abort.new.outputs held c.abort.ensures)
