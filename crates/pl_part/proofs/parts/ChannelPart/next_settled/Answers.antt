use Rattle.std.proofs.Common.{Some}
use Rattle.pl_part.specs.Parts.{ChannelPartView}
use Rattle.pl_part.proofs.ToldLemmas.{call-told, call-tells, is-told-holds}
use Rattle.pl_part.proofs.parts.ChannelPart.next_settled.Goals as goal

pub returns-clause-some : goal.returns-clause-some
returns-clause-some g c =
    let v : ChannelPartView _ _ = record { path = c.self.inside.path; head = c.self.inside.head } in
    call-tells c.args.self.now v c.self.view_is c.in-Some.head c.next_settled.new.self c.in-Some.is c.next_settled.result c.next_settled.ensures.some c.next_settled.ensures.outcome

pub returns-clause-told : goal.returns-clause-told
returns-clause-told g c =
    let v : ChannelPartView _ _ = record { path = c.self.inside.path; head = c.self.inside.head } in
    call-told c.args.self.now v c.self.view_is c.in-Some.head c.next_settled.new.self c.in-Some.is c.next_settled.ensures.same

pub returns-clause-holds : goal.returns-clause-holds
returns-clause-holds g c = λ world.
    let v : ChannelPartView _ _ = record { path = c.self.inside.path; head = c.self.inside.head } in
    let told = call-told c.args.self.now v c.self.view_is c.in-Some.head c.next_settled.new.self c.in-Some.is c.next_settled.ensures.same in
    is-told-holds c.args.self.now (record v { head = Some c.next_settled.new.self }) world g.S.Stage.meaning g.S.Stage.stands_after g.T.Transport.state told
