use Rattle.std.proofs.Common.{ap, arith}
use Rattle.pl_part.proofs.PartSteps.{beside, head-places, head-taken, next-at-head, taken-of}
use Rattle.pl_part.proofs.parts.ChannelPart.take_at_head.Goals as goal

pub take-requires-clause-enters : goal.take-requires-clause-enters
take-requires-clause-enters g c =
    let n = next-at-head g.S.Stage.meaning g.S.Stage.stands_after g.T.Transport.state _ _ c.self.view_is c.args.work.now c.args.envelope c.requires.next c.requires.there c.in-Some.head c.in-Some.is in
    n.1.enters

pub take-requires-clause-number : goal.take-requires-clause-number
take-requires-clause-number g c =
    let n = next-at-head g.S.Stage.meaning g.S.Stage.stands_after g.T.Transport.state _ _ c.self.view_is c.args.work.now c.args.envelope c.requires.next c.requires.there c.in-Some.head c.in-Some.is in
    n.1.number

pub take-requires-clause-limit : goal.take-requires-clause-limit
take-requires-clause-limit g c =
    let n = next-at-head g.S.Stage.meaning g.S.Stage.stands_after g.T.Transport.state _ _ c.self.view_is c.args.work.now c.args.envelope c.requires.next c.requires.there c.in-Some.head c.in-Some.is in
    let held = (n.1.next.holds.head c.in-Some.head c.in-Some.is).0.holds in
    let number = n.1.number in
    let most = held.most in
    let few = held.few in
    omega (arith, number, most, few)

pub take-requires-clause-places : goal.take-requires-clause-places
take-requires-clause-places g c =
    let n = next-at-head g.S.Stage.meaning g.S.Stage.stands_after g.T.Transport.state _ _ c.self.view_is c.args.work.now c.args.envelope c.requires.next c.requires.there c.in-Some.head c.in-Some.is in
    beside c.args.work.now.stopped c.in-Some.head.channel (head-places g.S.Stage.meaning g.S.Stage.stands_after g.T.Transport.state _ (n.0, n.1.next.holds) c.in-Some.head c.in-Some.is c.args.work.now n.1.next.places)

pub returns : goal.returns
returns g c =
    let n = next-at-head g.S.Stage.meaning g.S.Stage.stands_after g.T.Transport.state _ _ c.self.view_is c.args.work.now c.args.envelope c.requires.next c.requires.there c.in-Some.head c.in-Some.is in
    let t = c.take.ensures in
    taken-of g.S.Stage.meaning g.S.Stage.stands_after g.T.Transport.state _ _ c.self.view_is _ _ _ g.S.Stage.is_spent c.args.envelope c.take.result
    (head-taken g.S.Stage.meaning g.S.Stage.stands_after g.T.Transport.state _ c.in-Some.head c.in-Some.is c.take.new.self (ap (λ h. h.channel) t.same, ap (λ h. h.hop) t.same, ap (λ h. (h.gone, h.has_forgotten)) t.same) (n.0, n.1.next.holds) c.args.envelope n.1.there n.1.next.good g.S.Stage.is_spent
    c.args.work.now c.take.new.outputs c.take.result n.1.enters n.1.number t)
