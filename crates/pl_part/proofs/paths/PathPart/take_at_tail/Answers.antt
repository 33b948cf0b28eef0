use Rattle.pl_part.proofs.PathSteps.{tail-taken, next-at-tail, never-no-tail, taken-of}
use Rattle.pl_part.proofs.TailSteps.{tail-limit, tail-taken as end-taken}
use Rattle.pl_part.proofs.paths.PathPart.take_at_tail.Goals as goal

pub take-requires-clause-enters : goal.take-requires-clause-enters
take-requires-clause-enters g c =
    let n = next-at-tail g.S.Stage.meaning g.S.Stage.stands_after _ _ c.self.view_is c.args.envelope c.args.work.now c.requires.next c.requires.there c.in-Some.tail c.in-Some.is in
    n.1.enters

pub take-requires-clause-number : goal.take-requires-clause-number
take-requires-clause-number g c =
    let n = next-at-tail g.S.Stage.meaning g.S.Stage.stands_after _ _ c.self.view_is c.args.envelope c.args.work.now c.requires.next c.requires.there c.in-Some.tail c.in-Some.is in
    n.1.number

pub take-requires-clause-limit : goal.take-requires-clause-limit
take-requires-clause-limit g c =
    let n = next-at-tail g.S.Stage.meaning g.S.Stage.stands_after _ _ c.self.view_is c.args.envelope c.args.work.now c.requires.next c.requires.there c.in-Some.tail c.in-Some.is in
    let held = (n.1.next.holds.tail c.in-Some.tail c.in-Some.is).0 in
    tail-limit n.0 held.events c.in-Some.tail held.holds c.args.envelope n.1.enters n.1.number n.1.next.good

pub returns : goal.returns
returns g c =
    let n = next-at-tail g.S.Stage.meaning g.S.Stage.stands_after _ _ c.self.view_is c.args.envelope c.args.work.now c.requires.next c.requires.there c.in-Some.tail c.in-Some.is in
    let t = c.take.ensures in
    taken-of g.S.Stage.meaning g.S.Stage.stands_after _ _ c.self.view_is _ _ _ g.S.Stage.is_spent c.args.envelope c.take.result
    (tail-taken g.S.Stage.meaning g.S.Stage.stands_after _ (n.0, n.1.next.holds) c.in-Some.tail c.in-Some.is c.args.envelope n.1.there g.S.Stage.is_spent c.args.work.now c.take.result c.take.new.self n.1.enters n.1.number
    (record { handed = t.handed; open_item = t.open; ended = t.ended; flags = t.flags; dropped = t.dropped })
    (λ world h good. record { events = h.events; holds = end-taken world h.events c.in-Some.tail h.holds c.args.envelope n.1.enters n.1.number good c.take.new.self c.take.result t.open t.ended t.flags t.dropped })
    t.same_node t.taken)

pub unreachable-requires : goal.unreachable-requires
unreachable-requires g c =
    never-no-tail g.S.Stage.meaning g.S.Stage.stands_after _ _ c.self.view_is c.args.envelope c.args.work.now c.requires.next c.requires.there c.in-None.is

pub unreachable-unreachable : goal.unreachable-unreachable
unreachable-unreachable g c = c.unreachable.result

pub invariant_of-self : goal.invariant_of-self
invariant_of-self g c = c.self.invariant
