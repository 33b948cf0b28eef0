use Rattle.std.proofs.Common.{◌≡◌, ◌<◌, ℕ, List, length, take, refl, sym, subst}
use Rattle.std.proofs.lemmas.List.{length-set}
use Rattle.pl_event.specs.declared.events.Event.{Event}
use Rattle.pl_event.specs.Meaning.{Meaning}
use Rattle.pl_event.specs.Worlds.{World}
use Rattle.pl_context.specs.declared.standing.Standing.TheVariants as standings
use Rattle.pl_flow.specs.Flows.{IsGood}
use Rattle.pl_part.specs.ContextHolds.{ContextHolds, HoldsWith}
use Rattle.pl_part.specs.Paths.{IsPathPart}
use Rattle.pl_part.specs.Taking.{ContextTakes}
use Rattle.pl_part.proofs.ContextCounts.{context-more}
use Rattle.pl_part.proofs.ContextPlaces.{context-places as item-places, lanes-stay, open-places}
use Rattle.pl_part.proofs.ContextSteps.{next-limit, next-few, context-taken as stage-taken}
use Rattle.pl_part.proofs.PathSteps.{context-places, context-taken, next-at, next-within, never-none, taken-of}
use Rattle.pl_part.proofs.paths.PathPart.take_at_context.Goals as goal

pub take-requires-clause-enters : goal.take-requires-clause-enters
take-requires-clause-enters g c =
    let n = next-at g.S.Stage.meaning g.S.Stage.stands_after _ _ c.self.view_is c.args.envelope c.args.work.now c.requires.next c.self.invariant c.requires.elsewhere c.in-Some.context c.index_mut.result.now c.index_mut.ensures.value c.in-Some.is in
    n.1.enters

pub take-requires-clause-number : goal.take-requires-clause-number
take-requires-clause-number g c =
    let n = next-at g.S.Stage.meaning g.S.Stage.stands_after _ _ c.self.view_is c.args.envelope c.args.work.now c.requires.next c.self.invariant c.requires.elsewhere c.in-Some.context c.index_mut.result.now c.index_mut.ensures.value c.in-Some.is in
    n.1.number

pub take-requires-clause-limit : goal.take-requires-clause-limit
take-requires-clause-limit g c =
    let n = next-at g.S.Stage.meaning g.S.Stage.stands_after _ _ c.self.view_is c.args.envelope c.args.work.now c.requires.next c.self.invariant c.requires.elsewhere c.in-Some.context c.index_mut.result.now c.index_mut.ensures.value c.in-Some.is in
    let held = (n.1.next.holds.contexts c.args.envelope.lane.hop c.in-Some.context n.1.at).0 in
    next-limit n.0 g.S.Stage.meaning g.S.Stage.stands_after g.S.Stage.is_spent g.met.S.Stage.lawful held.events c.in-Some.context held.holds c.args.envelope n.1.enters n.1.number n.1.next.good

pub take-requires-clause-few : goal.take-requires-clause-few
take-requires-clause-few g c =
    let n = next-at g.S.Stage.meaning g.S.Stage.stands_after _ _ c.self.view_is c.args.envelope c.args.work.now c.requires.next c.self.invariant c.requires.elsewhere c.in-Some.context c.index_mut.result.now c.index_mut.ensures.value c.in-Some.is in
    let held = (n.1.next.holds.contexts c.args.envelope.lane.hop c.in-Some.context n.1.at).0 in
    next-few n.0 g.S.Stage.meaning g.S.Stage.stands_after g.S.Stage.is_spent g.met.S.Stage.lawful held.events c.in-Some.context held.holds c.args.envelope n.1.enters n.1.number n.1.next.good

pub take-requires-clause-places : goal.take-requires-clause-places
take-requires-clause-places g c =
    let n = next-at g.S.Stage.meaning g.S.Stage.stands_after _ _ c.self.view_is c.args.envelope c.args.work.now c.requires.next c.self.invariant c.requires.elsewhere c.in-Some.context c.index_mut.result.now c.index_mut.ensures.value c.in-Some.is in
    open-places c.in-Some.context c.args.work.now.stopped
    (context-places g.S.Stage.meaning g.S.Stage.stands_after _ c.self.invariant (n.0, n.1.next.holds) c.args.envelope.lane.hop c.in-Some.context n.1.at c.args.work.now n.1.next.places)

pub returns : goal.returns
returns g c =
    let meaning = g.S.Stage.meaning in
    let stands_after = g.S.Stage.stands_after in
    let is_spent = g.S.Stage.is_spent in
    let n = next-at g.S.Stage.meaning g.S.Stage.stands_after _ _ c.self.view_is c.args.envelope c.args.work.now c.requires.next c.self.invariant c.requires.elsewhere c.in-Some.context c.index_mut.result.now c.index_mut.ensures.value c.in-Some.is in
    let context = c.in-Some.context in
    let now = c.take.new.self in
    let before = c.args.work.now in
    let after = c.take.new.outputs in
    let answer = c.take.result in
    let e = c.args.envelope in
    let t = c.take.ensures in
    let own = (n.1.next.holds.contexts e.lane.hop context n.1.at).0 in
    let live : context.standing ≡ standings.Open → (xs : List Event) × stands_after context.stage xs = λ standing. (take context.taken own.events, (own.holds.stood standing).stands) in
    let takes : ContextTakes meaning stands_after is_spent context e before answer now after =
    record { meant = t.meaning; open_item = t.open; ended = t.ended; flags = t.flags; dropped = t.dropped } in
    let held : (world : World) → ContextHolds world meaning stands_after context → IsGood world e → ContextHolds world meaning stands_after now = λ world h good.
    record {
      events = h.events;
      holds = subst (λ (m : Meaning). HoldsWith world meaning stands_after m h.events now) (sym t.meaning)
          (stage-taken world meaning stands_after is_spent g.met.S.Stage.lawful h.events context h.holds e n.1.enters n.1.number good before after now answer t.meaning t.open t.ended t.flags t.dropped).0;
    } in
    taken-of meaning stands_after _ _ c.self.view_is _ _ _ is_spent e answer
    (context-taken meaning stands_after _ c.self.invariant (n.0, n.1.next.holds) e.lane.hop context n.1.at now t.meaning t.same_node (lanes-stay meaning stands_after is_spent context before after e answer now live takes) is_spent e
    before after answer refl n.1.enters n.1.number takes t.taken held
    (λ world h good. (stage-taken world meaning stands_after is_spent g.met.S.Stage.lawful h.events context h.holds e n.1.enters n.1.number good before after now answer t.meaning t.open t.ended t.flags t.dropped).1)
    (λ lanes within places. item-places meaning stands_after is_spent context lanes within before after places e now answer live t.open t.ended t.flags t.dropped)
    (context-more meaning stands_after is_spent context before after now e answer live own.holds.wired.flags_kind takes))

pub index_mut-requires : goal.index_mut-requires
index_mut-requires g c =
    subst (λ (n : ℕ). c.args.envelope.lane.hop < n) (sym c.self.inside.contexts.ok.0) (next-within g.S.Stage.meaning g.S.Stage.stands_after _ _ c.self.view_is c.args.envelope c.args.work.now c.requires.next c.requires.elsewhere)

pub unreachable-requires : goal.unreachable-requires
unreachable-requires g c =
    never-none g.S.Stage.meaning g.S.Stage.stands_after _ _ c.self.view_is c.args.envelope c.args.work.now c.requires.next c.requires.elsewhere c.index_mut.result.now c.index_mut.ensures.value c.in-None.is

pub unreachable-unreachable : goal.unreachable-unreachable
unreachable-unreachable g c = c.unreachable.result

pub invariant_of-self : goal.invariant_of-self
invariant_of-self g c =
    subst (λ (n : ℕ). IsPathPart (length c.self.inside.executors.items) n c.self.inside.tail_hop c.self.inside.turn) (sym (length-set c.self.inside.contexts.items _ _)) c.self.invariant
