use Rattle.std.proofs.Common.{◌≡◌, ◌<◌, [], List, length, sym, ap, subst, ◌∙◌, refl, arith}
use Rattle.std.specs.VecDeque.{deque_len}
use Rattle.std.specs.Vec.{with_item}
use Rattle.std.proofs.lemmas.Bool.{eqb-true, eqb-false}
use Rattle.std.proofs.lemmas.List.{nil_from_length}
use Rattle.pl_event.specs.declared.events.Event.{Event}
use Rattle.pl_world.specs.Plans.{ChannelPlan}
use Rattle.pl_live.specs.LiveStand.{LiveView, LiveStands, LiveRests, parts_of, recorded_in}
use Rattle.pl_live.proofs.Kept.{hands-rests, hands-with, record-own}
use Rattle.pl_live.proofs.Pending.{record-is}
use Rattle.pl_live.proofs.live.Live.fill_front.Goals as goal
use Rattle.pl_live.proofs.live.Live.fill_front.Goals.{After-from}

-- the channel as it was
abbrev seen : (g : _) (c : After-from g) → LiveView g.row.S.Denot g.row.T.Denot
seen g c = record { stations = c.self.inside.stations; room = c.self.inside.room; ends = c.self.inside.ends; delivered = c.self.inside.delivered; front = c.self.inside.front.items; gone = c.self.inside.gone; consumed = c.self.inside.consumed }

-- with the record next
abbrev filled : (g : _) (c : After-from g) → LiveView g.row.S.Denot g.row.T.Denot
filled g c = record (seen g c) { stations = record c.self.inside.stations { nodes = record { parts = with_item c.self.inside.stations.nodes.parts 0 c.take_record-events.new.self } }; front = c.from.result.items }

none-left : (g : _) (c : After-from g) → c.self.inside.front.items ≡ []
none-left g c =
    let zero = eqb-true (deque_len c.self.inside.front) 0 (sym c.is_empty.ensures ∙ c.if-not-is_empty.false) in
    nil_from_length c.self.inside.front.items (omega (arith, zero, c.self.inside.front.ok.0))

now-held : (g : _) (c : After-from g) → c.from.result.items ≡ c.take_record-events.result
now-held g c = c.from.ensures.0 ∙ c.into_vec.ensures

stands : (g : _) (c : After-from g) (p : ChannelPlan) → LiveStands g.S.Stage.meaning g.S.Stage.stands_after g.T.Transport.state p (seen g c) → LiveStands g.S.Stage.meaning g.S.Stage.stands_after g.T.Transport.state p (filled g c)
stands g c p s =
    hands-with g.S.Stage.meaning g.S.Stage.stands_after g.T.Transport.state p (seen g c) s c.index_mut.result.now c.index_mut.ensures.value c.take_record-events.new.self c.take_record-events.ensures.holds c.take_record-events.ensures.goes_on (none-left g c)
    c.from.result.items (now-held g c ∙ c.take_record-events.ensures.record)

pub invariant_of-self : goal.invariant_of-self
invariant_of-self g c = (c.self.invariant.0, stands g (goal.at.invariant_of-self g c).After-from c.self.invariant.0 c.self.invariant.1)

pub returns-clause-stands : goal.returns-clause-stands
returns-clause-stands g c = λ p s.
    stands g (goal.at.returns-clause-stands g c).After-from p (subst (LiveStands g.S.Stage.meaning g.S.Stage.stands_after g.T.Transport.state p) (sym c.self.view_is) s)

pub returns-clause-rests : goal.returns-clause-rests
returns-clause-rests g c = λ p r.
    let at = (goal.at.returns-clause-rests g c).After-from in
    let rests = subst (LiveRests g.S.Stage.meaning g.S.Stage.stands_after g.T.Transport.state p) (sym c.self.view_is) r in
    hands-rests g.S.Stage.meaning g.S.Stage.stands_after g.T.Transport.state p (seen g at) rests.stands c.index_mut.result.now c.index_mut.ensures.value c.take_record-events.new.self c.take_record-events.ensures.holds c.take_record-events.ensures.goes_on
    (none-left g at) c.from.result.items (now-held g at ∙ c.take_record-events.ensures.record) rests

-- the record is not empty
pub returns-clause-none : goal.returns-clause-none
returns-clause-none g c = λ none.
    let at = (goal.at.returns-clause-none g c).After-from in
    let own = record-own g.S.Stage.meaning g.S.Stage.stands_after g.T.Transport.state c.self.invariant.0 (seen g at) c.self.invariant.1 c.index_mut.result.now c.index_mut.ensures.value c.take_record-events.new.self c.take_record-events.ensures.holds in
    let held = record-is (parts_of c.args.self.now) c.tail.result.now c.tail.ensures c.record.result.now c.record.ensures in
    let same = ap (λ (l : LiveView _ _). recorded_in (parts_of l)) c.self.view_is in
    let empty = ap (λ (es : List Event). length es) (sym none ∙ now-held g at ∙ c.take_record-events.ensures.record ∙ own ∙ same ∙ held) in
    let some = eqb-false (length c.record.result.now) 0 (sym c.is_empty-2.ensures ∙ c.if-is_empty.false) in
    absurd (omega (arith, empty, some))

-- it was empty
pub returns-then-is_empty-clause-none : goal.returns-then-is_empty-clause-none
returns-then-is_empty-clause-none g c = λ _.
    let zero = eqb-true (length c.record.result.now) 0 (sym c.is_empty-2.ensures ∙ c.if-is_empty.true) in
    (refl, record-is (parts_of c.args.self.now) c.tail.result.now c.tail.ensures c.record.result.now c.record.ensures ∙ nil_from_length c.record.result.now zero)
