use Rattle.std.proofs.Common.{sym, subst, ◌∙◌}
use Rattle.std.specs.Prelude.{Result, Ok, Err, OnErr}
use Rattle.pl_channel.proofs.Vecs.{put-back}
use Rattle.pl_channel.specs.Feeding.{fed_channel}
use Rattle.pl_live.specs.LiveStand.{LiveStands}
use Rattle.pl_live.proofs.Fed.{room-left, stands-with}
use Rattle.pl_live.proofs.live.Live.feed.Goals as goal

on-err : {A E : Type 0} (r : Result A E) (P : Type 0) → P → OnErr r P
on-err (Ok x) P p = tt
on-err (Err e) P p = p

pub feed-requires-clause-few : goal.feed-requires-clause-few
feed-requires-clause-few g c =
    room-left g.S.Stage.meaning g.S.Stage.stands_after g.T.Transport.state c.self.invariant.0 c.args.burst c.as_slice.result.now (record { stations = c.self.inside.stations; room = c.self.inside.room; ends = c.self.inside.ends; delivered = c.self.inside.delivered; front = c.self.inside.front.items; gone = c.self.inside.gone; consumed = c.self.inside.consumed }) c.args.self.now c.self.invariant.1
    c.self.view_is c.takes_bursts.result c.takes_bursts.ensures c.if-not-takes_bursts.false c.in-Some.room c.as_slice.ensures c.in-Some.ensures c.index_mut.result.now c.index_mut.ensures.value

pub returns-in_err-feed-clause-kept : goal.returns-in_err-feed-clause-kept
returns-in_err-feed-clause-kept g c =
    let inside = c.self.inside in
    let stations = inside.stations in
    let same = put-back stations.nodes.parts 0 c.index_mut.result.now c.feed.new.self c.index_mut.ensures.value c.in_err-feed.ensures.kept in
    on-err c.from_residual.result _ ((λ i. record { stations = record { capacity = stations.capacity; nodes = record { parts = same i }; stations = stations.stations; work = stations.work }; room = inside.room; ends = inside.ends; delivered = inside.delivered; front = inside.front.items; gone = inside.gone; consumed = inside.consumed }) ∙ c.self.view_is)

pub invariant_of-self-2 : goal.invariant_of-self-2
invariant_of-self-2 g c = (
  fed_channel c.args.burst c.self.invariant.0,
  stands-with g.S.Stage.meaning g.S.Stage.stands_after g.T.Transport.state c.self.invariant.0 c.args.burst c.as_slice.result.now (record { stations = c.self.inside.stations; room = c.self.inside.room; ends = c.self.inside.ends; delivered = c.self.inside.delivered; front = c.self.inside.front.items; gone = c.self.inside.gone; consumed = c.self.inside.consumed }) c.args.self.now c.self.invariant.1
      c.self.view_is c.takes_bursts.result c.takes_bursts.ensures c.if-not-takes_bursts.false c.in-Some.room c.as_slice.ensures c.in-Some.ensures c.index_mut.result.now c.index_mut.ensures.value c.feed.new.self c.in_ok-feed.ensures.fed,
)

pub returns-clause-fed : goal.returns-clause-fed
returns-clause-fed g c = λ p r.
    let stands = subst (LiveStands g.S.Stage.meaning g.S.Stage.stands_after g.T.Transport.state p) (sym c.self.view_is) r.stands in
    c.advance.ensures.rests (fed_channel c.args.burst p)
    (c.forget.ensures.stands (fed_channel c.args.burst p)
    (stands-with g.S.Stage.meaning g.S.Stage.stands_after g.T.Transport.state p c.args.burst c.as_slice.result.now (record { stations = c.self.inside.stations; room = c.self.inside.room; ends = c.self.inside.ends; delivered = c.self.inside.delivered; front = c.self.inside.front.items; gone = c.self.inside.gone; consumed = c.self.inside.consumed }) c.args.self.now stands
    c.self.view_is c.takes_bursts.result c.takes_bursts.ensures c.if-not-takes_bursts.false c.in-Some.room c.as_slice.ensures c.in-Some.ensures c.index_mut.result.now c.index_mut.ensures.value c.feed.new.self c.in_ok-feed.ensures.fed))
