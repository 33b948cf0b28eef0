use Rattle.std.proofs.Common.{◌≡◌, ◌+◌, length, sym, ap, subst, ◌∙◌, arith}
use Rattle.std.specs.Vec.{with_item}
use Rattle.pl_channel.proofs.Vecs.{put-back}
use Rattle.pl_world.specs.Plans.{ChannelPlan}
use Rattle.pl_live.specs.LiveStand.{LiveView, LiveStands, accepted_in, consumed_of, parts_of}
use Rattle.pl_live.proofs.Kept.{consumed-still, forgets-with, gone-read}
use Rattle.pl_live.proofs.live.Live.forget.Goals as goal
use Rattle.pl_live.proofs.live.Live.forget.Goals.{After-forget, After-gone-self-inside}

-- the channel as it was
abbrev seen : (g : _) (c : After-forget g) → LiveView g.row.S.Denot g.row.T.Denot
seen g c = record { stations = c.self.inside.stations; room = c.self.inside.room; ends = c.self.inside.ends; delivered = c.self.inside.delivered; front = c.self.inside.front.items; gone = c.self.inside.gone; consumed = c.self.inside.consumed }

-- ---- its head forgot nothing

unmoved : (g : _) (c : After-forget g) → c.forget.new.self ≡ c.index_mut.result.now
    → ◌≡◌ {A = LiveView g.row.S.Denot g.row.T.Denot} (record (seen g c) { stations = record c.self.inside.stations { nodes = record { parts = with_item c.self.inside.stations.nodes.parts 0 c.forget.new.self } } }) c.args.self.now
unmoved g c kept =
    (λ i. record (seen g c) { stations = record c.self.inside.stations { nodes = record { parts = put-back c.self.inside.stations.nodes.parts 0 c.index_mut.result.now c.forget.new.self c.index_mut.ensures.value kept i } } })
    ∙ c.self.view_is

pub invariant_of-self : goal.invariant_of-self
invariant_of-self g c =
    let at = (goal.at.invariant_of-self g c).After-forget in
    let same = unmoved g at (c.forget.ensures.kept c.if-not-forget.true) ∙ sym c.self.view_is in
    (c.self.invariant.0, subst (LiveStands g.S.Stage.meaning g.S.Stage.stands_after g.T.Transport.state c.self.invariant.0) (sym same) c.self.invariant.1)

pub returns-then-not-forget-clause-stands : goal.returns-then-not-forget-clause-stands
returns-then-not-forget-clause-stands g c = λ p s.
    subst (LiveStands g.S.Stage.meaning g.S.Stage.stands_after g.T.Transport.state p) (sym (unmoved g (goal.at.returns-then-not-forget-clause-stands g c).After-forget (c.forget.ensures.kept c.if-not-forget.true))) s

pub returns-then-not-forget-clause-consumed : goal.returns-then-not-forget-clause-consumed
returns-then-not-forget-clause-consumed g c = ap (λ (l : LiveView _ _). consumed_of l) c.self.view_is

-- ---- it forgot some of what it took

-- the channel as it was
abbrev was : (g : _) (c : After-gone-self-inside g) → LiveView g.row.S.Denot g.row.T.Denot
was g c = record { stations = c.self.inside.stations; room = c.self.inside.room; ends = c.self.inside.ends; delivered = c.self.inside.delivered; front = c.self.inside.front.items; gone = c.self.inside.gone; consumed = c.self.inside.consumed }

-- all that was accepted was consumed
all : (g : _) (c : After-gone-self-inside g) → c.self.inside.consumed ≡ length (accepted_in g.T.Transport.state (parts_of (was g c)))
all g c =
    let size = ap (λ (l : LiveView _ _). length (accepted_in g.T.Transport.state (parts_of l))) c.self.view_is in
    let within = c.self.invariant.1.handed.consumed_within in
    omega (arith, size, within, c.accepted.ensures, c.if-self-accepted.false)

forgot : (g : _) (c : After-gone-self-inside g) (p : ChannelPlan) → LiveStands g.S.Stage.meaning g.S.Stage.stands_after g.T.Transport.state p (was g c)
    → LiveStands g.S.Stage.meaning g.S.Stage.stands_after g.T.Transport.state p (record (was g c) { stations = record c.self.inside.stations { nodes = record { parts = with_item c.self.inside.stations.nodes.parts 0 c.forget.new.self } }; gone = c.gone-self-inside.result; consumed = 0 })
forgot g c p s =
    let before = c.index_mut.result.now in
    let there = c.index_mut.ensures.value in
    let after = c.forget.new.self in
    let holds = c.forget.ensures.holds in
    forgets-with g.S.Stage.meaning g.S.Stage.stands_after g.T.Transport.state p (was g c) s before there after holds (c.forget.ensures.forgets c.if-not-forget.false) c.gone-self-inside.result
    (gone-read g.S.Stage.meaning g.S.Stage.stands_after g.T.Transport.state p (was g c) s before there after holds c.index.result.now c.index.ensures c.gone-self-inside.result c.gone-self-inside.ensures)

pub invariant_of-self-2 : goal.invariant_of-self-2
invariant_of-self-2 g c = (c.self.invariant.0, forgot g (goal.at.invariant_of-self-2 g c).After-gone-self-inside c.self.invariant.0 c.self.invariant.1)

pub returns-clause-stands : goal.returns-clause-stands
returns-clause-stands g c = λ p s.
    forgot g (goal.at.returns-clause-stands g c).After-gone-self-inside p (subst (LiveStands g.S.Stage.meaning g.S.Stage.stands_after g.T.Transport.state p) (sym c.self.view_is) s)

pub returns-clause-consumed : goal.returns-clause-consumed
returns-clause-consumed g c =
    let at = (goal.at.returns-clause-consumed g c).After-gone-self-inside in
    let before = c.index_mut.result.now in
    let there = c.index_mut.ensures.value in
    let after = c.forget.new.self in
    let holds = c.forget.ensures.holds in
    let p = c.self.invariant.0 in
    let s = c.self.invariant.1 in
    consumed-still g.S.Stage.meaning g.S.Stage.stands_after g.T.Transport.state p (was g at) s before there after holds (c.forget.ensures.forgets c.if-not-forget.false) c.gone-self-inside.result
    (gone-read g.S.Stage.meaning g.S.Stage.stands_after g.T.Transport.state p (was g at) s before there after holds c.index.result.now c.index.ensures c.gone-self-inside.result c.gone-self-inside.ensures)
    (all g at)
    ∙ ap (λ (l : LiveView _ _). consumed_of l) c.self.view_is
