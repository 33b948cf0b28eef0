use Rattle.std.proofs.Common.{◌≡◌, Bool, true, false, length, Some, sym, subst, arith}
use Rattle.std.proofs.lemmas.Bool.{ltb-false}
use Rattle.pl_net.specs.declared.stations.Stations.{Stations}
use Rattle.pl_channel.specs.Channels.{MayWrite}
use Rattle.pl_replay.specs.declared.channels.Channels.{Channels}
use Rattle.pl_world.specs.Plans.{ChannelPlan}
use Rattle.pl_live.specs.LiveStand.{LiveView, LiveStands, ReadsSame, accepted_in, head_in, parts_of}
use Rattle.pl_live.proofs.WriteMoves.{IsOffered, is-offered, not-offered}
use Rattle.pl_live.proofs.live.Live.offer.Goals as goal
use Rattle.pl_live.proofs.live.Live.offer.Goals.{Then-move_head}

-- the channel as it was
abbrev seen : (g : _) (c : goal.Then-move_head g) → LiveView g.row.S.Denot g.row.T.Denot
seen g c = record { stations = c.self.inside.stations; room = c.self.inside.room; ends = c.self.inside.ends; delivered = c.self.inside.delivered; front = c.self.inside.front.items; gone = c.self.inside.gone; consumed = c.self.inside.consumed }

made : (g : _) (c : goal.Then-move_head g) (p : ChannelPlan) → LiveStands g.S.Stage.meaning g.S.Stage.stands_after g.T.Transport.state p (seen g c)
    → IsOffered g.S.Stage.meaning g.S.Stage.stands_after g.S.Stage.is_spent g.T.Transport.state g.T.Transport.may_refuse p (seen g c) c.move_head.new.self
made g c p s = is-offered g.S.Stage.meaning g.S.Stage.stands_after g.S.Stage.is_spent g.T.Transport.state g.T.Transport.may_refuse p (seen g c) s c.move_head.new.self (c.move_head.ensures.runs c.if-move_head.true) c.move_head.ensures.rests c.move_head.ensures.count

pub invariant_of-self : goal.invariant_of-self
invariant_of-self g c = (c.self.invariant.0, (made g c c.self.invariant.0 c.self.invariant.1).stands)

pub returns-then-move_head-clause-stands : goal.returns-then-move_head-clause-stands
returns-then-move_head-clause-stands g c = λ p s. (made g (goal.at.returns-then-move_head-clause-stands g c).Then-move_head p (subst (LiveStands g.S.Stage.meaning g.S.Stage.stands_after g.T.Transport.state p) (sym c.self.view_is) s)).stands

pub returns-then-move_head-clause-reads : goal.returns-then-move_head-clause-reads
returns-then-move_head-clause-reads g c =
    subst (λ (l : LiveView _ _). ReadsSame (parts_of l) c.move_head.new.self.nodes.parts.items) c.self.view_is
    (made g (goal.at.returns-then-move_head-clause-reads g c).Then-move_head c.self.invariant.0 c.self.invariant.1).reads

pub returns-then-move_head-clause-written : goal.returns-then-move_head-clause-written
returns-then-move_head-clause-written g c = λ none p w h s window is unfailed.
    let then = (goal.at.returns-then-move_head-clause-written g c).Then-move_head in
    let same = subst (λ (l : LiveView _ _). c.accepted-accepted.result ≡ length (accepted_in g.T.Transport.state (parts_of l))) (sym c.self.view_is) c.accepted-accepted.ensures in
    let now = c.accepted.ensures in
    let least = ltb-false c.accepted-accepted.result c.accepted.result none in
    absurd ((made g then p (subst (LiveStands g.S.Stage.meaning g.S.Stage.stands_after g.T.Transport.state p) (sym c.self.view_is) s)).failed (omega (arith, same, now, least)) w h window is unfailed)

pub returns-else-move_head-clause-written : goal.returns-else-move_head-clause-written
returns-else-move_head-clause-written g c = λ none p w h s window is unfailed.
    let was = c.move_head.ensures.idle c.if-move_head.false in
    not-offered g.S.Stage.meaning g.S.Stage.stands_after g.S.Stage.is_spent g.T.Transport.state g.T.Transport.may_refuse p
    (record { stations = c.self.inside.stations; room = c.self.inside.room; ends = c.self.inside.ends; delivered = c.self.inside.delivered; front = c.self.inside.front.items; gone = c.self.inside.gone; consumed = c.self.inside.consumed })
    (subst (LiveStands g.S.Stage.meaning g.S.Stage.stands_after g.T.Transport.state p) (sym c.self.view_is) s)
    (subst (λ (b : Bool). MayWrite g.T.Transport.state c.self.inside.stations.nodes.parts.items 0 b) c.if-move_head.false c.move_head.ensures.enabled) h
    (subst (λ (k : Stations (Channels _ _)). head_in k.nodes.parts.items ≡ Some h) was is)
