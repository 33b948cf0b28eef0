use Rattle.std.proofs.Common.{◌≡◌, ◌+◌, ◌≤◌, ◌<◌, ◌⊎◌, Bool, true, false, Some, refl, sym, subst}
use Rattle.pl_channel.specs.Channels.{MayRead}
use Rattle.pl_head.specs.HeadStand.{HeadView}
use Rattle.pl_net.specs.declared.stations.Stations.{Stations}
use Rattle.pl_replay.specs.declared.channels.Channels.{Channels}
use Rattle.pl_world.specs.Plans.{ChannelPlan}
use Rattle.pl_live.specs.LiveStand.{LiveView, LiveStands, IsWritten, head_in, left_in, open_in, parts_of}
use Rattle.pl_live.proofs.ReadMoves.{IsRead, is-read, not-read, was-open}
use Rattle.pl_live.proofs.live.Live.read.Goals as goal

-- the channel as it was
abbrev seen : (g : _) (c : goal.After-move_head g) → LiveView g.row.S.Denot g.row.T.Denot
seen g c = record { stations = c.self.inside.stations; room = c.self.inside.room; ends = c.self.inside.ends; delivered = c.self.inside.delivered; front = c.self.inside.front.items; gone = c.self.inside.gone; consumed = c.self.inside.consumed }

made : (g : _) (c : goal.After-move_head g) (p : ChannelPlan) → LiveStands g.S.Stage.meaning g.S.Stage.stands_after g.T.Transport.state p (seen g c) → c.move_head.result ≡ true
    → IsRead g.S.Stage.meaning g.S.Stage.stands_after g.S.Stage.is_spent g.T.Transport.state g.T.Transport.may_refuse p (seen g c) c.move_head.new.self
made g c p s does = is-read g.S.Stage.meaning g.S.Stage.stands_after g.S.Stage.is_spent g.T.Transport.state g.T.Transport.may_refuse p (seen g c) s c.move_head.new.self (c.move_head.ensures.runs does) c.move_head.ensures.rests c.move_head.ensures.count
    (subst (λ (l : LiveView _ _). left_in (parts_of l) ≡ 0 → l.ends ≡ true) (sym c.self.view_is) c.requires.more)

stands : (g : _) (c : goal.After-move_head g) (p : ChannelPlan) → LiveStands g.S.Stage.meaning g.S.Stage.stands_after g.T.Transport.state p (seen g c) → (b : Bool) → c.move_head.result ≡ b
    → LiveStands g.S.Stage.meaning g.S.Stage.stands_after g.T.Transport.state p (record (seen g c) { stations = c.move_head.new.self })
stands g c p s true is = (made g c p s is).stands
stands g c p s false is = subst (λ (k : Stations (Channels _ _)). LiveStands g.S.Stage.meaning g.S.Stage.stands_after g.T.Transport.state p (record (seen g c) { stations = k })) (sym (c.move_head.ensures.idle is)) s

pub invariant_of-self : goal.invariant_of-self
invariant_of-self g c = (c.self.invariant.0, stands g c c.self.invariant.0 c.self.invariant.1 c.move_head.result refl)

pub returns-clause-stands : goal.returns-clause-stands
returns-clause-stands g c = λ p s. stands g c p (subst (LiveStands g.S.Stage.meaning g.S.Stage.stands_after g.T.Transport.state p) (sym c.self.view_is) s) c.move_head.result refl

pub returns-clause-read : goal.returns-clause-read
returns-clause-read g c = λ does. subst (λ (l : LiveView _ _). (open_in c.move_head.new.self.nodes.parts.items ≡ false) ⊎ (left_in c.move_head.new.self.nodes.parts.items + 1 ≡ left_in (parts_of l))) c.self.view_is (made g c c.self.invariant.0 c.self.invariant.1 does).read

pub returns-clause-least : goal.returns-clause-least
returns-clause-least g c = λ does. subst (λ (l : LiveView _ _). left_in (parts_of l) ≤ left_in c.move_head.new.self.nodes.parts.items + 1) c.self.view_is (made g c c.self.invariant.0 c.self.invariant.1 does).least

pub returns-clause-most : goal.returns-clause-most
returns-clause-most g c = λ does. subst (λ (l : LiveView _ _). left_in c.move_head.new.self.nodes.parts.items ≤ left_in (parts_of l)) c.self.view_is (made g c c.self.invariant.0 c.self.invariant.1 does).most

pub returns-clause-open : goal.returns-clause-open
returns-clause-open g c = λ does.
    subst (λ (l : LiveView _ _). open_in (parts_of l) ≡ true) c.self.view_is
    (was-open g.S.Stage.meaning g.S.Stage.stands_after g.S.Stage.is_spent g.T.Transport.state g.T.Transport.may_refuse c.self.invariant.0 (seen g c) c.self.invariant.1
    (subst (λ (b : Bool). MayRead g.T.Transport.state (parts_of (seen g c)) 0 b) does c.move_head.ensures.enabled))

pub returns-clause-held : goal.returns-clause-held
returns-clause-held g c = λ none.
    subst (λ (l : LiveView _ _). (open_in (parts_of l) ≡ false) ⊎ ((0 < left_in (parts_of l)) × ((h : HeadView _) → head_in (parts_of l) ≡ Some h → IsWritten g.T.Transport.state h → ⊥))) c.self.view_is
    (not-read g.S.Stage.meaning g.S.Stage.stands_after g.S.Stage.is_spent g.T.Transport.state g.T.Transport.may_refuse c.self.invariant.0 (seen g c) c.self.invariant.1
    (subst (λ (b : Bool). MayRead g.T.Transport.state (parts_of (seen g c)) 0 b) none c.move_head.ensures.enabled))
