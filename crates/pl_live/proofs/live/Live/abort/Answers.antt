use Rattle.std.proofs.Common.{Option, sym, ap, subst}
use Rattle.std.specs.Prelude.{is_some}
use Rattle.std.proofs.lemmas.Bool.{both_ways}
use Rattle.pl_event.specs.declared.outcomes.Cause.{Cause}
use Rattle.pl_world.specs.Plans.{ChannelPlan}
use Rattle.pl_live.specs.LiveStand.{LiveView, LiveStands}
use Rattle.pl_live.proofs.AbortMoves.{IsAborted, is-aborted}
use Rattle.pl_live.proofs.live.Live.abort.Goals as goal
use Rattle.pl_live.proofs.live.Live.abort.Goals.{After-abort}

-- the channel as it was
abbrev seen : (g : _) (c : After-abort g) → LiveView g.row.S.Denot g.row.T.Denot
seen g c = record { stations = c.self.inside.stations; room = c.self.inside.room; ends = c.self.inside.ends; delivered = c.self.inside.delivered; front = c.self.inside.front.items; gone = c.self.inside.gone; consumed = c.self.inside.consumed }

made : (g : _) (c : After-abort g) (p : ChannelPlan) → LiveStands g.S.Stage.meaning g.S.Stage.stands_after g.T.Transport.state p (seen g c) → IsAborted g.S.Stage.meaning g.S.Stage.stands_after g.S.Stage.is_spent g.T.Transport.state p (seen g c) c.abort.new.self
made g c p s = is-aborted g.S.Stage.meaning g.S.Stage.stands_after g.S.Stage.is_spent g.T.Transport.state p (seen g c) s c.abort.new.self c.abort.ensures.aborts c.abort.ensures.rests c.abort.ensures.count

pub invariant_of-self : goal.invariant_of-self
invariant_of-self g c = (c.self.invariant.0, (made g (goal.at.invariant_of-self g c).After-abort c.self.invariant.0 c.self.invariant.1).stands)

pub returns-clause-rests : goal.returns-clause-rests
returns-clause-rests g c = λ p s.
    let aborted = made g (goal.at.returns-clause-rests g c).After-abort p (subst (LiveStands g.S.Stage.meaning g.S.Stage.stands_after g.T.Transport.state p) (sym c.self.view_is) s) in
    record { stands = aborted.stands; settled = λ h w is consumed unfailed window. absurd (both_ways (is_some h.failure) (ap (λ (f : Option Cause). is_some f) unfailed) (aborted.failed h is)) }

pub returns-clause-failed : goal.returns-clause-failed
returns-clause-failed g c = (made g (goal.at.returns-clause-failed g c).After-abort c.self.invariant.0 c.self.invariant.1).failed

pub returns-clause-closed : goal.returns-clause-closed
returns-clause-closed g c = (made g (goal.at.returns-clause-closed g c).After-abort c.self.invariant.0 c.self.invariant.1).closed
