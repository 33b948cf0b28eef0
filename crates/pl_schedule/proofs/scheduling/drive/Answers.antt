use Rattle.std.proofs.Common.{[], List, length, sym, ap, subst, arith}
use Rattle.pl_world.specs.declared.moves.Move.{Move}
use Rattle.pl_schedule.specs.Driven.{IsDriven}
use Rattle.pl_schedule.proofs.DrivenNets.{driven-here, driven-on}
use Rattle.pl_schedule.proofs.scheduling.drive.Goals as goal

pub loop-init : goal.loop-init
loop-init g c = record {
  driven = subst (λ (ms : List Move). IsDriven g.S.Stage.meaning g.S.Stage.stands_after g.S.Stage.is_spent g.T.Transport.state g.T.Transport.may_refuse c.args.net.now [] c.args.net.now ms) (sym c.requires.none)
      (driven-here g.S.Stage.meaning g.S.Stage.stands_after g.S.Stage.is_spent g.T.Transport.state g.T.Transport.may_refuse c.args.net.now []);
  count = ap (λ (ms : List Move). length ms) c.requires.none;
}

pub loop-preserved : goal.loop-preserved
loop-preserved g c = record {
  driven = driven-on g.S.Stage.meaning g.S.Stage.stands_after g.S.Stage.is_spent g.T.Transport.state g.T.Transport.may_refuse c.args.net.now c.loop.net c.make_next.new.net [] c.loop.moves.items c.make_next.new.moves.items
      c.loop.invariant.driven c.in_ok-made.ensures.driven;
  count = let more = rw c.in-Some.is at c.in_ok-made.ensures.count in omega (arith, more, c.loop.invariant.count);
}

pub returns-in-None-clause-driven : goal.returns-in-None-clause-driven
returns-in-None-clause-driven g c =
    driven-on g.S.Stage.meaning g.S.Stage.stands_after g.S.Stage.is_spent g.T.Transport.state g.T.Transport.may_refuse c.args.net.now c.loop.net c.make_next.new.net [] c.loop.moves.items c.make_next.new.moves.items
    c.loop.invariant.driven c.in_ok-made.ensures.driven

pub returns-in-None-clause-few : goal.returns-in-None-clause-few
returns-in-None-clause-few g c = let more = rw c.in-None.is at c.in_ok-made.ensures.count in omega (arith, more, c.loop.invariant.count)
