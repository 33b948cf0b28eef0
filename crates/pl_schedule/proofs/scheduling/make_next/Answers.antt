use Rattle.std.proofs.Common.{refl, arith}
use Rattle.pl_schedule.proofs.DrivenNets.{driven-here, driven-on}
use Rattle.pl_schedule.proofs.scheduling.make_next.Goals as goal

pub loop-init : goal.loop-init
loop-init g c = record {
  driven = driven-here g.S.Stage.meaning g.S.Stage.stands_after g.S.Stage.is_spent g.T.Transport.state g.T.Transport.may_refuse c.args.net.now c.args.moves.now.items;
  count = refl;
}

pub loop-preserved : goal.loop-preserved
loop-preserved g c = record {
  driven = driven-on g.S.Stage.meaning g.S.Stage.stands_after g.S.Stage.is_spent g.T.Transport.state g.T.Transport.may_refuse c.args.net.now c.loop.net c.attempt.new.net c.args.moves.now.items c.loop.moves.items c.attempt.new.moves.items
      c.loop.invariant.driven c.in_ok-is_made.ensures.driven;
  count = let more = rw c.if-is_made.false at c.in_ok-is_made.ensures.count in omega (arith, more, c.loop.invariant.count);
}

pub returns-then-is_made-clause-driven : goal.returns-then-is_made-clause-driven
returns-then-is_made-clause-driven g c =
    driven-on g.S.Stage.meaning g.S.Stage.stands_after g.S.Stage.is_spent g.T.Transport.state g.T.Transport.may_refuse c.args.net.now c.loop.net c.attempt.new.net c.args.moves.now.items c.loop.moves.items c.attempt.new.moves.items
    c.loop.invariant.driven c.in_ok-is_made.ensures.driven

pub returns-then-is_made-clause-count : goal.returns-then-is_made-clause-count
returns-then-is_made-clause-count g c = let more = rw c.if-is_made.true at c.in_ok-is_made.ensures.count in omega (arith, more, c.loop.invariant.count)
