use Rattle.std.proofs.Common.{sym}
use Rattle.pl_world.proofs.WorldLimits.{placed_at, placed_more, all_placed_before}
use Rattle.pl_world.proofs.worlds.is_placed.Goals as goal

pub returns-in-Some-2-clause-placed : goal.returns-in-Some-2-clause-placed
returns-in-Some-2-clause-placed g c = sym (placed_at c.args.pipeline.now.executors c.args.executors c.loop-hop.hop c.in-Some.executor (sym c.in-Some.ensures.executor) c.if-executor-executors.false)

pub loop-hop-preserved : goal.loop-hop-preserved
loop-hop-preserved g c =
    let more = placed_more c.args.pipeline.now.executors c.args.executors c.loop-hop.hop c.in-Some.executor (sym c.in-Some.ensures.executor) c.if-executor-executors.true c.loop-hop.invariant.placed in
    record { within = more.0; placed = more.1 }

pub returns-in-None-clause-placed : goal.returns-in-None-clause-placed
returns-in-None-clause-placed g c = all_placed_before c.args.pipeline.now.executors c.args.executors c.loop-hop.hop c.in-None.ensures.executor c.loop-hop.invariant.placed
