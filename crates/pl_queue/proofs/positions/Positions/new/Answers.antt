use Rattle.std.proofs.Common.{subst}
use Rattle.std.proofs.lemmas.List.{take_all}
use Rattle.pl_queue.specs.Positions.{ArePositions}
use Rattle.pl_queue.specs.Views.{lanes_of_counts}
use Rattle.pl_queue.proofs.PositionLemmas.{positions-at}
use Rattle.pl_queue.proofs.positions.Positions.new.Goals as goal

pub loop-i-preserved : goal.loop-i-preserved
loop-i-preserved c =
    positions-at c.loop-i.positions.rows.items c.put.new.self.rows.items c.args.counts.now c.loop-i.i _ c.loop-i-test.true c.requires.apart c.in_ok-put.ensures.here c.in_ok-put.ensures.others c.loop-i.invariant

pub returns : goal.returns
returns c =
    subst (λ ms. ArePositions c.loop-i.positions.rows.items 0 (lanes_of_counts ms)) (take_all c.loop-i.i c.args.counts.now c.loop-i-test.false) c.loop-i.invariant
