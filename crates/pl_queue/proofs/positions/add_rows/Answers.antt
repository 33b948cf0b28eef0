use Rattle.std.proofs.Common.{◌∙◌, ap, refl, arith}
use Rattle.pl_queue.specs.Positions.{row_at}
use Rattle.pl_queue.proofs.PositionLemmas.{one-longer, row_at-more}
use Rattle.pl_queue.proofs.positions.add_rows.Goals as goal

pub loop-init : goal.loop-init
loop-init c = record { same = λ n. refl; long = omega (arith, c.len-counter.ensures, c.args.rows.now.ok.0) }

pub loop-preserved : goal.loop-preserved
loop-preserved c = record {
  same = λ n. ap (λ xs. row_at xs n) c.in_ok-push.ensures.items ∙ row_at-more c.loop.rows.items c.new.result n c.new.ensures.items ∙ c.loop.invariant.same n;
  long = one-longer c.loop.rows.items _ c.new.result c.loop.counter c.in_ok-push.ensures.items c.loop.invariant.long;
}

pub returns-clause-same : goal.returns-clause-same
returns-clause-same c = c.loop.invariant.same

pub returns-clause-long : goal.returns-clause-long
returns-clause-long c = omega (arith, c.loop.invariant.long, c.loop-test.false)
