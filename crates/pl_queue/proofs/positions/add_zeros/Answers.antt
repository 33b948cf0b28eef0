use Rattle.std.proofs.Common.{◌∙◌, ap, get_or, refl, arith}
use Rattle.pl_queue.proofs.PositionLemmas.{get_or-zero, one-longer}
use Rattle.pl_queue.proofs.positions.add_zeros.Goals as goal

pub loop-init : goal.loop-init
loop-init c = record { same = λ n. refl; long = omega (arith, c.len-counter.ensures, c.args.row.now.ok.0) }

pub loop-preserved : goal.loop-preserved
loop-preserved c = record {
  same = λ n. ap (λ xs. get_or xs n 0) c.in_ok-push.ensures.items ∙ get_or-zero c.loop.row.items n ∙ c.loop.invariant.same n;
  long = one-longer c.loop.row.items _ 0 c.loop.counter c.in_ok-push.ensures.items c.loop.invariant.long;
}

pub returns-clause-same : goal.returns-clause-same
returns-clause-same c = c.loop.invariant.same

pub returns-clause-long : goal.returns-clause-long
returns-clause-long c = omega (arith, c.loop.invariant.long, c.loop-test.false)
