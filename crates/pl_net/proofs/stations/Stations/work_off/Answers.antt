use Rattle.std.proofs.Common.{◌∙◌, refl, arith, suc}
use Rattle.pl_net.specs.Stations.{stations_view}
use Rattle.pl_net.proofs.stations.Stations.work_off.Goals as goal

pub loop-preserved : goal.loop-preserved
loop-preserved g c = record {
  capacity = c.if-not-step.ensures.capacity ∙ c.loop.invariant.capacity;
  count = c.if-not-step.ensures.count ∙ c.loop.invariant.count;
  steps = λ world backlogs h.
      let i = c.loop.invariant.steps world backlogs h in
      let s = c.if-not-step.ensures.steps refl world i.0 i.1 in
      (s.0, s.1, (suc i.2.0, (stations_view c.loop.self i.0, i.2.1, s.2)));
  done = let d = c.loop.invariant.done in let m = c.if-not-step.ensures.more refl in omega (arith, d, m);
}
