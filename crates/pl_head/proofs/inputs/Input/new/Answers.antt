use Rattle.std.proofs.Common.{◌≡◌, length, ap, ◌∙◌, arith}
use Rattle.std.specs.List.{flat_map}
use Rattle.pl_event.specs.Inputs.{Bursts, burst_events}
use Rattle.pl_context.specs.declared.ports.Port.{Port}
use Rattle.pl_head.specs.ReadSteps.{bursts_read}
use Rattle.pl_head.proofs.ReadSteps.{few_before}
use Rattle.pl_head.proofs.inputs.Input.new.Goals as goal

pub invariant_of-result : goal.invariant_of-result
invariant_of-result c =
    let left : c.into.result.items ≡ bursts_read c.args.plan = c.into.ensures.0 ∙ c.bursts_before.ensures in
    let size = ap (λ (bs : Bursts). length (flat_map burst_events bs)) left in
    record {
      counts = omega arith;
      few = λ is. omega (arith, size, ap (λ (p : Port). p.made) c.new.ensures, few_before c.args.plan.abort_after c.args.plan.bursts, c.requires);
    }
