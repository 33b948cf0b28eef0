use Rattle.std.proofs.Common.{◌^◌, length, ◌∙◌, sym, arith, rules}
use Rattle.std.proofs.lemmas.Iterator.{YieldsList-from_slice, YieldsList-from_map}
use Rattle.std.proofs.lemmas.Iterator.Consumers.{fits_by_from_yields_list, sum_by_from_yields_List}
use Rattle.pl_channel.proofs.LaneCounts.{length-data_lanes}
use Rattle.pl_channel.proofs.lane_counts.lane_count.Goals as goal

pub sum-lanes-requires-clause-fits : goal.sum-lanes-requires-clause-fits
sum-lanes-requires-clause-fits g c =
    fits_by_from_yields_list (λ p. length p.path.executors) c.args.parts.now c.map.result (2 ^ 64)
    (YieldsList-from_map _ (λ p. length p.path.executors) (YieldsList-from_slice c.args.parts.now cc) c.map.ensures.closure (λ x r q k. search rules))
    (omega (arith, c.requires, length-data_lanes c.args.parts.now))

pub returns : goal.returns
returns g c =
    sum_by_from_yields_List (λ p. length p.path.executors) c.args.parts.now c.map.result c.sum-lanes.result c.sum-lanes.ensures.ran
    (YieldsList-from_map _ (λ p. length p.path.executors) (YieldsList-from_slice c.args.parts.now cc) c.map.ensures.closure (λ x r q k. search rules))
    ∙ sym (length-data_lanes c.args.parts.now)

pub overflow_cast-result : goal.overflow_cast-result
overflow_cast-result g c = omega (arith, returns g c, c.requires)
