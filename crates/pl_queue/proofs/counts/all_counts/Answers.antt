use Rattle.std.proofs.Common.{ap, sym, ◌∙◌, ◌++◌, ◌<◌, length, map, arith}
use Rattle.std.proofs.lemmas.List.{take_all}
use Rattle.pl_queue.specs.Left.{lanes_of_senders, own_lanes}
use Rattle.pl_queue.specs.Views.{fresh_take_counts}
use Rattle.pl_queue.proofs.Lists.{counts-more}
use Rattle.pl_queue.proofs.counts.all_counts.Goals as goal

pub loop-own-preserved : goal.loop-own-preserved
loop-own-preserved c =
    let lt : c.loop-own.own-index < length c.args.lanes.now = omega arith in
    c.in_ok-add_counts.ensures
    ∙ ap (λ ms. ms ++ fresh_take_counts c.as_slice.result.now) c.loop-own.invariant
    ∙ sym (counts-more own_lanes c.args.lanes.now c.loop-own.own-index c.own-item.result c.as_slice.result.now lt c.own-item.is c.as_slice.ensures.value)

pub returns : goal.returns
returns c = c.loop-own.invariant ∙ ap (λ ls. fresh_take_counts (lanes_of_senders (map own_lanes ls))) (take_all c.loop-own.own-index c.args.lanes.now c.loop-own-test.false)
