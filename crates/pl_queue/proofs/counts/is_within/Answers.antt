use Rattle.std.proofs.Common.{◌≤◌, ◌∙◌, ap, sym, subst, length, map, arith, refl}
use Rattle.std.proofs.lemmas.List.{length-map, take_all}
use Rattle.pl_queue.specs.Left.{lanes_of_senders, own_lanes}
use Rattle.pl_queue.proofs.LimitLemmas.{count-more, count-part, beyond, within}
use Rattle.pl_queue.proofs.counts.is_within.Goals as goal

pub loop-own-init : goal.loop-own-init
loop-own-init c = record { counted = refl; few = omega arith }

pub overflow_sub-count : goal.overflow_sub-count
overflow_sub-count c = c.loop-own.invariant.few

pub returns-then-len-count : goal.returns-then-len-count
returns-then-len-count c =
    let lanes = c.args.lanes.now in
    let i = c.loop-own.own-index in
    let part = count-part own_lanes lanes i c.own-item.result c.loop-own-test.true c.own-item.is in
    beyond (map own_lanes lanes) c.args.capacity (omega (arith, part, c.loop-own.invariant.counted, c.loop-own.invariant.few, c.if-len-count.true, c.len.ensures, c.own-item.result.ok.0))

pub loop-own-preserved : goal.loop-own-preserved
loop-own-preserved c =
    let lanes = c.args.lanes.now in
    let more = count-more own_lanes lanes c.loop-own.own-index c.own-item.result c.loop-own-test.true c.own-item.is in
    record {
      counted = omega (arith, more, c.loop-own.invariant.counted, c.len-count.ensures, c.own-item.result.ok.0);
      few = omega (arith, c.loop-own.invariant.few, c.if-len-count.false, c.len.ensures, c.len-count.ensures);
    }

pub returns : goal.returns
returns c =
    let lanes = c.args.lanes.now in
    sym (within (map own_lanes lanes) c.args.capacity c.if-capacity-eq0.false c.if-capacity-gt-MAX_CAPACITY.false
    (omega (arith, c.if-lanes-gt-MAX_SENDERS.false, length-map lanes own_lanes))
    (subst (λ n. n ≤ 8192) (c.loop-own.invariant.counted ∙ ap (λ vs. length (lanes_of_senders (map own_lanes vs))) (take_all c.loop-own.own-index lanes c.loop-own-test.false)) c.loop-own.invariant.few))
