use Rattle.std.proofs.Common.{◌+◌, ap, sym, length, arith, subst}
use Rattle.std.proofs.lemmas.List.{length_push}
use Rattle.pl_queue_tests.proofs.OpeningLemmas.{AreLists, channel-more, none-more, no-lists}
use Rattle.pl_queue_tests.proofs.openings.lists.Goals as goal

pub loop-channel-init : goal.loop-channel-init
loop-channel-init c = record {
  len = ap length c.new-all.ensures.items;
  are = no-lists c.args.hops c.new-all.result.items c.new-all.ensures.items;
}

pub loop-channel-preserved : goal.loop-channel-preserved
loop-channel-preserved c =
    let before = c.loop-channel.all.items in
    let v = c.in_ok-lanes_of_channel.field-0 in
    let items = c.in_ok-push.ensures.items in
    record {
      len = omega (arith, ap length items, length_push before v, c.loop-channel.invariant.len);
      are = subst (λ vs. AreLists c.args.hops (c.loop-channel.channel + 1) vs) (sym items)
          (channel-more c.args.hops c.loop-channel.channel before v c.loop-channel.invariant.len c.in_ok-lanes_of_channel.ensures c.loop-channel.invariant.are);
    }

pub loop-count-preserved : goal.loop-count-preserved
loop-count-preserved c =
    let before = c.loop-count.all.items in
    let items = c.in_ok-push-2.ensures.items in
    let least = c.loop-count.invariant.least in
    record {
      len = omega (arith, ap length items, length_push before c.new.result, c.loop-count.invariant.len);
      least = omega (arith, least);
      most = omega (arith, c.loop-count-test.true);
      are = subst (λ vs. AreLists c.args.hops c.args.channels vs) (sym items)
          (none-more c.args.hops c.args.channels before c.new.result (omega (arith, least, c.loop-count.invariant.len)) c.new.ensures.items c.loop-count.invariant.are);
    }
