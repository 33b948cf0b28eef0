use Rattle.std.proofs.Common.{◌∙◌}
use Rattle.pl_world.proofs.SettledWrites.{bytes_take, outcomes_take, unflushed_take}
use Rattle.pl_world.proofs.settling.settle_writes.Goals as goal

pub loop-event-preserved : goal.loop-event-preserved
loop-event-preserved c =
    let so_far = c.loop-event.invariant in
    let took = c.in_ok-take.ensures in
    let ys = c.loop-event.yielded in
    let e = c.in-Some.event in
    record {
      bytes = took.bytes ∙ bytes_take ys e c.loop-event.writes.bytes.items c.loop-event.writes.unflushed.items so_far.bytes so_far.unflushed;
      outcomes = took.outcomes ∙ outcomes_take ys e c.loop-event.writes.outcomes.items c.loop-event.writes.unflushed.items so_far.outcomes so_far.unflushed;
      unflushed = took.unflushed ∙ unflushed_take ys e c.loop-event.writes.unflushed.items so_far.unflushed;
    }
