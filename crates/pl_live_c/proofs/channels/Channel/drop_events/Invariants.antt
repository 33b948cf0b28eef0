use Rattle.std.proofs.Common.{◌≡◌}
use Rattle.pl_world.specs.Plans.{ChannelPlan}
use Rattle.pl_live.specs.LiveStand.{consumed_of}
use Rattle.pl_live_c.specs.Channels.{RestsAt}
use Rattle.pl_live_c.proofs.channels.Channel.drop_events.Given as goal

abbrev pub invariant-loop : goal.invariant-loop
invariant-loop l = record {
  rests : (p : ChannelPlan) → RestsAt p l.fn.self.live → RestsAt p l.self.live;
  consumed : consumed_of l.self.live ≡ consumed_of l.fn.self.live;
  ends : l.self.live.ends ≡ l.fn.self.live.ends;
}
