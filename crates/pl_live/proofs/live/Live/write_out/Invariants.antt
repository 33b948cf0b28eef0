use Rattle.std.proofs.Common.{◌≡◌, ◌+◌, ◌≤◌, length}
use Rattle.pl_world.specs.Plans.{ChannelPlan}
use Rattle.pl_live.specs.LiveStand.{LiveStands, ReadsSame, accepted_in, parts_of}
use Rattle.pl_live.proofs.live.Live.write_out.Given as goal

-- It stands, and has made no read; and each offer so far has sent a byte.
abbrev pub invariant-loop : goal.invariant-loop
invariant-loop g l = record {
  stands : (p : ChannelPlan) → LiveStands g.S.Stage.meaning g.S.Stage.stands_after g.T.Transport.state p l.fn.self → LiveStands g.S.Stage.meaning g.S.Stage.stands_after g.T.Transport.state p l.self;
  same : l.self ≡ record l.fn.self { stations = l.self.stations };
  reads : ReadsSame (parts_of l.fn.self) (parts_of l.self);
  sent : (p : ChannelPlan) → LiveStands g.S.Stage.meaning g.S.Stage.stands_after g.T.Transport.state p l.fn.self → l.self.consumed + l.counter ≤ length (accepted_in g.T.Transport.state (parts_of l.self));
}
