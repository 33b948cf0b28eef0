use Rattle.std.proofs.Common.{◌≡◌, ◌+◌, ◌≤◌, ◌⊎◌, false}
use Rattle.pl_world.specs.Plans.{ChannelPlan}
use Rattle.pl_live.specs.LiveStand.{LiveStands, left_in, open_in, parts_of}
use Rattle.pl_live.proofs.live.Live.advance.Given as goal

-- It stands; and a burst was read each time, or its reads are closed.
abbrev pub invariant-loop : goal.invariant-loop
invariant-loop g l = record {
  stands : (p : ChannelPlan) → LiveStands g.S.Stage.meaning g.S.Stage.stands_after g.T.Transport.state p l.fn.self → LiveStands g.S.Stage.meaning g.S.Stage.stands_after g.T.Transport.state p l.self;
  same : l.self ≡ record l.fn.self { stations = l.self.stations };
  left : (open_in (parts_of l.self) ≡ false) ⊎ (left_in (parts_of l.self) + l.counter ≡ l.end);
  least : l.end ≤ left_in (parts_of l.self) + l.counter;
}
