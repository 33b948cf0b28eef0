use Rattle.std.proofs.Common.{◌≡◌, ℕ, List, take, true}
use Rattle.std.specs.List.{list_all}
use Rattle.pl_context.specs.WaitingViews.{Entry}
use Rattle.pl_net.specs.Stations.{stations_view}
use Rattle.pl_net.specs.Nets.{StationsView}
use Rattle.pl_world.specs.Plans.{planned}
use Rattle.pl_replay.specs.MoveModel.{is_there}
use Rattle.pl_replay.specs.Moves.{Reaches}
use Rattle.pl_replay.specs.NetStand.{NetStands}
use Rattle.pl_replay.specs.Starts.{Begins, transports_of}
use Rattle.pl_replay.specs.declared.channels.Channels.{Channels}
use Rattle.pl_replay.proofs.replaying.replay_world.Given as goal

-- The net stands where the moves so far lead from a start of the plan.
abbrev pub invariant-loop-step : goal.invariant-loop-step
invariant-loop-step g l =
    let plan = planned g.S.Stage.meaning g.T.Transport.state l.fn.capacity l.fn.world.executors l.fn.world.channels in
    record {
      there : list_all (is_there plan) (take l.step-index l.moves) ≡ true;
      start : StationsView (Channels g.row.S.Denot g.row.T.Denot);
      begins : Begins g.S.Stage.meaning g.S.Stage.stands_after g.T.Transport.state plan (transports_of l.fn.world.channels) start;
      backlogs : ℕ → List (Entry (Unit {0}));
      stands : NetStands g.S.Stage.meaning g.S.Stage.stands_after g.T.Transport.state plan backlogs l.net;
      reached : Reaches g.S.Stage.meaning g.S.Stage.stands_after g.S.Stage.is_spent g.T.Transport.state g.T.Transport.may_refuse plan.capacity (take l.step-index l.moves) start (stations_view l.net backlogs);
    }
