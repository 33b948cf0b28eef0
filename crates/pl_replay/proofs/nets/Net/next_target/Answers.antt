use Rattle.std.proofs.Common.{◌≡◌, ℕ, ◌<◌, false, List, length, subst}
use Rattle.std.specs.List.{find}
use Rattle.std.specs.Option.{option_map}
use Rattle.pl_context.specs.WaitingViews.{Entry}
use Rattle.pl_net.specs.Nets.{has_room}
use Rattle.pl_net.specs.declared.stations.Stations.{Stations}
use Rattle.pl_channel.specs.Lanes.{world_of}
use Rattle.pl_world.specs.Plans.{Plan}
use Rattle.pl_replay.specs.NetStand.{NetStands}
use Rattle.pl_replay.specs.declared.channels.Channels.{Channels}
use Rattle.pl_replay.proofs.nets.Net.next_target.Goals as goal

pub returns-clause-next : goal.returns-clause-next
returns-clause-next g c = subst (λ (k : Stations (Channels g.row.S.Denot g.row.T.Denot)). (plan : Plan) (backlogs : ℕ → List (Entry (Unit {0}))) → NetStands g.S.Stage.meaning g.S.Stage.stands_after g.T.Transport.state plan backlogs k → c.args.executor < length k.stations.items
    → c.next_target.result ≡ option_map (λ entry. entry.target) (find (λ entry. has_room k.stations.items k.capacity entry.target) (backlogs c.args.executor))) c.self.view_is
    (λ plan backlogs n within. c.next_target.ensures (world_of false plan) 0 backlogs n.stands)
