use Rattle.std.proofs.Common.{◌≡◌, ◌+◌, ◌≤◌, ℕ, List, vec_len}
use Rattle.pl_event.specs.Worlds.{World}
use Rattle.pl_context.specs.WaitingViews.{Entry}
use Rattle.pl_net.specs.Nets.{StationsStand, Steps, done_by}
use Rattle.pl_net.specs.Stations.{stations_view}
use Rattle.pl_net.proofs.stations.Stations.work_off.Given as goal

-- So many steps were made, and each has done something.
abbrev pub invariant-loop : goal.invariant-loop
invariant-loop g l = record {
  capacity : l.self.capacity ≡ l.fn.self.capacity;
  count : vec_len l.self.stations ≡ vec_len l.fn.self.stations;
  steps : (world : World) (backlogs : ℕ → List (Entry (Unit {0}))) → StationsStand g.N.Nodes.view_of g.N.Nodes.stands world l.me (stations_view l.fn.self backlogs)
      → (after : ℕ → List (Entry (Unit {0}))) × StationsStand g.N.Nodes.view_of g.N.Nodes.stands world l.me (stations_view l.self after)
      × ((n : ℕ) × Steps g.N.Nodes.view_of g.N.Nodes.takes l.me n (stations_view l.fn.self backlogs) (stations_view l.self after));
  done : done_by (g.N.Nodes.view_of l.fn.self.nodes) l.me l.fn.self.stations.items + l.counter ≤ done_by (g.N.Nodes.view_of l.self.nodes) l.me l.self.stations.items;
}
