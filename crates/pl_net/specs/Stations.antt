-- Stations, as contracts see them.
use Rattle.std.specs.Prelude.{◌≡◌, ℕ, List, map}
use Rattle.pl_context.specs.WaitingViews.{Entry}
use Rattle.pl_net.specs.Nets.{StationsView, StationView}
use Rattle.pl_net.specs.declared.stations.Stations.{Stations}

-- stations as contracts see them, with these backlogs
abbrev pub stations_view : {N : Type 0} → Stations N → (ℕ → List (Entry Unit)) → StationsView N
stations_view c backlogs = record { nodes = c.nodes; stations = c.stations.items; backlogs = backlogs; work = c.work }

-- Nothing has moved.
pub record IsUnmoved {N : Type 0} (c c' : Stations N) : Type 0 where
  pub nodes : c'.nodes ≡ c.nodes
  pub stations : c'.stations.items ≡ c.stations.items
  pub work : c'.work ≡ c.work

-- what waits at an executor, whatever memory its queue has
abbrev pub waits_of : StationView → StationView
waits_of e = record e { room = 0 }

-- Nothing has moved but how much memory queues have.
pub record IsUnmovedButRoom {N : Type 0} (c c' : Stations N) : Type 0 where
  pub nodes : c'.nodes ≡ c.nodes
  pub stations : map waits_of c'.stations.items ≡ map waits_of c.stations.items
  pub work : c'.work ≡ c.work
