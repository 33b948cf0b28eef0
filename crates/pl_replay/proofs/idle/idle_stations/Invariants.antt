use Rattle.std.proofs.Common.{◌≡◌, vec_len}
use Rattle.pl_replay.proofs.IdleStations.{AllIdle}
use Rattle.pl_replay.proofs.idle.idle_stations.Given as goal

abbrev pub invariant-loop-places : goal.invariant-loop-places
invariant-loop-places g l = record {
  size : vec_len l.stations ≡ l.places-index;
  each : AllIdle l.fn.parts l.fn.count l.stations.items;
}
