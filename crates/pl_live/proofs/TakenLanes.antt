-- Where there is one executor, nothing is on its way and nothing has stopped, all that was made of a lane was taken.
use Rattle.std.proofs.Common.{◌≡◌, ℕ, true, false, List, [], length, ap, arith}
use Rattle.pl_event.specs.declared.envelopes.Lane.{Lane}
use Rattle.pl_event.specs.Worlds.{World}
use Rattle.pl_context.specs.OutputsViews.{OutputsView}
use Rattle.pl_context.specs.Stops.{any_stopped}
use Rattle.pl_context.specs.WaitingViews.{Entry}
use Rattle.pl_context.proofs.PortLemmas.{none-stopped}
use Rattle.pl_net.specs.Nets.{StationView, NetRuns}
use Rattle.pl_net.specs.NodesViews.{NodesView}
use Rattle.pl_net.proofs.Numbers.{made-all}

module _ (world : World) (v : NodesView) (es : List StationView) (backlogs : ℕ → List (Entry (Unit {0}))) (work : OutputsView) (runs : NetRuns world v 0 es backlogs work)
    (one : length es ≡ 1) (none : work.items ≡ []) (sound : any_stopped work.stopped ≡ false) where
  pub all-taken : (l : Lane) → v.lanes.written l ≡ true → v.lanes.taken l ≡ (v.lanes.came l).next
  all-taken l w =
      let there = runs.there l w in
      let here : v.origin l ≡ v.lanes.target l = omega (arith, there.0, there.1, one) in
      let direct = runs.direct l w here in
      let queued = ap length direct.0 in
      let waits = ap length direct.1 in
      omega (arith, queued, waits, made-all world v 0 es backlogs work runs none l w direct.2 (none-stopped work.stopped l sound))
