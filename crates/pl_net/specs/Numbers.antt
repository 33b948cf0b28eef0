-- The numbers of a lane: how many items of it were taken, how many handed over to where it goes, and how many made.
use Rattle.std.specs.Prelude.{ℕ, ◌+◌, List, length}
use Rattle.pl_event.specs.declared.envelopes.Lane.{Lane}
use Rattle.pl_context.specs.WaitingViews.{Entry}
use Rattle.pl_flow.specs.Flows.{on}
use Rattle.pl_net.specs.NodesViews.{NodesView}
use Rattle.pl_net.specs.Nets.{StationView, queue_at, envelopes}

-- how many items of a lane were handed over (EventExecutor)
abbrev pub handed_of : NodesView → List StationView → Lane → ℕ
handed_of v stations l = v.lanes.taken l + length (on l (queue_at stations (v.lanes.target l)))

-- how many items of a lane were made (EventExecutor)
abbrev pub made_of : NodesView → List StationView → (ℕ → List (Entry Unit)) → Lane → ℕ
made_of v stations backlogs l = handed_of v stations l + length (on l (envelopes (backlogs (v.origin l))))
