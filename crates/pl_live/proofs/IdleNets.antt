-- A net on one executor, with nothing on its way, stands so in any world.
use Rattle.std.proofs.Common.{◌≡◌, ℕ, Bool, List, [], ◌++◌, length, sym, ap, subst, arith}
use Rattle.pl_event.specs.declared.envelopes.Envelope.{Envelope}
use Rattle.pl_event.specs.Worlds.{World}
use Rattle.pl_context.specs.OutputsViews.{OutputsView}
use Rattle.pl_context.specs.Stops.{HasPlaces, has_stopped}
use Rattle.pl_context.specs.WaitingViews.{Entry}
use Rattle.pl_flow.specs.Flows.{Point, point, on, IsFlow, past}
use Rattle.pl_net.specs.NodesViews.{NodesView}
use Rattle.pl_net.specs.Nets.{StationView, StationsView, StationsStand, AreFew, LaneStands, NetRuns, envelopes, queue_at, stops_at}

module _ (world world' : World) where
  -- nothing follows any point
  none-follow : (base : Point) (items : List Envelope) → items ≡ [] → IsFlow world' base items
  none-follow base items none = subst (λ (xs : List Envelope). IsFlow world' base xs) (sym none) tt

  idle-lane : (base made : Point) (queued waits listed : List Envelope) (cut stopped : Bool) → queued ≡ [] → waits ≡ [] → listed ≡ [] → LaneStands world base queued waits cut stopped listed made
      → LaneStands world' base queued waits cut stopped listed made
  idle-lane base made queued waits listed cut stopped none_queued none_waits none_listed s = record {
    between = none-follow base (queued ++ waits) (λ i. none_queued i ++ none_waits i);
    runs = record {
      flow = λ whole. none-follow (past base (queued ++ waits)) listed none_listed;
      up_to = s.runs.up_to;
    };
  }

  -- all lanes are direct there
  idle-runs : (v : NodesView) (x : ℕ) (executors : List StationView) (backlogs : ℕ → List (Entry (Unit {0}))) (work : OutputsView) → length executors ≡ 1 → work.items ≡ []
      → NetRuns world v x executors backlogs work → NetRuns world' v x executors backlogs work
  idle-runs v x executors backlogs work one rests r = record {
    lanes = λ l writes.
        let was = r.lanes l writes in
        let there = r.there l writes in
        let from = there.0 in
        let to = there.1 in
        let here = r.direct l writes (omega (arith, one, from, to)) in (
          was.0,
          idle-lane (point (v.lanes.taken l) was.0) (v.lanes.came l) (on l (queue_at executors (v.lanes.target l))) (on l (envelopes (backlogs (v.origin l)))) (on l work.items)
              (has_stopped (stops_at executors (v.origin l) (v.lanes.target l)) l) (has_stopped work.stopped l) here.0 here.1 (ap (λ (items : List Envelope). on l items) rests) was.1,
        );
    direct = r.direct;
    listed = r.listed;
    queued = r.queued;
    waits = r.waits;
    entries = r.entries;
    holds = r.holds;
    targets = r.targets;
    there = r.there;
    hops = r.hops;
    placed = r.placed;
    among = r.among;
  }

  -- Nodes that stand there and are seen as those before them, with the same on its way, stand so together.
  pub idle-stands : {N : Type 0} (view_of : N → NodesView) (stands : World → N → Type 0) (x : ℕ) (c c' : StationsView N) → length c.stations ≡ 1 → c.work.items ≡ [] → StationsStand view_of stands world x c
      → stands world' c'.nodes → view_of c'.nodes ≡ view_of c.nodes → c'.stations ≡ c.stations → c'.backlogs ≡ c.backlogs → c'.work ≡ c.work → StationsStand view_of stands world' x c'
  idle-stands view_of stands x c c' one rests s hold view executors backlogs work = record {
    hold = hold;
    runs = kept (λ k. NetRuns world' k.0 x k.1 k.2 k.3) (idle-runs (view_of c.nodes) x c.stations c.backlogs c.work one rests s.runs);
    counts = kept (λ k. AreFew k.0 k.1 k.3) s.counts;
    places = kept (λ k. HasPlaces k.3.stopped k.0.lanes.places) s.places;
  }
    where
      kept : (P : NodesView × List StationView × (ℕ → List (Entry (Unit {0}))) × OutputsView → Type 0) → P (view_of c.nodes, c.stations, c.backlogs, c.work) → P (view_of c'.nodes, c'.stations, c'.backlogs, c'.work)
      kept P was = subst P (λ i. (sym view i, sym executors i, sym backlogs i, sym work i)) was
