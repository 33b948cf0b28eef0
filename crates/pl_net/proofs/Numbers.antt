-- The numbers of a lane, by what is on its way.
use Rattle.std.proofs.Common.{◌≡◌, ℕ, ◌+◌, true, false, List, [], ◌∷◌, ◌++◌, length, ap, ◌∙◌, sym, arith, length-append}
use Rattle.pl_event.specs.declared.envelopes.Envelope.{Envelope}
use Rattle.pl_event.specs.declared.envelopes.Lane.{Lane}
use Rattle.pl_event.specs.Worlds.{World}
use Rattle.pl_context.specs.Stops.{has_stopped}
use Rattle.pl_context.specs.OutputsViews.{OutputsView}
use Rattle.pl_context.specs.WaitingViews.{Entry}
use Rattle.pl_flow.specs.Flows.{Point, point, after, on, IsFlow, past}
use Rattle.pl_net.specs.NodesViews.{NodesView}
use Rattle.pl_net.specs.Nets.{StationView, NetRuns, queue_at, stops_at, envelopes}
use Rattle.pl_net.specs.Numbers.{made_of}

-- each item that follows moves a lane on by one
past-next : (world : World) (p : Point) (xs : List Envelope) → IsFlow world p xs → (past p xs).next ≡ p.next + length xs
past-next world p [] f = omega arith
past-next world p (x ∷ xs) f = let n = f.0.number in let h = past-next world (after x) xs f.1 in omega (arith, n, h)

module _ (world : World) (v : NodesView) (x : ℕ) (es : List StationView) (backlogs : ℕ → List (Entry (Unit {0}))) (work : OutputsView) (runs : NetRuns world v x es backlogs work) (none : work.items ≡ []) (l : Lane) (w : v.lanes.written l ≡ true) where
  -- all that was made is there, where the lane was not cut off
  pub made-all : has_stopped (stops_at es (v.origin l) (v.lanes.target l)) l ≡ false → has_stopped work.stopped l ≡ false → made_of v es backlogs l ≡ (v.lanes.came l).next
  made-all cut stopped =
      let s = runs.lanes l w in
      let q = on l (queue_at es (v.lanes.target l)) in
      let y = on l (envelopes (backlogs (v.origin l))) in
      let n = past-next world (point (v.lanes.taken l) s.0) (q ++ y) s.1.between in
      let up = ap (λ (zs : List Envelope). past (past (point (v.lanes.taken l) s.0) (q ++ y)) (on l zs)) none in
      let to = ap (λ (p : Point). p.next) (sym up ∙ s.1.runs.up_to cut stopped) in
      omega (arith, n, to, length-append q y)
