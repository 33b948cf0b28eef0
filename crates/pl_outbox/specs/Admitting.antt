-- The admissions of an executor: at most one for each item that its nodes have made. So none of its seats is ever spent.
use Rattle.std.specs.Prelude.{◌≡◌, ℕ, ◌+◌, ◌<◌, ◌≤◌, ◌^◌, min, cond, true, List, length, sum_by}
use Rattle.std.specs.List.{list_any}
use Rattle.pl_event.specs.declared.envelopes.Lane.{Lane}
use Rattle.pl_event.specs.Hops.{same_lane}
use Rattle.pl_context.specs.Stops.{has_stopped}
use Rattle.pl_context.specs.OutputsViews.{OutputsView}
use Rattle.pl_flow.specs.LanesViews.{LanesView}
use Rattle.pl_outbox.specs.OutboxViews.{OutboxesView, admissions}

-- Fewer than 2^13 lanes are written.
pub record FewLanes (v : LanesView) : Type 0 where
  pub lanes : List Lane
  pub few : length lanes < 2 ^ 13
  pub all : (l : Lane) → v.written l ≡ true → list_any (same_lane l) lanes ≡ true

-- How many items of a lane were ever put on the work list, at most: as many as were made of it; once it has stopped there,
-- as many as a lane can have.
abbrev pub listed_at_most : LanesView → OutputsView → Lane → ℕ
listed_at_most v work l = cond (has_stopped work.stopped l) (2 ^ 32) (min (v.came l).next (2 ^ 32))

-- The admissions that were made and the items that are still on the work list are together no more than were ever put there.
pub record AdmitsOnce (v : LanesView) (o : OutboxesView) (work : OutputsView) : Type 0 where
  pub written : FewLanes v
  pub once : admissions o + length work.items ≤ sum_by (listed_at_most v work) written.lanes
