-- What becomes of the writes of a head that fails by itself: each gets an outcome, and what has one keeps it.
use Rattle.std.specs.Prelude.{◌≡◌, ℕ, List, [], ◌++◌, map, Bool, false, Option, Some, None}
use Rattle.pl_event.specs.declared.events.Event.{Event}
use Rattle.pl_event.specs.declared.outcomes.Outcome.{Outcome}
use Rattle.pl_event.specs.declared.outcomes.Outcome.TheVariants.{Closed, Fault}
use Rattle.pl_event.specs.declared.outcomes.Cause.{Cause}
use Rattle.pl_event.specs.declared.outcomes.Cause.TheVariants.{Memory, Transport, Aborted, Refused}
use Rattle.pl_head.specs.Writes.{writes_by, late_outcome, outcomes}

-- the outcome by which a failure settles what was not sent
abbrev pub failure_outcome : Cause → Outcome
failure_outcome Transport = Fault
failure_outcome Memory = Closed
failure_outcome Aborted = Closed
failure_outcome Refused = Closed

-- what waits is settled by this outcome, and what is settled stays
abbrev pub settled_by : Outcome → Option Outcome → Option Outcome
settled_by o (Some before) = Some before
settled_by o None = Some o

-- Head outcomes: those of the writes of the events ys, which were taken before a failure of the head's own, and then
-- those of the writes that got a number from the failure on.
abbrev pub head_outcomes : Option Cause → List Event → List (Option (List ℕ)) → ℕ → Bool → List (Option Outcome)
head_outcomes None ys late accepted ended = outcomes ys accepted ended
head_outcomes (Some cause) ys late accepted ended =
    map (settled_by (failure_outcome cause)) (outcomes ys accepted ended) ++ map (late_outcome (failure_outcome cause)) late

-- These are the outcomes after the events ys, and after zs, which came from the failure on: the first writes of zs have
-- a number, and all of them where numbering goes on.
pub record AreOutcomes (failure : Option Cause) (is_full : Bool) (ys zs : List Event) (accepted : ℕ) (ended : Bool) (os : List (Option Outcome)) : Type 0 where
  pub late : List (Option (List ℕ))
  pub unnumbered : List (Option (List ℕ))
  pub split : late ++ unnumbered ≡ writes_by zs
  pub all : is_full ≡ false → unnumbered ≡ []
  pub outcomes_are : os ≡ head_outcomes failure ys late accepted ended
