-- What contracts see of a row of promises and its seats, and what each call does to a seat.
use Rattle.std.specs.Prelude.{◌≡◌, ℕ, ◌+◌, List, replicate, slice_set, Option, Some, None}
use Rattle.pl_event.specs.declared.outcomes.Outcome.{Outcome}
use Rattle.pl_words.specs.Names.{Name}
use Rattle.pl_words.specs.PromiseRule.{at}

-- which row it is, and how many promises it has
pub record PromisesView : Type 0 where
  pub name : Name
  pub limit : ℕ

-- A settler's seat. It says whose it is, how many settlers there are, of each promise the outcome that it has seen
-- and the one that it has settled it with, and the steps that it made.
pub record SettleSeatView : Type 0 where
  pub name : Name
  pub settlers : ℕ
  pub seen : List (Option Outcome)
  pub settled : List (Option Outcome)
  pub steps : ℕ

-- A reader's seat of promises. It says whose it is, of each promise the outcome that it has seen, and the steps that
-- it made.
pub record ReadSeatView : Type 0 where
  pub name : Name
  pub seen : List (Option Outcome)
  pub steps : ℕ

-- a settler's seat that has made no step
abbrev pub new_settler : Name → ℕ → ℕ → SettleSeatView
new_settler name limit settlers = record { name = name; settlers = settlers; seen = replicate limit None; settled = replicate limit None; steps = 0 }

-- a reader's seat that has seen no outcome
abbrev pub new_reader : Name → ℕ → ReadSeatView
new_reader name limit = record { name = name; seen = replicate limit None; steps = 0 }

-- One step settled promise n. The seat had seen nothing of it.
pub record Settles (s : SettleSeatView) (n : ℕ) (outcome : Outcome) (t : SettleSeatView) : Type 0 where
  pub settled : t ≡ record s { seen = slice_set s.seen n (Some outcome); settled = slice_set s.settled n (Some outcome); steps = s.steps + 1 }
  pub unseen : at s.seen n ≡ None
  pub stands : at t.seen n ≡ Some outcome

-- One step found promise n settled so. The only settler finds what it settled itself.
pub record Meets (s : SettleSeatView) (n : ℕ) (found : Outcome) (t : SettleSeatView) : Type 0 where
  pub same : t ≡ record s { seen = slice_set s.seen n (Some found); steps = s.steps + 1 }
  pub stands : at t.seen n ≡ Some found
  pub sole : s.settlers ≡ 1 → at s.settled n ≡ Some found

-- One look found this of promise n.
pub record Peeks (s : ReadSeatView) (n : ℕ) (found : Option Outcome) (t : ReadSeatView) : Type 0 where
  pub same : t ≡ record s { seen = slice_set s.seen n found; steps = s.steps + 1 }
  pub stands : at t.seen n ≡ found
