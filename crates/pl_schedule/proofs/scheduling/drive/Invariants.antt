use Rattle.std.proofs.Common.{◌≡◌, [], length}
use Rattle.pl_schedule.specs.Driven.{IsDriven}
use Rattle.pl_schedule.proofs.scheduling.drive.Given as goal

-- Each round has made a move.
abbrev pub invariant-loop : goal.invariant-loop
invariant-loop g l = record {
  driven : IsDriven g.S.Stage.meaning g.S.Stage.stands_after g.S.Stage.is_spent g.T.Transport.state g.T.Transport.may_refuse l.fn.net [] l.net l.moves.items;
  count : length l.moves.items ≡ l.counter;
}
