use Rattle.std.proofs.Common.{◌≡◌, length}
use Rattle.pl_schedule.specs.Driven.{IsDriven}
use Rattle.pl_schedule.proofs.scheduling.make_next.Given as goal

-- None was enabled so far, and none was added.
abbrev pub invariant-loop : goal.invariant-loop
invariant-loop g l = record {
  driven : IsDriven g.S.Stage.meaning g.S.Stage.stands_after g.S.Stage.is_spent g.T.Transport.state g.T.Transport.may_refuse l.fn.net l.fn.moves.items l.net l.moves.items;
  count : length l.moves.items ≡ length l.fn.moves.items;
}
