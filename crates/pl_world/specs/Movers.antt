-- Who makes a move.
use Rattle.std.specs.Prelude.{ℕ}
use Rattle.pl_world.specs.declared.moves.Move.{Move}
use Rattle.pl_world.specs.declared.moves.Move.TheVariants.{Read, Task, Hand, Out}

-- the channel or the executor that makes a move
abbrev pub mover_of : Move → ℕ
mover_of (Read c) = c
mover_of (Task x) = x
mover_of (Hand x) = x
mover_of (Out c) = c
