-- Which moves name what is there (Netty: EventLoop).
use Rattle.std.specs.Prelude.{length, Bool, true, false, nat_lt}
use Rattle.pl_world.specs.declared.moves.Move.{Move}
use Rattle.pl_world.specs.declared.moves.Move.TheVariants.{Read, Task, Hand, Out}
use Rattle.pl_world.specs.Plans.{Plan}

-- the channel or executor of a move is there
abbrev pub is_there : Plan → Move → Bool
is_there plan (Read c) = nat_lt c (length plan.channels)
is_there plan (Task x) = nat_lt x plan.executors
is_there plan (Hand x) = nat_lt x plan.executors
is_there plan (Out c) = nat_lt c (length plan.channels)

-- a hand-over: the only move for which a queue may have to grow
abbrev pub is_hand : Move → Bool
is_hand (Read c) = false
is_hand (Task x) = false
is_hand (Hand x) = true
is_hand (Out c) = false
