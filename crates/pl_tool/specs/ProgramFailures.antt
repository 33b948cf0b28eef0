-- Why the program printed no report, its status, and its line on the second writer (docs/FORMATS.md, "Program").
use Rattle.std.specs.Prelude.{ℕ, List, [], ◌∷◌, ◌++◌, codes, Option, Some, None}
use Rattle.std.specs.declared.io.ErrorKind.{ErrorKind}
use Rattle.std.specs.declared.io.ErrorKind.TheVariants.{Interrupted, OutOfMemory}
use Rattle.pl_text.specs.declared.faults.MovesFault.{MovesFault}
use Rattle.pl_text.specs.declared.faults.MovesFault.TheVariants as moves
use Rattle.pl_build.specs.declared.faults.BuildFault.{BuildFault}
use Rattle.pl_build.specs.declared.faults.BuildFault.TheVariants as build
use Rattle.pl_build.specs.Refusals.{build_fault_text}
use Rattle.pl_text.specs.declared.faults.SessionFault.{SessionFault}
use Rattle.pl_text.specs.declared.faults.SessionFault.TheVariants as session
use Rattle.pl_world.specs.declared.faults.ReplayFault.{ReplayFault}
use Rattle.pl_world.specs.declared.faults.ReplayFault.TheVariants as replay
use Rattle.pl_threads.specs.declared.threads.RunFault.{RunFault}
use Rattle.pl_threads.specs.declared.threads.RunFault.TheVariants as run
use Rattle.pl_text.specs.declared.faults.PrintFault.{PrintFault}
use Rattle.pl_text.specs.declared.faults.PrintFault.TheVariants as print
use Rattle.pl_tool.specs.declared.program.failure.Failure.{Failure}
use Rattle.pl_tool.specs.declared.program.failure.Failure.TheVariants.{Usage, Moves, Replay, Input, Session, Run, Memory, Output}

-- The status of a failure (FORMATS). 2: the command line or the moves were not read, or name what is not there; 3:
-- the session; 4: a thread, memory, or a writer.
abbrev pub status_of : Failure → ℕ
status_of Usage = 2
status_of (Moves f) = 2
status_of (Replay f) = 2
status_of Input = 3
status_of (Session f) = 3
status_of (Run f) = 4
status_of Memory = 4
status_of Output = 4

-- out of memory is one failure, wherever it comes from
abbrev pub or_memory : Failure → Failure
or_memory (Moves moves.Memory) = Memory
or_memory (Replay replay.Memory) = Memory
or_memory (Session session.Memory) = Memory
or_memory (Run run.Memory) = Memory
or_memory failure = failure

abbrev pub failure_of_print : PrintFault → Failure
failure_of_print print.Memory = Memory
failure_of_print print.Output = Output

-- The failure of arguments that cannot be taken. They are a command line that is not read, unless memory ran out.
abbrev pub failure_of_args : ErrorKind → Failure
failure_of_args OutOfMemory = Memory
failure_of_args _ = Usage

-- a read that was interrupted is made again
abbrev pub failure_of_read : ErrorKind → Option Failure
failure_of_read Interrupted = None
failure_of_read _ = Some Input

-- ---- lines: a text and LF. A fault that says out of memory is not one of what was read, and has that line.

abbrev pub line : List ℕ → List ℕ
line text = text ++ 10 ∷ []

abbrev pub memory_line : List ℕ
memory_line = line (codes "out of memory")

abbrev pub moves_line : MovesFault → List ℕ
moves_line moves.Form = line (codes "moves refused: 1 Form")
moves_line moves.Limit = line (codes "moves refused: 2 Limit")
moves_line moves.Memory = memory_line

abbrev pub replay_line : ReplayFault → List ℕ
replay_line replay.NoSuch = line (codes "replay refused: 1 NoSuch")
replay_line replay.Memory = memory_line

abbrev pub run_line : RunFault → List ℕ
run_line run.Spawn = line (codes "run refused: 2 Spawn")
run_line run.Memory = memory_line

abbrev pub build_line : BuildFault → List ℕ
build_line build.Memory = memory_line
build_line fault = line (codes "session refused: 6 Build " ++ build_fault_text fault)

abbrev pub session_line : SessionFault → List ℕ
session_line session.NotJson = line (codes "session refused: 1 NotJson")
session_line session.Version = line (codes "session refused: 2 Version")
session_line session.Missing = line (codes "session refused: 3 Missing")
session_line session.Kind = line (codes "session refused: 4 Kind")
session_line session.Limit = line (codes "session refused: 5 Limit")
session_line (session.Build f) = build_line f
session_line session.Memory = memory_line

-- the line of a failure (FORMATS)
abbrev pub failure_line : Failure → List ℕ
failure_line Usage = line (codes "usage: pl_tool replay [--moves MOVES] | run --queue waiting|ring | plain")
failure_line (Moves f) = moves_line f
failure_line (Replay f) = replay_line f
failure_line Input = line (codes "input refused")
failure_line (Session f) = session_line f
failure_line (Run f) = run_line f
failure_line Memory = memory_line
failure_line Output = line (codes "output refused")
