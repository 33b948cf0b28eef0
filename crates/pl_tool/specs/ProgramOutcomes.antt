-- What the program has done (docs/FORMATS.md, "Program").
use Rattle.std.specs.Prelude.{◌≡◌, ◌≢◌, ℕ, ◌≤◌, ◌<◌, List, length, map, Bool, false, ⊤, Option, Some, Result, Ok, Err, nat_lt, if◌then◌else◌}
use Rattle.std.specs.List.{list_all}
use Rattle.std.specs.Str.{is_utf8}
use Rattle.std.specs.Io.KnownBytes.{Appends, Consumes, IsAtEnd, Keeps}
use Rattle.pl_world.specs.declared.moves.Move.{Move}
use Rattle.pl_world.specs.declared.report.Report.{Report}
use Rattle.pl_text.specs.declared.faults.SessionFault.{SessionFault}
use Rattle.pl_text.specs.declared.faults.SessionFault.TheVariants.{Limit, NotJson}
use Rattle.pl_text.specs.declared.faults.SessionFault.TheVariants as session
use Rattle.pl_text.specs.declared.faults.MovesFault.{MovesFault}
use Rattle.pl_world.specs.declared.faults.ReplayFault.TheVariants as replay
use Rattle.pl_text.specs.declared.session_text.limits.TheConstants.{MAX_SESSION_TEXT}
use Rattle.pl_threads.specs.declared.threads.RunFault.TheVariants as run
use Rattle.pl_tool.specs.declared.program.failure.Failure.{Failure}
use Rattle.pl_tool.specs.declared.program.failure.Failure.TheVariants.{Usage, Moves, Replay, Input, Session, Run, Memory, Output}
use Rattle.pl_event.specs.Meaning.{IsPrefixOf}
use Rattle.pl_stages.specs.contracts.handlers.HandlerStage.TheImpl as handler
use Rattle.pl_head.specs.Transports.{MemoryTransportView, MayRefuse, memory_state, new_state}
use Rattle.pl_replay.specs.MoveModel.{is_there}
use Rattle.pl_replay.specs.Reported.{is_drained}
use Rattle.pl_world.specs.Plans.{Plan}
use Rattle.pl_replay.specs.Replays.{IsReplayed}
use Rattle.pl_world.specs.Reports.{whole_report}
use Rattle.pl_exec.specs.Reported.{IsRunReport}
use Rattle.pl_exec.specs.declared.running.QueueKind.{QueueKind}
use Rattle.pl_text.specs.SessionTexts.{session_of}
use Rattle.pl_text.specs.MovesTexts.{MeansMoves, IsNoMoves}
use Rattle.pl_text.specs.ReportTexts.{report_text}
use Rattle.pl_tool.specs.ProgramFailures.{status_of, failure_line}
use Rattle.pl_tool.specs.ProgramLines.{RequestView, Replay as ReplayRequest, Run as RunRequest, Plain}

-- whether every channel of the report is drained
abbrev pub all_drained : Report → Bool
all_drained report = list_all (λ c. is_drained c.stands) report.channels

-- at most this many bytes were taken from the reader
abbrev pub TakesAtMost : ℕ → Option (List ℕ) → Option (List ℕ) → Type 0
TakesAtMost most unread left = (bytes : List ℕ) × Consumes unread left bytes × (length bytes ≤ most)

-- the session that bytes mean: a text that is too long means none, whatever its bytes
abbrev pub session_of_bytes : List ℕ → Result Plan SessionFault
session_of_bytes input =
    if nat_lt MAX_SESSION_TEXT (length input) then Err Limit else if is_utf8 input then session_of input else Err NotJson

-- bytes were taken to the end of the input, and mean this session
pub record TakesSession (unread left : Option (List ℕ)) (session : Plan) : Type 0 where
  pub input : List ℕ
  pub taken : Consumes unread left input
  pub at_end : IsAtEnd left
  pub means : session_of_bytes input ≡ Ok session

-- These are the transports of the session's channels, in order. None was called, and each has the window and is to fail at
-- the call that the session says.
abbrev pub AreTransportsOf : Plan → List MemoryTransportView → Type 0
AreTransportsOf session transports = map memory_state transports ≡ map (λ channel. new_state channel.window channel.fail_at) session.channels

-- a report of the replay of a session by moves, with the built-in handlers, over transports to memory
abbrev pub IsReplayedOver : List MemoryTransportView → Plan → List Move → Report → Type 0
IsReplayedOver transports session moves report =
    IsReplayed handler.meaning-value.it handler.stands_after-value.it handler.is_spent-value.it memory_state MayRefuse session transports moves report

-- The text gives moves, and this is the report of the session's replay by them.
pub record IsReplayedBy (text : List ℕ) (session : Plan) (report : Report) : Type 0 where
  pub moves : List Move
  pub means : MeansMoves text moves
  pub transports : List MemoryTransportView
  pub are_its : AreTransportsOf session transports
  pub is_replayed : IsReplayedOver transports session moves report

-- this is the report of the session that is requested
abbrev pub IsAnswer : RequestView → Plan → Report → Type 0
IsAnswer (ReplayRequest text) session report = IsReplayedBy text session report
IsAnswer (RunRequest queue) session report = IsRunReport session report
IsAnswer Plain session report = report.channels ≡ map whole_report session.channels

-- The command line requests something, a session was taken, and this is the report of it that is requested.
pub record IsReported (requested : Option RequestView) (unread left : Option (List ℕ)) (report : Report) : Type 0 where
  pub request : RequestView
  pub given : requested ≡ Some request
  pub session : Plan
  pub taken : TakesSession unread left session
  pub is_answer : IsAnswer request session report

-- The text of the report was added to the writer (FORMATS).
pub record HasPrinted (drained : Bool) (requested : Option RequestView) (unread left before after : Option (List ℕ)) : Type 0 where
  pub report : Report
  pub is_reported : IsReported requested unread left report
  pub stands : drained ≡ all_drained report
  pub written : Appends before after (report_text report)

-- ---- why no report was printed

-- the text of the requested replay is not moves
pub record RefusesMoves (fault : MovesFault) (requested : Option RequestView) : Type 0 where
  pub text : List ℕ
  pub given : requested ≡ Some (ReplayRequest text)
  pub is_none : IsNoMoves fault text

-- the text of a replay gives moves
abbrev pub HasMoves : RequestView → Type 0
HasMoves (ReplayRequest text) = (moves : List Move) × MeansMoves text moves
HasMoves (RunRequest queue) = ⊤
HasMoves Plain = ⊤

-- the command line and its moves were read
pub record IsLineRead (requested : Option RequestView) : Type 0 where
  pub request : RequestView
  pub given : requested ≡ Some request
  pub moves : HasMoves request

-- The bytes that were taken, to the end of the input or to one more than a session may have, are not a session.
pub record RefusesSession (fault : SessionFault) (unread left : Option (List ℕ)) : Type 0 where
  pub input : List ℕ
  pub taken : Consumes unread left input
  pub at_end : length input ≤ MAX_SESSION_TEXT → IsAtEnd left
  pub means : session_of_bytes input ≡ Err fault
  pub is_named : fault ≢ session.Memory

-- A session was taken, and a move names what is not there.
pub record NamesMissing (requested : Option RequestView) (unread left : Option (List ℕ)) : Type 0 where
  pub text : List ℕ
  pub given : requested ≡ Some (ReplayRequest text)
  pub moves : List Move
  pub means : MeansMoves text moves
  pub session : Plan
  pub taken : TakesSession unread left session
  pub missing : list_all (is_there session) moves ≡ false

-- A session was taken for a run.
pub record IsForRun (requested : Option RequestView) (unread left : Option (List ℕ)) : Type 0 where
  pub queue : QueueKind
  pub given : requested ≡ Some (RunRequest queue)
  pub session : Plan
  pub taken : TakesSession unread left session

-- how reading may end after this many bytes: with more than a session may have, only as a session that is too long
abbrev pub EndsReading : Failure → ℕ → Type 0
EndsReading Input count = count ≤ MAX_SESSION_TEXT
EndsReading (Session Limit) count = MAX_SESSION_TEXT < count
EndsReading Memory count = count ≤ MAX_SESSION_TEXT
EndsReading _ count = ⊥

-- a failure at the session
abbrev pub RefusesInput : Failure → Option (List ℕ) → Option (List ℕ) → Type 0
RefusesInput Input unread left = TakesAtMost MAX_SESSION_TEXT unread left
RefusesInput (Session f) unread left = RefusesSession f unread left
RefusesInput Memory unread left = TakesAtMost MAX_SESSION_TEXT unread left
RefusesInput _ unread left = ⊥

-- The command line requests something, and no more was taken than a session may have.
pub record IsOutOfMemory (requested : Option RequestView) (unread left : Option (List ℕ)) : Type 0 where
  pub request : RequestView
  pub given : requested ≡ Some request
  pub taken : TakesAtMost MAX_SESSION_TEXT unread left

-- What a failure says of the command line and of what was taken from the reader. Why a read or a write failed, why no
-- thread was started, and whether memory ran out, is not seen here. So Usage says only that nothing was taken, Input that
-- the line and its moves were read, Run that a run was requested and a session taken, Output that there was a report,
-- and Memory that the line was read. Input and Memory do not come where more was taken than a session may have.
abbrev pub IsCause : Failure → Option RequestView → Option (List ℕ) → Option (List ℕ) → Type 0
IsCause Usage requested unread left = Keeps unread left
IsCause (Moves f) requested unread left = RefusesMoves f requested × Keeps unread left
IsCause (Replay replay.NoSuch) requested unread left = NamesMissing requested unread left
IsCause (Replay replay.Memory) requested unread left = ⊥
IsCause Input requested unread left = IsLineRead requested × TakesAtMost MAX_SESSION_TEXT unread left
IsCause (Session f) requested unread left = IsLineRead requested × RefusesSession f unread left
IsCause (Run run.Spawn) requested unread left = IsForRun requested unread left
IsCause (Run run.Memory) requested unread left = ⊥
IsCause Memory requested unread left = IsOutOfMemory requested unread left
IsCause Output requested unread left = (report : Report) × IsReported requested unread left report

-- A failure left the first writer as it was. Of a writer that failed itself nothing is said.
abbrev pub Explains : Failure → Option RequestView → Option (List ℕ) → Option (List ℕ) → Option (List ℕ) → Option (List ℕ) → Type 0
Explains failure requested unread left before after = IsCause failure requested unread left × (failure ≢ Output → Keeps before after)

-- A beginning of these bytes was added to the writer. It may be all or none of them.
pub record AppendsPrefixOf (whole : List ℕ) (before after : Option (List ℕ)) : Type 0 where
  pub part : List ℕ
  pub begins : IsPrefixOf part whole
  pub added : Appends before after part

-- The program ended by a failure, with its status (FORMATS). What the second writer got begins the line of that
-- failure.
pub record HasFailed (status : ℕ) (requested : Option RequestView) (unread left before after silent spoken : Option (List ℕ)) : Type 0 where
  pub failure : Failure
  pub ended : status ≡ status_of failure
  pub explained : Explains failure requested unread left before after
  pub said : AppendsPrefixOf (failure_line failure) silent spoken
