-- What the command line requests (docs/FORMATS.md, "Program"), in clap's words for what it finds on a command line.
use Rattle.std.specs.Prelude.{List, [], ◌&&◌, drop, codes, Bool, not, Option, Some, None, unwrap_or, option_and_then, option_map, if◌then◌else◌}
use Rattle.std.specs.List.{list_any}
use Rattle.std.specs.Str.{bytes_eq}
use Rattle.clap.specs.Walk.{Row, Text, first_of, is_empty}
use Rattle.clap.specs.Faults.{fault_of}
use Rattle.clap.specs.Simple.{App, new_app, new_rule, subcommand_of, with_rule, with_subcommand}
use Rattle.clap.specs.declared.builder.action.ArgAction.TheVariants.{Set}
use Rattle.pl_exec.specs.declared.running.QueueKind.{QueueKind}
use Rattle.pl_exec.specs.declared.running.QueueKind.TheVariants.{Waiting, Ring}
use Rattle.pl_tool.specs.declared.program.command_line.Request.{Request}
use Rattle.pl_tool.specs.declared.program.command_line.Request.TheVariants as request

-- a subcommand with one option, which takes a text
abbrev pub subcommand_with : Text → Text → App
subcommand_with name option = with_rule (new_app name) (record (new_rule option) { long = Some option; action = Some Set })

-- replay --moves MOVES
abbrev pub replay_command : App
replay_command = subcommand_with (codes "replay") (codes "moves")

-- run --queue waiting|ring
abbrev pub run_command : App
run_command = subcommand_with (codes "run") (codes "queue")

-- without an option
abbrev pub plain_command : App
plain_command = new_app (codes "plain")

-- pl_tool, with its subcommands replay, run and plain
abbrev pub program : App
program = with_subcommand (with_subcommand (with_subcommand (new_app (codes "pl_tool")) replay_command.top) run_command.top) plain_command.top

-- A request: the report of a replay by the moves of a text, the report of a run, or the whole report.
pub data RequestView : Type 0 where
  Replay : Text → RequestView
  Run : QueueKind → RequestView
  Plain : RequestView

-- what contracts see of a request
abbrev pub request_view : Request → RequestView
request_view (request.Replay text) = Replay text.now
request_view (request.Run queue) = Run queue
request_view request.Plain = Plain

-- a replay by the moves of the option's text, which is empty where it is not given
abbrev pub replay_request : List Row → RequestView
replay_request rows = Replay (unwrap_or (first_of (codes "moves") rows) [])

-- the queue of this name
abbrev pub queue_named : Text → Option QueueKind
queue_named name = if bytes_eq (codes "waiting") name then Some Waiting else if bytes_eq (codes "ring") name then Some Ring else None

-- a run with the queue that the option names: none where it is not given, or names none
abbrev pub run_request : List Row → Option RequestView
run_request rows = option_map Run (option_and_then queue_named (first_of (codes "queue") rows))

-- the request of a subcommand, by its name and what was found of it
abbrev pub request_of_subcommand : Text × List Row → Option RequestView
request_of_subcommand found =
    if bytes_eq (codes "replay") found.0 then Some (replay_request found.1)
    else if bytes_eq (codes "run") found.0 then run_request found.1
    else if bytes_eq (codes "plain") found.0 then Some Plain else None

-- a line that is read has no lone - among its arguments
abbrev pub has_dash : List Text → Bool
has_dash args = list_any (bytes_eq (codes "-")) (drop 1 args)

-- clap has no fault to find with the line, and no argument of it is a lone -
abbrev pub is_read : List Text → Bool
is_read args = not (has_dash args) && is_empty (fault_of program args)

-- What a command line requests (FORMATS). Its first argument is the program's name.
abbrev pub request_of : List Text → Option RequestView
request_of args = if is_read args then option_and_then request_of_subcommand (subcommand_of program args) else None
