-- The text of a report (docs/FORMATS.md, "Report").
use Rattle.std.specs.Prelude.{ℕ, ◌+◌, List, [], ◌∷◌, ◌++◌, length, Option, Some, None, codes, decimal}
use Rattle.std.specs.List.{flat_map}
use Rattle.hex.specs.Hex.{encode_lower}
use Rattle.pl_event.specs.declared.events.Event.{Event}
use Rattle.pl_event.specs.declared.events.Event.TheVariants as event
use Rattle.pl_event.specs.declared.events.Message.{Message}
use Rattle.pl_event.specs.declared.events.Message.TheVariants as message
use Rattle.pl_event.specs.declared.events.Command.{Command}
use Rattle.pl_event.specs.declared.events.Command.TheVariants as command
use Rattle.pl_event.specs.declared.events.Caught.{Caught}
use Rattle.pl_event.specs.declared.events.Caught.TheVariants as caught
use Rattle.pl_event.specs.declared.outcomes.Outcome.{Outcome}
use Rattle.pl_event.specs.declared.outcomes.Outcome.TheVariants as outcome
use Rattle.pl_event.specs.declared.outcomes.Cause.{Cause}
use Rattle.pl_event.specs.declared.outcomes.Cause.TheVariants as cause
use Rattle.pl_stages.specs.Replies.{reply_text}
use Rattle.pl_world.specs.declared.report.Stands.{Stands}
use Rattle.pl_world.specs.declared.report.Stands.TheVariants.{Drained, Open, Failed}
use Rattle.pl_world.specs.declared.report.ChannelReport.{ChannelReport}
use Rattle.pl_world.specs.declared.report.Report.{Report}

-- lower case hex, or a dash where there are no bytes
abbrev pub hex_text : List ℕ → List ℕ
hex_text [] = codes "-"
hex_text (b ∷ bs) = encode_lower (b ∷ bs)

abbrev pub cause_text : Cause → List ℕ
cause_text cause.Memory = codes "Memory"
cause_text cause.Transport = codes "Transport"
cause_text cause.Aborted = codes "Aborted"
cause_text cause.Refused = codes "Refused"

-- how a channel stands, in words (FORMATS)
abbrev pub stands_text : Stands → List ℕ
stands_text Drained = codes "drained"
stands_text Open = codes "open"
stands_text (Failed c) = codes "failed " ++ cause_text c

abbrev pub outcome_text : Option Outcome → List ℕ
outcome_text None = codes "Open"
outcome_text (Some outcome.Success) = codes "Success"
outcome_text (Some outcome.Closed) = codes "Closed"
outcome_text (Some outcome.Fault) = codes "Fault"
outcome_text (Some outcome.Unsupported) = codes "Unsupported"

abbrev pub caught_text : Caught → List ℕ
caught_text caught.TooLong = codes "Caught TooLong"
caught_text caught.Unknown = codes "Caught Unknown"
caught_text caught.Syntax = codes "Caught Syntax"

-- docs/FORMATS.md, "Report"
abbrev pub command_text : Command → List ℕ
command_text command.Ping = codes "Ping"
command_text command.Quit = codes "Quit"
command_text (command.Echo b) = codes "Echo " ++ hex_text b
command_text (command.Add k n) = codes "Add " ++ k ++ codes " " ++ decimal n
command_text (command.Get k) = codes "Get " ++ k

abbrev pub message_text : Message → List ℕ
message_text (message.Bytes b) = codes "Bytes " ++ hex_text b
message_text (message.Line b) = codes "Line " ++ hex_text b
message_text (message.Command c) = command_text c
message_text (message.Reply r) = codes "Reply " ++ hex_text (reply_text r)

-- an event, as a line of the tail has it (FORMATS)
abbrev pub event_text : Event → List ℕ
event_text event.Active = codes "Active"
event_text event.ReadComplete = codes "ReadComplete"
event_text event.Flush = codes "Flush"
event_text (event.Caught f) = caught_text f
event_text (event.User n) = codes "User " ++ decimal n
event_text (event.Read m) = codes "Read " ++ message_text m
event_text (event.Write m) = codes "Write " ++ message_text m

abbrev pub event_line : Event → List ℕ
event_line e = event_text e ++ codes "\n"

-- each write after its number, from n on
abbrev pub write_lines : ℕ → List (Option Outcome) → List ℕ
write_lines n [] = []
write_lines n (o ∷ os) = decimal n ++ codes " " ++ outcome_text o ++ codes "\n" ++ write_lines (n + 1) os

-- the bytes that a channel has sent, and its writes
abbrev pub sent_text : ChannelReport → List ℕ
sent_text r =
    codes "bytes " ++ decimal (length r.bytes) ++ codes " " ++ hex_text r.bytes ++ codes "\n"
    ++ codes "writes " ++ decimal (length r.writes) ++ codes "\n"
    ++ write_lines 0 r.writes

-- the lines of channel c
abbrev pub channel_text : ℕ → ChannelReport → List ℕ
channel_text c r =
    codes "channel " ++ decimal c ++ codes " " ++ stands_text r.stands ++ codes "\n"
    ++ codes "tail " ++ decimal (length r.tail) ++ codes "\n"
    ++ flat_map event_line r.tail
    ++ sent_text r

-- the lines of channels, from channel c on
abbrev pub channels_text : ℕ → List ChannelReport → List ℕ
channels_text c [] = []
channels_text c (r ∷ rs) = channel_text c r ++ channels_text (c + 1) rs

-- the text of a report (FORMATS)
abbrev pub report_text : Report → List ℕ
report_text r = channels_text 0 r.channels
