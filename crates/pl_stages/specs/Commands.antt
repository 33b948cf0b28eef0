-- Commands: what one line asks for (docs/FORMATS.md, "Commands").
use Rattle.std.specs.Prelude.{ℕ, List, Bool, if◌then◌else◌, ◌==◌, Option, Some, None, option_and_then, Result, Ok, Err, codes}
use Rattle.std.specs.List.{list_any, before_first, after_first}
use Rattle.std.specs.Str.{bytes_eq}
use Rattle.pl_event.specs.Keys.{is_key}
use Rattle.pl_event.specs.declared.events.Event.{Event}
use Rattle.pl_event.specs.declared.events.Event.TheVariants as event
use Rattle.pl_event.specs.declared.events.Message.TheVariants as message
use Rattle.pl_event.specs.declared.events.Command.{Command}
use Rattle.pl_event.specs.declared.events.Command.TheVariants.{Ping, Quit, Echo, Add, Get}
use Rattle.pl_event.specs.declared.events.Caught.{Caught}
use Rattle.pl_event.specs.declared.events.Caught.TheVariants.{Unknown, Syntax}
use Rattle.pl_event.specs.Meaning.{Meaning}
use Rattle.pl_event.specs.Mappings.{mapping_up}
use Rattle.pl_stages.specs.Numbers.{number_in}

abbrev pub is_space : ℕ → Bool
is_space b = b == 32

-- what is before the first space, or all where there is none
abbrev pub before_space : List ℕ → List ℕ
before_space text = before_first is_space text

-- what is after the first space, where there is one
abbrev pub after_space : List ℕ → Option (List ℕ)
after_space text = if list_any is_space text then Some (after_first is_space text) else None

-- the key of this name
abbrev pub key_in : List ℕ → Option (List ℕ)
key_in name = if is_key name then Some name else None

-- nothing follows PING and QUIT
abbrev pub ping_with : Option (List ℕ) → Result Command Caught
ping_with None = Ok Ping
ping_with (Some argument) = Err Syntax

abbrev pub quit_with : Option (List ℕ) → Result Command Caught
quit_with None = Ok Quit
quit_with (Some argument) = Err Syntax

-- ECHO is followed by a space and any text
abbrev pub echo_with : Option (List ℕ) → Result Command Caught
echo_with None = Err Syntax
echo_with (Some text) = Ok (Echo text)

-- an addition has both a key and a number
abbrev pub addition_of : Option (List ℕ) → Option ℕ → Result Command Caught
addition_of (Some key) (Some n) = Ok (Add key n)
addition_of (Some key) None = Err Syntax
addition_of None n = Err Syntax

-- ADD is followed by a space, a key, a space and a number
abbrev pub add_with : Option (List ℕ) → Result Command Caught
add_with None = Err Syntax
add_with (Some argument) =
    addition_of (key_in (before_space argument)) (option_and_then number_in (after_space argument))

abbrev pub get_of : Option (List ℕ) → Result Command Caught
get_of (Some key) = Ok (Get key)
get_of None = Err Syntax

-- GET is followed by a space and a key
abbrev pub get_with : Option (List ℕ) → Result Command Caught
get_with None = Err Syntax
get_with (Some argument) = get_of (key_in argument)

-- the command of a verb and of what is after its space
abbrev pub command_with : List ℕ → Option (List ℕ) → Result Command Caught
command_with verb argument =
    if bytes_eq verb (codes "PING") then ping_with argument
    else (if bytes_eq verb (codes "QUIT") then quit_with argument
    else (if bytes_eq verb (codes "ECHO") then echo_with argument
    else (if bytes_eq verb (codes "ADD") then add_with argument
    else (if bytes_eq verb (codes "GET") then get_with argument
    else Err Unknown))))

-- the verb of a line: what is before its first space, or the whole line
abbrev pub verb_of : List ℕ → List ℕ
verb_of line = before_space line

-- the command of a line, or what is wrong with it (FORMATS)
abbrev pub command_of : List ℕ → Result Command Caught
command_of line = command_with (verb_of line) (after_space line)

-- what a line is read as
abbrev pub read_as : Result Command Caught → Event
read_as (Ok command) = event.Read (message.Command command)
read_as (Err caught) = event.Caught caught

-- each line becomes its command, or what was wrong with it
abbrev pub decoded : Event → Event
decoded (event.Read (message.Line line)) = read_as (command_of line)
decoded other = other

-- the handler that makes a command of each line (command_law)
abbrev pub command_decoding : Meaning
command_decoding = mapping_up decoded
