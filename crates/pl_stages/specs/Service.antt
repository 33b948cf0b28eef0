-- The line service: it replies to commands and keeps totals until it is told to quit (docs/FORMATS.md, "Service").
use Rattle.std.specs.Prelude.{◌≡◌, ℕ, ◌+◌, List, [], ◌∷◌, ◌++◌, length, filter, sum_by, Bool, true, false, not, ◌&&◌, ◌||◌, if◌then◌else◌, nat_lt, nat_le, Option, Some, None, refl}
use Rattle.std.specs.List.{list_any, take_while, fold}
use Rattle.std.specs.Str.{bytes_eq}
use Rattle.pl_event.specs.declared.events.Event.{Event}
use Rattle.pl_event.specs.declared.events.Event.TheVariants.{Read, ReadComplete, Caught, Write, Flush}
use Rattle.pl_event.specs.declared.events.Message.TheVariants.{Command, Reply}
use Rattle.pl_event.specs.declared.events.Command.TheVariants.{Ping, Quit, Echo, Add, Get}
use Rattle.pl_event.specs.declared.events.Reply.{Reply as ReplyKind}
use Rattle.pl_event.specs.declared.events.Reply.TheVariants.{Pong, Text, Total, Bye, Error}
use Rattle.pl_event.specs.declared.events.Caught.{Caught as CaughtKind}
use Rattle.pl_event.specs.declared.events.Caught.TheVariants as caught
use Rattle.pl_event.specs.declared.events.Fault.{Fault}
use Rattle.pl_event.specs.declared.events.Fault.TheVariants as fault
use Rattle.pl_event.specs.declared.stages.Direction.TheVariants.{Turn}
use Rattle.pl_event.specs.Meaning.{Meaning, IsLawful}
use Rattle.pl_stages.specs.declared.limits.TheConstants.{MAX_TOTAL, MAX_KEYS}

abbrev pub is_quit : Event → Bool
is_quit (Read (Command Quit)) = true
is_quit other = false

-- a quit is among these events
abbrev pub has_quit : List Event → Bool
has_quit xs = list_any is_quit xs

-- what comes before the first quit
abbrev pub before_quit : List Event → List Event
before_quit xs = take_while (λ x. not (is_quit x)) xs

-- a number that was added to a key's total
pub record Addition : Type 0 where
  pub key : List ℕ
  pub number : ℕ

-- The total of a key after these additions. It is the sum of what was added to it.
abbrev pub total_of : List ℕ → List Addition → ℕ
total_of key additions = sum_by (λ a. a.number) (filter (λ a. bytes_eq key a.key) additions)

-- a key is held once something was added to it
abbrev pub is_held : List ℕ → List Addition → Bool
is_held key additions = list_any (λ a. bytes_eq key a.key) additions

-- the keys that are held, each once
abbrev pub held_keys : List Addition → List (List ℕ)
held_keys [] = []
held_keys (a ∷ additions) = if is_held a.key additions then held_keys additions else a.key ∷ held_keys additions

-- Why a number is not added to a key. After these additions its total would be above the greatest, or the key is not
-- held and the most keys are.
abbrev pub refusal_of : List ℕ → ℕ → List Addition → Option Fault
refusal_of key n additions =
    if nat_lt MAX_TOTAL (total_of key additions + n) then Some fault.Range
    else (if not (is_held key additions) && nat_le MAX_KEYS (length (held_keys additions)) then Some fault.Full else None)

abbrev pub unless_refused : Option Fault → List Addition → List Addition
unless_refused None added = added
unless_refused (Some why) added = []

-- what an event adds after these additions
abbrev pub added_by : List Addition → Event → List Addition
added_by additions (Read (Command (Add key n))) =
    unless_refused (refusal_of key n additions) (record { key = key; number = n } ∷ [])
added_by additions other = []

-- The additions accepted among these events. They are of those before any quit, each with regard to the ones accepted
-- before it.
abbrev pub accepted : List Event → List Addition
accepted xs = fold (λ additions x. additions ++ added_by additions x) [] (before_quit xs)

-- what an error reply says of input that was no command
abbrev pub fault_of : CaughtKind → Fault
fault_of caught.TooLong = fault.TooLong
fault_of caught.Unknown = fault.Unknown
fault_of caught.Syntax = fault.Syntax

-- the reply to an addition: the new total, or why it is refused
abbrev pub reply_unless : Option Fault → ℕ → ReplyKind
reply_unless None total = Total total
reply_unless (Some why) total = Error why

abbrev pub addition_reply : List ℕ → ℕ → List Addition → ReplyKind
addition_reply key n additions = reply_unless (refusal_of key n additions) (total_of key additions + n)

-- what is written in reply to an event before any quit, when these additions were accepted before it
abbrev pub replies_to : List Addition → Event → List Event
replies_to additions (Read (Command Ping)) = Write (Reply Pong) ∷ []
replies_to additions (Read (Command Quit)) = Write (Reply Bye) ∷ Flush ∷ []
replies_to additions (Read (Command (Echo text))) = Write (Reply (Text text)) ∷ []
replies_to additions (Read (Command (Add key n))) = Write (Reply (addition_reply key n additions)) ∷ []
replies_to additions (Read (Command (Get key))) = Write (Reply (Total (total_of key additions))) ∷ []
replies_to additions ReadComplete = Flush ∷ []
replies_to additions (Caught c) = Write (Reply (Error (fault_of c))) ∷ []
replies_to additions other = []

-- The turn that answers commands (FORMATS, service_law). Until it has quit, it passes each event on and writes the
-- replies; after that it makes nothing.
abbrev pub line_service : Meaning
line_service = record {
  direction = Turn;
  up = λ xs x. if has_quit xs then [] else x ∷ [];
  down = λ xs x. if has_quit xs then [] else replies_to (accepted xs) x;
  ended = has_quit;
}

either_stays : (b p q : Bool) → (p ≡ true → q ≡ true) → (b || p) ≡ true → (b || q) ≡ true
either_stays true p q h e = refl
either_stays false p q h e = h e

quit_stays : (xs : List Event) (x : Event) → has_quit xs ≡ true → has_quit (xs ++ x ∷ []) ≡ true
quit_stays [] x e = cc
quit_stays (y ∷ ys) x e = either_stays (is_quit y) (has_quit ys) (has_quit (ys ++ x ∷ [])) (quit_stays ys x) e

pub line_service-lawful : IsLawful line_service
line_service-lawful = record {
  starts_open = refl;
  stays_ended = quit_stays;
  quiet = λ xs x e. rw e;
  inbound = λ e xs x. cc;
  outbound = λ e xs x. cc;
  turn_alone = λ e xs. absurd (e refl);
}
