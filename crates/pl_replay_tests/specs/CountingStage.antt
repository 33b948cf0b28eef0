-- A stage of a user's own, for tests: in place of each read it passes the number of the reads so far on.
use Rattle.std.specs.Prelude.{◌≡◌, ℕ, ◌+◌, ◌≤◌, List, [], ◌∷◌, count_by, Bool, true, false, if◌then◌else◌, refl}
use Rattle.std.proofs.Common.{arith}
use Rattle.pl_event.specs.declared.events.Event.{Event}
use Rattle.pl_event.specs.declared.events.Event.TheVariants.{Active, Read, ReadComplete, Caught, User, Write, Flush}
use Rattle.pl_event.specs.declared.events.Message.TheVariants.{Reply}
use Rattle.pl_event.specs.declared.events.Reply.TheVariants.{Total}
use Rattle.pl_event.specs.declared.stages.Direction.{Direction}
use Rattle.pl_event.specs.declared.stages.Direction.TheVariants.{Inbound, Outbound, Turn}
use Rattle.pl_event.specs.Meaning.{Meaning, IsLawful}
use Rattle.pl_stages.specs.Counts.{IsThrifty, event_weight}
use Rattle.pl_stages.specs.Thrift.{thrifty}

abbrev pub is_read : Event → Bool
is_read (Read m) = true
is_read Active = false
is_read ReadComplete = false
is_read (Caught c) = false
is_read (User n) = false
is_read (Write m) = false
is_read Flush = false

-- how many of these events are reads
abbrev pub reads : List Event → ℕ
reads xs = count_by is_read xs

-- what it makes of an event after others
abbrev pub with_number : List Event → Event → Event
with_number xs (Read m) = Read (Reply (Total (reads xs + 1)))
with_number xs Active = Active
with_number xs ReadComplete = ReadComplete
with_number xs (Caught c) = Caught c
with_number xs (User n) = User n
with_number xs (Write m) = Write m
with_number xs Flush = Flush

abbrev pub up_or_turn : Bool → Direction
up_or_turn turns = if turns then Turn else Inbound

abbrev pub counting : Bool → Meaning
counting turns = record {
  direction = up_or_turn turns;
  up = λ xs x. with_number xs x ∷ [];
  down = λ xs x. [];
  ended = λ xs. false;
}

not_outbound : (turns : Bool) → up_or_turn turns ≡ Outbound → (xs : List Event) (x : Event) → with_number xs x ∷ [] ≡ []
not_outbound true e xs x = cc
not_outbound false e xs x = cc

pub counting-lawful : (turns : Bool) → IsLawful (counting turns)
counting-lawful turns = record {
  starts_open = refl;
  stays_ended = λ xs x e. e;
  quiet = λ xs x e. refl;
  inbound = λ e xs x. refl;
  outbound = λ e xs x. not_outbound turns e xs x;
  turn_alone = λ e xs. refl;
}

with_number-light : (xs : List Event) (x : Event) → event_weight (with_number xs x) ≤ event_weight x
with_number-light xs (Read m) = omega arith
with_number-light xs Active = omega arith
with_number-light xs ReadComplete = omega arith
with_number-light xs (Caught c) = omega arith
with_number-light xs (User n) = omega arith
with_number-light xs (Write m) = omega arith
with_number-light xs Flush = omega arith

pub counting-thrifty : (turns : Bool) → IsThrifty (counting turns)
counting-thrifty turns =
    thrifty (counting turns) (λ before x. let h = with_number-light before x in omega (arith, h)) (λ before x. omega arith) (λ e before x. omega arith)
