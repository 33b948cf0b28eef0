-- Stages for the tests: one of each direction. An event goes on as it is; the turn writes back what is read, and a flush for
-- each other event, which it hands on.
use Rattle.std.specs.Prelude.{List, [], ◌∷◌, false, refl}
use Rattle.pl_event.specs.declared.events.Event.{Event}
use Rattle.pl_event.specs.declared.events.Event.TheVariants.{Active, Read, ReadComplete, Caught, User, Write, Flush}
use Rattle.pl_event.specs.declared.stages.Direction.{Direction}
use Rattle.pl_event.specs.declared.stages.Direction.TheVariants.{Inbound, Outbound, Turn}
use Rattle.pl_event.specs.Meaning.{Meaning, IsLawful}

abbrev pub turned_up : Event → List Event
turned_up Active = Active ∷ []
turned_up (Read m) = []
turned_up ReadComplete = ReadComplete ∷ []
turned_up (Caught c) = Caught c ∷ []
turned_up (User number) = User number ∷ []
turned_up (Write m) = Write m ∷ []
turned_up Flush = Flush ∷ []

abbrev pub turned_down : Event → List Event
turned_down Active = Flush ∷ []
turned_down (Read m) = Write m ∷ []
turned_down ReadComplete = Flush ∷ []
turned_down (Caught c) = Flush ∷ []
turned_down (User number) = Flush ∷ []
turned_down (Write m) = Flush ∷ []
turned_down Flush = Flush ∷ []

abbrev pub passed_up : Direction → Event → List Event
passed_up Inbound x = x ∷ []
passed_up Turn x = turned_up x
passed_up Outbound x = []

abbrev pub passed_down : Direction → Event → List Event
passed_down Inbound x = []
passed_down Turn x = turned_down x
passed_down Outbound x = x ∷ []

abbrev pub relaying : Direction → Meaning
relaying d = record { direction = d; up = λ xs x. passed_up d x; down = λ xs x. passed_down d x; ended = λ xs. false }

pub relaying-lawful : (d : Direction) → IsLawful (relaying d)
relaying-lawful Inbound = record { starts_open = refl; stays_ended = λ xs x e. e; quiet = λ xs x e. refl; inbound = λ e xs x. refl; outbound = λ e xs x. cc; turn_alone = λ e xs. refl }
relaying-lawful Outbound = record { starts_open = refl; stays_ended = λ xs x e. e; quiet = λ xs x e. cc; inbound = λ e xs x. cc; outbound = λ e xs x. refl; turn_alone = λ e xs. refl }
relaying-lawful Turn = record { starts_open = refl; stays_ended = λ xs x e. e; quiet = λ xs x e. cc; inbound = λ e xs x. cc; outbound = λ e xs x. cc; turn_alone = λ e xs. refl }
