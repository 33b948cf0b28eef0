-- Handlers that send one way only, and never quit: the law of a stage is the same for all of them.
use Rattle.std.specs.Prelude.{◌≡◌, List, [], false, refl}
use Rattle.pl_event.specs.declared.events.Event.{Event}
use Rattle.pl_event.specs.declared.stages.Direction.TheVariants.{Inbound, Outbound}
use Rattle.pl_event.specs.Meaning.{Meaning, IsLawful}

-- an inbound handler that makes f xs x of the event x after the events xs
abbrev pub passing_up : (List Event → Event → List Event) → Meaning
passing_up f = record { direction = Inbound; up = f; down = λ xs x. []; ended = λ xs. false }

-- an outbound handler that makes f xs x of the event x after the events xs
abbrev pub passing_down : (List Event → Event → List Event) → Meaning
passing_down f = record { direction = Outbound; up = λ xs x. []; down = f; ended = λ xs. false }

-- what never quits, and sends no other way than its direction, is lawful
open-lawful : (m : Meaning) → ((xs : List Event) → m.ended xs ≡ false)
    → (m.direction ≡ Inbound → (xs : List Event) (x : Event) → m.down xs x ≡ [])
    → (m.direction ≡ Outbound → (xs : List Event) (x : Event) → m.up xs x ≡ [])
    → IsLawful m
open-lawful m stays_open inbound outbound = record {
  starts_open = stays_open [];
  stays_ended = λ xs x e. cc (stays_open xs, e);
  quiet = λ xs x e. cc (stays_open xs, e);
  inbound = inbound;
  outbound = outbound;
  turn_alone = λ e. stays_open;
}

pub passing_up-lawful : (f : List Event → Event → List Event) → IsLawful (passing_up f)
passing_up-lawful f = open-lawful (passing_up f) (λ xs. refl) (λ e xs x. refl) (λ e xs x. cc)

pub passing_down-lawful : (f : List Event → Event → List Event) → IsLawful (passing_down f)
passing_down-lawful f = open-lawful (passing_down f) (λ xs. refl) (λ e xs x. cc) (λ e xs x. refl)
