-- Stages for the tests: one of each direction. An event goes on as it is; the turn writes a flush for each, and quits
-- with the first ReadComplete.
use Rattle.std.specs.Prelude.{◌≡◌, ℕ, ◌<◌, length, List, [], ◌∷◌, ◌++◌, Bool, true, false, ◌||◌, if◌then◌else◌, refl}
use Rattle.std.specs.List.{list_any}
use Rattle.std.proofs.Common.{ap, ◌∙◌, cond}
use Rattle.std.proofs.lemmas.List.Folds.{list_any-append}
use Rattle.pl_event.specs.declared.events.Event.{Event}
use Rattle.pl_event.specs.declared.events.Event.TheVariants.{Active, Read, ReadComplete, Caught, User, Write, Flush}
use Rattle.pl_event.specs.declared.stages.Direction.{Direction}
use Rattle.pl_event.specs.declared.stages.Direction.TheVariants.{Inbound, Outbound, Turn}
use Rattle.pl_event.specs.declared.envelopes.Lane.{Lane}
use Rattle.pl_event.specs.declared.envelopes.Kind.TheVariants.{Data}
use Rattle.pl_event.specs.declared.stages.Turned.{Turned}
use Rattle.pl_event.specs.declared.stages.Turned.TheVariants.{Open, Ended}
use Rattle.pl_event.specs.Meaning.{Meaning, IsLawful}
use Rattle.pl_context.specs.Stops.{HasPlaces}
use Rattle.pl_context.specs.WaitingViews.{WaitingView, Entry, Holds, stops_for}

abbrev pub is_complete : Event → Bool
is_complete ReadComplete = true
is_complete _ = false

abbrev pub has_quit : List Event → Bool
has_quit xs = list_any is_complete xs

abbrev pub passed_up : Direction → Event → List Event
passed_up Inbound x = x ∷ []
passed_up Turn x = x ∷ []
passed_up Outbound x = []

abbrev pub passed_down : Direction → Bool → Event → List Event
passed_down Inbound has_quit x = []
passed_down Turn has_quit x = if has_quit then [] else Flush ∷ []
passed_down Outbound has_quit x = x ∷ []

abbrev pub quits : Direction → Bool → Bool
quits Inbound has_quit = false
quits Turn has_quit = has_quit
quits Outbound has_quit = false

abbrev pub relaying : Direction → Meaning
relaying d = record { direction = d; up = λ xs x. passed_up d x; down = λ xs x. passed_down d (has_quit xs) x; ended = λ xs. quits d (has_quit xs) }

abbrev pub turned_by : Direction → Bool → Turned
turned_by d has_quit = if quits d has_quit then Ended else Open

pub has_quit-push : (xs : List Event) (x : Event) → has_quit (xs ++ x ∷ []) ≡ (has_quit xs || (is_complete x || false))
has_quit-push xs x = list_any-append is_complete xs (x ∷ [])

pub relaying-lawful : (d : Direction) → IsLawful (relaying d)
relaying-lawful Inbound = record { starts_open = refl; stays_ended = λ xs x e. e; quiet = λ xs x e. refl; inbound = λ e xs x. refl; outbound = λ e xs x. cc; turn_alone = λ e xs. refl }
relaying-lawful Outbound = record { starts_open = refl; stays_ended = λ xs x e. e; quiet = λ xs x e. cc; inbound = λ e xs x. cc; outbound = λ e xs x. refl; turn_alone = λ e xs. refl }
relaying-lawful Turn = record {
  starts_open = refl;
  stays_ended = λ xs x e. has_quit-push xs x ∙ ap (λ (b : Bool). b || (is_complete x || false)) e;
  quiet = λ xs x e. ap (λ (b : Bool). cond b [] (Flush ∷ [])) e;
  inbound = λ e xs x. cc;
  outbound = λ e xs x. cc;
  turn_alone = λ e xs. absurd (e refl);
}

-- a lane of the tests
abbrev pub sample_lane : Lane
sample_lane = record { channel = 7; kind = Data; hop = 2 }

-- Something waits for three targets, and the lane of the tests has a place on the way to each.
pub record WaitsForThree (w : WaitingView ℕ) : Type 0 where
  pub entries : List (Entry ℕ)
  pub holds : Holds w entries
  pub targets : length w.targets ≡ 3
  pub places : (target : ℕ) → target < 3 → HasPlaces (stops_for w target) (sample_lane ∷ [])
