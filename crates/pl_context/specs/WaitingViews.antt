-- Envelopes that wait for several targets: one list that nobody stores, kept by target.
use Rattle.std.specs.Prelude.{◌≡◌, ◌≢◌, ◌↔◌, ℕ, ◌+◌, ◌<◌, ◌≤◌, ◌==◌, Bool, List, ◌++◌, length, map, filter, position, remove, slice_get, get_or, All, AllPairs, Option, Some, None, MatchOption, true, false}
use Rattle.std.specs.Option.{option_map, option_map_or}
use Rattle.pl_event.specs.declared.envelopes.Envelope.{Envelope}
use Rattle.pl_context.specs.declared.added.Added.{Added}
use Rattle.pl_context.specs.declared.added.Added.TheVariants.{Discarded, Last}
use Rattle.pl_context.specs.declared.waiting.Stamp.{Stamp}
use Rattle.pl_context.specs.Stops.{StopsView, no_stops, has_stopped}
use Rattle.pl_context.specs.OutputsViews.{added_items, stopped_after}
use Rattle.pl_context.specs.Backlogs.{BacklogView, handed_back}
use Rattle.pl_context.specs.Fronts.{FrontsView, age_for}

-- What waits for each of several targets. It has how many envelopes were added, and how many of them before the one
-- that was taken last.
pub record WaitingView (A : Type 0) : Type 0 where
  pub targets : List (BacklogView (Stamp A))
  pub added : ℕ
  pub taken : ℕ

-- an envelope that waits for a target, with its token
pub record Entry (A : Type 0) : Type 0 where
  pub target : ℕ
  pub envelope : Envelope
  pub token : A

-- the lanes that have stopped towards a target
abbrev pub stops_for : {A : Type 0} → WaitingView A → ℕ → StopsView
stops_for w target = option_map_or (λ b. b.stopped) (slice_get w.targets target) (no_stops 0)

-- how many envelopes more find room there without a growth
abbrev pub room_for : {A : Type 0} → WaitingView A → ℕ → ℕ
room_for w target = option_map_or (λ b. b.room) (slice_get w.targets target) 0

-- an entry waits for this target
abbrev pub is_for : {A : Type 0} → ℕ → Entry A → Bool
is_for target entry = entry.target == target

-- ---- the list

-- An entry with its age, which is how many were added before it.
pub record Aged (A : Type 0) : Type 0 where
  pub entry : Entry A
  pub age : ℕ

abbrev pub is_aged_for : {A : Type 0} → ℕ → Aged A → Bool
is_aged_for target i = is_for target i.entry

-- as it is kept for its target
abbrev pub stamped : {A : Type 0} → Aged A → Envelope × Stamp A
stamped i = (i.entry.envelope, record { age = i.age; token = i.entry.token })

-- Each is older than those after it, and each target has its own in this order.
pub record HoldsAged {A : Type 0} (w : WaitingView A) (aged : List (Aged A)) : Type 0 where
  pub order : AllPairs (λ older later. older.age < later.age) aged
  pub younger : All (λ i. i.age < w.added) aged
  pub there : All (λ i. i.entry.target < length w.targets) aged
  pub waits : (target : ℕ) (b : BacklogView (Stamp A)) → slice_get w.targets target ≡ Some b → b.items ≡ map stamped (filter (is_aged_for target) aged)

-- These entries wait, the oldest first.
pub record Holds {A : Type 0} (w : WaitingView A) (entries : List (Entry A)) : Type 0 where
  pub aged : List (Aged A)
  pub entries_are : entries ≡ map (λ i. i.entry) aged
  pub holds : HoldsAged w aged

-- These entries wait, but for the one at i. That is the first for its target, and was taken last.
pub record Misses {A : Type 0} (w : WaitingView A) (entries : List (Entry A)) (i : ℕ) : Type 0 where
  pub aged : List (Aged A)
  pub entries_are : entries ≡ map (λ i. i.entry) aged
  pub order : AllPairs (λ older later. older.age < later.age) aged
  pub younger : All (λ i. i.age < w.added) aged
  pub there : All (λ i. i.entry.target < length w.targets) aged
  pub within : i < length aged
  pub first : (d : Aged A) (k : ℕ) → k < i → is_aged_for (get_or aged i d).entry.target (get_or aged k d) ≡ false
  pub age : (d : Aged A) → (get_or aged i d).age ≡ w.taken
  pub room : (d : Aged A) → 0 < room_for w (get_or aged i d).entry.target
  pub waits : (target : ℕ) (b : BacklogView (Stamp A)) → slice_get w.targets target ≡ Some b → b.items ≡ map stamped (filter (is_aged_for target) (remove aged i))

-- ---- what its calls do

-- An envelope with its token is added for a target. The rule is that of a list of envelopes.
pub record WaitingAdds {A : Type 0} (before : WaitingView A) (target : ℕ) (e : Envelope) (token : A) (result : Option A) (after : WaitingView A) : Type 0 where
  pub answer : Added
  pub holds : (entries : List (Entry A)) → Holds before entries
      → Holds after (entries ++ map (λ x. record { target = target; envelope = x; token = token }) (added_items answer e))
  pub stopped : stops_for after target ≡ stopped_after answer (stops_for before target) e.lane
  pub discarded : (answer ≡ Discarded) ↔ (has_stopped (stops_for before target) e.lane ≡ true)
  pub last : has_stopped (stops_for before target) e.lane ≡ false → 0 < room_for before target → answer ≡ Last
  pub room : room_for before target ≤ room_for after target + length (added_items answer e)
  pub back : result ≡ handed_back answer e.lane.kind token
  pub added : after.added ≡ before.added + 1
  pub targets : length after.targets ≡ length before.targets
  pub others : (y : ℕ) → y ≢ target → slice_get after.targets y ≡ slice_get before.targets y

-- The oldest entry for a target is taken. There may be none.
pub record Takes {A : Type 0} (before : WaitingView A) (entries : List (Entry A)) (target : ℕ) (result : Option (Envelope × A)) (after : WaitingView A) : Type 0 where
  pub taken : MatchOption result
      ((position (is_for target) entries ≡ None) × (after ≡ before))
      (λ taken. (i : ℕ) × (position (is_for target) entries ≡ Some i)
      × (slice_get entries i ≡ Some (record { target = target; envelope = taken.0; token = taken.1 }))
      × Holds after (remove entries i) × Misses after entries i)
  pub stopped : (y : ℕ) → stops_for after y ≡ stops_for before y
  pub targets : length after.targets ≡ length before.targets

-- ---- who may be the oldest

-- the age of the front of what waits for a target
abbrev pub front_age : {A : Type 0} → BacklogView (Stamp A) → Option ℕ
front_age b = option_map (λ entry. entry.1.age) (slice_get b.items 0)

-- Those targets are noted for which something waits. Each has the age of its front.
pub record AreFronts {A : Type 0} (fronts : FrontsView) (targets : List (BacklogView (Stamp A))) : Type 0 where
  pub places : length targets ≤ fronts.places
  pub ages : (y : ℕ) → age_for fronts y ≡ option_map_or front_age (slice_get targets y) None
