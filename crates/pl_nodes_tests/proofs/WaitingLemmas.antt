-- That something waits for three targets in the tests, whatever was added, taken or put back.
use Rattle.std.proofs.Common.{◌≡◌, ℕ, zero, suc, ◌<◌, ◌++◌, Option, Some, None, Ok, Err, List, [], ◌∷◌, length, map, refl, sym, ap, ◌∙◌, subst, arith, inl, inr}
use Rattle.std.specs.Prelude.{Result, IfOk, slice_get, remove}
use Rattle.std.specs.Option.{option_map, option_map_or}
use Rattle.std.proofs.lemmas.Bool.{cases_eq}
use Rattle.std.proofs.lemmas.List.{length-map}
use Rattle.std.proofs.lemmas.Option.{slice_get-map, none-some, same_Some}
use Rattle.pl_event.specs.declared.envelopes.Envelope.{Envelope}
use Rattle.pl_event.specs.declared.envelopes.Lane.{Lane}
use Rattle.pl_context.specs.declared.waiting.Stamp.{Stamp}
use Rattle.pl_context.specs.OutputsViews.{added_items}
use Rattle.pl_context.specs.Backlogs.{BacklogView}
use Rattle.pl_context.specs.Stops.{StopsView, HasPlaces, AreAmong, no_stops}
use Rattle.pl_context.specs.WaitingViews.{WaitingView, Entry, Holds, WaitingAdds, Takes, stops_for}
use Rattle.pl_context.proofs.Places.{places-after}
use Rattle.pl_nodes_tests.specs.Samples.{sample_lane, WaitsForThree}
use Rattle.pl_nodes_tests.proofs.SampleLemmas.{one-place}

-- one where nothing waits
one-each : (places : List ℕ) → places ≡ 1 ∷ 1 ∷ 1 ∷ [] → (y : ℕ) → y < 3 → slice_get (map no_stops places) y ≡ Some (no_stops 1)
one-each places is y below = ap (λ (l : List ℕ). slice_get (map no_stops l) y) is ∙ by y below
  where
    by : (y : ℕ) → y < 3 → slice_get (map no_stops (1 ∷ 1 ∷ 1 ∷ [])) y ≡ Some (no_stops 1)
    by zero below = refl
    by (suc zero) below = refl
    by (suc (suc zero)) below = refl
    by (suc (suc (suc y))) below = absurd (omega (arith, below))

stops-of : (o : Option (BacklogView (Stamp ℕ))) (s : StopsView) → option_map (λ b. b.stopped) o ≡ Some s → option_map_or (λ b. b.stopped) o (no_stops 0) ≡ s
stops-of None s is = absurd (none-some s is)
stops-of (Some b) s is = same_Some b.stopped s is

pub waits-new : {E : Type 0} (places : List ℕ) (r : Result (WaitingView ℕ) E) → places ≡ 1 ∷ 1 ∷ 1 ∷ [] → IfOk r (λ w. Holds w [])
    → IfOk r (λ w. map (λ b. b.stopped) w.targets ≡ map no_stops places) → IfOk r (λ w. WaitsForThree w)
waits-new places (Err e) three empty stopped = tt
waits-new places (Ok w) three empty stopped = record {
  entries = [];
  holds = empty;
  targets =
      let long = length-map w.targets (λ (b : BacklogView (Stamp ℕ)). b.stopped) in
      let wide = ap (λ (l : List StopsView). length l) (stopped ∙ ap (map no_stops) three) in
      omega (arith, long, wide);
  places = λ y below.
      let at = sym (slice_get-map (λ (b : BacklogView (Stamp ℕ)). b.stopped) w.targets y) ∙ ap (λ (l : List StopsView). slice_get l y) stopped ∙ one-each places three y below in
      one-place (stops_for w y) (stops-of (slice_get w.targets y) (no_stops 1) at);
}

pub waits-added : (before after : WaitingView ℕ) (target : ℕ) (e : Envelope) (token : ℕ) (result : Option ℕ) → e.lane ≡ sample_lane
    → WaitsForThree before → WaitingAdds before target e token result after → target < 3 → WaitsForThree after
waits-added before after target e token result lane w adds there = record {
  entries = w.entries ++ map (λ x. record { target = target; envelope = x; token = token }) (added_items adds.answer e);
  holds = adds.holds w.entries w.holds;
  targets = adds.targets ∙ w.targets;
  places = λ y below. elim (cases_eq y target) [
    | inl same ↦
        let among = subst (λ (l : Lane). AreAmong (l ∷ []) (sample_lane ∷ [])) (sym lane) (λ q h. h) in
        subst (λ (n : ℕ). HasPlaces (stops_for after n) (sample_lane ∷ [])) (sym same)
        (subst (λ (s : StopsView). HasPlaces s (sample_lane ∷ [])) (sym adds.stopped)
        (places-after adds.answer (stops_for before target) (sample_lane ∷ []) e.lane (w.places target there) among))
    | inr other ↦
        subst (λ (s : StopsView). HasPlaces s (sample_lane ∷ [])) (sym (ap (λ (o : Option (BacklogView (Stamp ℕ))). option_map_or (λ b. b.stopped) o (no_stops 0)) (adds.others y other))) (w.places y below)
  ];
}

-- other entries wait, for the same targets
pub waits-still : (before after : WaitingView ℕ) → WaitsForThree before → ((y : ℕ) → stops_for after y ≡ stops_for before y) → length after.targets ≡ length before.targets
    → (entries : List (Entry ℕ)) → Holds after entries → WaitsForThree after
waits-still before after w stopped targets entries holds = record {
  entries = entries;
  holds = holds;
  targets = targets ∙ w.targets;
  places = λ y below. subst (λ (s : StopsView). HasPlaces s (sample_lane ∷ [])) (sym (stopped y)) (w.places y below);
}

-- an entry was taken, or there was none
pub waits-taken : (before after : WaitingView ℕ) (target : ℕ) (result : Option (Envelope × ℕ)) (w : WaitsForThree before) → Takes before w.entries target result after → WaitsForThree after
waits-taken before after target None w takes = subst WaitsForThree (sym takes.taken.1) w
waits-taken before after target (Some taken) w takes = waits-still before after w takes.stopped takes.targets (remove w.entries takes.taken.0) takes.taken.3
