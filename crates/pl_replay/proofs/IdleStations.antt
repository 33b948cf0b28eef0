-- Executors at which nothing waits.
use Rattle.std.proofs.Common.{◌≡◌, ℕ, ◌<◌, false, List, [], ◌∷◌, ◌++◌, length, map, get_or, refl, ap, sym, subst, ◌∙◌, arith, inl, inr, length-append, Option, Some, None, unwrap_or}
use Rattle.std.specs.List.{range_with_len, slice_get}
use Rattle.std.specs.Option.{option_map, option_map_or}
use Rattle.std.proofs.lemmas.Bool.{cases_lt}
use Rattle.std.proofs.lemmas.List.{length-map, get_or_past, get_or_append_left}
use Rattle.std.proofs.lemmas.List.FromFn.{get_or-map-range_with_len, length-map-range_with_len}
use Rattle.std.proofs.lemmas.Option.{slice_get-map, slice_get-get_or, slice_get_past, slice_get_within, get_or_from_slice_get, unwrap_or-slice_get}
use Rattle.std.proofs.lemmas.Simd.{map-map}
use Rattle.std.proofs.Math.Seq.{get_or-append_seam}
use Rattle.pl_event.specs.declared.envelopes.Kind.TheVariants.{Data, Flags}
use Rattle.pl_event.specs.declared.envelopes.Lane.{Lane}
use Rattle.pl_context.specs.declared.waiting.Stamp.{Stamp}
use Rattle.pl_context.specs.Backlogs.{BacklogView}
use Rattle.pl_context.specs.Stops.{StopsView, HasPlaces, has_stopped, no_stops}
use Rattle.pl_context.specs.WaitingViews.{Holds, stops_for}
use Rattle.pl_context.proofs.Places.{places-start}
use Rattle.pl_part.specs.Parts.{ChannelPartView}
use Rattle.pl_net.specs.Nets.{StationView}
use Rattle.pl_channel.specs.Ways.{lanes_between}
use Rattle.pl_replay.specs.Idle.{IsIdle, AreIdle}

none-stopped : (places : ℕ) (l : Lane) → has_stopped (no_stops places) l ≡ false
none-stopped places l = elim l.kind as (λ k. elim k [ Data ↦ false | Flags ↦ false ] ≡ false) [ Data ↦ refl | Flags ↦ refl ]

module _ {S T : Type 0} (ps : List (ChannelPartView S T)) (count : ℕ) where
  abbrev stops_between : ℕ → ℕ → StopsView
  stops_between x y = no_stops (length (lanes_between ps x y))

  module _ (x : ℕ) (e : StationView) (idle : IsIdle ps count x e) where
    targets-size : length e.waiting.targets ≡ count
    targets-size = sym (length-map e.waiting.targets (λ b. b.stopped)) ∙ ap length idle.places ∙ length-map-range_with_len (stops_between x) 0 count

    stops-as : (y : ℕ) → stops_for e.waiting y ≡ get_or (map (stops_between x) (range_with_len 0 count)) y (no_stops 0)
    stops-as y =
        through (slice_get e.waiting.targets y)
        ∙ ap (λ o. unwrap_or o (no_stops 0)) (sym (slice_get-map (λ b. b.stopped) e.waiting.targets y))
        ∙ unwrap_or-slice_get (map (λ b. b.stopped) e.waiting.targets) y (no_stops 0)
        ∙ ap (λ l. get_or l y (no_stops 0)) idle.places
      where
        through : (o : Option (BacklogView (Stamp Unit))) → option_map_or (λ b. b.stopped) o (no_stops 0) ≡ unwrap_or (option_map (λ b. b.stopped) o) (no_stops 0)
        through None = refl
        through (Some b) = refl

    stops-within : (y : ℕ) → y < count → stops_for e.waiting y ≡ stops_between x y
    stops-within y below = stops-as y ∙ get_or-map-range_with_len (stops_between x) 0 count y y (no_stops 0) below (omega arith)

    stops-none : (y : ℕ) (l : Lane) → has_stopped (stops_for e.waiting y) l ≡ false
    stops-none y l = elim (cases_lt y count) [
      | inl below ↦ ap (λ s. has_stopped s l) (stops-within y below) ∙ none-stopped (length (lanes_between ps x y)) l
      | inr past ↦
          let size = length-map-range_with_len (stops_between x) 0 count in
          ap (λ s. has_stopped s l) (stops-as y ∙ get_or_past (map (stops_between x) (range_with_len 0 count)) y (no_stops 0) (omega (arith, past, size))) ∙ none-stopped 0 l
    ]

  -- one that was made with these places
  pub idle-made : (x : ℕ) (places : List ℕ) (e : StationView) → places ≡ map (λ y. length (lanes_between ps x y)) (range_with_len 0 count) → e.queue ≡ []
      → Holds e.waiting [] → map (λ b. b.stopped) e.waiting.targets ≡ map no_stops places → e.waiting.added ≡ 0 → IsIdle ps count x e
  idle-made x places e are queue waiting stopped added = record {
    queue = queue;
    waiting = waiting;
    added = added;
    places = stopped ∙ ap (map no_stops) are ∙ map-map no_stops (λ y. length (lanes_between ps x y)) (range_with_len 0 count);
  }

  abbrev pub AllIdle : List StationView → Type 0
  AllIdle stations = (y : ℕ) (e : StationView) → slice_get stations y ≡ Some e → IsIdle ps count y e

  pub idle-push : (n : ℕ) (stations grown : List StationView) (new : StationView) → n ≡ length stations → grown ≡ stations ++ new ∷ [] → AllIdle stations → IsIdle ps count n new → AllIdle grown
  idle-push n stations grown new size pushed each here y e found =
      let at = ap (λ l. slice_get l y) (sym pushed) ∙ found in
      let within = slice_get_within (stations ++ new ∷ []) y e at in
      let is = get_or_from_slice_get (stations ++ new ∷ []) y e e at in
      elim (cases_lt y (length stations)) [
        | inl before ↦
            each y e (slice_get-get_or stations y e before ∙ ap (λ v. Some v) (sym (get_or_append_left stations (new ∷ []) e y before) ∙ is))
        | inr behind ↦
            let last : y ≡ length stations = omega (arith, within, behind, length-append stations (new ∷ [])) in
            let same = sym (get_or-append_seam stations new [] e) ∙ ap (λ k. get_or (stations ++ new ∷ []) k e) (sym last) ∙ is in
            subst (λ v. IsIdle ps count y v) same (subst (λ k. IsIdle ps count k new) (size ∙ sym last) here)
      ]

  pub idle-all : (stations : List StationView) → length stations ≡ count → AllIdle stations → AreIdle ps count stations
  idle-all stations size each = record {
    count = size;
    queues = λ y e at. let i = each y e at in (i.queue, i.waiting, i.added, targets-size y e i ∙ sym size);
    unstopped = λ y z l. elim (cases_lt y (length stations)) [
      | inl below ↦ ap (λ o. has_stopped (stops_in o z) l) (at y below) ∙ stops-none y (get_or stations y nobody) (each y (get_or stations y nobody) (at y below)) z l
      | inr past ↦ ap (λ o. has_stopped (stops_in o z) l) (slice_get_past stations y past) ∙ none-stopped 0 l
    ];
    placed = λ y z below there.
        let b : y < length stations = omega (arith, below, size) in
        subst (λ s. HasPlaces s (lanes_between ps y z))
        (sym (ap (λ o. stops_in o z) (at y b) ∙ stops-within y (get_or stations y nobody) (each y (get_or stations y nobody) (at y b)) z there))
        (places-start (length (lanes_between ps y z)) (lanes_between ps y z) (omega arith));
  }
    where
      nobody : StationView
      nobody = record { queue = []; waiting = record { targets = []; added = 0; taken = 0 }; room = 0 }

      at : (y : ℕ) → y < length stations → slice_get stations y ≡ Some (get_or stations y nobody)
      at y below = slice_get-get_or stations y nobody below

      stops_in : Option StationView → ℕ → StopsView
      stops_in o z = option_map_or (λ (e : StationView). stops_for e.waiting z) o (no_stops 0)
