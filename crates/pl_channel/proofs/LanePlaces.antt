-- Each lane that is written has its place on the way to its executor.
use Rattle.std.proofs.Common.{◌≡◌, ℕ, ◌<◌, ◌==◌, ◌&&◌, Bool, true, List, [], ◌∷◌, length, map, get_or, refl, ap, sym, subst, ◌∙◌, arith, Some}
use Rattle.std.specs.List.{flat_map, list_any, range_with_len, slice_get}
use Rattle.std.proofs.lemmas.Bool.{eq-eqb, eqb-true, and_from, and_parts}
use Rattle.std.proofs.lemmas.Option.{slice_get_within, get_or_from_slice_get}
use Rattle.std.proofs.lemmas.List.Folds.{list_any_at}
use Rattle.std.proofs.lemmas.List.FromFn.{length-range_with_len, get_or-range_with_len}
use Rattle.std.proofs.lemmas.Map.Views.{any-filter_same}
use Rattle.std.proofs.Math.Bool.{or-false}
use Rattle.pl_event.specs.declared.envelopes.Lane.{Lane}
use Rattle.pl_event.specs.Hops.{data_lane, same_hop}
use Rattle.pl_event.proofs.Lists.{any-joined, list_any-map}
use Rattle.pl_context.specs.Stops.{AreAmong, HasPlaces, no_stops}
use Rattle.pl_context.proofs.Places.{places-start}
use Rattle.pl_part.specs.Paths.{writer_hop}
use Rattle.pl_part.specs.Parts.{ChannelPartView}
use Rattle.pl_channel.specs.Channels.{data_lanes_of}
use Rattle.pl_channel.specs.Ways.{lanes_between, hops_between, goes_between}

module _ {S T : Type 0} (ps : List (ChannelPartView S T)) where
  -- a list has places for all lanes, where it has one for each
  pub places-all : HasPlaces (no_stops (length (data_lanes_of ps))) (data_lanes_of ps)
  places-all = places-start (length (data_lanes_of ps)) (data_lanes_of ps) (omega arith)

  -- a lane that enters a hop of a channel
  module _ (c : ℕ) (p : ChannelPartView S T) (here : slice_get ps c ≡ Some p) (own : p.path.channel ≡ c) (l : Lane) (of_it : l.channel ≡ c) (within : l.hop < length p.path.executors) where
    abbrev hops : List ℕ
    hops = range_with_len 0 (length p.path.executors)

    abbrev lane_at : ℕ → Lane
    lane_at hop = data_lane p.path.channel hop

    -- what one part has, all have
    any-of-all : {Y : Type 0} (test : Y → Bool) (f : ChannelPartView S T → List Y) → list_any test (f p) ≡ true → list_any test (flat_map f ps) ≡ true
    any-of-all test f one =
        any-joined test f ps
        ∙ list_any_at (λ q. list_any test (f q)) ps c p (slice_get_within ps c p here) (ap (λ q. list_any test (f q)) (get_or_from_slice_get ps c p p here) ∙ one)

    module _ (lane : Lane) (any : list_any (same_hop lane) (l ∷ []) ≡ true) where
      entered : same_hop lane (lane_at l.hop) ≡ true
      entered = ap (λ n. (lane.channel == n) && (lane.hop == l.hop)) (own ∙ sym of_it) ∙ sym (or-false (same_hop lane l)) ∙ any

      among-hops : list_any (λ hop. same_hop lane (lane_at hop)) hops ≡ true
      among-hops =
          let at : get_or hops l.hop 0 ≡ l.hop = get_or-range_with_len 0 (length p.path.executors) l.hop 0 within ∙ omega arith in
          list_any_at (λ hop. same_hop lane (lane_at hop)) hops l.hop 0 (omega (arith, within, length-range_with_len 0 (length p.path.executors)))
          (ap (λ hop. same_hop lane (lane_at hop)) at ∙ entered)

      -- no other hop is entered
      only : (hop : ℕ) → same_hop lane (lane_at hop) ≡ true → l.hop ≡ hop
      only hop enters =
          sym (eqb-true lane.hop l.hop (and_parts (lane.channel == p.path.channel) (lane.hop == l.hop) entered).1)
          ∙ eqb-true lane.hop hop (and_parts (lane.channel == p.path.channel) (lane.hop == hop) enters).1

    -- it is among those from its executor to that
    pub among-between : AreAmong (l ∷ []) (lanes_between ps (get_or p.path.executors (writer_hop p.path l.hop) 0) (get_or p.path.executors l.hop 0))
    among-between lane any =
        let x = get_or p.path.executors (writer_hop p.path l.hop) 0 in
        let y = get_or p.path.executors l.hop 0 in
        let goes : goes_between x y p l.hop ≡ true = and_from (x == x) (y == y) (eq-eqb x x refl) (eq-eqb y y refl) in
        any-of-all (same_hop lane) (λ q. map (λ hop. data_lane q.path.channel hop) (hops_between x y q))
        (list_any-map (same_hop lane) lane_at (hops_between x y p)
        ∙ any-filter_same (λ hop. same_hop lane (lane_at hop)) (goes_between x y p) true (λ hop enters. subst (λ k. goes_between x y p k ≡ true) (only lane any hop enters) goes) hops
        ∙ among-hops lane any)
