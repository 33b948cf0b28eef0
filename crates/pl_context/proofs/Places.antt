-- Reserved places: lanes that stop are never more than the hops for which there are places.
use Rattle.std.proofs.Common.{◌≡◌, ℕ, ◌<◌, ◌≤◌, Bool, true, false, ◌||◌, ◌&&◌, List, [], ◌∷◌, ◌++◌, length, map, sym, ap, subst, ◌∙◌, refl, arith, length-append}
use Rattle.std.specs.Prelude.{◌==◌, if◌then◌else◌}
use Rattle.std.specs.Cmp.{IsEquivalence, nat_eq_equiv}
use Rattle.std.specs.List.{list_any, IsDistinct}
use Rattle.std.proofs.lemmas.Bool.{eqb-true, and_parts, and_from}
use Rattle.std.proofs.lemmas.List.Folds.{list_any-append}
use Rattle.std.proofs.lemmas.Map.Keys.{IsDistinct-push}
use Rattle.std.proofs.lemmas.Map.Made.{length-le_from_is_member}
use Rattle.std.proofs.Math.Bool.{or-true}
use Rattle.pl_event.specs.declared.envelopes.Kind.{Kind}
use Rattle.pl_event.specs.declared.envelopes.Kind.TheVariants.{Data, Flags}
use Rattle.pl_event.specs.declared.envelopes.Lane.{Lane}
use Rattle.pl_event.specs.Hops.{same_hop}
use Rattle.pl_context.specs.declared.added.Added.{Added}
use Rattle.pl_context.specs.declared.added.Added.TheVariants.{Last, Refused, Discarded}
use Rattle.pl_context.specs.Stops.{StopsView, has_stopped, with_stop, HasPlaces, AreAmong, no_stops}
use Rattle.pl_event.specs.declared.envelopes.Item.{Item}
use Rattle.pl_event.specs.declared.envelopes.Envelope.{Envelope}
use Rattle.pl_context.specs.declared.ports.Port.{Port}
use Rattle.pl_context.specs.OutputsViews.{OutputsView, Puts, PutsAll, stopped_after}
use Rattle.pl_context.specs.Ports.{numbered, offered}
use Rattle.pl_context.specs.ContextViews.{lane_of}

or-case : (P : Type 0) (a b : Bool) → (a || b) ≡ true → (a ≡ true → P) → (b ≡ true → P) → P
or-case P true b h f g = f refl
or-case P false b h f g = g h

pub same_hop-laws : IsEquivalence same_hop
same_hop-laws = record {
  refl = λ x. and_from (x.channel == x.channel) (x.hop == x.hop) (nat_eq_equiv.refl x.channel) (nat_eq_equiv.refl x.hop);
  symm = λ x y. ap (λ (b : Bool). b && (x.hop == y.hop)) (nat_eq_equiv.symm x.channel y.channel) ∙ ap (λ (b : Bool). (y.channel == x.channel) && b) (nat_eq_equiv.symm x.hop y.hop);
  congr = λ x y z h.
      let both = and_parts (x.channel == y.channel) (x.hop == y.hop) h in
      let c = eqb-true x.channel y.channel both.0 in
      let k = eqb-true x.hop y.hop both.1 in
      ap (λ (n : ℕ). (n == z.channel) && (x.hop == z.hop)) c ∙ ap (λ (n : ℕ). (y.channel == z.channel) && (n == z.hop)) k;
}

within-push : (xs hops : List Lane) (lane : Lane) → AreAmong xs hops → AreAmong (lane ∷ []) hops → AreAmong (xs ++ lane ∷ []) hops
within-push xs hops lane all own = λ q member.
    or-case (list_any (same_hop q) hops ≡ true) (list_any (same_hop q) xs) (list_any (same_hop q) (lane ∷ []))
    (sym (list_any-append (same_hop q) xs (lane ∷ [])) ∙ member) (all q) (own q)

-- one lane more, of a hop that has a place, finds a place
pub fewer : (hops xs : List Lane) (lane : Lane) → IsDistinct same_hop xs → list_any (same_hop lane) xs ≡ false → AreAmong xs hops → AreAmong (lane ∷ []) hops → length xs < length hops
fewer hops xs lane distinct new all own =
    let few = length-le_from_is_member same_hop-laws (xs ++ lane ∷ []) hops (IsDistinct-push same_hop-laws xs lane distinct new) (within-push xs hops lane all own) in
    omega (arith, length-append xs (lane ∷ []), few)

-- a lane that has a place and goes on: so it is when its list is opened
module _ (s now : StopsView) (same : s ≡ now) (lane : Lane) (placed : HasPlaces now (lane ∷ [])) (goes_on : has_stopped now lane ≡ false) where
  places : HasPlaces s (lane ∷ [])
  places = subst (λ (t : StopsView). HasPlaces t (lane ∷ [])) (sym same) placed

  new : (k : Kind) → lane.kind ≡ k → elim k [ Data ↦ list_any (same_hop lane) s.lanes | Flags ↦ list_any (same_hop lane) s.flag_lanes ] ≡ false
  new k is =
      sym (ap (λ (k : Kind). elim k [ Data ↦ list_any (same_hop lane) s.lanes | Flags ↦ list_any (same_hop lane) s.flag_lanes ]) is)
      ∙ subst (λ (t : StopsView). has_stopped t lane ≡ false) (sym same) goes_on

  module _ (is : lane.kind ≡ Data) (distinct : IsDistinct same_hop s.lanes) where
    pub fewer-data : length s.lanes < s.places
    fewer-data = let less = fewer places.hops s.lanes lane distinct (new Data is) places.stopped places.own in omega (arith, less, places.few)

    pub distinct-data : IsDistinct same_hop (s.lanes ++ lane ∷ [])
    distinct-data = IsDistinct-push same_hop-laws s.lanes lane distinct (new Data is)

  module _ (is : lane.kind ≡ Flags) (distinct : IsDistinct same_hop s.flag_lanes) where
    pub fewer-flags : length s.flag_lanes < s.places
    fewer-flags = let less = fewer places.hops s.flag_lanes lane distinct (new Flags is) places.stopped_flags places.own in omega (arith, less, places.few)

    pub distinct-flags : IsDistinct same_hop (s.flag_lanes ++ lane ∷ [])
    distinct-flags = IsDistinct-push same_hop-laws s.flag_lanes lane distinct (new Flags is)

-- ---- places stay

-- fewer lanes have places too
pub places-for : (s : StopsView) (lanes some : List Lane) → HasPlaces s lanes → AreAmong some lanes → HasPlaces s some
places-for s lanes some p within = record {
  hops = p.hops;
  few = p.few;
  stopped = p.stopped;
  stopped_flags = p.stopped_flags;
  own = λ q h. p.own q (within q h);
}

-- and they have them still when one of them has stopped
pub places-after : (answer : Added) (s : StopsView) (lanes : List Lane) (lane : Lane) → HasPlaces s lanes → AreAmong (lane ∷ []) lanes → HasPlaces (stopped_after answer s lane) lanes
places-after Last s lanes lane p within = p
places-after Discarded s lanes lane p within = p
places-after Refused s lanes lane p within = by lane.kind refl
  where
    own : AreAmong (lane ∷ []) p.hops
    own q h = p.own q (within q h)

    by : (k : Kind) → lane.kind ≡ k → HasPlaces (with_stop s lane) lanes
    by Data e =
        subst (λ (t : StopsView). HasPlaces t lanes)
        (sym (ap (λ (k : Kind). elim k as (λ _. StopsView) [ Data ↦ record s { lanes = s.lanes ++ lane ∷ [] } | Flags ↦ record s { flag_lanes = s.flag_lanes ++ lane ∷ [] } ]) e))
        (record { hops = p.hops; few = p.few; stopped = within-push s.lanes p.hops lane p.stopped own; stopped_flags = p.stopped_flags; own = p.own })
    by Flags e =
        subst (λ (t : StopsView). HasPlaces t lanes)
        (sym (ap (λ (k : Kind). elim k as (λ _. StopsView) [ Data ↦ record s { lanes = s.lanes ++ lane ∷ [] } | Flags ↦ record s { flag_lanes = s.flag_lanes ++ lane ∷ [] } ]) e))
        (record { hops = p.hops; few = p.few; stopped = p.stopped; stopped_flags = within-push s.flag_lanes p.hops lane p.stopped_flags own; own = p.own })

pub distinct-nil : IsDistinct same_hop []
unfolding IsDistinct
distinct-nil = tt

-- ---- the lanes of three ports

pub within-left : (xs ys : List Lane) → AreAmong xs (xs ++ ys)
within-left xs ys = λ q h. list_any-append (same_hop q) xs ys ∙ ap (λ (b : Bool). b || list_any (same_hop q) ys) h

pub within-right : (xs ys : List Lane) → AreAmong ys (xs ++ ys)
within-right xs ys = λ q h. list_any-append (same_hop q) xs ys ∙ ap (λ (b : Bool). list_any (same_hop q) xs || b) h ∙ or-true (list_any (same_hop q) xs)

lane_of-open : (p : Port) → p.is_open ≡ true → lane_of p ≡ p.lane ∷ []
lane_of-open p o = ap (λ (b : Bool). if b then p.lane ∷ [] else []) o

module _ (s : StopsView) (up down flags : Port) where
  pub places-up : HasPlaces s (lane_of up ++ lane_of down ++ lane_of flags) → up.is_open ≡ true → HasPlaces s (up.lane ∷ [])
  places-up h o =
      let some : HasPlaces s (lane_of up) = places-for s (lane_of up ++ lane_of down ++ lane_of flags) (lane_of up) h (λ q m. within-left (lane_of up ++ lane_of down) (lane_of flags) q (within-left (lane_of up) (lane_of down) q m)) in
      subst (λ (t : List Lane). HasPlaces s t) (lane_of-open up o) some

  pub places-down : HasPlaces s (lane_of up ++ lane_of down ++ lane_of flags) → down.is_open ≡ true → HasPlaces s (down.lane ∷ [])
  places-down h o =
      let some : HasPlaces s (lane_of down) = places-for s (lane_of up ++ lane_of down ++ lane_of flags) (lane_of down) h (λ q m. within-left (lane_of up ++ lane_of down) (lane_of flags) q (within-right (lane_of up) (lane_of down) q m)) in
      subst (λ (t : List Lane). HasPlaces s t) (lane_of-open down o) some

-- lanes that have places have them after one item was put on an open lane of theirs
places-after-one : (before after : OutputsView) (p : Port) (i : Item) (lanes : List Lane) (b : Bool) → (b ≡ true → AreAmong (p.lane ∷ []) lanes) → HasPlaces before.stopped lanes
    → PutsAll before (if b then numbered p.lane p.made (i ∷ []) else []) after → HasPlaces after.stopped lanes
places-after-one before after p i lanes true own h puts =
    subst (λ (s : StopsView). HasPlaces s lanes) (sym puts.2.stopped ∙ sym puts.3.1) (places-after puts.0 before.stopped lanes p.lane h (own refl))
places-after-one before after p i lanes false own h puts = subst (λ (s : StopsView). HasPlaces s lanes) (sym puts.1) h

pub places-after-up : (before after : OutputsView) (up down flags : Port) (i : Item) → HasPlaces before.stopped (lane_of up ++ lane_of down ++ lane_of flags)
    → PutsAll before (offered up (i ∷ [])) after → HasPlaces after.stopped (lane_of up ++ lane_of down ++ lane_of flags)
places-after-up before after up down flags i h puts =
    places-after-one before after up i (lane_of up ++ lane_of down ++ lane_of flags) up.is_open
    (λ o. subst (λ (t : List Lane). AreAmong t (lane_of up ++ lane_of down ++ lane_of flags)) (lane_of-open up o) (λ q m. within-left (lane_of up ++ lane_of down) (lane_of flags) q (within-left (lane_of up) (lane_of down) q m))) h puts

-- ---- what callers may know

-- a new list has places for that many lanes
pub places-start : (places : ℕ) (lanes : List Lane) → length lanes ≤ places → HasPlaces (no_stops places) lanes
places-start places lanes few = record { hops = lanes; few = few; stopped = λ q h. cc; stopped_flags = λ q h. cc; own = λ q h. h }

pub places-put : (before after : OutputsView) (e : Envelope) (answer : Added) (lanes : List Lane) → HasPlaces before.stopped lanes → AreAmong (e.lane ∷ []) lanes → Puts before e answer after → HasPlaces after.stopped lanes
places-put before after e answer lanes h own puts = subst (λ (s : StopsView). HasPlaces s lanes) (sym puts.stopped) (places-after answer before.stopped lanes e.lane h own)

among-first : (lane : Lane) (some lanes : List Lane) → AreAmong (lane ∷ some) lanes → AreAmong (lane ∷ []) lanes
among-first lane some lanes h = λ q m. h q (or-case ((same_hop q lane || list_any (same_hop q) some) ≡ true) (same_hop q lane) false m (λ e. ap (λ (b : Bool). b || list_any (same_hop q) some) e) (λ e. cc))

among-rest : (lane : Lane) (some lanes : List Lane) → AreAmong (lane ∷ some) lanes → AreAmong some lanes
among-rest lane some lanes h = λ q m. h q (within-right (lane ∷ []) some q m)

pub places-puts_all : (before after : OutputsView) (es : List Envelope) (lanes : List Lane) → HasPlaces before.stopped lanes → AreAmong (map (λ (e : Envelope). e.lane) es) lanes → PutsAll before es after → HasPlaces after.stopped lanes
places-puts_all before after [] lanes h own puts = subst (λ (s : StopsView). HasPlaces s lanes) (sym puts.1) h
places-puts_all before after (e ∷ es) lanes h own puts =
    places-puts_all puts.1 after es lanes (places-put before puts.1 e puts.0 lanes h (among-first e.lane (map (λ (e : Envelope). e.lane) es) lanes own) puts.2) (among-rest e.lane (map (λ (e : Envelope). e.lane) es) lanes own) puts.3
