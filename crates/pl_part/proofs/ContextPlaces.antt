-- A context takes an item: its lanes and the places for lanes stay.
use Rattle.std.proofs.Common.{◌≡◌, ℕ, ◌+◌, Bool, true, false, List, [], ◌∷◌, ◌++◌, refl, ap, sym, subst, ◌∙◌, ⊎_elim, append-nil, append_assoc}
use Rattle.std.specs.Prelude.{◌||◌, if◌then◌else◌}
use Rattle.std.specs.List.{list_any}
use Rattle.std.proofs.lemmas.Bool.{cond-true, cond-false, cases_Bool, or_left, or_right}
use Rattle.pl_event.specs.declared.envelopes.Kind.{Kind}
use Rattle.pl_event.specs.declared.envelopes.Kind.TheVariants.{Data, Flags}
use Rattle.pl_event.specs.declared.envelopes.Lane.{Lane}
use Rattle.pl_event.specs.declared.envelopes.Item.{Item}
use Rattle.pl_event.specs.declared.envelopes.Item.TheVariants as item
use Rattle.pl_event.specs.declared.envelopes.Envelope.{Envelope}
use Rattle.pl_event.specs.declared.events.Event.{Event}
use Rattle.pl_event.specs.declared.outcomes.Cause.{Cause}
use Rattle.pl_event.specs.declared.outcomes.Cause.TheVariants.{Memory}
use Rattle.pl_event.specs.Meaning.{Meaning}
use Rattle.pl_context.specs.declared.added.Added.{Added}
use Rattle.pl_context.specs.declared.added.Added.TheVariants.{Last, Refused, Discarded}
use Rattle.pl_context.specs.declared.ports.Port.{Port}
use Rattle.pl_context.specs.declared.standing.Standing.{Standing}
use Rattle.pl_context.specs.declared.standing.Standing.TheVariants as standings
use Rattle.pl_context.specs.declared.standing.Took.{Took}
use Rattle.pl_context.specs.declared.standing.Took.TheVariants as took
use Rattle.pl_context.specs.Standings.{is_over, has_failed}
use Rattle.pl_context.specs.Stops.{StopsView, same_hop, AreAmong, HasPlaces}
use Rattle.pl_context.specs.OutputsViews.{OutputsView, PutsAll}
use Rattle.pl_context.specs.Ports.{numbered, offered, flag_port_after}
use Rattle.pl_context.specs.ContextViews.{ContextView, lane_of, open_lanes}
use Rattle.pl_context.specs.Contexts.{GivesLast, TakesItem, TakesFlag, counted, offers, last_item}
use Rattle.pl_context.proofs.Places.{places-after}
use Rattle.pl_part.specs.ContextHolds.{context_lanes}
use Rattle.pl_part.specs.Taking.{ContextTakes}

-- each is of one of these lanes
abbrev pub AllAmong : List Lane → List Envelope → Type 0
AllAmong lanes [] = Unit {0}
AllAmong lanes (e ∷ es) = AreAmong (e.lane ∷ []) lanes × AllAmong lanes es

pub puts-places : (lanes : List Lane) (es : List Envelope) (b a : OutputsView) → AllAmong lanes es → HasPlaces b.stopped lanes → PutsAll b es a → HasPlaces a.stopped lanes
puts-places lanes [] b a among p puts = subst (λ (s : StopsView). HasPlaces s lanes) (sym puts.1) p
puts-places lanes (e ∷ es) b a among p puts =
    puts-places lanes es puts.1 a among.1 (subst (λ (s : StopsView). HasPlaces s lanes) (sym puts.2.stopped) (places-after puts.0 b.stopped lanes e.lane p among.0)) puts.3

among-append : (lanes : List Lane) (es fs : List Envelope) → AllAmong lanes es → AllAmong lanes fs → AllAmong lanes (es ++ fs)
among-append lanes [] fs h k = k
among-append lanes (e ∷ es) fs h k = (h.0, among-append lanes es fs h.1 k)

numbered-among : (lanes : List Lane) (lane : Lane) (n : ℕ) (is : List Item) → AreAmong (lane ∷ []) lanes → AllAmong lanes (numbered lane n is)
numbered-among lanes lane n [] h = tt
numbered-among lanes lane n (i ∷ is) h = (h, numbered-among lanes lane (n + 1) is h)

pub offered-among : (lanes : List Lane) (p : Port) (is : List Item) → AreAmong (p.lane ∷ []) lanes → AllAmong lanes (offered p is)
offered-among lanes p is h = ⊎_elim
    (λ (t : p.is_open ≡ true). subst (λ (es : List Envelope). AllAmong lanes es) (sym (cond-true p.is_open (numbered p.lane p.made is) [] t)) (numbered-among lanes p.lane p.made is h))
    (λ (f : p.is_open ≡ false). subst (λ (es : List Envelope). AllAmong lanes es) (sym (cond-false p.is_open (numbered p.lane p.made is) [] f)) tt)
    (cases_Bool p.is_open)

or-first : (a b : Bool) → (a || false) ≡ true → (a || b) ≡ true
or-first true b e = refl
or-first false b e = absurd (no e)
  where
    no : false ≡ true → ⊥
    no e = cc

module _ {S : Type 0} (meaning : S → Meaning) (stands_after : S → List Event → Type 0) (is_spent : S → Bool) (c : ContextView S) (lanes : List Lane) (within : AreAmong (context_lanes c) lanes) where
  up-among : AreAmong (c.up.lane ∷ []) lanes
  up-among l e = within l (or-first (same_hop l c.up.lane) _ e)

  down-among : AreAmong (c.down.lane ∷ []) lanes
  down-among l e = within l (or_right (same_hop l c.up.lane) _ (or-first (same_hop l c.down.lane) _ e))

  flags-among : AreAmong (c.flags.lane ∷ []) lanes
  flags-among l e = within l (or_right (same_hop l c.up.lane) _ (or_right (same_hop l c.down.lane) _ e))

  module _ (b a : OutputsView) (p : HasPlaces b.stopped lanes) where
    same-places : a.stopped ≡ b.stopped → HasPlaces a.stopped lanes
    same-places e = subst (λ (s : StopsView). HasPlaces s lanes) (sym e) p

    pub closes-places : (standing : Standing) (z c' : ContextView S) → z.up ≡ c.up → z.down ≡ c.down → GivesLast standing z b c' a → HasPlaces a.stopped lanes
    closes-places standing z c' u d k =
        let last = last_item standing ∷ [] in
        puts-places lanes (offers c.up c.down last last) b a (among-append lanes (offered c.up last) (offered c.down last) (offered-among lanes c.up last up-among) (offered-among lanes c.down last down-among)) p
        (subst (λ (y : Port × Port). PutsAll b (offers y.0 y.1 last last) a) (λ i. (u i, d i)) k.out)

    -- after whichever events it stood
    item-places : (i : Item) (xs : List Event) → stands_after c.stage xs → (answer : Took) (c' : ContextView S) → TakesItem meaning stands_after is_spent (counted Data c) i b answer c' a → HasPlaces a.stopped lanes
    item-places (item.Event x) xs at took.Ran c' t = same-places (t.out xs at).stopped
    item-places (item.Event x) xs at (took.Failed cause) c' t = closes-places (standings.Failed Memory) (record (counted Data c) { stage = c'.stage }) c' refl refl t.1.closes
    item-places (item.Event x) xs at took.Ended c' t = absurd t
    item-places (item.Event x) xs at took.Dropped c' t = absurd t
    item-places item.End xs at answer c' t = closes-places standings.Ended (counted Data c) c' refl refl t.1
    item-places (item.Fail cause) xs at answer c' t = closes-places (standings.Failed cause) (counted Data c) c' refl refl t.1
    item-places (item.Flag value) xs at answer c' t = same-places (ap (λ (y : OutputsView). y.stopped) t.2)

    flag-places : (i : Item) (answer : Took) (c' : ContextView S) → TakesFlag (counted Flags c) i b answer c' a → HasPlaces a.stopped lanes
    flag-places (item.Flag value) answer c' t = ⊎_elim
        (λ (o : c.flags.is_open ≡ true).
        let put = t.2.put o in
        subst (λ (s : StopsView). HasPlaces s lanes) (sym put.2.stopped) (places-after put.0 b.stopped lanes c.flags.lane p flags-among))
        (λ (o : c.flags.is_open ≡ false). same-places (ap (λ (y : OutputsView). y.stopped) (t.2.closed o).1))
        (cases_Bool c.flags.is_open)
    flag-places (item.Event x) answer c' t = same-places (ap (λ (y : OutputsView). y.stopped) t.2)
    flag-places item.End answer c' t = same-places (ap (λ (y : OutputsView). y.stopped) t.2)
    flag-places (item.Fail cause) answer c' t = same-places (ap (λ (y : OutputsView). y.stopped) t.2)

    pub fail-places : (cause : Cause) (c' : ContextView S) → (c.standing ≡ standings.Open → GivesLast (standings.Failed cause) (record c { failed_by_call = true }) b c' a)
        → (is_over c.standing ≡ true → (c' ≡ c) × (a ≡ b)) → HasPlaces a.stopped lanes
    fail-places cause c' closes over = by c.standing refl
      where
        by : (s : Standing) → c.standing ≡ s → HasPlaces a.stopped lanes
        by standings.Open live = closes-places (standings.Failed cause) (record c { failed_by_call = true }) c' refl refl (closes live)
        by standings.Ended is = same-places (ap (λ (y : OutputsView). y.stopped) (over (ap is_over is)).1)
        by (standings.Failed other) is = same-places (ap (λ (y : OutputsView). y.stopped) (over (ap is_over is)).1)

    pub context-places : (e : Envelope) (c' : ContextView S) (answer : Took) → (c.standing ≡ standings.Open → (xs : List Event) × stands_after c.stage xs)
        → (e.lane.kind ≡ Data → c.standing ≡ standings.Open → TakesItem meaning stands_after is_spent (counted Data c) e.item b answer c' a)
        → (e.lane.kind ≡ Data → c.standing ≡ standings.Ended → (answer ≡ took.Ran) × (c' ≡ counted Data c) × (a ≡ b))
        → (e.lane.kind ≡ Flags → has_failed c.standing ≡ false → TakesFlag (counted Flags c) e.item b answer c' a)
        → (has_failed c.standing ≡ true → (answer ≡ took.Dropped) × (c' ≡ counted e.lane.kind c) × (a ≡ b))
        → HasPlaces a.stopped lanes
    context-places e c' answer some item ended flag drops = by e.lane.kind refl c.standing refl
      where
        by : (k : Kind) → e.lane.kind ≡ k → (s : Standing) → c.standing ≡ s → HasPlaces a.stopped lanes
        by Data is standings.Open live = let at = some live in item-places e.item at.0 at.1 answer c' (item is live)
        by Data is standings.Ended over = same-places (ap (λ (y : OutputsView). y.stopped) (ended is over).2)
        by k is (standings.Failed cause) over = same-places (ap (λ (y : OutputsView). y.stopped) (drops (ap has_failed over)).2)
        by Flags is standings.Open live = flag-places e.item answer c' (flag is (ap has_failed live))
        by Flags is standings.Ended live = flag-places e.item answer c' (flag is (ap has_failed live))

-- ---- its lanes

-- a lane that is open is one of them
open-first : (p : Port) (lane : Lane) (rest : List Lane) (b : Bool) → list_any (same_hop lane) (lane_of p ++ rest) ≡ true → (list_any (same_hop lane) rest ≡ true → b ≡ true) → (same_hop lane p.lane || b) ≡ true
open-first p lane rest b any more = by p.is_open any
  where
    by : (is_open : Bool) → list_any (same_hop lane) ((if is_open then p.lane ∷ [] else []) ++ rest) ≡ true → (same_hop lane p.lane || b) ≡ true
    by true e = ⊎_elim
        (λ (t : same_hop lane p.lane ≡ true). or_left (same_hop lane p.lane) b t)
        (λ (f : same_hop lane p.lane ≡ false). or_right (same_hop lane p.lane) b (more (sym (ap (λ (x : Bool). x || list_any (same_hop lane) rest) f) ∙ e)))
        (cases_Bool (same_hop lane p.lane))
    by false e = or_right (same_hop lane p.lane) b (more e)

pub open-places : {S : Type 0} (c : ContextView S) (s : StopsView) → HasPlaces s (context_lanes c) → HasPlaces s (open_lanes c)
open-places c s p = record {
  hops = p.hops;
  few = p.few;
  stopped = p.stopped;
  stopped_flags = p.stopped_flags;
  own = λ lane any. p.own lane (open-first c.up lane (lane_of c.down ++ lane_of c.flags) (same_hop lane c.down.lane || (same_hop lane c.flags.lane || false)) (subst (λ (ls : List Lane). list_any (same_hop lane) ls ≡ true) (append_assoc (lane_of c.up) (lane_of c.down) (lane_of c.flags)) any)
      (λ below. open-first c.down lane (lane_of c.flags) (same_hop lane c.flags.lane || false) below
      (λ aside. open-first c.flags lane [] false (subst (λ (ls : List Lane). list_any (same_hop lane) ls ≡ true) (sym (append-nil (lane_of c.flags))) aside) (λ none. none))));
}

flag-lane : (answer : Added) (p : Port) → (flag_port_after answer p).lane ≡ p.lane
flag-lane Last p = refl
flag-lane Refused p = refl
flag-lane Discarded p = refl

module _ {S : Type 0} (meaning : S → Meaning) (stands_after : S → List Event → Type 0) (is_spent : S → Bool) (c : ContextView S) (b a : OutputsView) where
  item-lanes : (i : Item) (xs : List Event) → stands_after c.stage xs → (answer : Took) (c' : ContextView S) → TakesItem meaning stands_after is_spent (counted Data c) i b answer c' a → context_lanes c' ≡ context_lanes c
  item-lanes (item.Event x) xs at took.Ran c' t =
      (λ j. ap (λ (p : Port). p.lane) (t.up xs at) j ∷ ap (λ (p : Port). p.lane) (t.down xs at) j ∷ ap (λ (z : ContextView S). z.flags.lane) t.same j ∷ [])
  item-lanes (item.Event x) xs at (took.Failed cause) c' t = ap (λ (z : ContextView S). context_lanes z) t.1.closes.context
  item-lanes (item.Event x) xs at took.Ended c' t = absurd t
  item-lanes (item.Event x) xs at took.Dropped c' t = absurd t
  item-lanes item.End xs at answer c' t = ap (λ (z : ContextView S). context_lanes z) t.1.context
  item-lanes (item.Fail cause) xs at answer c' t = ap (λ (z : ContextView S). context_lanes z) t.1.context
  item-lanes (item.Flag value) xs at answer c' t = ap (λ (z : ContextView S). context_lanes z) t.1

  flag-lanes : (i : Item) (answer : Took) (c' : ContextView S) → TakesFlag (counted Flags c) i b answer c' a → context_lanes c' ≡ context_lanes c
  flag-lanes (item.Flag value) answer c' t =
      let aside : c'.flags.lane ≡ c.flags.lane = ⊎_elim
      (λ (o : c.flags.is_open ≡ true). let put = t.2.put o in ap (λ (p : Port). p.lane) put.1 ∙ flag-lane put.0 c.flags)
      (λ (o : c.flags.is_open ≡ false). ap (λ (p : Port). p.lane) (t.2.closed o).0)
      (cases_Bool c.flags.is_open) in
      (λ j. ap (λ (z : ContextView S). z.up.lane) t.1 j ∷ ap (λ (z : ContextView S). z.down.lane) t.1 j ∷ aside j ∷ [])
  flag-lanes (item.Event x) answer c' t = ap (λ (z : ContextView S). context_lanes z) t.1
  flag-lanes item.End answer c' t = ap (λ (z : ContextView S). context_lanes z) t.1
  flag-lanes (item.Fail cause) answer c' t = ap (λ (z : ContextView S). context_lanes z) t.1

  -- they stay
  pub lanes-stay : (e : Envelope) (answer : Took) (c' : ContextView S) → (c.standing ≡ standings.Open → (xs : List Event) × stands_after c.stage xs) → ContextTakes meaning stands_after is_spent c e b answer c' a → context_lanes c' ≡ context_lanes c
  lanes-stay e answer c' some t = by e.lane.kind refl c.standing refl
    where
      counted-lanes : (k : Kind) → context_lanes (counted k c) ≡ context_lanes c
      counted-lanes Data = refl
      counted-lanes Flags = refl

      by : (k : Kind) → e.lane.kind ≡ k → (s : Standing) → c.standing ≡ s → context_lanes c' ≡ context_lanes c
      by Data is standings.Open live = let at = some live in item-lanes e.item at.0 at.1 answer c' (t.open_item is live)
      by Data is standings.Ended over = ap (λ (z : ContextView S). context_lanes z) (t.ended is over).1
      by k is (standings.Failed cause) over = ap (λ (z : ContextView S). context_lanes z) (t.dropped (ap has_failed over)).1 ∙ counted-lanes e.lane.kind
      by Flags is standings.Open live = flag-lanes e.item answer c' (t.flags is (ap has_failed live))
      by Flags is standings.Ended live = flag-lanes e.item answer c' (t.flags is (ap has_failed live))
