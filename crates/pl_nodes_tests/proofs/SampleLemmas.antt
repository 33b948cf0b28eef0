-- What the tests' harness has to show of a context of a sample stage.
use Rattle.std.proofs.Common.{◌≡◌, ℕ, ◌<◌, ◌≤◌, Bool, true, false, cond, List, [], ◌∷◌, ◌++◌, length, sym, ap, subst, ◌∙◌, refl, arith, length-append}
use Rattle.std.specs.Prelude.{if◌then◌else◌, ◌==◌, ◌&&◌}
use Rattle.pl_event.specs.declared.events.Event.{Event}
use Rattle.pl_event.specs.declared.events.Event.TheVariants.{ReadComplete}
use Rattle.pl_event.specs.declared.envelopes.Kind.{Kind}
use Rattle.pl_event.specs.declared.envelopes.Kind.TheVariants.{Data, Flags}
use Rattle.pl_event.specs.declared.envelopes.Lane.{Lane}
use Rattle.pl_event.specs.declared.envelopes.Item.{Item}
use Rattle.pl_event.specs.declared.envelopes.Item.TheVariants as item
use Rattle.pl_event.specs.declared.stages.Direction.{Direction}
use Rattle.pl_event.specs.declared.stages.Direction.TheVariants.{Inbound, Outbound, Turn}
use Rattle.pl_event.specs.declared.stages.Turned.{Turned}
use Rattle.pl_event.specs.declared.stages.Turned.TheVariants.{Open, Ended}
use Rattle.pl_context.specs.declared.ports.Port.{Port}
use Rattle.pl_context.specs.Stops.{StopsView, HasPlaces, no_stops}
use Rattle.pl_context.specs.Ports.{as_items, end_after}
use Rattle.pl_context.specs.ContextViews.{ContextView, lane_of, open_lanes, kind_taken, taken_of, number_limit}
use Rattle.pl_context.specs.TailViews.{TailView}
use Rattle.pl_context.specs.TailViews as tail
use Rattle.pl_context.specs.Contexts.{MakesFew}
use Rattle.pl_nodes_tests.specs.Samples.{relaying, has_quit, passed_up, passed_down, sample_lane}
use Rattle.pl_context.proofs.Places.{places-start, same_hop-laws}

-- the lane that a context counts as its own
pub number-own : {S : Type 0} (s : ContextView S) (lane : Lane) → lane.channel ≡ s.channel → lane.hop ≡ s.hop → taken_of s lane ≡ kind_taken s lane.kind
number-own s lane c h =
    ap (λ (n : ℕ). if (n == s.channel) && (lane.hop == s.hop) then kind_taken s lane.kind else 0) c
    ∙ ap (λ (n : ℕ). if (s.channel == s.channel) && (n == s.hop) then kind_taken s lane.kind else 0) h
    ∙ ap (λ (b : Bool). if b then kind_taken s lane.kind else 0) (same_hop-laws.refl (record { channel = s.channel; kind = lane.kind; hop = s.hop }))

pub number-tail : (s : TailView) (lane : Lane) → lane.channel ≡ s.channel → lane.hop ≡ s.hop → tail.taken_of s lane ≡ tail.kind_taken s lane.kind
number-tail s lane c h =
    ap (λ (n : ℕ). if (n == s.channel) && (lane.hop == s.hop) then tail.kind_taken s lane.kind else 0) c
    ∙ ap (λ (n : ℕ). if (s.channel == s.channel) && (n == s.hop) then tail.kind_taken s lane.kind else 0) h
    ∙ ap (λ (b : Bool). if b then tail.kind_taken s lane.kind else 0) (same_hop-laws.refl (record { channel = s.channel; kind = lane.kind; hop = s.hop }))

pub small-number : (k : Kind) (n : ℕ) → n < 1000 → n < number_limit k
small-number Data n h = omega (arith, h)
small-number Flags n h = omega (arith, h)

few-lanes : (p : Port) → length (lane_of p) ≤ 1
few-lanes p = by p.is_open
  where
    by : (b : Bool) → length (cond b (p.lane ∷ []) []) ≤ 1
    by true = omega arith
    by false = omega arith

pub fresh-places : {S : Type 0} (c : ContextView S) (s : StopsView) → s ≡ no_stops 3 → HasPlaces s (open_lanes c)
fresh-places c s e =
    subst (λ (t : StopsView). HasPlaces t (open_lanes c)) (sym e)
    (places-start 3 (open_lanes c) (omega (arith, few-lanes c.up, few-lanes c.down, few-lanes c.flags, length-append (lane_of c.up ++ lane_of c.down) (lane_of c.flags), length-append (lane_of c.up) (lane_of c.down))))

few-up : (d : Direction) (x : Event) → length (as_items (passed_up d x)) ≤ 1
few-up Inbound x = omega arith
few-up Turn x = omega arith
few-up Outbound x = omega arith

few-down : (d : Direction) (b : Bool) (x : Event) → length (as_items (passed_down d b x)) ≤ 1
few-down Inbound b x = omega arith
few-down Turn true x = omega arith
few-down Turn false x = omega arith
few-down Outbound b x = omega arith

few-end : (t : Turned) → length (end_after t) ≤ 1
few-end Open = omega arith
few-end Ended = omega arith

-- a list of events after which a sample stage that has quit, or not, may stand
abbrev some-events : Bool → List Event
some-events true = ReadComplete ∷ []
some-events false = []

some-events-quit : (b : Bool) → b ≡ has_quit (some-events b)
some-events-quit true = refl
some-events-quit false = refl

-- what a sample stage makes of an item is little
pub relay-few : {S : Type 0} (direction : S → Direction) (quit : S → Bool) (c : ContextView S) (i : Item) → c.up.made < 1000 → c.down.made < 1000
    → MakesFew (λ (s : S). relaying (direction s)) (λ (s : S) (xs : List Event). quit s ≡ has_quit xs) c i
relay-few direction quit c (item.Event x) up down =
    let xs = some-events (quit c.stage) in
    let d = direction c.stage in
    let end = (relaying d).ended (xs ++ x ∷ []) in (
      xs,
      record {
        stands = some-events-quit (quit c.stage);
        above = λ o. omega (arith, up, few-up d x);
        below = λ o. omega (arith, down, few-down d (has_quit xs) x, few-end (if end then Ended else Open), length-append (as_items (passed_down d (has_quit xs) x)) (end_after (if end then Ended else Open)));
      },
    )
relay-few direction quit c item.End up down = tt
relay-few direction quit c (item.Fail cause) up down = tt
relay-few direction quit c (item.Flag value) up down = tt

-- the one lane of a test on a list with one place
pub one-place : (s : StopsView) → s ≡ no_stops 1 → HasPlaces s (sample_lane ∷ [])
one-place s e = subst (λ (t : StopsView). HasPlaces t (sample_lane ∷ [])) (sym e) (places-start 1 (sample_lane ∷ []) (omega arith))
