-- Flags, one after another: when all of them are sent.
use Rattle.std.proofs.Common.{◌≡◌, ℕ, ◌+◌, ◌<◌, ◌≤◌, Bool, true, false, List, [], ◌∷◌, ◌++◌, length, refl, sym, ap, subst, ◌∙◌, arith, append-nil, append_assoc, length-append, add-zero}
use Rattle.std.proofs.lemmas.Bool.{both_ways}
use Rattle.pl_event.specs.declared.envelopes.Kind.{Kind}
use Rattle.pl_event.specs.declared.envelopes.Kind.TheVariants.{Data, Flags}
use Rattle.pl_event.specs.declared.envelopes.Lane.{Lane}
use Rattle.pl_event.specs.declared.envelopes.Item.TheVariants as item
use Rattle.pl_event.specs.declared.envelopes.Envelope.{Envelope}
use Rattle.pl_context.specs.declared.added.Added.{Added}
use Rattle.pl_context.specs.declared.added.Added.TheVariants.{Last, Refused, Discarded}
use Rattle.pl_context.specs.declared.ports.Port.{Port}
use Rattle.pl_context.specs.Stops.{StopsView, HasPlaces, AreAmong, has_stopped, with_stop}
use Rattle.pl_context.specs.OutputsViews.{OutputsView, Puts, added_items, stopped_after}
use Rattle.pl_context.specs.Ports.{FlagPasses, flag_port_after, numbered}
use Rattle.pl_context.proofs.Places.{places-put}
use Rattle.pl_head.specs.FlagLanes.{FlagsPass, AllSent, as_flags}

-- a closed lane sends none
pub pass_closed : (values : List Bool) (p p' : Port) (before after : OutputsView) → FlagsPass values p before p' after → p.is_open ≡ false → (p' ≡ p) × (after ≡ before)
pass_closed [] p p' before after h shut = (h.0, h.1)
pass_closed (v ∷ vs) p p' before after h shut =
    let first = h.2.closed shut in
    let rest = pass_closed vs h.0 p' h.1 after h.3 (ap (λ (q : Port). q.is_open) first.0 ∙ shut) in
    (rest.0 ∙ first.0, rest.1 ∙ first.1)

-- one flag, for which a place was found
record OneSent (v : Bool) (p mid : Port) (before between : OutputsView) : Type 0 where
  items : between.items ≡ before.items ++ record { lane = p.lane; number = p.made; item = item.Flag v } ∷ []
  stopped : between.stopped ≡ before.stopped
  room : before.room ≤ between.room + 1
  port : mid ≡ record p { made = p.made + 1 }

abbrev flag_envelope : Port → Bool → Envelope
flag_envelope p v = record { lane = p.lane; number = p.made; item = item.Flag v }

one_sent : (v : Bool) (p mid : Port) (before between : OutputsView) (answer : Added) → answer ≡ Last → mid ≡ flag_port_after answer p → Puts before (flag_envelope p v) answer between
    → OneSent v p mid before between
one_sent v p mid before between answer last is puts = record {
  items = puts.items ∙ ap (λ (a : Added). before.items ++ added_items a (flag_envelope p v)) last;
  stopped = puts.stopped ∙ ap (λ (a : Added). stopped_after a before.stopped p.lane) last;
  room = subst (λ (t : List Envelope). before.room ≤ between.room + length t) (ap (λ (a : Added). added_items a (flag_envelope p v)) last) puts.room;
  port = is ∙ ap (λ (a : Added). flag_port_after a p) last;
}

then_all : (v : Bool) (vs : List Bool) (p mid p' : Port) (before between after : OutputsView) → OneSent v p mid before between → AllSent vs mid between p' after → AllSent (v ∷ vs) p before p' after
then_all v vs p mid p' before between after one all =
    let count : p.made + 1 + length vs ≡ p.made + length (v ∷ vs) = omega arith in
    record {
      items =
          all.items
          ∙ ap (λ (q : Port). between.items ++ numbered q.lane q.made (as_flags vs)) one.port
          ∙ ap (λ (es : List Envelope). es ++ numbered p.lane (p.made + 1) (as_flags vs)) one.items
          ∙ append_assoc before.items (flag_envelope p v ∷ []) (numbered p.lane (p.made + 1) (as_flags vs));
      stopped = all.stopped ∙ one.stopped;
      port =
          all.port
          ∙ ap (λ (q : Port). record q { made = q.made + length vs }) one.port
          ∙ ap (λ (n : ℕ). record p { made = n }) count;
    }

-- where the lane is open behind them, all were sent
module _ (v : Bool) (vs : List Bool) (p mid p' : Port) (before between after : OutputsView) (rest : FlagsPass vs mid between p' after) (open_ : p'.is_open ≡ true) where
  stays_closed : mid.is_open ≡ false → ⊥
  stays_closed shut =
      both_ways p'.is_open (ap (λ (q : Port). q.is_open) (pass_closed vs mid p' between after rest shut).0 ∙ shut) open_

  was_last : (answer : Added) → mid ≡ flag_port_after answer p → answer ≡ Last
  was_last Last is = refl
  was_last Refused is = absurd (stays_closed (ap (λ (q : Port). q.is_open) is))
  was_last Discarded is = absurd (stays_closed (ap (λ (q : Port). q.is_open) is))

  was_open : FlagPasses p v before mid between → (b : Bool) → p.is_open ≡ b → p.is_open ≡ true
  was_open first true is = is
  was_open first false is = absurd (stays_closed (ap (λ (q : Port). q.is_open) (first.closed is).0 ∙ is))

pub all_sent : (values : List Bool) (p p' : Port) (before after : OutputsView) → FlagsPass values p before p' after → p'.is_open ≡ true → AllSent values p before p' after
all_sent [] p p' before after h open_ = record {
  items = ap (λ (l : OutputsView). l.items) h.1 ∙ sym (append-nil before.items);
  stopped = ap (λ (l : OutputsView). l.stopped) h.1;
  port = h.0 ∙ ap (λ (n : ℕ). record p { made = n }) (sym (add-zero p.made));
}
all_sent (v ∷ vs) p p' before after h open_ =
    let put = h.2.put (was_open v vs p h.0 p' before h.1 after h.3 open_ h.2 p.is_open refl) in
    let last = was_last v vs p h.0 p' before h.1 after h.3 open_ put.0 put.1 in
    then_all v vs p h.0 p' before h.1 after (one_sent v p h.0 before h.1 put.0 last put.1 put.2) (all_sent vs h.0 p' h.1 after h.3 open_)

-- ---- where it is open

goes_on : (s : StopsView) (p mid : Port) (t : StopsView) → t ≡ s → mid.lane ≡ p.lane → has_stopped s p.lane ≡ false → has_stopped t mid.lane ≡ false
goes_on s p mid t same lane h = ap (λ (u : StopsView). has_stopped u mid.lane) same ∙ ap (λ (l : Lane). has_stopped s l) lane ∙ h

pub open_by_room : (values : List Bool) (p p' : Port) (before after : OutputsView) → FlagsPass values p before p' after → p.is_open ≡ true
    → has_stopped before.stopped p.lane ≡ false → length values ≤ before.room → p'.is_open ≡ true
open_by_room [] p p' before after h open_ goes room = ap (λ (q : Port). q.is_open) h.0 ∙ open_
open_by_room (v ∷ vs) p p' before after h open_ goes room =
    let put = h.2.put open_ in
    let some : 0 < before.room = omega (arith, room) in
    let one = one_sent v p h.0 before h.1 put.0 (put.2.last goes some) put.1 put.2 in
    open_by_room vs h.0 p' h.1 after h.3 (ap (λ (q : Port). q.is_open) one.port ∙ open_)
    (goes_on before.stopped p h.0 h.1.stopped one.stopped (ap (λ (q : Port). q.lane) one.port) goes) (omega (arith, room, one.room))

-- one lane more has stopped
abbrev pub stops : StopsView → ℕ
stops s = length s.lanes + length s.flag_lanes

pub more_stops : (s : StopsView) (lane : Lane) → stops (with_stop s lane) ≡ stops s + 1
more_stops s lane = by lane.kind refl
  where
    by : (k : Kind) → lane.kind ≡ k → stops (with_stop s lane) ≡ stops s + 1
    by Data is =
        ap (λ (k : Kind). stops (elim k as (λ _. StopsView) [ Data ↦ record s { lanes = s.lanes ++ lane ∷ [] } | Flags ↦ record s { flag_lanes = s.flag_lanes ++ lane ∷ [] } ])) is
        ∙ omega (arith, length-append s.lanes (lane ∷ []))
    by Flags is =
        ap (λ (k : Kind). stops (elim k as (λ _. StopsView) [ Data ↦ record s { lanes = s.lanes ++ lane ∷ [] } | Flags ↦ record s { flag_lanes = s.flag_lanes ++ lane ∷ [] } ])) is
        ∙ omega (arith, length-append s.flag_lanes (lane ∷ []))

-- nothing has stopped, so the flag found a place
module _ (v : Bool) (vs : List Bool) (p mid p' : Port) (before between after : OutputsView) (rest : FlagsPass vs mid between p' after) where
  found : (answer : Added) → mid ≡ flag_port_after answer p → Puts before (flag_envelope p v) answer between → has_stopped before.stopped p.lane ≡ false → after.stopped ≡ before.stopped → answer ≡ Last
  found Last is puts goes same = refl
  found Refused is puts goes same =
      let shut = ap (λ (q : Port). q.is_open) is in
      let end : after.stopped ≡ with_stop before.stopped p.lane = ap (λ (l : OutputsView). l.stopped) (pass_closed vs mid p' between after rest shut).1 ∙ puts.stopped in
      let count = ap stops (sym same ∙ end) ∙ more_stops before.stopped p.lane in
      absurd (omega (arith, count))
  found Discarded is puts goes same = absurd (both_ways (has_stopped before.stopped p.lane) goes (puts.discarded.0 refl))

pub open_unstopped : (values : List Bool) (p p' : Port) (before after : OutputsView) → FlagsPass values p before p' after → p.is_open ≡ true
    → has_stopped before.stopped p.lane ≡ false → after.stopped ≡ before.stopped → p'.is_open ≡ true
open_unstopped [] p p' before after h open_ goes same = ap (λ (q : Port). q.is_open) h.0 ∙ open_
open_unstopped (v ∷ vs) p p' before after h open_ goes same =
    let put = h.2.put open_ in
    let last = found v vs p h.0 p' before h.1 after h.3 put.0 put.1 put.2 goes same in
    let one = one_sent v p h.0 before h.1 put.0 last put.1 put.2 in
    open_unstopped vs h.0 p' h.1 after h.3 (ap (λ (q : Port). q.is_open) one.port ∙ open_)
    (goes_on before.stopped p h.0 h.1.stopped one.stopped (ap (λ (q : Port). q.lane) one.port) goes) (same ∙ sym one.stopped)

-- ---- places

pub port-lane : (answer : Added) (p : Port) → (flag_port_after answer p).lane ≡ p.lane
port-lane Last p = refl
port-lane Refused p = refl
port-lane Discarded p = refl

pub places_stay : (values : List Bool) (p p' : Port) (before after : OutputsView) (lanes : List Lane) → FlagsPass values p before p' after
    → HasPlaces before.stopped lanes → AreAmong (p.lane ∷ []) lanes → HasPlaces after.stopped lanes
places_stay [] p p' before after lanes h places own =
    subst (λ (l : OutputsView). HasPlaces l.stopped lanes) (sym h.1) places
places_stay (v ∷ vs) p p' before after lanes h places own = by p.is_open refl (λ mid between rest more lane. places_stay vs mid p' between after lanes rest more lane)
  where
    by : (b : Bool) → p.is_open ≡ b
        → ((mid : Port) (between : OutputsView) → FlagsPass vs mid between p' after → HasPlaces between.stopped lanes → AreAmong (mid.lane ∷ []) lanes → HasPlaces after.stopped lanes)
        → HasPlaces after.stopped lanes
    by false is rest =
        let all = pass_closed (v ∷ vs) p p' before after h is in
        subst (λ (l : OutputsView). HasPlaces l.stopped lanes) (sym all.1) places
    by true is rest =
        let put = h.2.put is in
        let lane : h.0.lane ≡ p.lane = ap (λ (q : Port). q.lane) put.1 ∙ port-lane put.0 p in
        rest h.0 h.1 h.3 (places-put before h.1 (flag_envelope p v) put.0 lanes places own put.2)
        (subst (λ (l : Lane). AreAmong (l ∷ []) lanes) (sym lane) own)
