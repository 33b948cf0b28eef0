-- Items that are put on a list, one after another: where no lane has stopped by it, all of them are there.
use Rattle.std.proofs.Common.{◌≡◌, ℕ, ◌+◌, ◌≤◌, false, List, [], ◌∷◌, ◌++◌, refl, sym, ap, subst, ◌∙◌, arith, append-nil, length}
use Rattle.std.proofs.lemmas.Bool.{both_ways}
use Rattle.pl_event.specs.declared.envelopes.Lane.{Lane}
use Rattle.pl_event.specs.declared.envelopes.Item.{Item}
use Rattle.pl_event.specs.declared.envelopes.Envelope.{Envelope}
use Rattle.pl_context.specs.declared.added.Added.{Added}
use Rattle.pl_context.specs.declared.added.Added.TheVariants.{Last, Refused, Discarded}
use Rattle.pl_context.specs.Stops.{StopsView, has_stopped}
use Rattle.pl_context.specs.OutputsViews.{OutputsView, Puts, PutsAll, Appends, added_items, stopped_after}
use Rattle.pl_context.specs.Ports.{numbered}
use Rattle.pl_context.proofs.PortLemmas.{appends-append}
use Rattle.pl_head.proofs.FlagSteps.{stops, more_stops}

-- no lane goes on again
stops_stay : (before after : OutputsView) (e : Envelope) (answer : Added) → Puts before e answer after → stops before.stopped ≤ stops after.stopped
stops_stay before after e Last p = omega (arith, ap stops p.stopped)
stops_stay before after e Refused p = omega (arith, ap stops p.stopped, more_stops before.stopped e.lane)
stops_stay before after e Discarded p = omega (arith, ap stops p.stopped)

all_stops_stay : (before after : OutputsView) (es : List Envelope) → PutsAll before es after → stops before.stopped ≤ stops after.stopped
all_stops_stay before after [] h = omega (arith, ap stops h.1)
all_stops_stay before after (e ∷ es) h =
    let first = stops_stay before h.1 e h.0 h.2 in
    let rest = all_stops_stay h.1 after es h.3 in
    omega (arith, first, rest)

one_last : (before mid after : OutputsView) (e : Envelope) (answer : Added) → Puts before e answer mid → stops mid.stopped ≤ stops after.stopped → has_stopped before.stopped e.lane ≡ false → after.stopped ≡ before.stopped → answer ≡ Last
one_last before mid after e Last p rest goes same = refl
one_last before mid after e Refused p rest goes same =
    absurd (omega (arith, ap stops p.stopped, more_stops before.stopped e.lane, rest, ap stops same))
one_last before mid after e Discarded p rest goes same = absurd (both_ways (has_stopped before.stopped e.lane) goes (p.discarded.0 refl))

one_appends : (before mid : OutputsView) (e : Envelope) (answer : Added) → Puts before e answer mid → answer ≡ Last → Appends before (e ∷ []) mid
one_appends before mid e answer p last = record {
  items = p.items ∙ ap (λ (a : Added). before.items ++ added_items a e) last;
  stopped = p.stopped ∙ ap (λ (a : Added). stopped_after a before.stopped e.lane) last;
  room = subst (λ (t : List Envelope). before.room ≤ mid.room + length t) (ap (λ (a : Added). added_items a e) last) p.room;
}

-- The items of a lane that has not stopped are all there, where no lane has stopped by them.
pub puts_all-appends : (before after : OutputsView) (lane : Lane) (n : ℕ) (is : List Item) → PutsAll before (numbered lane n is) after → has_stopped before.stopped lane ≡ false → after.stopped ≡ before.stopped
    → Appends before (numbered lane n is) after
puts_all-appends before after lane n [] h goes same = record {
  items = h.0 ∙ sym (append-nil before.items);
  stopped = h.1;
  room = omega (arith, h.2);
}
puts_all-appends before after lane n (i ∷ is) h goes same =
    let e : Envelope = record { lane = lane; number = n; item = i } in
    let last = one_last before h.1 after e h.0 h.2 (all_stops_stay h.1 after (numbered lane (n + 1) is) h.3) goes same in
    let one = one_appends before h.1 e h.0 h.2 last in
    let rest = puts_all-appends h.1 after lane (n + 1) is h.3 (ap (λ (s : StopsView). has_stopped s lane) one.stopped ∙ goes) (same ∙ sym one.stopped) in
    appends-append before h.1 after (e ∷ []) (numbered lane (n + 1) is) one rest
