use Rattle.std.proofs.Common.{◌≡◌, ap, sym, subst, List, refl, ◌∙◌, Option}
use Rattle.std.specs.Option.{option_map}
use Rattle.pl_event.specs.declared.envelopes.Envelope.{Envelope}
use Rattle.pl_context.specs.WaitingViews.{Entry, Holds, Takes}
use Rattle.pl_net.specs.Nets.{StationView, IsTakenOut}
use Rattle.pl_net.proofs.station.Station.take_for.Goals as goal
use Rattle.pl_net.proofs.station.Station.take_for.Goals.{in-Some, in-None}

taken_out : (e e' : StationView) (target : _) (answer : Option (Envelope × Unit {0})) (result : Option Envelope) → answer ≡ option_map (λ x. (x, tt)) result
    → ((entries : List (Entry (Unit {0}))) → Holds e.waiting entries → Takes e.waiting entries target answer e'.waiting)
    → e'.waiting.added ≡ e.waiting.added → e'.queue ≡ e.queue → e'.room ≡ e.room → IsTakenOut e target result e'
taken_out e e' target answer result is takes added queue room = record {
  takes = λ entries h. subst (λ a. Takes e.waiting entries target a e'.waiting) is (takes entries h);
  queue = queue;
  room = room;
  added = added;
}

pub returns : goal.returns
returns c = subst (λ (v : StationView). IsTakenOut v c.args.target c.match-take.result (Rattle.pl_net.specs.contracts.station.Station.the_view record { queue = c.self.inside.queue; waiting = c.take.new.self })) c.self.view_is
    (elim c.match-take.branch [
      | in-Some w ↦ taken_out _ _ c.args.target c.take.result c.match-take.result (w.in-Some.is ∙ sym (ap (option_map (λ x. (x, tt))) w.result-is)) c.take.ensures.first c.take.ensures.added refl refl
      | in-None w ↦ taken_out _ _ c.args.target c.take.result c.match-take.result (w.in-None.is ∙ sym (ap (option_map (λ x. (x, tt))) w.result-is)) c.take.ensures.first c.take.ensures.added refl refl
    ])
