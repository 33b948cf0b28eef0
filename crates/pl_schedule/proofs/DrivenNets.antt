-- A net that is driven on, move by move.
use Rattle.std.proofs.Common.{◌≡◌, ◌∙◌, ℕ, Bool, true, false, List, [], ◌∷◌, ◌++◌, refl, sym, ap, subst}
use Rattle.std.specs.List.{list_all}
use Rattle.std.proofs.lemmas.List.Folds.{list_all-append}
use Rattle.pl_event.specs.declared.events.Event.{Event}
use Rattle.pl_event.specs.Meaning.{Meaning}
use Rattle.pl_context.specs.WaitingViews.{Entry}
use Rattle.pl_head.specs.Transports.{TransportState}
use Rattle.pl_net.specs.Nets.{StationsView}
use Rattle.pl_net.specs.Stations.{stations_view, IsUnmoved}
use Rattle.pl_net.specs.declared.stations.Stations.{Stations}
use Rattle.pl_world.specs.declared.moves.Move.{Move}
use Rattle.pl_world.specs.Plans.{Plan}
use Rattle.pl_replay.specs.MoveModel.{is_there}
use Rattle.pl_replay.specs.Moves.{LeadsTo, Reaches}
use Rattle.pl_replay.specs.NetStand.{NetStands}
use Rattle.pl_replay.specs.declared.channels.Channels.{Channels}
use Rattle.pl_replay.proofs.Reached.{reaches-push}
use Rattle.pl_schedule.specs.Driven.{IsDriven}

-- where nothing has moved all is seen as before
same-view : {N : Type 0} (c c' : Stations N) (b b' : ℕ → List (Entry (Unit {0}))) → IsUnmoved c c' → b' ≡ b → stations_view c' b' ≡ stations_view c b
same-view c c' b b' unmoved same = λ i. record { nodes = unmoved.nodes i; stations = unmoved.stations i; backlogs = same i; work = unmoved.work i }

module _ {S T : Type 0} (meaning : S → Meaning) (stands_after : S → List Event → Type 0) (is_spent : S → Bool) (state : T → TransportState) (may_refuse : T → ℕ → Type 0) where
  pub driven-here : (net : Stations (Channels S T)) (moves : List Move) → IsDriven meaning stands_after is_spent state may_refuse net moves net moves
  driven-here net moves = record { leads = λ plan backlogs start n there reached. (there, (backlogs, n, reached)) }

  pub driven-on : (a b c : Stations (Channels S T)) (ms ns os : List Move) → IsDriven meaning stands_after is_spent state may_refuse a ms b ns → IsDriven meaning stands_after is_spent state may_refuse b ns c os
      → IsDriven meaning stands_after is_spent state may_refuse a ms c os
  driven-on a b c ms ns os first next = record {
    leads = λ plan backlogs start n there reached.
        let m = first.leads plan backlogs start n there reached in
        next.leads plan m.1.0 start m.1.1 m.0 m.1.2;
  }

  module _ (net net' : Stations (Channels S T)) (moves : List Move) (step : Move) (is_made : Bool)
      (made : (plan : Plan) (backlogs : ℕ → List (Entry (Unit {0}))) → NetStands meaning stands_after state plan backlogs net
      → (after : ℕ → List (Entry (Unit {0}))) × NetStands meaning stands_after state plan after net' × LeadsTo meaning stands_after is_spent state may_refuse plan.capacity step (stations_view net backlogs) is_made (stations_view net' after)) where
    -- a move that was not enabled
    pub driven-not : is_made ≡ false → IsUnmoved net net' → IsDriven meaning stands_after is_spent state may_refuse net moves net' moves
    driven-not off unmoved = record {
      leads = λ plan backlogs start n there reached.
          let m = made plan backlogs n in
          let same = same-view net net' backlogs m.0 unmoved (m.2.rests off).backlogs in
          (there, (m.0, m.1, subst (λ (v : StationsView (Channels S T)). Reaches meaning stands_after is_spent state may_refuse plan.capacity moves start v) (sym same) reached));
    }

    -- one that was
    pub driven-more : ((plan : Plan) (backlogs : ℕ → List (Entry (Unit {0}))) → NetStands meaning stands_after state plan backlogs net → is_there plan step ≡ true)
        → IsDriven meaning stands_after is_spent state may_refuse net moves net' (moves ++ step ∷ [])
    driven-more on = record {
      leads = λ plan backlogs start n there reached.
          let m = made plan backlogs n in (
            list_all-append (is_there plan) moves (step ∷ []) ∙ rw (there, on plan backlogs n) refl,
            (m.0, m.1, reaches-push meaning stands_after is_spent state may_refuse plan.capacity moves start (stations_view net backlogs) step is_made (stations_view net' m.0) reached m.2),
          );
    }
