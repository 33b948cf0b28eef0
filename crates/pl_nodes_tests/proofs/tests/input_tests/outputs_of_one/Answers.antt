use Rattle.std.proofs.Common.{◌≡◌, [], ◌∷◌, sym, subst, arith}
use Rattle.std.proofs.lemmas.Result.{IfOk-weaker}
use Rattle.pl_event.specs.declared.envelopes.Lane.{Lane}
use Rattle.pl_context.specs.OutputsViews.{OutputsView}
use Rattle.pl_context.specs.Stops.{StopsView, HasPlaces, no_stops}
use Rattle.pl_context.proofs.Places.{places-start}
use Rattle.pl_nodes_tests.proofs.tests.input_tests.outputs_of_one.Goals as goal

pub returns : goal.returns
returns c =
    IfOk-weaker c.new.result (λ (outputs : OutputsView). outputs.stopped ≡ no_stops 1) (λ outputs. (lane : Lane) → HasPlaces outputs.stopped (lane ∷ []))
    (λ outputs here lane. subst (λ (s : StopsView). HasPlaces s (lane ∷ [])) (sym here) (places-start 1 (lane ∷ []) (omega arith)))
    c.new.ensures.places
