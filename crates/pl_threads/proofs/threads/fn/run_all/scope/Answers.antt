use Rattle.std.proofs.lemmas.Result.{IfOk-at_ok, IfOk-weaker}
use Rattle.pl_threads.specs.Running.{EndsAs}
use Rattle.pl_threads.proofs.FirstTurns.{promised-zip, promised-every}
use Rattle.pl_threads.proofs.threads.fn.run_all.scope.Goals as goal

pub returns : goal.returns
returns g c =
    let handles = c.in_ok-handles.field-0.items in
    let executors = c.captures.executors.items in
    let promised = IfOk-at_ok _ c.in_ok-handles.was c.start_each-handles.ensures in
    record {
      ended = IfOk-weaker c.join_all.result _ _
          (λ all h. promised-zip (λ h. h.promise) (λ e. record { gate = c.captures.gate.now; number = e.0.number; turn = e.0.turns; owner = e.0.owner }) handles executors promised (λ t f. EndsAs g.N.OwnNodes.view_of t.number t.owner f) all.items h) c.join_all.ensures.ended;
      entered = IfOk-weaker c.join_all.result _ _
          (λ all h. promised-every (λ h. h.promise) (λ e. record { gate = c.captures.gate.now; number = e.0.number; turn = e.0.turns; owner = e.0.owner }) handles executors promised (λ t. g.G.Gate.was_entered t.gate t.number t.turn) h) c.join_all.ensures.entered;
    }
