use Rattle.std.proofs.Common.{ap, sym, subst, ◌∙◌}
use Rattle.pl_context.specs.WaitingViews.{WaitingView}
use Rattle.pl_words.specs.Admissions.{AdmittedView}
use Rattle.pl_outbox.specs.OutboxViews.{is_closed, waits_for, waits_in}
use Rattle.pl_outbox.proofs.OutboxLemmas.{closed_seat-closed, some-closed_seat}
use Rattle.pl_threads.specs.Running.{ExecutorView, IsFinished}
use Rattle.pl_threads.proofs.executors.Executor.into_finished.Goals as goal
use Rattle.pl_threads.proofs.executors.Executor.into_finished.Goals.{After-into_rest-waiting}

-- so has it ended
finished : (g : _) (c : After-into_rest-waiting g)
    → IsFinished g.N.OwnNodes.view_of (record { number = c.self.inside.core.number; nodes = c.self.inside.core.nodes; owner = c.self.inside.owner; takes = g.M.Mailbox.ends.takes_of c.self.inside.taker; waiting = c.into_rest-waiting.result.0; refusal = c.into_rest-waiting.result.1 })
finished g c =
    let closed = ap (λ (v : ExecutorView g.row.N.Denot). is_closed v.owner.phase) c.self.view_is ∙ c.requires.closed in
    record {
      closed = closed;
      count = c.self.invariant.5.count closed;
      drained = λ y.
          ap (λ (w : WaitingView AdmittedView). waits_in w y) c.into_rest-waiting.ensures.waiting ∙ ap (λ (v : ExecutorView g.row.N.Denot). waits_for v.outboxes y) c.self.view_is ∙ c.requires.drained y;
      why = λ refused.
          let some = c.self.invariant.0.why refused in
          let first = some-closed_seat c.self.inside.core.outboxes.outboxes some.way some.outbox some.is some.closed in
          (first.0, c.into_rest-waiting.ensures.seat ∙ first.1, closed_seat-closed c.self.inside.core.outboxes.outboxes first.0 first.1);
    }

pub invariant_of-result : goal.invariant_of-result
invariant_of-result g c = (
  c.self.invariant.0.stood,
  subst (λ (v : ExecutorView g.row.N.Denot). g.N.OwnNodes.are_over v.nodes) (sym c.self.view_is) c.requires.over,
  finished g (goal.at.invariant_of-result g c).After-into_rest-waiting,
)

pub returns : goal.returns
returns g c =
    let number = ap (λ (v : ExecutorView g.row.N.Denot). v.number) c.self.view_is in
    record {
      number = number;
      at = c.self.invariant.0.at ∙ number;
      name = ap (λ (v : ExecutorView g.row.N.Denot). v.owner.name) c.self.view_is;
      finished = finished g (goal.at.returns g c).After-into_rest-waiting;
    }
