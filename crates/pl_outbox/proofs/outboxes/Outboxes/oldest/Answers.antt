use Rattle.std.proofs.Common.{◌≢◌, ◌<◌, [], length, not, sym, subst, ◌∙◌, ap}
use Rattle.std.specs.Prelude.{IfSome}
use Rattle.std.specs.List.{find}
use Rattle.std.specs.Option.{option_map}
use Rattle.pl_context.specs.WaitingViews.{Entry, Holds}
use Rattle.pl_words.specs.Admissions.{AdmittedView}
use Rattle.pl_outbox.specs.OutboxViews.{OutboxesView, waits_for, was_tried}
use Rattle.pl_outbox.proofs.OutboxLemmas.{found-there, found-waits}
use Rattle.pl_outbox.proofs.outboxes.Outboxes.oldest.Goals as goal

pub returns : goal.returns
returns g c =
    let o : OutboxesView = record { outboxes = c.self.inside.outboxes.items; waiting = c.self.inside.waiting; tried = c.self.inside.tries.tried; ways = c.self.inside.ways.items } in record {
      there = subst (λ (v : OutboxesView). IfSome c.oldest.result (λ way. way < length v.outboxes)) c.self.view_is
          (found-there g.W.Named.world o c.self.invariant.0 (λ y. not (was_tried o y)) c.oldest.result
          (c.oldest.ensures (λ y. not (was_tried o y)) c.self.invariant.0.entries (λ way answer below said. said) c.self.invariant.0.holds));
      waits = subst (λ (v : OutboxesView). IfSome c.oldest.result (λ way. waits_for v way ≢ [])) c.self.view_is
          (found-waits c.self.inside.waiting c.self.invariant.0.entries c.self.invariant.0.holds (λ y. not (was_tried o y)) c.oldest.result
          (c.oldest.ensures (λ y. not (was_tried o y)) c.self.invariant.0.entries (λ way answer below said. said) c.self.invariant.0.holds));
      oldest = λ entries holds.
          c.oldest.ensures (λ y. not (was_tried o y)) entries (λ way answer below said. said) (subst (λ (v : OutboxesView). Holds v.waiting entries) (sym c.self.view_is) holds)
          ∙ ap (λ (v : OutboxesView). option_map (λ (e : Entry AdmittedView). e.target) (find (λ e. not (was_tried v e.target)) entries)) c.self.view_is;
    }
