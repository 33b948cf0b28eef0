use Rattle.std.proofs.Common.{refl, sym, ap, ◌∙◌, rules}
use Rattle.std.proofs.lemmas.Bool.{true≢false}
use Rattle.pl_context.specs.declared.added.Added.TheVariants.{Last}
use Rattle.pl_context.specs.Backlogs.{BacklogView}
use Rattle.pl_context.specs.Stops.{any_stopped}
use Rattle.pl_context.proofs.PortLemmas.{none-stopped}
use Rattle.pl_context.proofs.backlog.Backlog.add.Goals as goal

pub returns-then-is_ready : goal.returns-then-is_ready
returns-then-is_ready g c =
    let none = ap (λ (b : BacklogView g.row.A.Denot). any_stopped b.stopped) c.self.view_is ∙ c.is_ready.ensures.goes_on c.if-is_ready.true in
    let goes_on = none-stopped c.self.inside.stops c.args.envelope.lane none in
    rw (← c.self.view_is) record {
      answer = Last;
      items = search rules;
      stopped = refl;
      discarded = (λ is. cc, λ stopped. absurd (true≢false (sym stopped ∙ goes_on)));
      last = λ goes room. refl;
      room = search rules;
      back = refl;
    }
