use Rattle.std.proofs.Common.{refl, sym, subst, rules}
use Rattle.pl_context.specs.declared.standing.Took.{Took}
use Rattle.pl_context.specs.Stops.{StopsView, HasPlaces}
use Rattle.pl_context.specs.ContextViews.{ContextView, open_lanes}
use Rattle.pl_context.specs.Contexts.{RunsOut, TakesEvent}
use Rattle.pl_context.proofs.contexts.Context.take_event.Goals as goal

pub run_out-requires : goal.run_out-requires
run_out-requires g c =
    let S : StopsView → Type 0 = λ s. HasPlaces s (open_lanes c.step.new.self) in
    let C : ContextView g.row.S.Denot → Type 0 = λ s. HasPlaces c.args.outputs.now.stopped (open_lanes s) in
    subst S (sym c.in-Err-Memory.ensures.stopped) (subst C (sym c.in-Err-Memory.ensures.kept) c.requires.places)

pub returns-in-Err-Memory-clause-takes : goal.returns-in-Err-Memory-clause-takes
returns-in-Err-Memory-clause-takes g c =
    let out : RunsOut g.S.Stage.meaning g.S.Stage.stands_after g.S.Stage.is_spent c.args.self.now c.args.event c.args.outputs.now c.run_out.new.self c.run_out.new.outputs = search rules in
    subst (λ (a : Took). TakesEvent g.S.Stage.meaning g.S.Stage.stands_after g.S.Stage.is_spent c.args.self.now c.args.event c.args.outputs.now a c.run_out.new.self c.run_out.new.outputs) (sym c.run_out.ensures.failed) (refl, out)
