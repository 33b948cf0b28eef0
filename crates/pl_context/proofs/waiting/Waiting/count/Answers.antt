use Rattle.std.proofs.Common.{List, length, refl, sym, subst, ap, ◌∙◌}
use Rattle.std.specs.List.{slice_get}
use Rattle.std.proofs.lemmas.Option.{slice_get_past, slice_get_read}
use Rattle.pl_context.specs.declared.waiting.Stamp.{Stamp}
use Rattle.pl_context.specs.Backlogs.{BacklogView}
use Rattle.pl_context.specs.WaitingViews.{WaitingView, Holds}
use Rattle.pl_context.proofs.WaitingCalls.{count-past, count-here}
use Rattle.pl_context.proofs.waiting.Waiting.count.Goals as goal

pub returns-in-None : goal.returns-in-None
returns-in-None g c = λ entries h.
    let past = slice_get_past c.deref.result.now c.args.target c.in-None.ensures.lookup.3 in
    count-past _ entries (subst (λ (w : WaitingView g.row.A.Denot). Holds w entries) (sym c.self.view_is) h) c.args.target
    (ap (λ (l : List (BacklogView (Stamp g.row.A.Denot))). slice_get l c.args.target) (sym c.deref.ensures.value) ∙ past)

pub returns-in-Some : goal.returns-in-Some
returns-in-Some g c = λ entries h.
    let at = slice_get_read c.deref.result.now (length c.deref.result.now) c.args.target c.in-Some.backlog.now refl c.in-Some.ensures.lookup.3.0 c.in-Some.ensures.lookup.1 in
    c.len.ensures
    ∙ count-here _ entries (subst (λ (w : WaitingView g.row.A.Denot). Holds w entries) (sym c.self.view_is) h) c.args.target c.in-Some.backlog.now
    (ap (λ (l : List (BacklogView (Stamp g.row.A.Denot))). slice_get l c.args.target) (sym c.deref.ensures.value) ∙ at)
