use Rattle.std.proofs.Common.{List, length, refl, sym, subst, ap, ◌∙◌}
use Rattle.std.specs.List.{slice_get}
use Rattle.std.specs.Option.{option_map}
use Rattle.std.proofs.lemmas.Option.{slice_get_past, slice_get_read}
use Rattle.pl_event.specs.declared.envelopes.Envelope.{Envelope}
use Rattle.pl_context.specs.declared.waiting.Stamp.{Stamp}
use Rattle.pl_context.specs.Backlogs.{BacklogView}
use Rattle.pl_context.specs.WaitingViews.{WaitingView, Holds}
use Rattle.pl_context.proofs.WaitingCalls.{at-past, at-here}
use Rattle.pl_context.proofs.waiting.Waiting.get.Goals as goal

pub returns-in_err-backlog : goal.returns-in_err-backlog
returns-in_err-backlog g c = rw c.from_residual.ensures (λ entries h.
    let past = slice_get_past c.deref.result.now c.args.target c.in_err-backlog.ensures.lookup.3 in
    at-past _ entries (subst (λ (w : WaitingView g.row.A.Denot). Holds w entries) (sym c.self.view_is) h) c.args.target c.args.index
    (ap (λ (l : List (BacklogView (Stamp g.row.A.Denot))). slice_get l c.args.target) (sym c.deref.ensures.value) ∙ past))

pub returns-in_err-entry : goal.returns-in_err-entry
returns-in_err-entry g c = rw c.from_residual-in_err-entry.ensures (λ entries h.
    let at = slice_get_read c.deref.result.now (length c.deref.result.now) c.args.target c.in_ok-backlog.backlog.now refl c.in_ok-backlog.ensures.lookup.3.0 c.in_ok-backlog.ensures.lookup.1 in
    ap (option_map (λ (x : Envelope × Stamp g.row.A.Denot). x.0)) c.in_err-entry.ensures
    ∙ at-here _ entries (subst (λ (w : WaitingView g.row.A.Denot). Holds w entries) (sym c.self.view_is) h) c.args.target c.args.index c.in_ok-backlog.backlog.now
    (ap (λ (l : List (BacklogView (Stamp g.row.A.Denot))). slice_get l c.args.target) (sym c.deref.ensures.value) ∙ at))

pub returns : goal.returns
returns g c = λ entries h.
    let at = slice_get_read c.deref.result.now (length c.deref.result.now) c.args.target c.in_ok-backlog.backlog.now refl c.in_ok-backlog.ensures.lookup.3.0 c.in_ok-backlog.ensures.lookup.1 in
    ap (option_map (λ (x : Envelope × Stamp g.row.A.Denot). x.0)) c.in_ok-entry.ensures
    ∙ at-here _ entries (subst (λ (w : WaitingView g.row.A.Denot). Holds w entries) (sym c.self.view_is) h) c.args.target c.args.index c.in_ok-backlog.backlog.now
    (ap (λ (l : List (BacklogView (Stamp g.row.A.Denot))). slice_get l c.args.target) (sym c.deref.ensures.value) ∙ at)
