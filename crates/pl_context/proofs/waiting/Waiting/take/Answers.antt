use Rattle.std.proofs.Common.{List, length, set, refl, sym, subst, ap, ◌∙◌, arith}
use Rattle.std.proofs.lemmas.List.{set-get_or, nil_from_length}
use Rattle.std.proofs.lemmas.Option.{slice_get_past, slice_get_read}
use Rattle.std.specs.Option.{option_map}
use Rattle.pl_event.specs.declared.envelopes.Envelope.{Envelope}
use Rattle.pl_context.specs.declared.waiting.Stamp.{Stamp}
use Rattle.pl_context.specs.Backlogs.{BacklogView}
use Rattle.pl_context.specs.WaitingViews.{WaitingView, Holds}
use Rattle.pl_context.proofs.WaitingCalls.{none-past, none-waits, takes-nothing, takes-first}
use Rattle.pl_context.proofs.WaitingFronts.{front-noted, fronts-set}
use Rattle.pl_context.proofs.waiting.Waiting.take.Goals as goal

pub returns-in_err-backlog-clause-first : goal.returns-in_err-backlog-clause-first
returns-in_err-backlog-clause-first g c = λ entries h.
    let held = subst (λ (w : WaitingView g.row.A.Denot). Holds w entries) (sym c.self.view_is) h in
    let past = slice_get_past c.self.inside.targets.items c.args.target c.in_err-backlog.ensures.item.3 in
    rw (← c.self.view_is)
    (rw c.from_residual.ensures (takes-nothing _ entries held c.args.target _ refl (none-past _ entries held c.args.target past)))

pub returns-in_err-envelope-clause-first : goal.returns-in_err-envelope-clause-first
returns-in_err-envelope-clause-first g c = λ entries h.
    let held = subst (λ (w : WaitingView g.row.A.Denot). Holds w entries) (sym c.self.view_is) h in
    let items = c.self.inside.targets.items in
    let found = c.in_ok-backlog.ensures.item in
    let at = slice_get_read items (length items) c.args.target c.in_ok-backlog.backlog.now refl found.3.0 found.1 in
    let none = c.in_err-envelope.ensures.none in
    let kept = ap (λ (b : BacklogView (Stamp g.row.A.Denot)). set items c.args.target b) (none.1 ∙ found.1) ∙ set-get_or items c.args.target c.in_ok-backlog.backlog.now in
    rw (← c.self.view_is)
    (rw c.from_residual-in_err-envelope.ensures
    (takes-nothing _ entries held c.args.target _
    (ap (λ (l : List (BacklogView (Stamp g.row.A.Denot))). record { targets = l; added = c.self.inside.added; taken = c.self.inside.taken }) kept)
    (none-waits _ entries held c.args.target c.in_ok-backlog.backlog.now at (nil_from_length c.in_ok-backlog.backlog.now.items (omega (arith, none.0))))))

pub returns-clause-first : goal.returns-clause-first
returns-clause-first g c = λ entries h.
    let held = subst (λ (w : WaitingView g.row.A.Denot). Holds w entries) (sym c.self.view_is) h in
    let items = c.self.inside.targets.items in
    let found = c.in_ok-backlog.ensures.item in
    let at = slice_get_read items (length items) c.args.target c.in_ok-backlog.backlog.now refl found.3.0 found.1 in
    rw (← c.self.view_is)
    (takes-first _ entries held c.args.target _ c.in_ok-backlog.backlog.now c.take_at.new.self at c.in_ok-envelope.envelope c.in_ok-envelope.field-0-1
    c.in_ok-envelope.ensures.at c.in_ok-envelope.ensures.taken c.take_at.ensures.stopped c.in_ok-envelope.ensures.room refl refl refl)

pub set-requires-clause-there : goal.set-requires-clause-there
set-requires-clause-there g c = omega (arith, c.in_ok-backlog.ensures.item.3.0, c.self.invariant.places)

pub set-requires-clause-was : goal.set-requires-clause-was
set-requires-clause-was g c =
    let items = c.self.inside.targets.items in
    let found = c.in_ok-backlog.ensures.item in
    let at = slice_get_read items (length items) c.args.target c.in_ok-backlog.backlog.now refl found.3.0 found.1 in
    front-noted _ _ c.self.invariant c.args.target c.in_ok-backlog.backlog.now at
    ∙ ap (option_map (λ (x : Envelope × Stamp g.row.A.Denot). x.1.age)) c.in_ok-envelope.ensures.at

pub invariant_of-self-2 : goal.invariant_of-self-2
invariant_of-self-2 g c =
    fronts-set _ _ _ c.args.target c.take_at.new.self _ c.in_ok-backlog.ensures.item.3.0 c.self.invariant c.front_age.ensures c.set.ensures.ages c.set.ensures.places
