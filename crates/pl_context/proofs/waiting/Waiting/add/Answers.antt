use Rattle.std.proofs.Common.{◌≡◌, ◌+◌, ◌<◌, length, set, refl, sym, subst, ap, ◌∙◌, rules}
use Rattle.std.proofs.lemmas.Option.{slice_get_read}
use Rattle.pl_context.specs.WaitingViews.{WaitingView}
use Rattle.pl_context.proofs.WaitingCalls.{waiting-adds}
use Rattle.pl_context.proofs.WaitingFronts.{front_age-more, fronts-set, fronts-same}
use Rattle.pl_context.proofs.waiting.Waiting.add.Goals as goal

pub invariant_of-self : goal.invariant_of-self
invariant_of-self g c =
    let there = subst (λ (w : WaitingView g.row.A.Denot). c.args.target < length w.targets) (sym c.self.view_is) c.requires.there in
    fronts-set _ _ _ c.args.target c.add-discarded.new.self _ there c.self.invariant c.front_age.ensures c.set.ensures.ages c.set.ensures.places

pub invariant_of-self-else-is_first : goal.invariant_of-self-else-is_first
invariant_of-self-else-is_first g c =
    let there = subst (λ (w : WaitingView g.row.A.Denot). c.args.target < length w.targets) (sym c.self.view_is) c.requires.there in
    let at = slice_get_read c.self.inside.targets.items (length c.self.inside.targets.items) c.args.target c.index_mut-backlog.result.now refl there c.index_mut-backlog.ensures.value in
    fronts-same _ _ c.args.target c.index_mut-backlog.result.now c.add-discarded.new.self at c.self.invariant
    (front_age-more c.index_mut-backlog.result.now c.add-discarded.new.self _ (sym c.if-is_first.false ∙ c.is_empty-is_first.ensures) c.add-discarded.ensures.items)

pub returns : goal.returns
returns g c =
    let W = WaitingView g.row.A.Denot in
    let there = subst (λ (w : W). c.args.target < length w.targets) (sym c.self.view_is) c.requires.there in
    let at = slice_get_read c.self.inside.targets.items (length c.self.inside.targets.items) c.args.target c.index_mut-backlog.result.now refl there c.index_mut-backlog.ensures.value in
    let written : c.if-is_first.self.targets ≡ set c.self.inside.targets.items c.args.target c.add-discarded.new.self =
    elim c.if-is_first.branch [
      | goal.then-is_first w ↦ ap (λ (v : W). v.targets) w.self-is
      | goal.else-is_first w ↦ ap (λ (v : W). v.targets) w.self-is
    ] in
    let added : c.if-is_first.self.added ≡ c.self.inside.added + 1 =
    elim c.if-is_first.branch [
      | goal.then-is_first w ↦ ap (λ (v : W). v.added) w.self-is
      | goal.else-is_first w ↦ ap (λ (v : W). v.added) w.self-is
    ] in
    rw (← c.self.view_is)
    (waiting-adds _ _ c.args.target c.args.envelope c.args.token _ c.index_mut-backlog.result.now c.add-discarded.new.self c.add-discarded.result at written added c.add-discarded.ensures
    (search rules))
