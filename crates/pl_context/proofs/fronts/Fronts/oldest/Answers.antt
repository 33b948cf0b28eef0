use Rattle.std.proofs.Common.{ℕ, refl, sym, ap, ◌∙◌}
use Rattle.std.specs.List.{find}
use Rattle.pl_context.specs.Fronts.{FrontsView}
use Rattle.pl_context.proofs.FrontLemmas.{All-targets, find-next, keys-past}
use Rattle.pl_context.proofs.fronts.Fronts.oldest.Goals as goal

pub loop-target-init : goal.loop-target-init
loop-target-init g c = λ opens answers. refl

pub is_open-requires : goal.is_open-requires
is_open-requires g c =
    let is = c.deref-target-items.ensures.value ∙ ap (λ (f : FrontsView). f.ages) c.self.view_is in
    All-targets _ _ is c.loop-target.target-index c.loop-target-test.true (λ (t : ℕ). goal.F-pre g c.args.is_open t) c.requires

pub loop-target-preserved : goal.loop-target-preserved
loop-target-preserved g c = λ opens answers.
    let is = c.deref-target-items.ensures.value ∙ ap (λ (f : FrontsView). f.ages) c.self.view_is in
    c.loop-target.invariant opens answers
    ∙ find-next _ _ is c.loop-target.target-index c.loop-target-test.true opens (goal.F-post g c.args.is_open) answers _ _ c.is_open.ensures c.if-is_open.false

pub returns-then-is_open-clause-first : goal.returns-then-is_open-clause-first
returns-then-is_open-clause-first g c = λ opens answers.
    let is = c.deref-target-items.ensures.value ∙ ap (λ (f : FrontsView). f.ages) c.self.view_is in
    sym (c.loop-target.invariant opens answers
    ∙ find-next _ _ is c.loop-target.target-index c.loop-target-test.true opens (goal.F-post g c.args.is_open) answers _ _ c.is_open.ensures c.if-is_open.true)

pub returns-clause-first : goal.returns-clause-first
returns-clause-first g c = λ opens answers.
    let is = c.deref-target-items.ensures.value ∙ ap (λ (f : FrontsView). f.ages) c.self.view_is in
    sym (c.loop-target.invariant opens answers ∙ ap (find opens) (keys-past _ _ is c.loop-target.target-index c.loop-target-test.false))
