use Rattle.std.proofs.Common.{◌≡◌, ◌<◌, ℕ, List, Some, length, set, slice_get, refl, sym, subst, ap, ◌∙◌}
use Rattle.std.specs.Option.{option_map}
use Rattle.std.proofs.lemmas.Option.{slice_get_read}
use Rattle.pl_outbox.specs.OutboxViews.{OutboxView, OutboxesView, IsOutboxes, sends_for}
use Rattle.pl_outbox.proofs.OfferSteps.{set-back}
use Rattle.pl_outbox.proofs.outboxes.Outboxes.is_full.Goals as goal

-- an outbox that is as it was stands in its place
same-set : (os : List OutboxView) (way : ℕ) (b b' : OutboxView) → slice_get os way ≡ Some b → b' ≡ b → os ≡ set os way b'
same-set os way b b' at same = sym (ap (λ (o : OutboxView). set os way o) same ∙ set-back os way b at)

pub invariant_of-self : goal.invariant_of-self
invariant_of-self g c =
    let os = c.self.inside.outboxes.items in
    let at = slice_get_read os (length os) c.args.way c.index_mut.result.now refl (subst (λ (v : OutboxesView). c.args.way < length v.outboxes) (sym c.self.view_is) c.requires.there) c.index_mut.ensures.value in
    let same = same-set os c.args.way c.index_mut.result.now c.is_full.new.self at c.is_full.ensures.same in (
      subst (λ (bs : List OutboxView). IsOutboxes g.W.Named.world (record { outboxes = bs; waiting = c.self.inside.waiting; tried = c.self.inside.tries.tried; ways = c.self.inside.ways.items })) same c.self.invariant.0,
      c.self.invariant.1 ∙ ap (λ (bs : List OutboxView). length bs) same,
    )

pub returns-clause-same : goal.returns-clause-same
returns-clause-same g c =
    let os = c.self.inside.outboxes.items in
    let at = slice_get_read os (length os) c.args.way c.index_mut.result.now refl (subst (λ (v : OutboxesView). c.args.way < length v.outboxes) (sym c.self.view_is) c.requires.there) c.index_mut.ensures.value in
    let same = same-set os c.args.way c.index_mut.result.now c.is_full.new.self at c.is_full.ensures.same in
    ap (λ (bs : List OutboxView). record { outboxes = bs; waiting = c.self.inside.waiting; tried = c.self.inside.tries.tried; ways = c.self.inside.ways.items }) (sym same) ∙ c.self.view_is

pub returns-clause-full : goal.returns-clause-full
returns-clause-full g c = λ is.
    let os = c.self.inside.outboxes.items in
    let at = slice_get_read os (length os) c.args.way c.index_mut.result.now refl (subst (λ (v : OutboxesView). c.args.way < length v.outboxes) (sym c.self.view_is) c.requires.there) c.index_mut.ensures.value in (
      c.index_mut.result.now.sends,
      ap (λ (v : OutboxesView). sends_for v c.args.way) (sym c.self.view_is) ∙ ap (option_map (λ (o : OutboxView). o.sends)) at,
      c.is_full.ensures.full is,
    )
