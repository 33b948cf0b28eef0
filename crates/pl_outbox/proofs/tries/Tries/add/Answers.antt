use Rattle.std.proofs.Common.{◌<◌, ap, sym, subst, ◌∙◌}
use Rattle.std.specs.Prelude.{vec_capacity}
use Rattle.pl_outbox.specs.Tries.{TriesView, is_tried}
use Rattle.pl_outbox.proofs.TryLemmas.{tries-hold}
use Rattle.pl_outbox.proofs.tries.Tries.add.Goals as goal

pub invariant_of-self : goal.invariant_of-self
invariant_of-self c =
    let before : TriesView = record { tried = c.self.inside.ways.items; count = vec_capacity c.self.inside.ways } in
    tries-hold before c.self.invariant c.args.way (subst (λ (v : TriesView). c.args.way < v.count) (sym c.self.view_is) c.requires.there)
    (ap (λ (v : TriesView). is_tried v.tried c.args.way) c.self.view_is ∙ sym c.has.ensures ∙ c.if-not-has.true)
    (record { tried = c.push_reserved.new.self.items; count = vec_capacity c.push_reserved.new.self }) c.push_reserved.ensures.items c.push_reserved.ensures.capacity
