use Rattle.std.proofs.Common.{arith}
use Rattle.pl_context.proofs.ListEdits.{at-taken, gap-after}
use Rattle.pl_context.proofs.backlog.Backlog.take_at.Goals as goal

pub returns-clause-at : goal.returns-clause-at
returns-clause-at g c =
    rw (← c.self.view_is)
    (at-taken c.self.inside.entries.items c.args.index c.remove.result c.remove.ensures.value (λ some. omega (arith, c.remove.ensures.variant.0 some, c.self.inside.entries.ok.0)))

pub returns-clause-taken : goal.returns-clause-taken
returns-clause-taken g c = rw (← c.self.view_is) c.remove.ensures.items

pub returns-clause-gap : goal.returns-clause-gap
returns-clause-gap g c =
    rw (← c.self.view_is)
    (gap-after c.self.inside.entries.items c.remove.new.self.items c.args.index c.remove.result c.remove.ensures.value c.remove.ensures.items (λ some. omega (arith, c.remove.ensures.variant.0 some, c.self.inside.entries.ok.0)))
