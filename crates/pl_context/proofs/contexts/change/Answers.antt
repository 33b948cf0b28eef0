use Rattle.std.proofs.Common.{refl}
use Rattle.pl_context.proofs.contexts.change.Goals as goal

pub returns-clause-changes : goal.returns-clause-changes
returns-clause-changes g c = λ n.
    let h = c.change.ensures in
    let down = h.down n in
    (down.0, down.1, (c.in-Event.event, c.change.new.event, c.in-Event.is, refl, record { up = h.up n; down = down.2; stays_open = h.open n; stands = h.stands n }))
