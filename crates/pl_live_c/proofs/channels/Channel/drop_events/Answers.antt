use Rattle.std.proofs.Common.{refl, ◌∙◌}
use Rattle.pl_live_c.proofs.channels.Channel.drop_events.Goals as goal

pub loop-init : goal.loop-init
loop-init c = record { rests = λ p s. s; consumed = refl; ends = refl }

pub loop-preserved : goal.loop-preserved
loop-preserved c =
    let i = c.loop.invariant in
    let n = c.next_event.ensures in
    record { rests = λ p s. n.rests p (i.rests p s); consumed = n.handed.0 ∙ i.consumed; ends = n.handed.1 ∙ i.ends }

pub returns-in_default-clause-rests : goal.returns-in_default-clause-rests
returns-in_default-clause-rests c = λ p s. c.next_event.ensures.rests p (c.loop.invariant.rests p s)
