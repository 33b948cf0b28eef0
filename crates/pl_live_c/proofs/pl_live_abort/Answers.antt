use Rattle.pl_live_c.specs.declared.channels.Channel.{Channel}
use Rattle.pl_live_c.specs.Channels.{RestsAt}
use Rattle.pl_live_c.proofs.HeldCalls.{carried}
use Rattle.pl_live_c.proofs.pl_live_abort.Goals as goal

pub returns-clause-rests : goal.returns-clause-rests
returns-clause-rests c _ _ is_c is_d p =
    let Rests : Channel → Type 0 = λ e. RestsAt p e.live in
    carried Rests Rests is_c is_d c.in-Some.ensures.taken c.deref_mut.ensures.value c.of.ensures (λ rests. c.abort.ensures.rests p rests.stands)
