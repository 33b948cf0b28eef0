use Rattle.std.proofs.Common.{[], ◌∷◌}
use Rattle.pl_event.specs.declared.elements.Element.TheVariants.{Chunk}
use Rattle.pl_channel.specs.Feeding.{fed_channel}
use Rattle.pl_live_c.specs.declared.channels.Channel.{Channel}
use Rattle.pl_live_c.specs.Channels.{RestsAt}
use Rattle.pl_live_c.proofs.HeldCalls.{carried}
use Rattle.pl_live_c.proofs.pl_live_feed.Goals as goal

pub returns-in-Ok-clause-fed : goal.returns-in-Ok-clause-fed
returns-in-Ok-clause-fed c _ _ _ is_c is_d p =
    let Before : Channel → Type 0 = λ e. RestsAt p e.live in
    let After : Channel → Type 0 = λ e. RestsAt (fed_channel (Chunk c.args.bytes.now ∷ []) p) e.live in
    carried Before After is_c is_d c.in-Some.ensures.taken c.deref_mut.ensures.value c.of.ensures (c.in-Ok.ensures.fed p)
