use Rattle.std.proofs.Common.{◌≡◌, ℕ, suc, length, true, false, Some}
use Rattle.pl_head.specs.Transports.{memory_state}
use Rattle.pl_world.specs.Plans.{ChannelPlan}
use Rattle.pl_live.specs.LiveStand.{IsSound, accepted_in, may_take, parts_of}
use Rattle.pl_live_c.specs.declared.channels.Channel.{Channel}
use Rattle.pl_live_c.specs.Channels.{RestsAt}
use Rattle.pl_live_c.proofs.HeldCalls.{told}
use Rattle.pl_live_c.proofs.pl_live_wants_input.Goals as goal

pub returns-clause-wanted : goal.returns-clause-wanted
returns-clause-wanted c d is_d =
    let Wanted : Channel → Type 0 = λ e. (p : ChannelPlan) (w : ℕ) → RestsAt p e.live → IsSound e.live → p.window ≡ Some (suc w) → e.live.ends ≡ false → may_take e.live ≡ true → e.live.consumed ≡ length (accepted_in memory_state (parts_of e.live)) → c.wants_input-wants_input.result ≡ true in
    told Wanted is_d c.in-Some.ensures.taken c.deref.ensures c.wants_input-wants_input.ensures.wanted
