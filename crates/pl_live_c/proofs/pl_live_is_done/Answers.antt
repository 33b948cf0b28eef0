use Rattle.std.proofs.Common.{◌≡◌, ℕ, suc, length, true, Some}
use Rattle.pl_head.specs.Transports.{memory_state}
use Rattle.pl_world.specs.Plans.{ChannelPlan}
use Rattle.pl_live.specs.LiveStand.{IsSound, accepted_in, parts_of}
use Rattle.pl_live_c.specs.declared.channels.Channel.{Channel}
use Rattle.pl_live_c.specs.Channels.{RestsAt}
use Rattle.pl_live_c.proofs.HeldCalls.{told}
use Rattle.pl_live_c.proofs.pl_live_is_done.Goals as goal

pub returns-clause-done : goal.returns-clause-done
returns-clause-done c d is_d =
    let Done : Channel → Type 0 = λ e. (p : ChannelPlan) (w : ℕ) → RestsAt p e.live → IsSound e.live → p.window ≡ Some (suc w) → e.live.ends ≡ true → e.live.consumed ≡ length (accepted_in memory_state (parts_of e.live)) → c.is_done-is_done.result ≡ true in
    told Done is_d c.in-Some.ensures.taken c.deref.ensures c.is_done-is_done.ensures.done
