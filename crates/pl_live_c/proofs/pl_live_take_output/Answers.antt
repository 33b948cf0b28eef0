use Rattle.std.proofs.Common.{◌≡◌, ℕ, suc, ◌<◌, List, [], ◌∷◌, ◌++◌, length, take, min, refl, arith, Some}
use Rattle.pl_head.specs.Writes.{out}
use Rattle.pl_world.specs.Plans.{ChannelPlan}
use Rattle.pl_world.specs.Reports.{head_of}
use Rattle.pl_live.specs.LiveStand.{IsSound, consumed_of}
use Rattle.pl_live_c.specs.declared.channels.Channel.{Channel}
use Rattle.pl_live_c.specs.Channels.{RestsAt, pending}
use Rattle.pl_live_c.proofs.HeldCalls.{carried, told}
use Rattle.pl_live_c.proofs.pl_live_take_output.Goals as goal

-- where none of them were taken, though there was room, there are none
none_taken : (xs : List ℕ) (room count : ℕ) → count ≡ min (length xs) room → count ≡ 0 → 0 < room → xs ≡ []
none_taken [] room count is none some = refl
none_taken (x ∷ xs) room count is none some = absurd (omega arith)

pub returns-clause-rests : goal.returns-clause-rests
returns-clause-rests c _ _ is_c is_d p =
    let Rests : Channel → Type 0 = λ e. RestsAt p e.live in
    carried Rests Rests is_c is_d c.in-Some.ensures.taken c.deref_mut.ensures.value c.of.ensures (c.take_output-count.ensures.rests p)

pub returns-clause-next : goal.returns-clause-next
returns-clause-next c d is_d =
    let Next : Channel → Type 0 = λ e. (p : ChannelPlan) → RestsAt p e.live → (rest : List ℕ) × (take (consumed_of e.live) (out (head_of p)) ++ pending e.live ++ rest ≡ out (head_of p)) in
    told Next is_d c.in-Some.ensures.taken c.deref_mut.ensures.value c.take_output-count.ensures.next

pub returns-clause-all : goal.returns-clause-all
returns-clause-all c none some d is_d =
    let AllSent : Channel → Type 0 = λ e. (p : ChannelPlan) (w : ℕ) → RestsAt p e.live → IsSound e.live → p.window ≡ Some (suc w) → consumed_of e.live ≡ length (out (head_of p)) in
    told AllSent is_d c.in-Some.ensures.taken c.deref_mut.ensures.value
    (λ p w rests sound takes. c.take_output-count.ensures.all p w rests sound takes (none_taken _ _ _ c.take_output-count.ensures.count none some))
