-- The nodes of an executor that are its shares of channels before any move: by channel, each part is its share, and so are the
-- seats.
use Rattle.std.proofs.Common.{◌≡◌, ℕ, ◌+◌, ◌<◌, ◌≤◌, Bool, true, false, List, length, map, get_or, slice_get, Option, Some, None, refl, ap, sym, ◌∙◌, subst, arith, inl, inr}
use Rattle.std.specs.Prelude.{◌==◌, Contains, is_some}
use Rattle.std.proofs.lemmas.Bool.{cases_lt, ne_eqb}
use Rattle.std.proofs.lemmas.List.{get_or_past, length-replicate}
use Rattle.std.proofs.lemmas.List.Elements.{Contains-get_or}
use Rattle.std.proofs.lemmas.Option.{same_Some, slice_get_within}
use Rattle.pl_event.specs.declared.events.Event.{Event}
use Rattle.pl_event.specs.Meaning.{Meaning}
use Rattle.pl_head.specs.HeadStand.{HeadView}
use Rattle.pl_head.specs.Transports.{TransportState}
use Rattle.pl_part.specs.Paths.{context_at}
use Rattle.pl_part.specs.Parts.{ChannelPartView, head_hop}
use Rattle.pl_part.specs.Shares.{IsShare, IsShareOf, executor_of, only_if}
use Rattle.pl_part.proofs.ShareLemmas.{share-is-of}
use Rattle.pl_channel.specs.WholeParts.{AreWholeParts, IsWhole}
use Rattle.pl_channel.specs.PlanStand.{PartsKeepPlan}
use Rattle.pl_channel.proofs.WholeParts.{recorded-at, starts-keep}
use Rattle.pl_world.specs.declared.session.Recorded.{Recorded}
use Rattle.pl_world.specs.Plans.{ChannelPlan, Plan, channel_planned, planned_head_hop}
use Rattle.pl_exec.specs.declared.nodes.ExecutorNodes.{ExecutorNodes}
use Rattle.pl_exec.specs.ChannelRows.{row_position}
use Rattle.pl_exec.specs.ExecutorNodes.{AreInOrder, channel_parts, part_elsewhere}
use Rattle.pl_exec.specs.SessionWords.{ChannelNames, SeatsView}
use Rattle.pl_exec.specs.Sharing.{AreDealt, AreSharesOf, HasShare, HasShares, channels_on}
use Rattle.pl_exec.specs.Telling.{channel_seats}
use Rattle.pl_exec.proofs.ChannelRows.{not-on}
use Rattle.pl_exec.proofs.PartsHere.{at-position, is-elsewhere, no-head, part-at, parts-count, replicated, seat-at, seats-count}

-- ---- the share of an executor that has no node of a channel

none-of : {A : Type 0} (b : Bool) (o : Option A) → b ≡ false → None ≡ only_if b o
none-of true o off = cc
none-of false o off = refl

none-either : {A : Type 0} (b : Bool) (o : Option A) → o ≡ None → None ≡ only_if b o
none-either true o none = sym none
none-either false o none = refl

module _ {S T : Type 0} (state : T → TransportState) (c : ℕ) (q : ChannelPlan) (transport : T) (whole : ChannelPartView S T) (is : IsWhole state c q transport whole) (head_at : head_hop whole ≡ planned_head_hop q) (x : ℕ) (none : Contains whole.path.executors x → ⊥) where
  not-here : (hop : ℕ) → hop < length whole.path.executors → (executor_of whole.path hop == x) ≡ false
  not-here hop within = ne_eqb (executor_of whole.path hop) x (λ e. none (subst (λ (y : ℕ). Contains whole.path.executors y) e (Contains-get_or whole.path.executors hop 0 within)))

  hops : length whole.path.executors ≡ head_hop whole + 1
  hops = ap (λ (l : List ℕ). length l) is.executors_are ∙ is.hops ∙ ap (λ (n : ℕ). n + 1) (sym head_at)

  context-none : (hop : ℕ) → None ≡ only_if (executor_of whole.path hop == x) (context_at whole.path hop)
  context-none hop = elim (cases_lt hop (head_hop whole)) [
    | inl within ↦ none-of (executor_of whole.path hop == x) (context_at whole.path hop) (not-here hop (let count = hops in omega (arith, within, count)))
    | inr past ↦ none-either (executor_of whole.path hop == x) (context_at whole.path hop) (get_or_past whole.path.contexts hop None past)
  ]

  pub elsewhere-share : IsShare x whole (part_elsewhere c q)
  elsewhere-share = record {
    path = record {
      channel = sym is.channel_is;
      executors = sym is.executors_are;
      tail_hop = sym is.tail_hop_is;
      turn = sym is.turn_is;
      slots = length-replicate (planned_head_hop q) None ∙ sym head_at;
      contexts = λ hop. replicated (planned_head_hop q) hop None ∙ context-none hop;
      tail = none-of (executor_of whole.path whole.path.tail_hop == x) whole.path.tail
          (not-here whole.path.tail_hop (let count = hops in let at = is.tail_hop_is in let last = head_at in omega (arith, count, at, last)));
    };
    head = none-of (executor_of whole.path (head_hop whole) == x) whole.head (not-here (head_hop whole) (let count = hops in omega (arith, count)));
  }

-- ---- all channels

module _ {S T : Type 0} (meaning : S → Meaning) (stands_after : S → List Event → Type 0) (state : T → TransportState) (plan : Plan) (rs : List (Recorded S T)) (planned : plan.channels ≡ map (channel_planned meaning state) rs)
    (wholes : List (ChannelPartView S T)) (placed : AreWholeParts meaning stands_after state rs wholes) (x : ℕ) (words : List ChannelNames) (heads : List (Option SeatsView)) (same : length heads ≡ length wholes)
    (nodes : ExecutorNodes S T) (has : HasShares meaning stands_after state wholes words heads x (channels_on wholes x) nodes) where
  keeps : PartsKeepPlan state plan wholes
  keeps = starts-keep meaning stands_after state plan rs planned wholes placed

  pub here-in-order : AreInOrder (length plan.channels) nodes
  here-in-order = subst (λ (n : ℕ). AreInOrder n nodes) keeps.count has.in_order

  -- what it has at a position is of the channel there
  of-channel : (k c : ℕ) (share : ChannelPartView S T) (slot : Option SeatsView) → get_or nodes.here.items k 0 ≡ c → slice_get nodes.parts.items k ≡ Some share → slice_get nodes.seats.items k ≡ Some slot → HasShare meaning stands_after state wholes words heads x c share slot
  of-channel k c share slot is at seat =
      subst (λ (n : ℕ). HasShare meaning stands_after state wholes words heads x n share slot) (ap (λ (l : List ℕ). get_or l k 0) (sym has.here) ∙ is) (has.each k share slot at seat)

  pub shares-by-channel : AreSharesOf meaning stands_after state wholes x (channel_parts plan nodes)
  shares-by-channel = record {
    count = parts-count plan nodes here-in-order ∙ sym keeps.count;
    each = λ c whole share at there. elim (cases_lt (row_position nodes.here.items c) (length nodes.here.items)) [
      | inl within ↦
          let a = at-position plan nodes here-in-order c within in
          let h = of-channel a.position c a.part a.slot a.is a.part_at a.slot_at in
          let share-is : a.part ≡ share = same_Some a.part share (sym (ap (λ (n : ℕ). slice_get (channel_parts plan nodes) n) (sym a.is) ∙ part-at plan nodes here-in-order a.position a.part a.part_at) ∙ there) in
          let whole-is : h.whole ≡ whole = same_Some h.whole whole (sym h.whole_at ∙ at) in
          subst (λ (z : ChannelPartView S T × ChannelPartView S T). IsShareOf meaning stands_after state (λ e. e == x) z.0 z.1) (λ i. (whole-is i, share-is i)) h.is
      | inr past ↦ share-is-of (λ (e : ℕ). e == x) whole share (off-row c whole share at there past) meaning stands_after state
    ];
  }
    where
      off-row : (c : ℕ) (whole share : ChannelPartView S T) → slice_get wholes c ≡ Some whole → slice_get (channel_parts plan nodes) c ≡ Some share → length nodes.here.items ≤ row_position nodes.here.items c → IsShare x whole share
      off-row c whole share at there past =
          let count = keeps.count in
          let within = slice_get_within wholes c whole at in
          let e = is-elsewhere plan nodes here-in-order c (omega (arith, within, count)) past in
          let r = recorded-at meaning stands_after state plan rs planned wholes placed c whole at in
          let is : channel_planned meaning state r.0 ≡ e.planned = same_Some (channel_planned meaning state r.0) e.planned (sym r.2 ∙ e.planned_at) in
          subst (IsShare x whole) (ap (λ (q : ChannelPlan). part_elsewhere c q) is ∙ sym (e.part share there))
          (elsewhere-share state c (channel_planned meaning state r.0) r.0.transport whole r.3.whole (keeps.each c (channel_planned meaning state r.0) whole r.2 at).head_at x
          (not-on wholes x c whole at (subst (λ (row : List ℕ). length row ≤ row_position row c) has.here past)))

  pub dealt-by-channel : AreDealt heads (channel_parts plan nodes) (channel_seats plan nodes)
  dealt-by-channel = record {
    count = seats-count plan nodes here-in-order ∙ sym (same ∙ keeps.count);
    each = λ c s p slot at there seat. elim (cases_lt (row_position nodes.here.items c) (length nodes.here.items)) [
      | inl within ↦
          let a = at-position plan nodes here-in-order c within in
          let h = of-channel a.position c a.part a.slot a.is a.part_at a.slot_at in
          let part-is : a.part ≡ p = same_Some a.part p (sym (ap (λ (n : ℕ). slice_get (channel_parts plan nodes) n) (sym a.is) ∙ part-at plan nodes here-in-order a.position a.part a.part_at) ∙ there) in
          let slot-is : a.slot ≡ slot = same_Some a.slot slot (sym (ap (λ (n : ℕ). slice_get (channel_seats plan nodes) n) (sym a.is) ∙ seat-at plan nodes here-in-order a.position a.slot a.slot_at) ∙ seat) in
          let own-is : h.own ≡ s = same_Some h.own s (sym h.own_at ∙ at) in
          sym slot-is ∙ h.seats ∙ (λ i. only_if (is_some (part-is i).head) (own-is i))
      | inr past ↦
          let count = keeps.count in
          let within = slice_get_within heads c s at in
          let e = is-elsewhere plan nodes here-in-order c (omega (arith, within, same, count)) past in
          e.slot slot seat ∙ none-of (is_some p.head) s (ap (λ (o : Option (HeadView T)). is_some o) (no-head c e.planned p (e.part p there)))
    ];
  }
