-- Whole parts: each is that of its recorded channel, has all its nodes and keeps its plan.
use Rattle.std.proofs.Common.{◌≡◌, ℕ, suc, ◌+◌, ◌<◌, ◌≤◌, ◌^◌, ◌-◌, true, false, List, [], ◌∷◌, ◌++◌, length, map, replicate, slice_get, Option, Some, refl, ap, ap₂, sym, ◌∙◌, subst, arith, length-append}
use Rattle.std.specs.Prelude.{is_some, All}
use Rattle.std.specs.List.{sum_by}
use Rattle.std.specs.Option.{option_map_or}
use Rattle.std.proofs.lemmas.List.{length-map, length-replicate}
use Rattle.std.proofs.lemmas.Option.{none-some, same_Some, slice_get_within}
use Rattle.std.proofs.lemmas.List.Sums.{sum_by-cons}
use Rattle.std.proofs.lemmas.Bool.{lt-ltb, both_ways}
use Rattle.pl_event.specs.declared.events.Event.{Event}
use Rattle.pl_event.specs.declared.outcomes.Cause.{Cause}
use Rattle.pl_event.specs.declared.outcomes.Cause.TheVariants.{Transport, Aborted, Refused}
use Rattle.pl_event.specs.Meaning.{Meaning}
use Rattle.pl_event.proofs.Lists.{All-from-at, at-index, map-at}
use Rattle.pl_context.specs.ContextViews.{ContextView}
use Rattle.pl_context.specs.TailViews.{TailView}
use Rattle.pl_head.specs.HeadStand.{HeadView, gone_of}
use Rattle.pl_head.specs.ReadSteps.{plan_steps}
use Rattle.pl_head.specs.Transports.{TransportState, new_state}
use Rattle.pl_head.specs.Writes.{flushed_writes}
use Rattle.pl_part.specs.Parts.{ChannelPartView, head_hop}
use Rattle.pl_part.proofs.PartCounts.{part-few}
use Rattle.pl_channel.specs.Lanes.{world_of}
use Rattle.pl_channel.specs.WholeParts.{IsWhole, IsNewHead, IsWholePart, AreWholeParts}
use Rattle.pl_channel.specs.PlanStand.{HeadKeepsPlan, PartKeepsPlan, PartsKeepPlan}
use Rattle.pl_channel.specs.Channels.{HasAllNodes, ChannelsStand, data_lanes_of}
use Rattle.pl_channel.specs.Ways.{ArePlaceable, HasExecutors}
use Rattle.pl_channel.proofs.LaneCounts.{length-data_lanes}
use Rattle.pl_world.specs.declared.session.Recorded.{Recorded}
use Rattle.pl_world.specs.declared.limits.TheConstants.{MAX_CHANNELS}
use Rattle.pl_world.specs.Plans.{ChannelPlan, Plan, channel_planned, read_plan, planned_head_hop}
use Rattle.pl_world.specs.PlanRules.{IsSmallPlan}
use Rattle.pl_world.specs.Reports.{accepted_by, failed_calls, head_of}

-- ---- lists

-- the sums of two lists that give the same place by place
sum-same : {A B : Type 0} (f : A → ℕ) (h : B → ℕ) (xs : List A) (ys : List B) → length xs ≡ length ys → ((i : ℕ) (x : A) (y : B) → slice_get xs i ≡ Some x → slice_get ys i ≡ Some y → f x ≡ h y) → sum_by f xs ≡ sum_by h ys
sum-same f h [] [] size each = refl
sum-same f h [] (y ∷ ys) size each = absurd (omega (arith, size))
sum-same f h (x ∷ xs) [] size each = absurd (omega (arith, size))
sum-same f h (x ∷ xs) (y ∷ ys) size each =
    sum_by-cons f x xs ∙ ap₂ (λ (a b : ℕ). a + b) (each 0 x y refl refl) (sum-same f h xs ys (omega (arith, size)) (λ i a b p q. each (suc i) a b p q)) ∙ sym (sum_by-cons h y ys)

-- ---- one part

module _ {S T : Type 0} (meaning : S → Meaning) (state : T → TransportState) (number : ℕ) (p : ChannelPlan) (transport : T) (part : ChannelPartView S T) (whole : IsWhole state number p transport part) where
  hops-are : head_hop part ≡ planned_head_hop p
  hops-are =
      sym (length-map part.path.contexts (λ (slot : Option (ContextView S)). is_some slot))
      ∙ ap length whole.filled
      ∙ length-append (replicate (length p.inbound) true) (false ∷ replicate (length p.outbound) true)
      ∙ (let k = length-replicate (length p.inbound) true in let m = length-replicate (length p.outbound) true in omega (arith, k, m))

  pub has-executors : HasExecutors part
  has-executors = record {
    hops = ap length whole.executors_are ∙ whole.hops ∙ ap (λ (n : ℕ). n + 1) (sym hops-are);
    turn = let t = whole.turned in let k = whole.tail_hop_is in let h = hops-are in omega (arith, t, k, h);
  }

  head-keeps : (h : HeadView T) → IsNewHead state number p transport h → (state transport).window ≡ p.window → (state transport).fail_at ≡ p.fail_at → HeadKeepsPlan state p h
  head-keeps h new window fail_at = record {
    reads = (0, false, new.reads);
    low = new.low;
    high = new.high;
    window = ap (λ (t : T). (state t).window) new.transport_is ∙ window;
    fail_at = ap (λ (t : T). (state t).fail_at) new.transport_is ∙ fail_at;
    calls = 0;
    counted = ap (λ (s : TransportState). s.calls) is;
    called = record {
      failed = λ e. absurd (none-some Transport (sym new.failure ∙ e));
      fails_there = λ at told some small. subst (λ (f : Option Cause). 0 - failed_calls f < at) (sym new.failure) some;
      most = let none = ap (λ (s : TransportState). length s.accepted) is in omega (arith, none);
      window = λ w at. ap (λ (s : TransportState). length s.accepted) is
          ∙ ap (λ (f : Option Cause). accepted_by w (flushed_writes (head_of p)) (0 - failed_calls f)) (sym new.failure);
    };
    failures = ap (λ (s : TransportState). s.failures) is ∙ ap failed_calls (sym new.failure);
    aborted = λ e. absurd (none-some Aborted (sym new.failure ∙ e));
    closed = λ aborts over.
        let left = new.reads.before_abort aborts in
        absurd (both_ways h.input.port.is_open over (new.reads.is_open ∙ lt-ltb 0 (plan_steps (read_plan p)) left));
    unrefused = λ e. none-some Refused (sym new.failure ∙ e);
  }
    where
      is : state h.transport ≡ new_state (state transport).window (state transport).fail_at
      is = ap (λ (t : T). state t) new.transport_is ∙ new.uncalled

  pub part-keeps : (state transport).window ≡ p.window → (state transport).fail_at ≡ p.fail_at → PartKeepsPlan state p part
  part-keeps window fail_at = record {
    executors = whole.executors_are;
    tail_at = whole.tail_hop_is;
    head_at = hops-are;
    head = λ h at. subst (HeadKeepsPlan state p) (same_Some whole.head.0 h (sym whole.head.1 ∙ at)) (head-keeps whole.head.0 whole.head.2 window fail_at);
    handed = ap (λ (o : Option TailView). option_map_or (λ (t : TailView). t.handed) o 0) whole.tail;
    gone = ap (λ (o : Option (HeadView T)). option_map_or (λ (h : HeadView T). gone_of h) o (0, false)) whole.head.1 ∙ whole.head.2.gone;
  }

  pub has-all-nodes : HasAllNodes part
  has-all-nodes = record {
    outbound = length p.outbound;
    filled = whole.filled ∙ ap (λ (k : ℕ). replicate k true ++ false ∷ replicate (length p.outbound) true) (sym whole.tail_hop_is);
    tail = ap (λ (o : Option _). is_some o) whole.tail;
    head = ap (λ (o : Option _). is_some o) whole.head.1;
  }

-- ---- all channels

module _ {S T : Type 0} (meaning : S → Meaning) (stands_after : S → List Event → Type 0) (state : T → TransportState) (plan : Plan) (rs : List (Recorded S T)) (planned : plan.channels ≡ map (channel_planned meaning state) rs)
    (parts : List (ChannelPartView S T)) (placed : AreWholeParts meaning stands_after state rs parts) where
  -- a part is that of its recorded channel
  pub recorded-at : (c : ℕ) (part : ChannelPartView S T) → slice_get parts c ≡ Some part → (r : Recorded S T) × (slice_get rs c ≡ Some r) × (slice_get plan.channels c ≡ Some (channel_planned meaning state r)) × IsWholePart meaning stands_after state c r part
  recorded-at c part at =
      let size = placed.count in
      let within = slice_get_within parts c part at in
      let r = at-index rs c (omega (arith, size, within)) in (
        r.0,
        r.1,
        ap (λ (l : List ChannelPlan). slice_get l c) planned ∙ map-at (channel_planned meaning state) rs c r.0 r.1,
        placed.each c r.0 part r.1 at,
      )

  pub starts-keep : PartsKeepPlan state plan parts
  starts-keep = record {
    count = placed.count ∙ sym (length-map rs (channel_planned meaning state)) ∙ sym (ap length planned);
    each = λ c p part is at.
        let r = recorded-at c part at in
        subst (λ (q : ChannelPlan). PartKeepsPlan state q part) (same_Some (channel_planned meaning state r.0) p (sym r.2 ∙ is)) (part-keeps meaning state c (channel_planned meaning state r.0) r.0.transport part r.3.whole refl refl);
  }

  pub all-have-executors : All HasExecutors parts
  all-have-executors = All-from-at HasExecutors parts (λ c part at. let r = recorded-at c part at in has-executors meaning state c (channel_planned meaning state r.0) r.0.transport part r.3.whole)

  pub starts-stand : length rs ≤ MAX_CHANNELS → ChannelsStand (world_of false plan) meaning stands_after state parts
  starts-stand few = record {
    parts = λ c part at.
        let r = recorded-at c part at in
        let holds = r.3.holds false plan r.2 in
        record {
          holds = holds;
          channel = r.3.whole.channel_is;
          whole = has-all-nodes meaning state c (channel_planned meaning state r.0) r.0.transport part r.3.whole;
          few = part-few (world_of false plan) meaning stands_after state part holds;
        };
    few = let size = placed.count in omega (arith, size, few);
  }

  -- ---- how many lanes there are

  pub lanes-few : IsSmallPlan plan → length (data_lanes_of parts) < 2 ^ 16
  lanes-few small =
      let same = sum-same (λ (q : ChannelPartView S T). length q.path.executors) (λ (p : ChannelPlan). planned_head_hop p + 1) parts plan.channels starts-keep.count
      (λ i part p at is.
      let r = recorded-at i part at in
      ap length r.3.whole.executors_are ∙ r.3.whole.hops ∙ ap (λ (q : ChannelPlan). planned_head_hop q + 1) (same_Some (channel_planned meaning state r.0) p (sym r.2 ∙ is))) in
      subst (λ (n : ℕ). n < 2 ^ 16) (sym (length-data_lanes parts ∙ same)) small.lanes

  pub placeable : IsSmallPlan plan → ArePlaceable parts
  placeable small = record { few = lanes-few small; hops = all-have-executors }
