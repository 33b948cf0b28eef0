-- A net before any move stands, and begins its plan.
use Rattle.std.proofs.Common.{◌≡◌, ℕ, ◌+◌, ◌<◌, ◌≤◌, ◌-◌, ◌==◌, ⊎_elim, true, false, List, [], ◌∷◌, length, map, get_or, slice_get, Option, Some, None, refl, ap, sym, ◌∙◌, subst, arith}
use Rattle.std.specs.Prelude.{if◌then◌else◌}
use Rattle.std.specs.Option.{option_map_or}
use Rattle.std.proofs.lemmas.Option.{same_Some, slice_get-get_or}
use Rattle.std.proofs.lemmas.Bool.{ltb-true, and_parts, false≢true, cases_Bool, cond-true, cond-false}
use Rattle.pl_event.specs.declared.events.Event.{Event}
use Rattle.pl_event.specs.declared.envelopes.Lane.{Lane}
use Rattle.pl_event.specs.Meaning.{Meaning}
use Rattle.pl_event.proofs.Lists.{All-at, map-at}
use Rattle.pl_context.specs.Stops.{AreAmong, no_stops}
use Rattle.pl_flow.specs.Flows.{point}
use Rattle.pl_head.specs.Transports.{TransportState}
use Rattle.pl_part.specs.Counts.{part_done}
use Rattle.pl_part.specs.Paths.{writer_hop}
use Rattle.pl_part.specs.Parts.{ChannelPartView, PartHolds, head_hop, part_taken, part_writes, part_came}
use Rattle.pl_net.specs.Stations.{stations_view}
use Rattle.pl_net.specs.Nets.{StationView, StationsStand, IsStart, no_backlogs}
use Rattle.pl_net.specs.declared.stations.Stations.{Stations}
use Rattle.pl_channel.specs.Lanes.{world_of}
use Rattle.pl_channel.specs.WholeParts.{IsWhole, IsAtStart, IsWholePart, AreWholeParts}
use Rattle.pl_channel.specs.PlanStand.{PartsKeepPlan}
use Rattle.pl_replay.specs.Views.{channels_view}
use Rattle.pl_channel.specs.Channels.{ChannelsStand, executor_at, target_of, origin_of, taken_of, came_of, writes_of, writes_here, data_lanes_of}
use Rattle.pl_replay.specs.Idle.{AreIdle}
use Rattle.pl_channel.specs.Ways.{HasExecutors, lanes_between}
use Rattle.pl_replay.specs.Moves.{nodes_view, nodes_stand}
use Rattle.pl_replay.specs.Starts.{HasPlannedStages, NetBegins, transports_of}
use Rattle.pl_replay.specs.declared.channels.Channels.{Channels}
use Rattle.pl_channel.proofs.LanePlaces.{among-between}
use Rattle.pl_channel.proofs.OneChannel.{few-sum}
use Rattle.pl_channel.proofs.WholeParts.{has-executors, recorded-at, starts-keep, starts-stand}
use Rattle.pl_world.specs.declared.session.Recorded.{Recorded}
use Rattle.pl_world.specs.declared.limits.TheConstants.{MAX_CHANNELS}
use Rattle.pl_world.specs.Plans.{ChannelPlan, Plan, channel_planned, planned as plan_of}
use Rattle.pl_world.specs.PlanRules.{IsPlan, IsChannelPlan}
use Rattle.pl_world.specs.Worlds.{WorldView, IsWorld}

-- the writer of a hop is at a hop that has an executor
writer-within : {S T : Type 0} (part : ChannelPartView S T) → HasExecutors part → (hop : ℕ) → hop < length part.path.executors → writer_hop part.path hop < length part.path.executors
writer-within part has hop within = ⊎_elim
    (λ (t : (hop == 0) ≡ true). let h = has.hops in let w = cond-true (hop == 0) (head_hop part) (if hop == part.path.tail_hop + 1 then part.path.turn else hop - 1) t in omega (arith, h, w))
    (λ (f : (hop == 0) ≡ false). ⊎_elim
    (λ (t : (hop == part.path.tail_hop + 1) ≡ true).
    let w = cond-false (hop == 0) (head_hop part) (if hop == part.path.tail_hop + 1 then part.path.turn else hop - 1) f ∙ cond-true (hop == part.path.tail_hop + 1) part.path.turn (hop - 1) t in
    let h = has.hops in let u = has.turn in omega (arith, h, u, w))
    (λ (g : (hop == part.path.tail_hop + 1) ≡ false).
    let w = cond-false (hop == 0) (head_hop part) (if hop == part.path.tail_hop + 1 then part.path.turn else hop - 1) f ∙ cond-false (hop == part.path.tail_hop + 1) part.path.turn (hop - 1) g in
    omega (arith, within, w))
    (cases_Bool (hop == part.path.tail_hop + 1)))
    (cases_Bool (hop == 0))

module _ {S T : Type 0} (meaning : S → Meaning) (stands_after : S → List Event → Type 0) (state : T → TransportState) (plan : Plan) (rs : List (Recorded S T)) (planned : plan.channels ≡ map (channel_planned meaning state) rs)
    (parts : List (ChannelPartView S T)) (placed : AreWholeParts meaning stands_after state rs parts) (ruled : IsPlan plan) (few : length rs ≤ MAX_CHANNELS) (executors : List StationView) (idle : AreIdle parts plan.executors executors) where
  recorded : (c : ℕ) (part : ChannelPartView S T) → slice_get parts c ≡ Some part → (r : Recorded S T) × (slice_get rs c ≡ Some r) × (slice_get plan.channels c ≡ Some (channel_planned meaning state r)) × IsWholePart meaning stands_after state c r part
  recorded = recorded-at meaning stands_after state plan rs planned parts placed

  stand : ChannelsStand (world_of false plan) meaning stands_after state parts
  stand = starts-stand meaning stands_after state plan rs planned parts placed few

  -- a lane that is written is one of a part
  own : (G : Type 0) (l : Lane) → writes_of meaning parts l ≡ true → ((part : ChannelPartView S T) → slice_get parts l.channel ≡ Some part → (l.hop < length part.path.executors) × (part_writes meaning part l ≡ true) → G) → G
  own G l writes found = by (slice_get parts l.channel) refl writes
    where
      by : (o : Option (ChannelPartView S T)) → slice_get parts l.channel ≡ o → option_map_or (λ (q : ChannelPartView S T). writes_here meaning q l) o false ≡ true → G
      by None at w = absurd (false≢true w)
      by (Some part) at w = let b = and_parts _ (part_writes meaning part l) w in found part at (ltb-true l.hop (length part.path.executors) b.0, b.1)

  at-part : {A : Type 0} (f : ChannelPartView S T → A) (none : A) (c : ℕ) (part : ChannelPartView S T) → slice_get parts c ≡ Some part → option_map_or f (slice_get parts c) none ≡ f part
  at-part f none c part at = ap (λ (o : Option (ChannelPartView S T)). option_map_or f o none) at

  executor-there : (c : ℕ) (part : ChannelPartView S T) (hop : ℕ) → slice_get parts c ≡ Some part → hop < length part.path.executors → executor_at part hop < length executors
  executor-there c part hop at within =
      let r = recorded c part at in
      let p = channel_planned meaning state r.0 in
      let rule = All-at (IsChannelPlan plan.executors) plan.channels c p ruled.channels r.2 in
      let there = subst (λ (l : List ℕ). hop < length l) r.3.whole.executors_are within in
      subst (λ (l : List ℕ). get_or l hop 0 < length executors) (sym r.3.whole.executors_are)
      (subst (λ (n : ℕ). get_or p.executors hop 0 < n) (sym idle.count) (All-at (λ (x : ℕ). x < plan.executors) p.executors hop (get_or p.executors hop 0) rule.placed (slice_get-get_or p.executors hop 0 there)))

  pub starts : IsStart (channels_view meaning parts) executors
  starts = record {
    queues = idle.queues;
    unstopped = idle.unstopped;
    taken = λ l w. own (taken_of parts l ≡ 0) l w (λ part at of. at-part (λ (q : ChannelPartView S T). part_taken q l) 0 l.channel part at ∙ (recorded l.channel part at).3.unmoved.taken l);
    came = λ l w. own (came_of meaning parts l ≡ point 0 false) l w (λ part at of. at-part (λ (q : ChannelPartView S T). part_came meaning q l) _ l.channel part at ∙ (recorded l.channel part at).3.unmoved.came l of.1);
    there = λ l w. own ((origin_of parts l < length executors) × (target_of parts l < length executors)) l w (λ part at of.
        let r = recorded l.channel part at in
        let has = has-executors meaning state l.channel (channel_planned meaning state r.0) r.0.transport part r.3.whole in (
          subst (λ (n : ℕ). n < length executors) (sym (at-part (λ (q : ChannelPartView S T). executor_at q (writer_hop q.path l.hop)) 0 l.channel part at)) (executor-there l.channel part (writer_hop part.path l.hop) at (writer-within part has l.hop of.0)),
          subst (λ (n : ℕ). n < length executors) (sym (at-part (λ (q : ChannelPartView S T). executor_at q l.hop) 0 l.channel part at)) (executor-there l.channel part l.hop at of.0),
        ));
    hops = lanes_between parts;
    placed = λ y z a b. idle.placed y z (subst (λ (n : ℕ). y < n) idle.count a) (subst (λ (n : ℕ). z < n) idle.count b);
    among = λ l w. own (AreAmong (l ∷ []) (lanes_between parts (origin_of parts l) (target_of parts l))) l w (λ part at of.
        let r = recorded l.channel part at in
        subst (λ (x : ℕ). AreAmong (l ∷ []) (lanes_between parts x (target_of parts l))) (sym (at-part (λ (q : ChannelPartView S T). executor_at q (writer_hop q.path l.hop)) 0 l.channel part at))
        (subst (λ (y : ℕ). AreAmong (l ∷ []) (lanes_between parts (executor_at part (writer_hop part.path l.hop)) y)) (sym (at-part (λ (q : ChannelPartView S T). executor_at q l.hop) 0 l.channel part at))
        (among-between parts l.channel part at r.3.whole.channel_is l refl of.0)));
    few = few-sum (λ (q : ChannelPartView S T). part_done q) parts stand.few (λ c part at. (stand.parts c part at).few);
  }

module _ {S T : Type 0} (meaning : S → Meaning) (stands_after : S → List Event → Type 0) (state : T → TransportState) (w : WorldView S T) (is : IsWorld meaning state w) (capacity : ℕ) (some : 1 ≤ capacity)
    (parts : List (ChannelPartView S T)) (placed : AreWholeParts meaning stands_after state w.channels parts) (executors : List StationView) (idle : AreIdle parts w.executors executors) where
  abbrev pub plan_here : Plan
  plan_here = plan_of meaning state capacity w.executors w.channels

  pub world-begins : (stations : Stations (Channels S T)) → stations.nodes.parts.items ≡ parts → stations.stations.items ≡ executors → stations.capacity ≡ capacity → stations.work.items ≡ []
      → stations.work.stopped ≡ no_stops (length (data_lanes_of parts))
      → (ChannelsStand (world_of false plan_here) meaning stands_after state parts → StationsStand (nodes_view meaning) (nodes_stand meaning stands_after state) (world_of false plan_here) 0 (stations_view stations no_backlogs))
      → NetBegins meaning stands_after state plan_here (transports_of w.channels) stations
  world-begins stations has-parts has-executors-too size rests unstopped stands = record {
    stands = record {
      ruled = is.ruled capacity some;
      small = is.small capacity;
      stands = stands (starts-stand meaning stands_after state plan_here w.channels refl parts placed is.channels);
      rests = rests;
      capacity = size;
      executors = ap length has-executors-too ∙ idle.count;
      keeps = subst (PartsKeepPlan state plan_here) (sym has-parts) (starts-keep meaning stands_after state plan_here w.channels refl parts placed);
    };
    begins = record {
      channels = ap length has-parts ∙ (starts-keep meaning stands_after state plan_here w.channels refl parts placed).count;
      each = λ number p transport part planned has at. each number p transport part planned has (sym (ap (λ (l : List (ChannelPartView S T)). slice_get l number) has-parts) ∙ at);
      executors = ap length has-executors-too ∙ idle.count;
      start = subst (λ (l : List (ChannelPartView S T)). IsStart (channels_view meaning l) stations.stations.items) (sym has-parts)
          (subst (IsStart (channels_view meaning parts)) (sym has-executors-too) (starts meaning stands_after state plan_here w.channels refl parts placed (is.ruled capacity some) is.channels executors idle));
      backlogs = refl;
      work = rests;
      unstopped = unstopped ∙ ap (λ (l : List (ChannelPartView S T)). no_stops (length (data_lanes_of l))) (sym has-parts);
    };
  }
    where
      each : (number : ℕ) (p : ChannelPlan) (transport : T) (part : ChannelPartView S T) → slice_get plan_here.channels number ≡ Some p → slice_get (transports_of w.channels) number ≡ Some transport → slice_get parts number ≡ Some part
          → IsWhole state number p transport part × HasPlannedStages meaning stands_after number p part × IsAtStart meaning part × PartHolds (world_of false plan_here) meaning stands_after state part
      each number p transport part planned has at =
          let r = recorded-at meaning stands_after state plan_here w.channels refl parts placed number part at in
          let one = same_Some (channel_planned meaning state r.0) p (sym r.2 ∙ planned) in
          let other = same_Some r.0.transport transport (sym (map-at (λ (c : Recorded S T). c.transport) w.channels number r.0 r.1) ∙ has) in (
            subst (λ (q : ChannelPlan). IsWhole state number q transport part) one (subst (λ (t : T). IsWhole state number (channel_planned meaning state r.0) t part) other r.3.whole),
            subst (λ (q : ChannelPlan). HasPlannedStages meaning stands_after number q part) one (record { inbound = r.0.pipeline.inbound; outbound = r.0.pipeline.outbound; inbound_are = refl; outbound_are = refl; stages = r.3.stages }),
            r.3.unmoved,
            r.3.holds false plan_here r.2,
          )
