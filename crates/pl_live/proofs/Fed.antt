-- A live channel that is fed a burst: it stood at a plan, and stands at the plan with this burst more.
use Rattle.std.proofs.Common.{◌≡◌, ℕ, zero, suc, ◌+◌, ◌-◌, ◌≤◌, ◌<◌, ◌^◌, Bool, true, false, List, [], ◌∷◌, ◌++◌, length, get_or, Some, refl, sym, ap, subst, ◌∙◌, arith}
use Rattle.std.specs.Prelude.{slice_get, slice_set}
use Rattle.std.specs.Vec.{with_item}
use Rattle.std.proofs.lemmas.List.Sums.{sum_by-append}
use Rattle.std.proofs.lemmas.Option.{none-some, same_Some}
use Rattle.pl_event.specs.declared.elements.Element.{Element}
use Rattle.pl_event.specs.declared.events.Event.{Event}
use Rattle.pl_event.specs.declared.limits.TheConstants.{MAX_ITEMS}
use Rattle.pl_event.specs.Inputs.{burst_events, recorded_input}
use Rattle.pl_event.specs.Meaning.{Meaning}
use Rattle.pl_event.specs.Worlds.{World}
use Rattle.pl_event.proofs.Lists.{All-at}
use Rattle.pl_stages.specs.Counts.{event_weight, weight}
use Rattle.pl_context.specs.declared.standing.Standing.TheVariants as standings
use Rattle.pl_context.specs.OutputsViews.{OutputsView}
use Rattle.pl_head.specs.HeadStand.{HeadView}
use Rattle.pl_head.specs.InputStand.{items_left, takes_bursts}
use Rattle.pl_head.specs.Transports.{TransportState}
use Rattle.pl_part.specs.Growing.{fed_part}
use Rattle.pl_part.specs.Parts.{ChannelPartView, part_standing}
use Rattle.pl_part.proofs.Growing.{input-more}
use Rattle.pl_net.specs.Nets.{StationView}
use Rattle.pl_net.specs.Stations.{stations_view}
use Rattle.pl_world.specs.Plans.{ChannelPlan}
use Rattle.pl_world.specs.PlanRules.{IsChannelPlan, IsSmallChannel}
use Rattle.pl_world.specs.Reports.{tail_of}
use Rattle.pl_world.proofs.SmallLanes.{is_out, lane_small}
use Rattle.pl_channel.specs.Channels.{ChannelsStand, PartStands}
use Rattle.pl_channel.specs.Feeding.{CanBeFed, fed_channel}
use Rattle.pl_channel.specs.Lanes.{world_of}
use Rattle.pl_channel.proofs.FedPlans.{plan-ruled}
use Rattle.pl_channel.proofs.Feeding.{fed-holds, few-more}
use Rattle.pl_replay.specs.Moves.{nodes_view, nodes_stand}
use Rattle.pl_replay.specs.Views.{channels_view}
use Rattle.pl_live.specs.declared.live.TheConstants.{MAX_FED}
use Rattle.pl_live.specs.LiveStand.{LiveView, LiveStands, GoesAlone, HandsOut, accepted_in, alone, gone_in, handed_in, may_take, parts_of}
use Rattle.pl_live.proofs.FedViews.{fed-done, fed-view, fed-whole}
use Rattle.pl_live.proofs.FedGoes.{goes-fed, handed-fed}
use Rattle.pl_live.proofs.IdleNets.{idle-stands}
use Rattle.pl_live.proofs.Looks.{may-feed}

module _ {S T : Type 0} (meaning : S → Meaning) (stands_after : S → List Event → Type 0) (state : T → TransportState) (p : ChannelPlan) (burst : List Element) (live : LiveView S T) (s : LiveStands meaning stands_after state p live)
    (is_open : part_standing s.goes.part ≡ standings.Open) (reads : (h : HeadView T) → s.goes.part.head ≡ Some h → takes_bursts h.input ≡ true) (room : ℕ) (size : weight (burst_events burst) + room ≡ live.room) where
  abbrev p' : ChannelPlan
  p' = fed_channel burst p

  abbrev part : ChannelPartView S T
  part = s.goes.part

  abbrev part' : ChannelPartView S T
  part' = fed_part burst part

  abbrev world : World
  world = world_of false (alone p)

  abbrev world' : World
  world' = world_of false (alone p')

  -- ---- the plan

  weighs : weight (recorded_input p'.bursts) + room ≡ MAX_FED
  weighs =
      let more = ap (λ (es : List Event). weight es) (input-more burst p.bursts) ∙ sum_by-append event_weight (recorded_input p.bursts) (burst_events burst) in
      let fed = s.fed in
      omega (arith, more, fed, size)

  small : IsSmallChannel p'
  small = λ hop below.
      let rule = All-at (IsChannelPlan 1) (p ∷ []) 0 p s.plan.ruled.channels refl in
      let long = lane_small p.inbound p.outbound (recorded_input p'.bursts) hop s.plan.thrifty_inbound s.plan.thrifty_outbound (λ k d within. is_out (get_or p.outbound k d).direction (rule.downwards k d within)) in
      let whole = weighs in
      omega (arith, long, whole)

  -- ---- the part

  held : PartStands world meaning stands_after state 0 part
  held = (subst (λ (ps : List (ChannelPartView S T)). ChannelsStand world meaning stands_after state ps) s.goes.is_alone s.stands.hold).parts 0 part refl

  may : CanBeFed meaning (alone p) 0 p burst part
  may = record {
    ruled = s.plan.ruled;
    planned = refl;
    small = small;
    channel = held.channel;
    tail_at = s.goes.by_plan.tail_at;
    meant = s.goes.by_plan.meant;
    is_open = is_open;
    reads = reads;
  }

  -- There is room for the burst.
  pub fed-room : (h : HeadView T) → part.head ≡ Some h → h.input.port.made + items_left h.input.steps (h.input.left ++ burst ∷ []) < MAX_ITEMS
  fed-room = few-more meaning stands_after state false (alone p) 0 p burst part may held.holds

  stands-fed : PartStands world' meaning stands_after state 0 part'
  stands-fed = record {
    holds = fed-holds meaning stands_after state false (alone p) 0 p burst part may held.holds;
    channel = held.channel;
    whole = fed-whole burst part held.whole;
    few = subst (λ (n : ℕ). n < 2 ^ 50) (sym (fed-done burst part)) held.few;
  }

  hold : ChannelsStand world' meaning stands_after state (part' ∷ [])
  hold = record { parts = at-one; few = omega arith }
    where
      at-one : (c : ℕ) (q : ChannelPartView S T) → slice_get (part' ∷ []) c ≡ Some q → PartStands world' meaning stands_after state c q
      at-one zero q at = subst (λ (x : ChannelPartView S T). PartStands world' meaning stands_after state 0 x) (same_Some part' q at) stands-fed
      at-one (suc c) q at = absurd (none-some q at)

module _ {S T : Type 0} where
  -- It stands at the plan with this burst more.
  pub fed-stands : (meaning : S → Meaning) (stands_after : S → List Event → Type 0) (state : T → TransportState) (p : ChannelPlan) (burst : List Element) (live live' : LiveView S T) (s : LiveStands meaning stands_after state p live)
      → part_standing s.goes.part ≡ standings.Open → ((h : HeadView T) → s.goes.part.head ≡ Some h → takes_bursts h.input ≡ true) → weight (burst_events burst) + live'.room ≡ live.room
      → parts_of live' ≡ fed_part burst s.goes.part ∷ [] → live'.stations.stations.items ≡ live.stations.stations.items → live'.stations.work ≡ live.stations.work
      → live'.ends ≡ live.ends → live'.delivered ≡ live.delivered → live'.front ≡ live.front → live'.gone ≡ live.gone → live'.consumed ≡ live.consumed → LiveStands meaning stands_after state (fed_channel burst p) live'
  fed-stands meaning stands_after state p burst live live' s is_open reads size parts executors work ends delivered front gone consumed = record {
    plan = record {
      ruled = plan-ruled burst 0 (alone p) p refl s.plan.ruled;
      small = small meaning stands_after state p burst live s is_open reads live'.room size;
      thrifty_inbound = s.plan.thrifty_inbound;
      thrifty_outbound = s.plan.thrifty_outbound;
    };
    fed = weighs meaning stands_after state p burst live s is_open reads live'.room size;
    goes = subst (λ (x : Bool × List (ChannelPartView S T)). GoesAlone meaning stands_after state (fed_channel burst p) x.0 x.1) (λ i. (sym ends i, sym parts i))
        (goes-fed meaning stands_after state p burst live.ends (parts_of live) s.goes reads);
    handed =
        let h = handed-fed state p burst (parts_of live) s.goes.part live.delivered live.front live.gone live.consumed s.goes.is_alone s.handed.events s.handed.gone_is s.handed.consumed_within in
        record {
          events = subst (λ (x : ℕ × List Event × List (ChannelPartView S T)). HandsOut (tail_of (fed_channel burst p)) x.0 x.1 (handed_in x.2)) (λ i. (sym delivered i, sym front i, sym parts i)) h.0;
          gone_is = gone ∙ h.1 ∙ ap (λ (ps : List (ChannelPartView S T)). gone_in ps) (sym parts);
          consumed_within = subst (λ (x : ℕ × List (ChannelPartView S T)). x.0 ≤ length (accepted_in state x.1)) (λ i. (sym consumed i, sym parts i)) h.2;
        };
    executors = ap (λ (es : List StationView). length es) executors ∙ s.executors;
    backlogs = s.backlogs;
    stands = idle-stands (world_of false (alone p)) (world_of false (alone (fed_channel burst p))) (nodes_view meaning) (nodes_stand meaning stands_after state) 0 (stations_view live.stations s.backlogs) (stations_view live'.stations s.backlogs) s.executors s.rests s.stands
        (subst (λ (ps : List (ChannelPartView S T)). ChannelsStand (world_of false (alone (fed_channel burst p))) meaning stands_after state ps) (sym parts) (hold meaning stands_after state p burst live s is_open reads live'.room size))
        (ap (λ (ps : List (ChannelPartView S T)). channels_view meaning ps) parts ∙ fed-view burst s.goes.part meaning ∙ ap (λ (ps : List (ChannelPartView S T)). channels_view meaning ps) (sym s.goes.is_alone))
        executors refl work;
    rests = ap (λ (w : OutputsView). w.items) work ∙ s.rests;
  }

-- ---- as who feeds it sees it

-- A channel that may be fed, as its caller has found; this much may still be fed behind the burst; and this is its part.
module _ {S T : Type 0} (meaning : S → Meaning) (stands_after : S → List Event → Type 0) (state : T → TransportState) (p : ChannelPlan) (burst shown : List Element) (live now : LiveView S T) (s : LiveStands meaning stands_after state p live) (same : live ≡ now)
    (takes : Bool) (answers : takes ≡ may_take now) (may : takes ≡ true) (room : ℕ) (is_shown : shown ≡ burst) (fits : (weight (burst_events shown) ≤ live.room) × (room ≡ live.room - weight (burst_events shown)))
    (before : ChannelPartView S T) (was : before ≡ get_or (parts_of live) 0 before) where
  going : (part_standing s.goes.part ≡ standings.Open) × ((h : HeadView T) → s.goes.part.head ≡ Some h → takes_bursts h.input ≡ true)
  going = may-feed meaning stands_after state p live s (ap (λ (l : LiveView S T). may_take l) same ∙ sym answers ∙ may)

  size : weight (burst_events burst) + room ≡ live.room
  size =
      let within = subst (λ (b : List Element). (weight (burst_events b) ≤ live.room) × (room ≡ live.room - weight (burst_events b))) is_shown fits in
      omega (arith, within)

  own : before ≡ s.goes.part
  own = was ∙ ap (λ (ps : List (ChannelPartView S T)). get_or ps 0 before) s.goes.is_alone

  pub room-left : (h : HeadView T) → before.head ≡ Some h → h.input.port.made + items_left h.input.steps (h.input.left ++ burst ∷ []) < MAX_ITEMS
  room-left h there = fed-room meaning stands_after state p burst live s going.0 going.1 room size h (sym (ap (λ (q : ChannelPartView S T). q.head) own) ∙ there)

  pub stands-with : (after : ChannelPartView S T) → after ≡ fed_part burst before
      → LiveStands meaning stands_after state (fed_channel burst p) (record live { stations = record live.stations { nodes = record { parts = with_item live.stations.nodes.parts 0 after } }; room = room })
  stands-with after is = fed-stands meaning stands_after state p burst live (record live { stations = record live.stations { nodes = record { parts = with_item live.stations.nodes.parts 0 after } }; room = room }) s going.0 going.1 size
      (ap (λ (ps : List (ChannelPartView S T)). slice_set ps 0 after) s.goes.is_alone ∙ ap (λ (q : ChannelPartView S T). q ∷ []) (is ∙ ap (λ (q : ChannelPartView S T). fed_part burst q) own)) refl refl refl refl refl refl refl
