-- A move of its head, with the direct calls that follow, leads from one stand of a live channel to the next.
use Rattle.std.proofs.Common.{◌≡◌, ℕ, ◌≤◌, Bool, false, List, [], ◌∷◌, length, Option, Some, sym, ap, subst, ◌∙◌, arith}
use Rattle.std.specs.Prelude.{vec_len}
use Rattle.std.specs.Option.{option_map_or}
use Rattle.pl_event.specs.declared.events.Event.{Event}
use Rattle.pl_event.specs.declared.envelopes.Envelope.{Envelope}
use Rattle.pl_event.specs.Meaning.{Meaning}
use Rattle.pl_event.specs.Worlds.{World}
use Rattle.pl_context.specs.declared.standing.Took.{Took}
use Rattle.pl_context.specs.OutputsViews.{OutputsView}
use Rattle.pl_context.specs.TailViews.{TailView}
use Rattle.pl_context.specs.WaitingViews.{Entry}
use Rattle.pl_head.specs.HeadStand.{HeadView, gone_of}
use Rattle.pl_head.specs.InputStand.{steps_left}
use Rattle.pl_head.specs.Transports.{TransportState}
use Rattle.pl_net.specs.Nets.{StationsView, StationsStand, WorksListOff}
use Rattle.pl_net.specs.Stations.{stations_view}
use Rattle.pl_net.specs.declared.stations.Stations.{Stations}
use Rattle.pl_net.proofs.StationSteps.{rest-stands}
use Rattle.pl_part.specs.Parts.{ChannelPartView, SamePart, PartTakes, part_gone}
use Rattle.pl_part.specs.Paths.{path_handed_over}
use Rattle.pl_channel.specs.Channels.{HasMoved, home_of}
use Rattle.pl_channel.specs.Lanes.{world_of}
use Rattle.pl_replay.specs.Moves.{nodes_view, nodes_stand, nodes_take}
use Rattle.pl_replay.specs.declared.channels.Channels.{Channels}
use Rattle.pl_replay.proofs.PlanKept.{settles-keep}
use Rattle.pl_world.specs.Plans.{ChannelPlan}
use Rattle.pl_world.specs.Reports.{tail_of}
use Rattle.pl_live.specs.LiveStand.{LiveView, LiveStands, GoesByPlan, HandsOut, alone, accepted_in, gone_in, handed_in, head_in, left_in, open_in, parts_of, recorded_in}
use Rattle.pl_live.proofs.Followed.{Follows, follows-self, follows-on, one-moved, takes-go}

-- ---- what a channel that is alone shows

module _ {S T : Type 0} (part : ChannelPartView S T) (parts : List (ChannelPartView S T)) (is : parts ≡ part ∷ []) where
  pub head-in : head_in parts ≡ part.head
  head-in = ap (λ (ps : List (ChannelPartView S T)). head_in ps) is

  pub handed-at : handed_in parts ≡ path_handed_over part.path
  handed-at = ap (λ (ps : List (ChannelPartView S T)). handed_in ps) is

  pub gone-in : gone_in parts ≡ (part_gone part).0
  gone-in = ap (λ (ps : List (ChannelPartView S T)). gone_in ps) is

  pub gone-at : (h : HeadView T) → part.head ≡ Some h → gone_in parts ≡ h.gone
  gone-at h at = gone-in ∙ ap (λ (o : Option (HeadView T)). (option_map_or (λ (x : HeadView T). gone_of x) o (0, false)).0) at

  pub recorded-at : (t : TailView) → part.path.tail ≡ Some t → recorded_in parts ≡ t.events
  recorded-at t at = ap (λ (ps : List (ChannelPartView S T)). recorded_in ps) is ∙ ap (λ (o : Option TailView). option_map_or (λ (x : TailView). x.events) o []) at

  pub accepted-at : (state : T → TransportState) (h : HeadView T) → part.head ≡ Some h → accepted_in state parts ≡ (state h.transport).accepted
  accepted-at state h at = ap (λ (ps : List (ChannelPartView S T)). accepted_in state ps) is ∙ ap (λ (o : Option (HeadView T)). option_map_or (λ (x : HeadView T). (state x.transport).accepted) o []) at

  pub left-at : (h : HeadView T) → part.head ≡ Some h → left_in parts ≡ steps_left h.input
  left-at h at = ap (λ (ps : List (ChannelPartView S T)). left_in ps) is ∙ ap (λ (o : Option (HeadView T)). option_map_or (λ (x : HeadView T). steps_left x.input) o 0) at

  pub open-at : (h : HeadView T) → part.head ≡ Some h → open_in parts ≡ h.input.port.is_open
  open-at h at = ap (λ (ps : List (ChannelPartView S T)). open_in ps) is ∙ ap (λ (o : Option (HeadView T)). option_map_or (λ (x : HeadView T). x.input.port.is_open) o false) at

module _ {S T : Type 0} (meaning : S → Meaning) (stands_after : S → List Event → Type 0) (is_spent : S → Bool) (state : T → TransportState) where
  -- The part of the only channel has done this, and what came of it was worked off.
  pub record IsWorkedOff (does : ChannelPartView S T → OutputsView → ChannelPartView S T → OutputsView → Type 0) (c c' : StationsView (Channels S T)) : Type 0 where
    pub nodes : Channels S T
    pub work : OutputsView
    pub moved : HasMoved (λ (q q' : ChannelPartView S T). does q c.work q' work) c.nodes.parts.items 0 nodes.parts.items
    pub settles : WorksListOff (nodes_view meaning) (nodes_take meaning stands_after is_spent state) (home_of c.nodes.parts.items 0) (record c { nodes = nodes; work = work }) c'

  -- what a call promises in which the part of the only channel does this
  abbrev pub Ran : (ChannelPartView S T → OutputsView → ChannelPartView S T → OutputsView → Type 0) → LiveView S T → Stations (Channels S T) → Type 0
  Ran does live stations' = (world : World) (x : ℕ) (backlogs : ℕ → List (Entry (Unit {0}))) → StationsStand (nodes_view meaning) (nodes_stand meaning stands_after state) world x (stations_view live.stations backlogs)
      → (after : ℕ → List (Entry (Unit {0}))) × StationsStand (nodes_view meaning) (nodes_stand meaning stands_after state) world (home_of (parts_of live) 0) (stations_view stations' after)
      × IsWorkedOff does (stations_view live.stations backlogs) (stations_view stations' after)

module _ {S T : Type 0} (meaning : S → Meaning) (stands_after : S → List Event → Type 0) (is_spent : S → Bool) (state : T → TransportState) (p : ChannelPlan) where
  -- what is true of nodes that follow this part
  abbrev FollowOn : Bool → ChannelPartView S T → Channels S T → Type 0
  FollowOn ends first n = (part : ChannelPartView S T) × (n.parts.items ≡ part ∷ []) × GoesByPlan meaning stands_after state p ends part × Follows first part

  takes-on : (ends : Bool) (first : ChannelPartView S T) (n n' : Channels S T) (e : Envelope) (b a : OutputsView) → nodes_take meaning stands_after is_spent state n e b n' a → FollowOn ends first n → FollowOn ends first n'
  takes-on ends first n n' e b a t f =
      let m = one-moved (λ (q q' : ChannelPartView S T). (answer : Took) × PartTakes meaning stands_after is_spent state q e b answer q' a) f.0 n.parts.items n'.parts.items e.lane.channel f.1 t in
      let g = takes-go meaning stands_after state p ends is_spent f.0 m.0 e b m.3.0 a m.2 m.3.1 f.2 in
      (m.0, m.1, g.0, follows-on first f.0 m.0 f.3 g.1)

  -- Its list worked off, a channel goes by its plan, and follows.
  settled-on : (ends : Bool) (first : ChannelPartView S T) (x : ℕ) (c c' : StationsView (Channels S T)) → WorksListOff (nodes_view meaning) (nodes_take meaning stands_after is_spent state) x c c' → c.nodes.parts.items ≡ first ∷ []
      → GoesByPlan meaning stands_after state p ends first → FollowOn ends first c'.nodes
  settled-on ends first x c c' w is g = settles-keep (nodes_view meaning) (nodes_take meaning stands_after is_spent state) (FollowOn ends first) (takes-on ends first) x c c' w (first, is, g, follows-self first)

  module _ (live : LiveView S T) (s : LiveStands meaning stands_after state p live) (does : ChannelPartView S T → OutputsView → ChannelPartView S T → OutputsView → Type 0) (stations' : Stations (Channels S T))
      (runs : Ran meaning stands_after is_spent state does live stations') (rests : stations'.work.items ≡ []) (count : vec_len stations'.stations ≡ vec_len live.stations.stations) where
    abbrev part : ChannelPartView S T
    part = s.goes.part

    ran : (after : ℕ → List (Entry (Unit {0}))) × StationsStand (nodes_view meaning) (nodes_stand meaning stands_after state) (world_of false (alone p)) (home_of (parts_of live) 0) (stations_view stations' after)
        × IsWorkedOff meaning stands_after is_spent state does (stations_view live.stations s.backlogs) (stations_view stations' after)
    ran = runs (world_of false (alone p)) 0 s.backlogs s.stands

    -- the head has moved: the part then, and what it put
    pub record HasMovedAlone : Type 0 where
      pub then : ChannelPartView S T
      pub after : OutputsView
      pub same : SamePart part then
      pub moved : does part live.stations.work then after
      pub settles : GoesByPlan meaning stands_after state p live.ends then → FollowOn live.ends then stations'.nodes

    pub has-moved : HasMovedAlone
    has-moved =
        let g = ran.2 in
        let m = one-moved (λ (q q' : ChannelPartView S T). does q live.stations.work q' g.work) part (parts_of live) g.nodes.parts.items 0 s.goes.is_alone g.moved in
        record {
          then = m.0;
          after = g.work;
          same = m.2;
          moved = m.3;
          settles = λ goes. settled-on live.ends m.0 (home_of (parts_of live) 0) (record (stations_view live.stations s.backlogs) { nodes = g.nodes; work = g.work }) (stations_view stations' ran.0) g.settles m.1 goes;
        }

    -- Where nothing was handed over or forgotten, and at least as much accepted, it stands after the move.
    pub stands-moved : (now : ChannelPartView S T) → stations'.nodes.parts.items ≡ now ∷ [] → GoesByPlan meaning stands_after state p live.ends now
        → path_handed_over now.path ≡ path_handed_over part.path → part_gone now ≡ part_gone part → length (accepted_in state (parts_of live)) ≤ length (accepted_in state stations'.nodes.parts.items)
        → LiveStands meaning stands_after state p (record live { stations = stations' })
    stands-moved now is goes handed gone accepted =
        let consumed = s.handed.consumed_within in
        record {
          plan = s.plan;
          fed = s.fed;
          goes = record { part = now; is_alone = is; by_plan = goes };
          handed = record {
            events = subst (λ (n : ℕ). HandsOut (tail_of p) live.delivered live.front n) (handed-at part (parts_of live) s.goes.is_alone ∙ sym (handed-at now stations'.nodes.parts.items is ∙ handed)) s.handed.events;
            gone_is = s.handed.gone_is ∙ gone-in part (parts_of live) s.goes.is_alone ∙ ap (λ (x : ℕ × Bool). x.0) (sym gone) ∙ sym (gone-in now stations'.nodes.parts.items is);
            consumed_within = omega (arith, consumed, accepted);
          };
          executors = sym stations'.stations.ok.0 ∙ count ∙ live.stations.stations.ok.0 ∙ s.executors;
          backlogs = ran.0;
          stands = rest-stands (nodes_view meaning) (nodes_stand meaning stands_after state) (world_of false (alone p)) (home_of (parts_of live) 0) 0 (stations_view stations' ran.0) rests ran.1;
          rests = rests;
        }
