-- Nodes that are executors' shares of channels before any move fit the lanes between them.
use Rattle.std.specs.Global.{Vec}
use Rattle.std.proofs.Common.{◌≡◌, ℕ, ◌<◌, ◌≤◌, List, Option, Some, length, map, slice_get, ap, sym, ◌∙◌, subst, arith, true}
use Rattle.std.specs.List.{range_with_len}
use Rattle.std.specs.Option.{option_map}
use Rattle.std.proofs.lemmas.List.{length-map}
use Rattle.std.proofs.lemmas.List.FromFn.{length-map-range_with_len}
use Rattle.std.proofs.lemmas.Option.{slice_get-map, slice_get_within}
use Rattle.pl_event.specs.declared.events.Event.{Event}
use Rattle.pl_event.specs.Meaning.{Meaning}
use Rattle.pl_event.specs.Worlds.{World}
use Rattle.pl_event.proofs.Lists.{All-from-at, at-index}
use Rattle.pl_build.specs.declared.limits.TheConstants.{MAX_EXECUTORS}
use Rattle.pl_head.specs.Transports.{TransportState}
use Rattle.pl_part.specs.Parts.{ChannelPartView}
use Rattle.pl_channel.specs.Channels.{data_lanes_of}
use Rattle.pl_channel.specs.Lanes.{world_of}
use Rattle.pl_channel.specs.WholeParts.{AreWholeParts}
use Rattle.pl_channel.specs.PlanStand.{PartsKeepPlan}
use Rattle.pl_channel.proofs.WholeParts.{starts-keep}
use Rattle.pl_world.specs.declared.session.Recorded.{Recorded}
use Rattle.pl_world.specs.Plans.{Plan, channel_planned}
use Rattle.pl_world.specs.PlanRules.{IsPlan}
use Rattle.pl_threads.specs.NodesViews.{OwnNodesView}
use Rattle.pl_exec.specs.declared.nodes.ExecutorNodes.{ExecutorNodes}
use Rattle.pl_exec.specs.Lanes.{AreLaid}
use Rattle.pl_exec.specs.ExecutorNodes.{NodesStand, channel_parts, lanes_here, own_view}
use Rattle.pl_exec.specs.Opening.{LaneTable, FitAll, FitsLanes}
use Rattle.pl_exec.specs.SessionWords.{AreNewlySeated, ChannelNames, SeatsView}
use Rattle.pl_exec.specs.Sharing.{AreDealt, AreSharesOf, AreShared, HasShares, channels_on, rows_in}
use Rattle.pl_exec.specs.Telling.{AreSeated, ExecutorStands, channel_seats, plan_marks}
use Rattle.pl_exec.proofs.Fits.{IsTable, numbered-at, places_at, shares-fit}
use Rattle.pl_exec.proofs.SeatLemmas.{all-seated}
use Rattle.pl_exec.proofs.SharesHere.{dealt-by-channel, here-in-order, shares-by-channel}
use Rattle.pl_exec.proofs.SharesStand.{shares-stand, shares-tell}

module _ {S T : Type 0} (meaning : S → Meaning) (stands_after : S → List Event → Type 0) (state : T → TransportState) (world : World) (plan : Plan) (is_world : world ≡ world_of true plan) (rs : List (Recorded S T))
    (planned : plan.channels ≡ map (channel_planned meaning state) rs) (wholes : List (ChannelPartView S T)) (placed : AreWholeParts meaning stands_after state rs wholes) (ruled : IsPlan plan) (few : plan.executors ≤ MAX_EXECUTORS)
    (lanes : LaneTable) (table : IsTable wholes plan.executors lanes) where
  module _ (words : List ChannelNames) (heads : List (Option SeatsView)) (new : AreNewlySeated words (map plan_marks plan.channels) heads) where
    keeps : PartsKeepPlan state plan wholes
    keeps = starts-keep meaning stands_after state plan rs planned wholes placed

    seats-size : length heads ≡ length wholes
    seats-size = new.count ∙ length-map plan.channels plan_marks ∙ sym keeps.count

    module _ (x : ℕ) (below : x < plan.executors) (nodes : ExecutorNodes S T) (has : HasShares meaning stands_after state wholes words heads x (channels_on wholes x) nodes) where
      are : AreSharesOf meaning stands_after state wholes x (channel_parts plan nodes)
      are = shares-by-channel meaning stands_after state plan rs planned wholes placed x words heads seats-size nodes has

      dealt : AreDealt heads (channel_parts plan nodes) (channel_seats plan nodes)
      dealt = dealt-by-channel meaning stands_after state plan rs planned wholes placed x words heads seats-size nodes has

      size : length heads ≡ length (channel_parts plan nodes)
      size = seats-size ∙ sym are.count

      stand : ExecutorStands world plan meaning stands_after state nodes
      stand = record {
        is_world = is_world;
        in_order = here-in-order meaning stands_after state plan rs planned wholes placed x words heads seats-size nodes has;
        nodes = subst (λ (z : World × ℕ). NodesStand z.0 plan meaning stands_after state z.1 nodes.was_refused (channel_parts plan nodes)) (λ i. (sym is_world i, sym has.number i))
            (shares-stand meaning stands_after state plan rs planned wholes placed x (channel_parts plan nodes) are nodes.was_refused few below);
        own = has.own;
        seated = subst (λ (names : List ChannelNames). AreSeated names plan (channel_seats plan nodes)) (sym has.words_are) (all-seated heads (channel_parts plan nodes) (channel_seats plan nodes) dealt size words plan ruled new);
        told = shares-tell meaning stands_after state plan rs planned wholes placed x (channel_parts plan nodes) are heads (channel_seats plan nodes) (λ c s at. (new.each c s at).unused) dealt size;
      }

      fits : AreLaid wholes → FitsLanes lanes x (own_view plan meaning nodes) (length (data_lanes_of wholes)) (places_at wholes plan.executors x)
      fits laid = subst (λ (v : OwnNodesView). FitsLanes lanes x v (length (data_lanes_of wholes)) (places_at wholes plan.executors x))
          (λ i. record { executor = sym has.number i; lanes = lanes_here meaning (channel_parts plan nodes); heads = length nodes.heads.items; was_refused = sym has.unrefused i })
          (shares-fit meaning stands_after state plan rs planned wholes placed ruled x (channel_parts plan nodes) are laid lanes table below (length nodes.heads.items))

    pub fit-all : AreLaid wholes → (rows : List (List ℕ)) (nodes : List (ExecutorNodes S T)) (places : List (Vec ℕ)) → rows ≡ map (channels_on wholes) (range_with_len 0 plan.executors)
        → AreShared meaning stands_after state wholes words heads rows nodes → rows_in places ≡ map (places_at wholes plan.executors) (range_with_len 0 plan.executors) → FitAll (own_view plan meaning) (ExecutorStands world plan meaning stands_after state) lanes nodes (length (data_lanes_of wholes)) places
    fit-all laid rows nodes places known shared reserved = record {
      nodes_count = count ∙ sym table.size;
      places_count = sym (length-map places (λ (row : Vec ℕ). row.items)) ∙ ap length reserved ∙ length-map-range_with_len (places_at wholes plan.executors) 0 plan.executors ∙ sym table.size;
      stand = All-from-at (ExecutorStands world plan meaning stands_after state) nodes (λ x part at. stand x (below x part at) part (has x part at));
      each = λ x part row at-part at-row.
          let is = numbered-at (places_at wholes plan.executors) plan.executors x row.items
          (ap (λ (l : List (List ℕ)). slice_get l x) (sym reserved) ∙ slice_get-map (λ (r : Vec ℕ). r.items) places x ∙ ap (option_map (λ (r : Vec ℕ). r.items)) at-row) in
          subst (λ (l : List ℕ). FitsLanes lanes x (own_view plan meaning part) (length (data_lanes_of wholes)) l) (sym is) (fits x (below x part at-part) part (has x part at-part) laid);
    }
      where
        count : length nodes ≡ plan.executors
        count = shared.count ∙ ap length known ∙ length-map-range_with_len (channels_on wholes) 0 plan.executors

        below : (x : ℕ) (part : ExecutorNodes S T) → slice_get nodes x ≡ Some part → x < plan.executors
        below x part at = let within = slice_get_within nodes x part at in let size = count in omega (arith, within, size)

        has : (x : ℕ) (part : ExecutorNodes S T) → slice_get nodes x ≡ Some part → HasShares meaning stands_after state wholes words heads x (channels_on wholes x) part
        has x part at =
            let counted = shared.count in
            let row = at-index rows x (let within = slice_get_within nodes x part at in omega (arith, within, counted)) in
            subst (λ (r : List ℕ). HasShares meaning stands_after state wholes words heads x r part)
            (numbered-at (channels_on wholes) plan.executors x row.0 (ap (λ (l : List (List ℕ)). slice_get l x) (sym known) ∙ row.1)) (shared.each x part row.0 at row.1)
