use Rattle.std.specs.Global.{Vec}
use Rattle.std.proofs.Common.{◌≡◌, ◌<◌, ◌^◌, ℕ, List, length, map, ap, sym, ◌∙◌, subst, arith}
use Rattle.std.specs.Prelude.{All}
use Rattle.std.specs.List.{range_with_len}
use Rattle.std.proofs.lemmas.List.{length-map}
use Rattle.std.proofs.lemmas.List.FromFn.{length-map-range_with_len}
use Rattle.pl_event.proofs.Lists.{All-from-at}
use Rattle.pl_part.specs.Parts.{ChannelPartView}
use Rattle.pl_channel.proofs.WorldChannels.{recorded-small}
use Rattle.pl_channel.specs.Channels.{data_lanes_of}
use Rattle.pl_channel.specs.Ways.{ArePlaceable}
use Rattle.pl_channel.specs.WholeParts.{AreWholeParts}
use Rattle.pl_outbox.specs.declared.inbox.Inbox.{Inbox}
use Rattle.pl_world.specs.declared.session.Recorded.{Recorded}
use Rattle.pl_world.specs.Plans.{Plan, channel_planned, planned}
use Rattle.pl_world.specs.PlanRules.{IsPlan}
use Rattle.pl_exec.specs.ChannelRows.{IsChannelRow}
use Rattle.pl_exec.specs.ExecutorNodes.{own_view}
use Rattle.pl_exec.specs.Lanes.{AreLaid, lane_table}
use Rattle.pl_exec.specs.Opening.{AreOpened, CanOpenAll, FitAll, inbox_view, lanes_in}
use Rattle.pl_exec.specs.SessionWords.{AreNewlySeated}
use Rattle.pl_exec.specs.Sharing.{channels_on, rows_in}
use Rattle.pl_exec.specs.Telling.{ExecutorStands, plan_marks}
use Rattle.pl_exec.proofs.ChannelRows.{row-on}
use Rattle.pl_exec.proofs.Columns.{inboxes-count}
use Rattle.pl_exec.proofs.Fits.{numbered-at, places_at}
use Rattle.pl_exec.proofs.Ready.{AreReady, ended-executors, executors-in-order, first-turns, ready-count, ready-fit, ready-laid, ready-open, ready-placeable}
use Rattle.pl_exec.proofs.SeatLemmas.{planned-marks}
use Rattle.pl_exec.proofs.running.run_by.Goals as goal
use Rattle.pl_exec.proofs.running.run_by.Goals.{In_ok-lanes, In_ok-nodes, In_ok-parts, In_ok-rows}

pub whole_parts-requires-clause-small : goal.whole_parts-requires-clause-small
whole_parts-requires-clause-small g c =
    recorded-small g.S.Stage.meaning g.T.Transport.state c.args.world c.into_channels.ensures.is_world c.into_vec.result.items (c.into_vec.ensures ∙ c.into_channels.ensures.channels)

-- the parts are ready
ready : (g : _) (c : In_ok-parts g) → AreReady g.S.Stage.meaning g.S.Stage.stands_after g.T.Transport.state g.W.Planned.plan c.in_ok-parts.parts.items
ready g c =
    let is = c.into_channels.ensures.is_world in
    let plan = planned g.S.Stage.meaning g.T.Transport.state c.args.capacity c.args.world.executors c.args.world.channels in
    subst (λ (p : Plan). AreReady g.S.Stage.meaning g.S.Stage.stands_after g.T.Transport.state p c.in_ok-parts.parts.items) (sym c.requires.run.made)
    (record {
      recorded = c.args.world.channels;
      planned = λ i. plan.channels;
      placed = subst (λ (rs : List (Recorded g.row.S.Denot g.row.T.Denot)). AreWholeParts g.S.Stage.meaning g.S.Stage.stands_after g.T.Transport.state rs c.in_ok-parts.parts.items) (c.into_vec.ensures ∙ c.into_channels.ensures.channels) c.in_ok-parts.ensures;
      ruled = is.ruled c.args.capacity c.requires.run.some;
      small = is.small c.args.capacity;
      channels = is.channels;
      executors = is.executors;
      capacity = c.requires.run.few;
    })

-- as many executors as the plan has
count-is : (g : _) (c : In_ok-parts g) → c.executors-count.result ≡ g.W.Planned.plan.executors
count-is g c = c.executors-count.ensures ∙ sym (ap (λ (p : Plan). p.executors) c.requires.run.made)

-- the marks are those of the plan's channels
seated : (g : _) (c : In_ok-parts g) → AreNewlySeated c.args.setting.words.now (map plan_marks g.W.Planned.plan.channels) c.args.setting.seats.items
seated g c =
    subst (λ (marks : List (ℕ × ℕ)). AreNewlySeated c.args.setting.words.now marks c.args.setting.seats.items)
    (planned-marks g.S.Stage.meaning g.T.Transport.state c.args.world.channels ∙ sym (ap (λ (p : Plan). map plan_marks p.channels) c.requires.run.made)) c.requires.seated

-- ---- the tables of the parts

pub lane_count-data_lanes-requires : goal.lane_count-data_lanes-requires
lane_count-data_lanes-requires g c =
    subst (λ (l : List (ChannelPartView g.row.S.Denot g.row.T.Denot)). length (data_lanes_of l) < 2 ^ 16) (sym c.deref.ensures.value)
    (ready-placeable g.S.Stage.meaning g.S.Stage.stands_after g.T.Transport.state g.W.Planned.plan c.in_ok-parts.parts.items (ready g (goal.at.lane_count-data_lanes-requires g c).In_ok-parts)).few

pub places_between-requires : goal.places_between-requires
places_between-requires g c =
    subst (λ (l : List (ChannelPartView g.row.S.Denot g.row.T.Denot)). ArePlaceable l) (sym c.deref-2.ensures.value)
    (ready-placeable g.S.Stage.meaning g.S.Stage.stands_after g.T.Transport.state g.W.Planned.plan c.in_ok-parts.parts.items (ready g (goal.at.places_between-requires g c).In_ok-parts))

pub lane_table-requires : goal.lane_table-requires
lane_table-requires g c =
    subst (λ (l : List (ChannelPartView g.row.S.Denot g.row.T.Denot)). AreLaid l) (sym c.deref-3.ensures.value)
    (ready-laid g.S.Stage.meaning g.S.Stage.stands_after g.T.Transport.state g.W.Planned.plan c.in_ok-parts.parts.items (ready g (goal.at.lane_table-requires g c).In_ok-parts))

-- the table has the lanes of the parts
lanes-are : (g : _) (c : In_ok-lanes g) → lanes_in c.in_ok-lanes.lanes.items ≡ lane_table c.in_ok-parts.parts.items c.executors-count.result
lanes-are g c = c.in_ok-lanes.ensures ∙ ap (λ (l : List (ChannelPartView g.row.S.Denot g.row.T.Denot)). lane_table l c.executors-count.result) c.deref-3.ensures.value

-- each row has the channels of its executor
rows-are : (g : _) (c : In_ok-rows g) → rows_in c.in_ok-rows.rows.items ≡ map (channels_on c.in_ok-parts.parts.items) (range_with_len 0 c.executors-count.result)
rows-are g c = c.in_ok-rows.ensures ∙ ap (λ (l : List (ChannelPartView g.row.S.Denot g.row.T.Denot)). map (channels_on l) (range_with_len 0 c.executors-count.result)) c.deref-4.ensures.value

-- ---- the nodes of executors

-- of each channel there are seats or none
pub shares-requires-clause-seats : goal.shares-requires-clause-seats
shares-requires-clause-seats g c =
    let at = (goal.at.shares-requires-clause-seats g c).In_ok-parts in
    (seated g at).count ∙ length-map g.W.Planned.plan.channels plan_marks ∙ sym (ready-count g.S.Stage.meaning g.S.Stage.stands_after g.T.Transport.state g.W.Planned.plan c.in_ok-parts.parts.items (ready g at))

pub shares-requires-clause-few : goal.shares-requires-clause-few
shares-requires-clause-few g c =
    let channels = (ready-laid g.S.Stage.meaning g.S.Stage.stands_after g.T.Transport.state g.W.Planned.plan c.in_ok-parts.parts.items (ready g (goal.at.shares-requires-clause-few g c).In_ok-parts)).channels in
    omega (arith, channels)

-- each executor has some of the channels, each once
pub shares-requires-clause-rows : goal.shares-requires-clause-rows
shares-requires-clause-rows g c =
    let parts = c.in_ok-parts.parts.items in
    let count = c.executors-count.result in
    subst (All (IsChannelRow (length parts))) (sym (rows-are g (goal.at.shares-requires-clause-rows g c).In_ok-rows))
    (All-from-at (IsChannelRow (length parts)) (map (channels_on parts) (range_with_len 0 count)) (λ x row at. subst (IsChannelRow (length parts)) (sym (numbered-at (channels_on parts) count x row at)) (row-on parts x)))

-- one for each executor
nodes-count : (g : _) (c : In_ok-nodes g) → length c.in_ok-nodes.nodes.items ≡ c.executors-count.result
nodes-count g c = c.in_ok-nodes.ensures.count ∙ ap (λ (l : List (List ℕ)). length l) c.in_ok-rows.ensures ∙ length-map-range_with_len (channels_on c.deref-4.result.now) 0 c.executors-count.result

-- ---- the inboxes

opens : (g : _) (c : In_ok-lanes g) → AreReady g.S.Stage.meaning g.S.Stage.stands_after g.T.Transport.state g.W.Planned.plan c.in_ok-parts.parts.items → c.executors-count.result ≡ g.W.Planned.plan.executors → CanOpenAll c.args.capacity (lanes_in c.in_ok-lanes.lanes.items)
opens g c ready count =
    ready-open g.S.Stage.meaning g.S.Stage.stands_after g.T.Transport.state g.W.Planned.plan c.in_ok-parts.parts.items ready c.executors-count.result count (lanes_in c.in_ok-lanes.lanes.items) (lanes-are g c) c.args.capacity (sym (ap (λ (p : Plan). p.capacity) c.requires.run.made))

pub open_all-requires : goal.open_all-requires
open_all-requires g c = let at = goal.at.open_all-requires g c in opens g at.In_ok-lanes (ready g at.In_ok-parts) (count-is g at.In_ok-parts)

pub executors-requires-clause-few : goal.executors-requires-clause-few
executors-requires-clause-few g c =
    let at = goal.at.executors-requires-clause-few g c in
    let few = (opens g at.In_ok-lanes (ready g at.In_ok-parts) (count-is g at.In_ok-parts)).few in
    let same = ap (λ (l : List (Inbox g.row.W.Denot g.row.M.Denot g.row.M-Sender.Denot g.row.M-Taker.Denot)). length l) c.deref-5.ensures.value in
    omega (arith, few, same, c.in_ok-inboxes.ensures.count)

pub executors-requires-clause-capacity : goal.executors-requires-clause-capacity
executors-requires-clause-capacity g c =
    subst (λ (z : ℕ × List (Inbox g.row.W.Denot g.row.M.Denot g.row.M-Sender.Denot g.row.M-Taker.Denot)). All (λ i. g.M.Mailbox.ends.capacity_of i.mailbox ≡ z.0) z.1)
    (λ i. (sym (ap (λ (p : Plan). p.capacity) c.requires.run.made) i, sym c.deref-5.ensures.value i)) c.in_ok-inboxes.ensures.capacity

pub executors-requires-clause-start : goal.executors-requires-clause-start
executors-requires-clause-start g c =
    let at = goal.at.executors-requires-clause-start g c in
    let lanes = lanes_in c.in_ok-lanes.lanes.items in
    let count = c.executors-count.result in
    let places = c.in_ok-places.ensures ∙ ap (λ (l : List (ChannelPartView g.row.S.Denot g.row.T.Denot)). map (places_at l count) (range_with_len 0 count)) c.deref-2.ensures.value in
    record {
      lanes = lanes;
      square = (opens g at.In_ok-lanes (ready g at.In_ok-parts) (count-is g at.In_ok-parts)).square;
      count = inboxes-count c.deref-5.result.now ∙ ap (λ (l : List (Inbox g.row.W.Denot g.row.M.Denot g.row.M-Sender.Denot g.row.M-Taker.Denot)). length l) c.deref-5.ensures.value ∙ c.in_ok-inboxes.ensures.count;
      opened =
          subst (λ (l : List (Inbox g.row.W.Denot g.row.M.Denot g.row.M-Sender.Denot g.row.M-Taker.Denot)). AreOpened g.M.Mailbox.ends lanes (map inbox_view l) c.in_ok-inboxes.ends.items c.in_ok-inboxes.columns.items)
          (sym c.deref-5.ensures.value) c.in_ok-inboxes.ensures.opened;
      fit =
          subst (λ (z : ℕ × List (Vec ℕ)). FitAll (own_view g.W.Planned.plan g.S.Stage.meaning) (ExecutorStands g.W.Named.world g.W.Planned.plan g.S.Stage.meaning g.S.Stage.stands_after g.T.Transport.state) lanes c.in_ok-nodes.nodes.items z.0 z.1)
          (λ i. (sym (c.lane_count-data_lanes.ensures ∙ ap (λ (l : List (ChannelPartView g.row.S.Denot g.row.T.Denot)). length (data_lanes_of l)) c.deref.ensures.value) i, sym c.deref-6.ensures.value i))
          (ready-fit g.S.Stage.meaning g.S.Stage.stands_after g.T.Transport.state g.W.Planned.plan c.in_ok-parts.parts.items (ready g at.In_ok-parts) count (count-is g at.In_ok-parts) lanes (lanes-are g at.In_ok-lanes)
          g.W.Named.world c.requires.run.named c.args.setting.words.now c.args.setting.seats.items (seated g at.In_ok-parts) (rows_in c.in_ok-rows.rows.items) c.in_ok-nodes.nodes.items c.in_ok-places.places.items (rows-are g at.In_ok-rows) c.in_ok-nodes.ensures places);
    }

pub ran_of-requires-clause-plan : goal.ran_of-requires-clause-plan
ran_of-requires-clause-plan g c = subst (λ (p : Plan). IsPlan p) (sym c.requires.run.made) (c.into_channels.ensures.is_world.ruled c.args.capacity c.requires.run.some)

pub ran_of-requires-clause-executors : goal.ran_of-requires-clause-executors
ran_of-requires-clause-executors g c =
    let at = goal.at.ran_of-requires-clause-executors g c in
    let count = nodes-count g at.In_ok-nodes ∙ count-is g at.In_ok-parts in
    ended-executors (λ e. e.0) (own_view g.W.Planned.plan g.S.Stage.meaning) c.in_ok-executors.executors.items c.in_ok-finished.finished.items c.in_ok-finished.ensures.ended
    ∙ executors-in-order (λ e. e.0) c.in_ok-executors.executors.items c.in_ok-nodes.nodes.items g.W.Planned.plan.executors c.in_ok-executors.ensures.parts count c.in_ok-executors.ensures.first

pub ran_of-requires-clause-channels : goal.ran_of-requires-clause-channels
ran_of-requires-clause-channels g c =
    let channels = c.args.world.channels in
    let recorded = ap (λ (l : List (Recorded g.row.S.Denot g.row.T.Denot)). length l) (c.into_vec.ensures ∙ c.into_channels.ensures.channels) in
    let plan = ap (λ (p : Plan). length p.channels) c.requires.run.made in
    omega (arith, c.len-channels.ensures, c.in_ok-parts.parts.ok.0, c.in_ok-parts.ensures.count, recorded, plan, length-map channels (channel_planned g.S.Stage.meaning g.T.Transport.state))

-- each executor has told its first turn
pub returns-clause-entered : goal.returns-clause-entered
returns-clause-entered g c = λ e lt.
    let at = goal.at.returns-clause-entered g c in
    let count = nodes-count g at.In_ok-nodes ∙ count-is g at.In_ok-parts in
    first-turns (λ e. e.0) c.in_ok-executors.executors.items c.in_ok-nodes.nodes.items g.W.Planned.plan.executors (g.G.Gate.was_entered c.args.setting.gate.now) c.in_ok-executors.ensures.parts
    count c.in_ok-executors.ensures.first c.in_ok-finished.ensures.entered e lt
