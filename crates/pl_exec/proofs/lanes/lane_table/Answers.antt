use Rattle.std.proofs.Common.{◌≡◌, ◌+◌, ◌++◌, ℕ, List, Some, length, slice_get, take, ap, refl, sym, ◌∙◌, append-nil, arith}
use Rattle.std.specs.List.{flat_map, range_with_len}
use Rattle.std.proofs.lemmas.List.{take_all}
use Rattle.std.proofs.lemmas.Option.{slice_get_read}
use Rattle.pl_event.specs.declared.envelopes.Lane.{Lane}
use Rattle.pl_part.specs.Parts.{ChannelPartView}
use Rattle.pl_part.specs.Paths.{writer_hop}
use Rattle.pl_channel.specs.Channels.{executor_at}
use Rattle.pl_exec.specs.Opening.{LaneTable}
use Rattle.pl_exec.specs.Lanes.{every_lane, lanes_at, table_of, with_lanes}
use Rattle.pl_exec.proofs.LaneTablesGrown.{next-hop, none-in}
use Rattle.pl_exec.proofs.LaneTablesSteps.{channel-executors, channel-few, channel-more, joined-more}
use Rattle.pl_exec.proofs.lanes.lane_table.Goals as goal

pub loop-part-init : goal.loop-part-init
loop-part-init g c = record { number = refl; made = none-in c.in_ok-table.table.items c.args.count c.in_ok-table.ensures.count c.in_ok-table.ensures.none }

pub overflow_cast-hops : goal.overflow_cast-hops
overflow_cast-hops g c =
    let few = channel-few c.args.parts.now c.loop-part.part-index c.part-item.result c.loop-part-test.true c.part-item.is c.requires in
    omega (arith, few, c.hops-hops.ensures)

pub loop-hop-init : goal.loop-hop-init
loop-hop-init g c = c.loop-part.invariant.made ∙ ap (λ (l : List Lane). table_of c.args.parts.now c.args.count l) (sym (append-nil (every_lane (take c.loop-part.part-index c.args.parts.now))))

pub add_hop-requires-clause-hops : goal.add_hop-requires-clause-hops
add_hop-requires-clause-hops g c = channel-executors c.args.parts.now c.loop-part.part-index c.part-item.result c.loop-part-test.true c.part-item.is c.requires

pub add_hop-requires-clause-there : goal.add_hop-requires-clause-there
add_hop-requires-clause-there g c = omega (arith, c.loop-hop-test.true, c.hops-hops.ensures)

pub loop-hop-preserved : goal.loop-hop-preserved
loop-hop-preserved g c =
    let ps = c.args.parts.now in
    let p = c.part-item.result in
    let hops = length p.path.executors in
    let channel = c.loop-part.channel in
    let hop = c.loop-hop.hop in
    let done = every_lane (take c.loop-part.part-index ps) in
    let lanes = flat_map (lanes_at channel hops) (range_with_len 0 hop) in
    let at : slice_get ps channel ≡ Some p = ap (λ (n : ℕ). slice_get ps n) c.loop-part.invariant.number ∙ slice_get_read ps (length ps) c.loop-part.part-index p refl c.loop-part-test.true c.part-item.is in
    c.in_ok-add_hop.ensures
    ∙ ap (λ (t : LaneTable). with_lanes t (executor_at p (writer_hop p.path hop)) (executor_at p hop) (lanes_at channel hops hop)) c.loop-hop.invariant
    ∙ next-hop ps c.args.count channel hops hop p at (done ++ lanes)
    ∙ ap (λ (l : List Lane). table_of ps c.args.count l) (joined-more (lanes_at channel hops) done (done ++ lanes) ((done ++ lanes) ++ lanes_at channel hops hop) hop refl refl)

pub loop-part-preserved : goal.loop-part-preserved
loop-part-preserved g c =
    let ps = c.args.parts.now in
    let i = c.loop-part.part-index in
    let p = c.part-item.result in
    let number = c.loop-part.invariant.number in
    let all : c.loop-hop.hop ≡ length p.path.executors = omega (arith, c.loop-hop-test.false, c.loop-hop.auto.hop-end, c.hops-hops.ensures) in
    record {
      number = ap (λ (n : ℕ). n + 1) number;
      made =
          c.loop-hop.invariant
          ∙ (λ k. table_of ps c.args.count (every_lane (take i ps) ++ flat_map (lanes_at (number k) (length p.path.executors)) (range_with_len 0 (all k))))
          ∙ ap (λ (l : List Lane). table_of ps c.args.count l) (channel-more ps i p c.loop-part-test.true c.part-item.is);
    }

pub returns : goal.returns
returns g c = c.loop-part.invariant.made ∙ ap (λ (l : List (ChannelPartView g.row.S.Denot g.row.T.Denot)). table_of c.args.parts.now c.args.count (every_lane l)) (take_all c.loop-part.part-index c.args.parts.now c.loop-part-test.false)
