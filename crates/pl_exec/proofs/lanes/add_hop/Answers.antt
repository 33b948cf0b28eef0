use Rattle.std.proofs.Common.{◌≡◌, ◌+◌, ◌==◌, [], ◌∷◌, true, false, length, ap, sym, ◌∙◌, arith}
use Rattle.std.specs.Prelude.{if◌then◌else◌}
use Rattle.std.proofs.lemmas.Bool.{eq-eqb, ne_eqb}
use Rattle.pl_event.specs.Hops.{data_lane, flags_lane}
use Rattle.pl_exec.specs.Opening.{LaneTable, lanes_in}
use Rattle.pl_exec.specs.Lanes.{with_lane, with_lanes}
use Rattle.pl_exec.proofs.lanes.add_hop.Goals as goal

pub returns-in_ok-add_between-2 : goal.returns-in_ok-add_between-2
returns-in_ok-add_between-2 g c =
    let first = data_lane c.args.channel c.args.hop in
    let second = flags_lane c.args.channel c.args.hop in
    let hops = length c.args.part.now.path.executors in
    let last : (c.args.hop + 1 == hops) ≡ false = ne_eqb (c.args.hop + 1) hops (λ e. omega (arith, e, c.if-hop-head_hop.true, c.head_hop.ensures, c.requires.hops.hops)) in
    c.in_ok-add_between-2.ensures
    ∙ ap (λ (t : LaneTable). with_lane t c.origin_of-origin.result c.target-target.result second) c.in_ok-add_between.ensures
    ∙ (λ i. with_lanes (lanes_in c.args.table.now.items) (c.origin_of-origin.ensures i) (c.target-target.ensures i) (if sym last i then first ∷ [] else first ∷ second ∷ []))

pub returns-else-hop-head_hop : goal.returns-else-hop-head_hop
returns-else-hop-head_hop g c =
    let first = data_lane c.args.channel c.args.hop in
    let second = flags_lane c.args.channel c.args.hop in
    let hops = length c.args.part.now.path.executors in
    let last : (c.args.hop + 1 == hops) ≡ true = eq-eqb (c.args.hop + 1) hops (omega (arith, c.if-hop-head_hop.false, c.head_hop.ensures, c.requires.hops.hops, c.requires.there)) in
    c.in_ok-add_between.ensures ∙ (λ i. with_lanes (lanes_in c.args.table.now.items) (c.origin_of-origin.ensures i) (c.target-target.ensures i) (if sym last i then first ∷ [] else first ∷ second ∷ []))
