use Rattle.std.proofs.Common.{map, List, subst, sym}
use Rattle.pl_queue.specs.declared.views.PassView.{PassView}
use Rattle.pl_queue.specs.Left.{LaneLeftView, held_of, IsEmptying}
use Rattle.pl_queue.specs.Rule.{BothSee}
use Rattle.pl_queue.proofs.Drains.{emptying-more, emptying-ends, emptying-positions, emptying-there}
use Rattle.pl_queue.proofs.Lists.{no_items}
use Rattle.pl_queue.proofs.ends.empty.Goals as goal

pub put-requires-clause-positions : goal.put-requires-clause-positions
put-requires-clause-positions g c =
    let start = g.Q.RuledQueue.view_of c.args.pass.now in
    emptying-positions g.W.Named.world start.sends.send_counts start.takes.counts (g.Q.RuledQueue.view_of c.loop.pass) (map held_of c.loop.all.items) c.args.positions.now.rows.items c.loop.invariant.emptying c.requires.positions

pub put-requires-clause-there : goal.put-requires-clause-there
put-requires-clause-there g c =
    let start = g.Q.RuledQueue.view_of c.args.pass.now in
    emptying-there g.W.Named.world start.sends.send_counts start.takes.counts (g.Q.RuledQueue.view_of c.loop.pass) (map held_of c.loop.all.items) c.in-Some-pop.envelope c.loop.invariant.emptying c.in-Some-pop.ensures.popped.0

pub loop-preserved : goal.loop-preserved
loop-preserved g c =
    let inv = c.loop.invariant in
    let told = c.in-Some-pop.ensures.popped in
    let put = c.in_ok-put-in-Some-pop.ensures in
    let start = g.Q.RuledQueue.view_of c.args.pass.now in
    let more = emptying-more g.W.Named.world start.sends.send_counts start.takes.counts (g.Q.RuledQueue.view_of c.loop.pass) (map held_of c.loop.all.items) c.in-Some-pop.envelope inv.emptying told.0 in
    record {
      pass = c.pop.ensures.pass;
      emptying = subst (λ (y : PassView × List LaneLeftView). IsEmptying g.W.Named.world start.sends.send_counts start.takes.counts y.0 y.1) (λ i. (sym told.1 i, sym put i)) more;
    }

pub returns-in-None-pop : goal.returns-in-None-pop
returns-in-None-pop g c =
    let was = c.in-None-pop.ensures.popped.1 in
    let start = g.Q.RuledQueue.view_of c.args.pass.now in
    emptying-ends g.W.Named.world start.sends.send_counts start.takes.counts (g.Q.RuledQueue.view_of c.loop.pass) (map held_of c.loop.all.items) c.loop.invariant.emptying c.requires.apart c.requires.lanes
    (subst (λ xs. BothSee g.W.Named.world (g.Q.RuledQueue.view_of c.loop.pass) xs) (sym (no_items was.0 was.1)) was.2)
