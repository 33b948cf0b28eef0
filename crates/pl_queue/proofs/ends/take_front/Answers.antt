use Rattle.std.proofs.Common.{◌+◌, ap, sym, subst, ◌∙◌}
use Rattle.pl_queue.specs.declared.views.PassView.{PassView}
use Rattle.pl_queue.specs.Left.{Apart}
use Rattle.pl_queue.specs.Positions.{ArePositions}
use Rattle.pl_queue.specs.Views.{set_take_count, lanes_of_counts, has_lane}
use Rattle.pl_queue.proofs.Drains.{set_take_count-lanes}
use Rattle.pl_queue.proofs.PositionLemmas.{next_of-has}
use Rattle.pl_queue.proofs.ends.take_front.Goals as goal

pub returns-clause-taker : goal.returns-clause-taker
returns-clause-taker g c =
    let was = c.requires.taker.1 in
    let told = c.in_ok-envelope.ensures.popped in
    let x = c.in_ok-envelope.envelope in
    let counts = (g.Q.RuledQueue.view_of c.args.taker.now.pass).takes.counts in (
      c.pop.ensures.pass,
      record {
        taker = ap (λ (v : PassView). v.taker) told.1 ∙ was.taker;
        send_counts = ap (λ (v : PassView). v.sends.send_counts) told.1 ∙ was.send_counts;
        counts_are = c.set_next.ensures ∙ ap (λ ms. set_take_count x.lane (x.number + 1) ms) was.counts_are ∙ sym (ap (λ (v : PassView). v.takes.counts) told.1);
        apart = subst Apart (sym (ap (λ (v : PassView). lanes_of_counts v.takes.counts) told.1 ∙ set_take_count-lanes x.lane (x.number + 1) counts)) was.apart;
        positions = subst (λ ls. ArePositions c.args.taker.now.positions.rows.items 0 ls) (sym (ap (λ (v : PassView). lanes_of_counts v.takes.counts) told.1 ∙ set_take_count-lanes x.lane (x.number + 1) counts)) was.positions;
      },
    )

pub set_next-requires-clause-there : goal.set_next-requires-clause-there
set_next-requires-clause-there g c =
    let x = c.in_ok-envelope.envelope in
    let counts = (g.Q.RuledQueue.view_of c.args.taker.now.pass).takes.counts in
    ap (λ ms. has_lane x.lane (lanes_of_counts ms)) c.requires.taker.1.counts_are ∙ next_of-has x.lane counts x.number c.in_ok-envelope.ensures.popped.0.number

pub set_next-requires-clause-positions : goal.set_next-requires-clause-positions
set_next-requires-clause-positions g c =
    subst (λ ms. ArePositions c.args.taker.now.positions.rows.items 0 (lanes_of_counts ms)) (sym c.requires.taker.1.counts_are) c.requires.taker.1.positions
