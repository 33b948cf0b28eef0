use Rattle.std.proofs.Common.{refl, ap, ◌∙◌, arith}
use Rattle.pl_live.specs.LiveStand.{LiveView}
use Rattle.pl_live.proofs.live.Live.write_out.Goals as goal

pub loop-init : goal.loop-init
loop-init g c = record {
  stands = λ p s. s;
  same = refl;
  reads = (refl, refl);
  sent = λ p s. let within = s.handed.consumed_within in omega (arith, within);
}

pub loop-preserved : goal.loop-preserved
loop-preserved g c =
    let i = c.loop.invariant in
    let o = c.offer.ensures in
    let more = o.more c.if-not-offer.false in
    let kept = ap (λ (l : LiveView _ _). l.consumed) o.same in
    record {
      stands = λ p s. o.stands p (i.stands p s);
      same = o.same ∙ ap (λ (l : LiveView _ _). record l { stations = c.offer.new.self.stations }) i.same;
      reads = (o.reads.0 ∙ i.reads.0, o.reads.1 ∙ i.reads.1);
      sent = λ p s. let sent = i.sent p s in omega (arith, sent, more, kept);
    }

pub returns : goal.returns
returns g c =
    let i = c.loop.invariant in
    record {
      stands = i.stands;
      same = i.same;
      reads = i.reads;
      written = λ p w h s window is unfailed all.
          let sent = i.sent p s in
          let over = c.loop-test.false in
          absurd (omega (arith, sent, over, all));
    }

pub returns-then-not-offer-clause-written : goal.returns-then-not-offer-clause-written
returns-then-not-offer-clause-written g c = λ p w h s window is unfailed _. c.offer.ensures.written c.if-not-offer.true p w h (c.loop.invariant.stands p s) window is unfailed
