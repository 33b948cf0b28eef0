use Rattle.std.proofs.Common.{None, true, map, ap, sym, ◌∙◌, ◌<◌, length, arith}
use Rattle.std.proofs.lemmas.List.{take_all}
use Rattle.pl_queue.specs.Left.{lanes_of_senders, own_lanes}
use Rattle.pl_queue.specs.Views.{fresh_sends, fresh_takes, dealing, view_of, no_sends, takes, next_of, has_lane}
use Rattle.pl_queue.proofs.Lists.{counts-more, lanes-new}
use Rattle.pl_queue.proofs.TakerLemmas.{dealt-more}
use Rattle.pl_queue.proofs.ends.deal_all.Goals as goal

pub deal-sender-requires-clause-fresh : goal.deal-sender-requires-clause-fresh
deal-sender-requires-clause-fresh g c = λ l k.
    let lt : c.loop-own.own-index < length c.args.lanes.now = omega arith in
    ap (λ v. next_of l v.takes.counts) c.loop-own.invariant.dealt
    ∙ lanes-new own_lanes c.args.lanes.now c.loop-own.own-index c.own-item.result lt c.own-item.is c.requires.apart l (ap (λ ls. has_lane l ls) (sym c.as_slice.ensures.value) ∙ k)

pub loop-own-preserved : goal.loop-own-preserved
loop-own-preserved g c =
    let lt : c.loop-own.own-index < length c.args.lanes.now = omega arith in
    let i = c.loop-own.own-index in
    let lanes = c.args.lanes.now in
    let own = c.as_slice.result.now in
    let made = c.deal-sender.ensures in
    let inv = c.loop-own.invariant in
    let more = dealt-more (λ s. g.Q.RuledQueue.is_pass c.args.queue.now s.pass) (λ s. (g.Q.RuledQueue.view_of s.pass).sends) own_lanes lanes i c.own-item.result
    c.loop-own.senders.items c.push.new.self.items c.deal-sender.result lt c.own-item.is c.in_ok-push.ensures.items inv.senders made.sender.0 inv.sent (made.sender.1 ∙ ap fresh_sends c.as_slice.ensures.value) in
    record {
      pass = made.pass.0;
      dealt = made.pass.1 ∙ ap (λ v. dealing own v) inv.dealt
          ∙ ap (λ ms. view_of true no_sends (takes ms 0 None)) (sym (counts-more own_lanes lanes i c.own-item.result own lt c.own-item.is c.as_slice.ensures.value));
      senders = more.0;
      sent = more.1;
    }

pub returns-clause-pass : goal.returns-clause-pass
returns-clause-pass g c =
    let inv = c.loop-own.invariant in
    (inv.pass, inv.dealt ∙ ap (λ ls. view_of true no_sends (fresh_takes (lanes_of_senders (map own_lanes ls)))) (take_all c.loop-own.own-index c.args.lanes.now c.loop-own-test.false))

pub returns-clause-senders : goal.returns-clause-senders
returns-clause-senders g c =
    let inv = c.loop-own.invariant in
    (inv.senders, inv.sent ∙ ap (λ ls. map (λ v. fresh_sends (own_lanes v)) ls) (take_all c.loop-own.own-index c.args.lanes.now c.loop-own-test.false))
