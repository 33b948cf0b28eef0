use Rattle.std.proofs.Common.{◌+◌, false, ap, sym, subst, ◌∙◌, get_or, ◌≡◌, arith}
use Rattle.std.proofs.lemmas.Iterator.Adapters.{YieldsList-from_vec}
use Rattle.std.proofs.lemmas.Iterator.Consumers.{YieldsList-turn, YieldsList-end}
use Rattle.std.proofs.lemmas.List.{length_push}
use Rattle.pl_queue.specs.declared.views.SenderView.{SenderView}
use Rattle.pl_queue.specs.Views.{sent_of}
use Rattle.pl_queue_tests.proofs.RelayLemmas.{line-fits, lines-end, sent_of-this}
use Rattle.pl_queue_tests.proofs.lines.send_lines.Goals as goal

pub hand_over-requires-clause-fits : goal.hand_over-requires-clause-fits
hand_over-requires-clause-fits g c =
    let gives = c.into_iter-line-iterator.ensures.into_iter_gives in
    let items = c.args.lines.items in
    let x = c.in-Some.line in
    let t = YieldsList-turn (YieldsList-from_vec {s = c.into_iter-line-iterator.result} items gives.0 (gives.1 ∙ c.args.lines.ok.0)) c.loop-line.yielded c.loop-line.line-iterator c.loop-line.yielded_by _ c.next.new.self x c.in-Some.is c.next.ensures.steps in
    let n = c.loop-line.invariant.number_is in
    line-fits g.W.Named.world c.args.lane items c.loop-line.number x c.requires.world (omega (arith, n, t.0)) (subst (λ i. x ≡ get_or items i x) (sym n) t.1)

pub loop-line-preserved : goal.loop-line-preserved
loop-line-preserved g c =
    let n = c.loop-line.number in
    record {
      sender = c.hand_over.ensures.sender;
      sent = ap (λ (s : SenderView). sent_of c.args.lane s.send_counts) c.hand_over.ensures.sent
          ∙ sent_of-this c.args.lane (n + 1) false (g.M.Mailbox.ends.sends_of c.loop-line.sender).send_counts n false c.loop-line.invariant.sent;
      number_is = ap (λ k. k + 1) c.loop-line.invariant.number_is ∙ sym (length_push c.loop-line.yielded c.in-Some.line);
    }

pub hand_over-requires-2-clause-fits : goal.hand_over-requires-2-clause-fits
hand_over-requires-2-clause-fits g c =
    let gives = c.into_iter-line-iterator.ensures.into_iter_gives in
    let items = c.args.lines.items in
    let t = YieldsList-end (YieldsList-from_vec {s = c.into_iter-line-iterator.result} items gives.0 (gives.1 ∙ c.args.lines.ok.0)) c.loop-line.yielded c.loop-line.line-iterator c.loop-line.yielded_by _ c.next.new.self c.in-None.is c.next.ensures.steps in
    lines-end g.W.Named.world c.args.lane items c.loop-line.number c.requires.world (c.loop-line.invariant.number_is ∙ t.1)
