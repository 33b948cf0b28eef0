use Rattle.std.proofs.Common.{◌++◌, map, length, ap, ◌∙◌, arith}
use Rattle.std.proofs.lemmas.Iterator.Adapters.{YieldsList-from_vec}
use Rattle.std.proofs.lemmas.Iterator.Consumers.{YieldsList-turn, YieldsList-end}
use Rattle.std.proofs.lemmas.List.{take_all}
use Rattle.pl_queue.specs.declared.views.PassView.{PassView}
use Rattle.pl_queue.specs.Left.{send_counts_of}
use Rattle.pl_queue.proofs.Lists.{Each-at}
use Rattle.pl_queue.proofs.TakerLemmas.{joined-more}
use Rattle.pl_queue.proofs.ends.unite_all.Goals as goal

pub loop-sender-preserved : goal.loop-sender-preserved
loop-sender-preserved g c =
    let gives = c.into_iter-sender-iterator.ensures.into_iter_gives in
    let items = c.args.senders.items in
    let done = c.loop-sender.yielded in
    let t = YieldsList-turn (YieldsList-from_vec {s = c.into_iter-sender-iterator.result} items gives.0 (gives.1 ∙ c.args.senders.ok.0)) done c.loop-sender.sender-iterator c.loop-sender.yielded_by _ c.next.new.self c.in-Some.sender c.in-Some.is c.next.ensures.steps in
    let inv = c.loop-sender.invariant in
    let is = c.unite.ensures.joined in
    record {
      pass = c.unite.ensures.pass;
      taker = ap (λ (v : PassView). v.taker) is ∙ inv.taker;
      takes = ap (λ (v : PassView). v.takes) is ∙ inv.takes;
      send_counts = ap (λ (v : PassView). v.sends.send_counts) is ∙ joined-more (λ s. (g.Q.RuledQueue.view_of s.pass).sends) items done c.in-Some.sender (g.Q.RuledQueue.view_of c.args.pass.now).sends.send_counts (g.Q.RuledQueue.view_of c.loop-sender.pass).sends.send_counts t.0 t.1 inv.send_counts;
    }

pub unite-requires-clause-theirs : goal.unite-requires-clause-theirs
unite-requires-clause-theirs g c =
    let gives = c.into_iter-sender-iterator.ensures.into_iter_gives in
    let items = c.args.senders.items in
    let done = c.loop-sender.yielded in
    let t = YieldsList-turn (YieldsList-from_vec {s = c.into_iter-sender-iterator.result} items gives.0 (gives.1 ∙ c.args.senders.ok.0)) done c.loop-sender.sender-iterator c.loop-sender.yielded_by _ c.next.new.self c.in-Some.sender c.in-Some.is c.next.ensures.steps in
    Each-at (λ s. g.Q.RuledQueue.is_pass c.args.queue.now s.pass) items (length done) c.in-Some.sender t.0 t.1 c.requires.senders

pub returns-clause-send_counts : goal.returns-clause-send_counts
returns-clause-send_counts g c =
    let gives = c.into_iter-sender-iterator.ensures.into_iter_gives in
    let items = c.args.senders.items in
    let done = c.loop-sender.yielded in
    let t = YieldsList-end (YieldsList-from_vec {s = c.into_iter-sender-iterator.result} items gives.0 (gives.1 ∙ c.args.senders.ok.0)) done c.loop-sender.sender-iterator c.loop-sender.yielded_by _ c.next.new.self c.in-None.is c.next.ensures.steps in
    c.loop-sender.invariant.send_counts
    ∙ ap (λ ss. (g.Q.RuledQueue.view_of c.args.pass.now).sends.send_counts ++ send_counts_of (map (λ s. (g.Q.RuledQueue.view_of s.pass).sends) ss)) (take_all (length done) items (omega (arith, t.1)))
