use Rattle.std.proofs.Common.{subst, sym, ◌∙◌, arith}
use Rattle.pl_post_tests.specs.Turns.{IsInTurn}
use Rattle.pl_post_tests.proofs.TurnLemmas.{each-place, each-written}
use Rattle.pl_post_tests.proofs.tests.four_senders.feed_all.Goals as goal

pub returns : goal.returns
returns g c =
    let same = c.for_each_mut.auto.s in
    let len = c.as_mut_slice.ensures.len in
    record {
      feeders = each-written (λ f. IsInTurn g.M.Mailbox.ends c.args.post.now f.seat f.first f.sent) c.args.feeders.len c.for_each_mut.new.s c.args.feeders.items (omega (arith, same, len))
          (each-place (λ f. IsInTurn g.M.Mailbox.ends c.args.post.now f.seat f.first f.sent) c.for_each_mut.new.s
          (λ i f less is. let changed = (c.for_each_mut.ensures i f (omega (arith, less, same))).1 in
          subst (λ f'. IsInTurn g.M.Mailbox.ends c.args.post.now f'.seat f'.first f'.sent) (changed.left ∙ sym is) changed.call));
    }
