use Rattle.std.proofs.Common.{◌≡◌, ◌+◌, ◌^◌, ℕ, ap, sym, subst, ◌∙◌, arith}
use Rattle.pl_queue.specs.declared.views.TakerView.{TakerView}
use Rattle.pl_post.specs.Posts.{IsOwner, IsTakeCounted}
use Rattle.pl_post.proofs.CountLemmas.{counted-take, pops-few}
use Rattle.pl_post.proofs.posts.Post.take.Goals as goal

pub overflow_add-owner : goal.overflow_add-owner
overflow_add-owner g c = let few = pops-few (g.M.Mailbox.ends.takes_of c.owner.inside.taker) c.owner.invariant.counted in omega (arith, few, c.owner.invariant.count)

pub invariant_of-owner-2 : goal.invariant_of-owner-2
invariant_of-owner-2 g c =
    let x = c.in_ok-envelope.envelope in
    let taken = c.in_ok-envelope.ensures.taken in
    let before = g.M.Mailbox.ends.takes_of c.owner.inside.taker in
    let more = ap (λ (t : TakerView). t.pops) taken.3 in
    record {
      count = omega (arith, more, c.owner.invariant.count);
      counted = subst IsTakeCounted (sym taken.3) (counted-take before x c.owner.invariant.counted taken.0 taken.1);
      run = λ closed. omega (arith, more, c.owner.invariant.run closed);
    }
