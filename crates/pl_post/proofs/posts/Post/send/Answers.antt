use Rattle.std.proofs.Common.{◌≡◌, ap, sym, subst, ◌∙◌, arith}
use Rattle.pl_queue.specs.declared.views.SenderView.{SenderView}
use Rattle.pl_queue.specs.Room.{IsCounted}
use Rattle.pl_queue.proofs.RoomLemmas.{counted-goes_on}
use Rattle.pl_words.specs.Admissions.{SendSeatView}
use Rattle.pl_queue.specs.Views.{sent_of}
use Rattle.pl_post.specs.Posts.{PostSeatView}
use Rattle.pl_post.proofs.posts.Post.send.Goals as goal

pub invariant_of-seat-in-Ok-offer : goal.invariant_of-seat-in-Ok-offer
invariant_of-seat-in-Ok-offer g c =
    let sent = c.in-Ok-offer.ensures.sent in
    let admitted = c.in-Ok.ensures.ok.1.counted in
    let next = ap (λ (s : PostSeatView g.row.M-Sender.Denot). sent_of c.args.envelope.lane (g.M.Mailbox.ends.sends_of s.sender).send_counts) c.seat.view_is ∙ c.requires.next in
    let before = g.M.Mailbox.ends.sends_of c.seat.inside.sender in
    record {
      kept = omega (arith, ap (λ (s : SendSeatView). s.kept) admitted, ap (λ (s : SenderView). s.pushes) sent, c.seat.invariant.kept);
      counted = subst IsCounted (sym sent) (counted-goes_on before c.args.envelope c.seat.invariant.counted next c.requires.small);
    }
