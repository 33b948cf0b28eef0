use Rattle.std.specs.Global.{Vec}
use Rattle.std.proofs.Common.{◌≡◌, map, ap, sym, subst, ◌∙◌, arith}
use Rattle.pl_event.specs.declared.envelopes.Lane.{Lane}
use Rattle.pl_queue.specs.declared.views.TakerView.{TakerView}
use Rattle.pl_queue.specs.Left.{lanes_of_senders}
use Rattle.pl_words.specs.Admissions.{OwnerSeatView, SendSeatView, new_send_seat}
use Rattle.pl_post.specs.Posts.{IsTakeCounted}
use Rattle.pl_post.proofs.CountLemmas.{counted-fresh}
use Rattle.pl_post.proofs.SeatLemmas.{all-fresh, all-unused, all-made, sends-made, each-of, few-lanes}
use Rattle.pl_post.proofs.posts.Post.open.Goals as goal

pub paired-requires-clause-fresh : goal.paired-requires-clause-fresh
paired-requires-clause-fresh g c = all-fresh g.M.Mailbox.ends.sends_of c.in_ok-mailbox.senders.items c.args.lanes.items c.in_ok-mailbox.ensures.senders.1

pub paired-requires-clause-unused : goal.paired-requires-clause-unused
paired-requires-clause-unused g c = all-unused c.in_ok-admission.admission.name c.in_ok-admission.seats.items c.in_ok-admission.ensures.seats.1

pub invariant_of-owner : goal.invariant_of-owner
invariant_of-owner g c =
    let lanes = map (λ (v : Vec Lane). v.items) c.args.lanes.items in
    let takes = c.in_ok-mailbox.ensures.taker.1 in
    let none = ap (λ (t : TakerView). t.pops) takes in
    let run = ap (λ (o : OwnerSeatView). o.run) c.in_ok-admission.ensures.owner in
    record {
      count = sym none;
      counted = subst IsTakeCounted (sym takes) (counted-fresh (lanes_of_senders lanes) (few-lanes lanes c.args.capacity c.in_ok-mailbox.ensures.opened.0));
      run = λ closed. omega (arith, run);
    }

pub returns-clause-seats : goal.returns-clause-seats
returns-clause-seats g c =
    let name = c.in_ok-admission.admission.name in
    all-made g.M.Mailbox.ends (record { mailbox = c.in_ok-mailbox.mailbox; name = name }) c.in_ok-seats.seats.items c.in_ok-mailbox.senders.items c.in_ok-admission.seats.items
    c.in_ok-seats.ensures.senders c.in_ok-seats.ensures.seats c.in_ok-mailbox.ensures.senders.0
    (each-of (λ (s : SendSeatView). s ≡ new_send_seat name s.number) c.in_ok-admission.seats.items c.in_ok-admission.ensures.seats.1)

pub returns-clause-sends : goal.returns-clause-sends
returns-clause-sends g c = sends-made g.M.Mailbox.ends.sends_of c.in_ok-seats.seats.items c.in_ok-mailbox.senders.items c.in_ok-seats.ensures.senders ∙ c.in_ok-mailbox.ensures.senders.1
