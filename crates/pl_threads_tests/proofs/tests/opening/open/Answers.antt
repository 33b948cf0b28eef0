use Rattle.std.proofs.Common.{◌≡◌, ◌∷◌, [], List, ap, subst, sym, ◌∙◌}
use Rattle.pl_event.specs.declared.envelopes.Lane.{Lane}
use Rattle.pl_queue.specs.Views.{fresh_sends, fresh_takes}
use Rattle.pl_queue.specs.Left.{lanes_of_senders}
use Rattle.pl_words.specs.Names.{Name}
use Rattle.pl_words.specs.Admissions.{AdmissionView, SendSeatView, new_owner_seat, new_send_seat}
use Rattle.pl_threads_tests.specs.Nodes.{lane_to}
use Rattle.pl_threads_tests.proofs.StartLemmas.{all-of-three, each-of-three, way-is}
use Rattle.pl_threads_tests.proofs.tests.opening.open.Goals as goal

pub returns : goal.returns
returns g c =
    let M = g.M.Mailbox in
    let mailbox = c.in_ok-mailbox.mailbox in
    let ends = c.in_three-writer.result in
    let seats = c.in_three-writer_seat.result in
    let name = c.in_ok-admission.admission.name in
    let inbox = c.in_ok-inbox.inbox in
    let lane = lane_to c.args.executor ∷ [] in
    let same = c.in_ok-inbox.ensures.mailbox in
    let named : inbox.admission.name ≡ name = ap (λ (a : AdmissionView). a.name) c.in_ok-inbox.ensures.admission in
    let sends = each-of-three (λ s. M.ends.is_sender mailbox s) M.ends.sends_of c.in_ok-mailbox.senders.items ends.0 ends.1 ends.2 (fresh_sends lane) (fresh_sends []) (fresh_sends [])
    c.in_three-writer.ensures c.in_ok-mailbox.ensures.senders.0 (c.in_ok-mailbox.ensures.senders.1 ∙ c.in_ok-lanes.ensures.sends) in
    let admits = all-of-three (λ (s : SendSeatView). s ≡ new_send_seat name s.number) c.in_ok-admission.seats.items seats.0 seats.1 seats.2 c.in_three-writer_seat.ensures c.in_ok-admission.ensures.seats.1 in record {
      own = record {
        taker = subst (λ (m : _). M.ends.is_taker m c.in_ok-mailbox.taker) (sym same) c.in_ok-mailbox.ensures.taker.0;
        takes = c.in_ok-mailbox.ensures.taker.1 ∙ ap (λ (ls : List (List Lane)). fresh_takes (lanes_of_senders ls)) c.in_ok-lanes.ensures.lanes;
        owner = c.in_ok-admission.ensures.owner ∙ ap (λ (n : Name). new_owner_seat n) (sym named);
      };
      flags = way-is M.ends mailbox name inbox lane (record { sender = ends.0; seat = seats.0 }) same named sends.0 admits.0;
      none = way-is M.ends mailbox name inbox [] (record { sender = ends.1; seat = seats.1 }) same named sends.1 admits.1;
      never = way-is M.ends mailbox name inbox [] (record { sender = ends.2; seat = seats.2 }) same named sends.2 admits.2;
    }
