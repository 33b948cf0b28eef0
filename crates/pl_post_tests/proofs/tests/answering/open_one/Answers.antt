use Rattle.std.proofs.Common.{◌≡◌, [], ◌∷◌, ap, ◌∙◌}
use Rattle.pl_event.specs.declared.envelopes.Lane.{Lane}
use Rattle.pl_event.specs.Hops.{flags_lane}
use Rattle.pl_queue.specs.Left.{own_lanes}
use Rattle.pl_queue_tests.proofs.RelayLemmas.{opened_one}
use Rattle.pl_words.specs.Admissions.{new_send_seat}
use Rattle.pl_post.specs.Posts.{IsSeatOf}
use Rattle.pl_post_tests.proofs.FeedingLemmas.{each-first, one-apart}
use Rattle.pl_post_tests.proofs.tests.answering.open_one.Goals as goal

pub open-requires-clause-apart : goal.open-requires-clause-apart
open-requires-clause-apart g c = one-apart own_lanes c.in-Ok-from_array.lanes.items c.in-Ok.own (flags_lane 0 0) c.in-Ok-from_array.ensures.items (c.in-Ok.ensures.items ∙ ap (λ (l : Lane). l ∷ []) c.lane.ensures)

pub returns-clause-seat : goal.returns-clause-seat
returns-clause-seat g c =
    let opened = opened_one (λ s. IsSeatOf g.M.Mailbox.ends c.in-Ok-open.post s) (λ s. g.M.Mailbox.ends.sends_of s.sender) own_lanes c.in-Ok-open.seats.items c.pop.new.self.items
    c.in-Some.seat c.in-Ok-from_array.lanes.items c.in-Ok.own (flags_lane 0 0)
    (each-first (λ s. IsSeatOf g.M.Mailbox.ends c.in-Ok-open.post s) (λ s. s.seat ≡ new_send_seat c.in-Ok-open.post.name s.seat.number) c.in-Ok-open.seats.items c.in-Ok-open.ensures.seats)
    c.in-Ok-open.ensures.sends c.in-Some.ensures.items c.in-Ok-from_array.ensures.items (c.in-Ok.ensures.items ∙ ap (λ (l : Lane). l ∷ []) c.lane.ensures) in
    (opened.0, opened.1.0)
