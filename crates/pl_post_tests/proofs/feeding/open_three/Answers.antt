use Rattle.std.proofs.Common.{◌≡◌, [], ◌∷◌, ap, ◌∙◌}
use Rattle.pl_event.specs.declared.envelopes.Lane.{Lane}
use Rattle.pl_event.specs.Hops.{data_lane}
use Rattle.pl_queue.specs.Left.{own_lanes}
use Rattle.pl_words.specs.Admissions.{new_send_seat}
use Rattle.pl_post.specs.Posts.{IsSeatOf}
use Rattle.pl_post_tests.specs.Feeding.{IsNext}
use Rattle.pl_post_tests.proofs.FeedingLemmas.{each-first, three-apart, three-seats}
use Rattle.pl_post_tests.proofs.feeding.open_three.Goals as goal
use Rattle.pl_post_tests.proofs.feeding.open_three.Goals.{In-Some-pop-2}

pub open-requires-clause-apart : goal.open-requires-clause-apart
open-requires-clause-apart g c =
    three-apart own_lanes c.in-Ok-from_array-3.lanes.items c.in-Ok.one c.in-Ok-from_array.two c.in-Ok-from_array-2.three
    c.in-Ok-from_array-3.ensures.items (c.in-Ok.ensures.items ∙ ap (λ (l : Lane). l ∷ []) c.data_lane.ensures) (c.in-Ok-from_array.ensures.items ∙ ap (λ (l : Lane). l ∷ []) c.data_lane-2.ensures) (c.in-Ok-from_array-2.ensures.items ∙ ap (λ (l : Lane). l ∷ []) c.data_lane-3.ensures)

-- the three seats
seats : (g : _) (c : In-Some-pop-2 g)
    → (IsSeatOf g.M.Mailbox.ends c.in-Ok-open.post c.in-Some-pop-2.first × IsNext (data_lane 0 0) 0 (g.M.Mailbox.ends.sends_of c.in-Some-pop-2.first.sender))
    × (IsSeatOf g.M.Mailbox.ends c.in-Ok-open.post c.in-Some-pop.second × IsNext (data_lane 1 0) 0 (g.M.Mailbox.ends.sends_of c.in-Some-pop.second.sender))
    × (IsSeatOf g.M.Mailbox.ends c.in-Ok-open.post c.in-Some.third × IsNext (data_lane 2 0) 0 (g.M.Mailbox.ends.sends_of c.in-Some.third.sender))
seats g c =
    three-seats (λ s. IsSeatOf g.M.Mailbox.ends c.in-Ok-open.post s) (λ s. g.M.Mailbox.ends.sends_of s.sender) own_lanes c.in-Ok-open.seats.items c.pop.new.self.items c.pop-2.new.self.items c.pop-3.new.self.items
    c.in-Some-pop-2.first c.in-Some-pop.second c.in-Some.third c.in-Ok-from_array-3.lanes.items c.in-Ok.one c.in-Ok-from_array.two c.in-Ok-from_array-2.three (data_lane 0 0) (data_lane 1 0) (data_lane 2 0)
    (each-first (λ s. IsSeatOf g.M.Mailbox.ends c.in-Ok-open.post s) (λ s. s.seat ≡ new_send_seat c.in-Ok-open.post.name s.seat.number) c.in-Ok-open.seats.items c.in-Ok-open.ensures.seats) c.in-Ok-open.ensures.sends c.in-Some.ensures.items c.in-Some-pop.ensures.items c.in-Some-pop-2.ensures.items
    c.in-Ok-from_array-3.ensures.items (c.in-Ok.ensures.items ∙ ap (λ (l : Lane). l ∷ []) c.data_lane.ensures) (c.in-Ok-from_array.ensures.items ∙ ap (λ (l : Lane). l ∷ []) c.data_lane-2.ensures) (c.in-Ok-from_array-2.ensures.items ∙ ap (λ (l : Lane). l ∷ []) c.data_lane-3.ensures)

pub returns-clause-first : goal.returns-clause-first
returns-clause-first g c = (seats g (goal.at.returns-clause-first g c).In-Some-pop-2).0

pub returns-clause-second : goal.returns-clause-second
returns-clause-second g c = (seats g (goal.at.returns-clause-second g c).In-Some-pop-2).1

pub returns-clause-third : goal.returns-clause-third
returns-clause-third g c = (seats g (goal.at.returns-clause-third g c).In-Some-pop-2).2
