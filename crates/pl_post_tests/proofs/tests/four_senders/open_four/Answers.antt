use Rattle.std.proofs.Common.{◌≡◌, ◌+◌, ◌≤◌, map, length, refl, ap, sym, subst, ◌∙◌, arith}
use Rattle.std.proofs.lemmas.Simd.{map-map}
use Rattle.pl_queue.specs.Left.{own_lanes}
use Rattle.pl_queue.specs.Rule.{Each}
use Rattle.pl_queue.specs.Views.{fresh_sends}
use Rattle.pl_queue.proofs.Lists.{Each-snoc}
use Rattle.pl_words.specs.Admissions.{new_send_seat}
use Rattle.pl_post.specs.Posts.{IsSeatOf}
use Rattle.pl_post_tests.specs.Turns.{lanes_from, IsInTurn}
use Rattle.pl_post_tests.proofs.FeedingLemmas.{each-first}
use Rattle.pl_post_tests.proofs.TurnLemmas.{AreLeft, four-apart, next-left, opened-turn}
use Rattle.pl_post_tests.proofs.tests.four_senders.open_four.Goals as goal
use Rattle.pl_post_tests.proofs.tests.four_senders.open_four.Goals.{In-Some}

pub open-requires-clause-apart : goal.open-requires-clause-apart
open-requires-clause-apart g c = four-apart (map own_lanes c.in_ok-lists.lists.items) c.in_ok-lists.ensures

pub loop-seat-init : goal.loop-seat-init
loop-seat-init g c =
    let rest = c.into_iter-seat-iterator.ensures.into_iter_gives.0 in
    let told = c.in_ok-post.ensures in
    let none = c.in_ok-feeders.ensures.items in
    record {
      first = omega (arith, ap length none);
      room = c.in_ok-feeders.ensures.capacity;
      left = record {
        count = 4;
        all = refl;
        fresh = ap (λ ss. map (λ s. g.M.Mailbox.ends.sends_of s.sender) ss) rest ∙ told.sends ∙ sym (map-map fresh_sends own_lanes c.in_ok-lists.lists.items) ∙ ap (λ ls. map fresh_sends ls) c.in_ok-lists.ensures;
      };
      made = subst (λ ss. Each (λ s. IsSeatOf g.M.Mailbox.ends c.in_ok-post.post s) ss) (sym rest)
          (each-first (λ s. IsSeatOf g.M.Mailbox.ends c.in_ok-post.post s) (λ s. s.seat ≡ new_send_seat c.in_ok-post.post.name s.seat.number) c.in_ok-post.seats.items told.seats);
      opened = subst (λ fs. Each (λ f. IsInTurn g.M.Mailbox.ends c.in_ok-post.post f.seat f.first f.sent) fs) (sym none) tt;
    }

-- the seat is fresh, and so are those after it
next : (g : _) (c : In-Some g) → (c.loop-seat.first ≤ 192) × (g.M.Mailbox.ends.sends_of c.in-Some.seat.sender ≡ fresh_sends (lanes_from c.loop-seat.first 64)) × AreLeft (λ s. g.M.Mailbox.ends.sends_of s.sender) (c.loop-seat.first + 64) c.next.new.self.rest.items
next g c = next-left (λ s. g.M.Mailbox.ends.sends_of s.sender) c.loop-seat.first c.loop-seat.seat-iterator.rest.items c.in-Some.seat c.next.new.self.rest.items c.in-Some.ensures.steps.0 c.loop-seat.invariant.left

pub push_reserved-requires : goal.push_reserved-requires
push_reserved-requires g c =
    let low = (next g (goal.at.push_reserved-requires g c).In-Some).0 in
    omega (arith, low, c.loop-seat.invariant.first, c.loop-seat.invariant.room, c.loop-seat.feeders.ok.0)

pub overflow_add-first : goal.overflow_add-first
overflow_add-first g c = let low = (next g (goal.at.overflow_add-first g c).In-Some).0 in omega (arith, low)

pub loop-seat-preserved : goal.loop-seat-preserved
loop-seat-preserved g c =
    let inv = c.loop-seat.invariant in
    let more = next g (goal.at.loop-seat-preserved g c).In-Some in
    let pushed = c.push_reserved.ensures in
    let own = subst (λ ss. Each (λ s. IsSeatOf g.M.Mailbox.ends c.in_ok-post.post s) ss) c.in-Some.ensures.steps.0 inv.made in
    record {
      first = omega (arith, pushed.len, c.push_reserved.new.self.ok.0, c.loop-seat.feeders.ok.0, inv.first);
      room = subst (λ n. 4 ≤ n) (sym pushed.capacity) inv.room;
      left = more.2;
      made = own.1;
      opened = subst (λ fs. Each (λ f. IsInTurn g.M.Mailbox.ends c.in_ok-post.post f.seat f.first f.sent) fs) (sym pushed.items)
          (Each-snoc (λ f. IsInTurn g.M.Mailbox.ends c.in_ok-post.post f.seat f.first f.sent) c.loop-seat.feeders.items _ inv.opened
          (opened-turn g.M.Mailbox.ends c.in_ok-post.post c.in-Some.seat c.loop-seat.first own.0 more.0 more.1));
    }
