use Rattle.std.proofs.Common.{◌≡◌, false, Some}
use Rattle.pl_event.specs.Hops.{flags_lane}
use Rattle.pl_queue.specs.Views.{sent_of}
use Rattle.pl_queue_bench.proofs.posts.all_in_turns.Given as goal

abbrev pub invariant-loop-number : goal.invariant-loop-number
invariant-loop-number g l = record {
  seat : g.C.Closable.is_seat l.mailbox l.seat;
  sent : sent_of (flags_lane 0 0) (g.C.Closable.sends_of l.seat).send_counts ≡ Some (l.number, false);
  owner : g.C.Closable.is_owner l.mailbox l.owner;
}
