use Rattle.std.proofs.Common.{◌≡◌}
use Rattle.pl_queue_bench.proofs.posts.put.Given as goal

abbrev pub invariant-loop : goal.invariant-loop
invariant-loop g l = record {
  seat : g.C.Closable.is_seat l.mailbox l.seat;
  same : g.C.Closable.sends_of l.seat ≡ g.C.Closable.sends_of l.fn.seat;
  envelope_is : l.envelope ≡ l.fn.envelope;
}
