use Rattle.std.proofs.Common.{◌≤◌}
use Rattle.pl_queue_bench.proofs.FlagSteps.{IsAtHop}
use Rattle.pl_queue_bench.proofs.boxes.offer_and_take.Given as goal

abbrev pub invariant-loop-hop : goal.invariant-loop-hop
invariant-loop-hop g l = record {
  sender : g.M.Mailbox.ends.is_sender l.mailbox l.sender;
  taker : g.M.Mailbox.ends.is_taker l.mailbox l.taker;
  taken : l.taken ≤ l.hop;
  at : IsAtHop l.channel l.hops l.hop l.number (g.M.Mailbox.ends.sends_of l.sender);
}
