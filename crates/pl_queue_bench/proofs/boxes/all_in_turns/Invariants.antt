use Rattle.pl_queue_bench.specs.Sending.{AllHaveNext}
use Rattle.pl_queue_bench.proofs.FlagSteps.{AreAtChannel}
use Rattle.pl_queue_bench.proofs.boxes.all_in_turns.Given as goal

abbrev pub invariant-rounds : goal.invariant-rounds
invariant-rounds g l = record {
  taker : g.M.Mailbox.ends.is_taker l.mailbox l.taker;
  senders : AllHaveNext (g.M.Mailbox.ends.is_sender l.mailbox) g.M.Mailbox.ends.sends_of l.hops l.number 0 l.channels l.senders;
}

abbrev pub invariant-channels : goal.invariant-channels
invariant-channels g l = record {
  taker : g.M.Mailbox.ends.is_taker l.mailbox l.taker;
  senders : AreAtChannel (g.M.Mailbox.ends.is_sender l.mailbox) g.M.Mailbox.ends.sends_of l.hops l.channels l.channel l.number l.senders;
}
