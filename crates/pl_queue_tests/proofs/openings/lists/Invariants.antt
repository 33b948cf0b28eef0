use Rattle.std.proofs.Common.{◌≡◌, ◌≤◌, max, length}
use Rattle.pl_queue_tests.proofs.OpeningLemmas.{AreLists}
use Rattle.pl_queue_tests.proofs.openings.lists.Given as goal

abbrev pub invariant-loop-channel : goal.invariant-loop-channel
invariant-loop-channel l = record {
  len : length l.all.items ≡ l.channel;
  are : AreLists l.hops l.channel l.all.items;
}

abbrev pub invariant-loop-count : goal.invariant-loop-count
invariant-loop-count l = record {
  len : length l.all.items ≡ l.count;
  least : l.fn.channels ≤ l.count;
  most : l.count ≤ max l.fn.channels l.fn.senders;
  are : AreLists l.fn.hops l.fn.channels l.all.items;
}
