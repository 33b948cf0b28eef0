use Rattle.std.proofs.Common.{◌≡◌}
use Rattle.crossbeam_channel.specs.Claims.{view, IsSeatAt}
use Rattle.crossbeam_channel.specs.Ends.{sends_on}
use Rattle.pl_queue.proofs.waiting_box.WaitingBoxMailbox.offer.Given as goal

abbrev pub invariant-loop : goal.invariant-loop
invariant-loop g l = record {
  pass : IsSeatAt (sends_on l.self.queue.to) l.sender.pass;
  same : l.envelope ≡ l.fn.envelope;
  view : view l.sender.pass ≡ view l.fn.sender.pass;
}
