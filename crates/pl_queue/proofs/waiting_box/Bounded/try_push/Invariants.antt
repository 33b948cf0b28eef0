use Rattle.std.proofs.Common.{◌≡◌}
use Rattle.crossbeam_channel.specs.Claims.{view, IsSeatAt}
use Rattle.crossbeam_channel.specs.Ends.{sends_on}
use Rattle.pl_queue.proofs.waiting_box.Bounded.try_push.Given as goal

abbrev pub invariant-loop : goal.invariant-loop
invariant-loop g l = record {
  pass : IsSeatAt (sends_on l.self.to) l.pass;
  same : l.envelope ≡ l.fn.envelope;
  view : view l.pass ≡ view l.fn.pass;
}
