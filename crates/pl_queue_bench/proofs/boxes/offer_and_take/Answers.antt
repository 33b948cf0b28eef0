use Rattle.std.proofs.Common.{ap, arith}
use Rattle.pl_event.specs.declared.envelopes.Lane.{Lane}
use Rattle.pl_queue_tests.proofs.RelayLemmas.{flag-fits}
use Rattle.pl_queue_bench.proofs.FlagSteps.{next-hop}
use Rattle.pl_queue_bench.proofs.boxes.offer_and_take.Goals as goal

pub hand_over-requires-clause-fits : goal.hand_over-requires-clause-fits
hand_over-requires-clause-fits g c = flag-fits g.W.Named.world c.lane.result c.args.number c.flag.result (ap (λ (l : Lane). l.kind) c.lane.ensures) c.flag.ensures

pub loop-hop-preserved : goal.loop-hop-preserved
loop-hop-preserved g c = record {
  sender = c.hand_over.ensures.sender;
  taker = c.take_one-taken.ensures.taker;
  taken = omega (arith, c.take_one-taken.ensures.one, c.loop-hop.invariant.taken);
  at = next-hop c.args.channel c.args.hops c.loop-hop.hop c.args.number (g.M.Mailbox.ends.sends_of c.loop-hop.sender) (g.M.Mailbox.ends.sends_of c.hand_over.new.sender) c.lane.result c.flag.result
      c.lane.ensures c.flag.ensures c.hand_over.ensures.sent c.loop-hop-test.true c.loop-hop.invariant.at;
}
