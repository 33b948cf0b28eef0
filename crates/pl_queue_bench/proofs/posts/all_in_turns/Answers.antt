use Rattle.std.proofs.Common.{ap}
use Rattle.pl_event.specs.declared.envelopes.Lane.{Lane}
use Rattle.pl_queue_tests.proofs.RelayLemmas.{flag-fits, now-sent}
use Rattle.pl_queue_bench.proofs.posts.all_in_turns.Goals as goal

pub put-requires-clause-fits : goal.put-requires-clause-fits
put-requires-clause-fits g c = flag-fits g.W.Named.world c.lane.result c.loop-number.number c.flag.result (ap (λ (l : Lane). l.kind) c.lane.ensures) c.flag.ensures

pub loop-number-preserved : goal.loop-number-preserved
loop-number-preserved g c = record {
  seat = c.put.ensures.seat;
  sent = now-sent 0 0 c.loop-number.number (g.C.Closable.sends_of c.loop-number.seat) (g.C.Closable.sends_of c.put.new.seat) c.lane.result c.flag.result
      c.lane.ensures c.flag.ensures c.put.ensures.sent c.loop-number.invariant.sent;
  owner = c.next.ensures.owner;
}
