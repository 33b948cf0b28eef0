use Rattle.std.proofs.Common.{length, ap, arith}
use Rattle.pl_context.specs.TailViews.{TailView}
use Rattle.pl_context.proofs.tails.Tail.take_open.Goals as goal

pub invariant_of-self-in-Event : goal.invariant_of-self-in-Event
invariant_of-self-in-Event c = record {
  counts = c.self.invariant.counts;
  flag_counts = c.self.invariant.flag_counts;
  recorded_within =
      let handed = ap (λ (t : TailView). t.handed) c.self.view_is in
      let events = ap (λ (t : TailView). length t.events) c.self.view_is in
      let taken = ap (λ (t : TailView). t.taken) c.self.view_is in
      omega (arith, c.requires.room, handed, events, taken, c.self.inside.events.ok.0, c.reserve.ensures.len, c.push_reserved.ensures.len);
}
