use Rattle.std.proofs.Common.{ap, ap₂, rules, map, [], ◌∷◌}
use Rattle.pl_event.specs.declared.envelopes.Lane.{Lane}
use Rattle.pl_event.specs.Hops.{same_lane}
use Rattle.pl_queue_tests.specs.Lines.{line_read}
use Rattle.pl_queue_tests.proofs.RelayLemmas.{in_first, in_second}
use Rattle.pl_queue_tests.proofs.tests.box_tests.two_threads_hand_over.Goals as goal

pub lines_by-taken-requires-clause-apart : goal.lines_by-taken-requires-clause-apart
unfolding same_lane
lines_by-taken-requires-clause-apart g c κs within = ap₂ same_lane c.data_lane-first.ensures c.data_lane.ensures

pub lines_by-taken-requires-clause-first : goal.lines_by-taken-requires-clause-first
lines_by-taken-requires-clause-first g c κs within = record {
  few = search rules;
  kind = ap (λ (l : Lane). l.kind) c.data_lane-first.ensures;
  content = in_first c.data_lane-first.result (map line_read c.in_ok-lines.lines.items) ((c.data_lane.result, map line_read c.in_ok-others.others.items) ∷ []);
}

pub lines_by-taken-requires-clause-second : goal.lines_by-taken-requires-clause-second
unfolding same_lane
lines_by-taken-requires-clause-second g c κs within = record {
  few = search rules;
  kind = ap (λ (l : Lane). l.kind) c.data_lane.ensures;
  content = in_second c.data_lane-first.result c.data_lane.result (map line_read c.in_ok-lines.lines.items) (map line_read c.in_ok-others.others.items) (ap₂ same_lane c.data_lane.ensures c.data_lane-first.ensures);
}
