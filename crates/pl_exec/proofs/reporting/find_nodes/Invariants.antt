use Rattle.std.proofs.Common.{◌≡◌, ◌++◌, length}
use Rattle.std.specs.Vec.Iter.{into_iter_items}
use Rattle.pl_exec.specs.ChannelRows.{by_channel}
use Rattle.pl_exec.specs.Reported.{with_part}
use Rattle.pl_exec.specs.RunStages.{slots_in, with_stages}
use Rattle.pl_exec.proofs.reporting.find_nodes.Given as goal

-- the ends and the stages in the first of these parts are found
abbrev pub invariant-loop-part : goal.invariant-loop-part
invariant-loop-part g l = record {
  rest : l.yielded ++ into_iter_items l.part-iterator ≡ l.fn.parts.items;
  at : l.position ≡ length l.yielded;
  found : l.found.items ≡ by_channel with_part l.fn.here.items l.yielded l.fn.found.items;
  stages : slots_in l.stages.items ≡ by_channel with_stages l.fn.here.items l.yielded (slots_in l.fn.stages.items);
}
