use Rattle.std.proofs.Common.{sym}
use Rattle.pl_build.specs.Executors.{groups_of}
use Rattle.pl_build.proofs.GroupLemmas.{IsGrouping-write}
use Rattle.pl_build.proofs.grouping.Groups.count_pipeline.Goals as goal

pub invariant_of-self : goal.invariant_of-self
invariant_of-self g c =
    IsGrouping-write c.self.inside.loops c.self.inside.next_loop c.self.inside.groups.len c.self.inside.groups.items c.advance_used.new.groups (groups_of c.args.handlers.now) c.self.invariant (sym c.self.inside.groups.ok.0) (rw (← c.deref_mut.ensures.value) c.advance_used.ensures)
