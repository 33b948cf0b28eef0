use Rattle.std.proofs.Common.{◌≡◌, map, []}
use Rattle.std.specs.Prelude.{All}
use Rattle.pl_event.specs.Lanes.{through_by}
use Rattle.pl_world.specs.Chains.{made_toward}
use Rattle.pl_world.proofs.chains.pass_all.Given as goal

-- the stages so far have taken the events, and the others nothing
abbrev pub invariant-loop-stage : goal.invariant-loop-stage
invariant-loop-stage g l = record {
  made : l.events.items ≡ through_by (made_toward l.fn.toward) (map g.S.Stage.meaning l.yielded) l.fn.events.items;
  new : All (λ stage. g.S.Stage.stands_after stage []) l.stage-iterator.rest.items;
}
