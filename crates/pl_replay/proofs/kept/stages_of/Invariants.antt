use Rattle.std.proofs.Common.{◌≡◌, map}
use Rattle.pl_part.specs.Keeping.{part_stages}
use Rattle.pl_replay.proofs.kept.stages_of.Given as goal

-- The stages of the parts so far are given back.
abbrev pub invariant-loop-part : goal.invariant-loop-part
invariant-loop-part g l = map (λ stages. stages.items) l.channels.items ≡ map (λ part. part_stages part) l.yielded
