use Rattle.std.proofs.Common.{◌≡◌, take}
use Rattle.pl_build.specs.Names.{names_and_sizes}
use Rattle.pl_text.specs.SessionBuilding.{group_sizes}
use Rattle.pl_text.proofs.session_text.building.names_and_sizes.Given as goal

abbrev pub invariant-loop-group : goal.invariant-loop-group
invariant-loop-group l = names_and_sizes l.named.items ≡ group_sizes (take l.group-index l.groups)
