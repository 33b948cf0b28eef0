use Rattle.std.proofs.Common.{◌≡◌, List, None, ap, ◌∙◌, map, rules}
use Rattle.pl_build.specs.Names.{names_and_sizes}
use Rattle.pl_build.specs.Refusals.{grouping_fault}
use Rattle.pl_build.specs.declared.grouping.Group.{Group}
use Rattle.pl_build.proofs.GroupLemmas.{entry, IsGrouping-new, HasPlaced-new, sizes-unused}
use Rattle.pl_build.proofs.grouping.Groups.new.Goals as goal

pub invariant_of-result : goal.invariant_of-result
invariant_of-result c =
    let allowed : grouping_fault c.args.loops (names_and_sizes c.args.groups.now) ≡ None = search rules in
    IsGrouping-new c.args.loops c.args.groups.now c.in_ok-groups.groups.items allowed c.in_ok-groups.ensures

pub returns-clause-sizes : goal.returns-clause-sizes
returns-clause-sizes c = ap (λ (groups : List Group). map entry groups) c.in_ok-groups.ensures ∙ sizes-unused c.args.groups.now

pub returns-clause-unused : goal.returns-clause-unused
returns-clause-unused c = HasPlaced-new c.args.loops c.args.groups.now c.in_ok-groups.groups.items c.in_ok-groups.ensures
