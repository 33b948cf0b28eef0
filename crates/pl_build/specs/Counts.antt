-- What the groups keep between two placings.
use Rattle.std.specs.Prelude.{ℕ, ◌+◌, ◌%◌, List, [], ◌∷◌, map, Option, None, Some, if◌then◌else◌}
use Rattle.std.specs.Str.{bytes_eq}
use Rattle.pl_build.specs.Executors.{GroupsView, uses}
use Rattle.pl_build.specs.declared.grouping.Group.{Group}

abbrev pub group_after : Group → Group
group_after group = record group { next = (group.next + 1) % group.size }

-- the groups once a pipeline is placed whose handlers have these groups
abbrev pub groups_after : List Group → List (Option (List ℕ)) → List Group
groups_after groups pipeline = map (λ group. if uses group.name pipeline then group_after group else group) groups

abbrev pub grouping_after : GroupsView → List (Option (List ℕ)) → GroupsView
grouping_after g pipeline = record { loops = g.loops; next_loop = (g.next_loop + 1) % g.loops; groups = groups_after g.groups pipeline }

-- the executor that a group gives next, where the groups from here on begin with this executor
abbrev pub executor_from : ℕ → List Group → List ℕ → ℕ
executor_from first [] name = first
executor_from first (group ∷ groups) name =
    if bytes_eq group.name name then first + group.next else executor_from (first + group.size) groups name

abbrev pub executor_now : GroupsView → Option (List ℕ) → ℕ
executor_now g None = g.next_loop
executor_now g (Some name) = executor_from g.loops g.groups name
