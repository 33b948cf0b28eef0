-- Why a call is refused, in the order in which that is tested. Only then may memory run out.
use Rattle.std.specs.Prelude.{ℕ, ◌+◌, ◌==◌, List, [], ◌∷◌, length, Bool, true, false, not, ◌&&◌, ◌||◌, nat_le, nat_lt, is_some, codes, Option, None, Some, Result, Ok, Err, sum_by, count_by, if◌then◌else◌}
use Rattle.std.specs.List.{list_any, list_all}
use Rattle.std.specs.Str.{bytes_eq}
use Rattle.pl_event.specs.Meaning.{Meaning}
use Rattle.pl_build.specs.Names.{is_name}
use Rattle.pl_build.specs.Pipelines.{index_of, is_turn_stage}
use Rattle.pl_build.specs.declared.limits.TheConstants.{MAX_EXECUTORS, MAX_HANDLERS, MAX_MARK}
use Rattle.pl_build.specs.declared.named_stages.NamedStage.{NamedStage}
use Rattle.pl_build.specs.declared.faults.BuildFault.{BuildFault}
use Rattle.pl_build.specs.declared.faults.BuildFault.TheVariants.{DuplicateName, NoSuchName, Limit, NoSuchGroup, NoTurn, TwoTurns, Marks, Memory}

-- a fault, as it is printed
abbrev pub build_fault_text : BuildFault → List ℕ
build_fault_text DuplicateName = codes "1 DuplicateName"
build_fault_text NoSuchName = codes "2 NoSuchName"
build_fault_text Limit = codes "3 Limit"
build_fault_text NoSuchGroup = codes "4 NoSuchGroup"
build_fault_text NoTurn = codes "5 NoTurn"
build_fault_text TwoTurns = codes "6 TwoTurns"
build_fault_text Marks = codes "7 Marks"
build_fault_text Memory = codes "8 Memory"

-- a call that is refused for this reason, or else goes on
abbrev pub unless : Option BuildFault → Result Unit BuildFault
unless None = Ok tt
unless (Some fault) = Err fault

-- Why no handler of this name can be added. A pipeline has few handlers, each with a name of its own.
abbrev pub naming_fault : {S : Type 0} → List ℕ → List (NamedStage S) → Option BuildFault
naming_fault name handlers =
    if not (is_name name) || nat_le MAX_HANDLERS (length handlers) then Some Limit
    else if is_some (index_of name handlers) then Some DuplicateName else None

-- why none can be added beside the handler `at`
abbrev pub beside_fault : {S : Type 0} → List ℕ → List ℕ → List (NamedStage S) → Option BuildFault
beside_fault at name handlers =
    if is_some (naming_fault name handlers) then naming_fault name handlers
    else if is_some (index_of at handlers) then None else Some NoSuchName

-- Whether these marks can be set. Each is within its limit, and low at most high.
abbrev pub marks_answer : ℕ → ℕ → Result Unit BuildFault
marks_answer low high =
    if nat_lt MAX_MARK low || nat_lt MAX_MARK high then Err Limit
    else if nat_lt high low then Err Marks else Ok tt

-- whether a handler's group, where it has one, is among these, each with its size
abbrev pub is_known : List (List ℕ × ℕ) → Option (List ℕ) → Bool
is_known sizes None = true
is_known sizes (Some name) = list_any (λ group. bytes_eq group.0 name) sizes

-- Why the pipeline of these handlers cannot be built. Each named group is there, and just one handler is the turn.
abbrev pub building_fault : {S : Type 0} → (S → Meaning) → List (List ℕ × ℕ) → List (NamedStage S) → Option BuildFault
building_fault meaning sizes handlers =
    if not (list_all (λ handler. is_known sizes handler.group) handlers) then Some NoSuchGroup
    else if count_by (is_turn_stage meaning) handlers == 0 then Some NoTurn
    else if nat_le 2 (count_by (is_turn_stage meaning) handlers) then Some TwoTurns else None

-- a name that two groups have
abbrev pub has_double : List (List ℕ × ℕ) → Bool
has_double [] = false
has_double (group ∷ groups) = list_any (λ other. bytes_eq other.0 group.0) groups || has_double groups

-- how many executors the loops and the groups have
abbrev pub executor_count : ℕ → List (List ℕ × ℕ) → ℕ
executor_count loops sizes = loops + sum_by (λ group. group.1) sizes

-- with one loop at least, one executor at least in each group, and not too many in all
abbrev pub are_groups_within : ℕ → List (List ℕ × ℕ) → Bool
are_groups_within loops sizes =
    nat_le 1 loops && list_all (λ group. is_name group.0 && nat_le 1 group.1) sizes && nat_le (executor_count loops sizes) MAX_EXECUTORS

-- why these groups cannot be made
abbrev pub grouping_fault : ℕ → List (List ℕ × ℕ) → Option BuildFault
grouping_fault loops sizes =
    if not (are_groups_within loops sizes) then Some Limit
    else if has_double sizes then Some DuplicateName else None
