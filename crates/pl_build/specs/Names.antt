-- Names of handlers and of groups (Netty's ChannelPipeline, "Building a pipeline").
use Rattle.std.specs.Prelude.{ℕ, List, length, Bool, false, ◌&&◌, nat_le, Option, None, Some, map}
use Rattle.std.specs.Borrow.{Bor}
use Rattle.std.specs.Str.{bytes_eq}
use Rattle.pl_build.specs.declared.limits.TheConstants.{MAX_NAME_LENGTH}

-- not empty, and not too long
abbrev pub is_name : List ℕ → Bool
is_name name = nat_le 1 (length name) && nat_le (length name) MAX_NAME_LENGTH

-- whether a handler with this group, if any, is in the group of this name
abbrev pub is_among : Option (List ℕ) → List ℕ → Bool
is_among None name = false
is_among (Some group) name = bytes_eq group name

-- the names and sizes of groups that a caller gives
abbrev pub names_and_sizes : List (Bor (List ℕ) × ℕ) → List (List ℕ × ℕ)
names_and_sizes groups = map (λ group. (group.0.now, group.1)) groups
