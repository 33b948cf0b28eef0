-- The limits of a world (docs/FORMATS.md, "Session").
use Rattle.std.specs.Prelude.{ℕ, ◌==◌, ◌&&◌, List, length, Bool, true, nat_le, nat_lt, sum_by, Option, Some, None}
use Rattle.std.specs.List.{list_all}
use Rattle.pl_event.specs.Inputs.{Bursts, element_size}
use Rattle.pl_build.specs.Pipelines.{PlacedView}
use Rattle.pl_head.specs.declared.inputs.ReadPlan.{ReadPlan}
use Rattle.pl_build.specs.declared.limits.TheConstants.{MAX_EXECUTORS}
use Rattle.pl_world.specs.declared.limits.TheConstants.{MAX_CHANNELS, MAX_BURSTS, MAX_ELEMENTS, MAX_BYTES}

-- how many elements a channel's bursts have, chunks and user events together, and how many bytes those bring
abbrev pub element_count : Bursts → ℕ
element_count bursts = sum_by length bursts

abbrev pub byte_count : Bursts → ℕ
byte_count bursts = sum_by (sum_by element_size) bursts

-- the bursts of a channel are within their limits
abbrev pub fits : Bursts → Bool
fits bursts =
    nat_le (length bursts) MAX_BURSTS && nat_le (element_count bursts) MAX_ELEMENTS && nat_le (byte_count bursts) MAX_BYTES

-- an abort comes after at most so many bursts
abbrev pub aborts_within : Option ℕ → ℕ → Bool
aborts_within None count = true
aborts_within (Some after) count = nat_le after count

-- What a channel is to read is within limits. Its bursts are, and an abort comes after at most all of them.
abbrev pub input_fits : ReadPlan → Bool
input_fits input = fits input.bursts && aborts_within input.abort_after (length input.bursts)

-- each hop has an executor that is there
abbrev pub is_placed : {S : Type 0} → ℕ → PlacedView S → Bool
is_placed executors path = list_all (λ executor. nat_lt executor executors) path.executors

-- A world is within its limits (FORMATS). It has at most MAX_CHANNELS channels, each with an input and a transport,
-- on at most MAX_EXECUTORS executors.
abbrev pub is_within : {S T : Type 0} → List (PlacedView S) → List ReadPlan → List T → ℕ → Bool
is_within pipelines inputs transports executors =
    nat_le executors MAX_EXECUTORS && nat_le (length pipelines) MAX_CHANNELS && (length pipelines == length inputs)
    && (length pipelines == length transports) && list_all (is_placed executors) pipelines && list_all input_fits inputs
