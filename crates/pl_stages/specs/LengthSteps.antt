-- What a length framer keeps, and what its steps do with the bytes that they take.
use Rattle.std.specs.Prelude.{◌≡◌, ℕ, ◌+◌, ◌-◌, ◌<◌, ◌≤◌, List, ◌++◌, length, drop}
use Rattle.pl_event.specs.declared.events.Event.{Event}
use Rattle.pl_stages.specs.declared.length_framer.NextFrame.{NextFrame}
use Rattle.pl_stages.specs.declared.length_framer.NextFrame.TheVariants.{Unfinished, Whole, TooLong}
use Rattle.pl_stages.specs.LengthFraming.{payload_len, frame_start, frames_of}

-- where the first frame begins that a stream does not give
unfoldable pub open_start : ℕ → ℕ → List ℕ → ℕ
open_start width max bytes = frame_start width bytes (length (frames_of width max bytes))

-- After a stream a framer keeps the bytes of the frame that is not given yet or, of one that was too long, how many are
-- still to come.
pub record KeepsFrame (width max : ℕ) (partial : List ℕ) (to_skip : ℕ) (bytes : List ℕ) : Type 0 where
  pub part : partial ≡ drop (open_start width max bytes) bytes
  pub skip : to_skip ≡ open_start width max bytes - length bytes

-- No whole frame is in front of these bytes. Nor is one that is known to be too long.
abbrev pub IsUnfinished : ℕ → ℕ → List ℕ → Type 0
IsUnfinished width max bytes =
    width ≤ length bytes → (width + payload_len width bytes 0 ≤ max) × (length bytes < width + payload_len width bytes 0)

-- These bytes are one whole frame and no more.
abbrev pub IsOneFrame : ℕ → ℕ → List ℕ → Type 0
IsOneFrame width max bytes = (width + payload_len width bytes 0 ≤ max) × (width + payload_len width bytes 0 ≡ length bytes)

-- what these bytes have in front, by their length field
abbrev pub IsNextFrame : ℕ → ℕ → List ℕ → NextFrame → Type 0
IsNextFrame width max bytes Unfinished = IsUnfinished width max bytes
IsNextFrame width max bytes (Whole len) = (len ≡ payload_len width bytes 0) × (width + len ≤ max) × (width + len ≤ length bytes)
IsNextFrame width max bytes (TooLong len) = (len ≡ payload_len width bytes 0) × (max < width + len) × (width ≤ length bytes)

-- Whatever stream the framer stood after, it now stands after that and the bytes taken, and the frames that these add have
-- come after the events that were there.
pub record TakesBytes (width max : ℕ) (partial : List ℕ) (to_skip : ℕ) (taken : List ℕ) (before : List Event) (partial' : List ℕ) (to_skip' : ℕ) (after : List Event) : Type 0 where
  pub kept : (bytes : List ℕ) → KeepsFrame width max partial to_skip bytes → KeepsFrame width max partial' to_skip' (bytes ++ taken)
  pub given : (bytes : List ℕ) → KeepsFrame width max partial to_skip bytes
      → after ≡ before ++ drop (length (frames_of width max bytes)) (frames_of width max (bytes ++ taken))
