-- Line framing: the bytes read are joined and cut at each line feed (Netty's LineBasedFrameDecoder;
-- docs/FORMATS.md, "Handlers").
use Rattle.std.specs.Prelude.{◌≡◌, ℕ, ◌+◌, ◌-◌, ◌<◌, List, [], ◌∷◌, ◌++◌, length, take, map, Bool, if◌then◌else◌, nat_le, ◌==◌, slice_index, MatchBool}
use Rattle.pl_event.specs.declared.events.Event.{Event}
use Rattle.pl_event.specs.declared.events.Event.TheVariants.{Read, Caught}
use Rattle.pl_event.specs.declared.events.Message.TheVariants.{Line}
use Rattle.pl_event.specs.declared.events.Caught.TheVariants.{TooLong}
use Rattle.pl_event.specs.Meaning.{Meaning}
use Rattle.pl_stages.specs.Cutting.{cutting}

-- a byte before the first of these segments, if there is one
abbrev pub onto_first_segment : ℕ → List (List ℕ) → List (List ℕ)
onto_first_segment b [] = []
onto_first_segment b (segment ∷ segments) = (b ∷ segment) ∷ segments

-- The segments of these bytes that line feeds close. A line feed is byte 10, and no segment has it.
abbrev pub closed_segments : List ℕ → List (List ℕ)
closed_segments [] = []
closed_segments (b ∷ bs) = if b == 10 then [] ∷ closed_segments bs else onto_first_segment b (closed_segments bs)

-- a segment without the carriage return (byte 13) at its end, if there is one
abbrev pub without_return : List ℕ → List ℕ
without_return segment = if slice_index segment (length segment - 1) == 13 then take (length segment - 1) segment else segment

-- what a closed segment is read as
abbrev pub framed : ℕ → List ℕ → Event
framed max segment =
    if nat_le (length (without_return segment)) max then Read (Line (without_return segment)) else Caught TooLong

-- the lines of a stream of bytes
abbrev pub lines_of : ℕ → List ℕ → List Event
lines_of max bytes = map (framed max) (closed_segments bytes)

-- the framing of lines of at most max bytes (LineBasedFrameDecoder, framing_law)
abbrev pub line_framing : ℕ → Meaning
line_framing max = cutting (lines_of max)

-- the second list where the first is empty, and else the third
abbrev pub unless_closed : List (List ℕ) → List ℕ → List ℕ → List ℕ
unless_closed [] whole rest = whole
unless_closed (segment ∷ segments) whole rest = rest

-- what of these bytes no line feed has closed yet
abbrev pub open_segment : List ℕ → List ℕ
open_segment [] = []
open_segment (b ∷ bs) = unless_closed (closed_segments (b ∷ bs)) (b ∷ bs) (open_segment bs)

-- A framer keeps the open segment, or only that it is too long with and without a carriage return at its end.
abbrev pub KeepsSegment : ℕ → List ℕ → Bool → List ℕ → Type 0
KeepsSegment max partial is_overlong segment = MatchBool is_overlong (max + 1 < length segment) (partial ≡ segment)

-- Where a framer kept the open segment, it keeps that of these bytes after it,
abbrev pub KeepsAfter : ℕ → List ℕ → Bool → List ℕ → List ℕ → Bool → Type 0
KeepsAfter max partial is_overlong bytes partial' is_overlong' =
    (segment : List ℕ) → closed_segments segment ≡ [] → KeepsSegment max partial is_overlong segment → KeepsSegment max partial' is_overlong' (open_segment (segment ++ bytes))

-- and the lines that they close come after these events.
abbrev pub AddsLines : ℕ → List ℕ → Bool → List ℕ → List Event → List Event → Type 0
AddsLines max partial is_overlong bytes before after =
    (segment : List ℕ) → closed_segments segment ≡ [] → KeepsSegment max partial is_overlong segment → after ≡ before ++ lines_of max (segment ++ bytes)
