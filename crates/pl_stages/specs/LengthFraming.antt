-- Length-field framing: the bytes read are joined and cut into frames. A frame is the length of its payload, a number in
-- `width` bytes with the highest byte first, and then the payload (Netty's LengthFieldBasedFrameDecoder, with the field at
-- the front, no adjustment, and stripped; docs/FORMATS.md, "Handlers").
use Rattle.std.specs.Prelude.{ℕ, zero, suc, ◌+◌, List, [], ◌∷◌, ◌++◌, length, take, drop, Bool, if◌then◌else◌, nat_le, nat_lt, ◌==◌, ◌||◌}
use Rattle.byteorder.specs.Endian.{big_from}
use Rattle.pl_event.specs.declared.events.Event.{Event}
use Rattle.pl_event.specs.declared.events.Event.TheVariants.{Read, Caught}
use Rattle.pl_event.specs.declared.events.Message.TheVariants.{Line}
use Rattle.pl_event.specs.declared.events.Caught.TheVariants.{TooLong}
use Rattle.pl_event.specs.Meaning.{Meaning}
use Rattle.pl_stages.specs.Cutting.{cutting}

-- how many bytes a length field may have
abbrev pub is_width : ℕ → Bool
is_width n = n == 2 || n == 4

-- How long the payload of the frame at p is, by its field. Of a field that is not all there this says nothing, and the
-- frame is not given.
abbrev pub payload_len : ℕ → List ℕ → ℕ → ℕ
payload_len width bytes p = big_from p width bytes

-- where the frame at p ends
abbrev pub frame_end : ℕ → List ℕ → ℕ → ℕ
frame_end width bytes p = p + width + payload_len width bytes p

-- where frame n begins: frame 0 at the first byte, and each other where the one before it ends
unfoldable pub frame_start : ℕ → List ℕ → ℕ → ℕ
frame_start width bytes zero = 0
frame_start width bytes (suc n) = frame_end width bytes (frame_start width bytes n)

-- a frame is too long where its field and its payload have more than max bytes together
abbrev pub is_too_long : ℕ → ℕ → List ℕ → ℕ → Bool
is_too_long width max bytes p = nat_lt max (width + payload_len width bytes p)

-- how many bytes of the stream are there when the frame at p is given: one that is too long is given at the end of its field
abbrev pub given_at : ℕ → ℕ → List ℕ → ℕ → ℕ
given_at width max bytes p = if is_too_long width max bytes p then p + width else frame_end width bytes p

-- what the frame at p is read as
abbrev pub frame_event : ℕ → ℕ → List ℕ → ℕ → Event
frame_event width max bytes p =
    if is_too_long width max bytes p then Caught TooLong
    else Read (Line (take (payload_len width bytes p) (drop (p + width) bytes)))

-- the frame at p, where these bytes give it
unfoldable pub given_frame : ℕ → ℕ → List ℕ → ℕ → List Event
given_frame width max bytes p =
    if nat_le (given_at width max bytes p) (length bytes) then frame_event width max bytes p ∷ [] else []

-- those that are given of the first n frames
unfoldable pub given_frames : ℕ → ℕ → List ℕ → ℕ → List Event
given_frames width max bytes zero = []
given_frames width max bytes (suc n) = given_frames width max bytes n ++ given_frame width max bytes (frame_start width bytes n)

-- The frames that a stream of bytes gives, in order. They are never more than it has bytes, since each has a field.
unfoldable pub frames_of : ℕ → ℕ → List ℕ → List Event
frames_of width max bytes = given_frames width max bytes (length bytes)

-- The framing by a length field (LengthFieldBasedFrameDecoder, length_framing_law). That has so many bytes, and a
-- frame with it at most max.
abbrev pub length_framing : ℕ → ℕ → Meaning
length_framing width max = cutting (frames_of width max)
