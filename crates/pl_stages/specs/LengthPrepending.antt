-- Lengths in front: of each write of bytes, where the field can say it (Netty's LengthFieldPrepender; docs/FORMATS.md,
-- "Handlers").
use Rattle.std.specs.Prelude.{ℕ, ◌^◌, List, ◌++◌, length, nat_lt, if◌then◌else◌}
use Rattle.byteorder.specs.Endian.{big_bytes}
use Rattle.pl_event.specs.declared.events.Event.{Event}
use Rattle.pl_event.specs.declared.events.Event.TheVariants.{Write}
use Rattle.pl_event.specs.declared.events.Message.TheVariants.{Bytes, Line}
use Rattle.pl_event.specs.Meaning.{Meaning}
use Rattle.pl_event.specs.Mappings.{mapping_down}

-- A payload with its length in front. That is a number in `width` bytes, with the highest byte first.
abbrev pub prefixed : ℕ → List ℕ → List ℕ
prefixed width payload = big_bytes width (length payload) ++ payload

-- each write of bytes gains its length; one that is longer than the field can say becomes a write of a line
abbrev pub with_length : ℕ → Event → Event
with_length width (Write (Bytes b)) =
    if nat_lt (length b) (256 ^ width) then Write (Bytes (prefixed width b)) else Write (Line b)
with_length width event = event

-- the handler that puts a length in front (LengthFieldPrepender)
abbrev pub length_prepending : ℕ → Meaning
length_prepending width = mapping_down (with_length width)
