-- Handlers that cut the bytes read into items: all bytes read are one stream, and a read gives the items that it adds
-- (Netty's ByteToMessageDecoder; docs/FORMATS.md, "Handlers").
use Rattle.std.specs.Prelude.{ℕ, List, [], ◌∷◌, ◌++◌, length, drop}
use Rattle.std.specs.List.{flat_map}
use Rattle.pl_event.specs.declared.events.Event.{Event}
use Rattle.pl_event.specs.declared.events.Event.TheVariants.{Read}
use Rattle.pl_event.specs.declared.events.Message.TheVariants.{Bytes}
use Rattle.pl_event.specs.Meaning.{Meaning, IsLawful}
use Rattle.pl_event.specs.Passing.{passing_up, passing_up-lawful}

-- the bytes that an event brings
abbrev pub read_bytes : Event → List ℕ
read_bytes (Read (Bytes b)) = b
read_bytes other = []

-- all bytes read, joined (ByteToMessageDecoder)
abbrev pub joined : List Event → List ℕ
joined xs = flat_map read_bytes xs

-- A read of bytes gives the items of the whole with it, less those of the whole without it. Other events pass.
abbrev pub cutting_up : (List ℕ → List Event) → List Event → Event → List Event
cutting_up items xs (Read (Bytes b)) = drop (length (items (joined xs))) (items (joined xs ++ b))
cutting_up items xs other = other ∷ []

-- the handler that cuts the bytes read into these items of a stream
abbrev pub cutting : (List ℕ → List Event) → Meaning
cutting items = passing_up (cutting_up items)

pub cutting-lawful : (items : List ℕ → List Event) → IsLawful (cutting items)
cutting-lawful items = passing_up-lawful (cutting_up items)
