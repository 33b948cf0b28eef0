use Rattle.std.proofs.Common.{◌≡◌, ◌++◌}
use Rattle.std.specs.Slice.Iter.{chunks_rest, chunks_size}
use Rattle.hex.specs.Hex.{encode_lower}
use Rattle.pl_text.proofs.report_text.events.add_hex.Given as goal

-- what is written, and what is still to be written
abbrev pub invariant-loop-some : goal.invariant-loop-some
invariant-loop-some l =
    goal.iterator-loop-some.can_next l.some-iterator
    × goal.iterator-loop-some.is_finite l.some-iterator
    × (chunks_size l.some-iterator ≡ 16)
    × (l.text.items ++ encode_lower (chunks_rest l.some-iterator) ≡ l.fn.text.items ++ encode_lower l.bytes)
