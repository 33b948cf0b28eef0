use Rattle.std.proofs.Common.{◌-◌, ◌<◌, ◌≤◌, ◌++◌, List, ℕ, length, drop, ap, ◌∙◌, arith}
use Rattle.std.proofs.lemmas.List.{take_all, length-drop}
use Rattle.pl_head.specs.Writes.{flushed_writes, unflushed_writes, out}
use Rattle.pl_head.proofs.Buffering.{nothing_left, front_first, first_size-read}
use Rattle.pl_head.proofs.Offering.{offers_first}
use Rattle.pl_head.proofs.WaitingSizes.{all_accepted}
use Rattle.pl_head.proofs.BufferSteps.{whole_size}
use Rattle.pl_head.proofs.outbound_buffer.OutboundBuffer.current.Goals as goal

pub returns-then-self-eq0-clause-none : goal.returns-then-self-eq0-clause-none
returns-then-self-eq0-clause-none c = λ accepted ys ended sizes s.
    let b = c.args.self.now in
    all_accepted accepted s.left (out ys) (nothing_left b.entries.items b.offset b.flushed b.outcomes.items (flushed_writes ys) (unflushed_writes ys) s.left ended s.messages (omega arith)) s.output

pub returns-clause-offers : goal.returns-clause-offers
returns-clause-offers c = λ accepted ys ended sizes s.
    let b = c.args.self.now in
    let some : 0 < b.flushed = omega arith in
    let filled : 0 < length b.entries.items = omega (arith, some, b.flushed_within) in
    let first = c.index-first.result.now in
    let size = first_size-read b.entries.items first filled c.index-first.ensures in
    let rests = s.at_rest some in
    let within : b.offset ≤ length first.bytes = omega (arith, rests, size) in
    let found = front_first b.entries.items b.offset b.flushed b.outcomes.items (flushed_writes ys) (unflushed_writes ys) s.left ended first s.messages some c.index-first.ensures within in
    let cut = length-drop b.offset c.as_slice.result.now in
    let bytes = ap (λ (t : List ℕ). length t) c.as_slice.ensures in
    let whole = take_all (c.len-size.result - b.offset) (drop b.offset c.as_slice.result.now) (omega (arith, c.len-size.ensures, cut, bytes)) in
    let offer = offers_first b.entries.items b.offset b.flushed b.outcomes.items (flushed_writes ys) (unflushed_writes ys) s.left ended s.messages (length accepted) (whole_size accepted s.left (out ys) s.output) some rests in
    rw (whole, c.as_slice.ensures)
    (omega (arith, rests, size, length-drop b.offset first.bytes), omega (arith, offer, size, within, length-drop b.offset first.bytes), (found.0, ap (λ (t : List ℕ). accepted ++ t) found.1 ∙ s.output))
