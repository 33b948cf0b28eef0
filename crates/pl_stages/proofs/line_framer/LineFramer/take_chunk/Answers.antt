use Rattle.std.proofs.Common.{◌≡◌, ◌+◌, length, refl, sym, append-nil, arith}
use Rattle.pl_stages.proofs.Framing.{kept_none, keeps_none, open_segment_chunk, lines_of_chunk, keeps_chunk, lines_of_open}
use Rattle.pl_stages.proofs.line_framer.LineFramer.take_chunk.Goals as goal

pub returns-in_ok-push-in-Some-clause-kept : goal.returns-in_ok-push-in-Some-clause-kept
returns-in_ok-push-in-Some-clause-kept c = λ segment none keeps.
    let nothing = c.if-keeps_nothing.ensures refl in
    let whole : c.in-Some.end + 1 ≡ length c.args.chunk = omega (arith, c.len.ensures) in
    let first = rw c.as_slice.ensures at c.in-Some.ensures in
    rw (open_segment_chunk segment c.args.chunk c.in-Some.end (kept_none _ _ _ _ nothing keeps) first whole)
    (keeps_none _ _ _ nothing)

pub returns-in_ok-push-in-Some-clause-lines : goal.returns-in_ok-push-in-Some-clause-lines
returns-in_ok-push-in-Some-clause-lines c = λ segment none keeps.
    let nothing = c.if-keeps_nothing.ensures refl in
    let whole : c.in-Some.end + 1 ≡ length c.args.chunk = omega (arith, c.len.ensures) in
    let first = rw c.as_slice.ensures at c.in-Some.ensures in
    rw (lines_of_chunk c.args.self.now.max segment c.args.chunk c.in-Some.end (kept_none _ _ _ _ nothing keeps) first whole, ← c.truncate.ensures, ← c.framed.ensures)
    c.in_ok-push-in-Some.ensures.items

pub returns-in-None-clause-kept : goal.returns-in-None-clause-kept
returns-in-None-clause-kept c = λ segment none keeps.
    keeps_chunk _ _ _ _ _ (c.if-keeps_nothing-2.ensures refl) keeps (rw c.as_slice.ensures at c.in-None.ensures)

pub returns-in-None-clause-lines : goal.returns-in-None-clause-lines
returns-in-None-clause-lines c = λ segment none keeps.
    rw (lines_of_open c.args.self.now.max segment c.args.chunk none (rw c.as_slice.ensures at c.in-None.ensures))
    (sym (append-nil c.args.up.now.items))
