use Rattle.std.proofs.Common.{◌≡◌}
use Rattle.pl_event.specs.declared.events.Event.TheVariants.{Read}
use Rattle.pl_event.specs.declared.events.Message.TheVariants.{Bytes}
use Rattle.pl_stages.specs.Cutting.{joined}
use Rattle.pl_stages.specs.LineFraming.{open_segment}
use Rattle.pl_stages.proofs.Framing.{closed_segments-open_segment, open_segment-append, joined-push, lines_of-read}
use Rattle.pl_stages.proofs.line_framer.LineFramerBareStage.take.Goals as goal

pub returns-in_ok-take_chunk-in-Read-Bytes-clause-stands : goal.returns-in_ok-take_chunk-in-Read-Bytes-clause-stands
returns-in_ok-take_chunk-in-Read-Bytes-clause-stands c = λ xs keeps.
    let chunk = c.in-Read-Bytes.chunk in
    let event_is : c.args.event ≡ Read (Bytes chunk) = cc in
    rw (event_is, joined-push xs (Read (Bytes chunk)), open_segment-append (joined xs) chunk, c.take_chunk.ensures.max)
    (c.in_ok-take_chunk-in-Read-Bytes.ensures.kept (open_segment (joined xs)) (closed_segments-open_segment (joined xs)) keeps)

pub returns-in_ok-take_chunk-in-Read-Bytes-clause-up : goal.returns-in_ok-take_chunk-in-Read-Bytes-clause-up
returns-in_ok-take_chunk-in-Read-Bytes-clause-up c = λ xs keeps.
    let chunk = c.in-Read-Bytes.chunk in
    let event_is : c.args.event ≡ Read (Bytes chunk) = cc in
    rw (event_is, lines_of-read c.args.self.now.max xs chunk)
    (c.in_ok-take_chunk-in-Read-Bytes.ensures.lines (open_segment (joined xs)) (closed_segments-open_segment (joined xs)) keeps)
