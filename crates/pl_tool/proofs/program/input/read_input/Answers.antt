use Rattle.std.proofs.Common.{arith}
use Rattle.std.proofs.lemmas.List.{length-take}
use Rattle.pl_tool.specs.declared.program.input.TheConstants.{MAX_INPUT}
use Rattle.pl_tool.proofs.ProgramBytes.{read_on, takes_more}
use Rattle.pl_tool.proofs.ProgramInputs.{input_refused, passed_on}
use Rattle.pl_tool.proofs.program.input.read_input.Goals as goal

pub returns-in_err-read_chunk-clause-at_most : goal.returns-in_err-read_chunk-clause-at_most
returns-in_err-read_chunk-clause-at_most g c =
    takes_more MAX_INPUT _ _ _ _ c.loop.input.items c.loop.invariant.taken c.read_chunk.ensures.at_most (omega (arith, length-take c.min-room.result c.loop.buffer))

pub returns-in_err-read_chunk-clause-err : goal.returns-in_err-read_chunk-clause-err
returns-in_err-read_chunk-clause-err g c =
    let read = c.in_err-read_chunk.ensures.err in
    passed_on c.from_residual.result _ _ _ c.from_residual.ensures (input_refused _ _ _ c.loop.input.items read.0 _ c.loop.invariant.taken read.1 read.2)

pub loop-preserved : goal.loop-preserved
loop-preserved g c =
    let on = read_on _ _ _ _ _ _ c.loop.invariant.taken c.in_ok-read_chunk.ensures.taken in
    record { taken = on.0; fits = c.in_ok-read_chunk.ensures.fits }
