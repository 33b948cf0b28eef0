use Rattle.std.proofs.Common.{map}
use Rattle.pl_exec.specs.SessionWords.{recorded_marks}
use Rattle.pl_exec.proofs.SeatLemmas.{each-new}
use Rattle.pl_exec.proofs.running.run_world_with.Goals as goal

pub run_planned-requires-clause-seated : goal.run_planned-requires-clause-seated
run_planned-requires-clause-seated g c =
    λ κs live. each-new c.args.words.now (map recorded_marks c.args.world.channels) c.args.seats c.in_ok-seats.seats.items c.in_ok-seats.ensures.each c.requires.seats c.requires.marks c.in_ok-seats.ensures.unused

pub returns-clause-ran : goal.returns-clause-ran
returns-clause-ran g c = c.run_planned.ensures.ran

pub returns-clause-entered : goal.returns-clause-entered
returns-clause-entered g c = c.run_planned.ensures.entered
