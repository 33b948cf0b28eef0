use Rattle.std.proofs.Common.{List, ap, length, map, sym, ◌∙◌}
use Rattle.std.proofs.lemmas.List.{length-map}
use Rattle.pl_world.specs.declared.session.Recorded.{Recorded}
use Rattle.pl_exec.specs.SessionWords.{recorded_marks}
use Rattle.pl_exec.proofs.SeatLemmas.{none-new}
use Rattle.pl_exec.proofs.running.run_world.Goals as goal

pub run_planned-requires-clause-seated : goal.run_planned-requires-clause-seated
run_planned-requires-clause-seated g c =
    let channels = c.args.world.channels in
    λ κs live. none-new _ (map recorded_marks channels) _ c.in_ok-seats.seats.items c.in_ok-seats.ensures
    (ap (λ (l : List (Recorded g.row.S.Denot g.row.T.Denot)). length l) c.channels.ensures ∙ sym (length-map channels recorded_marks))

pub returns-clause-report : goal.returns-clause-report
returns-clause-report g c = c.in_ok-report.ensures.ran.report

pub returns-clause-entered : goal.returns-clause-entered
returns-clause-entered g c = c.in_ok-report.ensures.entered
