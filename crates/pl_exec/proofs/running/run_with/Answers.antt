use Rattle.pl_exec.proofs.running.run_with.Goals as goal

pub returns-clause-report : goal.returns-clause-report
returns-clause-report g c = c.in_ok-report.ensures.ran.report

pub returns-clause-entered : goal.returns-clause-entered
returns-clause-entered g c = c.in_ok-report.ensures.entered
