use Rattle.pl_exec.proofs.running.run.Goals as goal

pub returns-clause-report : goal.returns-clause-report
returns-clause-report g c = c.run_world.ensures.report

pub returns-clause-entered : goal.returns-clause-entered
returns-clause-entered g c = c.run_world.ensures.entered
