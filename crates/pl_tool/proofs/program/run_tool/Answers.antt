use Rattle.pl_tool.proofs.program.run_tool.Goals as goal

pub returns-in-Err-clause-failed : goal.returns-in-Err-clause-failed
returns-in-Err-clause-failed g c e = record {
  failure = c.in-Err.failure;
  ended = c.say_last.ensures.status;
  explained = c.in-Err.ensures.err;
  said = c.say_last.ensures.said;
}
