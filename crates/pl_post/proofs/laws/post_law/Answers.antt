use Rattle.pl_post.proofs.MomentLemmas.{in-turn, nothing-queued, all-taken, run-taken, none-admitted}
use Rattle.pl_post.proofs.laws.post_law.Goals as goal

pub returns-clause-lanes : goal.returns-clause-lanes
returns-clause-lanes c = in-turn

pub returns-clause-nothing : goal.returns-clause-nothing
returns-clause-nothing c = nothing-queued

pub returns-clause-taken : goal.returns-clause-taken
returns-clause-taken c = all-taken

pub returns-clause-run : goal.returns-clause-run
returns-clause-run c = run-taken

pub returns-clause-last : goal.returns-clause-last
returns-clause-last c = λ world senders m seat p closed. none-admitted world senders m p closed seat
