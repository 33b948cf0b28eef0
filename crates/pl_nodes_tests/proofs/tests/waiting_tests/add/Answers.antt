use Rattle.std.proofs.Common.{ap, arith}
use Rattle.pl_event.specs.declared.envelopes.Envelope.{Envelope}
use Rattle.pl_nodes_tests.proofs.WaitingLemmas.{waits-added}
use Rattle.pl_nodes_tests.proofs.tests.waiting_tests.add.Goals as goal

pub add-requires-clause-there : goal.add-requires-clause-there
add-requires-clause-there c = omega (arith, c.requires.target, c.requires.waits.targets)

pub add-requires-clause-place : goal.add-requires-clause-place
add-requires-clause-place c = rw c.data.ensures (c.requires.waits.places c.args.target c.requires.target)

pub returns-clause-waits : goal.returns-clause-waits
returns-clause-waits c = waits-added _ _ c.args.target _ _ _ (ap (λ (e : Envelope). e.lane) c.data.ensures) c.requires.waits c.add.ensures c.requires.target
