use Rattle.std.proofs.Common.{◌+◌, ap, refl}
use Rattle.pl_threads_tests.specs.declared.nodes.Node.{Node}
use Rattle.pl_threads_tests.proofs.NodeLemmas.{keeps-own, taken-one}
use Rattle.pl_threads_tests.proofs.nodes.NodeOwnNodes.take.Goals as goal

pub returns-then-self-clause-taken : goal.returns-then-self-clause-taken
returns-then-self-clause-taken g c =
    let e = c.args.envelope in
    taken-one c.args.self.now c.make.new.self c.requires.stands e.lane (e.number + 1) c.requires.here
    (ap (λ (n : Node). n.executor) c.make.ensures.same) (ap (λ (n : Node). n.taken) c.make.ensures.same)

pub returns-clause-taken : goal.returns-clause-taken
returns-clause-taken g c =
    let e = c.args.envelope in
    taken-one c.args.self.now (record c.args.self.now { taken = e.number + 1 }) c.requires.stands e.lane (e.number + 1) c.requires.here refl refl

pub returns-then-self-clause-keeps : goal.returns-then-self-clause-keeps
returns-then-self-clause-keeps g c =
    let same = c.make.ensures.same in
    keeps-own c.args.self.now c.make.new.self (ap (λ (n : Node). n.executor) same) (ap (λ (n : Node). n.first.target) same) (ap (λ (n : Node). n.first.count) same) (ap (λ (n : Node). n.second.target) same) (ap (λ (n : Node). n.second.count) same)

pub returns-clause-keeps : goal.returns-clause-keeps
returns-clause-keeps g c = keeps-own c.args.self.now (record c.args.self.now { taken = c.args.envelope.number + 1 }) refl refl refl refl refl
