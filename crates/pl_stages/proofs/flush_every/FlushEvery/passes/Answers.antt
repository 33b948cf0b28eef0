use Rattle.std.proofs.Common.{sym}
use Rattle.pl_stages.proofs.FlushCounts.{counted-held, passes-held}
use Rattle.pl_stages.proofs.flush_every.FlushEvery.passes.Goals as goal

pub returns-then-counted-self-clause-counted : goal.returns-then-counted-self-clause-counted
returns-then-counted-self-clause-counted c = λ xs stood.
    counted-held c.args.self.now.n c.args.self.now.held_back xs c.args.event.now (sym c.if-not-is_flush.ensures) stood c.if-counted-self.true

pub returns-then-counted-self-clause-passes : goal.returns-then-counted-self-clause-passes
returns-then-counted-self-clause-passes c = λ xs stood.
    sym (passes-held c.args.self.now.n c.args.self.now.held_back xs c.args.event.now (sym c.if-not-is_flush.ensures) stood c.if-counted-self.true)
