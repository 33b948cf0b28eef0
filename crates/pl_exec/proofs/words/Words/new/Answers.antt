use Rattle.pl_exec.proofs.words.Words.new.Goals as goal

pub returns-clause-own_heads : goal.returns-clause-own_heads
returns-clause-own_heads c = c.of_world.ensures.own_heads

pub returns-clause-own_readers : goal.returns-clause-own_readers
returns-clause-own_readers c = c.of_world.ensures.own_readers
