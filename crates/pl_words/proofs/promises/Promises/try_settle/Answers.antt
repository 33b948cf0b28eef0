use Rattle.std.proofs.Common.{rules, arith}
use Rattle.pl_words.proofs.PromiseMoves.{settles}
use Rattle.pl_words.proofs.promises.Promises.try_settle.Goals as goal

pub compare_exchange-word-requires : goal.compare_exchange-word-requires
compare_exchange-word-requires c = (search rules, omega arith, rw c.word_of.ensures (settles _ _ _ _ c.args.outcome _ (omega arith) (omega arith)))
