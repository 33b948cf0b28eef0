use Rattle.std.proofs.Common.{rules, arith}
use Rattle.pl_words.proofs.PromiseMoves.{peeks}
use Rattle.pl_words.proofs.promises.Promises.peek.Goals as goal

pub load-requires : goal.load-requires
load-requires c = (search rules, omega arith, peeks _ _ _ _ _ (omega arith))
