use Rattle.std.proofs.Common.{rules, ap, arith}
use Rattle.pl_words.proofs.PromiseMoves.{opens, deals}
use Rattle.pl_words.proofs.promises.Promises.new.Goals as goal

pub of_words-requires : goal.of_words-requires
of_words-requires c = opens _ _ (search rules)

pub split_seat-seat-requires : goal.split_seat-seat-requires
split_seat-seat-requires c = (search rules, search rules, deals _ _ _ _ _ (ap (λ m. m.0) c.loop-number.invariant.1) (omega arith))

pub split_seat-seat-requires-in-loop-number-2 : goal.split_seat-seat-requires-in-loop-number-2
split_seat-seat-requires-in-loop-number-2 c = (search rules, search rules, deals _ _ _ _ _ (ap (λ m. m.0) c.loop-number-2.invariant.1) (omega arith))
