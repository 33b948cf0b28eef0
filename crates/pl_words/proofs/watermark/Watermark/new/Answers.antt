use Rattle.std.proofs.Common.{rules, ap}
use Rattle.pl_words.proofs.WatermarkMoves.{deals}
use Rattle.pl_words.proofs.watermark.Watermark.new.Goals as goal

pub split_seat-seat-requires : goal.split_seat-seat-requires
split_seat-seat-requires c = (search rules, search rules, deals _ _ (ap (λ m. m.0) c.loop-number.invariant.1))
