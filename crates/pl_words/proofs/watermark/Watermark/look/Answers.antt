use Rattle.std.proofs.Common.{rules}
use Rattle.pl_words.proofs.WatermarkMoves.{looks}
use Rattle.pl_words.proofs.watermark.Watermark.look.Goals as goal

pub load-word-requires : goal.load-word-requires
load-word-requires c = (search rules, search rules, looks _ _ _)
