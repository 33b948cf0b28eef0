use Rattle.std.proofs.Common.{rules, ap, ◌+◌}
use Rattle.pl_words.proofs.WatermarkMoves.{sets, word-set}
use Rattle.pl_words.proofs.watermark.Watermark.set.Goals as goal

pub store-requires : goal.store-requires
store-requires c = (
  search rules,
  search rules,
  sets _ _ c.head.inside.sets _ c.args.unwritable _ (ap (λ m. m.0.is_head) c.head.invariant.0) (ap (λ m. m.0.sets) c.head.invariant.0) (word-set (c.head.inside.sets + 1) c.args.unwritable _ c.from.ensures),
)
