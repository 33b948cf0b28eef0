use Rattle.std.proofs.Common.{sym, ◌∙◌}
use Rattle.std.proofs.lemmas.Option.{none-some}
use Rattle.pl_live.proofs.live.Live.head.Goals as goal

pub unreachable-requires : goal.unreachable-requires
unreachable-requires g c = none-some c.part.ensures.ends.head (sym c.in-None.ensures.none ∙ c.part.ensures.ends.has_head)
