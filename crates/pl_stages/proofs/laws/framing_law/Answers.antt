use Rattle.pl_stages.proofs.Framing.{slice_split-feeds}
use Rattle.pl_stages.proofs.laws.framing_law.Goals as goal

pub returns : goal.returns
returns c = slice_split-feeds
