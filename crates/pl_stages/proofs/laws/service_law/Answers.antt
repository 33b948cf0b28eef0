use Rattle.pl_stages.proofs.Additions.{held_keys-once}
use Rattle.pl_stages.proofs.ServiceLimits.{refusal_of-range, refusal_of-full, total_of-add, accepted-refused, accepted-other, accepted-after_quit, total_of-le, held_keys-le}
use Rattle.pl_stages.proofs.laws.service_law.Goals as goal

pub returns : goal.returns
returns c = assumption (refusal_of-range, refusal_of-full, total_of-add, accepted-refused, accepted-other, accepted-after_quit, total_of-le, held_keys-le, held_keys-once)
