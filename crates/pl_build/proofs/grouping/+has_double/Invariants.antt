use Rattle.std.proofs.Common.{length}
use Rattle.pl_build.proofs.grouping.+has_double.Given as goal

abbrev pub decreases-has_double : goal.decreases-has_double
decreases-has_double l = length l.groups.now
