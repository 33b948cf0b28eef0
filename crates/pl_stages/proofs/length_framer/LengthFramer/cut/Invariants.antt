use Rattle.std.proofs.Common.{◌≡◌, ◌++◌, List, ℕ, length}
use Rattle.pl_event.specs.Meaning.{IsPrefixOf}
use Rattle.pl_stages.specs.LengthSteps.{TakesBytes}
use Rattle.pl_stages.proofs.length_framer.LengthFramer.cut.Given as goal

-- the bytes up to what is left were taken
abbrev pub invariant-loop-rest : goal.invariant-loop-rest
invariant-loop-rest l =
    record {
      width : l.self.width ≡ l.fn.self.width;
      max : l.self.max ≡ l.fn.self.max;
      taken : (first : List ℕ) × ((first ++ l.rest ≡ l.bytes)
          × TakesBytes l.fn.self.width l.fn.self.max l.fn.self.partial.items l.fn.self.to_skip first l.fn.up.items l.self.partial.items l.self.to_skip l.up.items);
      begins : IsPrefixOf l.fn.up.items l.up.items;
    }

abbrev pub decreases-loop-rest : goal.decreases-loop-rest
decreases-loop-rest l = length l.rest
