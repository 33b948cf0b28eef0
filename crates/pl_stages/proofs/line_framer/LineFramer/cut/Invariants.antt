use Rattle.std.proofs.Common.{◌≡◌, ℕ, List, ◌++◌, [], length}
use Rattle.pl_event.specs.Meaning.{IsPrefixOf}
use Rattle.pl_stages.specs.LineFraming.{closed_segments, KeepsSegment}
use Rattle.pl_stages.proofs.Framing.{Resumes}
use Rattle.pl_stages.proofs.line_framer.LineFramer.cut.Given as goal

-- the segment kept and the bytes left make what the whole makes
abbrev pub invariant-loop-end : goal.invariant-loop-end
invariant-loop-end l =
    record {
      max : l.self.max ≡ l.fn.self.max;
      resumes : (segment : List ℕ) → closed_segments segment ≡ [] → KeepsSegment l.fn.self.max l.fn.self.partial l.fn.self.is_overlong segment
          → Resumes l.fn.self.max l.fn.up.items (segment ++ l.bytes) l.self.partial l.self.is_overlong l.up.items l.rest;
      begins : IsPrefixOf l.fn.up.items l.up.items;
    }

abbrev pub decreases-loop-end : goal.decreases-loop-end
decreases-loop-end l = length l.rest
