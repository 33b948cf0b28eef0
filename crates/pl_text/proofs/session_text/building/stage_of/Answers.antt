use Rattle.std.proofs.Common.{ap, sym, ◌∙◌}
use Rattle.pl_text.specs.SessionHandlers.{meaning_of}
use Rattle.pl_text.proofs.session_text.building.stage_of.Goals as goal

pub returns-in-Prepend-clause-meaning : goal.returns-in-Prepend-clause-meaning
returns-in-Prepend-clause-meaning c =
    rw c.unwrap-in-Prepend.ensures at c.new-in-Prepend.ensures.meaning ∙ ap meaning_of (sym c.in-Prepend.is)
