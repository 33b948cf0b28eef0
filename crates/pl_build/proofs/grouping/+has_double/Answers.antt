use Rattle.std.proofs.Common.{sym, ◌∙◌}
use Rattle.pl_build.proofs.GroupLemmas.{doubled, not_doubled}
use Rattle.pl_build.proofs.grouping.+has_double.Goals as goal

pub returns-then-is_taken : goal.returns-then-is_taken
returns-then-is_taken t c =
    c.if-is_taken.true ∙ sym (doubled c.args.groups.now c.in-Some.rest.now c.in-Some.first.now c.in-Some.ensures.cases.0 (sym c.is_taken.ensures ∙ c.if-is_taken.true))

pub returns-else-is_taken : goal.returns-else-is_taken
returns-else-is_taken t c =
    c.has_double.ensures ∙ sym (not_doubled c.args.groups.now c.in-Some.rest.now c.in-Some.first.now c.in-Some.ensures.cases.0 (sym c.is_taken.ensures ∙ c.if-is_taken.false))
