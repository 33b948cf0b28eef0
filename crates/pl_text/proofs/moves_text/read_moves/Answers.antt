use Rattle.std.proofs.Common.{◌≡◌, arith, rules, ◌∙◌}
use Rattle.pl_text.specs.MovesTexts.{moves_of_terms}
use Rattle.pl_text.proofs.MovesUnique.{moves_once, total_once}
use Rattle.pl_text.proofs.moves_text.read_moves.Goals as goal

pub returns-in_default-clause-every : goal.returns-in_default-clause-every
returns-in_default-clause-every c _ ws says =
    let same = total_once c.args.text.now c.in_ok-terms.terms.items ws c.in_ok-terms.ensures.ok says in
    let above = rw c.as_slice.ensures.value at c.in_default.ensures in
    omega (arith, same, above)

pub returns-clause-only : goal.returns-clause-only
returns-clause-only c ws says =
    let made : c.in_ok-moves.moves.items ≡ moves_of_terms c.as_slice-2.result.now = search rules in
    rw c.as_slice-2.ensures.value at made
    ∙ moves_once c.args.text.now c.in_ok-terms.terms.items ws c.in_ok-terms.ensures.ok says
