use Rattle.std.proofs.Common.{ℕ, Option, unwrap_or, ap, ◌∙◌}
use Rattle.pl_stages.proofs.Additions.{kept-total}
use Rattle.pl_stages.proofs.totals.Totals.get.Goals as goal

pub returns : goal.returns
returns c = λ additions keeps.
    c.unwrap_or.ensures ∙ ap (λ (o : Option ℕ). unwrap_or o 0) c.found.ensures
    ∙ kept-total c.args.self.now additions c.args.key.now keeps
