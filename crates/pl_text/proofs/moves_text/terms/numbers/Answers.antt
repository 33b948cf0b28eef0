use Rattle.pl_text.proofs.MovesNumbers.{no_x_says, with_x_says, count_is_not_0}
use Rattle.pl_text.proofs.moves_text.terms.numbers.Goals as goal

pub returns-in_err-digits-in-None-clause-none : goal.returns-in_err-digits-in-None-clause-none
returns-in_err-digits-in-None-clause-none c = rw c.from_residual.ensures (λ n count fit e.
    c.in_err-digits-in-None.ensures.none n fit.number_fits (no_x_says c.args.text.now n count c.split_once.result c.in-None.is c.split_once.ensures.cases fit e))

pub returns-in_err-digits-in-Some-clause-none : goal.returns-in_err-digits-in-Some-clause-none
returns-in_err-digits-in-Some-clause-none c = rw c.from_residual-in_err-digits-in-Some.ensures (λ n count fit e.
    let says = with_x_says c.args.text.now n count c.split_once.result _ c.in-Some.is c.split_once.ensures.cases fit e in
    c.in_err-digits-in-Some.ensures.none n fit.number_fits says.2.0)

pub returns-in_err-count-in-Some-clause-none : goal.returns-in_err-count-in-Some-clause-none
returns-in_err-count-in-Some-clause-none c = rw c.from_residual-in_err-count-in-Some.ensures (λ n count fit e.
    let says = with_x_says c.args.text.now n count c.split_once.result _ c.in-Some.is c.split_once.ensures.cases fit e in
    c.in_err-count-in-Some.ensures.none says.0 says.1.1 says.2.1)

pub returns-then-count-eq0-clause-none : goal.returns-then-count-eq0-clause-none
returns-then-count-eq0-clause-none c n count fit e =
    let says = with_x_says c.args.text.now n count c.split_once.result _ c.in-Some.is c.split_once.ensures.cases fit e in
    count_is_not_0 c.in-Some.count.now c.in_ok-count-in-Some.count says.0 c.in_ok-count-in-Some.ensures.some.0 says.2.1 c.if-count-eq0.true says.1.0 says.1.1
