use Rattle.std.proofs.Common.{◌≡◌, true, Some, Ok, decimal, sym, ap, ◌∙◌, arith}
use Rattle.std.specs.Result.{result_ok}
use Rattle.std.specs.Cmp.Lexicographic.{pointwise}
use Rattle.std.specs.Prelude.{nat_eq}
use Rattle.std.proofs.lemmas.Fmt.{parse-decimal}
use Rattle.std.proofs.lemmas.Slice.Eq.{bytes_eq-Decides}
use Rattle.std.proofs.lemmas.Bool.{false≢true}
use Rattle.pl_text.proofs.MovesNumbers.{some_is, not_both}
use Rattle.pl_text.proofs.moves_text.terms.number.Goals as goal

pub returns-in_err-number-clause-none : goal.returns-in_err-number-clause-none
returns-in_err-number-clause-none c =
    rw c.from_residual.ensures (λ n le e.
    let p : c.parse.result ≡ Ok n = parse-decimal 32 n c.args.text.now c.parse.result (omega arith) (omega arith) e c.parse.ensures.value.0 in
    let o : c.ok.result ≡ Some n = c.ok.ensures.value ∙ ap result_ok p in
    not_both c.ok.result n o c.in_err-number.was)

pub returns-then-max-number-clause-none : goal.returns-then-max-number-clause-none
returns-then-max-number-clause-none c n le e =
    let p : c.parse.result ≡ Ok n = parse-decimal 32 n c.args.text.now c.parse.result (omega arith) (omega arith) e c.parse.ensures.value.0 in
    let o : c.ok.result ≡ Some n = c.ok.ensures.value ∙ ap result_ok p in
    let same : c.in_ok-number.number ≡ n = some_is c.ok.result c.in_ok-number.number n c.in_ok-number.was o in
    omega arith

pub returns-then-ne-clause-none : goal.returns-then-ne-clause-none
returns-then-ne-clause-none c n le e =
    let p : c.parse.result ≡ Ok n = parse-decimal 32 n c.args.text.now c.parse.result (omega arith) (omega arith) e c.parse.ensures.value.0 in
    let o : c.ok.result ≡ Some n = c.ok.ensures.value ∙ ap result_ok p in
    let same : c.in_ok-number.number ≡ n = some_is c.ok.result c.in_ok-number.number n c.in_ok-number.was o in
    let text : c.format.result.now ≡ c.args.text.now = c.format.ensures.text ∙ ap decimal same ∙ sym e in
    let t : pointwise nat_eq c.format.result.now c.args.text.now ≡ true = (bytes_eq-Decides c.format.result.now c.args.text.now).1 text in
    false≢true (sym (rw t at (c.if-ne.ensures)))
