use Rattle.std.proofs.Common.{◌≡◌, true, ap, ◌∙◌, sym}
use Rattle.std.specs.Result.{result_ok}
use Rattle.pl_stages.specs.Numbers.{is_number}
use Rattle.pl_stages.proofs.PrintedNumbers.{number_is_text, number_parses, number_in-yes}
use Rattle.pl_stages.proofs.numbers.number_in.Goals as goal

pub returns-in_default : goal.returns-in_default
returns-in_default c =
    let yes : is_number c.args.text.now ≡ true = sym c.if-not-is_number.ensures in
    absurd (c.in_default.ensures.cases.0 (number_is_text c.args.text.now yes))

pub returns : goal.returns
returns c =
    let yes : is_number c.args.text.now ≡ true = sym c.if-not-is_number.ensures in
    let parsed = number_parses c.args.text.now c.parse.result yes (rw c.in-Ok.ensures.cases.0 at c.parse.ensures.value.0) in
    c.ok.ensures.value ∙ ap result_ok parsed ∙ sym (number_in-yes c.args.text.now yes)
