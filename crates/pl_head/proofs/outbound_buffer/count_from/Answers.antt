use Rattle.std.proofs.Common.{◌≡◌, ℕ, List, [], ◌∷◌, length, take, get_or, ap, ◌∙◌, arith, length-append}
use Rattle.std.proofs.lemmas.List.{length-take-le}
use Rattle.pl_head.specs.Settling.{numbers_from}
use Rattle.pl_head.proofs.Renumbering.{one-more, numbers-few}
use Rattle.pl_head.proofs.outbound_buffer.count_from.Goals as goal

pub overflow_add-count : goal.overflow_add-count
overflow_add-count c =
    let ns = c.args.numbers.now in
    let i = c.loop-i.i in
    omega (arith, c.loop-i.invariant, numbers-few c.args.first (take i ns), length-take-le i ns (omega (arith, c.loop-i-test.true, c.requires)), c.count_one-count.ensures, numbers-few c.args.first (get_or ns i 0 ∷ []), c.loop-i-test.true)

pub loop-i-preserved : goal.loop-i-preserved
loop-i-preserved c =
    let ns = c.args.numbers.now in
    let i = c.loop-i.i in
    let more = ap (λ (xs : List ℕ). length xs) (one-more c.args.first ns i 0 (omega (arith, c.loop-i-test.true, c.requires))) in
    omega (arith, c.loop-i.invariant, more, length-append (numbers_from c.args.first (take i ns)) (numbers_from c.args.first (get_or ns i 0 ∷ [])), c.count_one-count.ensures)

pub returns : goal.returns
returns c =
    let past : c.loop-i.i ≡ c.args.end = omega arith in
    c.loop-i.invariant ∙ ap (λ (k : ℕ). length (numbers_from c.args.first (take k c.args.numbers.now))) past
