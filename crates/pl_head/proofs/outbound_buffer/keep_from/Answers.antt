use Rattle.std.proofs.Common.{ℕ, List, [], ◌∷◌, ◌++◌, take, get_or, ap, sym, ◌∙◌, arith, refl}
use Rattle.std.proofs.lemmas.List.{take_all}
use Rattle.pl_head.specs.Settling.{numbers_from}
use Rattle.pl_head.proofs.Renumbering.{one-more, same-at, same-behind}
use Rattle.pl_head.proofs.outbound_buffer.keep_from.Goals as goal

pub loop-i-init : goal.loop-i-init
loop-i-init c = record { within = omega arith; length = refl; kept = refl; left = refl; capacity = refl }

pub loop-i-preserved : goal.loop-i-preserved
loop-i-preserved c =
    let old = c.args.numbers.now.items in
    let now = c.loop-i.numbers.items in
    let i = c.loop-i.i in
    let first = c.args.first in
    let before = c.loop-i.invariant in
    let did = c.keep_one-kept.ensures in
    record {
      within = omega (arith, did.most, before.within);
      length = did.length ∙ before.length;
      kept =
          did.kept
          ∙ ap (λ (ns : List ℕ). ns ++ numbers_from first (get_or now i 0 ∷ [])) before.kept
          ∙ ap (λ (n : ℕ). numbers_from first (take i old) ++ numbers_from first (n ∷ [])) (same-at now old i before.left 0)
          ∙ sym (one-more first old i 0 (omega (arith, c.loop-i-test.true, c.len-i-end.ensures, c.args.numbers.now.ok.0)));
      left = did.left ∙ same-behind now old i before.left;
      capacity = did.capacity ∙ before.capacity;
    }

pub returns-clause-items : goal.returns-clause-items
returns-clause-items c =
    let old = c.args.numbers.now.items in
    c.truncate.ensures.items ∙ c.loop-i.invariant.kept ∙ ap (λ (ns : List ℕ). numbers_from c.args.first ns) (take_all c.loop-i.i old (omega (arith, c.loop-i-test.false, c.len-i-end.ensures, c.args.numbers.now.ok.0)))
