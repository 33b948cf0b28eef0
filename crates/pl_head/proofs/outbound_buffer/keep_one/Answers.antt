use Rattle.std.proofs.Common.{◌≡◌, ℕ, ◌+◌, ◌-◌, List, [], ◌∷◌, ◌++◌, take, get_or, ap, sym, ◌∙◌, append-nil, arith}
use Rattle.std.proofs.lemmas.List.{length-set, get_or_default, take_more_set, drop-set-lt}
use Rattle.pl_head.specs.Settling.{numbers_from}
use Rattle.pl_head.proofs.Renumbering.{one-from, one-below}
use Rattle.pl_head.proofs.outbound_buffer.keep_one.Goals as goal
use Rattle.pl_head.proofs.outbound_buffer.keep_one.Goals.{After-index-number}

-- the number at the place, by any default
read : (c : After-index-number) → c.index-number.result.now ≡ get_or c.args.numbers.now.items c.args.index 0
read c = c.index-number.ensures ∙ get_or_default c.args.numbers.now.items c.args.index c.index-number.result.now 0 c.requires.within

pub returns-then-number-first-clause-kept : goal.returns-then-number-first-clause-kept
returns-then-number-first-clause-kept c =
    let ns = c.args.numbers.now.items in
    sym
    (ap (λ (n : ℕ). take c.args.kept ns ++ numbers_from c.args.first (n ∷ [])) (sym (read (goal.at.returns-then-number-first-clause-kept c).After-index-number))
    ∙ ap (λ (xs : List ℕ). take c.args.kept ns ++ xs) (one-below c.args.first c.index-number.result.now c.if-number-first.true) ∙ append-nil (take c.args.kept ns))

pub returns-clause-kept : goal.returns-clause-kept
returns-clause-kept c =
    let ns = c.args.numbers.now.items in
    let n = c.index-number.result.now in
    take_more_set ns c.args.kept (n - c.args.first) (omega (arith, c.requires.before, c.requires.within))
    ∙ sym
    (ap (λ (m : ℕ). take c.args.kept ns ++ numbers_from c.args.first (m ∷ [])) (sym (read (goal.at.returns-clause-kept c).After-index-number))
    ∙ ap (λ (xs : List ℕ). take c.args.kept ns ++ xs) (one-from c.args.first n c.if-number-first.false))

pub returns-clause-left : goal.returns-clause-left
returns-clause-left c =
    drop-set-lt (c.args.index + 1) c.args.numbers.now.items c.args.kept (c.index-number.result.now - c.args.first) (omega (arith, c.requires.before))

pub returns-clause-length : goal.returns-clause-length
returns-clause-length c = length-set c.args.numbers.now.items c.args.kept (c.index-number.result.now - c.args.first)
