-- One line more.
use Rattle.std.proofs.Common.{◌≡◌, ℕ, ◌+◌, ◌-◌, ◌^◌, List, [], ◌∷◌, ◌++◌, Bool, true, cond, ap, ◌∙◌, arith}
use Rattle.std.specs.Prelude.{count_by, min}
use Rattle.std.proofs.lemmas.List.Sums.{sum_by_push}
use Rattle.pl_event.specs.declared.events.Event.{Event}
use Rattle.pl_example_handlers.specs.Counting.{lines}
use Rattle.pl_example_handlers.specs.OddLines.{is_line}

one_more : (most n m : ℕ) → m ≡ n + 1 → min m most ≡ min (min n most + 1) most
one_more most n m is = omega (arith, is)

pub line_more : (xs : List Event) (x : Event) → is_line x ≡ true → lines (xs ++ x ∷ []) ≡ min (lines xs + 1) (2 ^ 64 - 1)
line_more xs x line =
    one_more (2 ^ 64 - 1) (count_by is_line xs) (count_by is_line (xs ++ x ∷ []))
    (sum_by_push (λ (e : Event). cond (is_line e) 1 0) xs x ∙ ap (λ (is : Bool). count_by is_line xs + cond is 1 0) line)
