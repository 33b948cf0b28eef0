use Rattle.std.proofs.Common.{◌≡◌, ℕ, ◌-◌, List, Option, length, take, drop, ap₂, ◌∙◌, arith, length-drop}
use Rattle.std.proofs.Math.Seq.{take-append_seam}
use Rattle.pl_event.specs.declared.outcomes.Outcome.{Outcome}
use Rattle.pl_head.proofs.outbound_buffer.drop_first.Goals as goal

pub returns-clause-items : goal.returns-clause-items
returns-clause-items c =
    let os = c.args.outcomes.now.items in
    let left : c.len.result - c.args.count ≡ length (drop c.args.count os) = omega (arith, c.len.ensures, c.args.outcomes.now.ok.0, length-drop c.args.count os) in
    c.truncate.ensures.items
    ∙ ap₂ (λ (n : ℕ) (xs : List (Option Outcome)). take n xs) left c.rotate_left.ensures.items
    ∙ take-append_seam (drop c.args.count os) (take c.args.count os)
