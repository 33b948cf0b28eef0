use Rattle.std.proofs.Common.{◌≡◌, ℕ, length, take, sym, ap, ◌∙◌, arith}
use Rattle.std.proofs.Math.Seq.{take-length}
use Rattle.std.proofs.lemmas.Slice.Eq.{bytes_eq-Decides}
use Rattle.pl_stages.proofs.command_decoder.is_verb.Goals as goal

-- all bytes are the same
pub returns : goal.returns
returns c =
    let text = c.args.text.now in
    let verb = c.args.verb.now in
    let at = c.loop-at.at in
    let whole : at ≡ length text = omega arith in
    let all : at ≡ length verb = omega arith in
    let same : text ≡ verb =
    sym (ap (λ (n : ℕ). take n text) whole ∙ take-length text) ∙ c.loop-at.invariant ∙ ap (λ (n : ℕ). take n verb) all ∙ take-length verb
    in
    sym ((bytes_eq-Decides text verb).1 same)
