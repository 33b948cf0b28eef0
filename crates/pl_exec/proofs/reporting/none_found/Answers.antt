use Rattle.std.proofs.Common.{◌≡◌, ◌++◌, [], ◌∷◌, ℕ, replicate, ap, sym, ◌∙◌, arith}
use Rattle.std.proofs.lemmas.Grind.{replicate_next}
use Rattle.pl_exec.specs.Reported.{nothing_found}
use Rattle.pl_exec.proofs.reporting.none_found.Goals as goal

pub loop-channel-preserved : goal.loop-channel-preserved
loop-channel-preserved g c =
    c.in_ok-push.ensures.items ∙ (λ i. c.loop-channel.invariant i ++ nothing_found ∷ []) ∙ sym (replicate_next c.loop-channel._channel nothing_found)

pub returns : goal.returns
returns g c =
    let all : c.loop-channel._channel ≡ c.args.channels = omega arith in
    c.loop-channel.invariant ∙ ap (λ (n : ℕ). replicate n nothing_found) all
