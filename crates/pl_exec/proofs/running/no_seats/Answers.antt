use Rattle.std.proofs.Common.{◌≡◌, ◌++◌, [], ◌∷◌, ℕ, None, replicate, ap, sym, ◌∙◌, arith}
use Rattle.std.proofs.lemmas.Grind.{replicate_next}
use Rattle.pl_exec.proofs.running.no_seats.Goals as goal

pub loop-channel-preserved : goal.loop-channel-preserved
loop-channel-preserved c = c.in_ok-push.ensures.items ∙ (λ i. c.loop-channel.invariant i ++ None ∷ []) ∙ sym (replicate_next c.loop-channel._channel None)

pub returns : goal.returns
returns c =
    let all : c.loop-channel._channel ≡ c.args.count = omega arith in
    c.loop-channel.invariant ∙ ap (λ (n : ℕ). replicate n None) all
