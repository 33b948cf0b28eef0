use Rattle.std.proofs.Common.{◌≡◌, take}
use Rattle.pl_stages.proofs.command_decoder.is_verb.Given as goal

-- they are the same so far
abbrev pub invariant-loop-at : goal.invariant-loop-at
invariant-loop-at l = take l.at l.text ≡ take l.at l.verb
