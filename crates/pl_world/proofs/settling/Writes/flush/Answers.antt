use Rattle.std.proofs.Common.{◌≡◌, ℕ, ◌++◌, ◌∷◌, [], List, Option, sym, ap, ◌∙◌, append-nil, rules}
use Rattle.pl_head.specs.Writes.{bytes_of}
use Rattle.pl_head.specs.WaitingMessages.{settled}
use Rattle.pl_world.proofs.ChainSteps.{pushed_more}
use Rattle.pl_world.proofs.SettledWrites.{bytes_more}
use Rattle.pl_world.proofs.settling.Writes.flush.Goals as goal

pub loop-write-preserved-in-Continue-branch-2 : goal.loop-write-preserved-in-Continue-branch-2
loop-write-preserved-in-Continue-branch-2 c =
    let before = c.args.self.now in
    let so_far = c.loop-write in
    let w : Option (List ℕ) = c.in-Some.write in
    let b : List ℕ = c.in-Some-write.bytes in
    let one : bytes_of (w ∷ []) ≡ b = ap (λ (v : Option (List ℕ)). bytes_of (v ∷ [])) c.in-Some-write.is ∙ append-nil b in
    let grown : c.extend_from_slice.new.self.items ≡ so_far.self.bytes.items ++ b = search rules in
    record {
      bytes = bytes_more before.bytes.items so_far.self.bytes.items c.extend_from_slice.new.self.items so_far.yielded w so_far.invariant.bytes
          (grown ∙ ap (λ (t : List ℕ). so_far.self.bytes.items ++ t) (sym one));
      outcomes = pushed_more settled before.outcomes.items so_far.self.outcomes.items c.push.new.self.items so_far.yielded w so_far.invariant.outcomes
          (c.in_ok-push-in-Some-write.ensures.items ∙ ap (λ (v : Option (List ℕ)). so_far.self.outcomes.items ++ settled v ∷ []) (sym c.in-Some-write.is));
      unflushed = so_far.invariant.unflushed;
    }

pub loop-write-preserved : goal.loop-write-preserved
loop-write-preserved c =
    let before = c.args.self.now in
    let so_far = c.loop-write in
    let w : Option (List ℕ) = c.in-Some.write in
    let none : bytes_of (w ∷ []) ≡ [] = ap (λ (v : Option (List ℕ)). bytes_of (v ∷ [])) c.in-None-write.is in
    record {
      bytes = bytes_more before.bytes.items so_far.self.bytes.items so_far.self.bytes.items so_far.yielded w so_far.invariant.bytes
          (sym (append-nil so_far.self.bytes.items) ∙ ap (λ (t : List ℕ). so_far.self.bytes.items ++ t) (sym none));
      outcomes = pushed_more settled before.outcomes.items so_far.self.outcomes.items c.push-in-None-write.new.self.items so_far.yielded w so_far.invariant.outcomes
          (c.in_ok-push-in-None-write.ensures.items ∙ ap (λ (v : Option (List ℕ)). so_far.self.outcomes.items ++ settled v ∷ []) (sym c.in-None-write.is));
      unflushed = so_far.invariant.unflushed;
    }
