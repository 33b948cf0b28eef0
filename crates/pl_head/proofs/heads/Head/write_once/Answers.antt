use Rattle.std.proofs.Common.{◌≡◌, Bool, true, false, Option, None, Some, sym, ◌∙◌, refl}
use Rattle.std.specs.Prelude.{IsSome}
use Rattle.pl_event.specs.declared.outcomes.Cause.{Cause}
use Rattle.pl_head.proofs.Accepting.{idles}
use Rattle.pl_head.proofs.heads.Head.write_once.Goals as goal

unfailed : (failure : Option Cause) (written : Bool) → (IsSome failure → written ≡ true) → written ≡ false → failure ≡ None
unfailed None written failed waits = refl
unfailed (Some cause) written failed waits = cc (failed refl, waits)

pub write_current-requires-clause-failure : goal.write_current-requires-clause-failure
write_current-requires-clause-failure g c = unfailed c.args.self.now.failure c.is_written.result c.is_written.ensures.failed c.if-is_written.false

-- nothing waits, or it has failed
pub returns-then-is_written : goal.returns-then-is_written
returns-then-is_written g c =
    idles g.T.Transport.state g.T.Transport.may_refuse _ _ c.is_written.ensures.few (λ ys zs sizes s. sym (c.is_written.ensures.stands ys zs sizes s) ∙ c.if-is_written.true)
