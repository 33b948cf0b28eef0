use Rattle.std.proofs.Common.{refl, sym, ap, ◌∙◌}
use Rattle.std.specs.Prelude.{is_some}
use Rattle.pl_replay.proofs.Hindered.{no-channel, tells-write, tells-failed, tells-nothing-flushed}
use Rattle.pl_replay.proofs.nets.Net.write_hindrance.Goals as goal

pub returns-in_err-head : goal.returns-in_err-head
returns-in_err-head g c = no-channel (λ plan. refl) c.in_err-head.ensures c.from_residual.ensures

pub returns-then-not-is_written : goal.returns-then-not-is_written
returns-then-not-is_written g c = tells-write c.in_ok-head.ensures c.is_written.ensures.stands c.if-not-is_written.true

pub returns-then-is_some : goal.returns-then-is_some
returns-then-is_some g c = tells-failed c.in_ok-head.ensures c.is_written.ensures.stands c.if-not-is_written.false (ap is_some (sym c.failure.ensures) ∙ sym c.is_some.ensures ∙ c.if-is_some.true)

pub returns : goal.returns
returns g c = tells-nothing-flushed c.in_ok-head.ensures c.is_written.ensures.stands c.if-not-is_written.false (ap is_some (sym c.failure.ensures) ∙ sym c.is_some.ensures ∙ c.if-is_some.false)
