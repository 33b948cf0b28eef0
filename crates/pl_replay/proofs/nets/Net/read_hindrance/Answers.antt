use Rattle.std.proofs.Common.{refl}
use Rattle.pl_replay.proofs.Hindered.{no-channel, tells-no-step, tells-held, tells-read}
use Rattle.pl_replay.proofs.nets.Net.read_hindrance.Goals as goal

pub returns-in_err-head : goal.returns-in_err-head
returns-in_err-head g c = no-channel (λ plan. refl) c.in_err-head.ensures c.from_residual.ensures

pub returns-then-not-has_read_step : goal.returns-then-not-has_read_step
returns-then-not-has_read_step g c = tells-no-step c.in_ok-head.ensures c.has_read_step.ensures.reads c.has_read_step.ensures.open c.if-not-has_read_step.true

pub returns-then-is_held : goal.returns-then-is_held
returns-then-is_held g c = tells-held c.in_ok-head.ensures c.has_read_step.ensures.reads c.has_read_step.ensures.open c.is_held.ensures.held c.if-not-has_read_step.false c.if-is_held.true

pub returns : goal.returns
returns g c = tells-read c.in_ok-head.ensures c.has_read_step.ensures.reads c.has_read_step.ensures.open c.is_held.ensures.held c.if-not-has_read_step.false c.if-is_held.false
