use Rattle.std.proofs.Common.{◌≡◌, ◌⊎◌, false, is_some, Option, Some, None, ◌<◌, ◌++◌, ℕ, take, drop, ap, subst, ◌∙◌, refl, arith, rules}
use Rattle.std.proofs.lemmas.List.{length-take-le}
use Rattle.pl_event.specs.declared.outcomes.Cause.{Cause}
use Rattle.pl_event.specs.declared.outcomes.Cause.TheVariants.{Transport}
use Rattle.pl_event.specs.declared.outcomes.Outcome.TheVariants.{Fault}
use Rattle.pl_head.specs.HeadStand.{HeadView, first_cause}
use Rattle.pl_head.specs.Writes.{out}
use Rattle.pl_head.specs.Transports.{FailsNext}
use Rattle.pl_head.specs.OutboundStand.{buffer_view}
use Rattle.pl_head.proofs.HeadAfter.{unfailed, fail_after}
use Rattle.pl_head.proofs.Rising.{goes_on-same}
use Rattle.pl_head.proofs.Accepting.{wrote_sizes, accepted_some, all_left, idle_after, idles, accepts, waits_for}
use Rattle.pl_head.proofs.heads.Head.write_current.Goals as goal
use Rattle.pl_head.proofs.heads.Head.write_current.Goals.{In-Some}

first_is : (f : Option Cause) → is_some f ≡ false → Some Transport ≡ first_cause f (Some Transport)
first_is None e = refl
first_is (Some cause) e = cc e

-- nothing waits
pub returns-in-None : goal.returns-in-None
returns-in-None g c =
    rw (← c.self.view_is)
    (idles g.T.Transport.state g.T.Transport.may_refuse _ _ (search rules) (λ ys zs sizes s. idle_after c.self.inside.failure _ _ ys zs _ sizes s (λ t. all_left _ (out ys) (c.in-None.ensures.none _ ys _ sizes t))))

-- it has not failed before
none : (g : _) (c : In-Some g) → is_some c.self.inside.failure ≡ false
none g c = ap (λ (h : HeadView g.row.T.Denot). is_some h.failure) c.self.view_is ∙ ap (λ (f : Option Cause). is_some f) c.requires.failure

-- it accepts nothing
pub returns-in-Ok-eq0 : goal.returns-in-Ok-eq0
returns-in-Ok-eq0 g c =
    let w = c.write.ensures in
    rw (← c.self.view_is)
    (accepts g.T.Transport.state g.T.Transport.may_refuse _ c.write.new.self _ _ _ c.in-Some.bytes.now 0 (none g (goal.at.returns-in-Ok-eq0 g c).In-Some) (λ ys sizes. c.in-Some.ensures.offers _ ys _ sizes)
    (search rules) (search rules) w.called (search rules) w.window (search rules) (search rules) w.fail_at
    (λ e. (refl, refl)) (search rules) refl (search rules) (record { settled = goes_on-same _; told = refl }) (search rules))

-- it accepts some
pub returns-in-Ok : goal.returns-in-Ok
returns-in-Ok g c =
    let accepted = (g.T.Transport.state c.self.inside.transport).accepted in
    let bytes = c.in-Some.bytes.now in
    let count = c.in-Ok.count in
    let some : 0 < count = omega (arith, c.in-Ok.count-test) in
    let w = c.write.ensures in
    let ok = c.in-Ok.ensures in
    rw (← c.self.view_is)
    (accepts g.T.Transport.state g.T.Transport.may_refuse _ c.write.new.self _ _ _ bytes count (none g (goal.at.returns-in-Ok g c).In-Some) (λ ys sizes. c.in-Some.ensures.offers _ ys _ sizes)
    ok.within ok.accepts w.called ok.sound w.window ok.full ok.fails_there w.fail_at
    (λ e. absurd (omega (arith, some, e)))
    (λ ys sizes t.
    let left = (c.in-Some.ensures.offers accepted ys _ sizes t).2 in
    let size = length-take-le count bytes ok.within in
    let whole = accepted_some accepted bytes left.0 (out ys) count left.1 in
    rw (ok.accepts, wrote_sizes count _ _ some)
    (c.remove_bytes.ensures.stands accepted (take count bytes) (drop count bytes ++ left.0) ys _ sizes t size whole, c.remove_bytes.ensures.flags accepted (take count bytes) (drop count bytes ++ left.0) ys _ sizes t size whole))
    (search rules) (search rules) (search rules) (search rules))

-- it fails
pub returns-in-Err : goal.returns-in-Err
returns-in-Err g c =
    let none = none g (goal.at.returns-in-Err g c).In-Some in
    let inside = c.self.inside in
    rw (← c.self.view_is) record {
      called = search rules;
      idle = search rules;
      wrote = search rules;
      sound = search rules;
      failed = search rules;
      kept = search rules;
      nothing = search rules;
      window = search rules;
      fail_at = search rules;
      within = search rules;
      full = search rules;
      fails_there = search rules;
      fails_else = λ ys zs sizes e s.
          let size = (c.in-Some.ensures.offers _ ys _ sizes (unfailed inside.failure _ _ ys zs _ sizes none s)).1 in
          subst (λ (size : ℕ). FailsNext (g.T.Transport.state inside.transport) ⊎ g.T.Transport.may_refuse inside.transport size) size c.in-Err.ensures.fails_else;
      waits = λ ys zs sizes s. waits_for inside.failure _ _ ys zs _ sizes c.in-Some.bytes.now _ none (λ e. cc e) (c.in-Some.ensures.offers _ ys _ sizes) s;
      rests = search rules;
      stood = λ ys zs sizes s.
          rw c.in-Err.ensures.kept (fail_after inside.failure Fault _ (buffer_view inside.buffer) (buffer_view c.fail.new.self) ys zs _ sizes none s (λ t. c.fail.ensures.stands _ ys _ sizes t));
      flags = search rules;
      failure = first_is inside.failure none;
      same = search rules;
      numbering = search rules;
      marks = search rules;
      settles = search rules;
      few = search rules;
    }
