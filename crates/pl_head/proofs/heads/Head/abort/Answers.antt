use Rattle.std.proofs.Common.{◌≡◌, false, is_some, Some, sym, ap, ◌∙◌, rules}
use Rattle.pl_event.specs.declared.outcomes.Outcome.TheVariants.{Closed}
use Rattle.pl_event.specs.declared.outcomes.Cause.TheVariants.{Aborted}
use Rattle.pl_head.specs.InputStand.{InputView}
use Rattle.pl_context.specs.Standings.{is_over}
use Rattle.pl_head.specs.OutboundStand.{buffer_view}
use Rattle.pl_head.proofs.BufferSteps.{same_flags}
use Rattle.pl_head.proofs.HeadAfter.{unfailed, fail_after, removed_all}
use Rattle.pl_head.proofs.heads.Head.abort.Goals as goal

pub returns : goal.returns
returns g c =
    rw (← c.self.view_is) record {
      aborts = λ is.
          let inside = c.self.inside in
          let accepted = (g.T.Transport.state inside.transport).accepted in
          let none : is_some inside.failure ≡ false = sym c.is_some.ensures ∙ c.if-is_some.false in
          record {
            between = c.fail.new.outputs;
            stands = λ ys zs sizes s. fail_after inside.failure Closed accepted (buffer_view inside.buffer) (buffer_view c.fail.new.self) ys zs (is_over inside.standing) sizes none s (λ t. c.fail.ensures.stands accepted ys (is_over inside.standing) sizes t);
            flags = λ ys zs sizes s. same_flags sizes (removed_all inside.failure _ none) (c.fail.ensures.flags accepted ys (is_over inside.standing) sizes (unfailed inside.failure accepted (buffer_view inside.buffer) ys zs (is_over inside.standing) sizes none s));
            puts = c.fail-2.ensures.puts;
            same =
                ap (λ (i : InputView). record { transport = inside.transport; channel = inside.channel; hop = inside.hop; taken = inside.taken; standing = inside.standing; failure = Some Aborted; is_closed = inside.is_closed; buffer = buffer_view c.fail.new.self; input = i; gone = inside.gone; has_forgotten = inside.has_forgotten }) c.fail-2.ensures.after;
          };
      reads = search rules;
      failed = search rules;
      failure = search rules;
      numbering = search rules;
      marks = search rules;
      settles = search rules;
      few = search rules;
    }
