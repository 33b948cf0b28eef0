use Rattle.std.proofs.Common.{◌≡◌, Bool, true, false, sym, ◌∙◌, refl, rules}
use Rattle.std.specs.Prelude.{◌&&◌}
use Rattle.pl_head.specs.declared.heads.ReadStep.TheVariants.{Gave}
use Rattle.pl_head.specs.HeadStand.{read_answer}
use Rattle.pl_head.specs.ReadSteps.{has_step, is_burst, bursts_read}
use Rattle.pl_head.proofs.heads.Head.next_read.Goals as goal

gives : (burst unwritable : Bool) → Gave ≡ read_answer true (burst && unwritable && false)
gives false unwritable = refl
gives true false = refl
gives true true = refl

pub returns-in-Some : goal.returns-in-Some
returns-in-Some g c =
    rw (← c.self.view_is) record {
      done = search rules;
      answers = λ p reads failed ys zs sizes s stands.
          let left : has_step p reads failed ≡ true = sym (c.has_step.ensures.steps p reads failed s) ∙ c.if-not-has_step.false in
          rw (left, c.in-Some.is) (gives (is_burst (bursts_read p) reads) c.self.inside.buffer.marks.is_unwritable);
      never_held = λ failed e. cc e;
      is_left = search rules;
      idle = search rules;
      reads = search rules;
      puts = search rules;
      same = search rules;
      entrance_stays = search rules;
      aborts = search rules;
      numbering = search rules;
      marks = search rules;
      settles = search rules;
      few = search rules;
    }
