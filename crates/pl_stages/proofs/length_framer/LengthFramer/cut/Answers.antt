use Rattle.std.proofs.Common.{◌≡◌, ◌++◌, take, drop, length, ap, sym, ◌∙◌, append-nil, append_assoc}
use Rattle.std.proofs.lemmas.List.{take_rest, take-append-drop, nil_from_length}
use Rattle.std.proofs.lemmas.Bool.{eqb-true}
use Rattle.pl_event.specs.Meaning.{IsPrefixOf-trans}
use Rattle.pl_stages.proofs.FrameSteps.{takes_both}
use Rattle.pl_stages.proofs.length_framer.LengthFramer.cut.Goals as goal

pub loop-rest-preserved : goal.loop-rest-preserved
loop-rest-preserved c =
    let before = c.loop-rest.invariant in
    let rest = c.loop-rest.rest.now in
    let more = take c.in_ok-taken.taken rest in
    record {
      width = c.take_some.ensures.width ∙ before.width;
      max = c.take_some.ensures.max ∙ before.max;
      taken = (
        before.taken.0 ++ more,
        (
          ap (λ left. (before.taken.0 ++ more) ++ left) (take_rest rest c.in_ok-taken.taken)
              ∙ append_assoc before.taken.0 more (drop c.in_ok-taken.taken rest)
              ∙ ap (λ whole. before.taken.0 ++ whole) (take-append-drop c.in_ok-taken.taken rest) ∙ before.taken.1.0,
          takes_both _ _ _ _ _ _ _ _ _ _ _ _ _ c.args.self.now.widths before.taken.1.1
              (rw (before.width, before.max) at c.in_ok-taken.ensures.takes),
        ),
      );
      begins = IsPrefixOf-trans _ _ _ before.begins c.take_some.ensures.begins;
    }

pub returns-clause-takes : goal.returns-clause-takes
returns-clause-takes c =
    let taken = c.loop-rest.invariant.taken in
    let none = nil_from_length c.loop-rest.rest.now (eqb-true (length c.loop-rest.rest.now) 0 (sym c.is_empty.ensures ∙ c.loop-rest-test.false)) in
    let all : taken.0 ≡ c.args.bytes.now = sym (append-nil taken.0) ∙ ap (λ rest. taken.0 ++ rest) (sym none) ∙ taken.1.0 in
    rw all at taken.1.1
