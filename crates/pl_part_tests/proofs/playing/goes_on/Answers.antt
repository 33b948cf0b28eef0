use Rattle.std.proofs.Common.{sym, ◌∙◌}
use Rattle.pl_part_tests.specs.SampleParts.{sample_world}
use Rattle.pl_part_tests.proofs.SampleLemmas.{front-next, ready-front, ready-gone}
use Rattle.pl_part_tests.proofs.playing.goes_on.Goals as goal

pub take-took-requires : goal.take-took-requires
take-took-requires c =
    let r = c.requires.ready in
    let p = c.args.part.now in
    let x = c.in-Some.envelope in
    record { next = (sample_world, front-next p c.args.work.now c.next.new.self x c.in-Some.ensures.front c.in-Some.ensures.stopped r (sym (c.enters.ensures p r.sample) ∙ c.if-enters.true)) }

pub returns-in_ok-push : goal.returns-in_ok-push
returns-in_ok-push c =
    let r = c.requires.ready in
    let p = c.args.part.now in
    let x = c.in-Some.envelope in
    record {
      ready = ready-front p c.args.work.now c.next.new.self x c.in-Some.ensures.front c.in-Some.ensures.stopped r (sym (c.enters.ensures p r.sample) ∙ c.if-enters.true)
          _ c.take-took.result c.take-took.new.self c.take-took.new.work c.take-took.ensures;
    }

pub returns-in_ok-push-2 : goal.returns-in_ok-push-2
returns-in_ok-push-2 c =
    let r = c.requires.ready in
    let p = c.args.part.now in
    let x = c.in-Some.envelope in
    record { ready = ready-gone p c.args.work.now c.next.new.self x c.in-Some.ensures.front c.in-Some.ensures.stopped r (sym (c.enters.ensures p r.sample) ∙ c.if-enters.false) }
