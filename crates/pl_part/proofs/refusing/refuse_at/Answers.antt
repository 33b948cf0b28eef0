use Rattle.std.proofs.Common.{subst, sym}
use Rattle.pl_event.specs.Meaning.{Meaning}
use Rattle.pl_event.specs.declared.outcomes.Cause.TheVariants.{Refused}
use Rattle.pl_part.specs.ContextHolds.{HoldsWith}
use Rattle.pl_part.proofs.ContextSteps.{context-failed}
use Rattle.pl_part.proofs.ContextPlaces.{fail-places}
use Rattle.pl_part.proofs.ContextCounts.{failed-more}
use Rattle.pl_part.proofs.refusing.refuse_at.Goals as goal

pub returns-in-Data-clause-refused : goal.returns-in-Data-clause-refused
returns-in-Data-clause-refused g c = record { fails = λ k live. c.fail.ensures.open live; over = c.fail.ensures.over; flag = λ k. cc }

pub returns-in-Data-clause-holds : goal.returns-in-Data-clause-holds
returns-in-Data-clause-holds g c = λ world refuses h.
    let meaning = g.S.Stage.meaning in
    let stands = g.S.Stage.stands_after in
    let now = (context-failed world meaning stands g.S.Stage.is_spent g.met.S.Stage.lawful h.events c.args.context.now h.holds
    Refused refuses c.args.work.now c.fail.new.outputs c.fail.new.self c.fail.ensures.open c.fail.ensures.over).0 in
    record { events = h.events; holds = subst (λ (m : Meaning). HoldsWith world meaning stands m h.events c.fail.new.self) (sym now.meant) now }

pub returns-in-Data-clause-made : goal.returns-in-Data-clause-made
returns-in-Data-clause-made g c = λ world refuses h.
    (context-failed world g.S.Stage.meaning g.S.Stage.stands_after g.S.Stage.is_spent g.met.S.Stage.lawful h.events c.args.context.now h.holds
    Refused refuses c.args.work.now c.fail.new.outputs c.fail.new.self c.fail.ensures.open c.fail.ensures.over).1

pub returns-in-Data-clause-placed : goal.returns-in-Data-clause-placed
returns-in-Data-clause-placed g c = λ lanes within places.
    fail-places g.S.Stage.meaning g.S.Stage.stands_after g.S.Stage.is_spent c.args.context.now lanes within c.args.work.now c.fail.new.outputs places
    Refused c.fail.new.self c.fail.ensures.open c.fail.ensures.over

pub returns-in-Data-clause-more : goal.returns-in-Data-clause-more
returns-in-Data-clause-more g c =
    failed-more g.S.Stage.meaning g.S.Stage.stands_after g.S.Stage.is_spent c.args.context.now c.args.work.now c.fail.new.outputs c.fail.new.self
    Refused c.fail.ensures.open c.fail.ensures.over
