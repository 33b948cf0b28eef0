use Rattle.std.proofs.Common.{rules, ◌≡◌, true, List, length, refl, subst, arith}
use Rattle.std.specs.Prelude.{is_some}
use Rattle.std.specs.List.{AllZip}
use Rattle.std.proofs.lemmas.List.{nil_from_length}
use Rattle.pl_event.proofs.Lists.{zip_push}
use Rattle.pl_exec.specs.declared.reporting.Found.{Found}
use Rattle.pl_exec.specs.Reported.{IsFinalReport}
use Rattle.pl_exec.proofs.ListSteps.{all-done, at-next, one-more}
use Rattle.pl_exec.proofs.RunReports.{both-there, run-report}
use Rattle.pl_exec.proofs.reporting.reports.Goals as goal
use Rattle.pl_exec.proofs.reporting.reports.Goals.{In-Some}

-- both its ends are there
both : (g : _) (c : In-Some g) → (is_some c.in-Some.found.tail ≡ true) × (is_some c.in-Some.found.head ≡ true)
both g c =
    let done = c.loop-found.yielded in
    let at = at-next c.args.ends.items done c.loop-found.found-iterator.rest.items c.next.new.self.rest.items c.in-Some.found (length done) c.loop-found.invariant.rest c.in-Some.ensures.steps.0 refl in
    both-there g.T.Transport.state g.W.Planned.plan c.args.ends.items c.requires (length done) c.in-Some.found at

pub unwrap-requires : goal.unwrap-requires
unwrap-requires g c = (both g (goal.at.unwrap-requires g c).In-Some).0

pub unwrap-requires-in-loop-found : goal.unwrap-requires-in-loop-found
unwrap-requires-in-loop-found g c = (both g (goal.at.unwrap-requires-in-loop-found g c).In-Some).1

pub loop-found-preserved : goal.loop-found-preserved
loop-found-preserved g c =
    let inv = c.loop-found.invariant in
    let done = c.loop-found.yielded in
    let found = c.in-Some.found in
    let made = c.in_ok-into_report in
    record {
      rest = one-more c.args.ends.items done c.loop-found.found-iterator.rest.items c.next.new.self.rest.items found c.in-Some.ensures.steps.0 inv.rest;
      reported = rw c.in_ok-push.ensures.items (zip_push (IsFinalReport g.T.Transport.state) done c.loop-found.reports.items found made.field-0 inv.reported (record { tail = c.unwrap.result; has_tail = search rules; head = c.unwrap-in-loop-found.result; has_head = search rules; reports = made.ensures.ends; keeps = made.ensures.keeps }));
    }

pub returns-clause-ends : goal.returns-clause-ends
returns-clause-ends g c =
    let inv = c.loop-found.invariant in
    let whole = all-done c.args.ends.items c.loop-found.yielded c.loop-found.found-iterator.rest.items (nil_from_length c.loop-found.found-iterator.rest.items (omega (arith, c.in-None.ensures.steps.0, c.loop-found.found-iterator.rest.ok))) inv.rest in
    rw c.from_vec.ensures (subst (λ (fs : List (Found g.row.T.Denot)). AllZip (IsFinalReport g.T.Transport.state) fs c.loop-found.reports.items) whole inv.reported)

pub returns-clause-run : goal.returns-clause-run
returns-clause-run g c =
    let inv = c.loop-found.invariant in
    let whole = all-done c.args.ends.items c.loop-found.yielded c.loop-found.found-iterator.rest.items (nil_from_length c.loop-found.found-iterator.rest.items (omega (arith, c.in-None.ensures.steps.0, c.loop-found.found-iterator.rest.ok))) inv.rest in
    rw c.from_vec.ensures
    (run-report g.T.Transport.state g.W.Planned.plan c.args.ends.items c.requires c.loop-found.reports.items
    (subst (λ (fs : List (Found g.row.T.Denot)). AllZip (IsFinalReport g.T.Transport.state) fs c.loop-found.reports.items) whole inv.reported))
