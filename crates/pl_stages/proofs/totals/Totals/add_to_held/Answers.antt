use Rattle.std.proofs.Common.{◌+◌, ltb, Some, rules, sym, ◌∙◌}
use Rattle.pl_event.specs.declared.events.Fault.TheVariants.{Range}
use Rattle.pl_stages.specs.declared.limits.TheConstants.{MAX_TOTAL}
use Rattle.pl_stages.proofs.Additions.{refusal_of-held, KeepsTotals-raise, reply_unless-cond}
use Rattle.pl_stages.proofs.TotalsByName.{get_by-updates}
use Rattle.pl_stages.proofs.totals.Totals.add_to_held.Goals as goal

pub returns-in-Some-clause-reply : goal.returns-in-Some-clause-reply
returns-in-Some-clause-reply c = λ additions keeps.
    let found = sym (rw c.as_slice.ensures.name at c.in-Some.ensures.value) in
    let held = refusal_of-held c.args.self.now additions c.args.key.now c.args.number c.in-Some.held.now keeps found in
    rw (held.1, ← held.0)
    (c.raise.ensures.reply ∙ reply_unless-cond (ltb MAX_TOTAL (c.in-Some.held.now + c.args.number)) Range (c.in-Some.held.now + c.args.number))

pub returns-in-Some-clause-kept : goal.returns-in-Some-clause-kept
returns-in-Some-clause-kept c = λ additions keeps.
    let found = sym (rw c.as_slice.ensures.name at c.in-Some.ensures.value) in
    let updates = (c.get_mut.follows.holds c.raise.new.held).3 (search rules) in
    KeepsTotals-raise c.args.self.now _ additions c.args.key.now c.args.number c.in-Some.held.now c.raise.new.held keeps found c.raise.ensures.total
    (get_by-updates c.args.key.now c.as_slice.result.now c.args.self.now.by_name (c.get_mut.follows.lender c.raise.new.held) (Some c.raise.new.held) c.as_slice.ensures.name updates)
    (search rules)
