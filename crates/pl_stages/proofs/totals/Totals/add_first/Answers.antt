use Rattle.std.proofs.Common.{◌≡◌, leb, Some, true, false, rules, ap, ◌∙◌, arith}
use Rattle.pl_event.specs.declared.events.Reply.TheVariants.{Total}
use Rattle.std.proofs.lemmas.Bool.{le-leb, lt-leb}
use Rattle.pl_stages.specs.declared.limits.TheConstants.{MAX_KEYS}
use Rattle.pl_stages.specs.Totals.{kept_count}
use Rattle.pl_stages.proofs.Additions.{refusal_of-first, KeepsTotals-add}
use Rattle.pl_stages.proofs.TotalsByName.{get_by-updates}
use Rattle.pl_stages.proofs.totals.Totals.add_first.Goals as goal

pub returns-then-len-ge-MAX_KEYS-clause-reply : goal.returns-then-len-ge-MAX_KEYS-clause-reply
returns-then-len-ge-MAX_KEYS-clause-reply c = λ additions keeps.
    let refused = refusal_of-first c.args.self.now additions c.args.key.now c.args.number keeps c.requires c.ranges.number.fits in
    let full : leb MAX_KEYS (kept_count c.args.self.now) ≡ true = le-leb _ _ (omega (arith, c.len.ensures.len)) in
    rw (refused.1, full)

pub returns-clause-reply : goal.returns-clause-reply
returns-clause-reply c = λ additions keeps.
    let refused = refusal_of-first c.args.self.now additions c.args.key.now c.args.number keeps c.requires c.ranges.number.fits in
    let room : leb MAX_KEYS (kept_count c.args.self.now) ≡ false = lt-leb _ _ (omega (arith, c.len.ensures.len)) in
    rw (refused.1, room) (ap Total (omega (arith, refused.0, c.from-total.ensures)))

pub returns-clause-kept : goal.returns-clause-kept
returns-clause-kept c = λ additions keeps.
    let refused = refusal_of-first c.args.self.now additions c.args.key.now c.args.number keeps c.requires c.ranges.number.fits in
    let room : leb MAX_KEYS (kept_count c.args.self.now) ≡ false = lt-leb _ _ (omega (arith, c.len.ensures.len)) in
    rw (refused.1, room)
    (KeepsTotals-add c.args.self.now _ additions c.args.key.now c.args.number c.from-total.result keeps
    (get_by-updates c.args.key.now c.in_ok-name.name.items c.args.self.now.by_name c.insert.new.self (Some c.from-total.result) (c.in_ok-name.ensures.items ∙ c.as_slice.ensures.name) c.in_ok-insert.ensures.updates)
    (search rules) (omega (arith, refused.0, c.from-total.ensures)))
