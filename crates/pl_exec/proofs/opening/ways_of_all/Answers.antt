use Rattle.std.proofs.Common.{rules, [], ◌∷◌, ℕ, List, length, map, ap, refl, subst, sym, ◌∙◌, arith, length-append}
use Rattle.std.proofs.lemmas.List.{nil_from_length}
use Rattle.pl_exec.specs.Opening.{ColumnView, HaveWays, inbox_view}
use Rattle.pl_exec.proofs.Columns.{inboxes-count}
use Rattle.pl_exec.proofs.ListSteps.{all-done, at-next, next-within, one-more}
use Rattle.pl_exec.proofs.WaysDealt.{can-deal, ways-start}
use Rattle.pl_exec.proofs.opening.ways_of_all.Goals as goal

pub overflow_add-target : goal.overflow_add-target
overflow_add-target g c =
    let inv = c.loop-column.invariant in
    let within = next-within c.args.columns.items c.loop-column.yielded c.loop-column.column-iterator.rest.items c.next.new.self.rest.items c.in-Some.column c.loop-column.target inv.rest c.in-Some.ensures.steps.0 inv.at in
    let count = c.requires.deal.1.whole.count in
    omega (arith, within, count, inboxes-count c.args.inboxes.now, c.requires.few)

pub loop-column-init : goal.loop-column-init
loop-column-init g c =
    let none = c.in_ok-rows.ensures in
    record {
      at = refl;
      rest = search rules;
      count = none.count;
      ways = λ lanes can. ways-start lanes c.args.places.now (length c.args.inboxes.now) c.in_ok-rows.rows.items (sym (inboxes-count c.args.inboxes.now) ∙ can.inboxes_count) none.none;
    }

pub deal-requires-clause-few : goal.deal-requires-clause-few
deal-requires-clause-few g c = c.requires.few

pub deal-requires-clause-deal : goal.deal-requires-clause-deal
deal-requires-clause-deal g c =
    let inv = c.loop-column.invariant in
    let can = c.requires.deal in
    let inboxes = map inbox_view c.args.inboxes.now in
    let at = at-next c.args.columns.items c.loop-column.yielded c.loop-column.column-iterator.rest.items c.next.new.self.rest.items c.in-Some.column c.loop-column.target inv.rest c.in-Some.ensures.steps.0 inv.at in (
      can.0,
      can-deal g.M.Mailbox.ends can.0 inboxes c.args.columns.items c.args.places.now c.loop-column.target c.in-Some.column c.loop-column.rows.items can.1 at (inv.count ∙ sym (inboxes-count c.args.inboxes.now)) (inv.ways can.0 can.1),
    )

pub loop-column-preserved : goal.loop-column-preserved
loop-column-preserved g c =
    let inv = c.loop-column.invariant in
    let done = c.loop-column.yielded in
    let column = c.in-Some.column in
    let rest = c.next.new.self.rest.items in
    let front = c.in-Some.ensures.steps.0 in
    let inboxes = map inbox_view c.args.inboxes.now in
    let at = at-next c.args.columns.items done c.loop-column.column-iterator.rest.items rest column c.loop-column.target inv.rest front inv.at in
    record {
      at = omega (arith, inv.at, length-append done (column ∷ []));
      rest = one-more c.args.columns.items done c.loop-column.column-iterator.rest.items rest column front inv.rest;
      count = c.in_ok-deal.ensures.count ∙ inv.count;
      ways = λ lanes can. c.in_ok-deal.ensures.ways lanes
          (can-deal g.M.Mailbox.ends lanes inboxes c.args.columns.items c.args.places.now c.loop-column.target column c.loop-column.rows.items can at (inv.count ∙ sym (inboxes-count c.args.inboxes.now)) (inv.ways lanes can));
    }

pub returns-clause-count : goal.returns-clause-count
returns-clause-count g c = c.loop-column.invariant.count

pub returns-clause-ways : goal.returns-clause-ways
returns-clause-ways g c =
    let inv = c.loop-column.invariant in
    let left = c.loop-column.column-iterator.rest in
    let done = all-done c.args.columns.items c.loop-column.yielded left.items (nil_from_length left.items (omega (arith, c.in-None.ensures.steps.0, left.ok))) inv.rest in
    λ lanes can.
    subst (λ (n : ℕ). HaveWays lanes c.args.places.now n c.loop-column.rows.items) (inv.at ∙ ap (λ (l : List (ColumnView g.row.M-Sender.Denot)). length l) done ∙ can.whole.count ∙ can.inboxes_count) (inv.ways lanes can)
