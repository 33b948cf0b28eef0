use Rattle.std.proofs.Common.{rules, ◌≡◌, ◌<◌, [], ◌∷◌, List, ap, length, refl, ◌∙◌, arith, length-append}
use Rattle.std.specs.Global.{Vec}
use Rattle.std.proofs.lemmas.List.{nil_from_length}
use Rattle.pl_event.proofs.Lists.{All-at}
use Rattle.pl_exec.specs.declared.lanes.Leaving.{Leaving}
use Rattle.pl_exec.specs.declared.lanes.WayIn.{WayIn}
use Rattle.pl_exec.specs.Opening.{ways_in}
use Rattle.pl_exec.proofs.ListSteps.{all-done, at-next, next-within, one-more}
use Rattle.pl_exec.proofs.WaysMade.{next-ways, whole-ways}
use Rattle.pl_exec.proofs.lanes.ways_by_target.Goals as goal
use Rattle.pl_exec.proofs.lanes.ways_by_target.Goals.{In-Some}

-- the next executor is one of these
within : (c : In-Some) → c.loop-row.origin < length c.args.lanes.items
within c =
    let inv = c.loop-row.invariant in
    next-within c.args.lanes.items c.loop-row.yielded c.loop-row.row-iterator.rest.items c.next.new.self.rest.items c.in-Some.row c.loop-row.origin inv.rest c.in-Some.ensures.steps.0 inv.at

pub overflow_add-origin : goal.overflow_add-origin
overflow_add-origin c = let lt = within (goal.at.overflow_add-origin c).In-Some in omega (arith, lt, c.requires.few)

pub loop-row-init : goal.loop-row-init
loop-row-init c =
    let empty = c.in_ok-table.ensures in
    record {
      at = refl;
      rest = search rules;
      count = omega (arith, empty.count, c.len.ensures, c.args.lanes.ok.0);
      made = λ target ways at. ap (λ (l : List WayIn). ways_in l) (All-at (λ (v : Vec WayIn). v.items ≡ []) c.in_ok-table.table.items target ways empty.none at);
    }

pub add_origin-requires-clause-there : goal.add_origin-requires-clause-there
add_origin-requires-clause-there c = let lt = within (goal.at.add_origin-requires-clause-there c).In-Some in omega (arith, lt, c.loop-row.invariant.count)

pub add_origin-requires-clause-few : goal.add_origin-requires-clause-few
add_origin-requires-clause-few c = let lt = within (goal.at.add_origin-requires-clause-few c).In-Some in omega (arith, lt, c.requires.few)

pub loop-row-preserved : goal.loop-row-preserved
loop-row-preserved c =
    let inv = c.loop-row.invariant in
    let done = c.loop-row.yielded in
    let row = c.in-Some.row in
    let rest = c.next.new.self.rest.items in
    let front = c.in-Some.ensures.steps.0 in
    let added = c.in_ok-add_origin.ensures in
    record {
      at = omega (arith, inv.at, length-append done (row ∷ []));
      rest = one-more c.args.lanes.items done c.loop-row.row-iterator.rest.items rest row front inv.rest;
      count = added.count ∙ inv.count;
      made =
          next-ways c.args.lanes.items c.loop-row.table.items c.add_origin.new.table.items c.loop-row.origin row inv.count added.count
          (at-next c.args.lanes.items done c.loop-row.row-iterator.rest.items rest row c.loop-row.origin inv.rest front inv.at) inv.made added.added;
    }

pub returns : goal.returns
returns c =
    let inv = c.loop-row.invariant in
    let left = c.loop-row.row-iterator.rest in
    let done = all-done c.args.lanes.items c.loop-row.yielded left.items (nil_from_length left.items (omega (arith, c.in-None.ensures.steps.0, left.ok))) inv.rest in
    whole-ways c.args.lanes.items c.loop-row.table.items c.loop-row.origin inv.count (inv.at ∙ ap (λ (l : List (Vec Leaving)). length l) done) inv.made
