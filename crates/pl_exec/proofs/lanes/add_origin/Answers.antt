use Rattle.std.proofs.Common.{rules, ◌++◌, List, ap, ◌∙◌, arith}
use Rattle.std.proofs.lemmas.List.{length-set, nil_from_length}
use Rattle.std.proofs.lemmas.Option.{slice_get_within}
use Rattle.pl_event.proofs.Lists.{at-index}
use Rattle.pl_exec.specs.declared.lanes.Leaving.{Leaving}
use Rattle.pl_exec.specs.Opening.{lanes_with, way_if, ways_in}
use Rattle.pl_exec.proofs.ListSteps.{all-done, one-more}
use Rattle.pl_exec.proofs.WaysMade.{lanes-more, own-added}
use Rattle.pl_exec.proofs.lanes.add_origin.Goals as goal

pub loop-leaving-init : goal.loop-leaving-init
loop-leaving-init c =
    let table = c.args.table.now.items in
    record {
      rest = search rules;
      count = length-set table c.args.origin c.add_way.new.ways;
      added = λ target before after at at' all. own-added table c.args.origin c.index_mut.result.now c.add_way.new.ways c.index_mut.ensures.value c.in_ok-add_way.ensures target before after at at';
    }

pub loop-leaving-preserved : goal.loop-leaving-preserved
loop-leaving-preserved c =
    let inv = c.loop-leaving.invariant in
    let done = c.loop-leaving.yielded in
    let leaving = c.in-Some.leaving in
    let more = c.in_ok-add_leaving.ensures in
    record {
      rest = one-more c.args.lanes.items done c.loop-leaving.leaving-iterator.rest.items c.next.new.self.rest.items leaving c.in-Some.ensures.steps.0 inv.rest;
      count = more.count ∙ inv.count;
      added = λ target before after at at' all.
          let within = slice_get_within c.add_leaving.new.table.items target after at' in
          let size = more.count in
          let mid = at-index c.loop-leaving.table.items target (omega (arith, within, size)) in
          more.added target mid.0 after mid.1 at' (ways_in before.items) (lanes_with done target) all (inv.added target before mid.0 at mid.1 all) ∙ lanes-more c.args.origin target (ways_in before.items) done leaving;
    }

pub returns-clause-count : goal.returns-clause-count
returns-clause-count c = c.loop-leaving.invariant.count

pub returns-clause-added : goal.returns-clause-added
returns-clause-added c =
    let inv = c.loop-leaving.invariant in
    let left = c.loop-leaving.leaving-iterator.rest in
    let done = all-done c.args.lanes.items c.loop-leaving.yielded left.items (nil_from_length left.items (omega (arith, c.in-None.ensures.steps.0, left.ok))) inv.rest in
    λ target before after at at' all. inv.added target before after at at' all ∙ ap (λ (l : List Leaving). ways_in before.items ++ way_if target c.args.origin (lanes_with l target)) done
