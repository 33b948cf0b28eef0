use Rattle.std.proofs.Common.{ap, ◌∙◌}
use Rattle.pl_exec.specs.declared.lanes.WayIn.{WayIn}
use Rattle.pl_exec.specs.Opening.{ways_in}
use Rattle.pl_exec.proofs.WaysMade.{added-last, added-new, last-other, same-read}
use Rattle.pl_exec.proofs.lanes.add_behind.Goals as goal

pub returns-then-index-origin : goal.returns-then-index-origin
returns-then-index-origin c = λ target others own all are.
    let items = c.args.ways.now.items in
    let same = same-read items c.args.last c.index_mut.result.now c.index.result.now c.requires.there c.index_mut.ensures.value c.index.ensures in
    added-last items others target c.args.origin own c.args.lane all are c.args.last c.index_mut.result.now c.add.new.self c.requires.last c.index_mut.ensures.value
    (ap (λ (w : WayIn). w.origin) same ∙ c.if-index-origin.true) c.in_ok-add.ensures.origin c.in_ok-add.ensures.lanes

pub returns : goal.returns
returns c = λ target others own all are.
    let items = c.args.ways.now.items in
    added-new items others target c.args.origin own c.args.lane all are (ways_in c.add_new.new.ways.items)
    (last-other items others target c.args.origin own c.args.last c.index.result.now are c.requires.last c.index.ensures c.if-index-origin.false) c.in_ok-add_new.ensures
