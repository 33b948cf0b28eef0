use Rattle.std.proofs.Common.{◌∙◌, ap, sym, set, get_or, arith}
use Rattle.pl_queue.specs.Views.{take_count}
use Rattle.pl_queue.specs.declared.views.TakeCount.{TakeCount}
use Rattle.pl_queue.proofs.PositionLemmas.{count-there}
use Rattle.pl_queue.proofs.counts.set_next.Goals as goal

pub index_mut-requires : goal.index_mut-requires
index_mut-requires c =
    let r = count-there c.args.positions.now.rows.items c.args.lane c.args.next 0 c.args.counts.now.items c.requires.positions c.requires.there in
    omega (arith, r.1, r.2, c.find-position.ensures, c.args.counts.now.ok.0)

pub returns : goal.returns
returns c =
    let counts = c.args.counts.now.items in
    let r = count-there c.args.positions.now.rows.items c.args.lane c.args.next 0 counts c.requires.positions c.requires.there in
    let d = c.index_mut.result.now in
    ap (λ (m : TakeCount). set counts c.find-position.result (take_count m.lane c.args.next)) c.index_mut.ensures.value
    ∙ ap (λ i. set counts i (take_count (get_or counts i d).lane c.args.next)) (omega (arith, r.1, c.find-position.ensures))
    ∙ sym (r.3 d)
