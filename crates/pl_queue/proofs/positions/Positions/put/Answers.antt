use Rattle.std.specs.Global.{Vec}
use Rattle.std.proofs.Common.{◌∙◌, ℕ, ap, sym, set, get_or, arith}
use Rattle.pl_queue.specs.Positions.{row_of as the_row_of, position_of}
use Rattle.pl_queue.proofs.PositionLemmas.{position-here, position-others}
use Rattle.pl_queue.proofs.positions.Positions.put.Goals as goal

pub returns-clause-here : goal.returns-clause-here
returns-clause-here c =
    let more = c.add_rows.new.rows.items in
    ap (λ n. position_of (set more n c.put_into_row.new.row) c.args.lane) c.row_of-row.ensures
    ∙ position-here more c.args.lane c.put_into_row.new.row c.args.position (omega (arith, c.in_ok-add_rows.ensures.long, c.row_of-row.ensures))
    (ap (λ n. get_or c.put_into_row.new.row.items n 0) (sym c.from.ensures) ∙ c.in_ok-put_into_row.ensures.here)

pub returns-clause-others : goal.returns-clause-others
returns-clause-others c = λ l apart.
    let more = c.add_rows.new.rows.items in
    let n = the_row_of c.args.lane in
    ap (λ k. position_of (set more k c.put_into_row.new.row) l) c.row_of-row.ensures
    ∙ position-others c.args.self.now.rows.items more c.args.lane c.put_into_row.new.row c.index_mut.result.now c.in_ok-add_rows.ensures.same
    (omega (arith, c.in_ok-add_rows.ensures.long, c.row_of-row.ensures))
    (λ k other. c.in_ok-put_into_row.ensures.others k (λ e. other (e ∙ c.from.ensures))
    ∙ ap (λ (v : Vec ℕ). get_or v.items k 0) (c.index_mut.ensures.value ∙ ap (λ i. get_or more i c.index_mut.result.now) c.row_of-row.ensures))
    l apart
