use Rattle.std.proofs.Common.{◌∙◌, ap, sym, length, get_or, arith}
use Rattle.std.proofs.lemmas.Bool.{leb-false, leb-true}
use Rattle.pl_queue.specs.Positions.{row_of as the_row_of}
use Rattle.pl_queue.proofs.Lists.{get_or-any}
use Rattle.pl_queue.proofs.PositionLemmas.{row_at-past, row_at-found, get_or-past}
use Rattle.pl_queue.proofs.positions.Positions.find.Goals as goal

pub returns-in-None : goal.returns-in-None
returns-in-None c =
    let rows = c.args.self.now.rows.items in
    let past = leb-false _ _ (sym c.in-None.ensures.lookup.0) in
    sym (ap (λ xs. get_or xs c.args.lane.hop 0) (row_at-past rows (the_row_of c.args.lane) (omega (arith, past, c.row_of.ensures, ap length c.deref.ensures.value))))

pub returns-in-None-get : goal.returns-in-None-get
returns-in-None-get c =
    let found = c.in-Some.ensures.lookup in
    let row = row_at-found c.args.self.now.rows.items c.deref.result.now c.args.lane c.row_of.result c.in-Some.row.now _ c.deref.ensures.value c.row_of.ensures (leb-true _ _ (sym found.0)) found.1 in
    let past = leb-false _ _ (sym c.in-None-get.ensures.lookup.0) in
    sym (ap (λ xs. get_or xs c.args.lane.hop 0) row ∙ get_or-past c.in-Some.row.now.items c.args.lane.hop (omega (arith, past, c.from.ensures, ap length c.deref-in-Some.ensures.value)))

pub returns-in-Some-get : goal.returns-in-Some-get
returns-in-Some-get c =
    let found = c.in-Some.ensures.lookup in
    let row = row_at-found c.args.self.now.rows.items c.deref.result.now c.args.lane c.row_of.result c.in-Some.row.now _ c.deref.ensures.value c.row_of.ensures (leb-true _ _ (sym found.0)) found.1 in
    let there = c.in-Some-get.ensures.lookup in
    let within = leb-true _ _ (sym there.0) in
    c.from-in-Some-get.ensures ∙ there.1 ∙ get_or-any c.deref-in-Some.result.now c.from.result _ 0 within
    ∙ ap (λ xs. get_or xs c.from.result 0) c.deref-in-Some.ensures.value
    ∙ ap (λ n. get_or c.in-Some.row.now.items n 0) c.from.ensures
    ∙ sym (ap (λ xs. get_or xs c.args.lane.hop 0) row)
