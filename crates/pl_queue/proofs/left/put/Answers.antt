use Rattle.std.proofs.Common.{◌≡◌, ◌+◌, ◌++◌, ◌∷◌, [], ◌∙◌, ap, set, map, get_or, arith}
use Rattle.pl_queue.specs.declared.left.LaneLeft.{LaneLeft}
use Rattle.pl_queue.specs.Left.{held, held_of}
use Rattle.pl_queue.proofs.PositionLemmas.{entry-there}
use Rattle.pl_queue.proofs.left.put.Goals as goal

pub index_mut-entry-requires : goal.index_mut-entry-requires
index_mut-entry-requires c =
    let r = entry-there c.args.positions.now.rows.items c.args.envelope 0 c.args.entries.now.items c.requires.positions c.requires.there in
    omega (arith, r.1, r.2, c.find.ensures, c.args.entries.now.ok.0)

pub returns : goal.returns
returns c =
    let entries = c.args.entries.now.items in
    let x = c.args.envelope in
    let r = entry-there c.args.positions.now.rows.items x 0 entries c.requires.positions c.requires.there in
    let d = c.index_mut-entry.result.now in
    let new : LaneLeft = record { lane = d.lane; handed = x.number + 1; taken = d.taken; left = c.push.new.self } in
    let at : c.find.result ≡ r.0 = omega (arith, r.1, c.find.ensures) in
    let is : d ≡ get_or entries r.0 d = c.index_mut-entry.ensures.value ∙ ap (λ i. get_or entries i d) at in
    ap (λ i. map held_of (set entries i new)) at
    ∙ r.3 d new (ap (λ xs. held d.lane (x.number + 1) d.taken xs) c.in_ok-push.ensures.items
    ∙ ap (λ (e : LaneLeft). held e.lane (x.number + 1) e.taken (e.left.items ++ x ∷ [])) is)
