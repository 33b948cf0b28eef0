use Rattle.std.specs.Global.{Vec}
use Rattle.std.proofs.Common.{◌≡◌, ◌≤◌, length, arith}
use Rattle.std.proofs.lemmas.Option.{IfSome_then}
use Rattle.pl_event.specs.declared.envelopes.Lane.{Lane}
use Rattle.pl_queue.specs.Views.{fresh_sends}
use Rattle.pl_queue_bench.proofs.FlagSteps.{opened-all, same-length}
use Rattle.pl_queue_bench.proofs.posts.opened.Goals as goal

pub returns-clause-seats : goal.returns-clause-seats
returns-clause-seats g c =
    let lists = c.in-Ok.lists.items in
    IfSome_then c.open.result c.open.ensures.seats (λ r told.
    let seats = r.1.items in
    let same : length seats ≡ length lists = same-length g.C.Closable.sends_of (λ (v : Vec Lane). fresh_sends v.items) seats lists told.1 in
    let enough : c.args.seats ≤ length seats = omega (arith, same, c.in-Ok.ensures.len, c.from.ensures) in (
      omega (arith, same, c.in-Ok.ensures.len, c.from.ensures),
      opened-all (λ s. g.C.Closable.is_seat r.0 s) g.C.Closable.sends_of seats lists 1 c.args.seats told.0 told.1 enough c.in-Ok.ensures.each,
    ))
