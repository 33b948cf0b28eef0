use Rattle.std.proofs.Common.{◌≡◌, ◌++◌, [], ◌∷◌, List, ap, length, arith, length-append}
use Rattle.std.proofs.lemmas.List.Elements.{All-push, All-same}
use Rattle.pl_exec.specs.Opening.{WaysView, no_ways}
use Rattle.pl_exec.proofs.opening.no_ways.Goals as goal

pub loop-inbox-preserved : goal.loop-inbox-preserved
loop-inbox-preserved g c =
    let inv = c.loop-inbox.invariant in
    let rows = c.loop-inbox.rows.items in
    let new = c.in_ok-none.field-0 in
    let none = λ (v : WaysView). v ≡ no_ways (length c.args.inboxes.now) in
    let pushed = ap (λ (l : List WaysView). length l) c.in_ok-push.ensures.items in
    record {
      count = omega (arith, pushed, inv.count, length-append rows (new ∷ []));
      none = All-same none c.push.new.self.items (rows ++ new ∷ []) c.in_ok-push.ensures.items (All-push none rows new inv.none c.in_ok-none.ensures);
    }
