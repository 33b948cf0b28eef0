use Rattle.std.proofs.Common.{◌≡◌, ◌++◌, [], ◌∷◌, List, ap, length, arith, length-append}
use Rattle.std.specs.Global.{Vec}
use Rattle.std.proofs.lemmas.List.Elements.{All-push, All-same}
use Rattle.pl_exec.proofs.lanes.empty_lists.Goals as goal

pub loop-number-preserved : goal.loop-number-preserved
loop-number-preserved g c =
    let inv = c.loop-number.invariant in
    let lists = c.loop-number.lists.items in
    let new = c.new.result in
    let none = λ (list : Vec g.row.A.Denot). list.items ≡ [] in
    let pushed = ap (λ (l : List (Vec g.row.A.Denot)). length l) c.in_ok-push.ensures.items in
    record {
      count = omega (arith, pushed, inv.count, length-append lists (new ∷ []));
      none = All-same none c.push.new.self.items (lists ++ new ∷ []) c.in_ok-push.ensures.items (All-push none lists new inv.none c.new.ensures.items);
    }

pub returns-clause-count : goal.returns-clause-count
returns-clause-count g c = omega (arith, c.loop-number.invariant.count, c.loop-number-test.false, c.loop-number.auto._number-end)
