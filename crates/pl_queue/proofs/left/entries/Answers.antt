use Rattle.std.proofs.Common.{◌≡◌, ◌<◌, ◌+◌, ◌++◌, ◌∷◌, ◌∙◌, ℕ, List, [], ap, map, length, get_or, take, refl}
use Rattle.std.proofs.lemmas.List.{take_all}
use Rattle.pl_queue.specs.declared.left.LaneLeft.{LaneLeft}
use Rattle.pl_queue.specs.declared.views.TakeCount.{TakeCount}
use Rattle.pl_queue.specs.Left.{held, held_of, unheld}
use Rattle.pl_queue.proofs.Lists.{map-append, pushed-more}
use Rattle.pl_queue.proofs.left.entries.Goals as goal

entries-more : (before now : List LaneLeft) (e : LaneLeft) (counts : List TakeCount) (i : ℕ) (d : TakeCount) → i < length counts → now ≡ before ++ e ∷ [] → e.left.items ≡ []
    → held e.lane e.handed e.taken [] ≡ unheld (get_or counts i d) → map held_of before ≡ map unheld (take i counts) → map held_of now ≡ map unheld (take (i + 1) counts)
entries-more before now e counts i d h is none same so_far =
    ap (λ es. map held_of es) is ∙ map-append held_of before (e ∷ [])
    ∙ ap (λ xs. map held_of before ++ held e.lane e.handed e.taken xs ∷ []) none ∙ ap (λ k. map held_of before ++ k ∷ []) same
    ∙ pushed-more unheld [] (map held_of before) counts i d h so_far

pub loop-count-preserved : goal.loop-count-preserved
loop-count-preserved c =
    entries-more c.loop-count.all.items _ _ c.args.counts.now _ _ c.loop-count-test.true c.in_ok-push.ensures.items c.new.ensures.items refl c.loop-count.invariant

pub returns : goal.returns
returns c = c.loop-count.invariant ∙ ap (λ ms. map unheld ms) (take_all c.loop-count.count-index c.args.counts.now c.loop-count-test.false)
