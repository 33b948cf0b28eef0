use Rattle.std.proofs.Common.{◌≡◌, ◌++◌, List, map, refl, ap, sym, subst, ◌∙◌}
use Rattle.pl_queue.specs.declared.views.SendCount.{SendCount}
use Rattle.pl_queue.specs.declared.views.TakeCount.{TakeCount}
use Rattle.pl_queue.specs.declared.views.TakerView.{TakerView}
use Rattle.pl_queue.specs.Left.{LaneLeftView, unheld, send_counts_of, AreAll, IsEmptying}
use Rattle.pl_queue.proofs.Drains.{emptying-begins}
use Rattle.pl_queue.proofs.ends.finish_over.Goals as goal

pub empty-requires-clause-emptying : goal.empty-requires-clause-emptying
empty-requires-clause-emptying g c =
    let v = g.Q.RuledQueue.view_of c.unite_all.new.pass in
    let taking = c.requires.taker.1 in
    let held = c.in_ok-all.ensures
    ∙ ap (λ ms. map unheld ms) (c.as_slice.ensures.value ∙ taking.counts_are ∙ ap (λ (k : TakerView). k.counts) (sym c.unite_all.ensures.same.1)) in
    subst (λ (hs : List LaneLeftView). IsEmptying g.W.Named.world v.sends.send_counts v.takes.counts v hs) (sym held)
    (emptying-begins g.W.Named.world v.sends.send_counts v (c.unite_all.ensures.same.0 ∙ taking.taker) refl)

pub empty-requires-clause-lanes : goal.empty-requires-clause-lanes
empty-requires-clause-lanes g c =
    let v = g.Q.RuledQueue.view_of c.unite_all.new.pass in
    let send_counts : v.sends.send_counts ≡ send_counts_of (map (λ s. (g.Q.RuledQueue.view_of s.pass).sends) c.args.senders.items) =
    c.unite_all.ensures.send_counts ∙ ap (λ ls. ls ++ send_counts_of (map (λ s. (g.Q.RuledQueue.view_of s.pass).sends) c.args.senders.items)) c.requires.taker.1.send_counts in
    let counts : v.takes.counts ≡ (g.Q.RuledQueue.view_of c.args.taker.pass).takes.counts = ap (λ (k : TakerView). k.counts) c.unite_all.ensures.same.1 in
    subst (λ (y : List SendCount × List TakeCount). AreAll y.0 y.1) (λ i. (sym send_counts i, sym counts i)) c.requires.all
