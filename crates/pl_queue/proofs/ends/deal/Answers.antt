use Rattle.std.proofs.Common.{◌≡◌, true, None, sym, subst, List}
use Rattle.pl_event.specs.declared.envelopes.Lane.{Lane}
use Rattle.pl_queue.specs.Views.{has_lane, next_of}
use Rattle.pl_queue.proofs.ends.deal.Goals as goal

pub deal-requires-clause-fresh : goal.deal-requires-clause-fresh
deal-requires-clause-fresh g c =
    subst (λ (ls : List Lane). (l : Lane) → has_lane l ls ≡ true → next_of l (g.Q.RuledQueue.view_of c.args.pass.now).takes.counts ≡ None) (sym c.requires.picked) c.requires.fresh
