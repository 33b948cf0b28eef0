-- What stays of a core, step by step.
use Rattle.std.proofs.Common.{ap, refl, ◌∙◌}
use Rattle.pl_flow.specs.LanesViews.{LanesView, SameRoutes}
use Rattle.pl_threads.specs.declared.cores.Core.{Core}
use Rattle.pl_threads.specs.Cores.{CoreKeeps}
use Rattle.pl_threads.specs.NodesViews.{OwnNodesView}
use Rattle.pl_threads.proofs.TurnLemmas.{nothing-none, nothing-then}

routes-both : (u v w : LanesView) → SameRoutes u v → SameRoutes v w → SameRoutes u w
routes-both u v w f g = g ∙ ap (λ (x : LanesView). record x { taken = w.taken; came = w.came }) f

module _ {W M N S T : Type 0} {view_of : N → OwnNodesView} where
  pub keeps-none : (c : Core W M N S T) → CoreKeeps view_of c c
  keeps-none c = record { number = refl; nodes = record { executor = refl; routes = refl; heads = refl }; sends = nothing-none c.outboxes }

  pub keeps-both : {a b c : Core W M N S T} → CoreKeeps view_of a b → CoreKeeps view_of b c → CoreKeeps view_of a c
  keeps-both {a} {b} {c} f g = record {
    number = g.number ∙ f.number;
    nodes = record { executor = g.nodes.executor ∙ f.nodes.executor; routes = routes-both (view_of a.nodes).lanes (view_of b.nodes).lanes (view_of c.nodes).lanes f.nodes.routes g.nodes.routes; heads = g.nodes.heads ∙ f.nodes.heads };
    sends = nothing-then a.outboxes b.outboxes c.outboxes f.sends g.sends;
  }
