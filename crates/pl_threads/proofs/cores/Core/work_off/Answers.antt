use Rattle.std.proofs.Common.{ℕ, ◌∷◌, [], refl, ap, sym, subst, ◌∙◌}
use Rattle.pl_flow.specs.LanesViews.{LanesView}
use Rattle.pl_outbox.specs.OutboxViews.{OutboxesView}
use Rattle.pl_threads.specs.Cores.{FrontGoes, FrontsGo, at_work}
use Rattle.pl_threads.proofs.KeepLemmas.{keeps-none, keeps-both}
use Rattle.pl_threads.proofs.cores.Core.work_off.Goals as goal

pub loop-init : goal.loop-init
loop-init g c = record {
  holds = c.requires.holds;
  keeps = keeps-none c.args.self.now;
  taken = λ m e. refl;
  go = ([], refl);
  served = λ n. refl;
}

pub loop-preserved : goal.loop-preserved
loop-preserved g c =
    let before = c.loop.invariant.keeps in
    let step = c.step.ensures in
    record {
      holds = step.holds;
      keeps = keeps-both before step.keeps;
      taken = λ l e. step.taken l (ap (λ (v : LanesView). v.written l) before.nodes.routes ∙ e) ∙ c.loop.invariant.taken l e;
      go =
          let gone = step.front (cc) in (
            at_work c.loop.self ∷ c.loop.invariant.go.0,
            (
              c.loop.invariant.go.1,
              (
                gone.0,
                subst (λ (me : ℕ). FrontGoes g.N.OwnNodes.view_of g.N.OwnNodes.acts me gone.0 (at_work c.loop.self) (at_work c.step.new.self)) before.number gone.1,
              ),
            ),
          );
      served = λ n. step.served n ∙ c.loop.invariant.served n;
    }

pub returns-then-not-step-clause-works : goal.returns-then-not-step-clause-works
returns-then-not-step-clause-works g c =
    let last = c.step.ensures.empty (cc) in
    let me = c.args.self.now.number in
    record {
      between = c.loop.invariant.go.0;
      last = c.loop.self.work;
      go =
          subst
          (λ (z : g.row.N.Denot × OutboxesView). FrontsGo g.N.OwnNodes.view_of g.N.OwnNodes.acts me (at_work c.args.self.now) c.loop.invariant.go.0 (record { nodes = z.0; outboxes = z.1; work = c.loop.self.work }))
          (λ i. (sym last.2 i, sym last.3 i)) c.loop.invariant.go.1;
      empty = last.0;
    }
