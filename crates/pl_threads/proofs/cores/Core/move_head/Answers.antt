use Rattle.std.proofs.Common.{Bool, ℕ, refl, ap, sym, subst, ◌∙◌}
use Rattle.pl_event.specs.declared.envelopes.Lane.{Lane}
use Rattle.pl_flow.specs.LanesViews.{LanesView}
use Rattle.pl_threads.specs.Cores.{CoreKeeps}
use Rattle.pl_threads.proofs.KeepLemmas.{keeps-both}
use Rattle.pl_threads.proofs.RunLemmas.{holds-on}
use Rattle.pl_threads.proofs.TurnLemmas.{nothing-none}
use Rattle.pl_threads.proofs.cores.Core.move_head.Goals as goal

pub work_off-requires : goal.work_off-requires
work_off-requires g c =
    let holds = c.requires.holds in
    let move = c.move_head.ensures in
    let nodes = c.args.self.now.nodes in record {
      holds = holds-on nodes c.args.self.now.work (g.N.OwnNodes.view_of nodes).lanes.taken holds.at holds.places holds.runs holds.admits move.stands move.keeps move.taken move.placed move.makes (λ e. holds.why (sym move.refused ∙ e));
    }

pub returns-clause-enabled : goal.returns-clause-enabled
returns-clause-enabled g c = subst (λ (b : Bool). g.N.OwnNodes.may_move c.args.self.now.nodes c.args.by c.args.at b) (cc) c.move_head.ensures.enabled

pub returns-clause-keeps : goal.returns-clause-keeps
returns-clause-keeps g c =
    let core = c.args.self.now in
    let moved : CoreKeeps g.N.OwnNodes.view_of core (record core { nodes = c.move_head.new.self; work = c.move_head.new.work }) =
    record { number = refl; nodes = c.move_head.ensures.keeps; sends = nothing-none core.outboxes } in
    keeps-both moved c.work_off.ensures.keeps

pub returns-clause-taken : goal.returns-clause-taken
returns-clause-taken g c = λ l w.
    let move = c.move_head.ensures in
    c.work_off.ensures.taken l (ap (λ (v : LanesView). v.written l) move.keeps.routes ∙ w) ∙ ap (λ (n : Lane → ℕ). n l) move.taken
