use Rattle.std.proofs.Common.{◌≡◌, ℕ, ◌<◌, ◌^◌, true, sym, subst}
use Rattle.pl_threads.specs.Running.{ExecutorView, IsTaking}
use Rattle.pl_threads.specs.Turning.{MovesHead}
use Rattle.pl_threads.proofs.RunLemmas.{taking-stays}
use Rattle.pl_threads.proofs.executors.Executor.move_head.Goals as goal

pub invariant_of-self : goal.invariant_of-self
invariant_of-self g c =
    let before = c.self.inside.core in
    let after = c.move_head.new.self in
    let counts = (g.M.Mailbox.ends.takes_of c.self.inside.taker).counts in
    let stays = taking-stays before.number (g.N.OwnNodes.view_of before.nodes).lanes (g.N.OwnNodes.view_of after.nodes).lanes counts c.self.invariant.3 c.move_head.ensures.keeps.nodes.routes c.move_head.ensures.taken in (
      c.move_head.ensures.holds,
      c.move_head.ensures.empty,
      c.self.invariant.2,
      subst (λ (n : ℕ). IsTaking n (g.N.OwnNodes.view_of after.nodes).lanes counts) (sym c.move_head.ensures.keeps.number) stays,
      c.self.invariant.4,
      c.self.invariant.5,
      subst (λ (n : ℕ). n < 2 ^ 16) (sym c.move_head.ensures.keeps.number) c.self.invariant.6,
    )

pub returns-clause-moves : goal.returns-clause-moves
returns-clause-moves g c =
    let after = c.move_head.new.self in
    let new : ExecutorView g.row.N.Denot = record { number = after.number; nodes = after.nodes; outboxes = after.outboxes; takes = g.M.Mailbox.ends.takes_of c.self.inside.taker; owner = c.self.inside.owner; turns = c.self.inside.turns } in
    subst (λ (old : ExecutorView g.row.N.Denot). c.move_head.result ≡ true → MovesHead g.N.OwnNodes.view_of g.N.OwnNodes.acts c.args.by c.args.at old new) c.self.view_is
    (λ e. record { work = c.self.inside.core.work; empty = c.self.invariant.1; works = c.move_head.ensures.moves e })
