use Rattle.std.proofs.Common.{◌≡◌, ◌+◌, ◌<◌, ◌^◌, ℕ, List, sym, ap, subst, ◌∙◌}
use Rattle.pl_queue.specs.declared.views.TakeCount.{TakeCount}
use Rattle.pl_queue.specs.declared.views.TakerView.{TakerView}
use Rattle.pl_queue.specs.Views.{set_take_count}
use Rattle.pl_outbox.specs.OutboxViews.{OutboxesView}
use Rattle.pl_threads.specs.Cores.{WorksOff}
use Rattle.pl_threads.specs.Running.{ExecutorView, IsTaking, IsCounting}
use Rattle.pl_threads.specs.Turning.{TakesOne}
use Rattle.pl_threads.proofs.CountLemmas.{counts-take}
use Rattle.pl_threads.proofs.RunLemmas.{taking-taken, taking-stays}
use Rattle.pl_threads.proofs.executors.Executor.run_task.Goals as goal

pub invariant_of-self-in-Some : goal.invariant_of-self-in-Some
invariant_of-self-in-Some g c =
    let x = c.in-Some.envelope in
    let before = c.self.inside.core in
    let mid = c.take.new.self in
    let after = c.work_off.new.self in
    let told = c.in-Some.ensures.taken in
    let counts = (g.M.Mailbox.ends.takes_of c.self.inside.taker).counts in
    let now = set_take_count x.lane (x.number + 1) counts in
    let is : (g.M.Mailbox.ends.takes_of c.next_task.new.taker).counts ≡ now = ap (λ (t : TakerView). t.counts) told.3 in
    let view = λ (n : g.row.N.Denot). (g.N.OwnNodes.view_of n).lanes in
    let first = taking-taken before.number (view before.nodes) (view mid.nodes) counts x c.self.invariant.3 told.0 c.take.ensures.keeps.nodes.routes c.take.ensures.taken in
    let number = c.work_off.ensures.keeps.number ∙ c.take.ensures.keeps.number in
    let second = taking-stays before.number (view mid.nodes) (view after.nodes) now first c.work_off.ensures.keeps.nodes.routes c.work_off.ensures.taken in (
      c.work_off.ensures.holds,
      c.work_off.ensures.empty,
      c.next_task.ensures.taker,
      subst (λ (y : ℕ × List TakeCount). IsTaking y.0 (g.N.OwnNodes.view_of after.nodes).lanes y.1) (λ i. (sym number i, sym is i)) second,
      c.self.invariant.4,
      counts-take c.self.inside.owner c.self.inside.is_closed c.self.inside.taken c.saturating_add-self-inside.result (g.M.Mailbox.ends.takes_of c.self.inside.taker).pops (g.M.Mailbox.ends.takes_of c.next_task.new.taker).pops
          c.self.invariant.5 c.if-self.false c.saturating_add-self-inside.ensures (ap (λ (t : TakerView). t.pops) told.3),
      subst (λ (n : ℕ). n < 2 ^ 16) (sym number) c.self.invariant.6,
    )

pub take-requires-clause-here : goal.take-requires-clause-here
take-requires-clause-here g c = (c.self.invariant.3 c.in-Some.envelope.lane c.in-Some.envelope.number c.in-Some.ensures.taken.0).0

pub invariant_of-self : goal.invariant_of-self
invariant_of-self g c =
    let core = c.self.inside.core in (
      c.self.invariant.0,
      c.self.invariant.1,
      c.next_task.ensures.taker,
      subst (λ (t : TakerView). IsTaking core.number (g.N.OwnNodes.view_of core.nodes).lanes t.counts) (sym c.in-None.ensures.taken.0) c.self.invariant.3,
      c.self.invariant.4,
      subst (λ (t : TakerView). IsCounting c.self.inside.owner c.self.inside.is_closed c.self.inside.taken t.pops) (sym c.in-None.ensures.taken.0) c.self.invariant.5,
      c.self.invariant.6,
    )

pub returns-in-Some-clause-task : goal.returns-in-Some-clause-task
returns-in-Some-clause-task g c = λ _.
    let core = c.self.inside.core in
    let mid = c.take.new.self in
    let after = c.work_off.new.self in
    let takes = g.M.Mailbox.ends.takes_of c.next_task.new.taker in
    let new : ExecutorView g.row.N.Denot = record { number = after.number; nodes = after.nodes; outboxes = after.outboxes; takes = takes; owner = c.self.inside.owner; turns = c.self.inside.turns } in
    subst
    (λ (old : ExecutorView g.row.N.Denot). TakesOne g.N.OwnNodes.view_of g.N.OwnNodes.acts old new)
    c.self.view_is (
      sym c.self.invariant.5.closed ∙ c.if-self.false,
      c.in-Some.envelope,
      c.in-Some.ensures.taken.3,
      record {
        work = core.work;
        empty = c.self.invariant.1;
        works = record {
          nodes = mid.nodes;
          work = mid.work;
          done = c.take.ensures.takes;
          works =
              subst
              (λ (z : ℕ × OutboxesView). WorksOff g.N.OwnNodes.view_of g.N.OwnNodes.acts z.0 (record { nodes = mid.nodes; outboxes = z.1; work = mid.work }) after.nodes after.outboxes)
              (λ i. (c.take.ensures.keeps.number i, c.take.ensures.outboxes i)) c.work_off.ensures.works;
        };
      },
    )

pub returns-in-None-clause-task : goal.returns-in-None-clause-task
returns-in-None-clause-task g c = λ e. absurd (cc)

pub returns-then-self-clause-task : goal.returns-then-self-clause-task
returns-then-self-clause-task g c = λ e. absurd (cc)
