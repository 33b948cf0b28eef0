use Rattle.std.proofs.Common.{◌≡◌, ℕ, Bool, true, false, refl, ap, arith, sym, subst}
use Rattle.std.proofs.lemmas.Bool.{both_ways}
use Rattle.pl_flow.specs.declared.head_moves.HeadMove.TheVariants.{Out}
use Rattle.pl_threads.specs.Running.{ExecutorView}
use Rattle.pl_threads.specs.Serving.{Served, ReadsAtMostOnce, WritesAtMostOnce, ServesBy}
use Rattle.pl_threads.specs.Turning.{MovesHead, OnlyServes, ServesOne}
use Rattle.pl_threads.proofs.TurnLemmas.{serves-both, serves-write}
use Rattle.pl_threads.proofs.executors.Executor.serve.Goals as goal
use Rattle.pl_threads.proofs.executors.Executor.serve.Goals.{After-move_head-has_written}

read-then-written : (reads : Bool) (a b d : ℕ → Served) → reads ≡ true → ReadsAtMostOnce a b → WritesAtMostOnce b d → ServesBy reads a d
read-then-written true a b d e read wrote = λ n. (omega (arith, (read n).0, (wrote n).0), omega (arith, (read n).1, (wrote n).1))
read-then-written false a b d e read wrote = absurd (both_ways false refl e)

only-written : (reads : Bool) (a b d : ℕ → Served) → reads ≡ false → b ≡ a → WritesAtMostOnce b d → ServesBy reads a d
only-written true a b d e same wrote = absurd (both_ways true e refl)
only-written false a b d e same wrote = subst (λ (s : ℕ → Served). WritesAtMostOnce s d) same wrote

-- how often each channel was served
served-by : (g : _) (c : After-move_head-has_written g) → ServesBy c.args.reads (g.N.OwnNodes.served c.args.self.now.nodes) (g.N.OwnNodes.served c.move_head-has_written.new.self.nodes)
served-by g c =
    let served = λ (v : ExecutorView g.row.N.Denot). g.N.OwnNodes.served v.nodes in
    let wrote = c.move_head-has_written.ensures.served in
    elim c.if-reads.branch [
      | goal.then-reads w ↦
          read-then-written c.args.reads (served c.args.self.now) (served c.if-reads.self) (served c.move_head-has_written.new.self) w.if-reads.true
          (subst (λ (v : ExecutorView g.row.N.Denot). ReadsAtMostOnce (served c.args.self.now) (served v)) (sym w.self-is) w.move_head-has_read.ensures.served) wrote
      | goal.else-reads w ↦ only-written c.args.reads (served c.args.self.now) (served c.if-reads.self) (served c.move_head-has_written.new.self) w.if-reads.false (ap served w.self-is) wrote
    ]

-- what its head did
moves : (g : _) (c : After-move_head-has_written g) → ServesOne g.N.OwnNodes.view_of g.N.OwnNodes.acts c.args.self.now c.move_head-has_written.new.self
moves g c =
    let at = c.args.at in
    let written = c.move_head-has_written in
    let done = written.new.self in
    elim c.if-reads.branch [
      | goal.then-reads w ↦
          let read = w.move_head-has_read in
          let after = subst (λ (v : ExecutorView g.row.N.Denot). OnlyServes v done × (written.result ≡ false → done ≡ v) × (written.result ≡ true → MovesHead g.N.OwnNodes.view_of g.N.OwnNodes.acts Out at v done))
          w.self-is (written.ensures.serves, written.ensures.idle, written.ensures.moves) in
          serves-both g.N.OwnNodes.view_of g.N.OwnNodes.acts at c.args.self.now read.new.self done read.result written.result
          read.ensures.serves read.ensures.idle read.ensures.moves after.0 after.1 after.2
      | goal.else-reads w ↦
          subst (λ (v : ExecutorView g.row.N.Denot). ServesOne g.N.OwnNodes.view_of g.N.OwnNodes.acts v done) w.self-is
          (serves-write g.N.OwnNodes.view_of g.N.OwnNodes.acts at c.if-reads.self done written.result written.ensures.serves written.ensures.idle written.ensures.moves)
    ]

pub returns-then-has_read-clause-served : goal.returns-then-has_read-clause-served
returns-then-has_read-clause-served g c = served-by g (goal.at.returns-then-has_read-clause-served g c).After-move_head-has_written

pub returns-else-has_read-clause-served : goal.returns-else-has_read-clause-served
returns-else-has_read-clause-served g c = served-by g (goal.at.returns-else-has_read-clause-served g c).After-move_head-has_written

pub returns-then-has_read-clause-moves : goal.returns-then-has_read-clause-moves
returns-then-has_read-clause-moves g c = moves g (goal.at.returns-then-has_read-clause-moves g c).After-move_head-has_written

pub returns-else-has_read-clause-moves : goal.returns-else-has_read-clause-moves
returns-else-has_read-clause-moves g c = moves g (goal.at.returns-else-has_read-clause-moves g c).After-move_head-has_written
