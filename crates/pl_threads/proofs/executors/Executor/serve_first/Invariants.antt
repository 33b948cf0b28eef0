use Rattle.std.proofs.Common.{◌≡◌, ◌+◌, ◌<◌, ◌≤◌, ℕ, false, true}
use Rattle.pl_flow.specs.declared.head_moves.HeadMove.{HeadMove}
use Rattle.pl_threads.specs.Serving.{is_asked}
use Rattle.pl_threads.proofs.executors.Executor.serve_first.Given as goal

-- No head that was asked has a move: of those from the first on, and of those before it.
abbrev pub invariant-loop-asked : goal.invariant-loop-asked
invariant-loop-asked g l = record {
  still : l.self ≡ l.fn.self;
  on : (c : ℕ) → l.first ≤ c → c < l.first + l.asked → c < l.first + l.behind → (by : HeadMove) → is_asked l.fn.reads by ≡ true → g.N.OwnNodes.may_move l.fn.self.nodes by c false;
  round : (c : ℕ) → c + l.behind < l.asked → (by : HeadMove) → is_asked l.fn.reads by ≡ true → g.N.OwnNodes.may_move l.fn.self.nodes by c false;
}
