use Rattle.std.proofs.Common.{◌≡◌, ℕ, ◌≤◌, ◌<◌, ◌==◌, not, None, get_or, length}
use Rattle.std.specs.Prelude.{vec_capacity}
use Rattle.pl_part.specs.Shares.{only_if}
use Rattle.pl_part.proofs.shares.take_contexts.Given as goal

-- the slots so far were taken, and those behind them were not; there is room for all
abbrev pub invariant-loop-hop : goal.invariant-loop-hop
invariant-loop-hop g l = record {
  slots : length l.taken.items ≡ l.hop;
  taken : (k : ℕ) → k < l.hop → get_or l.taken.items k None ≡ only_if (get_or l.executors k 0 == l.executor) (get_or l.fn.contexts k None);
  left : (k : ℕ) → k < l.hop → get_or l.contexts k None ≡ only_if (not (get_or l.executors k 0 == l.executor)) (get_or l.fn.contexts k None);
  behind : (k : ℕ) → l.hop ≤ k → get_or l.contexts k None ≡ get_or l.fn.contexts k None;
  room : length l.fn.contexts ≤ vec_capacity l.taken;
}
