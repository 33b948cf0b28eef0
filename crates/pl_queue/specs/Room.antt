-- Room of the counters.
use Rattle.std.specs.Prelude.{◌≡◌, ◌≤◌, ◌^◌, ◌+◌, ℕ, List, [], ◌∷◌}
use Rattle.pl_queue.specs.declared.views.SendCount.{SendCount}
use Rattle.pl_queue.specs.declared.views.SenderView.{SenderView}
use Rattle.pl_queue.specs.Rule.{Each}

-- how many envelopes were sent on these lanes
abbrev pub sent_on : List SendCount → ℕ
sent_on [] = 0
sent_on (c ∷ cs) = c.next + sent_on cs

-- how many envelopes all senders pushed
abbrev pub all_pushes : List SenderView → ℕ
all_pushes [] = 0
all_pushes (s ∷ ss) = s.pushes + all_pushes ss

-- A sender's pushes are those of its lanes. Each lane has at most 2^32.
pub record IsCounted (s : SenderView) : Type 0 where
  pub pushes : s.pushes ≡ sent_on s.send_counts
  pub small : Each (λ c. c.next ≤ 2 ^ 32) s.send_counts
