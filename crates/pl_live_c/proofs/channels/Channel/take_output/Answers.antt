use Rattle.std.proofs.Common.{◌≡◌, ℕ, List, ◌++◌, subst}
use Rattle.pl_live_c.proofs.channels.Channel.take_output.Goals as goal

-- bytes that come next are these
are : (before whole bytes pending : List ℕ) → bytes ≡ pending → (rest : List ℕ) × (before ++ bytes ++ rest ≡ whole) → (rest : List ℕ) × (before ++ pending ++ rest ≡ whole)
are before whole bytes pending is = subst (λ (xs : List ℕ). (rest : List ℕ) × (before ++ xs ++ rest ≡ whole)) is

pub returns-then-count-gt0-clause-next : goal.returns-then-count-gt0-clause-next
returns-then-count-gt0-clause-next c p rests = are _ _ _ _ c.pending_output-pending.ensures.pending (c.pending_output-pending.ensures.next p rests.stands)

pub returns-else-count-gt0-clause-next : goal.returns-else-count-gt0-clause-next
returns-else-count-gt0-clause-next c p rests = are _ _ _ _ c.pending_output-pending.ensures.pending (c.pending_output-pending.ensures.next p rests.stands)
