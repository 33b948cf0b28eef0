-- How far the lanes of an executor have come before its first turn.
use Rattle.std.proofs.Common.{◌≡◌, ℕ, true, false, List, [], ◌∷◌, Some, None, ⊎_elim, sym, ◌∙◌}
use Rattle.std.proofs.lemmas.Bool.{cond-true, cond-false, cases_Bool, false≢true}
use Rattle.std.proofs.lemmas.Option.{none-some, same_Some}
use Rattle.pl_event.specs.declared.envelopes.Lane.{Lane}
use Rattle.pl_event.specs.Hops.{same_lane}
use Rattle.pl_queue.specs.Views.{fresh_send_counts, fresh_take_counts, next_of, has_lane}
use Rattle.pl_queue.proofs.Lists.{next_of-fresh}
use Rattle.pl_flow.specs.Flows.{point}
use Rattle.pl_outbox.specs.Sent.{sent_at}

-- nothing was sent on a lane of a new sender
pub sent_at-fresh : (lanes : List Lane) (l : Lane) → has_lane l lanes ≡ true → sent_at (fresh_send_counts lanes) l ≡ point 0 false
sent_at-fresh [] l has = absurd (false≢true has)
sent_at-fresh (m ∷ ms) l has = ⊎_elim
    (λ (t : same_lane l m ≡ true). cond-true (same_lane l m) (point 0 false) (sent_at (fresh_send_counts ms) l) t)
    (λ (t : same_lane l m ≡ false). cond-false (same_lane l m) (point 0 false) (sent_at (fresh_send_counts ms) l) t ∙ sent_at-fresh ms l (sym (cond-false (same_lane l m) true (has_lane l ms) t) ∙ has))
    (cases_Bool (same_lane l m))

-- a lane of which a new taker has a next number is one of its own, and that number is 0
pub next_of-new : (lanes : List Lane) (l : Lane) (n : ℕ) → next_of l (fresh_take_counts lanes) ≡ Some n → (has_lane l lanes ≡ true) × (0 ≡ n)
next_of-new lanes l n found = ⊎_elim
    (λ (t : has_lane l lanes ≡ true). (t, same_Some 0 n (sym (cond-true (has_lane l lanes) (Some 0) None t) ∙ sym (next_of-fresh l lanes) ∙ found)))
    (λ (t : has_lane l lanes ≡ false). absurd (none-some n (sym (cond-false (has_lane l lanes) (Some 0) None t) ∙ sym (next_of-fresh l lanes) ∙ found)))
    (cases_Bool (has_lane l lanes))
