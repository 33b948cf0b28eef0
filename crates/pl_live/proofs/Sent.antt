-- Where a flushed byte waits a call offers one.
use Rattle.std.proofs.Common.{◌≡◌, ℕ, ◌+◌, ◌-◌, ◌≤◌, ◌<◌, List, [], ◌∷◌, length, Option, Some, None, true, false, leb, ⊎_elim, arith, length-append}
use Rattle.std.proofs.lemmas.Bool.{cases_Bool, cond-true, cond-false, leb-false, leb-true}
use Rattle.pl_head.specs.Writes.{bytes_of, bytes_offered}

pub offers-some : (start accepted : ℕ) (ws : List (Option (List ℕ))) → start ≤ accepted → accepted < start + length (bytes_of ws) → 0 < bytes_offered start accepted ws
offers-some start accepted [] from left = absurd (omega (arith, from, left))
offers-some start accepted (None ∷ ws) from left = offers-some start accepted ws from left
offers-some start accepted (Some b ∷ ws) from left = ⊎_elim
    (λ (past : leb (start + length b) accepted ≡ true).
    let size = length-append b (bytes_of ws) in
    let is = cond-true (leb (start + length b) accepted) (bytes_offered (start + length b) accepted ws) (start + length b - accepted) past in
    let rest = offers-some (start + length b) accepted ws (leb-true (start + length b) accepted past) (omega (arith, left, size)) in
    omega (arith, is, rest))
    (λ (here : leb (start + length b) accepted ≡ false).
    let more = leb-false (start + length b) accepted here in
    let is = cond-false (leb (start + length b) accepted) (bytes_offered (start + length b) accepted ws) (start + length b - accepted) here in
    omega (arith, is, more))
    (cases_Bool (leb (start + length b) accepted))
