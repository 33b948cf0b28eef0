-- Bytes taken from a reader.
use Rattle.std.proofs.Common.{◌≡◌, ℕ, ◌+◌, ◌≤◌, List, ◌++◌, length, Option, Some, None, sym, ap, ◌∙◌, append_assoc, length-append, arith}
use Rattle.std.specs.Io.KnownBytes.{Consumes}
use Rattle.pl_tool.specs.ProgramOutcomes.{TakesAtMost}

pub consumes_more : (a b c : Option (List ℕ)) (bs cs : List ℕ) → Consumes a b bs → Consumes b c cs → Consumes a c (bs ++ cs)
consumes_more None b c bs cs p q = tt
consumes_more (Some xs) None c bs cs p q = absurd p
consumes_more (Some xs) (Some ys) None bs cs p q = absurd q
consumes_more (Some xs) (Some ys) (Some zs) bs cs p q = p ∙ ap (λ (l : List ℕ). bs ++ l) q ∙ sym (append_assoc bs cs zs)

-- bytes that were taken, and then at most a given number of them
pub takes_more : (all most : ℕ) (a b c : Option (List ℕ)) (bs : List ℕ) → Consumes a b bs → TakesAtMost most b c → length bs + most ≤ all → TakesAtMost all a c
takes_more all most a b c bs p q small =
    (bs ++ q.0, consumes_more a b c bs q.0 p q.1, omega (arith, length-append bs q.0, q.2))

-- bytes that were taken, and after them at most a given number
pub read_on : (a b c : Option (List ℕ)) (old new : List ℕ) (most : ℕ) → Consumes a b old → (bytes : List ℕ) × Consumes b c bytes × (length bytes ≤ most) × (new ≡ old ++ bytes)
    → Consumes a c new × (length new ≤ length old + most)
read_on a b c old new most p more =
    (rw more.3 (consumes_more a b c old more.0 p more.1), omega (arith, ap length more.3, length-append old more.0, more.2))
