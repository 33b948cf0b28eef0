-- Senders, each with a seat.
use Rattle.std.specs.Prelude.{All}
use Rattle.std.proofs.Common.{◌≡◌, List, [], ◌∷◌, map, ap}
use Rattle.std.proofs.lemmas.List.Elements.{All-head, All-tail}
use Rattle.pl_queue.specs.Rule.{Each}
use Rattle.pl_words.specs.Admissions.{SendSeatView, new_send_seat}
use Rattle.pl_words.specs.Names.{Name}

-- where the mailbox made the senders, and an admission the seats
pub each-paired : {P S : Type 0} (sender : P → S) (seat : P → SendSeatView) (made : S → Type 0) (name : Name) (pairs : List P) → Each made (map sender pairs)
    → All (λ s. s ≡ new_send_seat name s.number) (map seat pairs) → Each (λ p. made (sender p) × ((seat p).name ≡ name)) pairs
each-paired sender seat made name [] all new = tt
each-paired sender seat made name (p ∷ ps) all new = (
  (all.0, ap (λ (s : SendSeatView). s.name) (All-head (λ s. s ≡ new_send_seat name s.number) (seat p) (map seat ps) new)),
  each-paired sender seat made name ps all.1 (All-tail (λ s. s ≡ new_send_seat name s.number) (seat p) (map seat ps) new),
)
