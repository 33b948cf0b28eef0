-- What a buffer offers to the transport.
use Rattle.std.proofs.Common.{◌≡◌, ℕ, ◌+◌, ◌<◌, ◌≤◌, List, [], ◌∷◌, ◌++◌, length, Bool, true, false, if◌then◌else◌, leb, Option, Some, None, ap, sym, ◌∙◌, arith, length-append}
use Rattle.std.proofs.lemmas.List.{length-drop}
use Rattle.std.proofs.lemmas.Bool.Decides.{nat_tests}
use Rattle.pl_event.specs.declared.outcomes.Outcome.{Outcome}
use Rattle.pl_head.specs.declared.outbound_buffer.Entry.{Entry}
use Rattle.pl_head.specs.Writes.{bytes_of, bytes_offered}
use Rattle.pl_head.specs.WaitingMessages.{entries_numbered, first_size, MessagesStand}
use Rattle.pl_head.proofs.Buffering.{bytes_of-append}

offered-done : (start accepted : ℕ) (done ws : List (Option (List ℕ))) → start + length (bytes_of done) ≤ accepted → bytes_offered start accepted (done ++ ws) ≡ bytes_offered (start + length (bytes_of done)) accepted ws
offered-done start accepted [] ws h = let e : start ≡ start + 0 = omega arith in ap (λ (k : ℕ). bytes_offered k accepted ws) e
offered-done start accepted (None ∷ done) ws h = offered-done start accepted done ws h
offered-done start accepted (Some b ∷ done) ws h =
    let size = length-append b (bytes_of done) in
    let ends : start + length b ≤ accepted = omega (arith, size, h) in
    let test : leb (start + length b) accepted ≡ true = grind (arith, nat_tests) in
    let e : (start + length b) + length (bytes_of done) ≡ start + length (b ++ bytes_of done) = omega (arith, size) in
    rw test (offered-done (start + length b) accepted done ws (omega (arith, e, h)) ∙ ap (λ (k : ℕ). bytes_offered k accepted ws) e)

offered-first : (n start accepted offset : ℕ) (ws : List (Option (List ℕ))) (more : List Entry) → 0 < length (entries_numbered n ws) → accepted ≡ start + offset → offset < first_size (entries_numbered n ws ++ more)
    → bytes_offered start accepted ws + offset ≡ first_size (entries_numbered n ws ++ more)
offered-first n start accepted offset [] more some at below = absurd (omega (arith, some))
offered-first n start accepted offset (None ∷ ws) more some at below = offered-first (n + 1) start accepted offset ws more some at below
offered-first n start accepted offset (Some b ∷ ws) more some at below =
    let test : leb (start + length b) accepted ≡ false = grind (arith, nat_tests) in
    rw test (omega (arith, at, below))

module _ (entries : List Entry) (offset count : ℕ) (outcomes : List (Option Outcome)) (flushed unflushed : List (Option (List ℕ))) (left : List ℕ) (ended : Bool)
    (s : MessagesStand entries offset count outcomes flushed unflushed left ended) (accepted : ℕ) (whole : accepted + length left ≡ length (bytes_of flushed)) where
  place : accepted ≡ length (bytes_of s.done) + offset
  place =
      let parts = ap (λ (t : List (Option (List ℕ))). length (bytes_of t)) (sym s.split) ∙ ap (λ (t : List ℕ). length t) (bytes_of-append s.done s.mid) ∙ length-append (bytes_of s.done) (bytes_of s.mid) in
      omega (arith, whole, parts, ap (λ (t : List ℕ). length t) s.rest, length-drop offset (bytes_of s.mid), s.fits)

  to_mid : bytes_offered 0 accepted flushed ≡ bytes_offered (0 + length (bytes_of s.done)) accepted s.mid
  to_mid =
      ap (λ (t : List (Option (List ℕ))). bytes_offered 0 accepted t) (sym s.split) ∙ offered-done 0 accepted s.done s.mid (omega (arith, place))

  -- what is left of the first message is offered
  pub offers_first : 0 < count → offset < first_size entries → bytes_offered 0 accepted flushed + offset ≡ first_size entries
  offers_first some below =
      let more : List Entry = (if ended then [] else entries_numbered (length flushed) unflushed) in
      let filled : 0 < length (entries_numbered (length s.done) s.mid) = omega (arith, some, s.count_is) in
      let size = ap first_size s.entries_are in
      let below' : offset < first_size (entries_numbered (length s.done) s.mid ++ more) = omega (arith, below, size) in
      ap (λ (k : ℕ). k + offset) to_mid
      ∙ offered-first (length s.done) (0 + length (bytes_of s.done)) accepted offset s.mid more filled (omega (arith, place)) below'
      ∙ sym size
