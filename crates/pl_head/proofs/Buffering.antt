-- What each step of an outbound buffer leaves.
use Rattle.std.proofs.Common.{◌≡◌, ℕ, ◌+◌, ◌-◌, ◌<◌, ◌≤◌, List, [], ◌∷◌, ◌++◌, length, drop, take, map, set, get_or, if◌then◌else◌, suc, zero, Bool, true, false, leb, Option, Some, None, ap, sym, ◌∙◌, refl, arith, append_assoc, append-nil, length-append}
use Rattle.std.proofs.lemmas.List.{drop-append-le, drop-drop, length-drop, set-append_right, length-map, map-append}
use Rattle.std.proofs.Math.Seq.{drop-append_seam, take-append_seam, set-append_seam}
use Rattle.std.proofs.lemmas.Bool.Decides.{nat_tests}
use Rattle.pl_event.specs.declared.outcomes.Outcome.{Outcome}
use Rattle.pl_event.specs.declared.outcomes.Outcome.TheVariants.{Success, Closed, Unsupported}
use Rattle.pl_head.specs.declared.outbound_buffer.Entry.{Entry}
use Rattle.pl_head.specs.Writes.{bytes_of, waiting, late_outcome, unflushed_outcome, outcomes_from}
use Rattle.pl_head.specs.Failures.{settled_by}
use Rattle.pl_head.specs.WaitingMessages.{settled_all, entries_numbered, settled, first_size, MessagesStand}

pub numbered-append : (n : ℕ) (xs ys : List (Option (List ℕ))) → entries_numbered n (xs ++ ys) ≡ entries_numbered n xs ++ entries_numbered (n + length xs) ys
numbered-append n [] ys = let e : n ≡ n + 0 = omega arith in ap (λ (k : ℕ). entries_numbered k ys) e
numbered-append n (None ∷ xs) ys =
    let e : (n + 1) + length xs ≡ n + suc (length xs) = omega arith in
    numbered-append (n + 1) xs ys ∙ ap (λ (k : ℕ). entries_numbered (n + 1) xs ++ entries_numbered k ys) e
numbered-append n (Some b ∷ xs) ys =
    let e : (n + 1) + length xs ≡ n + suc (length xs) = omega arith in
    ap (λ (t : List Entry). record { number = n; bytes = b } ∷ t) (numbered-append (n + 1) xs ys ∙ ap (λ (k : ℕ). entries_numbered (n + 1) xs ++ entries_numbered k ys) e)

pub bytes_of-append : (xs ys : List (Option (List ℕ))) → bytes_of (xs ++ ys) ≡ bytes_of xs ++ bytes_of ys
bytes_of-append [] ys = refl
bytes_of-append (None ∷ xs) ys = bytes_of-append xs ys
bytes_of-append (Some b ∷ xs) ys =
    ap (λ (t : List ℕ). b ++ t) (bytes_of-append xs ys) ∙ sym (append_assoc b (bytes_of xs) (bytes_of ys))

-- how many writes stand before the first message
abbrev skipped : List (Option (List ℕ)) → ℕ
skipped [] = 0
skipped (None ∷ ws) = suc (skipped ws)
skipped (Some b ∷ ws) = 0

-- the writes up to the first message, and those after it
abbrev through_first : List (Option (List ℕ)) → List (Option (List ℕ))
through_first [] = []
through_first (None ∷ ws) = None ∷ through_first ws
through_first (Some b ∷ ws) = Some b ∷ []

abbrev past_first : List (Option (List ℕ)) → List (Option (List ℕ))
past_first [] = []
past_first (None ∷ ws) = past_first ws
past_first (Some b ∷ ws) = ws

abbrev first_length : List (Option (List ℕ)) → ℕ
first_length [] = 0
first_length (None ∷ ws) = first_length ws
first_length (Some b ∷ ws) = length b

through-past : (ws : List (Option (List ℕ))) → through_first ws ++ past_first ws ≡ ws
through-past [] = refl
through-past (None ∷ ws) = ap (λ (t : List (Option (List ℕ))). None ∷ t) (through-past ws)
through-past (Some b ∷ ws) = refl

-- The first message of these writes, numbered from n.
record First (n : ℕ) (ws : List (Option (List ℕ))) : Type 0 where
  message : Entry
  others : List Entry
  entries : entries_numbered n ws ≡ message ∷ others
  number : message.number ≡ n + skipped ws
  bytes : bytes_of ws ≡ message.bytes ++ bytes_of (past_first ws)
  size : length message.bytes ≡ first_length ws
  others_are : others ≡ entries_numbered (n + length (through_first ws)) (past_first ws)

first_of : (n : ℕ) (ws : List (Option (List ℕ))) → 0 < length (entries_numbered n ws) → First n ws
first_of n [] h = absurd (omega (arith, h))
first_of n (None ∷ ws) h =
    let f = first_of (n + 1) ws h in
    let number_is : (n + 1) + skipped ws ≡ n + suc (skipped ws) = omega arith in
    let place_is : (n + 1) + length (through_first ws) ≡ n + suc (length (through_first ws)) = omega arith in
    record {
      message = f.message;
      others = f.others;
      entries = f.entries;
      number = f.number ∙ number_is;
      bytes = f.bytes;
      size = f.size;
      others_are = f.others_are ∙ ap (λ (k : ℕ). entries_numbered k (past_first ws)) place_is;
    }
first_of n (Some b ∷ ws) h =
    let number_is : n ≡ n + 0 = omega arith in
    let place_is : n + 1 ≡ n + suc 0 = omega arith in
    record {
      message = record { number = n; bytes = b };
      others = entries_numbered (n + 1) ws;
      entries = refl;
      number = number_is;
      bytes = refl;
      size = refl;
      others_are = ap (λ (k : ℕ). entries_numbered k ws) place_is;
    }

-- no message among these writes, so no bytes
pub bytes_of-none : (n : ℕ) (ws : List (Option (List ℕ))) → length (entries_numbered n ws) ≡ 0 → bytes_of ws ≡ []
bytes_of-none n [] h = refl
bytes_of-none n (None ∷ ws) h = bytes_of-none (n + 1) ws h
bytes_of-none n (Some b ∷ ws) h = absurd (omega (arith, h))

abbrev nothing : List ℕ
nothing = []

drop-nil : (n : ℕ) → drop n nothing ≡ nothing
drop-nil zero = refl
drop-nil (suc n) = refl

-- the first message's outcome is set
set-first : (n : ℕ) (ws : List (Option (List ℕ))) (more : List (Option Outcome)) → 0 < length (entries_numbered n ws)
    → set (map waiting ws ++ more) (skipped ws) (Some Success) ≡ map settled (through_first ws) ++ (map waiting (past_first ws) ++ more)
set-first n [] more h = absurd (omega (arith, h))
set-first n (None ∷ ws) more h =
    ap (λ (t : List (Option Outcome)). Some Unsupported ∷ t) (set-first (n + 1) ws more h)
set-first n (Some b ∷ ws) more h = refl

-- how many outcomes there are
length-outcomes : {entries : List Entry} {offset count : ℕ} {outcomes : List (Option Outcome)} {flushed unflushed : List (Option (List ℕ))} {left : List ℕ} {ended : Bool}
    → MessagesStand entries offset count outcomes flushed unflushed left ended → length outcomes ≡ length flushed + length unflushed
length-outcomes {unflushed = unflushed} {ended = ended} s =
    let parts = length-append (map settled s.done) (map waiting s.mid ++ map (unflushed_outcome ended) unflushed) in
    let inner = length-append (map waiting s.mid) (map (unflushed_outcome ended) unflushed) in
    let whole = ap (λ (t : List (Option Outcome)). length t) s.outcomes_are in
    let split = ap (λ (t : List (Option (List ℕ))). length t) s.split in
    omega (arith, whole, parts, inner, split, length-append s.done s.mid, length-map s.done settled, length-map s.mid waiting, length-map unflushed (unflushed_outcome ended))

-- Equal parts may stand after the same writes, from another offset with what is left there.
parts-from : {entries entries' : List Entry} {offset offset' count count' : ℕ} {outcomes outcomes' : List (Option Outcome)} {flushed unflushed : List (Option (List ℕ))} {left left' : List ℕ} {ended : Bool}
    → entries' ≡ entries → count' ≡ count → outcomes' ≡ outcomes → (s : MessagesStand entries offset count outcomes flushed unflushed left ended) → drop offset' (bytes_of s.mid) ≡ left' → offset' ≤ length (bytes_of s.mid)
    → MessagesStand entries' offset' count' outcomes' flushed unflushed left' ended
parts-from q c o s rest fits = record {
  done = s.done;
  mid = s.mid;
  split = s.split;
  entries_are = q ∙ s.entries_are;
  count_is = c ∙ s.count_is;
  outcomes_are = o ∙ s.outcomes_are;
  rest = rest;
  fits = fits;
}

-- equal parts may stand after the same writes
pub same_parts : {entries entries' : List Entry} {offset count count' : ℕ} {outcomes outcomes' : List (Option Outcome)} {flushed unflushed : List (Option (List ℕ))} {left : List ℕ} {ended : Bool}
    → entries' ≡ entries → count' ≡ count → outcomes' ≡ outcomes → MessagesStand entries offset count outcomes flushed unflushed left ended → MessagesStand entries' offset count' outcomes' flushed unflushed left ended
same_parts q c o s = parts-from q c o s s.rest s.fits

module _ (entries : List Entry) (offset count : ℕ) (outcomes : List (Option Outcome)) (flushed unflushed : List (Option (List ℕ))) (left : List ℕ) where
  -- one write more
  pub adds : (w : Option (List ℕ)) → MessagesStand entries offset count outcomes flushed unflushed left false
      → MessagesStand (entries ++ entries_numbered (length outcomes) (w ∷ [])) offset count (outcomes ++ waiting w ∷ []) flushed (unflushed ++ w ∷ []) left false
  adds w s = record {
    done = s.done;
    mid = s.mid;
    split = s.split;
    entries_are =
        rw (numbered-append (length flushed) unflushed (w ∷ []), ← length-outcomes s, ← append_assoc, ← s.entries_are) refl;
    count_is = s.count_is;
    outcomes_are =
        rw (map-append (unflushed_outcome false) unflushed (w ∷ []), ← append_assoc, ← append_assoc)
        (ap (λ (t : List (Option Outcome)). t ++ waiting w ∷ []) (s.outcomes_are ∙ sym (append_assoc (map settled s.done) (map waiting s.mid) (map (unflushed_outcome false) unflushed))));
    rest = s.rest;
    fits = s.fits;
  }

  -- all are flushed
  pub flushes : MessagesStand entries offset count outcomes flushed unflushed left false → MessagesStand entries offset (length entries) outcomes (flushed ++ unflushed) [] (left ++ bytes_of unflushed) false
  flushes s =
      let size : length flushed ≡ length s.done + length s.mid = rw (← s.split) (length-append s.done s.mid) in
      let together : entries ≡ entries_numbered (length s.done) (s.mid ++ unflushed) =
      rw (numbered-append (length s.done) s.mid unflushed, ← size) s.entries_are in
      record {
        done = s.done;
        mid = s.mid ++ unflushed;
        split =
            sym (append_assoc s.done s.mid unflushed) ∙ ap (λ (t : List (Option (List ℕ))). t ++ unflushed) s.split;
        entries_are = together ∙ sym (append-nil (entries_numbered (length s.done) (s.mid ++ unflushed)));
        count_is = ap (λ (t : List Entry). length t) together;
        outcomes_are =
            s.outcomes_are ∙ ap (λ (t : List (Option Outcome)). map settled s.done ++ t) (sym (map-append waiting s.mid unflushed) ∙ sym (append-nil (map waiting (s.mid ++ unflushed))));
        rest =
            rw (bytes_of-append s.mid unflushed, drop-append-le offset (bytes_of s.mid) (bytes_of unflushed) s.fits, s.rest) refl;
        fits =
            omega (arith, s.fits, ap (λ (t : List ℕ). length t) (bytes_of-append s.mid unflushed), length-append (bytes_of s.mid) (bytes_of unflushed));
      }

  module _ (ended : Bool) where
    -- more of the output is written
    pub advances : (n : ℕ) → n ≤ length left → MessagesStand entries offset count outcomes flushed unflushed left ended → MessagesStand entries (offset + n) count outcomes flushed unflushed (drop n left) ended
    advances n h s =
        let size = ap (λ (t : List ℕ). length t) s.rest in
        parts-from refl refl refl s (sym (drop-drop n offset (bytes_of s.mid)) ∙ ap (λ (t : List ℕ). drop n t) s.rest)
        (omega (arith, s.fits, h, size, length-drop offset (bytes_of s.mid)))

    -- no message is flushed, so nothing is left
    pub nothing_left : MessagesStand entries offset count outcomes flushed unflushed left ended → count ≡ 0 → left ≡ []
    nothing_left s h =
        let none = bytes_of-none (length s.done) s.mid (sym s.count_is ∙ h) in
        sym s.rest ∙ ap (λ (t : List ℕ). drop offset t) none ∙ drop-nil offset

    -- what is left begins with the rest of the first message
    pub front_first : (first : Entry) → MessagesStand entries offset count outcomes flushed unflushed left ended → 0 < count → first ≡ get_or entries 0 first → offset ≤ length first.bytes
        → (rest : List ℕ) × (drop offset first.bytes ++ rest ≡ left)
    front_first first s h is fits =
        let f = first_of (length s.done) s.mid (omega (arith, h, s.count_is)) in
        let same : first ≡ f.message = is ∙ ap (λ (t : List Entry). get_or t 0 first) (s.entries_are ∙ ap (λ (t : List Entry). t ++ (if ended then [] else entries_numbered (length flushed) unflushed)) f.entries) in
        let here : bytes_of s.mid ≡ first.bytes ++ bytes_of (past_first s.mid) = rw same f.bytes in
        (bytes_of (past_first s.mid), sym (drop-append-le offset first.bytes (bytes_of (past_first s.mid)) fits) ∙ ap (λ (t : List ℕ). drop offset t) (sym here) ∙ s.rest)

-- a flushed message waits, so a byte is left
pub some_left : (entries : List Entry) (offset count : ℕ) (outcomes : List (Option Outcome)) (flushed unflushed : List (Option (List ℕ))) (left : List ℕ) (ended : Bool)
    → MessagesStand entries offset count outcomes flushed unflushed left ended → 0 < count → offset < first_size entries → 0 < length left
some_left [] offset count outcomes flushed unflushed left ended s h rests = absurd (omega (arith, rests))
some_left (first ∷ entries) offset count outcomes flushed unflushed left ended s h rests =
    let found = front_first (first ∷ entries) offset count outcomes flushed unflushed left ended first s h refl (omega (arith, rests)) in
    omega (arith, rests, ap (λ (t : List ℕ). length t) found.1, length-append (drop offset first.bytes) found.0, length-drop offset first.bytes)

-- a message that has left whole is settled
pub settles : (first : Entry) (entries : List Entry) (offset count : ℕ) (outcomes : List (Option Outcome)) (flushed unflushed : List (Option (List ℕ))) (left : List ℕ) (ended : Bool)
    → MessagesStand (first ∷ entries) offset count outcomes flushed unflushed left ended → 0 < count → offset ≡ length first.bytes
    → MessagesStand entries 0 (count - 1) (set outcomes first.number (Some Success)) flushed unflushed left ended
settles first entries offset count outcomes flushed unflushed left ended s h whole =
    let f = first_of (length s.done) s.mid (omega (arith, h, s.count_is)) in
    let tail : List Entry = if ended then [] else entries_numbered (length flushed) unflushed in
    let items : first ∷ entries ≡ f.message ∷ (f.others ++ tail) = s.entries_are ∙ ap (λ (t : List Entry). t ++ tail) f.entries in
    let same : first ≡ f.message = cc items in
    let entries_rest : entries ≡ f.others ++ tail = cc items in
    let more : List (Option Outcome) = map (unflushed_outcome ended) unflushed in
    let place : length (s.done ++ through_first s.mid) ≡ length s.done + length (through_first s.mid) = length-append s.done (through_first s.mid) in
    let number : first.number ≡ length s.done + skipped s.mid = ap (λ (w : Entry). w.number) same ∙ f.number in
    let size = length-map s.done settled in
    let at : first.number - length s.done ≡ skipped s.mid = omega (arith, number) in
    let some : 0 < length (entries_numbered (length s.done) s.mid) = omega (arith, h, s.count_is) in
    record {
      done = s.done ++ through_first s.mid;
      mid = past_first s.mid;
      split =
          append_assoc s.done (through_first s.mid) (past_first s.mid) ∙ ap (λ (t : List (Option (List ℕ))). s.done ++ t) (through-past s.mid) ∙ s.split;
      entries_are = rw place (entries_rest ∙ ap (λ (t : List Entry). t ++ tail) f.others_are);
      count_is =
          rw place (let n = ap (λ (t : List Entry). length t) f.entries in
          let k = ap (λ (t : List Entry). length t) f.others_are in
          omega (arith, s.count_is, n, k));
      outcomes_are =
          ap (λ (t : List (Option Outcome)). set t first.number (Some Success)) s.outcomes_are
          ∙ set-append_right (map settled s.done) (map waiting s.mid ++ more) (length s.done) first.number (Some Success) size (omega (arith, number))
          ∙ ap (λ (k : ℕ). map settled s.done ++ set (map waiting s.mid ++ more) k (Some Success)) at
          ∙ ap (λ (t : List (Option Outcome)). map settled s.done ++ t) (set-first (length s.done) s.mid more some)
          ∙ sym (append_assoc (map settled s.done) (map settled (through_first s.mid)) (map waiting (past_first s.mid) ++ more))
          ∙ ap (λ (t : List (Option Outcome)). t ++ (map waiting (past_first s.mid) ++ more)) (sym (map-append settled s.done (through_first s.mid)));
      rest =
          let here : bytes_of s.mid ≡ first.bytes ++ bytes_of (past_first s.mid) = rw same f.bytes in
          sym (drop-append_seam first.bytes (bytes_of (past_first s.mid))) ∙ ap (λ (t : List ℕ). drop (length first.bytes) t) (sym here) ∙ ap (λ (k : ℕ). drop k (bytes_of s.mid)) (sym whole) ∙ s.rest;
      fits = omega arith;
    }

-- The outcomes of the writes, where the first flushed message has a byte left.
outcomes-past : (start accepted : ℕ) (ws : List (Option (List ℕ))) → accepted < start → outcomes_from start accepted ws ≡ map waiting ws
outcomes-past start accepted [] h = refl
outcomes-past start accepted (None ∷ ws) h =
    ap (λ (t : List (Option Outcome)). Some Unsupported ∷ t) (outcomes-past start accepted ws h)
outcomes-past start accepted (Some b ∷ ws) h =
    let test : leb (start + length b) accepted ≡ false = grind (arith, nat_tests) in
    rw test (ap (λ (t : List (Option Outcome)). None ∷ t) (outcomes-past (start + length b) accepted ws (omega arith)))

outcomes-mid : (n start accepted : ℕ) (ws : List (Option (List ℕ))) → (0 < length (entries_numbered n ws) → accepted < start + first_length ws) → outcomes_from start accepted ws ≡ map waiting ws
outcomes-mid n start accepted [] h = refl
outcomes-mid n start accepted (None ∷ ws) h =
    ap (λ (t : List (Option Outcome)). Some Unsupported ∷ t) (outcomes-mid (n + 1) start accepted ws h)
outcomes-mid n start accepted (Some b ∷ ws) h =
    let below : accepted < start + length b = h (omega arith) in
    let test : leb (start + length b) accepted ≡ false = grind (arith, nat_tests) in
    rw test (ap (λ (t : List (Option Outcome)). None ∷ t) (outcomes-past (start + length b) accepted ws below))

outcomes-done : (start accepted : ℕ) (done ws : List (Option (List ℕ))) → start + length (bytes_of done) ≤ accepted
    → outcomes_from start accepted (done ++ ws) ≡ map settled done ++ outcomes_from (start + length (bytes_of done)) accepted ws
outcomes-done start accepted [] ws h =
    let e : start ≡ start + 0 = omega arith in
    ap (λ (k : ℕ). outcomes_from k accepted ws) e
outcomes-done start accepted (None ∷ done) ws h =
    ap (λ (t : List (Option Outcome)). Some Unsupported ∷ t) (outcomes-done start accepted done ws h)
outcomes-done start accepted (Some b ∷ done) ws h =
    let size = length-append b (bytes_of done) in
    let ends : start + length b ≤ accepted = omega (arith, size, h) in
    let test : leb (start + length b) accepted ≡ true = grind (arith, nat_tests) in
    let e : (start + length b) + length (bytes_of done) ≡ start + length (b ++ bytes_of done) = omega (arith, size) in
    rw test (ap (λ (t : List (Option Outcome)). Some Success ∷ t) (outcomes-done (start + length b) accepted done ws (omega (arith, e, h)) ∙ ap (λ (k : ℕ). map settled done ++ outcomes_from k accepted ws) e))

pub outcomes_stand : (entries : List Entry) (offset count : ℕ) (outcomes : List (Option Outcome)) (flushed unflushed : List (Option (List ℕ))) (left : List ℕ) (ended : Bool)
    → MessagesStand entries offset count outcomes flushed unflushed left ended → (0 < count → offset < first_size entries) → (accepted : ℕ) → accepted + length left ≡ length (bytes_of flushed)
    → outcomes ≡ outcomes_from 0 accepted flushed ++ map (unflushed_outcome ended) unflushed
outcomes_stand entries offset count outcomes flushed unflushed left ended s at_rest accepted a =
    let tail : List Entry = if ended then [] else entries_numbered (length flushed) unflushed in
    let more : List (Option Outcome) = map (unflushed_outcome ended) unflushed in
    let whole = ap (λ (t : List (Option (List ℕ))). length (bytes_of t)) (sym s.split) ∙ ap (λ (t : List ℕ). length t) (bytes_of-append s.done s.mid) ∙ length-append (bytes_of s.done) (bytes_of s.mid) in
    let size = ap (λ (t : List ℕ). length t) s.rest in
    let place : accepted ≡ length (bytes_of s.done) + offset = omega (arith, a, whole, size, length-drop offset (bytes_of s.mid), s.fits) in
    let mid_waits : 0 < length (entries_numbered (length s.done) s.mid) → accepted < (0 + length (bytes_of s.done)) + first_length s.mid = λ some.
    (let f = first_of (length s.done) s.mid some in
    let items : entries ≡ f.message ∷ (f.others ++ tail) = s.entries_are ∙ ap (λ (t : List Entry). t ++ tail) f.entries in
    let below = at_rest (omega (arith, some, s.count_is)) in
    omega (arith, place, below, ap first_size items, f.size))
    in
    s.outcomes_are
    ∙ sym (append_assoc (map settled s.done) (map waiting s.mid) more)
    ∙ ap (λ (t : List (Option Outcome)). t ++ more)
    (ap (λ (t : List (Option Outcome)). map settled s.done ++ t) (sym (outcomes-mid (length s.done) (0 + length (bytes_of s.done)) accepted s.mid mid_waits))
    ∙ sym (outcomes-done 0 accepted s.done s.mid (omega (arith, place)))
    ∙ ap (λ (t : List (Option (List ℕ))). outcomes_from 0 accepted t) s.split)

pub first_size-read : (entries : List Entry) (first : Entry) → 0 < length entries → first ≡ get_or entries 0 first → first_size entries ≡ length first.bytes
first_size-read [] first h is = absurd (omega (arith, h))
first_size-read (w ∷ ws) first h is = ap (λ (v : Entry). length v.bytes) (sym is)

-- ---- messages that are settled before they were sent

settled_all-append : (o : Outcome) (ws vs : List Entry) (os : List (Option Outcome)) → settled_all o (ws ++ vs) os ≡ settled_all o vs (settled_all o ws os)
settled_all-append o [] vs os = refl
settled_all-append o (w ∷ ws) vs os = settled_all-append o ws vs (set os w.number (Some o))

-- the outcomes of writes that wait, once they are settled
late-numbered : (o : Outcome) (n : ℕ) (before more : List (Option Outcome)) (ws : List (Option (List ℕ))) → length before ≡ n
    → settled_all o (entries_numbered n ws) (before ++ (map waiting ws ++ more)) ≡ before ++ (map (late_outcome o) ws ++ more)
late-numbered o n before more [] h = refl
late-numbered o n before more (None ∷ ws) h =
    let size : length (before ++ Some Unsupported ∷ []) ≡ n + 1 = omega (arith, h, length-append before (Some Unsupported ∷ [])) in
    ap (λ (os : List (Option Outcome)). settled_all o (entries_numbered (n + 1) ws) os) (sym (append_assoc before (Some Unsupported ∷ []) (map waiting ws ++ more)))
    ∙ late-numbered o (n + 1) (before ++ Some Unsupported ∷ []) more ws size
    ∙ append_assoc before (Some Unsupported ∷ []) (map (late_outcome o) ws ++ more)
late-numbered o n before more (Some b ∷ ws) h =
    let size : length (before ++ Some o ∷ []) ≡ n + 1 = omega (arith, h, length-append before (Some o ∷ [])) in
    let here : set (before ++ None ∷ (map waiting ws ++ more)) n (Some o) ≡ before ++ Some o ∷ (map waiting ws ++ more) =
    rw (← h) (set-append_seam before None (map waiting ws ++ more) (Some o)) in
    ap (λ (os : List (Option Outcome)). settled_all o (entries_numbered (n + 1) ws) os) (here ∙ sym (append_assoc before (Some o ∷ []) (map waiting ws ++ more)))
    ∙ late-numbered o (n + 1) (before ++ Some o ∷ []) more ws size
    ∙ append_assoc before (Some o ∷ []) (map (late_outcome o) ws ++ more)

late-last : (o : Outcome) (n : ℕ) (before : List (Option Outcome)) (ws : List (Option (List ℕ))) → length before ≡ n
    → settled_all o (entries_numbered n ws) (before ++ map waiting ws) ≡ before ++ map (late_outcome o) ws
late-last o n before ws h =
    ap (λ (os : List (Option Outcome)). settled_all o (entries_numbered n ws) (before ++ os)) (sym (append-nil (map waiting ws)))
    ∙ late-numbered o n before [] ws h
    ∙ ap (λ (os : List (Option Outcome)). before ++ os) (append-nil (map (late_outcome o) ws))

-- all unflushed messages are closed
pub closes : (entries : List Entry) (offset count : ℕ) (outcomes : List (Option Outcome)) (flushed unflushed : List (Option (List ℕ))) (left : List ℕ)
    → MessagesStand entries offset count outcomes flushed unflushed left false → MessagesStand (take count entries) offset count (settled_all Closed (drop count entries) outcomes) flushed unflushed left true
closes entries offset count outcomes flushed unflushed left s =
    let front : List Entry = entries_numbered (length s.done) s.mid in
    let tail : List Entry = entries_numbered (length flushed) unflushed in
    let before : List (Option Outcome) = map settled s.done ++ map waiting s.mid in
    let size : length before ≡ length flushed =
    rw (← s.split) (omega (arith, length-append (map settled s.done) (map waiting s.mid), length-append s.done s.mid, length-map s.done settled, length-map s.mid waiting)) in
    let rest_is : drop count entries ≡ tail = rw (s.count_is, s.entries_are) (drop-append_seam front tail) in
    let front_is : take count entries ≡ front = rw (s.count_is, s.entries_are) (take-append_seam front tail) in
    let outcomes_split : outcomes ≡ before ++ map waiting unflushed =
    s.outcomes_are ∙ sym (append_assoc (map settled s.done) (map waiting s.mid) (map waiting unflushed)) in
    record {
      done = s.done;
      mid = s.mid;
      split = s.split;
      entries_are = front_is ∙ sym (append-nil front);
      count_is = s.count_is;
      outcomes_are =
          ap (λ (ws : List Entry). settled_all Closed ws outcomes) rest_is
          ∙ ap (λ (os : List (Option Outcome)). settled_all Closed tail os) outcomes_split
          ∙ late-last Closed (length flushed) before unflushed size
          ∙ append_assoc (map settled s.done) (map waiting s.mid) (map (late_outcome Closed) unflushed);
      rest = s.rest;
      fits = s.fits;
    }

-- what is settled stays
by-settled : (o : Outcome) (ws : List (Option (List ℕ))) → map (settled_by o) (map settled ws) ≡ map settled ws
by-settled o [] = refl
by-settled o (None ∷ ws) = ap (λ (os : List (Option Outcome)). Some Unsupported ∷ os) (by-settled o ws)
by-settled o (Some b ∷ ws) = ap (λ (os : List (Option Outcome)). Some Success ∷ os) (by-settled o ws)

by-late : (o before : Outcome) (ws : List (Option (List ℕ))) → map (settled_by o) (map (late_outcome before) ws) ≡ map (late_outcome before) ws
by-late o before [] = refl
by-late o before (None ∷ ws) = ap (λ (os : List (Option Outcome)). Some Unsupported ∷ os) (by-late o before ws)
by-late o before (Some b ∷ ws) = ap (λ (os : List (Option Outcome)). Some before ∷ os) (by-late o before ws)

-- what waits is settled
by-waiting : (o : Outcome) (ws : List (Option (List ℕ))) → map (settled_by o) (map waiting ws) ≡ map (late_outcome o) ws
by-waiting o [] = refl
by-waiting o (None ∷ ws) = ap (λ (os : List (Option Outcome)). Some Unsupported ∷ os) (by-waiting o ws)
by-waiting o (Some b ∷ ws) = ap (λ (os : List (Option Outcome)). Some o ∷ os) (by-waiting o ws)

-- all messages are settled
pub fails : (o : Outcome) (entries : List Entry) (offset count : ℕ) (outcomes : List (Option Outcome)) (flushed unflushed : List (Option (List ℕ))) (left : List ℕ) (ended : Bool)
    → MessagesStand entries offset count outcomes flushed unflushed left ended → settled_all o entries outcomes ≡ map (settled_by o) outcomes
fails o entries offset count outcomes flushed unflushed left ended s =
    let front : List Entry = entries_numbered (length s.done) s.mid in
    let tail : List Entry = if ended then [] else entries_numbered (length flushed) unflushed in
    let more : List (Option Outcome) = map (unflushed_outcome ended) unflushed in
    let late : List (Option Outcome) = map (late_outcome o) s.mid in
    let before : length (map settled s.done ++ late) ≡ length flushed =
    rw (← s.split) (omega (arith, length-append (map settled s.done) late, length-append s.done s.mid, length-map s.done settled, length-map s.mid (late_outcome o))) in
    ap (λ (ws : List Entry). settled_all o ws outcomes) s.entries_are
    ∙ ap (λ (os : List (Option Outcome)). settled_all o (front ++ tail) os) s.outcomes_are
    ∙ settled_all-append o front tail (map settled s.done ++ (map waiting s.mid ++ more))
    ∙ ap (λ (os : List (Option Outcome)). settled_all o tail os) (late-numbered o (length s.done) (map settled s.done) more s.mid (length-map s.done settled) ∙ sym (append_assoc (map settled s.done) late more))
    ∙ rest ended (length flushed) (map settled s.done ++ late) unflushed before
    ∙ append_assoc (map settled s.done) late (map (settled_by o) more)
    ∙ sym (ap (λ (os : List (Option Outcome)). map (settled_by o) os) s.outcomes_are
    ∙ map-append (settled_by o) (map settled s.done) (map waiting s.mid ++ more)
    ∙ ap (λ (os : List (Option Outcome)). map (settled_by o) (map settled s.done) ++ os) (map-append (settled_by o) (map waiting s.mid) more)
    ∙ ap (λ (os : List (Option Outcome)). os ++ (map (settled_by o) (map waiting s.mid) ++ map (settled_by o) more)) (by-settled o s.done)
    ∙ ap (λ (os : List (Option Outcome)). map settled s.done ++ (os ++ map (settled_by o) more)) (by-waiting o s.mid))
  where
    rest : (ended : Bool) (n : ℕ) (before : List (Option Outcome)) (ws : List (Option (List ℕ))) → length before ≡ n
        → settled_all o (if ended then [] else entries_numbered n ws) (before ++ map (unflushed_outcome ended) ws) ≡ before ++ map (settled_by o) (map (unflushed_outcome ended) ws)
    rest true n before ws h = ap (λ (os : List (Option Outcome)). before ++ os) (sym (by-late o Closed ws))
    rest false n before ws h = late-last o n before ws h ∙ ap (λ (os : List (Option Outcome)). before ++ os) (sym (by-waiting o ws))
