-- The bytes that wait in a buffer are those of the writes without an outcome.
use Rattle.std.proofs.Common.{◌≡◌, ℕ, ◌+◌, ◌<◌, List, [], ◌∷◌, ◌++◌, length, map, Bool, true, false, if◌then◌else◌, Option, Some, None, ap, sym, ◌∙◌, refl, length-append, append_assoc, add_assoc, zero-add, take, drop, get_or, zero, suc, append-nil, arith}
use Rattle.std.proofs.lemmas.List.{take-append-drop}
use Rattle.std.proofs.Math.Seq.{drop-cons}
use Rattle.std.proofs.lemmas.List.Sums.{sum_by-append}
use Rattle.pl_event.specs.declared.events.Event.{Event}
use Rattle.pl_event.specs.declared.outcomes.Outcome.{Outcome}
use Rattle.pl_head.specs.declared.outbound_buffer.Entry.{Entry}
use Rattle.pl_head.specs.Writes.{waiting, unflushed_outcome, open_size, flushed_writes, unflushed_writes, out, waiting_bytes}
use Rattle.pl_head.specs.WaitingMessages.{entries_numbered, settled, first_size, entries_size, MessagesStand}
use Rattle.pl_head.proofs.Buffering.{outcomes_stand}

pub entries_size-cons : (w : Entry) (ws : List Entry) → entries_size (w ∷ ws) ≡ length w.bytes + entries_size ws
entries_size-cons w ws =
    sum_by-append (λ (v : Entry). length v.bytes) (w ∷ []) ws ∙ ap (λ (k : ℕ). k + entries_size ws) (zero-add (length w.bytes))

pub entries_size-split : (n : ℕ) (ws : List Entry) → entries_size (take n ws) + entries_size (drop n ws) ≡ entries_size ws
entries_size-split n ws =
    sym (sum_by-append (λ (v : Entry). length v.bytes) (take n ws) (drop n ws)) ∙ ap (λ (t : List Entry). entries_size t) (take-append-drop n ws)

open_size-settled : (done ws : List (Option (List ℕ))) (os : List (Option Outcome)) → open_size (done ++ ws) (map settled done ++ os) ≡ open_size ws os
open_size-settled [] ws os = refl
open_size-settled (None ∷ done) ws os = open_size-settled done ws os
open_size-settled (Some b ∷ done) ws os = open_size-settled done ws os

open_size-waiting : (n : ℕ) (mid ws : List (Option (List ℕ))) (os : List (Option Outcome)) → open_size (mid ++ ws) (map waiting mid ++ os) ≡ entries_size (entries_numbered n mid) + open_size ws os
open_size-waiting n [] ws os = sym (zero-add (open_size ws os))
open_size-waiting n (None ∷ mid) ws os = open_size-waiting (n + 1) mid ws os
open_size-waiting n (Some b ∷ mid) ws os =
    let w : Entry = record { number = n; bytes = b } in
    ap (λ (k : ℕ). length b + k) (open_size-waiting (n + 1) mid ws os)
    ∙ sym (add_assoc (length b) (entries_size (entries_numbered (n + 1) mid)) (open_size ws os))
    ∙ ap (λ (k : ℕ). k + open_size ws os) (sym (entries_size-cons w (entries_numbered (n + 1) mid)))

open_size-tail : (n : ℕ) (ended : Bool) (ws : List (Option (List ℕ))) → open_size ws (map (unflushed_outcome ended) ws) ≡ entries_size (if ended then [] else entries_numbered n ws)
open_size-tail n true [] = refl
open_size-tail n true (None ∷ ws) = open_size-tail n true ws
open_size-tail n true (Some b ∷ ws) = open_size-tail n true ws
open_size-tail n false [] = refl
open_size-tail n false (None ∷ ws) = open_size-tail (n + 1) false ws
open_size-tail n false (Some b ∷ ws) =
    let w : Entry = record { number = n; bytes = b } in
    ap (λ (k : ℕ). length b + k) (open_size-tail (n + 1) false ws) ∙ sym (entries_size-cons w (entries_numbered (n + 1) ws))

pub size_stands : (entries : List Entry) (offset count : ℕ) (os : List (Option Outcome)) (flushed unflushed : List (Option (List ℕ))) (left : List ℕ) (ended : Bool)
    → MessagesStand entries offset count os flushed unflushed left ended → entries_size entries ≡ open_size (flushed ++ unflushed) os
size_stands entries offset count os flushed unflushed left ended s =
    let tail : List Entry = if ended then [] else entries_numbered (length flushed) unflushed in
    ap (λ (t : List Entry). entries_size t) s.entries_are
    ∙ sum_by-append (λ (w : Entry). length w.bytes) (entries_numbered (length s.done) s.mid) tail
    ∙ ap (λ (k : ℕ). entries_size (entries_numbered (length s.done) s.mid) + k) (sym (open_size-tail (length flushed) ended unflushed))
    ∙ sym (open_size-waiting (length s.done) s.mid unflushed (map (unflushed_outcome ended) unflushed))
    ∙ sym (open_size-settled s.done (s.mid ++ unflushed) (map waiting s.mid ++ map (unflushed_outcome ended) unflushed))
    ∙ ap (λ (t : List (Option (List ℕ))). open_size t (map settled s.done ++ (map waiting s.mid ++ map (unflushed_outcome ended) unflushed))) (sym (append_assoc s.done s.mid unflushed) ∙ ap (λ (t : List (Option (List ℕ))). t ++ unflushed) s.split)
    ∙ ap (λ (t : List (Option Outcome)). open_size (flushed ++ unflushed) t) (sym s.outcomes_are)

-- the same by the events, and by how many bytes were accepted
pub waiting_stand : (entries : List Entry) (offset count : ℕ) (os : List (Option Outcome)) (ys : List Event) (accepted left : List ℕ) (ended : Bool)
    → MessagesStand entries offset count os (flushed_writes ys) (unflushed_writes ys) left ended → (0 < count → offset < first_size entries) → accepted ++ left ≡ out ys
    → entries_size entries ≡ waiting_bytes ys (length accepted) ended
waiting_stand entries offset count os ys accepted left ended s at_rest total =
    let size = sym (length-append accepted left) ∙ ap (λ (t : List ℕ). length t) total in
    size_stands entries offset count os (flushed_writes ys) (unflushed_writes ys) left ended s
    ∙ ap (λ (t : List (Option Outcome)). open_size (flushed_writes ys ++ unflushed_writes ys) t)
    (outcomes_stand entries offset count os (flushed_writes ys) (unflushed_writes ys) left ended s at_rest (length accepted) size)

-- nothing is left, so all was accepted
pub all_accepted : (accepted left total : List ℕ) → left ≡ [] → accepted ++ left ≡ total → accepted ≡ total
all_accepted accepted left total none whole =
    sym (append-nil accepted) ∙ ap (λ (t : List ℕ). accepted ++ t) (sym none) ∙ whole

-- one message more
pub entries_size-push : (ws : List Entry) (w : Entry) → entries_size (ws ++ w ∷ []) ≡ entries_size ws + length w.bytes
entries_size-push ws w =
    sum_by-append (λ (v : Entry). length v.bytes) ws (w ∷ []) ∙ ap (λ (k : ℕ). entries_size ws + k) (zero-add (length w.bytes))

pub first_size-push : (ws : List Entry) (w : Entry) → 0 < length ws → first_size (ws ++ w ∷ []) ≡ first_size ws
first_size-push [] w some = absurd (omega (arith, some))
first_size-push (v ∷ ws) w some = refl

-- the message at a place
pub drop-at : (entries : List Entry) (place : ℕ) (entry : Entry) → place < length entries → entry ≡ get_or entries place entry → drop place entries ≡ entry ∷ drop (suc place) entries
drop-at entries place entry within is =
    drop-cons entries place entry within ∙ ap (λ (e : Entry). e ∷ drop (suc place) entries) (sym is)

pub first_size-take : (n : ℕ) (ws : List Entry) → 0 < n → first_size (take n ws) ≡ first_size ws
first_size-take zero ws some = absurd (omega (arith, some))
first_size-take (suc n) [] some = refl
first_size-take (suc n) (w ∷ ws) some = refl
