-- Numbers in rising order, and what is settled in it.
use Rattle.std.proofs.Common.{◌≡◌, ℕ, ◌+◌, ◌<◌, ◌≤◌, List, [], ◌∷◌, ◌++◌, length, take, drop, get_or, Option, ap, sym, subst, ◌∙◌, refl, arith, append-nil, append_assoc, length-append, ⊎_elim}
use Rattle.std.proofs.lemmas.List.{map-append, take-append-drop, get_or_append_left, get_or-append-add}
use Rattle.std.proofs.lemmas.Bool.{cases_lt}
use Rattle.std.proofs.Math.Seq.{get_or-append_seam}
use Rattle.std.specs.List.Sorted.{IsStrictlyIncreasing}
use Rattle.pl_event.specs.declared.outcomes.Outcome.{Outcome}
use Rattle.pl_head.specs.declared.outbound_buffer.Entry.{Entry}
use Rattle.pl_head.specs.WaitingMessages.{entry_numbers}
use Rattle.pl_head.specs.Settling.{times, Account, GoesOn}
use Rattle.pl_head.specs.Buffers.{OutboundBufferView, SettlesMore, SettlesFront}
use Rattle.pl_head.proofs.Accounts.{times-append, times-at, waits_within, settled_within}

-- ---- rising numbers

pub rises-none : IsStrictlyIncreasing []
rises-none k within = absurd (omega arith)

module _ (xs ys : List ℕ) (rises : IsStrictlyIncreasing (xs ++ ys)) where
  pub rises-front : IsStrictlyIncreasing xs
  rises-front k within =
      omega (arith, rises k (omega (arith, length-append xs ys)), get_or_append_left xs ys 0 k (omega arith), get_or_append_left xs ys 0 (k + 1) within)

  pub rises-rest : IsStrictlyIncreasing ys
  rises-rest k within =
      let next : length xs + (k + 1) ≡ length xs + k + 1 = omega arith in
      let last : get_or (xs ++ ys) (length xs + k + 1) 0 ≡ get_or ys (k + 1) 0 = subst (λ (i : ℕ). get_or (xs ++ ys) i 0 ≡ get_or ys (k + 1) 0) next (get_or-append-add xs ys (k + 1) 0) in
      omega (arith, rises (length xs + k) (omega (arith, length-append xs ys)), get_or-append-add xs ys k 0, last)

-- one number more, above all before
pub rises-push : (xs : List ℕ) (n : ℕ) → IsStrictlyIncreasing xs → ((k : ℕ) → 0 < times k xs → k < n) → IsStrictlyIncreasing (xs ++ n ∷ [])
rises-push xs n rises below k within = ⊎_elim inside at_end (cases_lt (k + 1) (length xs))
  where
    inside : k + 1 < length xs → get_or (xs ++ n ∷ []) k 0 < get_or (xs ++ n ∷ []) (k + 1) 0
    inside h = omega (arith, rises k h, get_or_append_left xs (n ∷ []) 0 k (omega arith), get_or_append_left xs (n ∷ []) 0 (k + 1) h)

    at_end : length xs ≤ k + 1 → get_or (xs ++ n ∷ []) k 0 < get_or (xs ++ n ∷ []) (k + 1) 0
    at_end h =
        let next : length xs ≡ k + 1 = omega (arith, within, length-append xs (n ∷ [])) in
        let last : get_or (xs ++ n ∷ []) (k + 1) 0 ≡ n = subst (λ (i : ℕ). get_or (xs ++ n ∷ []) i 0 ≡ n) next (get_or-append_seam xs n [] 0) in
        omega (arith, last, below (get_or xs k 0) (times-at xs k 0 (omega arith)), get_or_append_left xs (n ∷ []) 0 k (omega arith))

-- those of messages, up to a place and from it on
module _ (entries : List Entry) (place : ℕ) (rises : IsStrictlyIncreasing (entry_numbers entries)) where
  parts : IsStrictlyIncreasing (entry_numbers (take place entries) ++ entry_numbers (drop place entries))
  parts =
      subst IsStrictlyIncreasing (ap entry_numbers (sym (take-append-drop place entries)) ∙ map-append (λ (e : Entry). e.number) (take place entries) (drop place entries)) rises

  pub rises-take : IsStrictlyIncreasing (entry_numbers (take place entries))
  rises-take = rises-front (entry_numbers (take place entries)) (entry_numbers (drop place entries)) parts

  pub rises-drop : IsStrictlyIncreasing (entry_numbers (drop place entries))
  rises-drop = rises-rest (entry_numbers (take place entries)) (entry_numbers (drop place entries)) parts

-- a new message has the next number
pub rises-waits : (waiting settled : List ℕ) (os : List (Option Outcome)) → Account waiting settled os → IsStrictlyIncreasing waiting → IsStrictlyIncreasing (waiting ++ length os ∷ [])
rises-waits waiting settled os account rises = rises-push waiting (length os) rises (λ k stands. waits_within waiting settled os k account stands)

-- ---- more are settled

pub goes_on-same : (xs : List ℕ) → GoesOn xs xs
goes_on-same xs = record { more = []; after_is = sym (append-nil xs); rises = rises-none }

-- a write that is settled as soon as it gets a number
pub goes_on-adds : (before now : List ℕ) {after waiting : List ℕ} (os : List (Option Outcome)) → Account waiting now os → GoesOn before now → after ≡ now ++ length os ∷ [] → GoesOn before after
goes_on-adds before now os account g e =
    record {
      more = g.more ++ length os ∷ [];
      after_is = e ∙ ap (λ (ns : List ℕ). ns ++ length os ∷ []) g.after_is ∙ append_assoc before g.more (length os ∷ []);
      rises = rises-push g.more (length os) g.rises below;
    }
  where
    below : (k : ℕ) → 0 < times k g.more → k < length os
    below k stands = settled_within now os k account (omega (arith, stands, ap (λ (ns : List ℕ). times k ns) g.after_is, times-append k before g.more))

-- messages from the front
pub settles_front-same : (b : OutboundBufferView) → SettlesFront b b
settles_front-same b = record { front = []; settled = sym (append-nil b.settled); waited = refl; told = refl }

pub settles_front-then : (a b c : OutboundBufferView) → SettlesFront a b → SettlesFront b c → SettlesFront a c
settles_front-then a b c one two = record {
  front = one.front ++ two.front;
  settled = two.settled ∙ ap (λ (ns : List ℕ). ns ++ two.front) one.settled ∙ append_assoc a.settled one.front two.front;
  waited = one.waited ∙ ap (λ (ns : List ℕ). one.front ++ ns) two.waited ∙ sym (append_assoc one.front two.front (entry_numbers c.entries));
  told = two.told ∙ one.told;
}

pub settles_front-rises : (b b' : OutboundBufferView) → IsStrictlyIncreasing (entry_numbers b.entries) → SettlesFront b b' → SettlesMore b b'
settles_front-rises b b' rises s = record {
  settled = record { more = s.front; after_is = s.settled; rises = rises-front s.front (entry_numbers b'.entries) (subst IsStrictlyIncreasing s.waited rises) };
  told = s.told;
}
