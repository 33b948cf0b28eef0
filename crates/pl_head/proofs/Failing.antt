-- What a failure of a head's own leaves of its buffer, and what comes after it.
use Rattle.std.proofs.Common.{◌≡◌, ℕ, List, [], ◌∷◌, ◌++◌, length, map, Bool, true, false, Option, Some, None, ap, sym, subst, ◌∙◌, refl, append_assoc, append-nil}
use Rattle.std.proofs.lemmas.List.{map-append}
use Rattle.pl_event.specs.declared.events.Event.{Event}
use Rattle.pl_event.specs.declared.events.Event.TheVariants.{Write}
use Rattle.pl_event.specs.declared.events.Message.{Message}
use Rattle.pl_event.specs.declared.events.Message.TheVariants.{Bytes, Line, Command, Reply}
use Rattle.pl_event.specs.declared.outcomes.Outcome.{Outcome}
use Rattle.pl_head.specs.Writes.{write_by, writes_by, late_outcome, outcomes}
use Rattle.pl_head.specs.Failures.{settled_by}
use Rattle.pl_head.specs.Marks.{Change}
use Rattle.pl_head.specs.MarksStand.{Watermarks}
use Rattle.pl_head.specs.Buffers.{OutboundBufferView, BufferFailed}

-- Outcomes and numbers are added, and nothing else changes.
abbrev pub Renumbers : OutboundBufferView → OutboundBufferView → Type 0
Renumbers b b' = b' ≡ record b { outcomes = b'.outcomes; outcomes_room = b'.outcomes_room; settled = b'.settled; is_full = b'.is_full }

pub placing : (b : OutboundBufferView) {b' : OutboundBufferView} {full : Bool} {room : ℕ} → b' ≡ record b { is_full = full; outcomes_room = room } → Renumbers b b'
placing b e =
    subst (λ (v : OutboundBufferView). v ≡ record b { outcomes = v.outcomes; outcomes_room = v.outcomes_room; settled = v.settled; is_full = v.is_full }) (sym e) refl

pub adding : (a b : OutboundBufferView) {b' : OutboundBufferView} {os : List (Option Outcome)} {ns : List ℕ} {room : ℕ} → Renumbers a b → b' ≡ record b { outcomes = os; settled = ns; outcomes_room = room } → Renumbers a b'
adding a b {os = os} {ns = ns} {room = room} before e =
    subst (λ (v : OutboundBufferView). v ≡ record a { outcomes = v.outcomes; outcomes_room = v.outcomes_room; settled = v.settled; is_full = v.is_full })
    (sym (e ∙ ap (λ (v : OutboundBufferView). record v { outcomes = os; settled = ns; outcomes_room = room }) before)) refl

writes_by-append : (zs : List Event) (e : Event) → writes_by (zs ++ e ∷ []) ≡ writes_by zs ++ write_by e
writes_by-append [] e = append-nil (write_by e)
writes_by-append (z ∷ zs) e =
    ap (λ (ws : List (Option (List ℕ))). write_by z ++ ws) (writes_by-append zs e) ∙ sym (append_assoc (write_by z) (writes_by zs) (write_by e))

module _ (o : Outcome) (accepted : List ℕ) (ys zs : List Event) (ended : Bool) (sizes : List Change) (e : Event) where
  -- Whatever became of the writes that it makes, all else is as it was.
  failed-more : (b b' : OutboundBufferView) → Renumbers b b' → BufferFailed o accepted b ys zs ended sizes → (late unnumbered : List (Option (List ℕ))) → late ++ unnumbered ≡ writes_by (zs ++ e ∷ [])
      → (b'.is_full ≡ false → unnumbered ≡ []) → b'.outcomes ≡ map (settled_by o) (outcomes ys (length accepted) ended) ++ map (late_outcome o) late → BufferFailed o accepted b' ys (zs ++ e ∷ []) ended sizes
  failed-more b b' same s late unnumbered split all is = record {
    left = s.left;
    output = s.output;
    entries = ap (λ (v : OutboundBufferView). v.entries) same ∙ s.entries;
    pending = ap (λ (v : OutboundBufferView). v.pending) same ∙ s.pending;
    late = late;
    unnumbered = unnumbered;
    split = split;
    all = all;
    outcomes_are = is;
    marks =
        subst (λ (v : OutboundBufferView). Watermarks v.low v.high v.pending v.is_unwritable v.flags sizes) (sym same) s.marks;
  }

  -- an event that makes no write
  pub failed-nothing : (b : OutboundBufferView) → write_by e ≡ [] → BufferFailed o accepted b ys zs ended sizes → BufferFailed o accepted b ys (zs ++ e ∷ []) ended sizes
  failed-nothing b none s =
      failed-more b b refl s s.late s.unnumbered (s.split ∙ sym (writes_by-append zs e ∙ ap (λ (ws : List (Option (List ℕ))). writes_by zs ++ ws) none ∙ append-nil (writes_by zs))) s.all s.outcomes_are

  module _ (b b' : OutboundBufferView) (write : Option (List ℕ)) (makes : write_by e ≡ write ∷ []) (same : Renumbers b b')
      (s : BufferFailed o accepted b ys zs ended sizes) where
    next_writes : writes_by (zs ++ e ∷ []) ≡ writes_by zs ++ write ∷ []
    next_writes = writes_by-append zs e ∙ ap (λ (ws : List (Option (List ℕ))). writes_by zs ++ ws) makes

    -- a write that gets a number
    pub failed-numbered : b.is_full ≡ false → b'.outcomes ≡ b.outcomes ++ late_outcome o write ∷ [] → BufferFailed o accepted b' ys (zs ++ e ∷ []) ended sizes
    failed-numbered goes is =
        let whole : s.late ≡ writes_by zs = sym (append-nil s.late) ∙ ap (λ (ws : List (Option (List ℕ))). s.late ++ ws) (sym (s.all goes)) ∙ s.split in
        let before : List (Option Outcome) = map (settled_by o) (outcomes ys (length accepted) ended) in
        failed-more b b' same s (s.late ++ write ∷ []) [] (append-nil (s.late ++ write ∷ []) ∙ ap (λ (ws : List (Option (List ℕ))). ws ++ write ∷ []) whole ∙ sym next_writes) (λ f. refl)
        (is ∙ ap (λ (os : List (Option Outcome)). os ++ late_outcome o write ∷ []) s.outcomes_are
        ∙ append_assoc before (map (late_outcome o) s.late) (late_outcome o write ∷ [])
        ∙ ap (λ (os : List (Option Outcome)). before ++ os) (sym (map-append (late_outcome o) s.late (write ∷ []))))

    -- a write that gets none
    pub failed-unnumbered : b'.is_full ≡ true → b'.outcomes ≡ b.outcomes → BufferFailed o accepted b' ys (zs ++ e ∷ []) ended sizes
    failed-unnumbered full is =
        failed-more b b' same s s.late (s.unnumbered ++ write ∷ []) (sym (append_assoc s.late s.unnumbered (write ∷ [])) ∙ ap (λ (ws : List (Option (List ℕ))). ws ++ write ∷ []) s.split ∙ sym next_writes)
        (λ goes. cc (full, goes)) (is ∙ s.outcomes_are)

pub none_written : (o : Outcome) (ws : List (Option (List ℕ))) → map (late_outcome o) ws ≡ [] → ws ≡ []
none_written o [] e = refl
none_written o (w ∷ ws) e = cc e

-- the write of which this is the outcome
pub one_written : (o out : Outcome) (ws : List (Option (List ℕ))) → map (late_outcome o) ws ≡ Some out ∷ [] → (write : Option (List ℕ)) × (ws ≡ write ∷ []) × (late_outcome o write ≡ Some out)
one_written o out [] e = cc e
one_written o out (w ∷ []) e = (w, refl, cc e)
one_written o out (w ∷ v ∷ ws) e = cc e

-- an event that makes a write makes one
pub makes_one : (m : Message) → (write : Option (List ℕ)) × (write_by (Write m) ≡ write ∷ [])
makes_one (Bytes b) = (Some b, refl)
makes_one (Line b) = (None, refl)
makes_one (Command c) = (None, refl)
makes_one (Reply r) = (None, refl)
