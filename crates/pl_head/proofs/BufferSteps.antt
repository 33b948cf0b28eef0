-- What a step of an outbound buffer leaves.
use Rattle.std.proofs.Common.{◌≡◌, ℕ, ◌+◌, ◌-◌, ◌<◌, ◌≤◌, List, [], ◌∷◌, ◌++◌, length, drop, Bool, false, Option, ap, sym, refl, subst, ◌∙◌, arith, length-append, append-nil, append_assoc}
use Rattle.std.proofs.lemmas.List.{append_cancel_left}
use Rattle.std.proofs.Math.Seq.{drop-append_seam}
use Rattle.pl_event.specs.declared.events.Event.{Event}
use Rattle.pl_event.specs.declared.outcomes.Outcome.{Outcome}
use Rattle.pl_context.specs.declared.ports.Port.{Port}
use Rattle.pl_context.specs.OutputsViews.{OutputsView}
use Rattle.pl_head.specs.Writes.{write_by, is_flush, flushed_writes, unflushed_writes, out, outcomes, waiting_bytes}
use Rattle.pl_head.specs.WaitingMessages.{MessagesStand, first_size, entries_size}
use Rattle.pl_head.specs.Marks.{Change, Removed, flags}
use Rattle.pl_head.specs.MarksStand.{Watermarks, SendsFlags}
use Rattle.pl_head.specs.Buffers.{OutboundBufferView, BufferStands, write_sizes, event_sizes}
use Rattle.pl_head.proofs.Buffering.{outcomes_stand}
use Rattle.pl_head.proofs.WaitingSizes.{waiting_stand}
use Rattle.pl_head.proofs.Taking.{stands-push, out-keep}

-- once more bytes are accepted, they were left, and what is left after them is all that is left
pub accepts-more : (accepted left more rest whole : List ℕ) (n : ℕ) → accepted ++ left ≡ whole → length more ≡ n → accepted ++ (more ++ rest) ≡ whole → (n ≤ length left) × ((accepted ++ more) ++ drop n left ≡ whole)
accepts-more accepted left more rest whole n output count e =
    let split : more ++ rest ≡ left = append_cancel_left accepted (more ++ rest) left (e ∙ sym output) in
    let dropped : drop n left ≡ rest = ap (λ (t : List ℕ). drop n t) (sym split) ∙ ap (λ (k : ℕ). drop k (more ++ rest)) (sym count) ∙ drop-append_seam more rest in
    (omega (arith, count, ap (λ (t : List ℕ). length t) split, length-append more rest), append_assoc accepted more (drop n left) ∙ ap (λ (t : List ℕ). accepted ++ (more ++ t)) dropped ∙ e)

-- the bytes accepted and those left, together
pub whole_size : (accepted left whole : List ℕ) → accepted ++ left ≡ whole → length accepted + length left ≡ length whole
whole_size accepted left whole e = sym (length-append accepted left) ∙ ap (λ (t : List ℕ). length t) e

-- other words for the same sizes
pub same_marks : {low high pending : ℕ} {unwritable : Bool} {port : Port} (cs : List Change) {more more' : List Change} → more' ≡ more → Watermarks low high pending unwritable port (cs ++ more) → Watermarks low high pending unwritable port (cs ++ more')
same_marks {low = low} {high = high} {pending = pending} {unwritable = unwritable} {port = port} cs e m =
    subst (λ (t : List Change). Watermarks low high pending unwritable port (cs ++ t)) (sym e) m

pub same_flags : {low high : ℕ} {p p' : Port} {before after : OutputsView} (cs : List Change) {more more' : List Change} → more' ≡ more → SendsFlags low high cs more p before p' after → SendsFlags low high cs more' p before p' after
same_flags {low = low} {high = high} {p = p} {p' = p'} {before = before} {after = after} cs e f =
    subst (λ (t : List Change). SendsFlags low high cs t p before p' after) (sym e) f

pub removed_size : {size size' : ℕ} → size ≡ size' → Removed size' ∷ [] ≡ Removed size ∷ []
removed_size e = ap (λ (k : ℕ). Removed k ∷ []) (sym e)

module _ (accepted : List ℕ) (b : OutboundBufferView) (ys : List Event) (ended : Bool) (sizes : List Change) (s : BufferStands accepted b ys ended sizes) where
  pub waits : b.pending ≡ waiting_bytes ys (length accepted) ended
  waits =
      s.size ∙ waiting_stand b.entries b.offset b.flushed b.outcomes ys accepted s.left ended s.messages s.at_rest s.output

  pub outcomes_are : b.outcomes ≡ outcomes ys (length accepted) ended
  outcomes_are =
      outcomes_stand b.entries b.offset b.flushed b.outcomes (flushed_writes ys) (unflushed_writes ys) s.left ended s.messages s.at_rest (length accepted) (whole_size accepted s.left (out ys) s.output)

  -- messages are taken out, and what they hold is removed
  module _ (accepted' : List ℕ) (b' : OutboundBufferView) (ys' : List Event) (ended' : Bool) {left : List ℕ}
      (messages : MessagesStand b'.entries b'.offset b'.flushed b'.outcomes (flushed_writes ys') (unflushed_writes ys') left ended') (rest : 0 < b'.flushed → b'.offset < first_size b'.entries)
      (output : accepted' ++ left ≡ out ys') (size : ℕ) (parts : entries_size b.entries ≡ size + entries_size b'.entries) where
    removed : size ≡ waiting_bytes ys (length accepted) ended - waiting_bytes ys' (length accepted') ended'
    removed =
        omega (arith, waits, s.size, parts, waiting_stand b'.entries b'.offset b'.flushed b'.outcomes ys' accepted' left ended' messages rest output)

    pub removes-stands : b'.pending + size ≡ b.pending → Watermarks b'.low b'.high b'.pending b'.is_unwritable b'.flags (sizes ++ Removed size ∷ [])
        → BufferStands accepted' b' ys' ended' (sizes ++ Removed (waiting_bytes ys (length accepted) ended - waiting_bytes ys' (length accepted') ended') ∷ [])
    removes-stands pending marks = record {
      left = left;
      messages = messages;
      output = output;
      at_rest = rest;
      size = omega (arith, pending, parts, s.size);
      marks = same_marks sizes (removed_size removed) marks;
    }

    pub removes-flags : {low high : ℕ} {p p' : Port} {before after : OutputsView} → SendsFlags low high sizes (Removed size ∷ []) p before p' after
        → SendsFlags low high sizes (Removed (waiting_bytes ys (length accepted) ended - waiting_bytes ys' (length accepted') ended') ∷ []) p before p' after
    removes-flags flags = same_flags sizes (removed_size removed) flags

-- only the room and the numbering change
pub stands-same : {accepted : List ℕ} {ys : List Event} {ended : Bool} {sizes : List Change} (b : OutboundBufferView) {b' : OutboundBufferView} {room room' : ℕ} {full : Bool} → b' ≡ record b { entries_room = room; outcomes_room = room'; is_full = full }
    → BufferStands accepted b ys ended sizes → BufferStands accepted b' ys ended sizes
stands-same {accepted = accepted} {ys = ys} {ended = ended} {sizes = sizes} b same s =
    subst (λ (v : OutboundBufferView). BufferStands accepted v ys ended sizes) (sym same)
    (record { left = s.left; messages = s.messages; output = s.output; at_rest = s.at_rest; size = s.size; marks = s.marks })

-- an event that is no flush, and makes no write of bytes
module _ (e : Event) (off : is_flush e ≡ false) (ws : List (Option (List ℕ))) (is : write_by e ≡ ws) (none : write_sizes ws ≡ []) (before after : ℕ) where
  no_sizes : event_sizes e before after ≡ []
  no_sizes = rw (is, off, none) refl

  pub sends_nothing : {low high : ℕ} (sizes : List Change) {p : Port} {outputs : OutputsView} → SendsFlags low high sizes (event_sizes e before after) p outputs p outputs
  sends_nothing {low = low} {high = high} sizes =
      same_flags sizes no_sizes (record {
        added = [];
        flags_are = ap (λ (cs : List Change). flags low high cs) (append-nil sizes) ∙ sym (append-nil (flags low high sizes));
        passes = (refl, refl);
      })

  -- where it makes none, or one that is settled at once
  pub stands-on : {accepted : List ℕ} {ys : List Event} {sizes : List Change} (b : OutboundBufferView) {b' : OutboundBufferView} {outcomes : List (Option Outcome)} {settled : List ℕ} {room : ℕ}
      → b' ≡ record b { outcomes = outcomes; settled = settled; outcomes_room = room }
      → ((left : List ℕ) → MessagesStand b.entries b.offset b.flushed b.outcomes (flushed_writes ys) (unflushed_writes ys) left false → MessagesStand b.entries b.offset b.flushed outcomes (flushed_writes ys) (unflushed_writes ys ++ ws) left false)
      → BufferStands accepted b ys false sizes → BufferStands accepted b' (ys ++ e ∷ []) false (sizes ++ event_sizes e before after)
  stands-on {accepted = accepted} {ys = ys} {sizes = sizes} b same push s =
      subst (λ (v : OutboundBufferView). BufferStands accepted v (ys ++ e ∷ []) false (sizes ++ event_sizes e before after)) (sym same)
      (record {
        left = s.left;
        messages = stands-push ys e ws off is (push s.left s.messages);
        output = s.output ∙ sym (out-keep ys e off);
        at_rest = s.at_rest;
        size = s.size;
        marks = same_marks sizes no_sizes (rw (append-nil sizes) s.marks);
      })
