-- How a head stands that has failed by itself, or not.
use Rattle.std.proofs.Common.{◌≡◌, ℕ, List, [], ◌∷◌, ◌++◌, length, Bool, false, Option, Some, None, is_some, if◌then◌else◌, refl, ◌∙◌}
use Rattle.pl_event.specs.declared.events.Event.{Event}
use Rattle.pl_event.specs.declared.outcomes.Outcome.{Outcome}
use Rattle.pl_event.specs.declared.outcomes.Cause.{Cause}
use Rattle.pl_head.specs.Writes.{writes_by, outcomes, waiting_bytes}
use Rattle.pl_head.specs.Failures.{AreOutcomes}
use Rattle.pl_head.specs.Marks.{Change, Removed}
use Rattle.pl_head.specs.MarksStand.{Watermarks}
use Rattle.pl_head.specs.Buffers.{OutboundBufferView, BufferStands, BufferFailed}
use Rattle.pl_head.specs.declared.heads.OutStep.TheVariants.{Wrote}
use Rattle.pl_head.specs.HeadStand.{BufferAfter, step_sizes}

pub marks_after : (f : Option Cause) (accepted : List ℕ) (b : OutboundBufferView) (ys zs : List Event) (ended : Bool) (sizes : List Change) → BufferAfter f accepted b ys zs ended sizes
    → Watermarks b.low b.high b.pending b.is_unwritable b.flags sizes
marks_after None accepted b ys zs ended sizes s = s.1.marks
marks_after (Some cause) accepted b ys zs ended sizes s = s.marks

pub waiting_after : (f : Option Cause) (accepted : List ℕ) (b : OutboundBufferView) (ys zs : List Event) (ended : Bool) (sizes : List Change) (size : ℕ) → BufferAfter f accepted b ys zs ended sizes → size ≡ b.pending
    → (BufferStands accepted b ys ended sizes → size ≡ waiting_bytes ys (length accepted) ended) → size ≡ (if is_some f then 0 else waiting_bytes ys (length accepted) ended)
waiting_after None accepted b ys zs ended sizes size s is waits = waits s.1
waiting_after (Some cause) accepted b ys zs ended sizes size s is waits = is ∙ s.pending

none_late : (zs : List Event) → zs ≡ [] → [] ≡ writes_by zs
none_late zs e = rw e refl

pub outcomes_after : (f : Option Cause) (accepted : List ℕ) (b : OutboundBufferView) (ys zs : List Event) (ended : Bool) (sizes : List Change) (os : List (Option Outcome)) → BufferAfter f accepted b ys zs ended sizes → os ≡ b.outcomes
    → (BufferStands accepted b ys ended sizes → os ≡ outcomes ys (length accepted) ended) → AreOutcomes f b.is_full ys zs (length accepted) ended os
outcomes_after None accepted b ys zs ended sizes os s is stand = record {
  late = [];
  unnumbered = [];
  split = none_late zs s.0;
  all = λ goes. refl;
  outcomes_are = stand s.1;
}
outcomes_after (Some cause) accepted b ys zs ended sizes os s is stand =
    record { late = s.late; unnumbered = s.unnumbered; split = s.split; all = s.all; outcomes_are = is ∙ s.outcomes_are }

-- ---- a head that has not failed

pub unfailed : (f : Option Cause) (accepted : List ℕ) (b : OutboundBufferView) (ys zs : List Event) (ended : Bool) (sizes : List Change) → is_some f ≡ false → BufferAfter f accepted b ys zs ended sizes → BufferStands accepted b ys ended sizes
unfailed None accepted b ys zs ended sizes e s = s.1
unfailed (Some cause) accepted b ys zs ended sizes e s = cc e

-- it accepts so many bytes
pub wrote_after : (f : Option Cause) (n : ℕ) (accepted accepted' : List ℕ) (b b' : OutboundBufferView) (ys zs : List Event) (ended : Bool) (sizes : List Change) → is_some f ≡ false → BufferAfter f accepted b ys zs ended sizes
    → BufferStands accepted' b' ys ended (sizes ++ step_sizes (Wrote n) (waiting_bytes ys (length accepted) ended) (waiting_bytes ys (length accepted') ended))
    → BufferAfter f accepted' b' ys zs ended (sizes ++ step_sizes (Wrote n) (if is_some f then 0 else waiting_bytes ys (length accepted) ended) (if is_some f then 0 else waiting_bytes ys (length accepted') ended))
wrote_after None n accepted accepted' b b' ys zs ended sizes e s t = (s.0, t)
wrote_after (Some cause) n accepted accepted' b b' ys zs ended sizes e s t = cc e

pub wrote_unfailed : (f : Option Cause) (n before after : ℕ) → is_some f ≡ false → step_sizes (Wrote n) (if is_some f then 0 else before) (if is_some f then 0 else after) ≡ step_sizes (Wrote n) before after
wrote_unfailed None n before after e = refl
wrote_unfailed (Some cause) n before after e = cc e

-- it fails
pub fail_after : (f : Option Cause) (o : Outcome) (accepted : List ℕ) (b b' : OutboundBufferView) (ys zs : List Event) (ended : Bool) (sizes : List Change) → is_some f ≡ false → BufferAfter f accepted b ys zs ended sizes
    → (BufferStands accepted b ys ended sizes → BufferFailed o accepted b' ys [] ended (sizes ++ Removed (waiting_bytes ys (length accepted) ended) ∷ []))
    → BufferFailed o accepted b' ys zs ended (sizes ++ Removed (if is_some f then 0 else waiting_bytes ys (length accepted) ended) ∷ [])
fail_after None o accepted b b' ys zs ended sizes e s t = rw s.0 (t s.1)
fail_after (Some cause) o accepted b b' ys zs ended sizes e s t = cc e

pub removed_all : (f : Option Cause) (before : ℕ) → is_some f ≡ false → Removed (if is_some f then 0 else before) ∷ [] ≡ Removed before ∷ []
removed_all None before e = refl
removed_all (Some cause) before e = cc e
