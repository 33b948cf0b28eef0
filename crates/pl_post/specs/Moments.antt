-- A post at one moment: what is queued, the admission's word, and what the owner and the seats know.
use Rattle.std.specs.Prelude.{◌≡◌, ◌≤◌, ℕ, Bool, true, List, [], ◌∷◌, map, Some}
use Rattle.pl_event.specs.declared.envelopes.Envelope.{Envelope}
use Rattle.pl_event.specs.declared.envelopes.Lane.{Lane}
use Rattle.pl_event.specs.Worlds.{World}
use Rattle.pl_queue.specs.declared.views.PassView.{PassView}
use Rattle.pl_queue.specs.declared.views.SenderView.{SenderView}
use Rattle.pl_queue.specs.declared.views.TakerView.{TakerView}
use Rattle.pl_queue.specs.Left.{Apart, send_counts_of}
use Rattle.pl_queue.specs.Room.{IsCounted}
use Rattle.pl_queue.specs.Rule.{Keeps, IsRun, Each, numbers_of}
use Rattle.pl_queue.specs.Views.{sent_of, next_of, lanes_of_counts, lanes_of_send_counts}
use Rattle.pl_words.specs.declared.admission_steps.AdmissionNotes.{AdmissionNotes}
use Rattle.pl_words.specs.declared.status.Status.TheVariants.{Closed}
use Rattle.pl_words.specs.AdmissionRule.{IsAdmission}
use Rattle.pl_post.specs.Posts.{IsTakeCounted}

-- one side of a post: what its pass knows of the queue, and its notes of the admission
pub record Side : Type 0 where
  pub pass : PassView
  pub notes : AdmissionNotes

-- a post at one moment
pub record Moment : Type 0 where
  pub items : List Envelope
  pub words : List ℕ
  pub owner : Side
  pub seats : List Side

-- The rule of a post: at every moment the queue keeps its rule, and the word its own. The owner has all lanes of the
-- seats, and closed with no more than it has taken. A seat has kept an admission for each envelope that it pushed,
-- and, within a send, for one more.
pub record IsPost (world : World) (senders : ℕ) (m : Moment) : Type 0 where
  pub queue : Keeps world m.items (m.owner.pass ∷ map (λ s. s.pass) m.seats)
  pub word : IsAdmission senders m.words (m.owner.notes ∷ map (λ s. s.notes) m.seats)
  pub takes : m.owner.pass.taker ≡ true
  pub owns : m.owner.notes.owns ≡ true
  pub lanes : lanes_of_send_counts (send_counts_of (map (λ s. s.pass.sends) m.seats)) ≡ lanes_of_counts m.owner.pass.takes.counts
  pub apart : Apart (lanes_of_counts m.owner.pass.takes.counts)
  pub taken : IsTakeCounted m.owner.pass.takes
  pub run : m.owner.notes.phase ≡ Closed → m.owner.notes.run ≤ m.owner.pass.takes.pops
  pub sent : Each (λ s. IsCounted s.pass.sends × (s.pass.sends.pushes ≤ s.notes.kept)) m.seats

-- What a sender sent was taken, or is queued, in order. Of each of its lanes, what was sent is what was taken, and
-- then what is queued.
abbrev pub TakenOrQueued : List Envelope → TakerView → SenderView → Type 0
TakenOrQueued items takes sends =
    (l : Lane) (sent taken : ℕ) (ended : Bool) → sent_of l sends.send_counts ≡ Some (sent, ended) → next_of l takes.counts ≡ Some taken → IsRun taken (numbers_of l items) sent

-- All that a seat sent was taken. So it is of each of its lanes, and for nothing else is there an admission.
pub record AllTaken (takes : TakerView) (s : Side) : Type 0 where
  pub taken : (l : Lane) (sent : ℕ) (ended : Bool) → sent_of l s.pass.sends.send_counts ≡ Some (sent, ended) → next_of l takes.counts ≡ Some sent
  pub kept : s.notes.kept ≡ s.pass.sends.pushes
  pub late : s.notes.late ≡ 0
