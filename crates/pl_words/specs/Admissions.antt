-- What contracts see of an admission and its seats, and what each call does to them.
use Rattle.std.specs.Prelude.{◌≡◌, ◌≢◌, ℕ, ◌+◌, ◌-◌, ◌<◌, ◌≤◌, ◌⊎◌, false, []}
use Rattle.pl_words.specs.declared.admission.Refused.{Refused}
use Rattle.pl_words.specs.declared.admission.Refused.TheVariants as refused
use Rattle.pl_words.specs.declared.admission.StillOpen.{StillOpen}
use Rattle.pl_words.specs.declared.admission.TheConstants.{MAX_ADMISSIONS, NO_COUNT}
use Rattle.pl_words.specs.declared.status.Status.{Status}
use Rattle.pl_words.specs.declared.status.Status.TheVariants.{Accepting, Closing, Closed}
use Rattle.pl_words.specs.Names.{Name}
use Rattle.pl_words.specs.Phases.{rank, is_closing}
use Rattle.pl_words.specs.AdmissionRule.{Sits, owner_notes}

-- which admission it is, and for how many senders
pub record AdmissionView : Type 0 where
  pub name : Name
  pub senders : ℕ

-- A sender's seat. It says whose it is, which of them, what it counts, the latest phase that it has seen, and the
-- steps that it made on the word.
pub record SendSeatView : Type 0 where
  pub name : Name
  pub number : ℕ
  pub made : ℕ
  pub kept : ℕ
  pub late : ℕ
  pub seen : Status
  pub steps : ℕ

-- The owner's seat. It says whose it is, the phase, the count with which it closed, the count that its last attempt
-- to close found, and the steps that it made on the word.
pub record OwnerSeatView : Type 0 where
  pub name : Name
  pub phase : Status
  pub run : ℕ
  pub found : ℕ
  pub steps : ℕ

-- the seat whose admission it is
pub record AdmittedView : Type 0 where
  pub name : Name
  pub number : ℕ

-- an admission of this seat
abbrev pub admitted_of : SendSeatView → AdmittedView
admitted_of s = record { name = s.name; number = s.number }

-- a sender's seat that has made no step
abbrev pub new_send_seat : Name → ℕ → SendSeatView
new_send_seat name number = record { name = name; number = number; made = 0; kept = 0; late = 0; seen = Accepting; steps = 0 }

-- an owner's seat that has made no step
abbrev pub new_owner_seat : Name → OwnerSeatView
new_owner_seat name = record { name = name; phase = Accepting; run = 0; found = 0; steps = 0 }

-- What holds of a sender's seat between two calls. It stands for itself, has no trial and does not own.
abbrev pub IsSending : Sits → ℕ → Status → Type 0
IsSending me made seen =
    (me.1 ≡ []) × (me.0.seats ≡ 1) × (me.0.trial ≡ 0) × (me.0.owns ≡ false) × (me.0.made ≡ made) × (made ≤ MAX_ADMISSIONS) × (me.0.seen ≡ seen)

-- What holds of the owner's seat between two calls. It stands for no sender.
abbrev pub IsOwning : Sits → Status → Type 0
IsOwning me phase = me ≡ (owner_notes 0 phase me.0.run me.0.found me.0.steps, [])

-- One admission more, by one step that did not find the word closed.
pub record Admits (s t : SendSeatView) : Type 0 where
  pub counted : t ≡ record s { made = s.made + 1; kept = s.kept + 1; seen = t.seen; steps = s.steps + 1 }
  pub room : s.made < MAX_ADMISSIONS
  pub later : rank s.seen ≤ rank t.seen
  pub unclosed : t.seen ≢ Closed

-- Why there is no admission: the word was found closed, or the seat is spent. A seat that has seen closed makes no
-- step, nor does one that is spent and has not. Else a step found the word closed, and a second took it back.
abbrev pub Refuses : Refused → SendSeatView → SendSeatView → Type 0
Refuses refused.Closed s t = ((s.seen ≡ Closed) × (t ≡ s)) ⊎ ((s.seen ≢ Closed) × (s.made < MAX_ADMISSIONS) × (t ≡ record s { seen = Closed; steps = s.steps + 2 }))
Refuses refused.SeatSpent s t = (s.seen ≢ Closed) × (s.made ≡ MAX_ADMISSIONS) × (t ≡ s)

-- one kept admission less; it is late where the step found the word closed
abbrev pub less_one : SendSeatView → Status → SendSeatView
less_one s Accepting = record s { kept = s.kept - 1; seen = Accepting; steps = s.steps + 1 }
less_one s Closing = record s { kept = s.kept - 1; seen = Closing; steps = s.steps + 1 }
less_one s Closed = record s { kept = s.kept - 1; late = s.late + 1; seen = Closed; steps = s.steps + 1 }

-- The owner has closed with this run count, now or before. There was no step then; or it was this one, which found
-- closing begun and `run` admissions kept.
abbrev pub Closes : OwnerSeatView → ℕ → OwnerSeatView → Type 0
Closes o run p =
    ((o.phase ≡ Closed) × (p ≡ o)) ⊎ ((o.phase ≡ Closing) × (run < NO_COUNT) × (p ≡ record o { phase = Closed; run = run; found = run; steps = o.steps + 1 }))

-- The owner has not closed: what the step found is not what was asked for. It is answered, and the seat has nothing
-- else from the step.
pub record StaysOpen (o : OwnerSeatView) (run : ℕ) (e : StillOpen) (p : OwnerSeatView) : Type 0 where
  pub same : p ≡ record o { found = p.found; steps = o.steps + 1 }
  pub answer : e ≡ record { count = p.found; closing = is_closing o.phase }
  pub unclosed : o.phase ≢ Closed
  pub unlike : o.phase ≡ Closing → p.found ≢ run
