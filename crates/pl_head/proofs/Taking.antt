-- A buffer after one event more.
use Rattle.std.proofs.Common.{◌≡◌, ℕ, List, [], ◌∷◌, ◌++◌, Bool, true, false, Option, None, ap, sym, refl, ◌∙◌, append_assoc}
use Rattle.pl_event.specs.declared.events.Event.{Event}
use Rattle.pl_event.specs.declared.events.Event.TheVariants.{Active, Read, ReadComplete, Caught, User, Write, Flush}
use Rattle.pl_event.specs.declared.events.Message.{Message}
use Rattle.pl_event.specs.declared.events.Message.TheVariants.{Bytes, Line, Command, Reply}
use Rattle.pl_event.specs.declared.outcomes.Outcome.{Outcome}
use Rattle.pl_head.specs.declared.outbound_buffer.Entry.{Entry}
use Rattle.pl_head.specs.Writes.{bytes_of, write_by, is_flush, flushed_writes, unflushed_writes, out}
use Rattle.pl_head.specs.WaitingMessages.{MessagesStand}
use Rattle.pl_head.proofs.Flushing.{flushed-keep, unflushed-push, flushed-flush, unflushed-flush}
use Rattle.pl_head.proofs.Buffering.{bytes_of-append}

-- what makes no write, no message of bytes, or no flush
pub no_write : (e : Event) → ((m : Message) → e ≡ Write m → ⊥) → write_by e ≡ []
no_write (Write m) other = absurd (other m refl)
no_write Active other = refl
no_write (Read m) other = refl
no_write ReadComplete other = refl
no_write (Caught c) other = refl
no_write (User number) other = refl
no_write Flush other = refl

pub no_bytes : (m : Message) → ((b : List ℕ) → m ≡ Bytes b → ⊥) → write_by (Write m) ≡ None ∷ []
no_bytes (Bytes b) other = absurd (other b refl)
no_bytes (Line b) other = refl
no_bytes (Command c) other = refl
no_bytes (Reply r) other = refl

pub no_flush : (e : Event) → (e ≡ Flush → ⊥) → is_flush e ≡ false
no_flush Flush other = absurd (other refl)
no_flush Active other = refl
no_flush (Read m) other = refl
no_flush ReadComplete other = refl
no_flush (Caught c) other = refl
no_flush (User number) other = refl
no_flush (Write m) other = refl

module _ (ys : List Event) (e : Event) where
  pub out-keep : is_flush e ≡ false → out (ys ++ e ∷ []) ≡ out ys
  out-keep off = ap (λ (ws : List (Option (List ℕ))). bytes_of ws) (flushed-keep ys e off)

  -- an event that is no flush adds its write
  pub stands-push : {entries : List Entry} {offset count : ℕ} {outcomes : List (Option Outcome)} {left : List ℕ} {ended : Bool} (ws : List (Option (List ℕ))) → is_flush e ≡ false → write_by e ≡ ws
      → MessagesStand entries offset count outcomes (flushed_writes ys) (unflushed_writes ys ++ ws) left ended → MessagesStand entries offset count outcomes (flushed_writes (ys ++ e ∷ [])) (unflushed_writes (ys ++ e ∷ [])) left ended
  stands-push ws off is s = rw (flushed-keep ys e off, unflushed-push ys e off, is) s

  -- a flush makes all writes flushed
  pub stands-flush : {entries : List Entry} {offset count : ℕ} {outcomes : List (Option Outcome)} {left : List ℕ} {ended : Bool} → is_flush e ≡ true → write_by e ≡ []
      → MessagesStand entries offset count outcomes (flushed_writes ys ++ unflushed_writes ys) [] left ended → MessagesStand entries offset count outcomes (flushed_writes (ys ++ e ∷ [])) (unflushed_writes (ys ++ e ∷ [])) left ended
  stands-flush on none s = rw (flushed-flush ys e on none, unflushed-flush ys e on) s

  pub output-flush : (accepted left : List ℕ) → is_flush e ≡ true → write_by e ≡ [] → accepted ++ left ≡ out ys → accepted ++ (left ++ bytes_of (unflushed_writes ys)) ≡ out (ys ++ e ∷ [])
  output-flush accepted left on none whole =
      sym (append_assoc accepted left (bytes_of (unflushed_writes ys))) ∙ ap (λ (t : List ℕ). t ++ bytes_of (unflushed_writes ys)) whole ∙ sym (bytes_of-append (flushed_writes ys) (unflushed_writes ys))
      ∙ ap (λ (ws : List (Option (List ℕ))). bytes_of ws) (sym (flushed-flush ys e on none))
