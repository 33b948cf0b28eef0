-- Every n-th flush (docs/FORMATS.md, "Handlers").
use Rattle.std.specs.Prelude.{ℕ, ◌%◌, List, [], ◌∷◌, ◌++◌, count_by, Bool, true, false, not, ◌||◌, ◌==◌, if◌then◌else◌}
use Rattle.pl_event.specs.declared.events.Event.{Event}
use Rattle.pl_event.specs.declared.events.Event.TheVariants.{Flush}
use Rattle.pl_event.specs.Meaning.{Meaning, IsLawful}
use Rattle.pl_event.specs.Passing.{passing_down, passing_down-lawful}

abbrev pub is_flush_event : Event → Bool
is_flush_event Flush = true
is_flush_event other = false

-- how many of these events are flushes
abbrev pub flushes : List Event → ℕ
flushes xs = count_by is_flush_event xs

-- A flush passes where the count of flushes with it is a multiple of n. Every other event passes.
abbrev pub passes : ℕ → List Event → Event → Bool
passes n xs x = not (is_flush_event x) || flushes (xs ++ x ∷ []) % n == 0

abbrev pub flush_every_down : ℕ → List Event → Event → List Event
flush_every_down n xs x = if passes n xs x then x ∷ [] else []

-- the handler that holds back all but every n-th flush (ChannelOutboundHandler)
abbrev pub flush_every : ℕ → Meaning
flush_every n = passing_down (flush_every_down n)

pub flush_every-lawful : (n : ℕ) → IsLawful (flush_every n)
flush_every-lawful n = passing_down-lawful (flush_every_down n)
