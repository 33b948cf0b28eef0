-- The phase of an admission, as its word has it.
use Rattle.std.specs.Prelude.{ℕ, zero, suc, ◌%◌, Bool, true, false}
use Rattle.pl_words.specs.declared.status.Status.{Status}
use Rattle.pl_words.specs.declared.status.Status.TheVariants.{Accepting, Closing, Closed}

-- What a phase adds to the word. A later phase adds more.
abbrev pub rank : Status → ℕ
rank Accepting = 0
rank Closing = 1
rank Closed = 3

abbrev pub phase_of_bits : ℕ → Status
phase_of_bits zero = Accepting
phase_of_bits (suc zero) = Closing
phase_of_bits (suc (suc bits)) = Closed

-- The phase that a word has. It is in the last two bits.
abbrev pub phase_in : ℕ → Status
phase_in word = phase_of_bits (word % 4)

-- the phase once closing has begun (EventExecutorGroup.shutdownGracefully)
abbrev pub begun : Status → Status
begun Accepting = Closing
begun phase = phase

abbrev pub is_closing : Status → Bool
is_closing Closing = true
is_closing phase = false
