-- The flags of a lane.
use Rattle.std.specs.Prelude.{◌%◌, ◌==◌, ℕ}
use Rattle.pl_event.specs.declared.envelopes.Envelope.{Envelope}
use Rattle.pl_event.specs.declared.envelopes.Item.TheVariants as item
use Rattle.pl_event.specs.declared.envelopes.Lane.{Lane}

-- the flag with this number: they alternate
abbrev pub flag_at : Lane → ℕ → Envelope
flag_at lane n = record { lane = lane; number = n; item = item.Flag (n % 2 == 1) }
