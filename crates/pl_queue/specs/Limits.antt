-- Which mailboxes can be opened.
use Rattle.std.specs.Prelude.{ℕ, Bool, not, ◌&&◌, ◌==◌, nat_le, List, length, Option, Some, None, if◌then◌else◌}
use Rattle.pl_event.specs.declared.envelopes.Lane.{Lane}
use Rattle.pl_queue.specs.declared.limits.TheConstants.{MAX_CAPACITY, MAX_LANES, MAX_SENDERS}
use Rattle.pl_queue.specs.declared.mailbox.OpenRefusal.{OpenRefusal}
use Rattle.pl_queue.specs.declared.mailbox.OpenRefusal.TheVariants.{Limit}
use Rattle.pl_queue.specs.Left.{lanes_of_senders}

-- capacity, senders and lanes are within the limits
abbrev pub is_mailbox_within : List (List Lane) → ℕ → Bool
is_mailbox_within lanes capacity =
    not (capacity == 0) && nat_le capacity MAX_CAPACITY && nat_le (length lanes) MAX_SENDERS && nat_le (length (lanes_of_senders lanes)) MAX_LANES

-- why no mailbox is opened, out of memory aside
abbrev pub opening_fault : List (List Lane) → ℕ → Option OpenRefusal
opening_fault lanes capacity = if is_mailbox_within lanes capacity then None else Some Limit
