-- The numbers that the calls from C answer.
use Rattle.std.specs.Prelude.{ℕ}
use Rattle.pl_live.specs.declared.faults.FeedFault.{FeedFault}
use Rattle.pl_live.specs.declared.faults.FeedFault.TheVariants as feed
use Rattle.pl_live_c.specs.declared.answers.TheConstants.{MEMORY, FULL, CLOSED, TEXT, PLAN}
use Rattle.pl_live_c.specs.declared.channels.OpenFault.{OpenFault}
use Rattle.pl_live_c.specs.declared.channels.OpenFault.TheVariants as to_open

-- the number for why no channel was opened
abbrev pub open_answer : OpenFault → ℕ
open_answer to_open.Memory = MEMORY
open_answer to_open.Text = TEXT
open_answer to_open.Plan = PLAN

-- the number for why bytes were not fed
abbrev pub feed_answer : FeedFault → ℕ
feed_answer feed.Memory = MEMORY
feed_answer feed.Full = FULL
feed_answer feed.Closed = CLOSED
