-- What contracts see of a transport, and of one over memory.
use Rattle.std.specs.Prelude.{◌≡◌, ℕ, ◌+◌, ◌-◌, ◌<◌, ◌^◌, List, [], min, Option, Some}

-- What a transport has done, and may do (Channel). It has accepted this, so many calls of it were made, and so many
-- of them failed. Where its window is known, a call that does not fail accepts the lesser of the window and what it
-- is offered. Where it was told to fail at one of its calls, fail_at is the number of that call, from 1.
pub record TransportState : Type 0 where
  pub accepted : List ℕ
  pub calls : ℕ
  pub failures : ℕ
  pub window : Option ℕ
  pub fail_at : Option ℕ

-- a transport that was not called
abbrev pub new_state : Option ℕ → Option ℕ → TransportState
new_state window fail_at = record { accepted = []; calls = 0; failures = 0; window = window; fail_at = fail_at }

-- a transport whose bytes have left it
abbrev pub drained : TransportState → TransportState
drained s = record s { accepted = [] }

-- one call more, up to the largest count
abbrev pub one_call_more : ℕ → ℕ
one_call_more n = min (n + 1) (2 ^ 64 - 1)

-- the transport is to fail at its next call
abbrev pub FailsNext : TransportState → Type 0
FailsNext s = s.fail_at ≡ Some (one_call_more s.calls)

-- A transport over memory. It has the bytes that it accepted, and for how many more there is room without a growth.
-- It accepts up to a window of bytes a call, and fails at the call of the number fail_at, from 1.
pub record MemoryTransportView : Type 0 where
  pub bytes : List ℕ
  pub room : ℕ
  pub window : ℕ
  pub fail_at : Option ℕ
  pub calls : ℕ
  pub failures : ℕ

-- the same as any transport shows
abbrev pub memory_state : MemoryTransportView → TransportState
memory_state s = record { accepted = s.bytes; calls = s.calls; failures = s.failures; window = Some s.window; fail_at = s.fail_at }

-- how many bytes a call accepts of those that it is offered
abbrev pub accepted_count : MemoryTransportView → ℕ → ℕ
accepted_count s size = min size s.window

-- a call that it was not told to fail at may fail: there is no room for what it would accept
abbrev pub MayRefuse : MemoryTransportView → ℕ → Type 0
MayRefuse s size = s.room < accepted_count s size
