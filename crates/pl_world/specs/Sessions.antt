-- The plan of a session.
use Rattle.pl_event.specs.Meaning.{Meaning}
use Rattle.pl_head.specs.Transports.{MemoryTransportView, TransportState}
use Rattle.pl_stages.specs.declared.handlers.Handler.{Handler}
use Rattle.pl_world.specs.declared.session.Session.{Session}
use Rattle.pl_world.specs.Plans.{Plan, planned}

-- the plan of a session
abbrev pub plan_of : (Handler → Meaning) → (MemoryTransportView → TransportState) → Session → Plan
plan_of meaning state s = planned meaning state s.capacity s.world.executors s.world.channels
