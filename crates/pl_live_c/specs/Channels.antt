-- A live channel of the built-in handlers, over memory: what it was fed, and how it is opened.
use Rattle.std.specs.Prelude.{◌≡◌, ℕ, List, [], ◌∷◌, drop, true, false, Bool, ◌&&◌, ◌||◌, is_some, None, Some, Ok, IsUtf8}
use Rattle.pl_event.specs.declared.events.Event.{Event}
use Rattle.pl_stages.specs.declared.handlers.Handler.{Handler}
use Rattle.pl_stages.specs.contracts.handlers.HandlerStage.TheImpl as handler
use Rattle.pl_context.specs.Standings.{is_over}
use Rattle.pl_context.specs.TailViews.{TailView}
use Rattle.pl_head.specs.HeadStand.{HeadView, HeadStandsAfter, is_idle}
use Rattle.pl_head.specs.Marks.{Change}
use Rattle.pl_head.specs.Transports.{MemoryTransportView, memory_state}
use Rattle.pl_world.specs.declared.session.Recorded.{Recorded}
use Rattle.pl_world.specs.declared.session.Session.{Session}
use Rattle.pl_world.specs.Limits.{is_placed}
use Rattle.pl_world.specs.Plans.{ChannelPlan, Plan, channel_planned}
use Rattle.pl_world.specs.Sessions.{plan_of}
use Rattle.pl_world.specs.Worlds.{IsUncalled}
use Rattle.pl_text.specs.SessionTexts.{session_of}
use Rattle.pl_live.specs.LiveStand.{LiveView, LiveRests, accepted_in, consumed_of, parts_of, head_in, tail_in, wants_burst}
use Rattle.pl_live_c.specs.declared.channels.Channel.{Channel}

-- a channel rests, between two calls, at the plan of what it was fed
abbrev pub RestsAt : ChannelPlan → LiveView Handler MemoryTransportView → Type 0
RestsAt p live = LiveRests handler.meaning-value.it handler.stands_after-value.it memory_state p live

-- the bytes that are to be sent and were not taken, in order
abbrev pub pending : LiveView Handler MemoryTransportView → List ℕ
pending live = drop live.consumed (accepted_in memory_state (parts_of live))

-- A channel is over where this is true: its tail and its head have taken an end or a failure, and no flushed byte waits.
abbrev pub TellsDone : LiveView Handler MemoryTransportView → Bool → Type 0
TellsDone live answer = (t : TailView) (h : HeadView MemoryTransportView) (ys zs : List Event) (sizes : List Change)
    → tail_in (parts_of live) ≡ Some t → head_in (parts_of live) ≡ Some h → HeadStandsAfter memory_state h ys zs sizes
    → answer ≡ (is_over t.standing && ((is_over h.standing || is_some h.failure) && is_idle memory_state h ys))

-- Bytes are wanted where this is true: a burst is wanted (`wants_burst`).
abbrev pub TellsWanted : LiveView Handler MemoryTransportView → Bool → Type 0
TellsWanted live answer = (h : HeadView MemoryTransportView) (ys zs : List Event) (sizes : List Change)
    → head_in (parts_of live) ≡ Some h → HeadStandsAfter memory_state h ys zs sizes → answer ≡ wants_burst memory_state live h ys

-- a plan of one channel on one executor, which is to read nothing and is not aborted
pub record IsToBeFed (plan : Plan) (p : ChannelPlan) : Type 0 where
  pub alone : plan.channels ≡ p ∷ []
  pub executors : plan.executors ≡ 1
  pub bursts : p.bursts ≡ []
  pub abort_after : p.abort_after ≡ None

-- a text is that of a session whose one channel, to be fed, has this plan
pub record IsPlanOf (text : List ℕ) (p : ChannelPlan) : Type 0 where
  pub plan : Plan
  pub session : session_of text ≡ Ok plan
  pub to_be_fed : IsToBeFed plan p

-- bytes that are the text of no session
abbrev pub IsNoSession : List ℕ → Type 0
IsNoSession text = IsUtf8 text → (plan : Plan) → session_of text ≡ Ok plan → ⊥

-- bytes that are the text of no session with one channel, to be fed
abbrev pub IsNotToBeFed : List ℕ → Type 0
IsNotToBeFed text = (p : ChannelPlan) → IsPlanOf text p → ⊥

-- what a session plans
abbrev pub session_planned : Session → Plan
session_planned session = plan_of handler.meaning-value.it memory_state session

-- what a recorded channel plans
abbrev pub recorded_planned : Recorded Handler MemoryTransportView → ChannelPlan
recorded_planned recorded = channel_planned handler.meaning-value.it memory_state recorded

-- this is the one channel of a session, to be fed
pub record IsAlone (session : Session) (recorded : Recorded Handler MemoryTransportView) : Type 0 where
  pub alone : session.world.channels ≡ recorded ∷ []
  pub to_be_fed : IsToBeFed (session_planned session) (recorded_planned recorded)
  pub placed : is_placed 1 recorded.pipeline ≡ true

-- this is the channel of that session, and its transport was not called
pub record RecordsAs (text : List ℕ) (recorded : Recorded Handler MemoryTransportView) : Type 0 where
  pub planned : IsPlanOf text (recorded_planned recorded)
  pub placed : is_placed 1 recorded.pipeline ≡ true
  pub uncalled : IsUncalled (memory_state recorded.transport)

-- A channel rests at the plan of a text's session. It was fed nothing, and nothing of it was handed out.
pub record OpensAs (text : List ℕ) (c : Channel) : Type 0 where
  pub plan : ChannelPlan
  pub planned : IsPlanOf text plan
  pub rests : RestsAt plan c.live
  pub delivered : c.live.delivered ≡ 0
  pub consumed : consumed_of c.live ≡ 0
  pub ends : c.live.ends ≡ false
