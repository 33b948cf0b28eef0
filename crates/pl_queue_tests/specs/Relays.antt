-- What the two lanes of a relay carry.
use Rattle.std.specs.Prelude.{◌≡◌, Some, false, ℕ, zero, suc, List, [], ◌∷◌, replicate}
use Rattle.pl_event.specs.declared.envelopes.Envelope.{Envelope}
use Rattle.pl_event.specs.declared.envelopes.Item.TheVariants as item
use Rattle.pl_event.specs.declared.envelopes.Lane.{Lane}
use Rattle.pl_event.specs.declared.events.Event.{Event}
use Rattle.pl_event.specs.declared.events.Event.TheVariants.{Active, ReadComplete}
use Rattle.pl_event.specs.Worlds.{World, carrying}
use Rattle.pl_queue.specs.declared.views.SenderView.{SenderView}
use Rattle.pl_queue.specs.declared.views.TakerView.{TakerView}
use Rattle.pl_queue.specs.Ends.{MailboxEnds}
use Rattle.pl_queue.specs.Views.{sent_of, lanes_of_send_counts, lanes_of_counts}

-- so many events: a channel becomes active, and its bursts are empty
abbrev pub lane_events : ℕ → List Event
lane_events zero = []
lane_events (suc n) = Active ∷ replicate n ReadComplete

-- the event with this number
abbrev pub event_at : ℕ → Event
event_at zero = Active
event_at (suc n) = ReadComplete

-- the envelope with this number, where it is not the last
abbrev pub event : Lane → ℕ → Envelope
event lane n = record { lane = lane; number = n; item = item.Event (event_at n) }

-- a world of two lanes
abbrev pub two_lanes : Lane → Lane → ℕ → World
two_lanes first second last = carrying ((first, lane_events last) ∷ (second, lane_events last) ∷ [])

abbrev pub sending_lanes : SenderView → List Lane
sending_lanes s = lanes_of_send_counts s.send_counts

abbrev pub taking_lanes : TakerView → List Lane
taking_lanes t = lanes_of_counts t.counts

-- a sender with one lane, of which nothing was sent
abbrev pub IsFresh : Lane → SenderView → Type 0
IsFresh l s = (sent_of l s.send_counts ≡ Some (0, false)) × (sending_lanes s ≡ l ∷ [])

-- an end of a mailbox that is still one, on the lanes that it had
module _ {M S T : Type 0} (ends : MailboxEnds M S T) where
  abbrev pub StillSends : M → S → S → Type 0
  StillSends m before after = ends.is_sender m after × (sending_lanes (ends.sends_of after) ≡ sending_lanes (ends.sends_of before))

  abbrev pub StillTakes : M → T → T → Type 0
  StillTakes m before after = ends.is_taker m after × (taking_lanes (ends.takes_of after) ≡ taking_lanes (ends.takes_of before))
