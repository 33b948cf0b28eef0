-- What a sender and the taker know of a queue, and how it changes.
use Rattle.std.specs.Prelude.{◌+◌, ℕ, Bool, true, false, cond, List, [], ◌∷◌, ◌++◌, map, Option, Some, None}
use Rattle.pl_event.specs.declared.envelopes.Lane.{Lane}
use Rattle.pl_event.specs.declared.envelopes.Envelope.{Envelope}
use Rattle.pl_event.specs.Hops.{same_lane}
use Rattle.pl_event.specs.Worlds.{closes}
use Rattle.pl_queue.specs.declared.views.SendCount.{SendCount}
use Rattle.pl_queue.specs.declared.views.SenderView.{SenderView}
use Rattle.pl_queue.specs.declared.views.TakeCount.{TakeCount}
use Rattle.pl_queue.specs.declared.views.TakerView.{TakerView}
use Rattle.pl_queue.specs.declared.views.PassView.{PassView}

abbrev pub send_count : Lane → ℕ → Bool → SendCount
send_count l n e = record { lane = l; next = n; ended = e }

abbrev pub take_count : Lane → ℕ → TakeCount
take_count l n = record { lane = l; next = n }

abbrev pub sends : List SendCount → ℕ → Option Envelope → SenderView
sends send_counts n last = record { send_counts = send_counts; pushes = n; last = last }

abbrev pub takes : List TakeCount → ℕ → Option Envelope → TakerView
takes counts n last = record { counts = counts; pops = n; last = last }

abbrev pub view_of : Bool → SenderView → TakerView → PassView
view_of t s k = record { taker = t; sends = s; takes = k }

-- A sender's next number of a lane, and whether End or Fail was sent. It has these where the lane is among its own.
abbrev pub sent_of : Lane → List SendCount → Option (ℕ × Bool)
sent_of l [] = None
sent_of l (s ∷ ss) = cond (same_lane l s.lane) (Some (s.next, s.ended)) (sent_of l ss)

-- The taker's next number of a lane. It has one where the lane is among its own.
abbrev pub next_of : Lane → List TakeCount → Option ℕ
next_of l [] = None
next_of l (m ∷ ms) = cond (same_lane l m.lane) (Some m.next) (next_of l ms)

abbrev pub set_send_count : Lane → ℕ → Bool → List SendCount → List SendCount
set_send_count l n e [] = []
set_send_count l n e (s ∷ ss) = cond (same_lane l s.lane) (send_count s.lane n e ∷ ss) (s ∷ set_send_count l n e ss)

abbrev pub set_take_count : Lane → ℕ → List TakeCount → List TakeCount
set_take_count l n [] = []
set_take_count l n (m ∷ ms) = cond (same_lane l m.lane) (take_count m.lane n ∷ ms) (m ∷ set_take_count l n ms)

-- what a sender knows once it has pushed x
abbrev pub after_offer : SenderView → Envelope → SenderView
after_offer s x = sends (set_send_count x.lane (x.number + 1) (closes x.item) s.send_counts) (s.pushes + 1) (Some x)

-- what the taker knows once it has popped x
abbrev pub after_take : TakerView → Envelope → TakerView
after_take t x = takes (set_take_count x.lane (x.number + 1) t.counts) (t.pops + 1) (Some x)

abbrev pub fresh_send_counts : List Lane → List SendCount
fresh_send_counts ls = map (λ l. send_count l 0 false) ls

abbrev pub fresh_take_counts : List Lane → List TakeCount
fresh_take_counts ls = map (λ l. take_count l 0) ls

-- what a sender knows that has pushed nothing
abbrev pub fresh_sends : List Lane → SenderView
fresh_sends ls = sends (fresh_send_counts ls) 0 None

-- what a taker knows that has popped nothing
abbrev pub fresh_takes : List Lane → TakerView
fresh_takes ls = takes (fresh_take_counts ls) 0 None

abbrev pub lanes_of_counts : List TakeCount → List Lane
lanes_of_counts ms = map (λ m. m.lane) ms

abbrev pub lanes_of_send_counts : List SendCount → List Lane
lanes_of_send_counts ss = map (λ s. s.lane) ss

abbrev pub no_sends : SenderView
no_sends = fresh_sends []

abbrev pub no_takes : TakerView
no_takes = fresh_takes []

-- what two senders know together, where the first takes in what the second knows: the last push is its own
abbrev pub both_sends : SenderView → SenderView → SenderView
both_sends s t = sends (s.send_counts ++ t.send_counts) (s.pushes + t.pushes) s.last

-- the views of a pass before and after each kind of step
abbrev pub pass_offered : PassView → Envelope → PassView
pass_offered v x = view_of v.taker (after_offer v.sends x) v.takes

abbrev pub taken : PassView → Envelope → PassView
taken v x = view_of v.taker v.sends (after_take v.takes x)

abbrev pub dealing : List Lane → PassView → PassView
dealing ls v = view_of v.taker v.sends (takes (v.takes.counts ++ fresh_take_counts ls) v.takes.pops v.takes.last)

abbrev pub dealt : List Lane → PassView
dealt ls = view_of false (fresh_sends ls) no_takes

abbrev pub pass_joined : PassView → PassView → PassView
pass_joined v w = view_of v.taker (both_sends v.sends w.sends) v.takes

abbrev pub spent : PassView
spent = view_of false no_sends no_takes

abbrev pub newcomer : PassView
newcomer = view_of true no_sends no_takes

abbrev pub has_lane : Lane → List Lane → Bool
has_lane l [] = false
has_lane l (m ∷ ms) = cond (same_lane l m) true (has_lane l ms)
