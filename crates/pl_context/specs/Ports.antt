-- Ports: what a lane is given, and what of it comes on a list of envelopes.
use Rattle.std.specs.Prelude.{◌≡◌, ℕ, ◌+◌, List, [], ◌∷◌, length, map, Bool, true, false, ◌&&◌, if◌then◌else◌}
use Rattle.pl_event.specs.declared.events.Event.{Event}
use Rattle.pl_event.specs.declared.envelopes.Lane.{Lane}
use Rattle.pl_event.specs.declared.envelopes.Item.{Item}
use Rattle.pl_event.specs.declared.envelopes.Item.TheVariants as item
use Rattle.pl_event.specs.declared.envelopes.Envelope.{Envelope}
use Rattle.pl_event.specs.declared.stages.Turned.{Turned}
use Rattle.pl_event.specs.declared.stages.Turned.TheVariants.{Open, Ended}
use Rattle.pl_event.specs.Fitting.{goes_on}
use Rattle.pl_context.specs.declared.added.Added.{Added}
use Rattle.pl_context.specs.declared.added.Added.TheVariants.{Last, Refused, Discarded}
use Rattle.pl_context.specs.declared.ports.Port.{Port}
use Rattle.pl_context.specs.Stops.{StopsView, has_stopped}
use Rattle.pl_context.specs.OutputsViews.{OutputsView, Puts}

-- events, each as an item
abbrev pub as_items : List Event → List Item
as_items xs = map (λ x. item.Event x) xs

-- a stage that has quit ends its lane downwards
abbrev pub end_after : Turned → List Item
end_after Open = []
end_after Ended = item.End ∷ []

-- the lane goes on after all of these items
abbrev pub all_go_on : List Item → Bool
all_go_on [] = true
all_go_on (i ∷ is) = goes_on i && all_go_on is

-- items with consecutive numbers from n on
abbrev pub numbered : Lane → ℕ → List Item → List Envelope
numbered lane n [] = []
numbered lane n (i ∷ is) = record { lane = lane; number = n; item = i } ∷ numbered lane (n + 1) is

-- what an open port offers of these items
abbrev pub offered : Port → List Item → List Envelope
offered p is = if p.is_open then numbered p.lane p.made is else []

-- what of it a list with room takes
abbrev pub put_out : StopsView → Port → List Item → List Envelope
put_out s p is = if p.is_open then (if has_stopped s p.lane then [] else numbered p.lane p.made is) else []

-- the port after these items
abbrev pub port_after : List Item → Port → Port
port_after is p = record p { made = if p.is_open then p.made + length is else p.made; is_open = p.is_open && all_go_on is }

-- a flag's port after what became of the flag
abbrev pub flag_port_after : Added → Port → Port
flag_port_after Last p = record p { made = p.made + 1 }
flag_port_after Refused p = record p { is_open = false }
flag_port_after Discarded p = record p { is_open = false }

-- A flag is handed on with its lane's next number, unless the lane has stopped. That has stopped where a flag finds
-- no place.
pub record FlagPasses (p : Port) (value : Bool) (before : OutputsView) (p' : Port) (after : OutputsView) : Type 0 where
  pub closed : p.is_open ≡ false → (p' ≡ p) × (after ≡ before)
  pub put : p.is_open ≡ true → (answer : Added) × (p' ≡ flag_port_after answer p) × Puts before (record { lane = p.lane; number = p.made; item = item.Flag value }) answer after
