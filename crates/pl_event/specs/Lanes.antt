-- Lane content: the stages composed on whole lists, hop by hop.
use Rattle.std.specs.Prelude.{◌≡◌, ℕ, ◌+◌, ◌-◌, List, [], ◌∷◌, ◌++◌, length, take, Bool, false, if◌then◌else◌, nat_le, refl}
use Rattle.pl_event.specs.Meaning.{Meaning, up_of, down_of}
use Rattle.pl_event.specs.declared.events.Event.{Event}
use Rattle.pl_event.specs.declared.stages.Direction.TheVariants.{Inbound, Outbound, Turn}

-- a list of events through a chain of stages, each given what the one before it makes
abbrev pub through_by : (Meaning → List Event → List Event) → List Meaning → List Event → List Event
through_by makes [] xs = xs
through_by makes (m ∷ ms) xs = through_by makes ms (makes m xs)

-- the same upwards, and downwards
abbrev pub through : List Meaning → List Event → List Event
through ms xs = through_by up_of ms xs

abbrev pub out_through : List Meaning → List Event → List Event
out_through ms xs = through_by down_of ms xs

-- what the turn of an inbound chain writes
abbrev pub written : List Meaning → List Event → List Event
written [] xs = []
written (m ∷ ms) xs =
    elim m.direction [ Turn ↦ down_of m xs | Inbound ↦ written ms (up_of m xs) | Outbound ↦ written ms (up_of m xs) ]

-- whether the turn of an inbound chain has quit
abbrev pub turn_ended : List Meaning → List Event → Bool
turn_ended [] xs = false
turn_ended (m ∷ ms) xs =
    elim m.direction [ Turn ↦ m.ended xs | Inbound ↦ turn_ended ms (up_of m xs) | Outbound ↦ turn_ended ms (up_of m xs) ]

-- Lane content: what a data lane carries, by its hop (ChannelPipeline, lane_law). With k inbound stages, hop i up to
-- k is what the first i make of the input, and hop k + 1 + j what the first j outbound stages make of what the turn
-- writes.
abbrev pub lane : List Meaning → List Meaning → List Event → ℕ → List Event
lane inbound out input hop =
    if nat_le hop (length inbound)
    then through (take hop inbound) input
    else out_through (take (hop - length inbound - 1) out) (written inbound input)

-- what reaches the tail, which hop k enters
abbrev pub tail_lane : List Meaning → List Meaning → List Event → List Event
tail_lane inbound out input = lane inbound out input (length inbound)

-- what reaches the head, which the last hop enters, after all outbound stages
abbrev pub head_lane : List Meaning → List Meaning → List Event → List Event
head_lane inbound out input = lane inbound out input (length inbound + 1 + length out)

-- one stage more at the end of a chain
pub through_by-push : (makes : Meaning → List Event → List Event) (ms : List Meaning) (m : Meaning) (xs : List Event) → through_by makes (ms ++ m ∷ []) xs ≡ makes m (through_by makes ms xs)
through_by-push makes [] m xs = refl
through_by-push makes (n ∷ ms) m xs = through_by-push makes ms m (makes n xs)
