-- What a net answers to a move that names what is there.
use Rattle.std.proofs.Common.{◌≡◌, ℕ, Bool, true, false, List, Some, Ok, Err, ap, sym, ◌∙◌, subst}
use Rattle.std.specs.Prelude.{Result, vec_len}
use Rattle.std.proofs.lemmas.Bool.{both_ways}
use Rattle.pl_event.specs.declared.events.Event.{Event}
use Rattle.pl_event.specs.Meaning.{Meaning}
use Rattle.pl_event.specs.Worlds.{World}
use Rattle.pl_context.specs.WaitingViews.{Entry}
use Rattle.pl_head.specs.Transports.{TransportState}
use Rattle.pl_net.specs.Stations.{stations_view, IsUnmoved, IsUnmovedButRoom}
use Rattle.pl_net.specs.Nets.{LacksMemory, StationsStand}
use Rattle.pl_net.specs.declared.stations.Stations.{Stations}
use Rattle.pl_channel.specs.Lanes.{world_of}
use Rattle.pl_replay.specs.Applied.{IsApplied}
use Rattle.pl_replay.specs.MoveModel.{is_there, is_hand}
use Rattle.pl_replay.specs.Moves.{IsEnabled, nodes_view, nodes_stand, oldest}
use Rattle.pl_replay.specs.NetStand.{NetStands}
use Rattle.pl_replay.specs.declared.channels.Channels.{Channels}
use Rattle.pl_replay.proofs.MoveSteps.{GoesOn, hand-wanted, room-goes-on}
use Rattle.pl_world.specs.declared.faults.ReplayFault.{ReplayFault}
use Rattle.pl_world.specs.declared.faults.ReplayFault.TheVariants.{Memory}
use Rattle.pl_world.specs.declared.moves.Move.{Move}
use Rattle.pl_world.specs.declared.moves.Move.TheVariants.{Hand}
use Rattle.pl_world.specs.Plans.{Plan}

-- a move that is another one's equal, of a net that is seen as another, and whether it names what is there
module _ {S T : Type 0} (meaning : S → Meaning) (stands_after : S → List Event → Type 0) (is_spent : S → Bool) (state : T → TransportState) (may_refuse : T → ℕ → Type 0)
    (step move : Move) (is : step ≡ move) (net seen : Stations (Channels S T)) (view : net ≡ seen) (told : Bool) (yes : told ≡ true)
    (tells : (plan : Plan) (backlogs : ℕ → List (Entry (Unit {0}))) → NetStands meaning stands_after state plan backlogs seen → told ≡ is_there plan step) where
  there-here : (plan : Plan) (backlogs : ℕ → List (Entry (Unit {0}))) → NetStands meaning stands_after state plan backlogs net → is_there plan move ≡ false → ⊥
  there-here plan backlogs n off =
      let on = sym (ap (is_there plan) is) ∙ sym (tells plan backlogs (subst (NetStands meaning stands_after state plan backlogs) view n)) ∙ yes in
      both_ways (is_there plan move) off on

  as-seen : (answer : Result Bool ReplayFault) (net' : Stations (Channels S T)) → IsApplied meaning stands_after is_spent state may_refuse move net answer net' → IsApplied meaning stands_after is_spent state may_refuse step seen answer net'
  as-seen answer net' applied = subst (λ (y : Move × Stations (Channels S T)). IsApplied meaning stands_after is_spent state may_refuse y.0 y.1 answer net') (λ i. (sym is i, view i)) applied

  -- it was made, or is not enabled
  pub applied : (made : Bool) (net' : Stations (Channels S T)) → GoesOn meaning stands_after is_spent state may_refuse move net made net' → (made ≡ false → IsUnmoved net net')
      → IsApplied meaning stands_after is_spent state may_refuse step seen (Ok made) net'
  applied made net' on idle = as-seen (Ok made) net' record {
    made = on;
    unmoved = λ no. idle (cc);
    there = λ plan backlogs n off. absurd (there-here plan backlogs n off);
    no_such = λ wrong. absurd (cc);
    same = λ wrong. absurd (cc);
    hand_alone = λ wrong. absurd (cc);
    wanted = λ wrong. absurd (cc);
    refused = λ wrong. absurd (cc);
    memory = λ wrong. absurd (cc);
    goes_on = λ wrong. absurd (cc);
  }

  -- a hand-over for which a queue was to grow, and could not
  pub out-of-memory : (x : ℕ) → move ≡ Hand x → (net' : Stations (Channels S T)) (answer : Result Bool ReplayFault) → answer ≡ Err Memory → IsUnmovedButRoom net net'
      → ((world : World) (y : ℕ) (backlogs : ℕ → List (Entry (Unit {0}))) → StationsStand (nodes_view meaning) (nodes_stand meaning stands_after state) world y (stations_view net backlogs) → StationsStand (nodes_view meaning) (nodes_stand meaning stands_after state) world y (stations_view net' backlogs))
      → ((world : World) (y : ℕ) (backlogs : ℕ → List (Entry (Unit {0}))) → StationsStand (nodes_view meaning) (nodes_stand meaning stands_after state) world y (stations_view net backlogs) → (i : ℕ) × (oldest net.capacity (stations_view net backlogs) x ≡ Some i))
      → ((world : World) (y : ℕ) (backlogs : ℕ → List (Entry (Unit {0}))) → StationsStand (nodes_view meaning) (nodes_stand meaning stands_after state) world y (stations_view net backlogs) → LacksMemory net.capacity x (stations_view net backlogs))
      → net'.capacity ≡ net.capacity → vec_len net'.stations ≡ vec_len net.stations → IsApplied meaning stands_after is_spent state may_refuse step seen answer net'
  out-of-memory x hand net' answer is_memory same stays wanted refused capacity count =
      as-seen answer net' (subst (λ (told_so : Result Bool ReplayFault). IsApplied meaning stands_after is_spent state may_refuse move net told_so net') (sym is_memory) record {
        made = tt;
        unmoved = λ wrong. absurd (cc);
        there = λ plan backlogs n off. absurd (there-here plan backlogs n off);
        no_such = λ wrong. absurd (cc);
        same = λ wrong. absurd (cc);
        hand_alone = λ _. ap is_hand hand;
        wanted = λ _ plan backlogs n.
            subst (λ (m : Move). IsEnabled meaning stands_after is_spent state may_refuse plan.capacity m (stations_view net backlogs) true) (sym hand)
            (hand-wanted meaning stands_after is_spent state may_refuse net x plan backlogs (wanted (world_of false plan) 0 backlogs n.stands) n);
        refused = λ _ plan backlogs n. (x, hand, subst (λ (m : ℕ). LacksMemory m x (stations_view net backlogs)) n.capacity (refused (world_of false plan) 0 backlogs n.stands));
        memory = λ _. same;
        goes_on = λ _ plan backlogs n. room-goes-on meaning stands_after is_spent state may_refuse net net' plan backlogs same (stays (world_of false plan) 0 backlogs n.stands) capacity count n;
      })
