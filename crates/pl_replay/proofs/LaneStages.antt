-- The stages of a net, each by what the lane of its hop carries.
use Rattle.std.proofs.Common.{◌≡◌, ℕ, suc, ◌+◌, false, true, List, [], ◌∷◌, ◌++◌, length, map, replicate, slice_get, Bool, Option, Some, None, refl, sym, ap, subst, ◌∙◌, arith}
use Rattle.std.specs.Prelude.{is_some}
use Rattle.std.specs.List.{AllZip}
use Rattle.std.proofs.lemmas.Option.{same_Some}
use Rattle.pl_event.specs.declared.events.Event.{Event}
use Rattle.pl_event.specs.Hops.{data_lane}
use Rattle.pl_event.specs.Meaning.{Meaning}
use Rattle.pl_event.specs.Worlds.{content_of}
use Rattle.pl_context.specs.ContextViews.{ContextView}
use Rattle.pl_context.specs.WaitingViews.{Entry}
use Rattle.pl_head.specs.Transports.{TransportState}
use Rattle.pl_net.specs.declared.stations.Stations.{Stations}
use Rattle.pl_part.specs.declared.kept.KeptStage.{KeptStage}
use Rattle.pl_part.specs.LaneStages.{LaneStage}
use Rattle.pl_part.specs.Keeping.{kept_stages, part_stages}
use Rattle.pl_part.specs.Parts.{ChannelPartView}
use Rattle.pl_part.proofs.LaneStages.{lane-stages}
use Rattle.pl_part.proofs.PartSteps.{filled-length}
use Rattle.pl_channel.specs.Lanes.{world_of}
use Rattle.pl_channel.proofs.LaneContents.{content-planned, lane-within}
use Rattle.pl_replay.specs.NetStand.{NetStands}
use Rattle.pl_replay.specs.LaneStages.{HasLaneStages}
use Rattle.pl_replay.specs.declared.channels.Channels.{Channels}
use Rattle.pl_world.specs.Plans.{ChannelPlan, Plan, content}

-- what stands at the same place of two lists, of which one is mapped
zip-mapped : {A B C : Type 0} (R : A → C → Type 0) (f : B → C) (xs : List A) (ys : List B) → length ys ≡ length xs
    → ((i : ℕ) (x : A) (y : B) → slice_get xs i ≡ Some x → slice_get ys i ≡ Some y → R x (f y)) → AllZip R xs (map f ys)
zip-mapped R f [] [] same each = tt
zip-mapped R f [] (y ∷ ys) same each = let none : ⊥ = omega (arith, same) in elim none [ ]
zip-mapped R f (x ∷ xs) [] same each = let none : ⊥ = omega (arith, same) in elim none [ ]
zip-mapped R f (x ∷ xs) (y ∷ ys) same each = (each 0 x y refl refl, zip-mapped R f xs ys (omega (arith, same)) (λ i. each (suc i)))

-- each slot with a context has its stage
slots-kept : {S : Type 0} (contexts : List (Option (ContextView S))) → map (λ (slot : Option (KeptStage S)). is_some slot) (kept_stages contexts) ≡ map (λ (slot : Option (ContextView S)). is_some slot) contexts
slots-kept [] = refl
slots-kept (None ∷ contexts) = ap (λ (bs : List Bool). false ∷ bs) (slots-kept contexts)
slots-kept (Some c ∷ contexts) = ap (λ (bs : List Bool). true ∷ bs) (slots-kept contexts)

module _ {S T : Type 0} (meaning : S → Meaning) (stands_after : S → List Event → Type 0) (state : T → TransportState) (plan : Plan) (backlogs : ℕ → List (Entry (Unit {0}))) (stations : Stations (Channels S T)) (n : NetStands meaning stands_after state plan backlogs stations) where
  channel-stages : (c : ℕ) (p : ChannelPlan) (part : ChannelPartView S T) → slice_get plan.channels c ≡ Some p → slice_get stations.nodes.parts.items c ≡ Some part → HasLaneStages stands_after p (part_stages part)
  channel-stages c p part planned at =
      let stands = n.stands.hold.parts c part at in
      let keeps = n.keeps.each c p part planned at in
      let lanes = lane-stages (world_of false plan) meaning stands_after state part stands.holds in
      let whole = stands.whole in
      let slots = filled-length part.path.contexts part.path.tail_hop whole.outbound whole.filled in
      let tail_at : part.path.tail_hop ≡ length p.inbound = keeps.tail_at in
      let head_at : length part.path.contexts ≡ length p.inbound + 1 + length p.outbound = keeps.head_at in
      let outbound : whole.outbound ≡ length p.outbound = omega (arith, slots, tail_at, head_at) in
      record {
        filled = slots-kept part.path.contexts ∙ whole.filled ∙ (λ i. replicate (tail_at i) true ++ false ∷ replicate (outbound i) true);
        each = λ hop k is.
            let lane = lanes.each hop k is in
            let own : content_of (world_of false plan) (data_lane c hop) ≡ Some lane.0 = ap (λ (number : ℕ). content_of (world_of false plan) (data_lane number hop)) (sym stands.channel) ∙ lane.1 in
            let carried = content-planned plan c p planned hop (lane-within plan c p planned hop lane.0 own) in
            subst (λ (events : List Event). LaneStage stands_after events k.standing k.stage) (same_Some lane.0 (content p hop) (sym own ∙ carried)) lane.2;
      }

  pub net-stages : AllZip (HasLaneStages stands_after) plan.channels (map (λ (part : ChannelPartView S T). part_stages part) stations.nodes.parts.items)
  net-stages = zip-mapped (HasLaneStages stands_after) (λ (part : ChannelPartView S T). part_stages part) plan.channels stations.nodes.parts.items n.keeps.count channel-stages
