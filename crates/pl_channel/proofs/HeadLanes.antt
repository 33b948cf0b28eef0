-- What a node that holds in the world of a plan takes in all, and that a head took the first events of it.
use Rattle.std.proofs.Common.{◌≡◌, ℕ, Bool, false, List, ◌++◌, take, slice_get, Option, Some, refl, sym, ap, ◌∙◌, subst, arith}
use Rattle.std.specs.Option.{option_map_or}
use Rattle.std.proofs.lemmas.Option.{same_Some}
use Rattle.pl_event.specs.declared.events.Event.{Event}
use Rattle.pl_event.specs.Hops.{data_lane}
use Rattle.pl_event.specs.Meaning.{Meaning, IsPrefixOf}
use Rattle.pl_event.specs.Worlds.{content_of}
use Rattle.pl_event.proofs.Lists.{prefix-trans, take-prefix_whole}
use Rattle.pl_head.specs.HeadStand.{HeadView, HeadStandsAfter, gone_of}
use Rattle.pl_head.specs.Marks.{Change}
use Rattle.pl_head.specs.Transports.{TransportState}
use Rattle.pl_part.specs.HeadHolds.{HeadHolds, HeadTook}
use Rattle.pl_part.specs.Parts.{ChannelPartView, PartHolds}
use Rattle.pl_world.specs.Plans.{ChannelPlan, Plan, planned_head_hop}
use Rattle.pl_world.specs.Reports.{head_of}
use Rattle.pl_channel.specs.Lanes.{world_of}
use Rattle.pl_channel.specs.PlanStand.{PartKeepsPlan}
use Rattle.pl_channel.proofs.LaneContents.{content-planned}

-- what comes to a hop of a channel in all
pub comes-to : (refuses : Bool) (plan : Plan) (number : ℕ) (events content : List Event) (channel hop at : ℕ) → content_of (world_of refuses plan) (data_lane channel hop) ≡ Some events → channel ≡ number → hop ≡ at
    → content_of (world_of refuses plan) (data_lane number at) ≡ Some content → events ≡ content
comes-to refuses plan number events content channel hop at own is there planned = same_Some events content (sym own ∙ (λ i. content_of (world_of refuses plan) (data_lane (is i) (there i))) ∙ planned)

pub first-of : (n : ℕ) (some all : List Event) → some ≡ take n all → IsPrefixOf some all
first-of n some all e = subst (λ (xs : List Event). IsPrefixOf xs all) (sym e) (take-prefix_whole n all)

-- a head that has forgotten nothing took these
pub all-in-order : {T : Type 0} (state : T → TransportState) (events : List Event) (h : HeadView T) (t : HeadTook state events h) → h.has_forgotten ≡ false → t.ys ++ t.zs ≡ take t.count events
all-in-order state events h t kept = ap (λ (gone : List Event). (gone ++ t.ys) ++ t.zs) (sym (t.never kept)) ∙ t.in_order

module _ {T : Type 0} (state : T → TransportState) where
  -- A head stands after the first events of the lane that the plan gives it.
  pub record HeadBegins (p : ChannelPlan) (h : HeadView T) : Type 0 where
    pub ys : List Event
    pub zs : List Event
    pub sizes : List Change
    pub after : HeadStandsAfter state h ys zs sizes
    pub first : IsPrefixOf ys (head_of p)

  module _ (refuses : Bool) (plan : Plan) (number : ℕ) (p : ChannelPlan) (planned : slice_get plan.channels number ≡ Some p) where
    -- it does where it holds in the world of the plan, and has forgotten nothing
    pub head-begins : (h : HeadView T) → HeadHolds state (world_of refuses plan) h → h.channel ≡ number → h.hop ≡ planned_head_hop p → h.has_forgotten ≡ false → HeadBegins p h
    head-begins h holds channel at kept =
        let took = holds.holds.took in
        let all = comes-to refuses plan number holds.events (head_of p) h.channel h.hop (planned_head_hop p) holds.holds.own channel at (content-planned plan number p planned (planned_head_hop p) (omega arith)) in
        record {
          ys = took.ys;
          zs = took.zs;
          sizes = took.sizes;
          after = took.after;
          first = prefix-trans took.ys (took.ys ++ took.zs) (head_of p) (took.zs, refl)
              (subst (λ (xs : List Event). IsPrefixOf (took.ys ++ took.zs) xs) all (first-of took.count (took.ys ++ took.zs) holds.events (all-in-order state holds.events h took kept)));
        }

    -- so does that of a part
    pub part-begins : {S : Type 0} (meaning : S → Meaning) (stands_after : S → List Event → Type 0) (part : ChannelPartView S T) → PartHolds (world_of refuses plan) meaning stands_after state part → part.path.channel ≡ number → PartKeepsPlan state p part
        → (h : HeadView T) → part.head ≡ Some h → HeadBegins p h
    part-begins meaning stands_after part holds channel keeps h there =
        let own = holds.head h there in
        head-begins h own.0 (own.1 ∙ channel) (own.2 ∙ keeps.head_at) (ap (λ (x : ℕ × Bool). x.1) (sym (ap (λ (o : Option (HeadView T)). option_map_or (λ (x : HeadView T). gone_of x) o (0, false)) there) ∙ keeps.gone))
