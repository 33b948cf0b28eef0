-- A world that knows the lanes of a recorded channel knows them for its handlers, its tail and its head.
use Rattle.std.proofs.Common.{◌≡◌, ℕ, ◌+◌, ◌<◌, ◌≤◌, Bool, true, false, List, length, map, refl, sym, ap, subst, ◌∙◌, arith}
use Rattle.std.specs.Prelude.{slice_get, Some, Option, option_map, All}
use Rattle.std.specs.List.{count_by}
use Rattle.std.proofs.lemmas.Bool.{both_ways}
use Rattle.std.proofs.lemmas.List.Elements.{All-map}
use Rattle.std.proofs.lemmas.List.{length-map}
use Rattle.std.proofs.lemmas.Option.{slice_get_within, slice_get-map}
use Rattle.pl_event.specs.declared.events.Event.{Event}
use Rattle.pl_event.specs.declared.stages.Direction.{Direction}
use Rattle.pl_event.specs.declared.stages.Direction.TheVariants.{Inbound, Outbound, Turn}
use Rattle.pl_event.specs.Hops.{data_lane}
use Rattle.pl_event.specs.Inputs.{recorded_input}
use Rattle.pl_event.specs.Meaning.{Meaning, up_of, down_of}
use Rattle.pl_event.specs.Paths.{is_outbound, is_turn}
use Rattle.pl_event.specs.Worlds.{World, content_of}
use Rattle.pl_event.proofs.Lists.{All-at, count_by-map}
use Rattle.pl_build.specs.Paths.{IsPath}
use Rattle.pl_build.specs.Pipelines.{hop_of_turn}
use Rattle.pl_context.specs.ContextViews.{IsHop, has_up, has_down, down_hop}
use Rattle.pl_context.specs.declared.contexts.TheConstants.{MAX_HANDLERS}
use Rattle.pl_head.specs.Transports.{TransportState}
use Rattle.pl_part.specs.ContextHolds.{IsPlanned}
use Rattle.pl_part.specs.HeadHolds.{IsHeadPlanned}
use Rattle.pl_part.specs.NewParts.{IsPlannedAt, ArePlannedWith}
use Rattle.pl_world.specs.declared.session.Recorded.{Recorded}
use Rattle.pl_world.specs.Plans.{ChannelPlan, channel_planned, content, tail_hop, planned_head_hop}
use Rattle.pl_world.specs.PlanRules.{IsSmallChannel}
use Rattle.pl_channel.proofs.Lists.{only-one}
use Rattle.pl_channel.proofs.Contents.{content-input, content-up, content-down, content-turn}
use Rattle.pl_event.specs.declared.limits.TheConstants.{MAX_ITEMS}

-- a world knows the lanes of a channel with this plan
abbrev pub Knows : World → ℕ → ChannelPlan → Type 0
Knows world number p = (hop : ℕ) → hop ≤ planned_head_hop p → content_of world (data_lane number hop) ≡ Some (content p hop)

-- ---- where a stage may stand, by its direction

up-at : (d : Direction) (hop k : ℕ) → is_outbound d ≡ false → hop < k → k ≤ MAX_HANDLERS → IsHop d hop k
up-at Inbound hop k up within few = (within, few)
up-at Turn hop k up within few = (within, few)
up-at Outbound hop k up within few = cc

down-at : (d : Direction) (hop k : ℕ) → is_outbound d ≡ true → k < hop → hop ≤ MAX_HANDLERS → IsHop d hop k
down-at Inbound hop k down past few = cc
down-at Turn hop k down past few = cc
down-at Outbound hop k down past few = (past, few)

-- an inbound one that writes downwards is the turn
turn-down : (d : Direction) (hop k : ℕ) → is_outbound d ≡ false → has_down d ≡ true → (is_turn d ≡ true) × (down_hop d hop k ≡ k + 1)
turn-down Inbound hop k up down = cc
turn-down Turn hop k up down = (refl, refl)
turn-down Outbound hop k up down = cc

-- an outbound one writes downwards alone
out-down : (d : Direction) (hop k : ℕ) → is_outbound d ≡ true → (down_hop d hop k ≡ hop + 1) × (has_up d ≡ false) × (is_turn d ≡ false)
out-down Inbound hop k down = cc
out-down Turn hop k down = cc
out-down Outbound hop k down = (refl, refl, refl)

-- ---- the lanes of a plan

module _ (p : ChannelPlan) (upwards : All (λ m. is_outbound m.direction ≡ false) p.inbound) (one : count_by (λ m. is_turn m.direction) p.inbound ≡ 1) (downwards : All (λ m. is_outbound m.direction ≡ true) p.outbound)
    (small : IsSmallChannel p) (world : World) (number : ℕ) (knows : Knows world number p) where
  -- at the hop of an inbound handler
  pub inbound-lanes : (hop : ℕ) (m : Meaning) → slice_get p.inbound hop ≡ Some m → IsPlanned world m (content p hop) number hop (tail_hop p)
  inbound-lanes hop m at = record {
    own = knows hop (omega (arith, within));
    up = λ has. knows (hop + 1) (omega (arith, within)) ∙ ap Some above;
    down = λ has. ap (λ (n : ℕ). content_of world (data_lane number n)) (turn-down m.direction hop (tail_hop p) up has).1 ∙ knows (tail_hop p + 1) (omega arith) ∙ ap Some (below has);
    few = small hop (omega (arith, within));
    few_up = λ has. subst (λ (xs : List Event). length xs + 1 < MAX_ITEMS) above (small (hop + 1) (omega (arith, within)));
    few_down = λ has. subst (λ (xs : List Event). length xs + 1 < MAX_ITEMS) (below has) (small (tail_hop p + 1) (omega arith));
  }
    where
      within : hop < tail_hop p
      within = slice_get_within p.inbound hop m at

      up : is_outbound m.direction ≡ false
      up = All-at (λ (n : Meaning). is_outbound n.direction ≡ false) p.inbound hop m upwards at

      above : content p (hop + 1) ≡ up_of m (content p hop)
      above = content-up p hop m at

      below : has_down m.direction ≡ true → content p (tail_hop p + 1) ≡ down_of m (content p hop)
      below has = content-turn p hop m one at (turn-down m.direction hop (tail_hop p) up has).0

  -- and of an outbound one
  pub outbound-lanes : (i : ℕ) (m : Meaning) → slice_get p.outbound i ≡ Some m → IsPlanned world m (content p (tail_hop p + 1 + i)) number (tail_hop p + 1 + i) (tail_hop p)
  outbound-lanes i m at = record {
    own = knows (tail_hop p + 1 + i) (omega (arith, within));
    up = λ has. absurd (both_ways (has_up m.direction) out.1 has);
    down = λ has. ap (λ (n : ℕ). content_of world (data_lane number n)) (out.0 ∙ next) ∙ knows (tail_hop p + 2 + i) (omega (arith, within)) ∙ ap Some below;
    few = small (tail_hop p + 1 + i) (omega (arith, within));
    few_up = λ has. absurd (both_ways (has_up m.direction) out.1 has);
    few_down = λ has. subst (λ (xs : List Event). length xs + 1 < MAX_ITEMS) below (small (tail_hop p + 2 + i) (omega (arith, within)));
  }
    where
      within : i < length p.outbound
      within = slice_get_within p.outbound i m at

      out : (down_hop m.direction (tail_hop p + 1 + i) (tail_hop p) ≡ (tail_hop p + 1 + i) + 1) × (has_up m.direction ≡ false) × (is_turn m.direction ≡ false)
      out = out-down m.direction (tail_hop p + 1 + i) (tail_hop p) (All-at (λ (n : Meaning). is_outbound n.direction ≡ true) p.outbound i m downwards at)

      next : (tail_hop p + 1 + i) + 1 ≡ tail_hop p + 2 + i
      next = omega arith

      below : content p (tail_hop p + 2 + i) ≡ down_of m (content p (tail_hop p + 1 + i))
      below = content-down p i m at

-- ---- a recorded channel

module _ {S T : Type 0} (meaning : S → Meaning) (stands_after : S → List Event → Type 0) (state : T → TransportState) (r : Recorded S T)
    (path : IsPath meaning stands_after r.pipeline) (small : IsSmallChannel (channel_planned meaning state r)) (world : World) (number : ℕ) (knows : Knows world number (channel_planned meaning state r)) where
  abbrev p : ChannelPlan
  p = channel_planned meaning state r

  abbrev k : ℕ
  k = length r.pipeline.inbound

  sizes : (tail_hop p ≡ k) × (planned_head_hop p ≡ k + 1 + length r.pipeline.outbound)
  sizes =
      let up = length-map r.pipeline.inbound meaning in
      (up, omega (arith, up, length-map r.pipeline.outbound meaning))

  -- a stage of a chain, as its plan has it
  meant : (stages : List S) (i : ℕ) (stage : S) → slice_get stages i ≡ Some stage → slice_get (map meaning stages) i ≡ Some (meaning stage)
  meant stages i stage at = slice_get-map meaning stages i ∙ ap (λ (o : Option S). option_map meaning o) at

  ups : All (λ m. is_outbound m.direction ≡ false) p.inbound
  ups = All-map (λ (m : Meaning). is_outbound m.direction ≡ false) meaning r.pipeline.inbound path.upwards

  one-turn : count_by (λ m. is_turn m.direction) p.inbound ≡ 1
  one-turn = count_by-map (λ (m : Meaning). is_turn m.direction) meaning r.pipeline.inbound ∙ path.turn

  downs : All (λ m. is_outbound m.direction ≡ true) p.outbound
  downs = All-map (λ (m : Meaning). is_outbound m.direction ≡ true) meaning r.pipeline.outbound path.downwards

  inbound-planned : (i : ℕ) (stage : S) → slice_get r.pipeline.inbound i ≡ Some stage → IsPlannedAt world meaning number k (hop_of_turn meaning r.pipeline.inbound) (0 + i) stage
  inbound-planned i stage at = subst (λ (hop : ℕ). IsPlannedAt world meaning number k (hop_of_turn meaning r.pipeline.inbound) hop stage) own (record {
    at = up-at (meaning stage).direction i k (All-at (λ (s : S). is_outbound (meaning s).direction ≡ false) r.pipeline.inbound i stage path.upwards at) (slice_get_within r.pipeline.inbound i stage at) (omega (arith, path.within));
    turned = λ turn. sym (only-one (λ (s : S). is_turn (meaning s).direction) r.pipeline.inbound i stage path.turn at turn).0;
    events = content p i;
    plan = subst (λ (n : ℕ). IsPlanned world (meaning stage) (content p i) number i n) sizes.0 (inbound-lanes p ups one-turn downs small world number knows i (meaning stage) (meant r.pipeline.inbound i stage at));
  })
    where
      own : i ≡ 0 + i
      own = omega arith

  outbound-planned : (i : ℕ) (stage : S) → slice_get r.pipeline.outbound i ≡ Some stage → IsPlannedAt world meaning number k (hop_of_turn meaning r.pipeline.inbound) (k + 1 + i) stage
  outbound-planned i stage at =
      let within = slice_get_within r.pipeline.outbound i stage at in
      let down = All-at (λ (s : S). is_outbound (meaning s).direction ≡ true) r.pipeline.outbound i stage path.downwards at in
      record {
        at = down-at (meaning stage).direction (k + 1 + i) k down (omega arith) (omega (arith, within, path.within));
        turned = λ turn. absurd (both_ways (is_turn (meaning stage).direction) (out-down (meaning stage).direction (k + 1 + i) k down).2 turn);
        events = content p (k + 1 + i);
        plan = subst (λ (n : ℕ). IsPlanned world (meaning stage) (content p (n + 1 + i)) number (n + 1 + i) n) sizes.0
            (outbound-lanes p ups one-turn downs small world number knows i (meaning stage) (meant r.pipeline.outbound i stage at));
      }

  pub are-planned : (turn : ℕ) (inbound outbound : List S) → turn ≡ hop_of_turn meaning r.pipeline.inbound → inbound ≡ r.pipeline.inbound → outbound ≡ r.pipeline.outbound
      → ArePlannedWith world meaning number turn inbound outbound
  are-planned turn inbound outbound at above below = subst (λ (t : ℕ × List S × List S). ArePlannedWith world meaning number t.0 t.1 t.2) (λ i. (sym at i, sym above i, sym below i)) (record {
    planned_inbound = inbound-planned;
    planned_tail = (content p k, knows k (omega (arith, sizes.1)), small k (omega (arith, sizes.1)));
    planned_outbound = outbound-planned;
  })

  pub few-input : length (recorded_input r.input.bursts) + 1 < MAX_ITEMS
  few-input = subst (λ (xs : List Event). length xs + 1 < MAX_ITEMS) (content-input p) (small 0 (omega arith))

  pub head-planned : IsHeadPlanned world r.input number (planned_head_hop p)
  head-planned = record {
    events = content p (planned_head_hop p);
    own = knows (planned_head_hop p) (omega arith);
    few = small (planned_head_hop p) (omega arith);
    input = knows 0 (omega arith) ∙ ap Some (content-input p);
  }
