-- The lanes of stages that make no more than they take are small, since each element and each byte of the input makes few
-- events. Built-in handlers are such stages.
use Rattle.std.proofs.Common.{◌≡◌, get_or, ℕ, zero, suc, ◌+◌, ◌-◌, ◌*◌, ◌<◌, ◌≤◌, ◌&&◌, nat_le, Bool, true, false, cond, leb, List, [], ◌∷◌, length, take, map, sum_by, ap, ◌∙◌, refl, arith}
use Rattle.std.specs.Prelude.{All}
use Rattle.std.specs.List.{flat_map}
use Rattle.std.proofs.lemmas.List.Concat.{flat_map-cons}
use Rattle.std.proofs.lemmas.Bool.{and_parts, leb-true}
use Rattle.std.proofs.lemmas.List.Elements.{All-head, All-tail, All-map}
use Rattle.std.proofs.lemmas.List.Sums.{sum_by-cons, sum_by-append}
use Rattle.pl_event.specs.declared.events.Event.{Event}
use Rattle.pl_event.specs.declared.events.Event.TheVariants.{Active, ReadComplete}
use Rattle.pl_event.specs.declared.elements.Element.{Element}
use Rattle.pl_event.specs.declared.elements.Element.TheVariants.{Chunk, User}
use Rattle.pl_event.specs.declared.stages.Direction.{Direction}
use Rattle.pl_event.specs.declared.stages.Direction.TheVariants.{Inbound, Outbound, Turn}
use Rattle.pl_event.specs.Meaning.{Meaning, up_of, down_of}
use Rattle.pl_event.specs.Paths.{is_outbound}
use Rattle.pl_event.specs.Inputs.{Bursts, element_event, element_size, burst_events, recorded_input}
use Rattle.pl_event.specs.Lanes.{lane, through, out_through, written}
use Rattle.pl_event.proofs.Lists.{All-from_list_all}
use Rattle.pl_stages.specs.Counts.{IsThrifty, event_weight, weight}
use Rattle.pl_stages.specs.HandlerThrift.{handler-thrifty}
use Rattle.pl_stages.specs.declared.handlers.Handler.{Handler}
use Rattle.pl_stages.specs.contracts.handlers.HandlerStage.TheImpl.{meaning-value}
use Rattle.pl_build.specs.Pipelines.{PlacedView}
use Rattle.pl_build.specs.Paths.{IsPath}
use Rattle.pl_head.specs.declared.inputs.ReadPlan.{ReadPlan}
use Rattle.pl_head.specs.Transports.{TransportState}
use Rattle.pl_world.specs.declared.session.Recorded.{Recorded}
use Rattle.pl_world.specs.Plans.{channel_planned}
use Rattle.pl_world.specs.PlanRules.{IsSmallChannel}
use Rattle.pl_world.specs.declared.limits.TheConstants.{MAX_BURSTS, MAX_ELEMENTS, MAX_BYTES}
use Rattle.pl_world.specs.Limits.{element_count, byte_count, fits, aborts_within, input_fits}
use Rattle.pl_world.specs.Worlds.{HaveSmallLanes}
use Rattle.pl_world.proofs.WorldLimits.{Inputs, all_recorded, all_any, within_parts}
use Rattle.pl_event.specs.declared.limits.TheConstants.{MAX_ITEMS}

-- ---- the recorded input

element_weight : (element : Element) → event_weight (element_event element) ≡ element_size element + 1
element_weight (Chunk bytes) = omega arith
element_weight (User n) = omega arith

elements_weight : (elements : List Element) → weight (map element_event elements) ≡ length elements + sum_by element_size elements
elements_weight [] = refl
elements_weight (element ∷ elements) =
    let more = sum_by-cons element_size element elements in
    let event = sum_by-cons event_weight (element_event element) (map element_event elements) in
    omega (arith, more, event, element_weight element, elements_weight elements)

pub burst_weight : (elements : List Element) → weight (burst_events elements) ≡ length elements + sum_by element_size elements + 1
burst_weight elements =
    let split = sum_by-append event_weight (map element_event elements) (ReadComplete ∷ []) in
    omega (arith, split, elements_weight elements)

bursts_weight : (bursts : Bursts) → weight (flat_map burst_events bursts) ≡ element_count bursts + byte_count bursts + length bursts
bursts_weight [] = refl
bursts_weight (elements ∷ bursts) =
    let counts : element_count (elements ∷ bursts) ≡ length elements + element_count bursts = sum_by-cons length elements bursts in
    let sizes : byte_count (elements ∷ bursts) ≡ sum_by element_size elements + byte_count bursts = sum_by-cons (sum_by element_size) elements bursts in
    let split = ap weight (flat_map-cons burst_events elements bursts) ∙ sum_by-append event_weight (burst_events elements) (flat_map burst_events bursts) in
    omega (arith, counts, sizes, split, burst_weight elements, bursts_weight bursts)

input_weight : (bursts : Bursts) → weight (recorded_input bursts) ≡ element_count bursts + byte_count bursts + length bursts + 1
input_weight bursts =
    let active = sum_by-cons event_weight Active (flat_map burst_events bursts) in
    omega (arith, active, bursts_weight bursts)

-- ---- lanes

length-weight-le : (xs : List Event) → length xs ≤ weight xs
length-weight-le [] = omega arith
length-weight-le (x ∷ xs) = omega (arith, sum_by-cons event_weight x xs, length-weight-le xs)

through_small : (ms : List Meaning) (n : ℕ) (xs : List Event) → All IsThrifty ms → weight (through (take n ms) xs) ≤ weight xs
through_small [] zero xs all = omega arith
through_small [] (suc n) xs all = omega arith
through_small (m ∷ ms) zero xs all = omega arith
through_small (m ∷ ms) (suc n) xs all =
    let rest = through_small ms n (up_of m xs) (All-tail IsThrifty m ms all) in
    let here = (All-head IsThrifty m ms all).upwards xs in
    omega (arith, rest, here)

written_by : (d : Direction) (turned passed : List Event) (n : ℕ) → length turned ≤ n → length passed ≤ n → length (elim d as (λ _. List Event) [ Turn ↦ turned | Inbound ↦ passed | Outbound ↦ passed ]) ≤ n
written_by Turn turned passed n h k = h
written_by Inbound turned passed n h k = k
written_by Outbound turned passed n h k = k

written_small : (ms : List Meaning) (xs : List Event) → All IsThrifty ms → length (written ms xs) ≤ 2 * weight xs
written_small [] xs all = omega arith
written_small (m ∷ ms) xs all =
    let head = All-head IsThrifty m ms all in
    let below = head.downwards xs in
    let long = length-weight-le xs in
    let rest = written_small ms (up_of m xs) (All-tail IsThrifty m ms all) in
    let here = head.upwards xs in
    written_by m.direction (down_of m xs) (written ms (up_of m xs)) (2 * weight xs) (omega (arith, below, long)) (omega (arith, rest, here))

out_small : (ms : List Meaning) (n : ℕ) (xs : List Event) → All IsThrifty ms → All (λ m. m.direction ≡ Outbound) ms → length (out_through (take n ms) xs) ≤ length xs
out_small [] zero xs all out = omega arith
out_small [] (suc n) xs all out = omega arith
out_small (m ∷ ms) zero xs all out = omega arith
out_small (m ∷ ms) (suc n) xs all out =
    let rest = out_small ms n (down_of m xs) (All-tail IsThrifty m ms all) (All-tail (λ (o : Meaning). o.direction ≡ Outbound) m ms out) in
    let here = (All-head IsThrifty m ms all).outbound (All-head (λ (o : Meaning). o.direction ≡ Outbound) m ms out) xs in
    omega (arith, rest, here)

pub lane_small : (inbound outbound : List Meaning) (xs : List Event) (hop : ℕ) → All IsThrifty inbound → All IsThrifty outbound → All (λ m. m.direction ≡ Outbound) outbound
    → length (lane inbound outbound xs hop) ≤ 2 * weight xs
lane_small inbound outbound xs hop thrifty below out =
    let up = through_small inbound hop xs thrifty in
    let long = length-weight-le (through (take hop inbound) xs) in
    let down = out_small outbound (hop - length inbound - 1) (written inbound xs) below out in
    let turned = written_small inbound xs thrifty in
    elim (leb hop (length inbound)) as (λ (b : Bool). length (cond b (through (take hop inbound) xs) (out_through (take (hop - length inbound - 1) outbound) (written inbound xs))) ≤ 2 * weight xs) [
      | true ↦ omega (arith, up, long)
      | false ↦ omega (arith, down, turned)
    ]

-- each lane has few items, where the bursts are within their limits
pub lanes_small : (inbound outbound : List Meaning) (bursts : Bursts) → All IsThrifty inbound → All IsThrifty outbound → All (λ m. m.direction ≡ Outbound) outbound → fits bursts ≡ true
    → (hop : ℕ) → length (lane inbound outbound (recorded_input bursts) hop) + 1 < MAX_ITEMS
lanes_small inbound outbound bursts thrifty below out within hop =
    let size = input_weight bursts in
    let h = lane_small inbound outbound (recorded_input bursts) hop thrifty below out in
    let few = nat_le (length bursts) MAX_BURSTS in
    let short = nat_le (element_count bursts) MAX_ELEMENTS in
    let parts = and_parts (few && short) (nat_le (byte_count bursts) MAX_BYTES) within in
    let counts = and_parts few short parts.0 in
    omega (arith, size, h, leb-true (length bursts) MAX_BURSTS counts.0, leb-true (element_count bursts) MAX_ELEMENTS counts.1, leb-true (byte_count bursts) MAX_BYTES parts.1)

-- an input that fits has bursts that do
pub bursts_fit : (input : ReadPlan) → input_fits input ≡ true → fits input.bursts ≡ true
bursts_fit input fit = (and_parts (fits input.bursts) (aborts_within input.abort_after (length input.bursts)) fit).0

-- ---- stages that make no more than they take

pub is_out : (d : Direction) → is_outbound d ≡ true → d ≡ Outbound
is_out Outbound e = refl
is_out Inbound e = cc
is_out Turn e = cc

module _ {S T : Type 0} (meaning : S → Meaning) (stands_after : S → List Event → Type 0) (state : T → TransportState) (thrifty : (s : S) → IsThrifty (meaning s)) where
  all_thrifty : (stages : List S) → All IsThrifty (map meaning stages)
  all_thrifty stages = All-map IsThrifty meaning stages (λ k d below. thrifty (get_or stages k d))

  all_out : (stages : List S) → All (λ s. is_outbound (meaning s).direction ≡ true) stages → All (λ m. m.direction ≡ Outbound) (map meaning stages)
  all_out stages all = All-map (λ (m : Meaning). m.direction ≡ Outbound) meaning stages (λ k d below. is_out (meaning (get_or stages k d)).direction (all k d below))

  -- each data lane of a channel has few items, where its input is within the limits
  pub channel_small : (c : Recorded S T) → IsPath meaning stands_after c.pipeline → fits c.input.bursts ≡ true → IsSmallChannel (channel_planned meaning state c)
  channel_small c path fit = λ hop below.
      lanes_small (map meaning c.pipeline.inbound) (map meaning c.pipeline.outbound) c.input.bursts (all_thrifty c.pipeline.inbound) (all_thrifty c.pipeline.outbound) (all_out c.pipeline.outbound path.downwards) fit hop

  -- so the channels of a world do
  pub stages_small : (pipelines : List (PlacedView S)) (inputs : Inputs) (transports : List T) (executors : ℕ) → HaveSmallLanes meaning stands_after state pipelines inputs transports executors
  stages_small pipelines inputs transports executors within kept =
      all_recorded (λ (c : Recorded S T). IsSmallChannel (channel_planned meaning state c)) (IsPath meaning stands_after) (λ input. input_fits input ≡ true) (λ t. Unit {0})
      (λ p input t path fit any. channel_small (record { pipeline = p; input = input; transport = t }) path (bursts_fit input fit))
      pipelines inputs transports kept (All-from_list_all input_fits inputs (within_parts pipelines inputs transports executors within).fit) (all_any transports)

-- ---- handlers

-- the channels of a world of built-in handlers have few items in each data lane
pub handlers_small : {T : Type 0} (stands_after : Handler → List Event → Type 0) (state : T → TransportState) (pipelines : List (PlacedView Handler)) (inputs : Inputs) (transports : List T) (executors : ℕ)
    → HaveSmallLanes meaning-value.it stands_after state pipelines inputs transports executors
handlers_small stands_after state = stages_small meaning-value.it stands_after state handler-thrifty
