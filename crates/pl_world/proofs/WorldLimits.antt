-- The limits of a world, and what is left of them.
use Rattle.std.proofs.Common.{◌≡◌, ℕ, ◌+◌, ◌*◌, ◌<◌, ◌≤◌, ◌==◌, List, [], ◌∷◌, ◌++◌, length, take, map, get_or, sum_by, true, false, nat_lt, nat_le, Option, Some, None, zero, suc, ap, ap₂, sym, ◌∙◌, ◌&&◌, refl, arith, append-nil}
use Rattle.std.specs.Prelude.{slice_get, All}
use Rattle.std.specs.List.{list_all}
use Rattle.std.proofs.lemmas.Bool.{and_parts, eqb-true, leb-true, ltb-true, lt-ltb, le-ltb}
use Rattle.std.proofs.lemmas.Option.{slice_get_within, get_or_from_slice_get}
use Rattle.std.proofs.lemmas.List.Elements.{All-nil, All-cons, All-head, All-tail, All-map}
use Rattle.std.proofs.lemmas.List.Folds.{list_all_at, list_all_more}
use Rattle.std.proofs.lemmas.List.Sums.{sum_by-cons}
use Rattle.std.proofs.lemmas.List.{length-map, take_all}
use Rattle.pl_event.specs.declared.events.Event.{Event}
use Rattle.pl_event.proofs.Lists.{All-from_list_all, count_by-map}
use Rattle.pl_event.specs.Meaning.{Meaning, IsLawful}
use Rattle.pl_event.specs.Paths.{is_outbound, is_turn}
use Rattle.pl_build.specs.Pipelines.{PlacedView}
use Rattle.pl_build.specs.Paths.{IsPath}
use Rattle.pl_head.specs.declared.inputs.ReadPlan.{ReadPlan}
use Rattle.pl_head.specs.Transports.{TransportState, new_state}
use Rattle.pl_world.specs.declared.session.Recorded.{Recorded}
use Rattle.pl_world.specs.Plans.{ChannelPlan, channel_planned, planned_head_hop}
use Rattle.pl_world.specs.PlanRules.{IsSmallChannel, IsChannelPlan}
use Rattle.pl_build.specs.declared.limits.TheConstants.{MAX_EXECUTORS, MAX_HANDLERS}
use Rattle.pl_world.specs.declared.limits.TheConstants.{MAX_CHANNELS}
use Rattle.pl_world.specs.Limits.{input_fits, is_placed, is_within}
use Rattle.pl_world.specs.Worlds.{recorded, IsUncalled, FitsLimits, HaveSmallLanes, IsWorld}

-- ---- hops

module _ (executors : List ℕ) (count hop executor : ℕ) (is : slice_get executors hop ≡ Some executor) where
  -- a hop has an executor that is not there
  pub placed_at : count ≤ executor → list_all (λ x. nat_lt x count) executors ≡ false
  placed_at past =
      list_all_at (λ (x : ℕ). nat_lt x count) executors hop executor (slice_get_within executors hop executor is)
      (ap (λ (x : ℕ). nat_lt x count) (get_or_from_slice_get executors hop executor executor is) ∙ le-ltb executor count past)

  -- one hop more has one that is
  pub placed_more : executor < count → list_all (λ x. nat_lt x count) (take hop executors) ≡ true
      → (hop + 1 ≤ length executors) × (list_all (λ x. nat_lt x count) (take (hop + 1) executors) ≡ true)
  placed_more there so_far =
      let within = slice_get_within executors hop executor is in
      let here = ap (λ (x : ℕ). nat_lt x count) (get_or_from_slice_get executors hop executor executor is) ∙ lt-ltb executor count there in
      (omega (arith, within), list_all_more (λ (x : ℕ). nat_lt x count) executors hop executor within ∙ rw (so_far, here) refl)

none_past : (executors : List ℕ) (hop : ℕ) → None ≡ slice_get executors hop → length executors ≤ hop
none_past [] hop is = omega arith
none_past (x ∷ executors) zero is = absurd (cc)
none_past (x ∷ executors) (suc hop) is = omega (arith, none_past executors hop is)

-- each hop has one that is there, and there are no more
pub all_placed_before : (executors : List ℕ) (count hop : ℕ) → None ≡ slice_get executors hop → list_all (λ x. nat_lt x count) (take hop executors) ≡ true → true ≡ list_all (λ x. nat_lt x count) executors
all_placed_before executors count hop is so_far =
    sym so_far ∙ ap (list_all (λ (x : ℕ). nat_lt x count)) (take_all hop executors (none_past executors hop is))

all_there : (count : ℕ) (executors : List ℕ) → list_all (λ x. nat_lt x count) executors ≡ true → All (λ x. x < count) executors
all_there count [] all = All-nil (λ (x : ℕ). x < count)
all_there count (x ∷ executors) all =
    let parts = and_parts (nat_lt x count) (list_all (λ y. nat_lt y count) executors) all in
    All-cons (λ (y : ℕ). y < count) x executors (ltb-true x count parts.0) (all_there count executors parts.1)

-- ---- channels

abbrev pub Inputs : Type 0
Inputs = List ReadPlan

module _ {S T : Type 0} where
  -- no pipeline is left, or no input, or no transport
  pub no_pipeline_left : (joined : List (Recorded S T)) (pipelines : List (PlacedView S)) (inputs : Inputs) (transports : List T) (all : List (Recorded S T))
      → pipelines ≡ [] → joined ++ recorded pipelines inputs transports ≡ all → joined ≡ all
  no_pipeline_left joined [] inputs transports all none is = sym (append-nil joined) ∙ is
  no_pipeline_left joined (p ∷ pipelines) inputs transports all none is = cc

  pub no_input_left : (joined : List (Recorded S T)) (pipelines : List (PlacedView S)) (inputs : Inputs) (transports : List T) (all : List (Recorded S T))
      → inputs ≡ [] → joined ++ recorded pipelines inputs transports ≡ all → joined ≡ all
  no_input_left joined [] inputs transports all none is = sym (append-nil joined) ∙ is
  no_input_left joined (p ∷ pipelines) [] transports all none is = sym (append-nil joined) ∙ is
  no_input_left joined (p ∷ pipelines) (input ∷ inputs) transports all none is = cc

  pub no_transport_left : (joined : List (Recorded S T)) (pipelines : List (PlacedView S)) (inputs : Inputs) (transports : List T) (all : List (Recorded S T))
      → transports ≡ [] → joined ++ recorded pipelines inputs transports ≡ all → joined ≡ all
  no_transport_left joined [] inputs transports all none is = sym (append-nil joined) ∙ is
  no_transport_left joined (p ∷ pipelines) [] transports all none is = sym (append-nil joined) ∙ is
  no_transport_left joined (p ∷ pipelines) (input ∷ inputs) [] all none is = sym (append-nil joined) ∙ is
  no_transport_left joined (p ∷ pipelines) (input ∷ inputs) (t ∷ transports) all none is = cc

  few_recorded : (pipelines : List (PlacedView S)) (inputs : Inputs) (transports : List T) → length (recorded pipelines inputs transports) ≤ length pipelines
  few_recorded [] inputs transports = omega arith
  few_recorded (p ∷ pipelines) [] transports = omega arith
  few_recorded (p ∷ pipelines) (input ∷ inputs) [] = omega arith
  few_recorded (p ∷ pipelines) (input ∷ inputs) (t ∷ transports) = let rest = few_recorded pipelines inputs transports in omega (arith, rest)

  -- What is true of each pipeline with any input and transport of these is true of each channel.
  pub all_recorded : (Holds : Recorded S T → Type 0) (Is : PlacedView S → Type 0) (Fits : ReadPlan → Type 0) (Leaves : T → Type 0)
      → ((p : PlacedView S) (input : ReadPlan) (t : T) → Is p → Fits input → Leaves t → Holds (record { pipeline = p; input = input; transport = t }))
      → (pipelines : List (PlacedView S)) (inputs : Inputs) (transports : List T) → All Is pipelines → All Fits inputs → All Leaves transports
      → All Holds (recorded pipelines inputs transports)
  all_recorded Holds Is Fits Leaves each [] inputs transports is fit leave = All-nil Holds
  all_recorded Holds Is Fits Leaves each (p ∷ pipelines) [] transports is fit leave = All-nil Holds
  all_recorded Holds Is Fits Leaves each (p ∷ pipelines) (input ∷ inputs) [] is fit leave = All-nil Holds
  all_recorded Holds Is Fits Leaves each (p ∷ pipelines) (input ∷ inputs) (t ∷ transports) is fit leave =
      All-cons Holds (record { pipeline = p; input = input; transport = t }) (recorded pipelines inputs transports)
      (each p input t (All-head Is p pipelines is) (All-head Fits input inputs fit) (All-head Leaves t transports leave))
      (all_recorded Holds Is Fits Leaves each pipelines inputs transports (All-tail Is p pipelines is) (All-tail Fits input inputs fit) (All-tail Leaves t transports leave))

-- ---- the limits, one by one

pub record Limits {S T : Type 0} (pipelines : List (PlacedView S)) (inputs : Inputs) (transports : List T) (executors : ℕ) : Type 0 where
  pub executors_at_most : executors ≤ MAX_EXECUTORS
  pub channels_at_most : length pipelines ≤ MAX_CHANNELS
  pub inputs_for_each : length pipelines ≡ length inputs
  pub transports_for_each : length pipelines ≡ length transports
  pub placed : list_all (is_placed executors) pipelines ≡ true
  pub fit : list_all input_fits inputs ≡ true

pub within_parts : {S T : Type 0} (pipelines : List (PlacedView S)) (inputs : Inputs) (transports : List T) (executors : ℕ) → is_within pipelines inputs transports executors ≡ true
    → Limits pipelines inputs transports executors
within_parts pipelines inputs transports executors within =
    let few = nat_le executors MAX_EXECUTORS in
    let short = nat_le (length pipelines) MAX_CHANNELS in
    let same = length pipelines == length inputs in
    let beside = length pipelines == length transports in
    let placed = list_all (is_placed executors) pipelines in
    let five = and_parts (few && short && same && beside && placed) (list_all input_fits inputs) within in
    let four = and_parts (few && short && same && beside) placed five.0 in
    let three = and_parts (few && short && same) beside four.0 in
    let two = and_parts (few && short) same three.0 in
    let one = and_parts few short two.0 in
    record {
      executors_at_most = leb-true executors MAX_EXECUTORS one.0;
      channels_at_most = leb-true (length pipelines) MAX_CHANNELS one.1;
      inputs_for_each = eqb-true (length pipelines) (length inputs) two.1;
      transports_for_each = eqb-true (length pipelines) (length transports) three.1;
      placed = four.1;
      fit = five.1;
    }

-- of any list
pub all_any : {X : Type 0} (xs : List X) → All (λ x. Unit {0}) xs
all_any xs = λ k d below. tt

-- ---- transports

-- a transport in a new state was not called
pub is_uncalled : (state : TransportState) (window fail_at : Option ℕ) → state ≡ new_state window fail_at → IsUncalled state
is_uncalled state window fail_at is = is ∙ ap₂ new_state (sym (ap (λ (s : TransportState). s.window) is)) (sym (ap (λ (s : TransportState). s.fail_at) is))

-- ---- rules

module _ {S T : Type 0} (meaning : S → Meaning) (stands_after : S → List Event → Type 0) (lawful : (s : S) → IsLawful (meaning s)) (state : T → TransportState) where
  channel_ruled : (executors : ℕ) (c : Recorded S T) → FitsLimits meaning stands_after state executors c → IsChannelPlan executors (channel_planned meaning state c)
  channel_ruled executors c fit = record {
    upwards = All-map (λ (m : Meaning). is_outbound m.direction ≡ false) meaning c.pipeline.inbound fit.path.upwards;
    turn = count_by-map (λ (m : Meaning). is_turn m.direction) meaning c.pipeline.inbound ∙ fit.path.turn;
    downwards = All-map (λ (m : Meaning). is_outbound m.direction ≡ true) meaning c.pipeline.outbound fit.path.downwards;
    lawful_inbound = all_lawful c.pipeline.inbound;
    lawful_outbound = all_lawful c.pipeline.outbound;
    hops = omega (arith, fit.path.hops, length-map c.pipeline.inbound meaning, length-map c.pipeline.outbound meaning);
    marks = fit.path.order;
    placed = fit.placed;
  }
    where
      all_lawful : (ss : List S) → All IsLawful (map meaning ss)
      all_lawful [] = All-nil IsLawful
      all_lawful (s ∷ ss) = All-cons IsLawful (meaning s) (map meaning ss) (lawful s) (all_lawful ss)

  few_lanes : (executors : ℕ) (channels : List (Recorded S T)) → All (FitsLimits meaning stands_after state executors) channels
      → sum_by (λ p. planned_head_hop p + 1) (map (channel_planned meaning state) channels) ≤ MAX_HANDLERS * length channels + 2 * length channels
  few_lanes executors [] all = omega arith
  few_lanes executors (c ∷ channels) all =
      let within = (All-head (FitsLimits meaning stands_after state executors) c channels all).path.within in
      let rest = few_lanes executors channels (All-tail (FitsLimits meaning stands_after state executors) c channels all) in
      let more = sum_by-cons (λ (q : ChannelPlan). planned_head_hop q + 1) (channel_planned meaning state c) (map (channel_planned meaning state) channels) in
      omega (arith, within, rest, more, length-map c.pipeline.inbound meaning, length-map c.pipeline.outbound meaning)

  -- channels that fit are a world
  pub is_world : (channels : List (Recorded S T)) (executors : ℕ) → executors ≤ MAX_EXECUTORS → length channels ≤ MAX_CHANNELS → All (FitsLimits meaning stands_after state executors) channels
      → IsWorld meaning state (record { executors = executors; channels = channels })
  is_world channels executors few short each = record {
    executors = few;
    channels = short;
    inputs = λ k d below. (each k d below).input;
    transports = λ k d below. (each k d below).transport;
    ruled = λ capacity some. record {
      channels = All-map (IsChannelPlan executors) (channel_planned meaning state) channels (λ k d below. channel_ruled executors (get_or channels k d) (each k d below));
      capacity = some;
    };
    small = λ capacity. record {
      channels = All-map IsSmallChannel (channel_planned meaning state) channels (λ k d below. (each k d below).small);
      lanes = omega (arith, few_lanes executors channels each, short);
    };
  }

-- Channels that are joined within the limits fit.
module _ {S T : Type 0} (meaning : S → Meaning) (stands_after : S → List Event → Type 0) (state : T → TransportState) (pipelines : List (PlacedView S)) (inputs : Inputs) (transports : List T) (executors : ℕ) (within : is_within pipelines inputs transports executors ≡ true) where
  pub few_joined : length (recorded pipelines inputs transports) ≤ MAX_CHANNELS
  few_joined =
      omega (arith, (within_parts pipelines inputs transports executors within).channels_at_most, few_recorded pipelines inputs transports)

  -- what is true of each channel that is joined of these, small lanes aside
  record Fits (c : Recorded S T) : Type 0 where
    path : IsPath meaning stands_after c.pipeline
    placed : is_placed executors c.pipeline ≡ true
    input : input_fits c.input ≡ true
    transport : IsUncalled (state c.transport)

  pub all_fit : All (IsPath meaning stands_after) pipelines → HaveSmallLanes meaning stands_after state pipelines inputs transports executors → All (λ (t : T). IsUncalled (state t)) transports
      → All (FitsLimits meaning stands_after state executors) (recorded pipelines inputs transports)
  all_fit paths small uncalled =
      let limits = within_parts pipelines inputs transports executors within in
      let Placed : PlacedView S → Type 0 = λ p. IsPath meaning stands_after p × (is_placed executors p ≡ true) in
      let are_placed : All Placed pipelines = λ k d below. (paths k d below, All-from_list_all (is_placed executors) pipelines limits.placed k d below) in
      let each = all_recorded Fits Placed (λ input. input_fits input ≡ true) (λ (t : T). IsUncalled (state t))
      (λ p input t is fit leaves. record { path = is.0; placed = is.1; input = fit; transport = leaves })
      pipelines inputs transports are_placed (All-from_list_all input_fits inputs limits.fit) uncalled in
      λ k d below.
      let c = get_or (recorded pipelines inputs transports) k d in
      let fit = each k d below in
      record {
        path = fit.path;
        placed = all_there executors c.pipeline.executors fit.placed;
        input = fit.input;
        transport = fit.transport;
        small = small within paths k d below;
      }
