-- What is true of channels that are ready to start.
use Rattle.std.proofs.Common.{◌≡◌, ℕ, suc, ◌+◌, ◌<◌, ◌≤◌, ◌^◌, List, [], ◌∷◌, length, map, slice_get, Option, Some, refl, ap, ap₂, sym, ◌∙◌, subst, arith, true}
use Rattle.std.specs.Global.{Vec}
use Rattle.std.specs.Prelude.{All}
use Rattle.std.specs.List.{AllZip, range_with_len}
use Rattle.std.specs.Option.{option_map}
use Rattle.std.proofs.lemmas.Option.{slice_get-map}
use Rattle.std.proofs.lemmas.List.{length-map}
use Rattle.pl_build.specs.declared.limits.TheConstants.{MAX_EXECUTORS, MAX_HANDLERS}
use Rattle.pl_channel.specs.Channels.{data_lanes_of}
use Rattle.pl_channel.specs.Lanes.{world_of}
use Rattle.pl_event.specs.declared.events.Event.{Event}
use Rattle.pl_event.specs.Meaning.{Meaning}
use Rattle.pl_event.proofs.Lists.{All-at, All-from-at, at-index}
use Rattle.pl_event.specs.Worlds.{World}
use Rattle.pl_threads.specs.NodesViews.{OwnNodesView}
use Rattle.pl_threads.specs.Running.{ExecutorView, FinishedView, EndsAs}
use Rattle.pl_head.specs.Transports.{TransportState}
use Rattle.pl_part.specs.Parts.{ChannelPartView}
use Rattle.pl_channel.specs.Ways.{ArePlaceable}
use Rattle.pl_channel.proofs.WholeParts.{placeable, recorded-at}
use Rattle.pl_channel.specs.WholeParts.{AreWholeParts}
use Rattle.pl_world.specs.declared.limits.TheConstants.{MAX_CAPACITY, MAX_CHANNELS}
use Rattle.pl_world.specs.declared.session.Recorded.{Recorded}
use Rattle.pl_world.specs.Plans.{Plan, channel_planned}
use Rattle.pl_world.specs.PlanRules.{IsPlan, IsSmallPlan}
use Rattle.pl_exec.specs.declared.nodes.ExecutorNodes.{ExecutorNodes}
use Rattle.pl_exec.specs.ExecutorNodes.{own_view}
use Rattle.pl_exec.specs.Lanes.{AreLaid, lane_table}
use Rattle.pl_exec.specs.Opening.{LaneTable, FitAll, IsSquare, CanOpen, CanOpenAll, IsFirst}
use Rattle.pl_exec.specs.SessionWords.{AreNewlySeated, ChannelNames, SeatsView}
use Rattle.pl_exec.specs.Sharing.{AreShared, channels_on, rows_in}
use Rattle.pl_exec.specs.Telling.{ExecutorStands, plan_marks}
use Rattle.pl_exec.proofs.Fits.{IsTable, places_at}
use Rattle.pl_exec.proofs.FitsStart.{fit-all}
use Rattle.pl_exec.proofs.LaneTables.{table-square, table-length, table-open, crossing-there, entering-crosses}

-- These are the channels of a plan within the limits, placed, and before any move.
pub record AreReady {S T : Type 0} (meaning : S → Meaning) (stands_after : S → List Event → Type 0) (state : T → TransportState) (plan : Plan) (parts : List (ChannelPartView S T)) : Type 0 where
  pub recorded : List (Recorded S T)
  pub planned : plan.channels ≡ map (channel_planned meaning state) recorded
  pub placed : AreWholeParts meaning stands_after state recorded parts
  pub ruled : IsPlan plan
  pub small : IsSmallPlan plan
  pub channels : length recorded ≤ MAX_CHANNELS
  pub executors : plan.executors ≤ MAX_EXECUTORS
  pub capacity : plan.capacity ≤ MAX_CAPACITY

module _ {S T : Type 0} (meaning : S → Meaning) (stands_after : S → List Event → Type 0) (state : T → TransportState) (plan : Plan) (parts : List (ChannelPartView S T)) (ready : AreReady meaning stands_after state plan parts) where
  pub ready-count : length parts ≡ length plan.channels
  ready-count = ready.placed.count ∙ sym (length-map ready.recorded (channel_planned meaning state)) ∙ sym (ap length ready.planned)

  pub ready-placeable : ArePlaceable parts
  ready-placeable = placeable meaning stands_after state plan ready.recorded ready.planned parts ready.placed ready.small

  pub ready-laid : AreLaid parts
  ready-laid = record {
    channels = let size = ready.placed.count in let few = ready.channels in omega (arith, size, few);
    hops = ready-placeable.hops;
    few = All-from-at (λ (p : ChannelPartView S T). length p.path.executors ≤ MAX_HANDLERS + 2) parts (λ c part at.
        let whole = (recorded-at meaning stands_after state plan ready.recorded ready.planned parts ready.placed c part at).3.whole in
        let same = ap length whole.executors_are in
        let hops = whole.hops in
        let few = whole.few in
        omega (arith, same, hops, few));
  }

-- where each is numbered by its position, the numbers are those from the first on
pub numbered-in-order : {A : Type 0} (f : A → ℕ) (xs : List A) (first : ℕ) → ((i : ℕ) (x : A) → slice_get xs i ≡ Some x → f x ≡ first + i) → map f xs ≡ range_with_len first (length xs)
numbered-in-order f [] first each = refl
numbered-in-order f (x ∷ xs) first each =
    ap₂ (λ (n : ℕ) (ns : List ℕ). n ∷ ns) (each 0 x refl ∙ omega arith) (numbered-in-order f xs (first + 1) (λ i y at. each (suc i) y at ∙ omega arith))

-- Executors with these parts, each with the number of its position, are numbered from 0 on.
pub executors-in-order : {P N : Type 0} (first : P → ExecutorView N) (executors : List P) (nodes : List N) (count : ℕ) → map (λ e. (first e).nodes) executors ≡ nodes → length nodes ≡ count
    → ((y : ℕ) (e : ExecutorView N) → slice_get (map first executors) y ≡ Some e → IsFirst y e) → map (λ e. (first e).number) executors ≡ range_with_len 0 count
executors-in-order {P = P} {N = N} first executors nodes count parts size numbered =
    numbered-in-order (λ (e : P). (first e).number) executors 0 (λ i e at. (numbered i (first e) (slice_get-map first executors i ∙ ap (option_map first) at)).numbered ∙ omega arith)
    ∙ ap (range_with_len 0) (sym (length-map executors (λ (e : P). (first e).nodes)) ∙ ap length parts ∙ size)

-- The nodes of executors that have ended are those of their numbers, in their order.
pub ended-executors : {P N : Type 0} (first : P → ExecutorView N) (view_of : N → OwnNodesView) (executors : List P) (all : List (FinishedView N)) → AllZip (λ e f. EndsAs view_of (first e).number (first e).owner f) executors all
    → map (λ f. (view_of f.nodes).executor) all ≡ map (λ e. (first e).number) executors
ended-executors first view_of [] [] h = refl
ended-executors first view_of [] (f ∷ fs) h = absurd h
ended-executors first view_of (e ∷ es) [] h = absurd h
ended-executors first view_of (e ∷ es) (f ∷ fs) h = ap₂ (λ (n : ℕ) (ns : List ℕ). n ∷ ns) h.0.at (ended-executors first view_of es fs h.1)

-- What holds of the first turn of each such executor holds of the turn 0 of each number.
pub first-turns : {P N : Type 0} (first : P → ExecutorView N) (executors : List P) (nodes : List N) (count : ℕ) (W : ℕ → ℕ → Type 0) → map (λ e. (first e).nodes) executors ≡ nodes → length nodes ≡ count
    → ((y : ℕ) (e : ExecutorView N) → slice_get (map first executors) y ≡ Some e → IsFirst y e) → All (λ e. W (first e).number (first e).turns) executors → (y : ℕ) → y < count → W y 0
first-turns {P = P} {N = N} first executors nodes count W parts size numbered told y lt =
    let long = sym (length-map executors (λ (e : P). (first e).nodes)) ∙ ap length parts ∙ size in
    let here = at-index executors y (omega (arith, long, lt)) in
    let is = numbered y (first here.0) (slice_get-map first executors y ∙ ap (option_map first) here.1) in
    subst (λ t. W y t) is.turns (subst (λ n. W n (first here.0).turns) is.numbered (All-at (λ (e : P). W (first e).number (first e).turns) executors y here.0 told here.1))

module _ {S T : Type 0} (meaning : S → Meaning) (stands_after : S → List Event → Type 0) (state : T → TransportState) (plan : Plan) (parts : List (ChannelPartView S T)) (ready : AreReady meaning stands_after state plan parts)
    (count : ℕ) (all : count ≡ plan.executors) (lanes : LaneTable) (are : lanes ≡ lane_table parts count) where
  ready-size : length lanes ≡ count
  ready-size = ap length are ∙ table-length parts count

  ready-executors : length lanes < 2 ^ 16
  ready-executors = let few = ready.executors in let size = ready-size in omega (arith, few, size, all)

  pub ready-open : (capacity : ℕ) → capacity ≡ plan.capacity → CanOpenAll capacity lanes
  ready-open capacity is =
      let few = ready.executors in
      let some = ready.ruled.capacity in
      let most = ready.capacity in
      record {
        square = subst IsSquare (sym are) (table-square parts count);
        few = ready-executors;
        each = subst (All (CanOpen capacity)) (sym are) (table-open parts (ready-laid meaning stands_after state plan parts ready) count capacity (omega (arith, few, all)) (omega (arith, some, is)) (omega (arith, most, is)));
      }

  pub table-is : IsTable parts plan.executors lanes
  table-is = subst (λ (z : ℕ × LaneTable). IsTable parts z.0 z.1) (λ i. (all i, sym are i))
      (record { size = table-length parts count; crossing = crossing-there parts count; entering = entering-crosses parts count })

  pub ready-fit : (world : World) → world ≡ world_of true plan → (words : List ChannelNames) (heads : List (Option SeatsView)) → AreNewlySeated words (map plan_marks plan.channels) heads
      → (rows : List (List ℕ)) (nodes : List (ExecutorNodes S T)) (places : List (Vec ℕ)) → rows ≡ map (channels_on parts) (range_with_len 0 count) → AreShared meaning stands_after state parts words heads rows nodes
      → rows_in places ≡ map (places_at parts count) (range_with_len 0 count) → FitAll (own_view plan meaning) (ExecutorStands world plan meaning stands_after state) lanes nodes (length (data_lanes_of parts)) places
  ready-fit world is_world words heads new rows nodes places known shared reserved =
      fit-all meaning stands_after state world plan is_world ready.recorded ready.planned parts ready.placed ready.ruled ready.executors lanes table-is words heads new
      (ready-laid meaning stands_after state plan parts ready) rows nodes places (known ∙ ap (λ (n : ℕ). map (channels_on parts) (range_with_len 0 n)) all) shared (reserved ∙ ap (λ (n : ℕ). map (places_at parts n) (range_with_len 0 n)) all)
