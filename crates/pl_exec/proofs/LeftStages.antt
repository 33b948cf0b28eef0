-- The stages of channels among the nodes of executors: which of them were found, part by part and executor by executor.
use Rattle.std.proofs.Common.{◌≡◌, ◌≢◌, ℕ, zero, suc, ◌+◌, ◌<◌, ◌≤◌, Bool, true, false, List, [], ◌∷◌, length, get_or, replicate, slice_get, Option, Some, None, refl, ap, sym, subst, ◌∙◌, arith, ◌||◌, inl, inr}
use Rattle.std.specs.Prelude.{◌==◌, is_some, if◌then◌else◌}
use Rattle.std.specs.List.{AllZip, list_all}
use Rattle.std.specs.Option.{option_map, option_map_or, option_or}
use Rattle.std.proofs.lemmas.Bool.{and_parts, cond-false, ne_eqb}
use Rattle.std.proofs.lemmas.List.{get_or_past, get_or-replicate, length-map, length-replicate}
use Rattle.std.proofs.lemmas.Option.{none-some, same_Some, slice_get_within, get_or_from_slice_get}
use Rattle.pl_event.specs.declared.events.Event.{Event}
use Rattle.pl_event.specs.declared.stages.Direction.{Direction}
use Rattle.pl_event.specs.declared.stages.Direction.TheVariants as direction
use Rattle.pl_event.specs.Hops.{data_lane}
use Rattle.pl_event.specs.Meaning.{Meaning}
use Rattle.pl_event.specs.Worlds.{World, content_of}
use Rattle.pl_event.proofs.Lists.{All-at, at-index}
use Rattle.pl_context.specs.ContextViews.{ContextView, IsHop}
use Rattle.pl_context.specs.Standings.{is_over}
use Rattle.pl_context.specs.TailViews.{TailView}
use Rattle.pl_head.specs.HeadStand.{HeadView}
use Rattle.pl_head.specs.Transports.{TransportState}
use Rattle.pl_part.specs.declared.kept.KeptStage.{KeptStage}
use Rattle.pl_part.specs.LaneStages.{LaneStage}
use Rattle.pl_part.specs.Keeping.{kept_stage, kept_stages, part_stages}
use Rattle.pl_part.specs.Paths.{context_at, is_slot_over, path_over}
use Rattle.pl_part.specs.Parts.{ChannelPartView, head_hop}
use Rattle.pl_part.proofs.LaneStages.{kept-at, lane-stages}
use Rattle.pl_channel.specs.Lanes.{world_of}
use Rattle.pl_channel.specs.PlanStand.{PartKeepsPlan}
use Rattle.pl_channel.proofs.LaneContents.{content-planned, lane-within}
use Rattle.pl_world.specs.Plans.{ChannelPlan, Plan, content, planned_head_hop, tail_hop}
use Rattle.pl_world.specs.PlanRules.{IsChannelPlan, IsPlan}
use Rattle.pl_exec.specs.declared.nodes.ExecutorNodes.{ExecutorNodes}
use Rattle.pl_exec.specs.ChannelRows.{by_channel}
use Rattle.pl_exec.specs.ExecutorNodes.{AreInOrder, AreOver, IsPartOver, NodesStand, ShareStands, channel_parts}
use Rattle.pl_exec.specs.RunStages.{HasRunStages, filled_up, with_stages}
use Rattle.pl_exec.proofs.ByChannel.{by-count, slot-at}
use Rattle.pl_exec.proofs.FilledSlots.{filled_up-at, filled_up-count}
use Rattle.pl_exec.proofs.LeftEnds.{IsEnd, end-all, end-next, end-none, executor_of, placed}
use Rattle.pl_exec.proofs.PartsHere.{held-part, is-elsewhere, no-context, parts-count}

-- ---- lists

zip-from : {A B : Type 0} (R : A → B → Type 0) (xs : List A) (ys : List B) → length ys ≡ length xs
    → ((i : ℕ) (x : A) (y : B) → slice_get xs i ≡ Some x → slice_get ys i ≡ Some y → R x y) → AllZip R xs ys
zip-from R [] [] same each = tt
zip-from R [] (y ∷ ys) same each = let none : ⊥ = omega (arith, same) in elim none [ ]
zip-from R (x ∷ xs) [] same each = let none : ⊥ = omega (arith, same) in elim none [ ]
zip-from R (x ∷ xs) (y ∷ ys) same each = (each 0 x y refl refl, zip-from R xs ys (omega (arith, same)) (λ i. each (suc i)))

kept-slot : {S : Type 0} (contexts : List (Option (ContextView S))) (hop : ℕ) → get_or (kept_stages contexts) hop None ≡ option_map kept_stage (get_or contexts hop None)
kept-slot [] hop = refl
kept-slot (slot ∷ slots) zero = refl
kept-slot (slot ∷ slots) (suc hop) = kept-slot slots hop

is-kept : {S : Type 0} (slot : Option (ContextView S)) → is_some (option_map kept_stage slot) ≡ is_some slot
is-kept None = refl
is-kept (Some c) = refl

slot-over : {S : Type 0} (contexts : List (Option (ContextView S))) (hop : ℕ) (c : ContextView S) → list_all (λ (slot : Option (ContextView S)). is_slot_over slot) contexts ≡ true → get_or contexts hop None ≡ Some c
    → is_over c.standing ≡ true
slot-over [] hop c all at = absurd (none-some c at)
slot-over {S = S} (slot ∷ slots) zero c all at =
    sym (ap (λ (s : Option (ContextView S)). is_slot_over s) at) ∙ (and_parts (is_slot_over slot) (list_all (λ (s : Option (ContextView S)). is_slot_over s) slots) all).0
slot-over {S = S} (slot ∷ slots) (suc hop) c all at = slot-over slots hop c (and_parts (is_slot_over slot) (list_all (λ (s : Option (ContextView S)). is_slot_over s) slots) all).1 at

-- a stage is at no tail's hop
off-tail : (d : Direction) (hop k : ℕ) → hop ≡ k → IsHop d hop k → ⊥
off-tail direction.Inbound hop k is fits = let less = fits.0 in omega (arith, is, less)
off-tail direction.Turn hop k is fits = let less = fits.0 in omega (arith, is, less)
off-tail direction.Outbound hop k is fits = let less = fits.0 in omega (arith, is, less)

-- ---- the stages of a channel, as far as they were found

module _ {S : Type 0} (stands_after : S → List Event → Type 0) where
  -- the stage of a hop, whose context has ended or failed
  pub record IsLeftStage (p : ChannelPlan) (hop : ℕ) (k : KeptStage S) : Type 0 where
    pub stage : LaneStage stands_after (content p hop) k.standing k.stage
    pub over : is_over k.standing ≡ true

  -- They are those among the nodes of the first executors.
  pub record AreFoundStages (first : ℕ) (p : ChannelPlan) (row : List (Option (KeptStage S))) : Type 0 where
    pub each : (hop : ℕ) → hop < planned_head_hop p → hop ≢ tail_hop p → IsEnd (IsLeftStage p hop) (executor_of p hop) first (get_or row hop None)
    pub tail : get_or row (tail_hop p) None ≡ None
    pub past : (hop : ℕ) → planned_head_hop p ≤ hop → get_or row hop None ≡ None

  module _ (plan : Plan) where
    -- So are those of each channel.
    pub record AreFoundRows (first : ℕ) (rows : List (List (Option (KeptStage S)))) : Type 0 where
      pub count : length rows ≡ length plan.channels
      pub each : (c : ℕ) (p : ChannelPlan) (row : List (Option (KeptStage S))) → slice_get plan.channels c ≡ Some p → slice_get rows c ≡ Some row → AreFoundStages first p row

    -- before the first executor is looked through
    pub none-stages : (rows : List (List (Option (KeptStage S)))) → rows ≡ replicate (length plan.channels) [] → AreFoundRows 0 rows
    none-stages rows are = record {
      count = ap (λ (l : List (List (Option (KeptStage S)))). length l) are ∙ length-replicate (length plan.channels) [];
      each = λ c p row planned found.
          let within = slice_get_within plan.channels c p planned in
          let none : [] ≡ row =
          sym (get_or-replicate (length plan.channels) c [] row within) ∙ ap (λ (l : List (List (Option (KeptStage S)))). get_or l c row) (sym are) ∙ get_or_from_slice_get rows c row row found in
          subst (λ (z : List (Option (KeptStage S))). AreFoundStages 0 p z) none
          (record { each = λ hop within apart. end-none (IsLeftStage p hop) (executor_of p hop); tail = refl; past = λ hop past. refl });
    }

    -- behind the last
    pub all-stages : (rows : List (List (Option (KeptStage S)))) → IsPlan plan → AreFoundRows plan.executors rows → AllZip (HasRunStages stands_after) plan.channels rows
    all-stages rows is are = zip-from (HasRunStages stands_after) plan.channels rows are.count (λ c p row planned found.
        let left = are.each c p row planned found in
        let own = All-at (IsChannelPlan plan.executors) plan.channels c p is.channels planned in
        record {
          each = λ hop within apart.
              let e = end-all (IsLeftStage p hop) (executor_of p hop) plan.executors (get_or row hop None) (left.each hop within apart) (placed plan.executors p own hop (omega (arith, within))) in
              (e.0, e.1, e.2.stage, e.2.over);
          tail = left.tail;
          past = left.past;
        })

    -- ---- the nodes of an executor that has ended

    module _ {T : Type 0} (state : T → TransportState) (meaning : S → Meaning) (me : ℕ) (refused : Bool) where
      module _ (c : ℕ) (p : ChannelPlan) (planned : slice_get plan.channels c ≡ Some p) (part : ChannelPartView S T) (stands : ShareStands (world_of true plan) meaning stands_after state me refused c part) (keeps : PartKeepsPlan state p part) where
        abbrev own : List (Option (KeptStage S))
        own = part_stages part

        -- a stage is there just where its executor is this one
        own-there : (hop : ℕ) → hop < planned_head_hop p → hop ≢ tail_hop p → is_some (get_or own hop None) ≡ (executor_of p hop == me)
        own-there hop within apart =
            let head_at = keeps.head_at in
            let tail_at = keeps.tail_at in
            let behind : (hop == head_hop part) ≡ false = ne_eqb hop (head_hop part) (omega (arith, head_at, within)) in
            let beside : (hop == part.path.tail_hop) ≡ false = ne_eqb hop part.path.tail_hop (λ e. apart (e ∙ tail_at)) in
            ap (λ (o : Option (KeptStage S)). is_some o) (kept-slot part.path.contexts hop)
            ∙ is-kept (context_at part.path hop)
            ∙ sym (cond-false (hop == part.path.tail_hop) (is_some part.path.tail) (is_some (context_at part.path hop)) beside)
            ∙ sym (cond-false (hop == head_hop part) (is_some part.head) (if hop == part.path.tail_hop then is_some part.path.tail else is_some (context_at part.path hop)) behind)
            ∙ stands.resident.nodes hop (omega (arith, head_at, within))
            ∙ (λ i. get_or (keeps.executors i) hop 0 == me)

        -- the tail's hop has none
        own-tail : get_or own (tail_hop p) None ≡ None
        own-tail = by (get_or own (tail_hop p) None) refl
          where
            by : (o : Option (KeptStage S)) → get_or own (tail_hop p) None ≡ o → o ≡ None
            by None is = refl
            by (Some k) is =
                let at = kept-at part.path.contexts (tail_hop p) k is in
                let stands_at = (stands.holds.path.contexts (tail_hop p) at.0 at.1).1 in
                absurd (off-tail (meaning at.0.stage).direction (tail_hop p) part.path.tail_hop (sym keeps.tail_at) stands_at.fits)

        -- nor has what is behind the last
        own-past : (hop : ℕ) → planned_head_hop p ≤ hop → get_or own hop None ≡ None
        own-past hop past =
            let head_at = keeps.head_at in
            let size = length-map part.path.contexts (λ (slot : Option (ContextView S)). option_map kept_stage slot) in
            get_or_past own hop None (omega (arith, size, head_at, past))

        -- all of its nodes have ended or failed
        module _ (over : IsPartOver state part) where
          own-right : (hop : ℕ) (k : KeptStage S) → get_or own hop None ≡ Some k → IsLeftStage p hop k
          own-right hop k is =
              let lane = (lane-stages (world_of true plan) meaning stands_after state part stands.holds).each hop k is in
              let carries : content_of (world_of true plan) (data_lane c hop) ≡ Some lane.0 = ap (λ (number : ℕ). content_of (world_of true plan) (data_lane number hop)) (sym stands.channel) ∙ lane.1 in
              let carried = content-planned plan c p planned hop (lane-within plan c p planned hop lane.0 carries) in
              let at = kept-at part.path.contexts hop k is in
              let path = (and_parts (path_over part.path) (option_map_or (λ (h : HeadView T). is_over h.standing || is_some h.failure) part.head true) over.over).0 in
              let slots = (and_parts (list_all (λ (slot : Option (ContextView S)). is_slot_over slot) part.path.contexts) (option_map_or (λ (t : TailView). is_over t.standing) part.path.tail true) path).0 in
              record {
                stage = subst (λ (events : List Event). LaneStage stands_after events k.standing k.stage) (same_Some lane.0 (content p hop) (sym carries ∙ carried)) lane.2;
                over = ap (λ (x : KeptStage S). is_over x.standing) at.2 ∙ slot-over part.path.contexts hop at.0 slots at.1;
              }

          -- what was found before, with the stages that are there
          stages-next : (row : List (Option (KeptStage S))) → AreFoundStages me p row → AreFoundStages (me + 1) p (with_stages row part)
          stages-next row is =
              let head_at = keeps.head_at in
              let size = length-map part.path.contexts (λ (slot : Option (ContextView S)). option_map kept_stage slot) in
              record {
                each = λ hop within apart.
                    subst (λ (o : Option (KeptStage S)). IsEnd (IsLeftStage p hop) (executor_of p hop) (me + 1) o) (sym (filled_up-at own row hop (omega (arith, size, head_at, within))))
                    (end-next (IsLeftStage p hop) (executor_of p hop) me (get_or own hop None) (get_or row hop None) (own-right hop) (own-there hop within apart) (is.each hop within apart));
                tail = filled_up-at own row (tail_hop p) (omega (arith, size, head_at)) ∙ (λ i. option_or (own-tail i) (is.tail i));
                past = λ hop past. let count = filled_up-count own row in get_or_past (filled_up own row) hop None (omega (arith, count, size, head_at, past));
              }

        -- none is there
        stages-kept : ((hop : ℕ) → context_at part.path hop ≡ None) → (row : List (Option (KeptStage S))) → AreFoundStages me p row → AreFoundStages (me + 1) p row
        stages-kept none row is =
            let no-stage : (hop : ℕ) → get_or own hop None ≡ None = λ hop. kept-slot part.path.contexts hop ∙ ap (λ (slot : Option (ContextView S)). option_map kept_stage slot) (none hop) in
            record {
              each = λ hop within apart.
                  subst (λ (o : Option (KeptStage S)). IsEnd (IsLeftStage p hop) (executor_of p hop) (me + 1) o) (ap (λ (o : Option (KeptStage S)). option_or o (get_or row hop None)) (no-stage hop))
                  (end-next (IsLeftStage p hop) (executor_of p hop) me (get_or own hop None) (get_or row hop None) (λ k at. absurd (none-some k (sym (no-stage hop) ∙ at))) (own-there hop within apart) (is.each hop within apart));
              tail = is.tail;
              past = is.past;
            }

      module _ (nodes : ExecutorNodes S T) (order : AreInOrder (length plan.channels) nodes) where
        -- one executor more is looked through
        next-rows : (rows : List (List (Option (KeptStage S)))) → NodesStand (world_of true plan) plan meaning stands_after state me refused (channel_parts plan nodes) → AreOver state (channel_parts plan nodes)
            → AreFoundRows me rows → AreFoundRows (me + 1) (by_channel with_stages nodes.here.items nodes.parts.items rows)
        next-rows rows stand over are = record {
          count = by-count (with_stages {S = S} {T = T}) nodes.here.items rows nodes.parts.items ∙ are.count;
          each = λ c p row planned found.
              let within = slice_get_within plan.channels c p planned in
              let n = slot-at (with_stages {S = S} {T = T}) nodes.here.items rows nodes.parts.items c row found in
              let before = are.each c p n.before planned n.was in
              elim n.is [
                | inl held ↦
                    let at = held-part plan nodes order c held.0 within held.1 in
                    subst (λ (z : List (Option (KeptStage S))). AreFoundStages (me + 1) p z) (sym held.2)
                    (stages-next c p planned held.0 (stand.parts c held.0 at) (stand.keeps.each c p held.0 planned at) (over c held.0 at) n.before before)
                | inr past ↦
                    let size = order.parts in
                    let behind = past.0 in
                    let count = parts-count plan nodes order in
                    let e = is-elsewhere plan nodes order c within (omega (arith, size, behind)) in
                    let q = at-index (channel_parts plan nodes) c (omega (arith, within, count)) in
                    subst (λ (z : List (Option (KeptStage S))). AreFoundStages (me + 1) p z) (sym past.1)
                    (stages-kept c p planned q.0 (stand.parts c q.0 q.1) (stand.keeps.each c p q.0 planned q.1) (no-context c e.planned q.0 (e.part q.0 q.1)) n.before before)
              ];
        }

        -- The next executor has ended, and left these nodes.
        pub next-stages : (world : World) (k : ℕ) (rows now : List (List (Option (KeptStage S)))) → world ≡ world_of true plan → NodesStand world plan meaning stands_after state me refused (channel_parts plan nodes)
            → AreOver state (channel_parts plan nodes) → me ≡ k → AreFoundRows k rows → now ≡ by_channel with_stages nodes.here.items nodes.parts.items rows → AreFoundRows (k + 1) now
        next-stages world k rows now of stand over own are is =
            subst (λ (x : ℕ). AreFoundRows (x + 1) now) own
            (subst (λ (l : List (List (Option (KeptStage S)))). AreFoundRows (me + 1) l) (sym is)
            (next-rows rows (subst (λ (w : World). NodesStand w plan meaning stands_after state me refused (channel_parts plan nodes)) of stand) over (subst (λ (x : ℕ). AreFoundRows x rows) (sym own) are)))
