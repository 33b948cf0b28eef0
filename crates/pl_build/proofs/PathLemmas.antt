-- The path of a pipeline: its two chains in the words of their stages' meanings, their lengths, and the executor of each hop.
use Rattle.std.proofs.Common.{◌≡◌, ℕ, suc, ◌+◌, ◌<◌, ◌≤◌, Bool, true, false, ◌&&◌, not, cond, leb, ltb, eqb, sum_by, List, [], ◌∷◌, ◌++◌, length, take, drop, map, filter, reverse, get_or, Option, None, Some, Ok, Err, sym, refl, ap, ◌∙◌, subst, arith, append-nil}
use Rattle.std.specs.Prelude.{All, count_by, position, remove, slice_get}
use Rattle.std.specs.List.{list_all, prefix_len, position_or_len}
use Rattle.std.proofs.lemmas.Bool.{ltb-true, ltb-false, leb-false, eqb-false, not-true}
use Rattle.std.proofs.lemmas.List.{length-append, length-map, length-reverse, take-append-drop, map-append}
use Rattle.std.proofs.lemmas.List.Elements.{All-map, All-filter, All-take, All-drop, All-append, All-head, All-tail, All-nil, All-cons, All-weaker, filter-append, filter_passes}
use Rattle.std.proofs.lemmas.List.Sums.{AllPass-from_list_all, sum_by-cons}
use Rattle.std.proofs.lemmas.List.Edits.{length-remove}
use Rattle.std.proofs.lemmas.List.Filters.{length-filter_both, sum_by-filter_both}
use Rattle.std.proofs.lemmas.List.Folds.{find_at}
use Rattle.std.proofs.lemmas.Option.{slice_get-get_or, slice_get_past}
use Rattle.std.proofs.lemmas.Simd.{map-map}
use Rattle.pl_event.proofs.Lists.{All-reverse, sum_by-map, filter-map, map-reverse, take_while-map, list_all_push, position_or_len-map}
use Rattle.pl_build.proofs.Lists.{take_while_push, take_while_all, position_or_len-filter, first_within}
use Rattle.pl_event.specs.declared.events.Event.{Event}
use Rattle.pl_event.specs.declared.stages.Direction.{Direction}
use Rattle.pl_event.specs.declared.stages.Direction.TheVariants.{Inbound, Outbound, Turn}
use Rattle.pl_event.specs.Meaning.{Meaning}
use Rattle.pl_event.specs.Paths as path
use Rattle.pl_build.specs.Pipelines.{PipelineBuilderView, is_named, index_of, stage_of, meanings, is_inbound, is_outbound_stage, is_turn_stage, inbound_handlers, outbound_handlers, stages_before_turn, hop_of_turn}
use Rattle.pl_build.specs.Paths.{IsPipeline, IsPath}
use Rattle.pl_build.specs.Executors.{GroupsView, IsGrouping, HasPlaced, sizes_of, executor_after, hop_executors}
use Rattle.pl_build.specs.Counts.{executor_now}
use Rattle.pl_build.specs.Refusals.{is_known, building_fault, executor_count}
use Rattle.pl_build.proofs.GroupLemmas.{true_from_none, rest_from_none, executor_now-is, executor_now-within}
use Rattle.pl_build.specs.declared.named_stages.NamedStage.{NamedStage}
use Rattle.pl_build.specs.declared.faults.BuildFault.TheVariants.{NoSuchName, NoSuchGroup, NoTurn, TwoTurns}

-- ---- the index of a name

known_index : {X : Type 0} (p : X → Bool) (xs : List X) (i : ℕ) (b : Bool) → ltb (position_or_len p xs) (length xs) ≡ b → cond b (Some (position_or_len p xs)) None ≡ Some i → (position_or_len p xs ≡ i) × (position_or_len p xs < length xs)
known_index p xs i true e h = (cc, ltb-true (position_or_len p xs) (length xs) e)
known_index p xs i false e h = cc

unknown_index : {X : Type 0} (p : X → Bool) (xs : List X) (b : Bool) → ltb (position_or_len p xs) (length xs) ≡ b → cond b (Some (position_or_len p xs)) None ≡ None → length xs ≤ position_or_len p xs
unknown_index p xs true e h = cc
unknown_index p xs false e h = ltb-false (position_or_len p xs) (length xs) e

pub position_is : {X : Type 0} (p : X → Bool) (xs : List X) (i : ℕ) → position p xs ≡ Some i → (position_or_len p xs ≡ i) × (position_or_len p xs < length xs)
position_is p xs i h = known_index p xs i (ltb (position_or_len p xs) (length xs)) refl h

pub position_none : {X : Type 0} (p : X → Bool) (xs : List X) → position p xs ≡ None → length xs ≤ position_or_len p xs
position_none p xs h = unknown_index p xs (ltb (position_or_len p xs) (length xs)) refl h

pub stage_of-unknown : {S : Type 0} (name : List ℕ) (handlers : List (NamedStage S)) → index_of name handlers ≡ None → stage_of name handlers ≡ Err NoSuchName
stage_of-unknown {S = S} name handlers none =
    let e = find_at (is_named name) handlers ∙ slice_get_past handlers (position_or_len (is_named name) handlers) (position_none (is_named name) handlers none) in rw e refl

pub stage_of-known : {S : Type 0} (name : List ℕ) (handlers : List (NamedStage S)) (i : ℕ) (handler : NamedStage S) → index_of name handlers ≡ Some i → handler ≡ get_or handlers i handler → stage_of name handlers ≡ Ok handler.stage
stage_of-known {S = S} name handlers i handler known is =
    let at = position_is (is_named name) handlers i known in
    let e = find_at (is_named name) handlers ∙ ap (λ (n : ℕ). slice_get handlers n) at.0 ∙ slice_get-get_or handlers i handler (omega (arith, at.0, at.1)) ∙ ap (λ (h : NamedStage S). Some h) (sym is) in rw e refl

pub index_within : {S : Type 0} (name : List ℕ) (handlers items : List (NamedStage S)) (i : ℕ) → items ≡ handlers → index_of name handlers ≡ Some i → i < length items
index_within {S = S} name handlers items i same known =
    let at = position_is (is_named name) handlers i known in
    omega (arith, at.0, at.1, ap (λ (hs : List (NamedStage S)). length hs) same)

pub stage_of-removed : {S : Type 0} (name : List ℕ) (handlers items : List (NamedStage S)) (i : ℕ) (handler : NamedStage S) → items ≡ handlers → index_of name handlers ≡ Some i → handler ≡ get_or items i handler → stage_of name handlers ≡ Ok handler.stage
stage_of-removed {S = S} name handlers items i handler same known is =
    stage_of-known name handlers i handler known (is ∙ ap (λ (hs : List (NamedStage S)). get_or hs i handler) same)

pub IsPipeline-remove : {S : Type 0} (stands_after : S → List Event → Type 0) (handlers : List (NamedStage S)) (low high index : ℕ) → index < length handlers → IsPipeline stands_after (record { handlers = handlers; low = low; high = high }) → IsPipeline stands_after (record { handlers = remove handlers index; low = low; high = high })
IsPipeline-remove stands_after handlers low high index within h = record {
  stages = All-append (λ handler. stands_after handler.stage []) (take index handlers) (drop (suc index) handlers) (All-take (λ handler. stands_after handler.stage []) index handlers h.stages) (All-drop (λ handler. stands_after handler.stage []) (suc index) handlers h.stages);
  within = omega (arith, length-remove handlers index within, h.within);
  order = h.order;
  high = h.high;
}

-- ---- the chains

pub inbound-meanings : {S : Type 0} (meaning : S → Meaning) (handlers : List (NamedStage S)) → map meaning (map (λ handler. handler.stage) (inbound_handlers meaning handlers)) ≡ path.inbound_chain (meanings meaning handlers)
inbound-meanings {S = S} meaning handlers =
    map-map meaning (λ (h : NamedStage S). h.stage) (inbound_handlers meaning handlers)
    ∙ sym (filter-map (λ (m : Meaning). not (path.is_outbound m.direction)) (λ (h : NamedStage S). meaning h.stage) handlers)

pub outbound-meanings : {S : Type 0} (meaning : S → Meaning) (handlers : List (NamedStage S)) → map meaning (map (λ handler. handler.stage) (outbound_handlers meaning handlers)) ≡ path.outbound_chain (meanings meaning handlers)
outbound-meanings {S = S} meaning handlers =
    let kept : List (NamedStage S) = filter (is_outbound_stage meaning) (stages_before_turn meaning handlers) in
    let front = take_while-map (λ (m : Meaning). not (path.is_turn m.direction)) (λ (h : NamedStage S). meaning h.stage) handlers in
    let chosen = ap (λ (ms : List Meaning). filter (λ m. path.is_outbound m.direction) ms) front ∙ filter-map (λ (m : Meaning). path.is_outbound m.direction) (λ (h : NamedStage S). meaning h.stage) (stages_before_turn meaning handlers) in
    map-map meaning (λ (h : NamedStage S). h.stage) (reverse kept) ∙ map-reverse (λ (h : NamedStage S). meaning h.stage) kept ∙ sym (ap (λ (ms : List Meaning). reverse ms) chosen)

-- each handler stands in one chain at most
pub chains_within : {S : Type 0} (meaning : S → Meaning) (handlers : List (NamedStage S)) → length (inbound_handlers meaning handlers) + length (outbound_handlers meaning handlers) ≤ length handlers
chains_within {S = S} meaning handlers =
    let n : ℕ = prefix_len (λ (h : NamedStage S). not (is_turn_stage meaning h)) handlers in
    let both = length-filter_both (is_outbound_stage meaning) (is_inbound meaning) (λ (h : NamedStage S). refl) handlers in
    let cut = ap (λ (hs : List (NamedStage S)). length (filter (is_outbound_stage meaning) hs)) (take-append-drop n handlers) in
    let parts = ap (λ (hs : List (NamedStage S)). length hs) (filter-append (is_outbound_stage meaning) (take n handlers) (drop n handlers)) in
    let sum = length-append (filter (is_outbound_stage meaning) (take n handlers)) (filter (is_outbound_stage meaning) (drop n handlers)) in
    let turned = length-reverse (filter (is_outbound_stage meaning) (take n handlers)) in
    omega (arith, both, cut, parts, sum, turned)

-- no outbound handler is the turn, so the inbound ones have all turns
abbrev turn_count : Direction → ℕ
turn_count d = cond (path.is_turn d) 1 0

no_turn : (d : Direction) → path.is_outbound d ≡ true → turn_count d ≡ 0
no_turn Inbound e = refl
no_turn Outbound e = refl
no_turn Turn e = cc

sum_by-zero : {X : Type 0} (f : X → ℕ) (xs : List X) → All (λ x. f x ≡ 0) xs → sum_by f xs ≡ 0
sum_by-zero f [] h = refl
sum_by-zero {X = X} f (x ∷ xs) h =
    omega (arith, sum_by-cons f x xs, All-head (λ (x : X). f x ≡ 0) x xs h, sum_by-zero f xs (All-tail (λ (x : X). f x ≡ 0) x xs h))

turns_inbound : {S : Type 0} (meaning : S → Meaning) (handlers : List (NamedStage S)) → count_by (λ stage. path.is_turn (meaning stage).direction) (map (λ handler. handler.stage) (inbound_handlers meaning handlers)) ≡ count_by (is_turn_stage meaning) handlers
turns_inbound {S = S} meaning handlers =
    let one : NamedStage S → ℕ = λ h. cond (is_turn_stage meaning h) 1 0 in
    let both = sum_by-filter_both (is_outbound_stage meaning) (is_inbound meaning) (λ (h : NamedStage S). refl) one handlers in
    let none = sum_by-zero one (filter (is_outbound_stage meaning) handlers) (All-weaker (λ (h : NamedStage S). is_outbound_stage meaning h ≡ true) (λ (h : NamedStage S). one h ≡ 0) (λ h e. no_turn (meaning h.stage).direction e) (filter (is_outbound_stage meaning) handlers) (filter_passes (is_outbound_stage meaning) handlers)) in
    let stages = sum_by-map (λ (s : S). cond (path.is_turn (meaning s).direction) 1 0) (λ (h : NamedStage S). h.stage) (inbound_handlers meaning handlers) in
    omega (arith, both, none, stages)

-- a pipeline that can be built has just one turn
turns_from : (n : ℕ) (b v : Bool) → eqb n 0 ≡ b → leb 2 n ≡ v → cond b (Some NoTurn) (cond v (Some TwoTurns) None) ≡ None → n ≡ 1
turns_from n true v e f h = cc
turns_from n false true e f h = cc
turns_from n false false e f h =
    let some = eqb-false n 0 e in
    omega (arith, some, leb-false 2 n f)

pub one_turn : {S : Type 0} (meaning : S → Meaning) (sizes : List (List ℕ × ℕ)) (handlers : List (NamedStage S)) → building_fault meaning sizes handlers ≡ None → count_by (is_turn_stage meaning) handlers ≡ 1
one_turn {S = S} meaning sizes handlers none =
    let n = count_by (is_turn_stage meaning) handlers in
    turns_from n (eqb n 0) (leb 2 n) refl refl (rest_from_none (list_all (λ (x : NamedStage S). is_known sizes x.group) handlers) NoSuchGroup (cond (eqb n 0) (Some NoTurn) (cond (leb 2 n) (Some TwoTurns) None)) none)

pub IsPath-split : {S : Type 0} (meaning : S → Meaning) (stands_after : S → List Event → Type 0) (pipeline : PipelineBuilderView S) (inbound outbound : List S) (executors : List ℕ) → IsPipeline stands_after pipeline → count_by (is_turn_stage meaning) pipeline.handlers ≡ 1 → inbound ≡ map (λ handler. handler.stage) (inbound_handlers meaning pipeline.handlers) → outbound ≡ map (λ handler. handler.stage) (outbound_handlers meaning pipeline.handlers)
    → length executors ≡ length (inbound_handlers meaning pipeline.handlers) + length (outbound_handlers meaning pipeline.handlers) + 2 → IsPath meaning stands_after (record { inbound = inbound; outbound = outbound; executors = executors; low = pipeline.low; high = pipeline.high })
IsPath-split {S = S} meaning stands_after pipeline inbound outbound executors h one i o hops =
    let P : NamedStage S → Type 0 = λ handler. stands_after handler.stage [] in
    let Q : List S → Type 0 = λ stages. All (λ stage. stands_after stage []) stages in
    let n : ℕ = prefix_len (λ (h : NamedStage S). not (is_turn_stage meaning h)) pipeline.handlers in
    let in_length = ap (λ (xs : List S). length xs) i ∙ length-map (inbound_handlers meaning pipeline.handlers) (λ (h : NamedStage S). h.stage) in
    let out_length = ap (λ (xs : List S). length xs) o ∙ length-map (outbound_handlers meaning pipeline.handlers) (λ (h : NamedStage S). h.stage) in
    let chains = chains_within meaning pipeline.handlers in
    record {
      inbound = subst Q (sym i) (All-map (λ stage. stands_after stage []) (λ (h : NamedStage S). h.stage) (inbound_handlers meaning pipeline.handlers) (All-filter (is_inbound meaning) P pipeline.handlers h.stages));
      outbound = subst Q (sym o) (All-map (λ stage. stands_after stage []) (λ (h : NamedStage S). h.stage) (outbound_handlers meaning pipeline.handlers) (All-reverse P (filter (is_outbound_stage meaning) (take n pipeline.handlers)) (All-filter (is_outbound_stage meaning) P (take n pipeline.handlers) (All-take P n pipeline.handlers h.stages))));
      upwards = (let Up : List S → Type 0 = λ stages. All (λ stage. path.is_outbound (meaning stage).direction ≡ false) stages in
          subst Up (sym i) (All-map (λ stage. path.is_outbound (meaning stage).direction ≡ false) (λ (h : NamedStage S). h.stage) (inbound_handlers meaning pipeline.handlers) (All-weaker (λ (h : NamedStage S). is_inbound meaning h ≡ true) (λ (h : NamedStage S). is_outbound_stage meaning h ≡ false) (λ h e. not-true (is_outbound_stage meaning h) e) (inbound_handlers meaning pipeline.handlers) (filter_passes (is_inbound meaning) pipeline.handlers))));
      downwards = (let Down : List S → Type 0 = λ stages. All (λ stage. path.is_outbound (meaning stage).direction ≡ true) stages in
          subst Down (sym o) (All-map (λ stage. path.is_outbound (meaning stage).direction ≡ true) (λ (h : NamedStage S). h.stage) (outbound_handlers meaning pipeline.handlers) (All-reverse (λ (h : NamedStage S). is_outbound_stage meaning h ≡ true) (filter (is_outbound_stage meaning) (take n pipeline.handlers)) (filter_passes (is_outbound_stage meaning) (take n pipeline.handlers)))));
      turn = ap (λ (xs : List S). count_by (λ stage. path.is_turn (meaning stage).direction) xs) i ∙ turns_inbound meaning pipeline.handlers ∙ one;
      within = omega (arith, in_length, out_length, chains, h.within);
      hops = omega (arith, in_length, out_length, hops);
      order = h.order;
      high = h.high;
    }

-- ---- executors

map_agree : {X Y : Type 0} (f g : X → Y) (xs : List X) → All (λ x. f x ≡ g x) xs → map f xs ≡ map g xs
map_agree f g [] h = refl
map_agree {X = X} {Y = Y} f g (x ∷ xs) h =
    ap (λ (y : Y). y ∷ map f xs) (All-head (λ (x : X). f x ≡ g x) x xs h) ∙ ap (λ (ys : List Y). g x ∷ ys) (map_agree f g xs (All-tail (λ (x : X). f x ≡ g x) x xs h))

pub hop_executors_agree : {S : Type 0} (f g : Option (List ℕ) → ℕ) (meaning : S → Meaning) (handlers : List (NamedStage S)) → f None ≡ g None → All (λ handler. f handler.group ≡ g handler.group) handlers → hop_executors f meaning handlers ≡ hop_executors g meaning handlers
hop_executors_agree {S = S} f g meaning handlers home each =
    let P : NamedStage S → Type 0 = λ handler. f handler.group ≡ g handler.group in
    let n : ℕ = prefix_len (λ (h : NamedStage S). not (is_turn_stage meaning h)) handlers in
    let fronts = map_agree (λ (h : NamedStage S). f h.group) (λ (h : NamedStage S). g h.group) (inbound_handlers meaning handlers) (All-filter (is_inbound meaning) P handlers each) in
    let backs = map_agree (λ (h : NamedStage S). f h.group) (λ (h : NamedStage S). g h.group) (outbound_handlers meaning handlers) (All-reverse P (filter (is_outbound_stage meaning) (take n handlers)) (All-filter (is_outbound_stage meaning) P (take n handlers) (All-take P n handlers each))) in
    cc

pub executors-placed : {S : Type 0} (meaning : S → Meaning) (g : GroupsView) (earlier : List (List (Option (List ℕ)))) (handlers : List (NamedStage S)) → HasPlaced g earlier → building_fault meaning (sizes_of g) handlers ≡ None → hop_executors (executor_now g) meaning handlers ≡ hop_executors (executor_after g.loops (sizes_of g) earlier) meaning handlers
executors-placed {S = S} meaning g earlier handlers h none =
    let all_known = true_from_none (list_all (λ (x : NamedStage S). is_known (sizes_of g) x.group) handlers) NoSuchGroup _ none in
    let known = AllPass-from_list_all (λ (x : NamedStage S). is_known (sizes_of g) x.group) handlers all_known in
    let each = All-weaker (λ (x : NamedStage S). is_known (sizes_of g) x.group ≡ true) (λ (x : NamedStage S). executor_now g x.group ≡ executor_after g.loops (sizes_of g) earlier x.group) (λ x k. executor_now-is g earlier x.group h k) handlers known in
    hop_executors_agree (executor_now g) (executor_after g.loops (sizes_of g) earlier) meaning handlers h.loop each

pub executors-within : {S : Type 0} (meaning : S → Meaning) (g : GroupsView) (handlers : List (NamedStage S)) (executors : List ℕ) → IsGrouping g → building_fault meaning (sizes_of g) handlers ≡ None → executors ≡ hop_executors (executor_now g) meaning handlers → All (λ executor. executor < executor_count g.loops (sizes_of g)) executors
executors-within {S = S} meaning g handlers executors h none is =
    let Within : ℕ → Type 0 = λ executor. executor < executor_count g.loops (sizes_of g) in
    let AllWithin : List ℕ → Type 0 = λ xs. All Within xs in
    let P : NamedStage S → Type 0 = λ x. Within (executor_now g x.group) in
    let n : ℕ = prefix_len (λ (x : NamedStage S). not (is_turn_stage meaning x)) handlers in
    let known = AllPass-from_list_all (λ (x : NamedStage S). is_known (sizes_of g) x.group) handlers (true_from_none (list_all (λ (x : NamedStage S). is_known (sizes_of g) x.group) handlers) NoSuchGroup _ none) in
    let each = All-weaker (λ (x : NamedStage S). is_known (sizes_of g) x.group ≡ true) P (λ x k. executor_now-within g x.group h k) handlers known in
    let home = executor_now-within g None h refl in
    let fronts = All-map Within (λ (x : NamedStage S). executor_now g x.group) (inbound_handlers meaning handlers) (All-filter (is_inbound meaning) P handlers each) in
    let backs = All-map Within (λ (x : NamedStage S). executor_now g x.group) (outbound_handlers meaning handlers) (All-reverse P (filter (is_outbound_stage meaning) (take n handlers)) (All-filter (is_outbound_stage meaning) P (take n handlers) (All-take P n handlers each))) in
    let tail : List ℕ = map (λ (x : NamedStage S). executor_now g x.group) (outbound_handlers meaning handlers) ++ executor_now g None ∷ [] in
    subst AllWithin (sym is) (All-append Within (map (λ (x : NamedStage S). executor_now g x.group) (inbound_handlers meaning handlers)) (executor_now g None ∷ tail) fronts (All-cons Within (executor_now g None) tail home (All-append Within (map (λ (x : NamedStage S). executor_now g x.group) (outbound_handlers meaning handlers)) (executor_now g None ∷ []) backs (All-cons Within (executor_now g None) [] home (All-nil Within)))))

-- ---- one handler more

pub chain_push : {S : Type 0} (p : NamedStage S → Bool) (handlers more : List (NamedStage S)) → map (λ handler. handler.stage) (filter p (handlers ++ more)) ≡ map (λ handler. handler.stage) (filter p handlers) ++ map (λ handler. handler.stage) (filter p more)
chain_push {S = S} p handlers more =
    ap (λ (hs : List (NamedStage S)). map (λ h. h.stage) hs) (filter-append p handlers more) ∙ map-append (λ (h : NamedStage S). h.stage) (filter p handlers) (filter p more)

pub length-chain : {S : Type 0} (p : NamedStage S → Bool) (handlers : List (NamedStage S)) → length (map (λ handler. handler.stage) (filter p handlers)) ≤ length handlers
length-chain {S = S} p handlers =
    omega (arith, length-map (filter p handlers) (λ (h : NamedStage S). h.stage), length-filter_both p (λ (h : NamedStage S). not (p h)) (λ h. refl) handlers)

-- a chain that is made of some of the handlers so far has room for a stage more
pub chain_room : {S : Type 0} (p : NamedStage S → Bool) (kept yielded rest more handlers : List (NamedStage S)) (handler : NamedStage S) (chain : List S) (len room : ℕ) → yielded ++ rest ≡ handlers → rest ≡ handler ∷ more → chain ≡ map (λ h. h.stage) (filter p kept) → length kept ≤ length yielded → len ≡ length chain → length handlers ≤ room → len < room
chain_room {S = S} p kept yielded rest more handlers handler chain len room all next is short long fits =
    let whole = ap (λ (hs : List (NamedStage S)). length hs) all in
    let front = ap (λ (hs : List (NamedStage S)). length hs) next in
    let same = ap (λ (xs : List S). length xs) is in
    omega (arith, whole, front, same, length-append yielded rest, length-chain p kept, short, long, fits)

-- the inbound chain, with a handler more
pub inbound_step : {S : Type 0} (meaning : S → Meaning) (yielded : List (NamedStage S)) (handler : NamedStage S) (before after : List S) → after ≡ before ++ map (λ h. h.stage) (filter (is_inbound meaning) (handler ∷ [])) → before ≡ map (λ h. h.stage) (inbound_handlers meaning yielded) → after ≡ map (λ h. h.stage) (inbound_handlers meaning (yielded ++ handler ∷ []))
inbound_step {S = S} meaning yielded handler before after step is =
    step ∙ ap (λ (t : List S). t ++ map (λ h. h.stage) (filter (is_inbound meaning) (handler ∷ []))) is
    ∙ sym (chain_push (is_inbound meaning) yielded (handler ∷ []))

-- the outbound handlers before the turn, with a handler more
pub outbound_step : {S : Type 0} (meaning : S → Meaning) (yielded : List (NamedStage S)) (handler : NamedStage S) (b : Bool) (before after : List S) → b ≡ (list_all (λ h. not (is_turn_stage meaning h)) yielded && not (is_turn_stage meaning handler)) → after ≡ before ++ map (λ h. h.stage) (filter (is_outbound_stage meaning) (cond b (handler ∷ []) [])) → before ≡ map (λ h. h.stage) (filter (is_outbound_stage meaning) (stages_before_turn meaning yielded))
    → after ≡ map (λ h. h.stage) (filter (is_outbound_stage meaning) (stages_before_turn meaning (yielded ++ handler ∷ [])))
outbound_step {S = S} meaning yielded handler b before after flag step is =
    let more : List (NamedStage S) = cond b (handler ∷ []) [] in
    let front : stages_before_turn meaning (yielded ++ handler ∷ []) ≡ stages_before_turn meaning yielded ++ more = take_while_push (λ (h : NamedStage S). not (is_turn_stage meaning h)) yielded handler ∙ ap (λ (v : Bool). stages_before_turn meaning yielded ++ cond v (handler ∷ []) []) (sym flag) in
    let chain = ap (λ (hs : List (NamedStage S)). map (λ h. h.stage) (filter (is_outbound_stage meaning) hs)) front ∙ chain_push (is_outbound_stage meaning) (stages_before_turn meaning yielded) more in
    step ∙ ap (λ (t : List S). t ++ map (λ h. h.stage) (filter (is_outbound_stage meaning) more)) is ∙ sym chain

-- all handlers were seen, and the outbound chain is turned round
pub outbound_end : {S : Type 0} (meaning : S → Meaning) (yielded handlers : List (NamedStage S)) (before after : List S) → yielded ≡ handlers → before ≡ map (λ h. h.stage) (filter (is_outbound_stage meaning) (stages_before_turn meaning yielded)) → after ≡ reverse before → after ≡ map (λ h. h.stage) (outbound_handlers meaning handlers)
outbound_end {S = S} meaning yielded handlers before after whole is turned =
    turned ∙ ap (λ (t : List S). reverse t) (is ∙ ap (λ (hs : List (NamedStage S)). map (λ h. h.stage) (filter (is_outbound_stage meaning) (stages_before_turn meaning hs))) whole)
    ∙ sym (map-reverse (λ (h : NamedStage S). h.stage) (filter (is_outbound_stage meaning) (stages_before_turn meaning handlers)))

pub inbound_end : {S : Type 0} (meaning : S → Meaning) (yielded handlers : List (NamedStage S)) (chain : List S) → yielded ≡ handlers → chain ≡ map (λ h. h.stage) (inbound_handlers meaning yielded) → chain ≡ map (λ h. h.stage) (inbound_handlers meaning handlers)
inbound_end {S = S} meaning yielded handlers chain whole is =
    is ∙ ap (λ (hs : List (NamedStage S)). map (λ h. h.stage) (inbound_handlers meaning hs)) whole

-- ---- the hop of the turn

turns_are_inbound : (d : Direction) → path.is_turn d ≡ true → not (path.is_outbound d) ≡ true
turns_are_inbound Inbound e = refl
turns_are_inbound Outbound e = cc
turns_are_inbound Turn e = refl

-- as many inbound handlers are before the turn
pub turn_end : {S : Type 0} (meaning : S → Meaning) (yielded : List (NamedStage S)) (chain : List S) (turn : ℕ) → chain ≡ map (λ h. h.stage) (inbound_handlers meaning yielded) → turn ≡ length (filter (is_inbound meaning) (stages_before_turn meaning yielded)) → turn ≡ hop_of_turn meaning chain
turn_end {S = S} meaning yielded chain turn is counted =
    let stages = position_or_len-map (λ (s : S). path.is_turn (meaning s).direction) (λ (h : NamedStage S). h.stage) (inbound_handlers meaning yielded) in
    let first = position_or_len-filter (is_turn_stage meaning) (is_inbound meaning) yielded (λ (h : NamedStage S) e. turns_are_inbound (meaning h.stage).direction e) in
    counted ∙ sym (ap (λ (t : List S). hop_of_turn meaning t) is ∙ stages ∙ first)

-- with a handler more, where no turn has come yet, and where one has
pub turn_step : {S : Type 0} (meaning : S → Meaning) (yielded : List (NamedStage S)) (handler : NamedStage S) (b : Bool) (turn after : ℕ) (chain : List S) → b ≡ (list_all (λ h. not (is_turn_stage meaning h)) yielded && not (is_turn_stage meaning handler)) → after ≡ cond b (length chain) turn → chain ≡ map (λ h. h.stage) (inbound_handlers meaning (yielded ++ handler ∷ [])) → turn ≡ length (filter (is_inbound meaning) (stages_before_turn meaning yielded))
    → after ≡ length (filter (is_inbound meaning) (stages_before_turn meaning (yielded ++ handler ∷ [])))
turn_step {S = S} meaning yielded handler true turn after chain flag step is counted =
    let fails : NamedStage S → Bool = λ h. not (is_turn_stage meaning h) in
    let all = list_all_push fails yielded handler ∙ sym flag in
    step ∙ ap (λ (t : List S). length t) is ∙ length-map (inbound_handlers meaning (yielded ++ handler ∷ [])) (λ (h : NamedStage S). h.stage)
    ∙ sym (ap (λ (t : List (NamedStage S)). length (filter (is_inbound meaning) t)) (take_while_all fails (yielded ++ handler ∷ []) all))
turn_step {S = S} meaning yielded handler false turn after chain flag step is counted =
    let front = take_while_push (λ (h : NamedStage S). not (is_turn_stage meaning h)) yielded handler ∙ ap (λ (v : Bool). stages_before_turn meaning yielded ++ cond v (handler ∷ []) []) (sym flag) ∙ append-nil (stages_before_turn meaning yielded) in
    step ∙ counted ∙ sym (ap (λ (t : List (NamedStage S)). length (filter (is_inbound meaning) t)) front)

-- just one stage of the chain is the turn
pub turn_within : {S : Type 0} (meaning : S → Meaning) (chain : List S) → count_by (λ stage. path.is_turn (meaning stage).direction) chain ≡ 1 → hop_of_turn meaning chain < length chain
turn_within {S = S} meaning chain one =
    first_within (λ (s : S). path.is_turn (meaning s).direction) chain (omega (arith, one))
