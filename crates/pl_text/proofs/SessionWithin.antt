-- Each session that is read is within the limits.
use Rattle.std.proofs.Common.{◌≡◌, ◌≤◌, ℕ, ◌&&◌, Bool, true, false, not, List, [], ◌∷◌, ◌++◌, length, Option, Some, None, Result, Ok, Err, refl, ap, subst, arith, suc}
use Rattle.std.specs.Prelude.{nat_le, if◌then◌else◌}
use Rattle.std.specs.List.{AllByRecursion, list_all}
use Rattle.std.proofs.lemmas.Bool.{and_parts, leb-true}
use Rattle.std.proofs.lemmas.List.{length-map}
use Rattle.serde_json.specs.Data.{Data}
use Rattle.serde_json.specs.Read.{read}
use Rattle.pl_event.specs.Meaning.{Meaning}
use Rattle.pl_event.specs.Paths.{inbound_chain, outbound_chain}
use Rattle.pl_build.specs.declared.named_stages.NamedStage.{NamedStage}
use Rattle.pl_build.specs.declared.faults.BuildFault.{BuildFault}
use Rattle.pl_build.specs.declared.faults.BuildFault.TheVariants as build
use Rattle.pl_build.specs.declared.limits.TheConstants.{MAX_EXECUTORS}
use Rattle.pl_build.specs.Names.{is_name}
use Rattle.pl_build.specs.Pipelines.{meanings}
use Rattle.pl_build.specs.Refusals.{unless, grouping_fault, are_groups_within, has_double, executor_count}
use Rattle.pl_build.specs.Executors.{groups_of}
use Rattle.pl_world.specs.Plans.{Plan, ChannelPlan}
use Rattle.pl_world.proofs.SmallLanes.{lanes_small}
use Rattle.pl_text.specs.declared.faults.SessionFault.TheVariants.{NotJson, Limit}
use Rattle.pl_text.specs.declared.session_text.outline.ChannelOutline.{ChannelOutline}
use Rattle.pl_text.specs.declared.session_text.outline.Outline.{Outline}
use Rattle.pl_text.specs.SessionReading.{◌>>=◌, known, built}
use Rattle.pl_text.specs.SessionLimits.{IsChannelWithin, IsWithinLimits}
use Rattle.pl_text.specs.SessionOutlines.{IsChannelOutlineWithin, IsOutlineWithin, outline_in}
use Rattle.pl_text.specs.SessionBuilding.{pipeline_built, channel_built, channels_built, group_sizes, session_built}
use Rattle.pl_text.specs.SessionTexts.{session_in, session_of}
use Rattle.pl_text.proofs.SessionLimitLaws.{bind-ok, outline_is_within}
use Rattle.pl_text.proofs.PipelineLimits.{pipeline-within, chains-length, inbound-all, outbound-all, outbound-out, meanings-all}
use Rattle.pl_stages.specs.Counts.{IsThrifty}

-- ---- channels

channel_built-within : (loops : ℕ) (sizes : List (List ℕ × ℕ)) (earlier : List (List (Option (List ℕ)))) (outline : ChannelOutline) (handlers : List (NamedStage Meaning))
    → IsChannelOutlineWithin outline → pipeline_built sizes outline ≡ Ok handlers → IsChannelWithin (channel_built loops sizes earlier outline handlers)
channel_built-within loops sizes earlier outline handlers given h =
    let within = pipeline-within sizes outline handlers given.edits h in
    let ms : List Meaning = meanings (λ m. m) handlers in
    let all = meanings-all handlers within.0 in
    let count : length ms ≡ length handlers = length-map handlers (λ (h : NamedStage Meaning). h.stage) in
    record {
      handlers_at_most = omega (arith, chains-length ms, count, within.0.at_most);
      order = within.1;
      high_at_most = within.2;
      window = (given.window_at_least, given.window_at_most);
      fail_at = given.fail_at;
      bursts = given.bursts;
      abort_after = given.abort_after;
      lanes = λ hop below. lanes_small (inbound_chain ms) (outbound_chain ms) outline.bursts (inbound-all IsThrifty ms all) (outbound-all IsThrifty ms all) (outbound-out ms) given.bursts hop;
    }

pub channels_built-within : (loops : ℕ) (sizes : List (List ℕ × ℕ)) (earlier : List (List (Option (List ℕ)))) (outlines : List ChannelOutline) (plans : List ChannelPlan)
    → AllByRecursion IsChannelOutlineWithin outlines → channels_built loops sizes earlier outlines ≡ Ok plans → AllByRecursion IsChannelWithin plans × (length plans ≡ length outlines)
channels_built-within loops sizes earlier [] plans given h =
    let e : [] ≡ plans = cc in
    subst (λ (ps : List ChannelPlan). AllByRecursion IsChannelWithin ps × (length ps ≡ 0)) e (tt, refl)
channels_built-within loops sizes earlier (outline ∷ outlines) plans given h =
    let first = bind-ok (pipeline_built sizes outline) _ plans h in
    let others = bind-ok (channels_built loops sizes (earlier ++ groups_of first.0 ∷ []) outlines) _ plans first.2 in
    let rest = channels_built-within loops sizes (earlier ++ groups_of first.0 ∷ []) outlines others.0 given.1 others.1 in
    let e : channel_built loops sizes earlier outline first.0 ∷ others.0 ≡ plans = cc in
    subst (λ (ps : List ChannelPlan). AllByRecursion IsChannelWithin ps × (length ps ≡ length (outline ∷ outlines))) e
    ((channel_built-within loops sizes earlier outline first.0 given.0 first.1, rest.0), ap suc rest.1)

-- ---- executors

allowed : (o : Option BuildFault) (u : Unit {0}) → unless o ≡ Ok u → o ≡ None
allowed None u e = refl
allowed (Some f) u e = cc

within_by : (within double : Bool) → (if not within then Some build.Limit else if double then Some build.DuplicateName else None) ≡ None → within ≡ true
within_by true double e = refl
within_by false double e = cc

executors_within : (loops : ℕ) (sizes : List (List ℕ × ℕ)) → grouping_fault loops sizes ≡ None → (1 ≤ executor_count loops sizes) × (executor_count loops sizes ≤ MAX_EXECUTORS)
executors_within loops sizes e =
    let all = within_by (are_groups_within loops sizes) (has_double sizes) e in
    let parts = and_parts (nat_le 1 loops && list_all (λ (g : List ℕ × ℕ). is_name g.0 && nat_le 1 g.1) sizes) (nat_le (executor_count loops sizes) MAX_EXECUTORS) all in
    let fronts = and_parts (nat_le 1 loops) (list_all (λ (g : List ℕ × ℕ). is_name g.0 && nat_le 1 g.1) sizes) parts.0 in
    let some = leb-true 1 loops fronts.0 in
    let few = leb-true (executor_count loops sizes) MAX_EXECUTORS parts.1 in
    (omega (arith, some), omega (arith, few))

-- ---- the session

session_built-within : (outline : Outline) (plan : Plan) → IsOutlineWithin outline → session_built outline ≡ Ok plan → IsWithinLimits plan
unfolding session_built
session_built-within outline plan given h =
    let sizes = group_sizes outline.groups in
    let groups = bind-ok (unless (grouping_fault outline.loops sizes)) _ plan h in
    let channels = bind-ok (channels_built outline.loops sizes [] outline.channels) _ plan groups.2 in
    let all = channels_built-within outline.loops sizes [] outline.channels channels.0 given.each_channel channels.1 in
    let count = executors_within outline.loops sizes (allowed (grouping_fault outline.loops sizes) groups.0 groups.1) in
    let is : record { capacity = outline.capacity; executors = executor_count outline.loops sizes; channels = channels.0 } ≡ plan = cc in
    subst IsWithinLimits is (record {
      capacity_at_least = given.capacity_at_least;
      capacity_at_most = given.capacity_at_most;
      executors_at_least = count.0;
      executors_at_most = count.1;
      channels_at_most = omega (arith, all.1, given.channels_at_most);
      each_channel = all.0;
    })

-- ---- the text

built-ok : {A : Type 0} (r : Result A BuildFault) (x : A) → built r ≡ Ok x → r ≡ Ok x
built-ok (Ok y) x h = cc
built-ok (Err e) x h = cc

session_in-within : (d : Data) (plan : Plan) → session_in d ≡ Ok plan → IsWithinLimits plan
unfolding session_in
session_in-within d plan h =
    let outline = bind-ok (outline_in d) _ plan h in
    session_built-within outline.0 plan (outline_is_within d outline.0 outline.1) (built-ok (session_built outline.0) plan outline.2)

unless_err : {A F : Type 0} (test : Bool) (e : F) (r : Result A F) (x : A) → (if test then Err e else r) ≡ Ok x → r ≡ Ok x
unless_err true e r x h = cc
unless_err false e r x h = h

pub session_is_within : (text : List ℕ) (plan : Plan) → session_of text ≡ Ok plan → IsWithinLimits plan
unfolding session_of
session_is_within text plan h =
    let value = bind-ok (known NotJson (read text)) session_in plan (unless_err _ Limit (known NotJson (read text) >>= session_in) plan h) in
    session_in-within value.0 plan value.2
