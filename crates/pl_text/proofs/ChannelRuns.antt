-- Channels built one after the other, over the same groups.
use Rattle.std.proofs.Common.{◌≡◌, ℕ, List, [], ◌∷◌, ◌++◌, map, Option, Result, Ok, Err, sym, refl, ap, subst, ◌∙◌, append_assoc}
use Rattle.std.specs.List.{AllByRecursion}
use Rattle.std.proofs.lemmas.List.{map-append, append-nil}
use Rattle.pl_event.specs.Meaning.{Meaning}
use Rattle.pl_build.specs.declared.named_stages.NamedStage.{NamedStage}
use Rattle.pl_build.specs.declared.faults.BuildFault.{BuildFault}
use Rattle.pl_build.specs.Executors.{GroupsView, HasPlaced, sizes_of, groups_of}
use Rattle.pl_head.specs.Transports.{TransportState}
use Rattle.pl_world.specs.declared.session.Recorded.{Recorded}
use Rattle.pl_world.specs.Plans.{ChannelPlan, channel_planned}
use Rattle.pl_text.specs.declared.session_text.outline.ChannelOutline.{ChannelOutline}
use Rattle.pl_text.specs.SessionReading.{◌>>=◌}
use Rattle.pl_text.specs.SessionOutlines.{IsChannelOutlineWithin}
use Rattle.pl_text.specs.SessionBuilding.{pipeline_built, channel_built, channels_built, IsChannelBuilt}

-- what a channel's building leaves to the others
abbrev onto : List ChannelPlan → Result (List ChannelPlan) BuildFault → Result (List ChannelPlan) BuildFault
onto plans more = more >>= λ ps. Ok (plans ++ ps)

-- The groups have placed channels, and those that are left, built after them, complete these plans to the whole.
pub record IsUnderWay (groups : GroupsView) (plans : List ChannelPlan) (left : List ChannelOutline) (whole : Result (List ChannelPlan) BuildFault) : Type 0 where
  pub earlier : List (List (Option (List ℕ)))
  pub placed : HasPlaced groups earlier
  pub whole_is : whole ≡ onto plans (channels_built groups.loops (sizes_of groups) earlier left)

alone : (r : Result (List ChannelPlan) BuildFault) → r ≡ onto [] r
alone (Ok ps) = refl
alone (Err e) = refl

pub begins : (groups : GroupsView) (plans : List ChannelPlan) (channels left : List ChannelOutline) → plans ≡ [] → left ≡ channels → HasPlaced groups [] → IsUnderWay groups plans left (channels_built groups.loops (sizes_of groups) [] channels)
begins groups plans channels left none all unused =
    let begun : IsUnderWay groups [] channels (channels_built groups.loops (sizes_of groups) [] channels) = record { earlier = []; placed = unused; whole_is = alone (channels_built groups.loops (sizes_of groups) [] channels) } in
    subst (λ (ps : List ChannelPlan). IsUnderWay groups ps left (channels_built groups.loops (sizes_of groups) [] channels)) (sym none)
    (subst (λ (cs : List ChannelOutline). IsUnderWay groups [] cs (channels_built groups.loops (sizes_of groups) [] channels)) (sym all) begun)

regroup : (plans : List ChannelPlan) (p : ChannelPlan) (r : Result (List ChannelPlan) BuildFault) → onto plans (r >>= λ ps. Ok (p ∷ ps)) ≡ onto (plans ++ p ∷ []) r
regroup plans p (Ok ps) = ap (λ (t : List ChannelPlan). Ok t) (sym (append_assoc plans (p ∷ []) ps))
regroup plans p (Err e) = refl

-- one channel more
pub goes_on : (before after : GroupsView) (plans : List ChannelPlan) (channel : ChannelOutline) (left : List ChannelOutline) (plan : ChannelPlan) (whole : Result (List ChannelPlan) BuildFault)
    → (after.loops ≡ before.loops) × (sizes_of after ≡ sizes_of before) → IsChannelBuilt before after channel plan → IsUnderWay before plans (channel ∷ left) whole → IsUnderWay after (plans ++ plan ∷ []) left whole
goes_on before after plans channel left plan whole same built so_far =
    let earlier = so_far.earlier ++ groups_of built.handlers ∷ [] in
    let rest = λ (loops : ℕ) (sizes : List (List ℕ × ℕ)). channels_built loops sizes earlier left in
    record {
      earlier = earlier;
      placed = built.counted so_far.earlier so_far.placed;
      whole_is = so_far.whole_is
          ∙ ap (λ (r : Result (List (NamedStage Meaning)) BuildFault). onto plans (r >>= λ handlers. channels_built before.loops (sizes_of before) (so_far.earlier ++ groups_of handlers ∷ []) left >>= λ ps. Ok (channel_built before.loops (sizes_of before) so_far.earlier channel handlers ∷ ps))) built.built
          ∙ ap (λ (p : ChannelPlan). onto plans (rest before.loops (sizes_of before) >>= λ ps. Ok (p ∷ ps))) (sym (built.placed so_far.earlier so_far.placed))
          ∙ regroup plans plan (rest before.loops (sizes_of before))
          ∙ ap (λ (n : ℕ). onto (plans ++ plan ∷ []) (rest n (sizes_of before))) (sym same.0)
          ∙ ap (λ (sizes : List (List ℕ × ℕ)). onto (plans ++ plan ∷ []) (rest after.loops sizes)) (sym same.1);
    }

-- the first refusal is the answer
pub stops : (groups : GroupsView) (plans : List ChannelPlan) (channel : ChannelOutline) (was left : List ChannelOutline) (whole : Result (List ChannelPlan) BuildFault) (f : BuildFault)
    → was ≡ channel ∷ left → pipeline_built (sizes_of groups) channel ≡ Err f → IsUnderWay groups plans was whole → whole ≡ Err f
stops groups plans channel was left whole f next refused so_far =
    so_far.whole_is ∙ ap (λ (cs : List ChannelOutline). onto plans (channels_built groups.loops (sizes_of groups) so_far.earlier cs)) next
    ∙ ap (λ (r : Result (List (NamedStage Meaning)) BuildFault). onto plans (r >>= λ handlers. channels_built groups.loops (sizes_of groups) (so_far.earlier ++ groups_of handlers ∷ []) left >>= λ ps. Ok (channel_built groups.loops (sizes_of groups) so_far.earlier channel handlers ∷ ps))) refused

pub ends : (groups : GroupsView) (plans : List ChannelPlan) (left : List ChannelOutline) (whole : Result (List ChannelPlan) BuildFault) → left ≡ [] → IsUnderWay groups plans left whole → whole ≡ Ok plans
ends groups plans left whole none so_far =
    so_far.whole_is ∙ ap (λ (cs : List ChannelOutline). onto plans (channels_built groups.loops (sizes_of groups) so_far.earlier cs)) none
    ∙ ap (λ (ps : List ChannelPlan). Ok ps) (append-nil plans)

-- the same of recorded channels that are pushed one after another
pub pushed : {S T : Type 0} (meaning : S → Meaning) (state : T → TransportState) (before after : GroupsView) (old new : List (Recorded S T)) (channel : ChannelOutline) (was left : List ChannelOutline) (made : Recorded S T) (whole : Result (List ChannelPlan) BuildFault)
    → (after.loops ≡ before.loops) × (sizes_of after ≡ sizes_of before) → IsChannelBuilt before after channel (channel_planned meaning state made) → was ≡ channel ∷ left → new ≡ old ++ made ∷ []
    → IsUnderWay before (map (channel_planned meaning state) old) was whole → IsUnderWay after (map (channel_planned meaning state) new) left whole
pushed meaning state before after old new channel was left made whole same built next push so_far =
    let plans : map (channel_planned meaning state) new ≡ map (channel_planned meaning state) old ++ channel_planned meaning state made ∷ [] = ap (map (channel_planned meaning state)) push ∙ map-append (channel_planned meaning state) old (made ∷ []) in
    subst (λ (ps : List ChannelPlan). IsUnderWay after ps left whole) (sym plans)
    (goes_on before after (map (channel_planned meaning state) old) channel left (channel_planned meaning state made) whole same built
    (subst (λ (cs : List ChannelOutline). IsUnderWay before (map (channel_planned meaning state) old) cs whole) next so_far))

pub all_first : (channel : ChannelOutline) (was left : List ChannelOutline) → was ≡ channel ∷ left → AllByRecursion IsChannelOutlineWithin was → IsChannelOutlineWithin channel × AllByRecursion IsChannelOutlineWithin left
all_first channel was left next all = subst (AllByRecursion IsChannelOutlineWithin) next all
