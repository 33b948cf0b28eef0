use Rattle.std.proofs.Common.{◌≡◌, ℕ, List, [], ◌∷◌, Ok, refl, sym, ap, ap₂, subst, map, ◌∙◌, arith}
use Rattle.std.specs.Prelude.{All}
use Rattle.std.specs.List.{AllByRecursion}
use Rattle.std.specs.Vec.Iter.{into_iter_items}
use Rattle.std.proofs.lemmas.Result.{err_from_is_err_and}
use Rattle.pl_stages.specs.contracts.handlers.HandlerStage.TheImpl.{meaning-value, stands_after-value}
use Rattle.std.proofs.lemmas.List.{nil_from_length}
use Rattle.std.proofs.lemmas.List.Elements.{All-nil, All-push}
use Rattle.pl_build.specs.Executors.{sizes_of}
use Rattle.pl_build.specs.Refusals.{executor_count}
use Rattle.pl_stages.specs.declared.handlers.Handler.{Handler}
use Rattle.pl_head.specs.Transports.{MemoryTransportView}
use Rattle.pl_head.specs.contracts.transports.MemoryTransportTransport.TheImpl.{state-value}
use Rattle.pl_world.specs.declared.session.Recorded.{Recorded}
use Rattle.pl_world.specs.Plans.{channel_planned}
use Rattle.pl_world.specs.Worlds.{FitsLimits}
use Rattle.pl_text.specs.SessionOutlines.{IsChannelOutlineWithin}
use Rattle.pl_text.proofs.ChannelRuns.{begins, pushed, stops, ends, all_first}
use Rattle.pl_text.proofs.session_text.building.channels_built.Goals as goal

none_yet : (P : Recorded Handler MemoryTransportView → Type 0) (built : List (Recorded Handler MemoryTransportView)) → built ≡ [] → All P built
none_yet P built none = subst (All P) (sym none) (All-nil P)

pub loop-channel-init : goal.loop-channel-init
loop-channel-init c =
    let same : into_iter_items c.into_iter-channel-iterator.result ≡ c.into_vec-channel-items.result.items = c.into_iter-channel-iterator.ensures.into_iter_gives.0 in
    let all = same ∙ c.into_vec-channel-items.ensures in
    record {
      within = subst (AllByRecursion IsChannelOutlineWithin) (sym all) c.requires.within;
      under_way = begins c.args.groups.now _ c.args.channels _ (ap (map (channel_planned meaning-value.it state-value.it)) c.in_ok-built.ensures.items) all c.requires.unused;
      same = (refl, refl);
      fit = none_yet (FitsLimits meaning-value.it stands_after-value.it state-value.it (executor_count c.args.groups.now.loops (sizes_of c.args.groups.now))) c.in_ok-built.built.items c.in_ok-built.ensures.items;
    }

pub channel_built-requires : goal.channel_built-requires
channel_built-requires c = (all_first c.in-Some.channel _ _ c.in-Some.ensures.steps.0 c.loop-channel.invariant.within).0

pub loop-channel-preserved : goal.loop-channel-preserved
loop-channel-preserved c =
    let built = c.in_ok-channel_built.ensures in
    let same = c.loop-channel.invariant.same in
    let made = c.in_ok-channel_built.field-0 in
    let FitsAt : ℕ → Recorded Handler MemoryTransportView → Type 0 = FitsLimits meaning-value.it stands_after-value.it state-value.it in
    let Fits = FitsAt (executor_count c.args.groups.now.loops (sizes_of c.args.groups.now)) in
    let count : executor_count c.loop-channel.groups.loops (sizes_of c.loop-channel.groups) ≡ executor_count c.args.groups.now.loops (sizes_of c.args.groups.now) = ap₂ executor_count same.0 same.1 in
    let next : into_iter_items c.loop-channel.channel-iterator ≡ c.in-Some.channel ∷ into_iter_items c.next.new.self = c.in-Some.ensures.steps.0 in
    record {
      within = (all_first c.in-Some.channel _ _ c.in-Some.ensures.steps.0 c.loop-channel.invariant.within).1;
      under_way = pushed meaning-value.it state-value.it c.loop-channel.groups c.channel_built.new.groups c.loop-channel.built.items c.push.new.self.items c.in-Some.channel _ _ c.in_ok-channel_built.field-0 _ built.same_groups built.built next c.in_ok-push.ensures.items c.loop-channel.invariant.under_way;
      same = (built.same_groups.0 ∙ same.0, built.same_groups.1 ∙ same.1);
      fit =
          subst (All Fits) (sym c.in_ok-push.ensures.items)
          (All-push Fits c.loop-channel.built.items made c.loop-channel.invariant.fit (subst (λ (n : ℕ). FitsAt n made) count built.fits));
    }

pub returns-in_err-channel_built-clause-built : goal.returns-in_err-channel_built-clause-built
returns-in_err-channel_built-clause-built c =
    let p = err_from_is_err_and c.from_residual-in_err-channel_built.result c.from_residual-in_err-channel_built.ensures.1 in
    rw (p.1, p.2) (λ other. stops c.loop-channel.groups _ c.in-Some.channel _ _ _ _ c.in-Some.ensures.steps.0 (c.in_err-channel_built.ensures.refused other) c.loop-channel.invariant.under_way)

pub returns-clause-built : goal.returns-clause-built
returns-clause-built c =
    let last = nil_from_length c.loop-channel.channel-iterator.rest.items (omega (arith, c.loop-channel.channel-iterator.rest.ok.0, c.in-None.ensures.steps.0)) in
    ends c.loop-channel.groups (map (channel_planned meaning-value.it state-value.it) c.loop-channel.built.items) _ _ last c.loop-channel.invariant.under_way ∙ ap (λ (rs : List _). Ok (map (channel_planned meaning-value.it state-value.it) rs)) (sym c.from_vec.ensures)
