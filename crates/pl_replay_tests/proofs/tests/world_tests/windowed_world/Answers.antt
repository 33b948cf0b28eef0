use Rattle.std.proofs.Common.{◌≡◌, [], ◌∷◌, ◌++◌, Some, None, sym, subst, rules}
use Rattle.std.specs.Prelude.{All}
use Rattle.std.proofs.lemmas.List.Elements.{All-nil, All-push}
use Rattle.pl_head.specs.Transports.{MemoryTransportView}
use Rattle.pl_head.specs.contracts.transports.MemoryTransportTransport.TheImpl.{state-value}
use Rattle.pl_world.specs.Worlds.{IsUncalled}
use Rattle.pl_world.proofs.WorldLimits.{is_uncalled}
use Rattle.pl_replay_tests.proofs.tests.world_tests.windowed_world.Goals as goal

abbrev Uncalled : MemoryTransportView → Type 0
Uncalled transport = IsUncalled (state-value.it transport)

pub loop-init : goal.loop-init
loop-init c = subst (All Uncalled) (sym c.new-transports.ensures) (All-nil Uncalled)

pub loop-preserved : goal.loop-preserved
loop-preserved c =
    let made = c.new.result in
    let pushed : c.push.new.self ≡ c.loop.transports ++ made ∷ [] = search rules in
    subst (All Uncalled) (sym pushed)
    (All-push Uncalled c.loop.transports made c.loop.invariant (is_uncalled (state-value.it made) (Some c.args.window) None c.new.ensures.state))
