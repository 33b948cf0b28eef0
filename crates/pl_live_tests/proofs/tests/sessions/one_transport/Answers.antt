use Rattle.std.proofs.Common.{◌≡◌, [], ◌∷◌, sym, subst, rules}
use Rattle.std.specs.Prelude.{All}
use Rattle.std.proofs.lemmas.List.Elements.{All-nil, All-push}
use Rattle.pl_world.specs.Worlds.{IsUncalled}
use Rattle.pl_live_tests.proofs.tests.sessions.one_transport.Goals as goal

pub returns : goal.returns
returns g c =
    let Uncalled : g.row.T.Denot → Type 0 = λ t. IsUncalled (g.T.Transport.state t) in
    let pushed : c.push.new.self ≡ c.args.transport ∷ [] = search rules in
    subst (All Uncalled) (sym pushed) (All-push Uncalled [] c.args.transport (All-nil Uncalled) c.requires)
