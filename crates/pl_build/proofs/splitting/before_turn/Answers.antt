use Rattle.std.proofs.Common.{ℕ, sym, ap, ◌∙◌, take}
use Rattle.std.proofs.lemmas.List.{take_all}
use Rattle.std.specs.List.{position_or_len}
use Rattle.pl_build.specs.Pipelines.{is_turn_stage}
use Rattle.pl_build.proofs.PathLemmas.{position_is, position_none}
use Rattle.pl_build.proofs.splitting.before_turn.Goals as goal

pub returns-in-Some : goal.returns-in-Some
returns-in-Some g c =
    let at = position_is (is_turn_stage g.S.Stage.meaning) c.args.handlers.now c.in-Some.index (sym c.turn_index.ensures ∙ c.in-Some.is) in
    ap (λ (n : ℕ). take n c.args.handlers.now) (sym at.0)

pub returns-in-None : goal.returns-in-None
returns-in-None g c =
    let past = position_none (is_turn_stage g.S.Stage.meaning) c.args.handlers.now (sym c.turn_index.ensures ∙ c.in-None.is) in
    sym (take_all (position_or_len (is_turn_stage g.S.Stage.meaning) c.args.handlers.now) c.args.handlers.now past)
