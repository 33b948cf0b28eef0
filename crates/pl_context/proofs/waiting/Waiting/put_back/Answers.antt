use Rattle.std.proofs.Common.{length, refl, sym, subst, ap, ◌∙◌, arith}
use Rattle.std.proofs.lemmas.Option.{slice_get_read}
use Rattle.pl_context.specs.WaitingViews.{WaitingView, Misses, stops_for}
use Rattle.pl_context.proofs.WaitingLemmas.{back-holds}
use Rattle.pl_context.proofs.WaitingCalls.{stops-kept, back-there, back-room}
use Rattle.pl_context.proofs.WaitingFronts.{front-noted, fronts-set}
use Rattle.pl_context.proofs.waiting.Waiting.put_back.Goals as goal

pub index_mut-backlog-requires : goal.index_mut-backlog-requires
index_mut-backlog-requires g c =
    let there = back-there _ _ c.self.view_is c.args.target c.requires in
    omega (arith, there, c.self.inside.targets.ok.0)

pub put_back-requires-clause-room : goal.put_back-requires-clause-room
put_back-requires-clause-room g c =
    let there = back-there _ _ c.self.view_is c.args.target c.requires in
    let at = slice_get_read c.self.inside.targets.items (length c.self.inside.targets.items) c.args.target c.index_mut-backlog.result.now refl there c.index_mut-backlog.ensures.value in
    back-room _ _ c.self.view_is c.args.target c.requires c.index_mut-backlog.result.now at

pub set-requires-clause-there : goal.set-requires-clause-there
set-requires-clause-there g c =
    let there = back-there _ _ c.self.view_is c.args.target c.requires in
    omega (arith, there, c.self.invariant.places)

pub set-requires-clause-was : goal.set-requires-clause-was
set-requires-clause-was g c =
    let there = back-there _ _ c.self.view_is c.args.target c.requires in
    let at = slice_get_read c.self.inside.targets.items (length c.self.inside.targets.items) c.args.target c.index_mut-backlog.result.now refl there c.index_mut-backlog.ensures.value in
    front-noted _ _ c.self.invariant c.args.target c.index_mut-backlog.result.now at ∙ sym c.front_age-was.ensures

pub invariant_of-self : goal.invariant_of-self
invariant_of-self g c =
    let there = back-there _ _ c.self.view_is c.args.target c.requires in
    fronts-set _ _ _ c.args.target c.put_back.new.self _ there c.self.invariant c.front_age.ensures c.set.ensures.ages c.set.ensures.places

pub returns-clause-back : goal.returns-clause-back
returns-clause-back g c = λ entries i entry at on missing.
    let m = subst (λ (w : WaitingView g.row.A.Denot). Misses w entries i) (sym c.self.view_is) missing in
    let there = back-there _ _ c.self.view_is c.args.target c.requires in
    let target_at = slice_get_read c.self.inside.targets.items (length c.self.inside.targets.items) c.args.target c.index_mut-backlog.result.now refl there c.index_mut-backlog.ensures.value in
    back-holds _ _ entries i m entry at (record { target = c.args.target; envelope = c.args.envelope; token = c.args.token }) on c.index_mut-backlog.result.now c.put_back.new.self target_at c.put_back.ensures.items refl refl

pub returns-clause-stopped : goal.returns-clause-stopped
returns-clause-stopped g c = λ y.
    let there = back-there _ _ c.self.view_is c.args.target c.requires in
    let at = slice_get_read c.self.inside.targets.items (length c.self.inside.targets.items) c.args.target c.index_mut-backlog.result.now refl there c.index_mut-backlog.ensures.value in
    stops-kept c.self.inside.targets.items c.args.target c.index_mut-backlog.result.now c.put_back.new.self at c.put_back.ensures.stopped y
    ∙ ap (λ (w : WaitingView g.row.A.Denot). stops_for w y) c.self.view_is
