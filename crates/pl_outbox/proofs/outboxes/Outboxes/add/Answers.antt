use Rattle.std.proofs.Common.{◌≡◌, ◌<◌, ◌∷◌, [], ℕ, false, length, sym, subst}
use Rattle.std.specs.Prelude.{IfOk, IfErr}
use Rattle.pl_context.specs.Stops.{HasPlaces}
use Rattle.pl_context.specs.WaitingViews.{stops_for}
use Rattle.pl_flow.specs.Flows.{IsNext}
use Rattle.pl_outbox.specs.OutboxViews.{is_cut, reached, Adds, Comes, RefusedBy}
use Rattle.pl_outbox.proofs.outboxes.Outboxes.add.Goals as goal

pub add_for-requires-clause-there : goal.add_for-requires-clause-there
add_for-requires-clause-there g c = subst (λ (k : ℕ). k < length c.args.self.now.outboxes) (sym c.way_to.ensures) c.requires.there

pub add_for-requires-clause-place : goal.add_for-requires-clause-place
add_for-requires-clause-place g c = subst (λ (k : ℕ). HasPlaces (stops_for c.args.self.now.waiting k) (c.args.envelope.lane ∷ [])) (sym c.way_to.ensures) c.requires.place

pub add_for-requires-clause-next : goal.add_for-requires-clause-next
add_for-requires-clause-next g c =
    let o = c.args.self.now in
    subst (λ (k : ℕ). is_cut o k c.args.envelope.lane ≡ false → IsNext g.W.Named.world (reached o k c.args.envelope.lane) c.args.envelope) (sym c.way_to.ensures) c.requires.next

pub returns-clause-adds : goal.returns-clause-adds
returns-clause-adds g c = subst (λ (k : ℕ). Adds c.args.self.now k c.args.envelope c.add_for.new.self) c.way_to.ensures c.add_for.ensures.adds

pub returns-clause-comes : goal.returns-clause-comes
returns-clause-comes g c = subst (λ (k : ℕ). IfOk c.add_for.result (λ _. Comes c.args.self.now k c.args.envelope c.add_for.new.self)) c.way_to.ensures c.add_for.ensures.comes

pub returns-clause-refused : goal.returns-clause-refused
returns-clause-refused g c = subst (λ (k : ℕ). IfErr c.add_for.result (λ refusal. RefusedBy c.args.self.now k refusal c.add_for.new.self)) c.way_to.ensures c.add_for.ensures.refused
