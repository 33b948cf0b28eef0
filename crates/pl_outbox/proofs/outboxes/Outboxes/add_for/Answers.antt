use Rattle.std.proofs.Common.{◌≡◌, ◌<◌, false, length, set, sym, ap, subst, refl, ◌∙◌}
use Rattle.std.proofs.lemmas.Option.{slice_get_read}
use Rattle.pl_flow.specs.Flows.{IsNext}
use Rattle.pl_outbox.specs.OutboxViews.{OutboxView, OutboxesView, is_cut, reached, Adds, Comes, RefusedBy}
use Rattle.pl_outbox.proofs.OutboxLemmas.{Replaces, replaces-set, few-added}
use Rattle.std.proofs.lemmas.List.{length-set}
use Rattle.pl_outbox.proofs.AddSteps.{refused-hold, refused-adds, refused-by, Done, stays-done, back-done}
use Rattle.pl_outbox.proofs.outboxes.Outboxes.add_for.Goals as goal

pub add-requires-clause-few : goal.add-requires-clause-few
add-requires-clause-few g c = few-added g.W.Named.world (record { outboxes = c.self.inside.outboxes.items; waiting = c.self.inside.waiting; tried = c.self.inside.tries.tried; ways = c.self.inside.ways.items }) c.self.invariant.0

-- what the admission left of the way's outbox stands in its place
replaced : (g : _) (c : goal.After-discard g) → Replaces c.self.inside.outboxes.items (set c.self.inside.outboxes.items c.args.way c.admit.new.self) c.args.way c.index_mut.result.now c.admit.new.self
replaced g c =
    let os = c.self.inside.outboxes.items in
    let b = c.index_mut.result.now in
    let within = subst (λ (v : OutboxesView). c.args.way < length v.outboxes) (sym c.self.view_is) c.requires.there in
    replaces-set os c.args.way b c.admit.new.self (slice_get_read os (length os) c.args.way b refl within c.index_mut.ensures.value)

pub invariant_of-self : goal.invariant_of-self
invariant_of-self g c =
    let os = c.self.inside.outboxes.items in (
      refused-hold g.W.Named.world os c.self.inside.waiting c.self.inside.tries.tried c.self.inside.ways.items c.self.invariant.0 c.args.way c.args.envelope (set os c.args.way c.admit.new.self) c.index_mut.result.now c.admit.new.self (replaced g c)
          (ap (λ (o : OutboxView). o.sends) c.admit.ensures.same) c.in-Err.refused c.in-Err.ensures.refused,
      c.self.invariant.1 ∙ sym (length-set os c.args.way c.admit.new.self),
    )

pub returns-in-Err-clause-adds : goal.returns-in-Err-clause-adds
returns-in-Err-clause-adds g c =
    let os = c.self.inside.outboxes.items in
    subst (λ (v : OutboxesView). Adds v c.args.way c.args.envelope (record { outboxes = set os c.args.way c.admit.new.self; waiting = c.self.inside.waiting; tried = c.self.inside.tries.tried; ways = c.self.inside.ways.items })) c.self.view_is
    (refused-adds g.W.Named.world os c.self.inside.waiting c.self.inside.tries.tried c.self.inside.ways.items c.self.invariant.0 c.args.way c.args.envelope (set os c.args.way c.admit.new.self) c.index_mut.result.now c.admit.new.self (replaced g c)
    (ap (λ (o : OutboxView). o.sends) c.admit.ensures.same) c.in-Err.refused c.in-Err.ensures.refused)

pub returns-in-Err-clause-refused : goal.returns-in-Err-clause-refused
returns-in-Err-clause-refused g c =
    let os = c.self.inside.outboxes.items in
    subst (λ (v : OutboxesView). RefusedBy v c.args.way c.in-Err.refused (record { outboxes = set os c.args.way c.admit.new.self; waiting = c.self.inside.waiting; tried = c.self.inside.tries.tried; ways = c.self.inside.ways.items })) c.self.view_is
    (refused-by g.W.Named.world os c.self.inside.waiting c.self.inside.tries.tried c.self.inside.ways.items c.self.invariant.0 c.args.way c.args.envelope (set os c.args.way c.admit.new.self) c.index_mut.result.now c.admit.new.self (replaced g c)
    (ap (λ (o : OutboxView). o.sends) c.admit.ensures.same) c.in-Err.refused c.in-Err.ensures.refused)

stays : (g : _) (c : goal.After-self-in-None-1 g) → Done g.W.Named.world (record { outboxes = c.self.inside.outboxes.items; waiting = c.self.inside.waiting; tried = c.self.inside.tries.tried; ways = c.self.inside.ways.items }) c.args.way c.args.envelope
    (record { outboxes = set c.self.inside.outboxes.items c.args.way c.admit.new.self; waiting = c.add.new.self; tried = c.self.inside.tries.tried; ways = c.self.inside.ways.items })
stays g c =
    let os = c.self.inside.outboxes.items in
    let b = c.index_mut.result.now in
    let within = subst (λ (v : OutboxesView). c.args.way < length v.outboxes) (sym c.self.view_is) c.requires.there in
    let at = slice_get_read os (length os) c.args.way b refl within c.index_mut.ensures.value in
    stays-done g.W.Named.world os c.self.inside.waiting c.self.inside.tries.tried c.self.inside.ways.items c.self.invariant.0 c.args.way c.args.envelope b c.admit.new.self at c.admit.ensures.same c.in-Ok.ensures.admitted.1 c.add.new.self c.in-Ok.admitted c.in-Ok.ensures.admitted.0
    (subst (λ (v : OutboxesView). is_cut v c.args.way c.args.envelope.lane ≡ false → IsNext g.W.Named.world (reached v c.args.way c.args.envelope.lane) c.args.envelope) (sym c.self.view_is) c.requires.next)
    c.add.result c.in-None.is c.add.ensures

pub invariant_of-self-in-None : goal.invariant_of-self-in-None
invariant_of-self-in-None g c = ((stays g c).hold, c.self.invariant.1 ∙ sym (length-set c.self.inside.outboxes.items c.args.way c.admit.new.self))

pub returns-in-None-clause-adds : goal.returns-in-None-clause-adds
returns-in-None-clause-adds g c = subst (λ (v : OutboxesView). Adds v c.args.way c.args.envelope (record { outboxes = set c.self.inside.outboxes.items c.args.way c.admit.new.self; waiting = c.add.new.self; tried = c.self.inside.tries.tried; ways = c.self.inside.ways.items })) c.self.view_is (stays g c).adds

pub returns-in-None-clause-comes : goal.returns-in-None-clause-comes
returns-in-None-clause-comes g c = subst (λ (v : OutboxesView). Comes v c.args.way c.args.envelope (record { outboxes = set c.self.inside.outboxes.items c.args.way c.admit.new.self; waiting = c.add.new.self; tried = c.self.inside.tries.tried; ways = c.self.inside.ways.items })) c.self.view_is (stays g c).comes

back : (g : _) (c : goal.After-self-in-Some-1 g) → Done g.W.Named.world (record { outboxes = c.self.inside.outboxes.items; waiting = c.self.inside.waiting; tried = c.self.inside.tries.tried; ways = c.self.inside.ways.items }) c.args.way c.args.envelope
    (record { outboxes = set (set c.self.inside.outboxes.items c.args.way c.admit.new.self) c.args.way c.give_up.new.self; waiting = c.add.new.self; tried = c.self.inside.tries.tried; ways = c.self.inside.ways.items })
back g c =
    let os = c.self.inside.outboxes.items in
    let b = c.index_mut.result.now in
    let d = c.index_mut-in-Some.result.now in
    let within = subst (λ (v : OutboxesView). c.args.way < length v.outboxes) (sym c.self.view_is) c.requires.there in
    let at = slice_get_read os (length os) c.args.way b refl within c.index_mut.ensures.value in
    let n = length-set os c.args.way c.admit.new.self in
    let now = slice_get_read (set os c.args.way c.admit.new.self) (length os) c.args.way d (sym n) within c.index_mut-in-Some.ensures.value in
    back-done g.W.Named.world os c.self.inside.waiting c.self.inside.tries.tried c.self.inside.ways.items c.self.invariant.0 c.args.way c.args.envelope b c.admit.new.self at c.admit.ensures.same c.in-Ok.ensures.admitted.1 c.add.new.self c.in-Ok.admitted c.in-Ok.ensures.admitted.0
    (subst (λ (v : OutboxesView). is_cut v c.args.way c.args.envelope.lane ≡ false → IsNext g.W.Named.world (reached v c.args.way c.args.envelope.lane) c.args.envelope) (sym c.self.view_is) c.requires.next)
    c.add.result c.in-Some.admitted c.in-Some.is c.add.ensures d c.give_up.new.self now c.give_up.new.self.seat.seen c.give_up.ensures.less

pub invariant_of-self-in-Some : goal.invariant_of-self-in-Some
invariant_of-self-in-Some g c =
    let os = c.self.inside.outboxes.items in
    ((back g c).hold, c.self.invariant.1 ∙ sym (length-set os c.args.way c.admit.new.self) ∙ sym (length-set (set os c.args.way c.admit.new.self) c.args.way c.give_up.new.self))

pub returns-in-Some-clause-adds : goal.returns-in-Some-clause-adds
returns-in-Some-clause-adds g c =
    subst (λ (v : OutboxesView). Adds v c.args.way c.args.envelope (record { outboxes = set (set c.self.inside.outboxes.items c.args.way c.admit.new.self) c.args.way c.give_up.new.self; waiting = c.add.new.self; tried = c.self.inside.tries.tried; ways = c.self.inside.ways.items })) c.self.view_is (back g c).adds

pub returns-in-Some-clause-comes : goal.returns-in-Some-clause-comes
returns-in-Some-clause-comes g c =
    subst (λ (v : OutboxesView). Comes v c.args.way c.args.envelope (record { outboxes = set (set c.self.inside.outboxes.items c.args.way c.admit.new.self) c.args.way c.give_up.new.self; waiting = c.add.new.self; tried = c.self.inside.tries.tried; ways = c.self.inside.ways.items })) c.self.view_is (back g c).comes
