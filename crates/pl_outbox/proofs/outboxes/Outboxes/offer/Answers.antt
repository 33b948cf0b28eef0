use Rattle.std.proofs.Common.{◌≡◌, ◌==◌, ◌||◌, ◌<◌, List, length, set, refl, sym, subst, ap, ◌∙◌}
use Rattle.std.specs.Option.{option_map}
use Rattle.std.proofs.lemmas.Option.{slice_get_read}
use Rattle.pl_event.specs.declared.envelopes.Envelope.{Envelope}
use Rattle.pl_context.specs.WaitingViews.{Entry, Holds}
use Rattle.pl_words.specs.Admissions.{AdmittedView}
use Rattle.pl_outbox.specs.OutboxViews.{OutboxView, OutboxesView, IsOutboxes, waits_for, sends_for, was_tried, Sends, KeepsAll, Stays}
use Rattle.std.proofs.lemmas.List.{length-set}
use Rattle.pl_outbox.proofs.OfferSteps.{set-back, nothing-waits, may-offer, handed-hold, handed-sends, handed-stays, full-hold, full-keeps, full-stays}
use Rattle.pl_outbox.proofs.outboxes.Outboxes.offer.Goals as goal

-- ---- its queue is found full: what waits stays as it is

pub invariant_of-self : goal.invariant_of-self
invariant_of-self g c =
    let w = c.self.inside.waiting in (
      full-hold g.W.Named.world c.self.inside.outboxes.items w c.self.inside.tries.tried c.self.inside.ways.items c.self.invariant.0 c.args.way w c.add.new.self.tried (λ entries holds. holds) refl (λ y. refl) refl,
      c.add.ensures.count ∙ c.self.invariant.1,
    )

pub returns-then-is_full-clause-keeps : goal.returns-then-is_full-clause-keeps
returns-then-is_full-clause-keeps g c = λ _.
    let os = c.self.inside.outboxes.items in
    let w = c.self.inside.waiting in
    subst (λ (v : OutboxesView). KeepsAll v (record { outboxes = os; waiting = w; tried = c.add.new.self.tried; ways = c.self.inside.ways.items })) (c.self.view_is ∙ c.is_full.ensures.same)
    (full-keeps g.W.Named.world os w c.self.inside.tries.tried c.self.inside.ways.items c.self.invariant.0 c.args.way w c.add.new.self.tried (λ entries holds. holds) refl (λ y. refl) refl)

pub returns-then-is_full-clause-full : goal.returns-then-is_full-clause-full
returns-then-is_full-clause-full g c = λ _. c.is_full.ensures.full (cc)

pub returns-then-is_full-clause-stays : goal.returns-then-is_full-clause-stays
returns-then-is_full-clause-stays g c =
    let os = c.self.inside.outboxes.items in
    let w = c.self.inside.waiting in
    subst (λ (v : OutboxesView). Stays v (record { outboxes = os; waiting = w; tried = c.add.new.self.tried; ways = c.self.inside.ways.items })) (c.self.view_is ∙ c.is_full.ensures.same)
    (full-stays g.W.Named.world os w c.self.inside.tries.tried c.self.inside.ways.items c.self.invariant.0 c.args.way w c.add.new.self.tried (λ entries holds. holds) refl (λ y. refl) refl)

pub returns-then-is_full-clause-tried : goal.returns-then-is_full-clause-tried
returns-then-is_full-clause-tried g c = λ y.
    c.add.ensures.tried y ∙ ap (λ (v : OutboxesView). (y == c.args.way) || was_tried v y) (c.self.view_is ∙ c.is_full.ensures.same)

-- ---- something waits

pub unreachable-requires : goal.unreachable-requires
unreachable-requires g c =
    c.requires.waits (ap (λ (v : OutboxesView). waits_for v c.args.way) (sym (c.self.view_is ∙ c.is_full.ensures.same))
    ∙ nothing-waits g.W.Named.world c.self.inside.outboxes.items c.self.inside.waiting c.self.inside.tries.tried c.self.inside.ways.items c.self.invariant.0 c.args.way c.take.new.self (c.in_default.ensures.first c.self.invariant.0.entries c.self.invariant.0.holds))

-- ---- the first is offered

pub offer-requires-clause-next : goal.offer-requires-clause-next
offer-requires-clause-next g c =
    let os = c.self.inside.outboxes.items in
    let at = slice_get_read os (length os) c.args.way c.index_mut.result.now refl (subst (λ (v : OutboxesView). c.args.way < length v.outboxes) (sym (c.self.view_is ∙ c.is_full.ensures.same)) c.requires.there) c.index_mut.ensures.value in
    (may-offer g.W.Named.world os c.self.inside.waiting c.self.inside.tries.tried c.self.inside.ways.items c.self.invariant.0 c.args.way c.in-Some.envelope c.in-Some.admitted c.take.new.self (c.in-Some.ensures.first c.self.invariant.0.entries c.self.invariant.0.holds) c.index_mut.result.now at).0

pub offer-requires-clause-small : goal.offer-requires-clause-small
offer-requires-clause-small g c =
    let os = c.self.inside.outboxes.items in
    let at = slice_get_read os (length os) c.args.way c.index_mut.result.now refl (subst (λ (v : OutboxesView). c.args.way < length v.outboxes) (sym (c.self.view_is ∙ c.is_full.ensures.same)) c.requires.there) c.index_mut.ensures.value in
    (may-offer g.W.Named.world os c.self.inside.waiting c.self.inside.tries.tried c.self.inside.ways.items c.self.invariant.0 c.args.way c.in-Some.envelope c.in-Some.admitted c.take.new.self (c.in-Some.ensures.first c.self.invariant.0.entries c.self.invariant.0.holds) c.index_mut.result.now at).1.small

pub offer-requires-clause-fits : goal.offer-requires-clause-fits
offer-requires-clause-fits g c =
    let os = c.self.inside.outboxes.items in
    let at = slice_get_read os (length os) c.args.way c.index_mut.result.now refl (subst (λ (v : OutboxesView). c.args.way < length v.outboxes) (sym (c.self.view_is ∙ c.is_full.ensures.same)) c.requires.there) c.index_mut.ensures.value in
    (may-offer g.W.Named.world os c.self.inside.waiting c.self.inside.tries.tried c.self.inside.ways.items c.self.invariant.0 c.args.way c.in-Some.envelope c.in-Some.admitted c.take.new.self (c.in-Some.ensures.first c.self.invariant.0.entries c.self.invariant.0.holds) c.index_mut.result.now at).1.fits

-- ---- it is sent

pub invariant_of-self-in-Ok : goal.invariant_of-self-in-Ok
invariant_of-self-in-Ok g c =
    let os = c.self.inside.outboxes.items in
    let at = slice_get_read os (length os) c.args.way c.index_mut.result.now refl (subst (λ (v : OutboxesView). c.args.way < length v.outboxes) (sym (c.self.view_is ∙ c.is_full.ensures.same)) c.requires.there) c.index_mut.ensures.value in (
      handed-hold g.W.Named.world os c.self.inside.waiting c.self.inside.tries.tried c.self.inside.ways.items c.self.invariant.0 c.args.way c.in-Some.envelope c.in-Some.admitted c.take.new.self (c.in-Some.ensures.first c.self.invariant.0.entries c.self.invariant.0.holds)
          c.index_mut.result.now c.offer.new.self at c.in-Ok.ensures c.take.ensures.added,
      c.self.invariant.1 ∙ sym (length-set os c.args.way c.offer.new.self),
    )

pub returns-in-Ok-clause-sends : goal.returns-in-Ok-clause-sends
returns-in-Ok-clause-sends g c = λ _.
    let os = c.self.inside.outboxes.items in
    let at = slice_get_read os (length os) c.args.way c.index_mut.result.now refl (subst (λ (v : OutboxesView). c.args.way < length v.outboxes) (sym (c.self.view_is ∙ c.is_full.ensures.same)) c.requires.there) c.index_mut.ensures.value in
    subst (λ (v : OutboxesView). Sends v c.args.way (record { outboxes = set os c.args.way c.offer.new.self; waiting = c.take.new.self; tried = c.self.inside.tries.tried; ways = c.self.inside.ways.items })) (c.self.view_is ∙ c.is_full.ensures.same)
    (handed-sends g.W.Named.world os c.self.inside.waiting c.self.inside.tries.tried c.self.inside.ways.items c.self.invariant.0 c.args.way c.in-Some.envelope c.in-Some.admitted c.take.new.self (c.in-Some.ensures.first c.self.invariant.0.entries c.self.invariant.0.holds)
    c.index_mut.result.now c.offer.new.self at c.in-Ok.ensures c.take.ensures.added c.in-Some.ensures.first)

pub returns-in-Ok-clause-stays : goal.returns-in-Ok-clause-stays
returns-in-Ok-clause-stays g c =
    let os = c.self.inside.outboxes.items in
    let at = slice_get_read os (length os) c.args.way c.index_mut.result.now refl (subst (λ (v : OutboxesView). c.args.way < length v.outboxes) (sym (c.self.view_is ∙ c.is_full.ensures.same)) c.requires.there) c.index_mut.ensures.value in
    subst (λ (v : OutboxesView). Stays v (record { outboxes = set os c.args.way c.offer.new.self; waiting = c.take.new.self; tried = c.self.inside.tries.tried; ways = c.self.inside.ways.items })) (c.self.view_is ∙ c.is_full.ensures.same)
    (handed-stays g.W.Named.world os c.self.inside.waiting c.self.inside.tries.tried c.self.inside.ways.items c.self.invariant.0 c.args.way c.in-Some.envelope c.in-Some.admitted c.take.new.self (c.in-Some.ensures.first c.self.invariant.0.entries c.self.invariant.0.holds)
    c.index_mut.result.now c.offer.new.self at c.in-Ok.ensures c.take.ensures.added)

pub returns-in-Ok-clause-tried : goal.returns-in-Ok-clause-tried
returns-in-Ok-clause-tried g c = λ y. ap (λ (v : OutboxesView). was_tried v y) (c.self.view_is ∙ c.is_full.ensures.same)

-- ---- its queue was full for it

pub returns-in-Err-clause-tried : goal.returns-in-Err-clause-tried
returns-in-Err-clause-tried g c = λ y. c.add-in-Err.ensures.tried y ∙ ap (λ (v : OutboxesView). (y == c.args.way) || was_tried v y) (c.self.view_is ∙ c.is_full.ensures.same)

pub put_back-requires : goal.put_back-requires
put_back-requires g c =
    let takes = c.in-Some.ensures.first c.self.invariant.0.entries c.self.invariant.0.holds in
    (c.self.invariant.0.entries, takes.taken.0, record { target = c.args.way; envelope = c.in-Some.envelope; token = c.in-Some.admitted }, takes.taken.2, refl, takes.taken.4)

held : (g : _) (c : goal.After-add-in-Err g) (entries : List (Entry AdmittedView)) → Holds c.self.inside.waiting entries → Holds c.put_back.new.self entries
held g c entries holds =
    let takes = c.in-Some.ensures.first entries holds in
    let entry : Entry AdmittedView = record { target = c.args.way; envelope = c.in-Some.envelope; token = c.in-Some.admitted } in
    subst (λ (zs : List (Entry AdmittedView)). Holds c.put_back.new.self zs) (set-back entries takes.taken.0 entry takes.taken.2)
    (subst (λ (x : Envelope). Holds c.put_back.new.self (set entries takes.taken.0 (record { target = c.args.way; envelope = x; token = c.in-Some.admitted }))) c.in-Err.ensures.0
    (c.put_back.ensures.back entries takes.taken.0 entry takes.taken.2 refl takes.taken.4))

-- the outbox is as it was
same-outboxes : (g : _) (c : goal.After-add-in-Err g) → c.self.inside.outboxes.items ≡ set c.self.inside.outboxes.items c.args.way c.offer.new.self
same-outboxes g c =
    let os = c.self.inside.outboxes.items in
    let at = slice_get_read os (length os) c.args.way c.index_mut.result.now refl (subst (λ (v : OutboxesView). c.args.way < length v.outboxes) (sym (c.self.view_is ∙ c.is_full.ensures.same)) c.requires.there) c.index_mut.ensures.value in
    sym (ap (λ (b : OutboxView). set os c.args.way b) c.in-Err.ensures.1 ∙ set-back os c.args.way c.index_mut.result.now at)

pub invariant_of-self-in-Err : goal.invariant_of-self-in-Err
invariant_of-self-in-Err g c =
    let os = c.self.inside.outboxes.items in
    let takes = c.in-Some.ensures.first c.self.invariant.0.entries c.self.invariant.0.holds in (
      subst (λ (bs : List OutboxView). IsOutboxes g.W.Named.world (record { outboxes = bs; waiting = c.put_back.new.self; tried = c.add-in-Err.new.self.tried; ways = c.self.inside.ways.items })) (same-outboxes g c)
          (full-hold g.W.Named.world os c.self.inside.waiting c.self.inside.tries.tried c.self.inside.ways.items c.self.invariant.0 c.args.way c.put_back.new.self c.add-in-Err.new.self.tried (held g c)
          (c.put_back.ensures.added ∙ c.take.ensures.added) (λ y. c.put_back.ensures.stopped y ∙ takes.stopped y) (c.put_back.ensures.targets ∙ takes.targets)),
      c.add-in-Err.ensures.count ∙ c.self.invariant.1 ∙ ap (λ (bs : List OutboxView). length bs) (same-outboxes g c),
    )

pub returns-in-Err-clause-keeps : goal.returns-in-Err-clause-keeps
returns-in-Err-clause-keeps g c = λ _.
    let os = c.self.inside.outboxes.items in
    let takes = c.in-Some.ensures.first c.self.invariant.0.entries c.self.invariant.0.holds in
    subst (λ (z : OutboxesView × List OutboxView). KeepsAll z.0 (record { outboxes = z.1; waiting = c.put_back.new.self; tried = c.add-in-Err.new.self.tried; ways = c.self.inside.ways.items })) (λ i. ((c.self.view_is ∙ c.is_full.ensures.same) i, same-outboxes g c i))
    (full-keeps g.W.Named.world os c.self.inside.waiting c.self.inside.tries.tried c.self.inside.ways.items c.self.invariant.0 c.args.way c.put_back.new.self c.add-in-Err.new.self.tried (held g c)
    (c.put_back.ensures.added ∙ c.take.ensures.added) (λ y. c.put_back.ensures.stopped y ∙ takes.stopped y) (c.put_back.ensures.targets ∙ takes.targets))

pub returns-in-Err-clause-full : goal.returns-in-Err-clause-full
returns-in-Err-clause-full g c = λ _.
    let os = c.self.inside.outboxes.items in
    let at = slice_get_read os (length os) c.args.way c.index_mut.result.now refl (subst (λ (v : OutboxesView). c.args.way < length v.outboxes) (sym (c.self.view_is ∙ c.is_full.ensures.same)) c.requires.there) c.index_mut.ensures.value in (
      c.index_mut.result.now.sends,
      ap (λ (v : OutboxesView). sends_for v c.args.way) (sym (c.self.view_is ∙ c.is_full.ensures.same)) ∙ ap (option_map (λ (o : OutboxView). o.sends)) at,
      c.in-Err.ensures.2,
    )

pub returns-in-Err-clause-stays : goal.returns-in-Err-clause-stays
returns-in-Err-clause-stays g c =
    let os = c.self.inside.outboxes.items in
    let takes = c.in-Some.ensures.first c.self.invariant.0.entries c.self.invariant.0.holds in
    subst (λ (z : OutboxesView × List OutboxView). Stays z.0 (record { outboxes = z.1; waiting = c.put_back.new.self; tried = c.add-in-Err.new.self.tried; ways = c.self.inside.ways.items })) (λ i. ((c.self.view_is ∙ c.is_full.ensures.same) i, same-outboxes g c i))
    (full-stays g.W.Named.world os c.self.inside.waiting c.self.inside.tries.tried c.self.inside.ways.items c.self.invariant.0 c.args.way c.put_back.new.self c.add-in-Err.new.self.tried (held g c)
    (c.put_back.ensures.added ∙ c.take.ensures.added) (λ y. c.put_back.ensures.stopped y ∙ takes.stopped y) (c.put_back.ensures.targets ∙ takes.targets))
