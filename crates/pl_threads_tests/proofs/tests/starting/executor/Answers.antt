use Rattle.std.proofs.Common.{arith, ◌≡◌, List, [], ◌∷◌, Some, ℕ, ◌<◌, ◌^◌, length, slice_get, ap, sym, subst, ◌∙◌}
use Rattle.std.specs.Prelude.{All}
use Rattle.std.proofs.lemmas.List.Elements.{All-cons, All-nil}
use Rattle.pl_context.specs.Stops.{HasPlaces, StopsView}
use Rattle.pl_queue.specs.declared.views.TakeCount.{TakeCount}
use Rattle.pl_queue.specs.declared.views.TakerView.{TakerView}
use Rattle.pl_event.specs.declared.envelopes.Lane.{Lane}
use Rattle.pl_queue.specs.Ends.{MailboxEnds}
use Rattle.pl_queue.specs.declared.views.SenderView.{SenderView}
use Rattle.pl_words.specs.Admissions.{SendSeatView}
use Rattle.pl_outbox.specs.declared.inbox.Inbox.{Inbox}
use Rattle.pl_outbox.specs.OutboxViews.{IsNew, OutboxView}
use Rattle.pl_threads.specs.declared.cores.Core.{Core}
use Rattle.pl_threads.specs.Running.{IsTaking, RunsOn}
use Rattle.pl_threads_tests.specs.declared.nodes.Outlet.{Outlet}
use Rattle.pl_threads_tests.specs.Nodes.{lane_to, node_view, outlets_of}
use Rattle.pl_threads_tests.specs.declared.places.Way.{Way}
use Rattle.pl_threads_tests.specs.Openings.{HasLane, IsWay}
use Rattle.pl_threads_tests.proofs.StartLemmas.{HasWay, few-lanes, has-way, node-runs, node-taking, two-places}
use Rattle.pl_threads_tests.proofs.tests.starting.executor.Goals as goal

-- a way to one of the inboxes
way-sends : {W M S T : Type 0} (ends : MailboxEnds M S T) (inbox : Inbox W M S T) (lanes : List Lane) (way : Way W M S T) → IsWay ends inbox lanes way → way.seat.name ≡ inbox.admission.name
way-sends ends inbox lanes way is = ap (λ (t : SendSeatView). t.name) is.seat

-- by a way nothing was sent
is-new : {W M S T : Type 0} (ends : MailboxEnds M S T) (inbox : Inbox W M S T) (lanes : List Lane) (way : Way W M S T) (b : OutboxView) → b ≡ record { sends = ends.sends_of way.sender; seat = way.seat } → IsWay ends inbox lanes way → IsNew b
is-new ends inbox lanes way b is w = record {
  made = ap (λ (o : OutboxView). o.seat.made) is ∙ ap (λ (t : SendSeatView). t.made) w.seat;
  kept = ap (λ (o : OutboxView). o.seat.kept) is ∙ ap (λ (t : SendSeatView). t.kept) w.seat;
  pushes = ap (λ (o : OutboxView). o.sends.pushes) is ∙ ap (λ (t : SenderView). t.pushes) w.sends;
}

pub outbox-first-requires-clause-sender : goal.outbox-first-requires-clause-sender
outbox-first-requires-clause-sender g c = (c.requires.place.first c.inbox_of.result.now c.inbox_of.ensures).sender

pub outbox-first-requires-clause-seat : goal.outbox-first-requires-clause-seat
outbox-first-requires-clause-seat g c = way-sends g.M.Mailbox.ends c.inbox_of.result.now _ c.args.place.first (c.requires.place.first c.inbox_of.result.now c.inbox_of.ensures)

pub outbox-second-requires-clause-sender : goal.outbox-second-requires-clause-sender
outbox-second-requires-clause-sender g c = (c.requires.place.second c.inbox_of-2.result.now c.inbox_of-2.ensures).sender

pub outbox-second-requires-clause-seat : goal.outbox-second-requires-clause-seat
outbox-second-requires-clause-seat g c = way-sends g.M.Mailbox.ends c.inbox_of-2.result.now _ c.args.place.second (c.requires.place.second c.inbox_of-2.result.now c.inbox_of-2.ensures)

pub outbox-third-requires-clause-sender : goal.outbox-third-requires-clause-sender
outbox-third-requires-clause-sender g c = (c.requires.place.third c.inbox_of-3.result.now c.inbox_of-3.ensures).sender

pub outbox-third-requires-clause-seat : goal.outbox-third-requires-clause-seat
outbox-third-requires-clause-seat g c = way-sends g.M.Mailbox.ends c.inbox_of-3.result.now _ c.args.place.third (c.requires.place.third c.inbox_of-3.result.now c.inbox_of-3.ensures)

pub inbox_of-inbox-requires : goal.inbox_of-inbox-requires
inbox_of-inbox-requires g c = omega (arith, c.from-number.ensures, c.requires.place.there, c.requires.place.three)

pub new-requires-clause-new : goal.new-requires-clause-new
new-requires-clause-new g c =
    let ends = g.M.Mailbox.ends in
    let place = c.requires.place in
    let first = is-new ends c.inbox_of.result.now _ c.args.place.first c.outbox-first.result c.outbox-first.ensures (place.first c.inbox_of.result.now c.inbox_of.ensures) in
    let second = is-new ends c.inbox_of-2.result.now _ c.args.place.second c.outbox-second.result c.outbox-second.ensures (place.second c.inbox_of-2.result.now c.inbox_of-2.ensures) in
    let third = is-new ends c.inbox_of-3.result.now _ c.args.place.third c.outbox-third.result c.outbox-third.ensures (place.third c.inbox_of-3.result.now c.inbox_of-3.ensures) in
    subst (λ (bs : List OutboxView). All IsNew bs) (sym c.in_ok-outboxes.ensures) (All-cons IsNew c.outbox-first.result (c.outbox-second.result ∷ c.outbox-third.result ∷ []) first (All-cons IsNew c.outbox-second.result (c.outbox-third.result ∷ []) second (All-cons IsNew c.outbox-third.result [] third (All-nil IsNew))))

pub of-core-requires-clause-places : goal.of-core-requires-clause-places
of-core-requires-clause-places g c =
    subst (λ (s : StopsView). HasPlaces s (outlets_of c.args.node)) (sym c.in_ok-new-2.ensures.places) (two-places (lane_to c.args.node.first.target) (lane_to c.args.node.second.target))

pub of-core-requires-clause-runs : goal.of-core-requires-clause-runs
of-core-requires-clause-runs g c =
    let n = c.args.node in
    let o = c.in_ok-new.field-0 in
    let work = c.in_ok-new-2.field-0 in
    let made = c.in_ok-new.ensures in
    let ready = c.requires.ready in
    let place = c.requires.place in
    let three = c.in_ok-outboxes.ensures in
    let by : (p : Outlet) → HasLane n.executor p → HasWay p o.outboxes = λ p lane. subst (λ (bs : List OutboxView). HasWay p bs) (sym made.outboxes)
    (has-way n.executor p _ _ _ _ three (ap (λ (b : OutboxView). b.sends) c.outbox-first.ensures ∙ (place.first c.inbox_of.result.now c.inbox_of.ensures).sends)
    (ap (λ (b : OutboxView). b.sends) c.outbox-second.ensures ∙ (place.second c.inbox_of-2.result.now c.inbox_of-2.ensures).sends) (ap (λ (b : OutboxView). b.sends) c.outbox-third.ensures ∙ (place.third c.inbox_of-3.result.now c.inbox_of-3.ensures).sends) lane) in
    subst (λ (number : ℕ). RunsOn g.W.Named.world number (node_view n).lanes o work) (sym c.from-number.ensures)
    (node-runs n ready.stands ready.fresh o (made.ways ∙ c.in_ok-ways.ensures) made.waits (by n.first ready.first) (by n.second ready.second) (λ some. (ready.first some).0) (λ some. (ready.second some).0)
    g.W.Named.world work c.in_ok-new-2.ensures.empty made.places (ap (λ (bs : List OutboxView). length bs) (made.outboxes ∙ three)))

pub of-core-requires-clause-few : goal.of-core-requires-clause-few
of-core-requires-clause-few g c = few-lanes c.args.node

pub new-requires-3-clause-empty : goal.new-requires-3-clause-empty
new-requires-3-clause-empty g c = ap (λ (core : Core _ _ _ _ _). core.work.items) c.of-core.ensures.value ∙ c.in_ok-new-2.ensures.empty

pub new-requires-3-clause-number : goal.new-requires-3-clause-number
new-requires-3-clause-number g c =
    subst (λ (core : Core _ _ _ _ _). core.number < 2 ^ 16) (sym c.of-core.ensures.value) (subst (λ (number : ℕ). number < 2 ^ 16) (sym c.from-number.ensures) c.requires.ready.stands.small)

pub new-requires-3-clause-taking : goal.new-requires-3-clause-taking
new-requires-3-clause-taking g c =
    let n = c.args.node in
    subst (λ (core : Core _ _ _ _ _). IsTaking core.number (node_view core.nodes).lanes (g.M.Mailbox.ends.takes_of c.args.place.own.taker).counts) (sym c.of-core.ensures.value)
    (subst (λ (number : ℕ). IsTaking number (node_view n).lanes (g.M.Mailbox.ends.takes_of c.args.place.own.taker).counts) (sym c.from-number.ensures)
    (subst (λ (counts : List TakeCount). IsTaking n.executor (node_view n).lanes counts) (sym (ap (λ (t : TakerView). t.counts) (c.requires.place.own c.inbox_of-inbox.result.now (subst (λ (k : ℕ). slice_get c.args.inboxes.now k ≡ Some c.inbox_of-inbox.result.now) c.from-number.ensures c.inbox_of-inbox.ensures)).takes))
    (node-taking n c.requires.ready.stands c.requires.ready.fresh)))

pub new-requires-3-clause-taker : goal.new-requires-3-clause-taker
new-requires-3-clause-taker g c = (c.requires.place.own c.inbox_of-inbox.result.now (subst (λ (k : ℕ). slice_get c.args.inboxes.now k ≡ Some c.inbox_of-inbox.result.now) c.from-number.ensures c.inbox_of-inbox.ensures)).taker

pub new-requires-3-clause-fresh : goal.new-requires-3-clause-fresh
new-requires-3-clause-fresh g c = ap (λ (t : TakerView). t.pops) (c.requires.place.own c.inbox_of-inbox.result.now (subst (λ (k : ℕ). slice_get c.args.inboxes.now k ≡ Some c.inbox_of-inbox.result.now) c.from-number.ensures c.inbox_of-inbox.ensures)).takes

pub new-requires-3-clause-owner : goal.new-requires-3-clause-owner
new-requires-3-clause-owner g c = (c.requires.place.own c.inbox_of-inbox.result.now (subst (λ (k : ℕ). slice_get c.args.inboxes.now k ≡ Some c.inbox_of-inbox.result.now) c.from-number.ensures c.inbox_of-inbox.ensures)).owner
