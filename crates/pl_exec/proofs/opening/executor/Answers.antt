use Rattle.std.proofs.Common.{List, length, map, ap, sym, subst, ◌∙◌, arith, ℕ, ◌<◌, ◌^◌}
use Rattle.std.specs.Prelude.{All}
use Rattle.std.proofs.lemmas.Bool.{false≢true}
use Rattle.pl_context.specs.Stops.{HasPlaces, StopsView, no_stops}
use Rattle.pl_queue.specs.declared.views.TakerView.{TakerView}
use Rattle.pl_words.specs.Admissions.{OwnerSeatView}
use Rattle.pl_outbox.specs.OutboxViews.{IsNew, OutboxView, waits_for}
use Rattle.pl_threads.specs.declared.cores.Core.{Core}
use Rattle.pl_threads.specs.Running.{ExecutorView, IsTaking}
use Rattle.pl_exec.specs.Opening.{OwnView, WaysView, inbox_view}
use Rattle.pl_exec.proofs.Columns.{inboxes-count, inboxes-within, shown-at}
use Rattle.pl_exec.proofs.StartLemmas.{starts-taking, starts-running}
use Rattle.pl_exec.proofs.WaysDealt.{outboxes-new}
use Rattle.pl_exec.proofs.opening.executor.Goals as goal

-- ---- its outboxes

pub new-requires-clause-new : goal.new-requires-clause-new
new-requires-clause-new g c =
    let s = c.requires.starts in
    subst (λ (l : List OutboxView). All IsNew l) (sym (ap (λ (v : WaysView). v.outboxes) c.ways.view_is)) (outboxes-new s.lanes c.args.number s.places (length s.lanes) c.args.ways s.ways)

pub new-requires-clause-places : goal.new-requires-clause-places
new-requires-clause-places g c =
    let has = c.requires.starts.ways in
    let n = has.outboxes_count in
    let m = has.places_count in
    let reserved = ap (λ (counts : List ℕ). length counts) c.as_slice.ensures.value in
    let places = ap (λ (v : WaysView). length v.places) c.ways.view_is in
    let outboxes = ap (λ (v : WaysView). length v.outboxes) c.ways.view_is in
    omega (arith, n, m, reserved, places, outboxes)

pub new-requires-clause-few : goal.new-requires-clause-few
new-requires-clause-few g c =
    let s = c.requires.starts in
    let few = s.ways.few in
    let n = s.ways.outboxes_count in
    let count = s.count in
    let outboxes = ap (λ (v : WaysView). length v.outboxes) c.ways.view_is in
    omega (arith, few, n, count, outboxes, inboxes-count c.args.inboxes.now, c.requires.few)

-- ---- its core

pub of-core-requires-clause-stands : goal.of-core-requires-clause-stands
of-core-requires-clause-stands g c = c.requires.starts.stood

pub of-core-requires-clause-executor : goal.of-core-requires-clause-executor
of-core-requires-clause-executor g c = c.requires.starts.fits.at

pub of-core-requires-clause-places : goal.of-core-requires-clause-places
of-core-requires-clause-places g c =
    subst (λ (z : StopsView). HasPlaces z (g.N.OwnNodes.view_of c.args.nodes).lanes.places) (sym c.in_ok-new-2.ensures.places) c.requires.starts.fits.work

pub of-core-requires-clause-why : goal.of-core-requires-clause-why
of-core-requires-clause-why g c = λ refused. absurd (false≢true (sym c.requires.starts.fits.unrefused ∙ refused))

pub of-core-requires-clause-few : goal.of-core-requires-clause-few
of-core-requires-clause-few g c = c.requires.starts.fits.few

pub of-core-requires-clause-admitted : goal.of-core-requires-clause-admitted
of-core-requires-clause-admitted g c = c.in_ok-new.ensures.admitted

pub of-core-requires-clause-empty : goal.of-core-requires-clause-empty
of-core-requires-clause-empty g c = c.in_ok-new-2.ensures.empty

pub of-core-requires-clause-runs : goal.of-core-requires-clause-runs
of-core-requires-clause-runs g c =
    let o = c.in_ok-new.ensures in
    starts-running g.M.Mailbox.ends g.N.OwnNodes.view_of g.N.OwnNodes.stands (map inbox_view c.args.inboxes.now) c.args.number c.args.own_ends c.args.ways c.args.nodes c.args.data_lanes c.requires.starts (inboxes-within c.args.inboxes.now c.args.number c.requires.there)
    g.W.Named.world c.in_ok-new.field-0 (o.outboxes ∙ ap (λ (v : WaysView). v.outboxes) c.ways.view_is) (o.ways ∙ ap (λ (v : WaysView). v.ways) c.ways.view_is) o.waits
    (o.places ∙ ap (λ (counts : List ℕ). map no_stops counts) (c.as_slice.ensures.value ∙ ap (λ (v : WaysView). v.places) c.ways.view_is)) c.in_ok-new-2.field-0 c.in_ok-new-2.ensures.empty

-- ---- the executor

pub new-requires-3-clause-number : goal.new-requires-3-clause-number
new-requires-3-clause-number g c = subst (λ (core : Core _ _ _ _ _). core.number < 2 ^ 16) (sym c.of-core.ensures.value) (omega (arith, c.requires.there, c.requires.few))

pub new-requires-3-clause-empty : goal.new-requires-3-clause-empty
new-requires-3-clause-empty g c = ap (λ (core : Core _ _ _ _ _). core.work.items) c.of-core.ensures.value ∙ c.in_ok-new-2.ensures.empty

pub new-requires-3-clause-taker : goal.new-requires-3-clause-taker
new-requires-3-clause-taker g c =
    let inbox = c.index-inboxes-number.result in
    let own = c.requires.starts.own (inbox_view inbox) (shown-at inbox_view c.args.inboxes.now c.args.number inbox c.requires.there c.index-inboxes-number.is) in
    subst (λ (t : g.row.M-Taker.Denot). g.M.Mailbox.ends.is_taker inbox.mailbox t) (sym (ap (λ (o : OwnView g.row.M-Taker.Denot). o.taker) c.own_ends.view_is)) own.taker

pub new-requires-3-clause-taking : goal.new-requires-3-clause-taking
new-requires-3-clause-taking g c =
    subst (λ (z : Core _ _ g.row.N.Denot _ _ × g.row.M-Taker.Denot). IsTaking z.0.number (g.N.OwnNodes.view_of z.0.nodes).lanes (g.M.Mailbox.ends.takes_of z.1).counts)
    (λ i. (sym c.of-core.ensures.value i, sym (ap (λ (o : OwnView g.row.M-Taker.Denot). o.taker) c.own_ends.view_is) i))
    (starts-taking g.M.Mailbox.ends g.N.OwnNodes.view_of g.N.OwnNodes.stands (map inbox_view c.args.inboxes.now) c.args.number c.args.own_ends c.args.ways c.args.nodes c.args.data_lanes c.requires.starts (inboxes-within c.args.inboxes.now c.args.number c.requires.there))

pub new-requires-3-clause-fresh : goal.new-requires-3-clause-fresh
new-requires-3-clause-fresh g c =
    let inbox = c.index-inboxes-number.result in
    let own = c.requires.starts.own (inbox_view inbox) (shown-at inbox_view c.args.inboxes.now c.args.number inbox c.requires.there c.index-inboxes-number.is) in
    ap (λ (o : OwnView g.row.M-Taker.Denot). (g.M.Mailbox.ends.takes_of o.taker).pops) c.own_ends.view_is ∙ ap (λ (v : TakerView). v.pops) own.takes

pub new-requires-3-clause-owner : goal.new-requires-3-clause-owner
new-requires-3-clause-owner g c =
    let inbox = c.index-inboxes-number.result in
    let own = c.requires.starts.own (inbox_view inbox) (shown-at inbox_view c.args.inboxes.now c.args.number inbox c.requires.there c.index-inboxes-number.is) in
    ap (λ (o : OwnView g.row.M-Taker.Denot). o.owner) c.own_ends.view_is ∙ own.owner

pub returns-clause-nodes : goal.returns-clause-nodes
returns-clause-nodes g c = ap (λ (e : ExecutorView g.row.N.Denot). e.nodes) c.new-3.ensures ∙ ap (λ (core : Core _ _ _ _ _). core.nodes) c.of-core.ensures.value

pub returns-clause-first : goal.returns-clause-first
returns-clause-first g c =
    let inbox = c.index-inboxes-number.result in
    let own = c.requires.starts.own (inbox_view inbox) (shown-at inbox_view c.args.inboxes.now c.args.number inbox c.requires.there c.index-inboxes-number.is) in
    let is = c.new-3.ensures in
    record {
      numbered = ap (λ (e : ExecutorView g.row.N.Denot). e.number) is ∙ ap (λ (core : Core _ _ _ _ _). core.number) c.of-core.ensures.value;
      turns = ap (λ (e : ExecutorView g.row.N.Denot). e.turns) is;
      waits = λ target. ap (λ (e : ExecutorView g.row.N.Denot). waits_for e.outboxes target) is ∙ ap (λ (core : Core _ _ _ _ _). waits_for core.outboxes target) c.of-core.ensures.value ∙ c.in_ok-new.ensures.waits target;
      taken = ap (λ (e : ExecutorView g.row.N.Denot). e.takes.pops) is ∙ ap (λ (o : OwnView g.row.M-Taker.Denot). (g.M.Mailbox.ends.takes_of o.taker).pops) c.own_ends.view_is ∙ ap (λ (v : TakerView). v.pops) own.takes;
      phase = ap (λ (e : ExecutorView g.row.N.Denot). e.owner.phase) is ∙ ap (λ (o : OwnView g.row.M-Taker.Denot). o.owner.phase) c.own_ends.view_is ∙ ap (λ (o : OwnerSeatView). o.phase) own.owner;
    }
