use Rattle.std.proofs.Common.{◌≡◌, ◌+◌, ◌++◌, ◌∷◌, [], ℕ, List, Some, sym, ap, subst, ◌∙◌, arith}
use Rattle.std.specs.Prelude.{slice_get}
use Rattle.std.proofs.lemmas.List.{nil_from_length}
use Rattle.pl_event.specs.declared.events.Event.{Event}
use Rattle.pl_world.specs.Plans.{ChannelPlan}
use Rattle.pl_world.specs.Reports.{tail_of}
use Rattle.pl_live.specs.LiveStand.{LiveView, LiveStands, LiveRests, HandsOut, consumed_of, handed_in, parts_of, recorded_in}
use Rattle.pl_live.proofs.Changed.{handed-out, next-is, next-delivered, delivered-few, delivered-rests}
use Rattle.pl_live.proofs.Pending.{all-delivered, few-events}
use Rattle.pl_live.proofs.live.Live.next_event.Goals as goal
use Rattle.pl_live.proofs.live.Live.next_event.Goals.{In_ok-event, In_err-event}

-- ---- an event is next

-- the channel once a record is next
abbrev seen : (g : _) (c : In_ok-event g) → LiveView g.row.S.Denot g.row.T.Denot
seen g c = record { stations = c.self.inside.stations; room = c.self.inside.room; ends = c.self.inside.ends; delivered = c.self.inside.delivered; front = c.self.inside.front.items; gone = c.self.inside.gone; consumed = c.self.inside.consumed }

events : (g : _) (c : In_ok-event g) (p : ChannelPlan) → LiveStands g.S.Stage.meaning g.S.Stage.stands_after g.T.Transport.state p (seen g c)
    → HandsOut (tail_of p) c.self.inside.delivered (c.in_ok-event.event ∷ c.pop_front.new.self.items) (handed_in (parts_of (seen g c)))
events g c p s = subst (λ (front : List Event). HandsOut (tail_of p) c.self.inside.delivered front (handed_in (parts_of (seen g c)))) c.in_ok-event.ensures.items s.handed.events

delivered : (g : _) (c : In_ok-event g) → c.self.inside.delivered ≡ c.args.self.now.delivered
delivered g c = ap (λ (l : LiveView _ _). l.delivered) (c.self.view_is ∙ c.fill_front.ensures.same)

pub overflow_add-self : goal.overflow_add-self
overflow_add-self g c =
    let at = (goal.at.overflow_add-self g c).In_ok-event in
    let p = c.self.invariant.0 in
    let s = c.self.invariant.1 in
    omega (arith, delivered-few (tail_of p) c.self.inside.delivered c.in_ok-event.event c.pop_front.new.self.items (handed_in (parts_of (seen g at))) (events g at p s), few-events g.S.Stage.meaning g.S.Stage.stands_after g.T.Transport.state p (seen g at) s)

pub invariant_of-self-2 : goal.invariant_of-self-2
invariant_of-self-2 g c =
    let at = (goal.at.invariant_of-self-2 g c).In_ok-event in
    let live = seen g at in
    let p = c.self.invariant.0 in
    let s = c.self.invariant.1 in (
      p,
      handed-out g.S.Stage.meaning g.S.Stage.stands_after g.T.Transport.state p live s (live.delivered + 1) c.pop_front.new.self.items live.consumed
          (next-delivered (tail_of p) live.delivered c.in_ok-event.event c.pop_front.new.self.items (handed_in (parts_of live)) (events g at p s)) s.handed.consumed_within,
    )

pub returns-clause-next : goal.returns-clause-next
returns-clause-next g c = λ event is p s.
    let at = (goal.at.returns-clause-next g c).In_ok-event in
    let live = seen g at in
    let stands = subst (LiveStands g.S.Stage.meaning g.S.Stage.stands_after g.T.Transport.state p) (sym c.self.view_is) (c.fill_front.ensures.stands p s) in
    ap (λ (n : ℕ). slice_get (tail_of p) n) (sym (delivered g at))
    ∙ next-is (tail_of p) live.delivered c.in_ok-event.event c.pop_front.new.self.items (handed_in (parts_of live)) (events g at p stands) ∙ is

pub returns-clause-delivered : goal.returns-clause-delivered
returns-clause-delivered g c = λ event is. ap (λ (n : ℕ). n + 1) (delivered g (goal.at.returns-clause-delivered g c).In_ok-event)

pub returns-clause-rests : goal.returns-clause-rests
returns-clause-rests g c = λ p r.
    let at = (goal.at.returns-clause-rests g c).In_ok-event in
    let live = seen g at in
    let rests = subst (LiveRests g.S.Stage.meaning g.S.Stage.stands_after g.T.Transport.state p) (sym c.self.view_is) (c.fill_front.ensures.rests p r) in
    delivered-rests g.S.Stage.meaning g.S.Stage.stands_after g.T.Transport.state p live rests (live.delivered + 1) c.pop_front.new.self.items
    (next-delivered (tail_of p) live.delivered c.in_ok-event.event c.pop_front.new.self.items (handed_in (parts_of live)) (events g at p rests.stands))

pub returns-clause-handed : goal.returns-clause-handed
returns-clause-handed g c =
    let same = c.self.view_is ∙ c.fill_front.ensures.same in
    (ap (λ (l : LiveView _ _). consumed_of l) same, ap (λ (l : LiveView _ _). l.ends) same)

-- ---- none is left

-- the channel as it was
abbrev kept : (g : _) (c : In_err-event g) → LiveView g.row.S.Denot g.row.T.Denot
kept g c = record { stations = c.self.inside.stations; room = c.self.inside.room; ends = c.self.inside.ends; delivered = c.self.inside.delivered; front = c.self.inside.front.items; gone = c.self.inside.gone; consumed = c.self.inside.consumed }

no-front : (g : _) (c : In_err-event g) → (c.self.inside.front.items ≡ []) × (c.pop_front.new.self.items ≡ [])
no-front g c =
    let none = c.in_err-event.ensures.cases in (
      nil_from_length c.self.inside.front.items (omega (arith, none.0, c.self.inside.front.ok.0)),
      nil_from_length c.pop_front.new.self.items (omega (arith, none.1, c.pop_front.new.self.ok.0)),
    )

-- it is as it was, and its tail holds nothing
none : (g : _) (c : In_err-event g) → (c.fill_front.new.self ≡ c.args.self.now) × (recorded_in (parts_of c.args.self.now) ≡ [])
none g c = c.fill_front.ensures.none (sym (ap (λ (l : LiveView _ _). l.front) c.self.view_is) ∙ (no-front g c).0)

same : (g : _) (c : In_err-event g) → ◌≡◌ {A = LiveView g.row.S.Denot g.row.T.Denot} (record (kept g c) { front = c.pop_front.new.self.items }) c.args.self.now
same g c =
    (λ i. record (kept g c) { front = ((no-front g c).1 ∙ sym (no-front g c).0) i })
    ∙ c.self.view_is ∙ (none g c).0

no-next : (g : _) (c : In_err-event g) → c.args.self.now.front ≡ []
no-next g c = ap (λ (l : LiveView _ _). l.front) (sym (c.self.view_is ∙ (none g c).0)) ∙ (no-front g c).0

pub returns-in_err-event-clause-none : goal.returns-in_err-event-clause-none
returns-in_err-event-clause-none g c = λ _.
    let at = (goal.at.returns-in_err-event-clause-none g c).In_err-event in
    (same g at, no-next g at, (none g at).1)

pub returns-in_err-event-clause-all : goal.returns-in_err-event-clause-all
returns-in_err-event-clause-all g c = λ _ p w r sound window consumed.
    let at = (goal.at.returns-in_err-event-clause-all g c).In_err-event in
    all-delivered g.S.Stage.meaning g.S.Stage.stands_after g.T.Transport.state p c.args.self.now r sound w window consumed (no-next g at) (none g at).1

pub returns-in_err-event-clause-rests : goal.returns-in_err-event-clause-rests
returns-in_err-event-clause-rests g c = λ p r.
    subst (LiveRests g.S.Stage.meaning g.S.Stage.stands_after g.T.Transport.state p) (sym (same g (goal.at.returns-in_err-event-clause-rests g c).In_err-event)) r

pub returns-in_err-event-clause-handed : goal.returns-in_err-event-clause-handed
returns-in_err-event-clause-handed g c =
    let was = same g (goal.at.returns-in_err-event-clause-handed g c).In_err-event in
    (ap (λ (l : LiveView _ _). consumed_of l) was, ap (λ (l : LiveView _ _). l.ends) was)
