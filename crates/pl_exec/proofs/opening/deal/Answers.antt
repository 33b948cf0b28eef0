use Rattle.std.proofs.Common.{length, map, inl, inr, ap, sym, ◌∙◌, arith}
use Rattle.std.proofs.lemmas.List.{nil_from_length}
use Rattle.pl_exec.specs.Opening.{CanDeal, ColumnView, LaneTable, inbox_view}
use Rattle.pl_exec.proofs.Columns.{inboxes-count, shown-there}
use Rattle.pl_exec.proofs.WaysDealt.{DealsOne, deals-one, deals-start, dealt-origins, dealt-seats, dealt-senders}
use Rattle.pl_exec.proofs.opening.deal.Goals as goal
use Rattle.pl_exec.proofs.opening.deal.Goals.{In-Some}

-- ---- the next of the column

next : (g : _) (c : In-Some g) (lanes : LaneTable) (can : CanDeal g.M.Mailbox.ends lanes (map inbox_view c.args.inboxes.now) c.args.target c.args.column c.args.places.now c.args.rows.now.items)
    → DealsOne g.M.Mailbox.ends lanes (map inbox_view c.args.inboxes.now) c.args.target c.args.places.now (inbox_view c.index-inboxes-target.result) c.loop-origin.rows.items c.in-Some.origin c.in-Some.sender c.in-Some.seat
    (record { origins = c.next.new.self.a.a.rest.items; senders = c.next.new.self.a.b.rest.items; seats = c.next.new.self.b.rest.items })
next g c lanes can =
    let left = c.loop-origin.origin-iterator in
    let behind = c.next.new.self in
    let steps = c.in-Some.ensures.steps in
    let inbox = c.index-inboxes-target.result in
    deals-one g.M.Mailbox.ends lanes (map inbox_view c.args.inboxes.now) c.args.target c.args.places.now can.placed can.there (record { origins = left.a.a.rest.items; senders = left.a.b.rest.items; seats = left.b.rest.items })
    c.loop-origin.rows.items (c.loop-origin.invariant lanes can) (inbox_view inbox)
    (shown-there inbox_view c.args.inboxes.now c.args.target (length lanes) inbox can.there can.inboxes_count c.index-inboxes-target.is) c.in-Some.origin c.in-Some.sender c.in-Some.seat
    (record { origins = behind.a.a.rest.items; senders = behind.a.b.rest.items; seats = behind.b.rest.items }) steps.0.0.0 steps.0.1.0 steps.1.0

some-next : (g : _) (c : In-Some g)
    → DealsOne g.M.Mailbox.ends c.requires.deal.0 (map inbox_view c.args.inboxes.now) c.args.target c.args.places.now (inbox_view c.index-inboxes-target.result) c.loop-origin.rows.items c.in-Some.origin c.in-Some.sender c.in-Some.seat
    (record { origins = c.next.new.self.a.a.rest.items; senders = c.next.new.self.a.b.rest.items; seats = c.next.new.self.b.rest.items })
some-next g c = next g c c.requires.deal.0 c.requires.deal.1

pub bounds-places-origin : goal.bounds-places-origin
bounds-places-origin g c = (some-next g (goal.at.bounds-places-origin g c).In-Some).in_places

pub index-reserved-requires : goal.index-reserved-requires
index-reserved-requires g c =
    let long = (some-next g (goal.at.index-reserved-requires g c).In-Some).reserved c.index-places-origin.result c.index-places-origin.is in omega (arith, long, c.index-places-origin.result.ok.0)

pub index_mut-requires : goal.index_mut-requires
index_mut-requires g c = let lt = (some-next g (goal.at.index_mut-requires g c).In-Some).in_all in omega (arith, lt, c.loop-origin.rows.ok.0)

pub new-requires-clause-sender : goal.new-requires-clause-sender
new-requires-clause-sender g c = (some-next g (goal.at.new-requires-clause-sender g c).In-Some).sender

pub new-requires-clause-seat : goal.new-requires-clause-seat
new-requires-clause-seat g c = (some-next g (goal.at.new-requires-clause-seat g c).In-Some).seat

pub add-requires-clause-there : goal.add-requires-clause-there
add-requires-clause-there g c = (some-next g (goal.at.add-requires-clause-there g c).In-Some).wide c.index_mut.result.now c.index_mut.ensures.value

pub add-requires-clause-few : goal.add-requires-clause-few
add-requires-clause-few g c =
    let can = c.requires.deal.1 in
    let few = (some-next g (goal.at.add-requires-clause-few g c).In-Some).few c.index_mut.result.now c.index_mut.ensures.value in
    let within = can.there in
    let count = can.inboxes_count in omega (arith, few, within, count, inboxes-count c.args.inboxes.now, c.requires.few)

-- ---- the walk

pub loop-origin-init : goal.loop-origin-init
loop-origin-init g c = λ lanes can.
    let at = c.into_iter-origin-iterator.result in
    let gives = c.into_iter-origin-iterator.ensures.into_iter_gives in
    let outer = c.zip-origin-items.ensures in
    let inner = c.zip.ensures in
    let is = c.column.view_is in
    let origins = (λ i. (gives i).a.a.rest.items) ∙ (λ i. (outer.first i).a.rest.items) ∙ (λ i. (inner.first i).rest.items) ∙ c.into_iter.ensures.rest ∙ ap (λ (v : ColumnView g.row.M-Sender.Denot). v.origins) is in
    let senders = (λ i. (gives i).a.b.rest.items) ∙ (λ i. (outer.first i).b.rest.items) ∙ inner.second.0 ∙ ap (λ (v : ColumnView g.row.M-Sender.Denot). v.senders) is in
    let seats = (λ i. (gives i).b.rest.items) ∙ outer.second.0 ∙ ap (λ (v : ColumnView g.row.M-Sender.Denot). v.seats) is in
    deals-start g.M.Mailbox.ends lanes (map inbox_view c.args.inboxes.now) c.args.target c.args.places.now c.args.column (record { origins = at.a.a.rest.items; senders = at.a.b.rest.items; seats = at.b.rest.items }) c.args.rows.now.items can
    (λ i. record { origins = origins i; senders = senders i; seats = seats i })

pub loop-origin-preserved : goal.loop-origin-preserved
loop-origin-preserved g c = λ lanes can.
    let added = c.in_ok-add.ensures in
    (next g (goal.at.loop-origin-preserved g c).In-Some lanes can).behind c.index_mut.result.now c.add.new.self c.index-places-origin.result c.new.result c.index-reserved.result.now c.index_mut.ensures.value c.index-places-origin.is c.new.ensures
    c.index-reserved.ensures added.ways added.outboxes added.places

pub returns-clause-count : goal.returns-clause-count
returns-clause-count g c =
    let can = c.requires.deal in
    (c.loop-origin.invariant can.0 can.1).count ∙ sym can.1.rows_count

pub returns-clause-ways : goal.returns-clause-ways
returns-clause-ways g c = λ lanes can.
    let left = c.loop-origin.origin-iterator in
    let inbox = c.index-inboxes-target.result in
    let inboxes = map inbox_view c.args.inboxes.now in
    let at-inbox = shown-there inbox_view c.args.inboxes.now c.args.target (length lanes) inbox can.there can.inboxes_count c.index-inboxes-target.is in
    let rest : ColumnView g.row.M-Sender.Denot = record { origins = left.a.a.rest.items; senders = left.a.b.rest.items; seats = left.b.rest.items } in
    let deals = c.loop-origin.invariant lanes can in
    elim c.in-None.ensures.steps [
      | inl h ↦ elim h.1 [
        | inl i ↦ dealt-origins g.M.Mailbox.ends lanes inboxes c.args.target c.args.places.now can.placed can.there rest c.loop-origin.rows.items deals (inbox_view inbox) at-inbox (nil_from_length left.a.a.rest.items (omega (arith, i.1.0, left.a.a.rest.ok)))
        | inr i ↦ dealt-senders g.M.Mailbox.ends lanes inboxes c.args.target c.args.places.now can.placed can.there rest c.loop-origin.rows.items deals (inbox_view inbox) at-inbox (nil_from_length left.a.b.rest.items (omega (arith, i.1.0, left.a.b.rest.ok)))
      ]
      | inr h ↦ dealt-seats g.M.Mailbox.ends lanes inboxes c.args.target c.args.places.now can.placed can.there rest c.loop-origin.rows.items deals (inbox_view inbox) at-inbox (nil_from_length left.b.rest.items (omega (arith, h.1.0, left.b.rest.ok)))
    ]
