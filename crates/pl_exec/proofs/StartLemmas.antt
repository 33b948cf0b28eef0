-- An executor before its first turn: what its nodes, its outboxes and its own queue have come to.
use Rattle.std.specs.Global.{Vec}
use Rattle.std.proofs.Common.{◌≡◌, ◌≢◌, ℕ, ◌-◌, ◌<◌, ◌^◌, true, false, List, [], ◌∷◌, length, map, get_or, slice_get, Option, Some, None, refl, ap, sym, ◌∙◌, subst, ⊎_elim, arith}
use Rattle.std.specs.Option.{option_map, option_map_or}
use Rattle.std.proofs.lemmas.Bool.{cases_eq, false≢true}
use Rattle.std.proofs.lemmas.Option.{none-some, same_Some, slice_get-map, slice_get_within, get_or_from_slice_get}
use Rattle.pl_event.specs.declared.envelopes.Lane.{Lane}
use Rattle.pl_event.specs.Worlds.{World}
use Rattle.pl_event.proofs.Lists.{All-at, All-from-at, at-index}
use Rattle.pl_context.specs.Backlogs.{BacklogView}
use Rattle.pl_context.specs.declared.waiting.Stamp.{Stamp}
use Rattle.pl_context.specs.OutputsViews.{OutputsView}
use Rattle.pl_context.specs.Stops.{StopsView, AreAmong, HasPlaces, no_stops}
use Rattle.pl_context.specs.WaitingViews.{stops_for}
use Rattle.pl_queue.specs.declared.views.SenderView.{SenderView}
use Rattle.pl_queue.specs.declared.views.TakerView.{TakerView}
use Rattle.pl_queue.specs.Ends.{MailboxEnds}
use Rattle.pl_queue.specs.Left.{lanes_of_senders}
use Rattle.pl_queue.specs.Views.{has_lane, next_of}
use Rattle.pl_words.specs.Admissions.{AdmittedView}
use Rattle.pl_flow.specs.Flows.{point, nowhere, on, past}
use Rattle.pl_outbox.specs.Sent.{sent_at}
use Rattle.pl_outbox.specs.OutboxViews.{OutboxView, OutboxesView, waits_for, sent_to, way_to, reached}
use Rattle.pl_threads.specs.NodesViews.{OwnNodesView}
use Rattle.pl_threads.specs.Running.{RunsOn, IsTaking}
use Rattle.pl_threads.proofs.RunLemmas.{runs-start}
use Rattle.pl_exec.specs.Opening.{lanes_to, table_lanes, is_way, InboxView, OwnView, ColumnView, WaysView, HasWays, CanDealAll, Starts, CanStart}
use Rattle.pl_exec.proofs.LaneLemmas.{sent_at-fresh, next_of-new}
use Rattle.pl_exec.proofs.Ways.{own-way, lanes-way}

found-or : {A B : Type 0} (f : A → B) (found : Option A) (d b : B) → option_map f found ≡ Some b → option_map_or f found d ≡ b
found-or f None d b is = absurd (none-some b is)
found-or f (Some a) d b is = same_Some (f a) b is

module _ {M S T N : Type 0} (ends : MailboxEnds M S T) (view_of : N → OwnNodesView) (stands : N → Type 0) (inboxes : List (InboxView M)) (me : ℕ) (own : OwnView T) (its_ways : WaysView) (nodes : N) (data_lanes : ℕ)
    (s : Starts ends view_of stands inboxes me own its_ways nodes data_lanes) (here : me < length inboxes) where
  -- the taker has taken nothing, and what it is to take is for these nodes
  pub starts-taking : IsTaking me (view_of nodes).lanes (ends.takes_of own.taker).counts
  starts-taking l n next =
      let mine = at-index inboxes me here in
      let own = s.own mine.0 mine.1 in
      let new = next_of-new (lanes_of_senders (lanes_to s.lanes me)) l n (ap (λ (t : TakerView). next_of l t.counts) (sym own.takes) ∙ next) in
      let enters = s.fits.entering l new.0 in
      (enters.0, enters.1, enters.2 ∙ new.1)

  module _ (world : World) (o : OutboxesView) (outboxes : o.outboxes ≡ its_ways.outboxes) (ways : o.ways ≡ its_ways.ways) (waits : (y : ℕ) → waits_for o y ≡ []) (reserved : map (λ b. b.stopped) o.waiting.targets ≡ map no_stops its_ways.places) where
    abbrev has : HasWays s.lanes me s.places (length s.lanes) its_ways
    has = s.ways

    count : length o.outboxes ≡ length has.targets
    count = ap (λ (l : List OutboxView). length l) outboxes ∙ sym has.outboxes_count

    -- by way the lanes to its target
    abbrev hops : ℕ → List Lane
    hops way = s.fits.hops (get_or has.targets way 0)

    -- there is a way for each lane that the nodes write
    way-for : (l : Lane) → (view_of nodes).lanes.written l ≡ true → (slice_get has.targets (way_to o ((view_of nodes).lanes.target l)) ≡ Some ((view_of nodes).lanes.target l))
    way-for l written =
        let y = (view_of nodes).lanes.target l in
        let way = has.ways y (s.fits.there l written) (is-way y l written refl) in
        ap (λ (k : ℕ). slice_get has.targets k) (ap (λ (ws : List ℕ). get_or ws y (2 ^ 16 - 1)) ways ∙ get_or_from_slice_get its_ways.ways y way.0 (2 ^ 16 - 1) way.1) ∙ way.2
      where
        has-some : (l : Lane) (lanes : List Lane) → has_lane l lanes ≡ true → 0 < length lanes
        has-some l [] h = absurd (false≢true h)
        has-some l (m ∷ ms) h = omega arith

        is-way : (y : ℕ) (l : Lane) → (view_of nodes).lanes.written l ≡ true → (view_of nodes).lanes.target l ≡ y → is_way y me (table_lanes s.lanes me y) ≡ true
        is-way y l written to = ⊎_elim
            (λ (e : y ≡ me). subst (λ (k : ℕ). is_way k me (table_lanes s.lanes me k) ≡ true) (sym e) (own-way me (table_lanes s.lanes me me)))
            (λ (e : y ≡ me → ⊥).
            lanes-way y me (table_lanes s.lanes me y) (has-some l (table_lanes s.lanes me y) (subst (λ (k : ℕ). has_lane l (table_lanes s.lanes me k) ≡ true) to (s.fits.away l written (λ t. e (sym to ∙ t))))))
            (cases_eq y me)

    way-there : (l : Lane) → (view_of nodes).lanes.written l ≡ true → way_to o ((view_of nodes).lanes.target l) < length o.outboxes
    way-there l written =
        let within = slice_get_within has.targets (way_to o ((view_of nodes).lanes.target l)) ((view_of nodes).lanes.target l) (way-for l written) in omega (arith, within, count)

    -- nothing was sent on it
    sent-first : (l : Lane) → (view_of nodes).lanes.target l ≢ me → (view_of nodes).lanes.written l ≡ true → sent_to o (way_to o ((view_of nodes).lanes.target l)) l ≡ point 0 false
    sent-first l away written =
        let x = (view_of nodes).lanes.target l in
        let way = way_to o x in
        let there = way-there l written in
        let b = at-index its_ways.outboxes way (let same = ap (λ (l : List OutboxView). length l) outboxes in omega (arith, there, same)) in
        ap (λ (bs : List OutboxView). option_map_or (λ (b : OutboxView). sent_at b.sends.send_counts l) (slice_get bs way) nowhere) outboxes
        ∙ ap (λ (b : Option OutboxView). option_map_or (λ (b : OutboxView). sent_at b.sends.send_counts l) b nowhere) b.1
        ∙ ap (λ (v : SenderView). sent_at v.send_counts l) (has.each way x b.0 (way-for l written) b.1).sends
        ∙ sent_at-fresh (table_lanes s.lanes me x) l (s.fits.away l written away)

    reached-first : (l : Lane) → (view_of nodes).lanes.target l ≢ me → (view_of nodes).lanes.written l ≡ true → reached o (way_to o ((view_of nodes).lanes.target l)) l ≡ point 0 false
    reached-first l away written = let way = way_to o ((view_of nodes).lanes.target l) in ap (λ zs. past (sent_to o way l) (on l zs)) (waits way) ∙ sent-first l away written

    placed-first : (way : ℕ) → way < length o.outboxes → HasPlaces (stops_for o.waiting way) (hops way)
    placed-first way within =
        let target = at-index has.targets way (omega (arith, within, count)) in
        let place = at-index its_ways.places way (let n = has.places_count in omega (arith, within, count, n)) in
        let stopped = λ (b : BacklogView (Stamp AdmittedView)). b.stopped in
        let is : option_map stopped (slice_get o.waiting.targets way) ≡ Some (no_stops place.0) =
        sym (slice_get-map stopped o.waiting.targets way) ∙ ap (λ (l : List StopsView). slice_get l way) reserved ∙ slice_get-map no_stops its_ways.places way ∙ ap (option_map no_stops) place.1 in
        subst (λ (z : StopsView × ℕ). HasPlaces z.0 (s.fits.hops z.1))
        (λ i. (sym (found-or stopped (slice_get o.waiting.targets way) (no_stops 0) (no_stops place.0) is) i, sym (get_or_from_slice_get has.targets way target.0 0 target.1) i))
        (s.fits.placed target.0 place.0 (has.placed way target.0 place.0 target.1 place.1))

    among-first : (l : Lane) → (view_of nodes).lanes.written l ≡ true → AreAmong (l ∷ []) (hops (way_to o ((view_of nodes).lanes.target l)))
    among-first l written =
        let x = (view_of nodes).lanes.target l in
        subst (λ (k : ℕ). AreAmong (l ∷ []) (s.fits.hops k)) (sym (get_or_from_slice_get has.targets (way_to o x) x 0 (way-for l written))) (s.fits.among l written)

    -- nothing was made, so all that was made has gone on
    pub starts-running : (work : OutputsView) → work.items ≡ [] → RunsOn world me (view_of nodes).lanes o work
    starts-running work none =
        runs-start world me (view_of nodes).lanes o work none
        (λ l here written. (false, s.fits.fresh l written ∙ ap (λ (n : ℕ). point n false) (sym (s.fits.own l written here))))
        (λ l away written. s.fits.fresh l written ∙ sym (reached-first l away written))
        (λ l written away. way-there l written)
        hops placed-first among-first

module _ {M S T N : Type 0} (ends : MailboxEnds M S T) (view_of : N → OwnNodesView) (stands : N → Type 0) (inboxes : List (InboxView M)) (all : List (OwnView T)) (columns : List (ColumnView S)) (nodes : List N) (data_lanes : ℕ) (places : List (Vec ℕ))
    (can : CanStart ends view_of stands inboxes all columns nodes data_lanes places) where
  -- the columns can be given to them
  pub start-deals : CanDealAll ends can.lanes inboxes columns places
  start-deals = record {
    placed = record {
      square = can.square;
      count = can.fit.places_count;
      targets = All-from-at (λ (row : Vec ℕ). length row.items ≡ length can.lanes) places (λ n row at.
          let within = slice_get_within places n row at in
          let part = at-index nodes n (let some = can.fit.nodes_count in let size = can.fit.places_count in omega (arith, within, some, size)) in
          (can.fit.each n part.0 row part.1 at).targets);
    };
    inboxes_count = can.count;
    whole = can.opened.whole;
  }

  -- each that can start does, by its ways
  pub each-starts : (number : ℕ) (own : OwnView T) (part : N) (row : Vec ℕ) (v : WaysView) → slice_get all number ≡ Some own → slice_get nodes number ≡ Some part → slice_get places number ≡ Some row
      → HasWays can.lanes number row.items (length can.lanes) v → Starts ends view_of stands inboxes number own v part data_lanes
  each-starts number own part row v at-own at-nodes at-places has = record {
    lanes = can.lanes;
    places = row.items;
    square = can.square;
    count = can.count;
    own = λ inbox there. can.opened.own number inbox own there at-own;
    ways = has;
    stood = All-at stands nodes number part can.fit.stand at-nodes;
    fits = can.fit.each number part row at-nodes at-places;
  }
