-- The ways of executors, as one column after another is given to them.
use Rattle.std.proofs.Common.{◌≡◌, ◌≢◌, ℕ, zero, suc, ◌+◌, ◌-◌, ◌^◌, ◌<◌, ◌≤◌, true, false, List, [], ◌∷◌, ◌++◌, drop, length, map, get_or, set, slice_get, Some, refl, ap, sym, ◌∙◌, subst, ⊎_elim, arith, length-append}
use Rattle.std.specs.Global.{Vec}
use Rattle.std.specs.Prelude.{All}
use Rattle.std.proofs.lemmas.Bool.{cases_eq, cases_lt, false≢true}
use Rattle.std.proofs.lemmas.List.{get_or-set_other, get_or-set_same, length-map, length-replicate, length-set, nil_from_length}
use Rattle.std.proofs.lemmas.Option.{none-some, same_Some, slice_get-get_or, slice_get_read, slice_get_within, get_or_from_slice_get}
use Rattle.pl_event.proofs.Lists.{All-at, All-from-at, at-index, at_set_other, at_set_same, slice_get-behind, tail-is}
use Rattle.pl_event.specs.declared.envelopes.Lane.{Lane}
use Rattle.pl_queue.specs.declared.views.SenderView.{SenderView}
use Rattle.pl_queue.specs.Ends.{MailboxEnds}
use Rattle.pl_queue.specs.Rule.{Each}
use Rattle.pl_queue.specs.Views.{fresh_sends}
use Rattle.pl_words.specs.Admissions.{SendSeatView, new_send_seat}
use Rattle.pl_outbox.specs.OutboxViews.{OutboxView, IsNew}
use Rattle.pl_exec.proofs.Columns.{square-at}
use Rattle.pl_exec.proofs.ListSteps.{both-push, cons-head, nil-cons}
use Rattle.pl_exec.proofs.Ways.{IsNextWay, next-way, no-more}
use Rattle.pl_exec.specs.Opening.{LaneTable, lanes_to, table_lanes, InboxView, ColumnView, Way, is_way, ways_from, IsColumn, WaysView, no_ways, IsFresh, HasWays, HaveWays, HaveTargets, CanDeal, CanDealAll}

-- ---- lists

at-pushed : {A : Type 0} (xs : List A) (y : A) (i : ℕ) (x : A) → slice_get xs i ≡ Some x → slice_get (xs ++ y ∷ []) i ≡ Some x
at-pushed [] y i x e = absurd (none-some x e)
at-pushed (z ∷ xs) y zero x e = e
at-pushed (z ∷ xs) y (suc i) x e = at-pushed xs y i x e

set-there : {A : Type 0} (xs : List A) (i : ℕ) (a : A) → i < length xs → slice_get (set xs i a) i ≡ Some a
set-there xs i a within = slice_get-get_or (set xs i a) i a (let size = length-set xs i a in omega (arith, within, size)) ∙ ap (λ (z : _). Some z) (get_or-set_same xs i a a within)

set-elsewhere : {A : Type 0} (xs : List A) (i j : ℕ) (a x : A) → j ≢ i → slice_get xs j ≡ Some x → slice_get (set xs i a) j ≡ Some x
set-elsewhere xs i j a x other at =
    let within = slice_get_within xs j x at in
    slice_get-get_or (set xs i a) j x (let size = length-set xs i a in omega (arith, within, size))
    ∙ ap (λ (z : _). Some z) (get_or-set_other xs i j a x other ∙ get_or_from_slice_get xs j x x at)

below : (a b : ℕ) → a < b + 1 → (a ≡ b → ⊥) → a < b
below a b lt ne = omega (arith, lt, ne)

-- ---- the ways of one executor

module _ (lanes : LaneTable) (number : ℕ) (reserved : List ℕ) where
  none-yet : (count : ℕ) (v : WaysView) → count ≡ length lanes → v ≡ no_ways count → HasWays lanes number reserved 0 v
  none-yet count v all is = record {
    targets = [];
    few = omega arith;
    ways_count = ap (λ (w : WaysView). length w.ways) is ∙ length-replicate count (2 ^ 16 - 1) ∙ all;
    outboxes_count = sym (ap (λ (w : WaysView). length w.outboxes) is);
    places_count = sym (ap (λ (w : WaysView). length w.places) is);
    ways = λ target within way. absurd (omega (arith, within));
    each = λ way target b at-target at-b. absurd (none-some target at-target);
    placed = λ way target p at-target at-p. absurd (none-some target at-target);
  }

  -- to the next target there is none
  no-way : (target : ℕ) (v : WaysView) → is_way target number (table_lanes lanes number target) ≡ false → HasWays lanes number reserved target v → HasWays lanes number reserved (target + 1) v
  no-way target v none has = record {
    targets = has.targets;
    few = let few = has.few in omega (arith, few);
    ways_count = has.ways_count;
    outboxes_count = has.outboxes_count;
    places_count = has.places_count;
    ways = λ t within way. ⊎_elim
        (λ (e : t ≡ target). absurd (false≢true (sym none ∙ subst (λ (k : ℕ). is_way k number (table_lanes lanes number k) ≡ true) e way)))
        (λ (e : t ≡ target → ⊥). has.ways t (below t target within e) way)
        (cases_eq t target);
    each = has.each;
    placed = has.placed;
  }

  -- there is one
  one-way : (target p : ℕ) (b : OutboxView) (v v' : WaysView) → HasWays lanes number reserved target v → target < length lanes → IsFresh (table_lanes lanes number target) b → slice_get reserved target ≡ Some p → v'.ways ≡ set v.ways target (length v.outboxes)
      → v'.outboxes ≡ v.outboxes ++ b ∷ [] → v'.places ≡ v.places ++ p ∷ [] → HasWays lanes number reserved (target + 1) v'
  one-way target p b v v' has there fresh place are-ways are-outboxes are-places = record {
    targets = has.targets ++ target ∷ [];
    few = let few = has.few in omega (arith, few, length-append has.targets (target ∷ []));
    ways_count = ap (λ (l : List ℕ). length l) are-ways ∙ length-set v.ways target (length v.outboxes) ∙ has.ways_count;
    outboxes_count = let size = ap (λ (l : List OutboxView). length l) are-outboxes in let n = has.outboxes_count in omega (arith, size, n, length-append has.targets (target ∷ []), length-append v.outboxes (b ∷ []));
    places_count = let size = ap (λ (l : List ℕ). length l) are-places in let n = has.places_count in omega (arith, size, n, length-append has.targets (target ∷ []), length-append v.places (p ∷ []));
    ways = λ t within way. ⊎_elim
        (λ (e : t ≡ target). (
          length v.outboxes,
          (λ i. slice_get (are-ways i) (e i)) ∙ set-there v.ways target (length v.outboxes) (let n = has.ways_count in omega (arith, there, n)),
          ap (λ (k : ℕ). slice_get (has.targets ++ target ∷ []) k) (sym has.outboxes_count) ∙ slice_get-behind has.targets [] target ∙ ap (λ (k : ℕ). Some k) (sym e),
        ))
        (λ (e : t ≡ target → ⊥).
        let there = has.ways t (below t target within e) way in (
          there.0,
          ap (λ (l : List ℕ). slice_get l t) are-ways ∙ set-elsewhere v.ways target t (length v.outboxes) there.0 e there.1,
          at-pushed has.targets target there.0 t there.2,
        ))
        (cases_eq t target);
    each = λ way t d at-target at-d.
        both-push (λ (k u : ℕ) (o : OutboxView). IsFresh (table_lanes lanes number u) o) has.targets v.outboxes target b has.outboxes_count has.each fresh way t d at-target (ap (λ (l : List OutboxView). slice_get l way) (sym are-outboxes) ∙ at-d);
    placed = λ way t q at-target at-q.
        both-push (λ (k u r : ℕ). slice_get reserved u ≡ Some r) has.targets v.places target p has.places_count has.placed place way t q at-target (ap (λ (l : List ℕ). slice_get l way) (sym are-places) ∙ at-q);
  }

  -- none of its outboxes was sent by
  pub outboxes-new : (count : ℕ) (v : WaysView) → HasWays lanes number reserved count v → All IsNew v.outboxes
  outboxes-new count v has = All-from-at IsNew v.outboxes (λ way b at-b.
      let within = slice_get_within v.outboxes way b at-b in
      let target = at-index has.targets way (let n = has.outboxes_count in omega (arith, within, n)) in
      let is = has.each way target.0 b target.1 at-b in
      record {
        made = ap (λ (s : SendSeatView). s.made) is.seat;
        kept = ap (λ (s : SendSeatView). s.kept) is.seat;
        pushes = ap (λ (s : SenderView). s.pushes) is.sends;
      })

-- ---- one column

uncons : (ws : List Way) (x : ℕ) (xs : List ℕ) → x ∷ xs ≡ map (λ (w : Way). w.origin) ws → (w : Way) × (rest : List Way) × (ws ≡ w ∷ rest)
uncons [] x xs e = absurd (nil-cons x xs (sym e))
uncons (w ∷ rest) x xs e = (w, rest, refl)

module _ {M S T : Type 0} (ends : MailboxEnds M S T) (inbox : InboxView M) (ways rest : List Way) (w : Way) (left next : ColumnView S) (x : ℕ) (s : S) (t : SendSeatView) (ways-are : ways ≡ w ∷ rest) (are : IsColumn ends inbox ways left)
    (origins : left.origins ≡ x ∷ next.origins) (senders : left.senders ≡ s ∷ next.senders) (seats : left.seats ≡ t ∷ next.seats) where
  -- the first origin, sender and seat are of the first way
  front-origin : w.origin ≡ x
  front-origin = sym (same_Some x w.origin (cons-head x w.origin next.origins (map (λ (v : Way). v.origin) rest) (sym origins ∙ are.origins ∙ ap (λ (ws : List Way). map (λ (v : Way). v.origin) ws) ways-are)))

  sends-are : ends.sends_of s ∷ map ends.sends_of next.senders ≡ fresh_sends w.lanes ∷ map (λ (v : Way). fresh_sends v.lanes) rest
  sends-are = sym (ap (λ (l : List S). map ends.sends_of l) senders) ∙ are.sends ∙ ap (λ (ws : List Way). map (λ (v : Way). fresh_sends v.lanes) ws) ways-are

  front-sends : ends.sends_of s ≡ fresh_sends w.lanes
  front-sends = same_Some (ends.sends_of s) (fresh_sends w.lanes) (cons-head (ends.sends_of s) (fresh_sends w.lanes) (map ends.sends_of next.senders) (map (λ (v : Way). fresh_sends v.lanes) rest) sends-are)

  made : Each (ends.is_sender inbox.mailbox) (s ∷ next.senders)
  made = subst (λ (l : List S). Each (ends.is_sender inbox.mailbox) l) senders are.senders

  front-seat : t ≡ new_send_seat inbox.name t.number
  front-seat = All-at (λ (u : SendSeatView). u ≡ new_send_seat inbox.name u.number) left.seats 0 t are.seats (ap (λ (l : List SendSeatView). slice_get l 0) seats)

  -- what is behind them is the column of the others
  behind : IsColumn ends inbox rest next
  behind = record {
    origins = tail-is x w.origin next.origins (map (λ (v : Way). v.origin) rest) (sym origins ∙ are.origins ∙ ap (λ (ws : List Way). map (λ (v : Way). v.origin) ws) ways-are);
    senders = made.1;
    sends = tail-is (ends.sends_of s) (fresh_sends w.lanes) (map ends.sends_of next.senders) (map (λ (v : Way). fresh_sends v.lanes) rest) sends-are;
    count = let size = are.count in let some = ap (λ (ws : List Way). length ws) ways-are in let cut = ap (λ (l : List SendSeatView). length l) seats in omega (arith, size, some, cut);
    seats = All-from-at (λ (u : SendSeatView). u ≡ new_send_seat inbox.name u.number) next.seats
        (λ i u at. All-at (λ (u : SendSeatView). u ≡ new_send_seat inbox.name u.number) left.seats (suc i) u are.seats (ap (λ (l : List SendSeatView). slice_get l (suc i)) seats ∙ at));
  }

module _ {M S T : Type 0} (ends : MailboxEnds M S T) (lanes : LaneTable) (inboxes : List (InboxView M)) (target : ℕ) (places : List (Vec ℕ)) where
  abbrev there : List (List Lane)
  there = lanes_to lanes target

  -- What is left of the column is that of executors from one on. Those before have their way to the target, if they have one
  -- there, and the others have those to the targets before.
  pub record Deals (left : ColumnView S) (all : List WaysView) : Type 0 where
    pub from : ℕ
    pub within : from ≤ length lanes
    pub count : length all ≡ length lanes
    pub column : (inbox : InboxView M) → slice_get inboxes target ≡ Some inbox → IsColumn ends inbox (ways_from target from (drop from there)) left
    pub done : (number : ℕ) (v : WaysView) (p : Vec ℕ) → slice_get all number ≡ Some v → slice_get places number ≡ Some p → number < from → HasWays lanes number p.items (target + 1) v
    pub others : (number : ℕ) (v : WaysView) (p : Vec ℕ) → slice_get all number ≡ Some v → slice_get places number ≡ Some p → from ≤ number → HasWays lanes number p.items target v

  -- The next of the column goes to an executor that is there, has room for one way more, and can make its outbox: once it has
  -- it, what is left of the column is what is behind.
  pub record DealsOne (inbox : InboxView M) (all : List WaysView) (x : ℕ) (s : S) (t : SendSeatView) (next : ColumnView S) : Type 0 where
    pub sender : ends.is_sender inbox.mailbox s
    pub seat : t.name ≡ inbox.name
    pub in_places : x < length places
    pub in_all : x < length all
    pub reserved : (p : Vec ℕ) → p ≡ get_or places x p → target < length p.items
    pub few : (v : WaysView) → v ≡ get_or all x v → length v.outboxes ≤ target
    pub wide : (v : WaysView) → v ≡ get_or all x v → target < length v.ways
    pub behind : (v v' : WaysView) (p : Vec ℕ) (b : OutboxView) (r : ℕ) → v ≡ get_or all x v → p ≡ get_or places x p → b ≡ record { sends = ends.sends_of s; seat = t } → r ≡ get_or p.items target r
        → v'.ways ≡ set v.ways target (length v.outboxes) → v'.outboxes ≡ v.outboxes ++ b ∷ [] → v'.places ≡ v.places ++ r ∷ [] → Deals next (set all x v')

  -- at first none has it
  pub deals-start : (column left : ColumnView S) (all : List WaysView) → CanDeal ends lanes inboxes target column places all → left ≡ column → Deals left all
  deals-start column left all can same = record {
    from = 0;
    within = omega arith;
    count = can.rows_count;
    column = λ inbox at. subst (λ (c : ColumnView S). IsColumn ends inbox (ways_from target 0 there) c) (sym same) (can.column inbox at);
    done = λ number v p at-v at-p lt. absurd (omega (arith, lt));
    others = λ number v p at-v at-p le. can.ways number v p at-v at-p;
  }

  module _ (placed : HaveTargets lanes places) (within : target < length lanes) where
    wide : length there ≡ length lanes
    wide = square-at lanes target placed.square within

    module _ (left : ColumnView S) (all : List WaysView) (deals : Deals left all) where
      abbrev ways : List Way
      ways = ways_from target deals.from (drop deals.from there)

      rests : deals.from + (length there - deals.from) ≡ length there
      rests = let few = deals.within in let size = wide in omega (arith, few, size)

      -- at last all have it
      all-dealt : length ways ≡ 0 → HaveWays lanes places (target + 1) all
      all-dealt none number v p at-v at-p = ⊎_elim
          (λ (e : number < deals.from). deals.done number v p at-v at-p e)
          (λ (e : deals.from ≤ number).
          no-way lanes number p.items target v
          (no-more target deals.from (length there - deals.from) there rests (nil_from_length ways none) number e (let lt = slice_get_within all number v at-v in let n = deals.count in let size = wide in omega (arith, lt, n, size)))
          (deals.others number v p at-v at-p e))
          (cases_lt number deals.from)

      module _ (inbox : InboxView M) (at-inbox : slice_get inboxes target ≡ Some inbox) where
        abbrev are : IsColumn ends inbox ways left
        are = deals.column inbox at-inbox

        -- so it is where any part of the column has come to its end
        pub dealt-origins : left.origins ≡ [] → HaveWays lanes places (target + 1) all
        dealt-origins none =
            let some = ap (λ (l : List ℕ). length l) are.origins in
            let size = ap (λ (l : List ℕ). length l) none in
            all-dealt (omega (arith, some, size, length-map ways (λ (v : Way). v.origin)))

        pub dealt-senders : left.senders ≡ [] → HaveWays lanes places (target + 1) all
        dealt-senders none =
            let some = ap (λ (l : List SenderView). length l) are.sends in
            let size = ap (λ (l : List S). length l) none in
            all-dealt (omega (arith, some, size, length-map left.senders ends.sends_of, length-map ways (λ (v : Way). fresh_sends v.lanes)))

        pub dealt-seats : left.seats ≡ [] → HaveWays lanes places (target + 1) all
        dealt-seats none =
            let some = are.count in
            let size = ap (λ (l : List SendSeatView). length l) none in
            all-dealt (omega (arith, some, size))

        -- the next is of an executor that is there, and can make its outbox
        module _ (x : ℕ) (s : S) (t : SendSeatView) (next : ColumnView S) (origins : left.origins ≡ x ∷ next.origins) (senders : left.senders ≡ s ∷ next.senders) (seats : left.seats ≡ t ∷ next.seats) where
          front : (w : Way) × (rest : List Way) × (ways ≡ w ∷ rest)
          front = uncons ways x next.origins (sym origins ∙ are.origins)

          first : IsNextWay target deals.from there front.0 front.1
          first = next-way target deals.from (length there - deals.from) there front.0 front.1 rests front.2

          is : front.0.origin ≡ x
          is = front-origin ends inbox ways front.1 front.0 left next x s t front.2 are origins senders seats

          deal-there : x < length lanes
          deal-there = let lt = first.there in let e = is in let size = wide in omega (arith, lt, e, size)

          from-here : deals.from ≤ x
          from-here = let le = first.from in let e = is in omega (arith, le, e)

          in-all : x < length all
          in-all = let lt = deal-there in let n = deals.count in omega (arith, lt, n)

          in-places : x < length places
          in-places = let lt = deal-there in let n = placed.count in omega (arith, lt, n)

          at-all : (v : WaysView) → v ≡ get_or all x v → slice_get all x ≡ Some v
          at-all v is-v = slice_get_read all (length all) x v refl in-all is-v

          at-places : (p : Vec ℕ) → p ≡ get_or places x p → slice_get places x ≡ Some p
          at-places p is-p = slice_get_read places (length places) x p refl in-places is-p

          row-long : (p : Vec ℕ) → p ≡ get_or places x p → target < length p.items
          row-long p is-p = let long = All-at (λ (q : Vec ℕ). length q.items ≡ length lanes) places x p placed.targets (at-places p is-p) in let lt = within in omega (arith, long, lt)

          -- it has its ways to the targets before
          before : (v : WaysView) → v ≡ get_or all x v → (reserved : List ℕ) × HasWays lanes x reserved target v
          before v is-v = let p = at-index places x in-places in (p.0.items, deals.others x v p.0 (at-all v is-v) p.1 from-here)

          fresh : IsFresh (table_lanes lanes x target) (record { sends = ends.sends_of s; seat = t })
          fresh = record {
            name = inbox.name;
            sends = front-sends ends inbox ways front.1 front.0 left next x s t front.2 are origins senders seats ∙ ap fresh_sends first.own ∙ ap (λ (k : ℕ). fresh_sends (get_or there k [])) is;
            seat = front-seat ends inbox ways front.1 front.0 left next x s t front.2 are origins senders seats;
          }

          none-until : (m : ℕ) → deals.from ≤ m → m < x → is_way target m (get_or there m []) ≡ false
          none-until m from to = first.between m from (let e = is in omega (arith, to, e))

          column-behind : (i : InboxView M) → slice_get inboxes target ≡ Some i → IsColumn ends i (ways_from target (x + 1) (drop (x + 1) there)) next
          column-behind i at-i =
              subst (λ (ws : List Way). IsColumn ends i ws next) (first.behind ∙ ap (λ (k : ℕ). ways_from target (k + 1) (drop (k + 1) there)) is)
              (behind ends i ways front.1 front.0 left next x s t front.2 (deals.column i at-i) origins senders seats)

          -- once it has it, what is left is that of the executors behind it
          deals-next : (v v' : WaysView) (p : Vec ℕ) (b : OutboxView) (r : ℕ) → slice_get all x ≡ Some v → slice_get places x ≡ Some p → b ≡ record { sends = ends.sends_of s; seat = t } → slice_get p.items target ≡ Some r
              → v'.ways ≡ set v.ways target (length v.outboxes) → v'.outboxes ≡ v.outboxes ++ b ∷ [] → v'.places ≡ v.places ++ r ∷ [] → Deals next (set all x v')
          deals-next v v' p b r at-v at-p made-is place are-ways are-outboxes are-places = record {
            from = x + 1;
            within = let lt = deal-there in omega (arith, lt);
            count = length-set all x v' ∙ deals.count;
            column = column-behind;
            done = λ number u q at-u at-q lt. ⊎_elim
                (λ (e : number ≡ x). at-mine number u q e at-u at-q)
                (λ (e : number ≡ x → ⊥). ⊎_elim
                (λ (a : number < deals.from). deals.done number u q (at_set_other all x number v' u e at-u) at-q a)
                (λ (a : deals.from ≤ number).
                no-way lanes number q.items target u (none-until number a (below number x lt e)) (deals.others number u q (at_set_other all x number v' u e at-u) at-q a))
                (cases_lt number deals.from))
                (cases_eq number x);
            others = λ number u q at-u at-q le.
                deals.others number u q (at_set_other all x number v' u (λ e. omega (arith, le, e)) at-u) at-q (let a = from-here in omega (arith, a, le));
          }
            where
              mine : HasWays lanes x p.items (target + 1) v'
              mine = one-way lanes x p.items target r b v v' (deals.others x v p at-v at-p from-here) within (subst (λ (o : OutboxView). IsFresh (table_lanes lanes x target) o) (sym made-is) fresh) place are-ways are-outboxes are-places

              at-mine : (number : ℕ) (u : WaysView) (q : Vec ℕ) → number ≡ x → slice_get (set all x v') number ≡ Some u → slice_get places number ≡ Some q → HasWays lanes number q.items (target + 1) u
              at-mine number u q e at-u at-q =
                  subst (λ (z : ℕ × Vec ℕ × WaysView). HasWays lanes z.0 z.1.items (target + 1) z.2)
                  (λ i. (
                    sym e i,
                    same_Some p q (sym at-p ∙ ap (λ (k : ℕ). slice_get places k) (sym e) ∙ at-q) i,
                    sym (at_set_same all x v' u (ap (λ (k : ℕ). slice_get (set all x v') k) (sym e) ∙ at-u)) i,
                  )) mine

          pub deals-one : DealsOne inbox all x s t next
          deals-one = record {
            sender = (made ends inbox ways front.1 front.0 left next x s t front.2 are origins senders seats).0;
            seat = ap (λ (u : SendSeatView). u.name) (front-seat ends inbox ways front.1 front.0 left next x s t front.2 are origins senders seats);
            in_places = in-places;
            in_all = in-all;
            reserved = row-long;
            few = λ v is-v. let has = (before v is-v).1 in let few = has.few in let n = has.outboxes_count in omega (arith, few, n);
            wide = λ v is-v. let n = (before v is-v).1.ways_count in let lt = within in omega (arith, lt, n);
            behind = λ v v' p b r is-v is-p made-is is-r. deals-next v v' p b r (at-all v is-v) (at-places p is-p) made-is (slice_get_read p.items (length p.items) target r refl (row-long p is-p) is-r);
          }

-- ---- all columns

pub ways-start : (lanes : LaneTable) (places : List (Vec ℕ)) (count : ℕ) (all : List WaysView) → count ≡ length lanes → All (λ v. v ≡ no_ways count) all → HaveWays lanes places 0 all
ways-start lanes places count all whole none number v p at-v at-p = none-yet lanes number p.items count v whole (All-at (λ (u : WaysView). u ≡ no_ways count) all number v none at-v)

pub can-deal : {M S T : Type 0} (ends : MailboxEnds M S T) (lanes : LaneTable) (inboxes : List (InboxView M)) (columns : List (ColumnView S)) (places : List (Vec ℕ)) (target : ℕ) (c : ColumnView S) (all : List WaysView) → CanDealAll ends lanes inboxes columns places
    → slice_get columns target ≡ Some c → length all ≡ length inboxes → HaveWays lanes places target all → CanDeal ends lanes inboxes target c places all
can-deal ends lanes inboxes columns places target c all can at count have = record {
  placed = can.placed;
  inboxes_count = can.inboxes_count;
  rows_count = count ∙ can.inboxes_count;
  there = let lt = slice_get_within columns target c at in let n = can.whole.count in let size = can.inboxes_count in omega (arith, lt, n, size);
  column = λ inbox at-inbox. can.whole.each target inbox c at-inbox at;
  ways = have;
}
