-- The parts and seats of an executor's nodes by channel, and where in its row each of them stands.
use Rattle.std.proofs.Common.{◌≡◌, ℕ, zero, suc, ◌+◌, ◌<◌, ◌≤◌, ◌&&◌, Bool, true, false, List, [], ◌∷◌, length, map, get_or, replicate, set, slice_get, Option, Some, None, refl, ap, sym, ◌∙◌, subst, arith, inl, inr}
use Rattle.std.specs.Prelude.{All, ◌==◌, ◌||◌, is_some, nat_lt, if◌then◌else◌}
use Rattle.std.specs.List.{enumerate_from, list_all}
use Rattle.std.specs.Option.{option_map_or}
use Rattle.std.proofs.lemmas.Bool.{and_from, and_parts, both_ways, cases_lt}
use Rattle.std.proofs.lemmas.List.{get_or-map, length-map, length-replicate}
use Rattle.std.proofs.lemmas.List.Elements.{All-from_get_or}
use Rattle.std.proofs.lemmas.List.FromFn.{get_or-map-range_with_len, length-enumerate_from, length-map-range_with_len}
use Rattle.std.proofs.lemmas.List.Sums.{list_all-from_AllPass}
use Rattle.std.proofs.lemmas.Option.{get_or_from_slice_get, none-some, same_Some, slice_get-get_or, slice_get_read, slice_get_within}
use Rattle.pl_event.specs.declared.envelopes.Lane.{Lane}
use Rattle.pl_event.specs.declared.events.Event.{Event}
use Rattle.pl_event.specs.Hops.{data_lane, same_lane}
use Rattle.pl_event.specs.Meaning.{Meaning}
use Rattle.pl_event.specs.Worlds.{World}
use Rattle.pl_event.proofs.Lists.{at-index}
use Rattle.pl_context.proofs.WaitingCalls.{at-set_here, at-set_there}
use Rattle.pl_context.specs.ContextViews.{ContextView}
use Rattle.pl_context.specs.Standings.{is_over}
use Rattle.pl_context.specs.TailViews.{TailView}
use Rattle.pl_head.specs.HeadStand.{HeadView}
use Rattle.pl_head.specs.Transports.{TransportState}
use Rattle.pl_part.specs.ContextHolds.{context_writes}
use Rattle.pl_part.specs.HeadHolds.{head_writes}
use Rattle.pl_part.specs.Paths.{context_at, enters_path, is_slot_over, path_over, path_writes, writer_hop}
use Rattle.pl_part.specs.Parts.{ChannelPartView, has_entered, head_hop, part_writes}
use Rattle.pl_channel.specs.Channels.{writes_here, writes_of}
use Rattle.pl_channel.proofs.OneChannel.{channel-there}
use Rattle.pl_world.specs.Plans.{ChannelPlan, Plan, planned_head_hop}
use Rattle.pl_exec.specs.declared.nodes.ExecutorNodes.{ExecutorNodes}
use Rattle.pl_exec.specs.ChannelRows.{IsChannelRow, by_channel, row_position}
use Rattle.pl_exec.specs.ExecutorNodes.{AreInOrder, AreOver, IsPartOver, NodesStand, channel_parts, entered_executor, enters, nobody, own_channels, part_elsewhere, parts_elsewhere}
use Rattle.pl_exec.specs.SessionWords.{SeatsView}
use Rattle.pl_exec.specs.Telling.{channel_seats}
use Rattle.pl_exec.proofs.ByChannel.{by-count, by-held, by-write, held-at, position-is, position-one, row-within, slot-at}
use Rattle.pl_exec.proofs.ExecutorNodeLemmas.{channel-here, enters-here}

-- ---- lists

-- what is made of each with its number
numbered-slot : {A B : Type 0} (f : ℕ × A → B) (n : ℕ) (xs : List A) (i k : ℕ) (x : A) → slice_get xs i ≡ Some x → k ≡ n + i → slice_get (map f (enumerate_from n xs)) i ≡ Some (f (k, x))
numbered-slot f n [] i k x at is = absurd (none-some x at)
numbered-slot f n (y ∷ ys) zero k x at is = let first : n ≡ k = omega (arith, is) in λ i. Some (f (first i, same_Some y x at i))
numbered-slot f n (y ∷ ys) (suc i) k x at is = numbered-slot f (n + 1) ys i k x at (omega (arith, is))

pub replicated : {A : Type 0} (n i : ℕ) (d : A) → get_or (replicate n d) i d ≡ d
replicated zero i d = refl
replicated (suc n) zero d = refl
replicated (suc n) (suc i) d = replicated n i d

replicated-at : {A : Type 0} (n i : ℕ) (d x : A) → slice_get (replicate n d) i ≡ Some x → x ≡ d
replicated-at zero i d x at = absurd (none-some x at)
replicated-at (suc n) zero d x at = sym (same_Some d x at)
replicated-at (suc n) (suc i) d x at = replicated-at n i d x at

-- what is not past is below
below : (a b : ℕ) → (b ≤ a → ⊥) → a < b
below a b not-past = elim (cases_lt a b) [ inl less ↦ less | inr past ↦ absurd (not-past past) ]

if-none : (c a b : Bool) → a ≡ false → b ≡ false → (if c then a else b) ≡ false
if-none true a b first second = first
if-none false a b first second = second

and-none : (a b : Bool) → b ≡ false → (a && b) ≡ false
and-none true b none = none
and-none false b none = refl

-- ---- the part of a channel that has no node here

module _ {S T : Type 0} (c : ℕ) (q : ChannelPlan) (p : ChannelPartView S T) (is : p ≡ part_elsewhere c q) where
  pub no-context : (hop : ℕ) → context_at p.path hop ≡ None
  no-context hop = ap (λ (x : ChannelPartView S T). context_at x.path hop) is ∙ replicated (planned_head_hop q) hop None

  pub no-tail : p.path.tail ≡ None
  no-tail = ap (λ (x : ChannelPartView S T). x.path.tail) is

  pub no-head : p.head ≡ None
  no-head = ap (λ (x : ChannelPartView S T). x.head) is

  -- no lane enters it, and it writes none
  none-enters : (l : Lane) → has_entered p l ≡ false
  none-enters l =
      if-none (l.hop == head_hop p) (is_some p.head && same_lane l (data_lane p.path.channel (head_hop p))) (enters_path p.path l)
      (λ i. is_some (no-head i) && same_lane l (data_lane p.path.channel (head_hop p)))
      (and-none (l.channel == p.path.channel) (if l.hop == p.path.tail_hop then is_some p.path.tail else is_some (context_at p.path l.hop))
      (if-none (l.hop == p.path.tail_hop) (is_some p.path.tail) (is_some (context_at p.path l.hop)) (λ i. is_some (no-tail i)) (ap (λ (o : Option (ContextView S)). is_some o) (no-context l.hop))))

  none-writes : (meaning : S → Meaning) (l : Lane) → part_writes meaning p l ≡ false
  none-writes meaning l =
      if-none (l.hop == 0) (option_map_or (λ (h : HeadView T). head_writes h l) p.head false) (path_writes meaning p.path l)
      (λ i. option_map_or (λ (h : HeadView T). head_writes h l) (no-head i) false)
      (ap (λ (o : Option (ContextView S)). option_map_or (λ (k : ContextView S). context_writes (meaning k.stage).direction k l) o false) (no-context (writer_hop p.path l.hop)))

  -- nothing is left to be done there
  pub elsewhere-over : (state : T → TransportState) → IsPartOver state p
  elsewhere-over state = record {
    over = and_from (path_over p.path) (option_map_or (λ (h : HeadView T). is_over h.standing || is_some h.failure) p.head true)
        (and_from (list_all (λ (slot : Option (ContextView S)). is_slot_over slot) p.path.contexts) (option_map_or (λ (t : TailView). is_over t.standing) p.path.tail true)
        (list_all-from_AllPass (λ (slot : Option (ContextView S)). is_slot_over slot) p.path.contexts
        (All-from_get_or (λ (slot : Option (ContextView S)). is_slot_over slot ≡ true) p.path.contexts None (λ hop lt. ap (λ (slot : Option (ContextView S)). is_slot_over slot) (no-context hop))))
        (ap (λ (o : Option TailView). option_map_or (λ (t : TailView). is_over t.standing) o true) no-tail))
        (ap (λ (o : Option (HeadView T)). option_map_or (λ (h : HeadView T). is_over h.standing || is_some h.failure) o true) no-head);
    read = ap (λ (o : Option (HeadView T)). option_map_or (λ (h : HeadView T). h.input.port.is_open) o false) no-head;
    written = λ h ys zs sizes at after. absurd (none-some h (sym no-head ∙ at));
  }

-- ---- the parts and the seats of an executor

module _ {S T : Type 0} (plan : Plan) (n : ExecutorNodes S T) (order : AreInOrder (length plan.channels) n) where
  abbrev here : List ℕ
  here = n.here.items

  abbrev others : List (ChannelPartView S T)
  others = parts_elsewhere plan

  abbrev latter : {A : Type 0} → A → A → A
  latter x y = y

  others-count : length others ≡ length plan.channels
  others-count = length-map (enumerate_from 0 plan.channels) (λ (z : ℕ × ChannelPlan). part_elsewhere {S = S} {T = T} z.0 z.1) ∙ length-enumerate_from 0 plan.channels

  row-parts : IsChannelRow (length others) here
  row-parts = subst (λ (m : ℕ). IsChannelRow m here) (sym others-count) order.row

  pub parts-count : length (channel_parts plan n) ≡ length plan.channels
  parts-count = by-count latter here others n.parts.items ∙ others-count

  -- the channel at a position
  pub channel-within : (k : ℕ) → k < length here → get_or here k 0 < length plan.channels
  channel-within k within = let there = row-within latter here others row-parts k within in let size = others-count in omega (arith, there, size)

  -- the part of the channel at a position
  pub part-at : (k : ℕ) (p : ChannelPartView S T) → slice_get n.parts.items k ≡ Some p → slice_get (channel_parts plan n) (get_or here k 0) ≡ Some p
  part-at k p at =
      let within : k < length here = let there = slice_get_within n.parts.items k p at in let size = order.parts in omega (arith, there, size) in
      let other = at-index others (get_or here k 0) (row-within latter here others row-parts k within) in
      by-held latter here others n.parts.items (get_or here k 0) other.0 p other.1 (held-at latter here others row-parts n.parts.items k p within at)

  pub held-part : (c : ℕ) (p : ChannelPartView S T) → c < length plan.channels → slice_get n.parts.items (row_position here c) ≡ Some p → slice_get (channel_parts plan n) c ≡ Some p
  held-part c p within at =
      let size = others-count in
      let other = at-index others c (omega (arith, within, size)) in
      by-held latter here others n.parts.items c other.0 p other.1 at

  -- another part there
  pub parts-set : (k : ℕ) (p : ChannelPartView S T) → k < length here → by_channel latter here (set n.parts.items k p) others ≡ set (channel_parts plan n) (get_or here k 0) p
  parts-set k p within =
      let size = order.parts in
      let other = at-index others (get_or here k 0) (row-within latter here others row-parts k within) in
      by-write latter here others row-parts n.parts.items (set n.parts.items k p) k other.0 p within other.1 (at-set_here n.parts.items k p (omega (arith, within, size))) (λ j apart. at-set_there n.parts.items k j p apart)

  -- ---- the seats

  abbrev seatless : List (Option SeatsView)
  seatless = replicate (length plan.channels) None

  row-seats : IsChannelRow (length seatless) here
  row-seats = subst (λ (m : ℕ). IsChannelRow m here) (sym (length-replicate (length plan.channels) None)) order.row

  pub seats-count : length (channel_seats plan n) ≡ length plan.channels
  seats-count = by-count latter here seatless n.seats.items ∙ length-replicate (length plan.channels) None

  pub seat-at : (k : ℕ) (slot : Option SeatsView) → slice_get n.seats.items k ≡ Some slot → slice_get (channel_seats plan n) (get_or here k 0) ≡ Some slot
  seat-at k slot at =
      let within : k < length here = let there = slice_get_within n.seats.items k slot at in let size = order.seats in omega (arith, there, size) in
      let other = at-index seatless (get_or here k 0) (row-within latter here seatless row-seats k within) in
      by-held latter here seatless n.seats.items (get_or here k 0) other.0 slot other.1 (held-at latter here seatless row-seats n.seats.items k slot within at)

  pub seats-set : (k : ℕ) (slot : Option SeatsView) → k < length here → by_channel latter here (set n.seats.items k slot) seatless ≡ set (channel_seats plan n) (get_or here k 0) slot
  seats-set k slot within =
      let size = order.seats in
      let other = at-index seatless (get_or here k 0) (row-within latter here seatless row-seats k within) in
      by-write latter here seatless row-seats n.seats.items (set n.seats.items k slot) k other.0 slot within other.1 (at-set_here n.seats.items k slot (omega (arith, within, size))) (λ j apart. at-set_there n.seats.items k j slot apart)

  -- ---- the part and the seats of a channel are those at its position, or it has no node here

  pub record AtPosition (c : ℕ) : Type 0 where
    pub position : ℕ
    pub is : get_or here position 0 ≡ c
    pub part : ChannelPartView S T
    pub part_at : slice_get n.parts.items position ≡ Some part
    pub slot : Option SeatsView
    pub slot_at : slice_get n.seats.items position ≡ Some slot

  pub record IsElsewhere (c : ℕ) : Type 0 where
    pub planned : ChannelPlan
    pub planned_at : slice_get plan.channels c ≡ Some planned
    pub past : length here ≤ row_position here c
    pub part : (p : ChannelPartView S T) → slice_get (channel_parts plan n) c ≡ Some p → p ≡ part_elsewhere c planned
    pub slot : (s : Option SeatsView) → slice_get (channel_seats plan n) c ≡ Some s → s ≡ None

  other-at : (c : ℕ) (q : ChannelPlan) → slice_get plan.channels c ≡ Some q → slice_get others c ≡ Some (part_elsewhere c q)
  other-at c q at = numbered-slot (λ (z : ℕ × ChannelPlan). part_elsewhere {S = S} {T = T} z.0 z.1) 0 plan.channels c c q at (omega arith)

  -- where its position is in the row
  pub at-position : (c : ℕ) → row_position here c < length here → AtPosition c
  at-position c within =
      let parts = order.parts in
      let seats = order.seats in
      let part = at-index n.parts.items (row_position here c) (omega (arith, within, parts)) in
      let slot = at-index n.seats.items (row_position here c) (omega (arith, within, seats)) in
      record { position = row_position here c; is = position-is here c within; part = part.0; part_at = part.1; slot = slot.0; slot_at = slot.1 }

  pub is-elsewhere : (c : ℕ) → c < length plan.channels → length here ≤ row_position here c → IsElsewhere c
  is-elsewhere c within past = record {
    planned = q.0;
    planned_at = q.1;
    past = past;
    part = λ p at.
        let s = slot-at latter here others n.parts.items c p at in
        elim s.is [
          | inl held ↦ absurd (let there = slice_get_within n.parts.items (row_position here c) held.0 held.1 in let size = order.parts in omega (arith, there, size, past))
          | inr other ↦ other.1 ∙ same_Some s.before (part_elsewhere c q.0) (sym s.was ∙ other-at c q.0 q.1)
        ];
    slot = λ s at.
        let t = slot-at latter here seatless n.seats.items c s at in
        elim t.is [
          | inl held ↦ absurd (let there = slice_get_within n.seats.items (row_position here c) held.0 held.1 in let size = order.seats in omega (arith, there, size, past))
          | inr other ↦ other.1 ∙ replicated-at (length plan.channels) c None t.before t.was
        ];
  }
    where
      q : (q : ChannelPlan) × (slice_get plan.channels c ≡ Some q)
      q = at-index plan.channels c within

  -- where all parts are over that are here, so are those of all channels
  pub all-over : (state : T → TransportState) → All (IsPartOver state) n.parts.items → AreOver state (channel_parts plan n)
  all-over state over c p at = elim (slot-at latter here others n.parts.items c p at).is [
    | inl held ↦
        let within = slice_get_within n.parts.items (row_position here c) held.0 held.1 in
        subst (IsPartOver state) (get_or_from_slice_get n.parts.items (row_position here c) held.0 held.0 held.1 ∙ sym held.2) (over (row_position here c) held.0 within)
    | inr past ↦
        let size = parts-count in
        let parts = order.parts in
        let behind = past.0 in
        let within = slice_get_within (channel_parts plan n) c p at in
        let e = is-elsewhere c (omega (arith, size, within)) (omega (arith, parts, behind)) in
        elsewhere-over c e.planned p (e.part p at) state
  ]

  -- it is there, where a lane enters a node of its part
  pub entered-here : (l : Lane) (p : ChannelPartView S T) → slice_get (channel_parts plan n) l.channel ≡ Some p → has_entered p l ≡ true → row_position here l.channel < length here
  entered-here l p at entered = below (row_position here l.channel) (length here) (λ past.
      let size = parts-count in
      let within = slice_get_within (channel_parts plan n) l.channel p at in
      let e = is-elsewhere l.channel (omega (arith, size, within)) past in
      both_ways (has_entered p l) (none-enters l.channel e.planned p (e.part p at) l) entered)

  -- or where one of its nodes writes a lane
  pub written-here : (meaning : S → Meaning) (l : Lane) → writes_of meaning (channel_parts plan n) l ≡ true → row_position here l.channel < length here
  written-here meaning l writes = below (row_position here l.channel) (length here) (λ past.
      let size = parts-count in
      let within = channel-there meaning (channel_parts plan n) l writes in
      let p = at-index (channel_parts plan n) l.channel within in
      let e = is-elsewhere l.channel (omega (arith, size, within)) past in
      let wrote = ap (λ (o : Option (ChannelPartView S T)). option_map_or (λ (q : ChannelPartView S T). writes_here meaning q l) o false) (sym p.1) ∙ writes in
      both_ways (part_writes meaning p.0 l) (none-writes l.channel e.planned p.0 (e.part p.0 p.1) meaning l) (and_parts (nat_lt l.hop (length p.0.path.executors)) (part_writes meaning p.0 l) wrote).1)

  pub written-within : (meaning : S → Meaning) (l : Lane) → writes_of meaning (channel_parts plan n) l ≡ true → l.channel < length plan.channels
  written-within meaning l writes = let there = channel-there meaning (channel_parts plan n) l writes in let size = parts-count in omega (arith, there, size)

  -- ---- what is read of the tables

  -- the position of a channel
  pub position-read : (c v : ℕ) → c < length plan.channels → v ≡ get_or n.positions.items c v → v ≡ row_position here c
  position-read c v within read = read ∙ ap (λ (l : List ℕ). get_or l c v) order.positions ∙ get_or-map-range_with_len (row_position here) 0 (length plan.channels) c c v within (omega arith)

  -- the channel of a head at a position
  pub own-at : (at k : ℕ) → at < length n.heads.items → k ≡ get_or n.heads.items at k → get_or (own_channels n) at 0 ≡ get_or here k 0
  own-at at k there read = get_or-map (λ (j : ℕ). get_or here j 0) n.heads.items at k 0 there ∙ ap (λ (j : ℕ). get_or here j 0) (sym read)

  pub own-slot : (at k : ℕ) → at < length n.heads.items → k ≡ get_or n.heads.items at k → slice_get (own_channels n) at ≡ Some (get_or here k 0)
  own-slot at k there read =
      slice_get-get_or (own_channels n) at 0 (let size = length-map n.heads.items (λ (j : ℕ). get_or here j 0) in omega (arith, there, size))
      ∙ ap (λ (c : ℕ). Some c) (own-at at k there read)

  pub positions-count : length n.positions.items ≡ length plan.channels
  positions-count = ap length order.positions ∙ length-map-range_with_len (row_position here) 0 (length plan.channels)

  -- what is read at the position of a channel is its part
  pub read-part : (c k : ℕ) (p : ChannelPartView S T) → row_position here c < length here → k ≡ row_position here c → p ≡ get_or n.parts.items k p
      → (c ≡ get_or here k 0) × (k < length here) × (slice_get n.parts.items k ≡ Some p) × (slice_get (channel_parts plan n) (get_or here k 0) ≡ Some p)
  read-part c k p within is read =
      let there : k < length here = omega (arith, within, is) in
      let size = order.parts in
      let at = slice_get_read n.parts.items (length n.parts.items) k p refl (omega (arith, there, size)) read in
      (sym (position-one here c k (sym is) there), there, at, part-at k p at)

  -- ---- a lane that is written here

  module _ (meaning : S → Meaning) (l : Lane) (writes : writes_of meaning (channel_parts plan n) l ≡ true) where
    -- its channel is in the table
    pub written-slot : l.channel < length n.positions.items
    written-slot = let within = written-within meaning l writes in let size = positions-count in omega (arith, within, size)

    written-is : (k : ℕ) → k ≡ get_or n.positions.items l.channel k → k ≡ row_position here l.channel
    written-is k read = position-read l.channel k (written-within meaning l writes) read

    -- and what stands there is the position of a part
    pub written-position : (k : ℕ) → k ≡ get_or n.positions.items l.channel k → k < length n.parts.items
    written-position k read = let there = written-here meaning l writes in let is = written-is k read in let size = order.parts in omega (arith, there, is, size)

    -- that of its channel
    pub written-part : (k : ℕ) (p : ChannelPartView S T) → k ≡ get_or n.positions.items l.channel k → p ≡ get_or n.parts.items k p
        → (l.channel ≡ get_or here k 0) × (k < length here) × (slice_get n.parts.items k ≡ Some p) × (slice_get (channel_parts plan n) (get_or here k 0) ≡ Some p)
    written-part k p read at = read-part l.channel k p (written-here meaning l writes) (written-is k read) at

  -- ---- what enters this executor

  module _ (world : World) (meaning : S → Meaning) (stands_after : S → List Event → Type 0) (state : T → TransportState) (stand : NodesStand world plan meaning stands_after state n.number n.was_refused (channel_parts plan n)) (l : Lane)
      (enter : entered_executor (channel_parts plan n) l ≡ n.number) where
    pub enters-within : l.channel < length plan.channels
    enters-within = let there = channel-here (channel_parts plan n) n.number l stand.number enter in let size = parts-count in omega (arith, there, size)

    -- its channel has a position
    pub enters-position : row_position here l.channel < length here
    enters-position =
        let p = at-index (channel_parts plan n) l.channel (channel-here (channel_parts plan n) n.number l stand.number enter) in
        let own = stand.parts l.channel p.0 p.1 in
        let enters-it = sym (ap (λ (o : Option (ChannelPartView S T)). option_map_or (λ (q : ChannelPartView S T). enters q l) o nobody) p.1) ∙ enter in
        entered-here l p.0 p.1 (enters-here n.number l.channel p.0 own.resident own.channel own.holds.hops l stand.number refl enters-it)

    -- it is in the table
    pub enters-slot : l.channel < length n.positions.items
    enters-slot = let within = enters-within in let size = positions-count in omega (arith, within, size)

    enters-is : (k : ℕ) → k ≡ get_or n.positions.items l.channel k → k ≡ row_position here l.channel
    enters-is k read = position-read l.channel k enters-within read

    -- what stands there is the position of a part
    pub enters-index : (k : ℕ) → k ≡ get_or n.positions.items l.channel k → k < length n.parts.items
    enters-index k read = let there = enters-position in let is = enters-is k read in let size = order.parts in omega (arith, there, is, size)

    -- that of its channel
    pub enters-part : (k : ℕ) (p : ChannelPartView S T) → k ≡ get_or n.positions.items l.channel k → p ≡ get_or n.parts.items k p
        → (l.channel ≡ get_or here k 0) × (k < length here) × (slice_get n.parts.items k ≡ Some p) × (slice_get (channel_parts plan n) (get_or here k 0) ≡ Some p)
    enters-part k p read at = read-part l.channel k p enters-position (enters-is k read) at
