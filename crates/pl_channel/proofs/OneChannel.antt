-- The part of one channel has changed, and the others are as they were.
use Rattle.std.proofs.Common.{◌≡◌, ◌≢◌, ℕ, zero, suc, ◌+◌, ◌-◌, ◌<◌, ◌≤◌, ◌^◌, true, false, ◌&&◌, cond, List, [], ◌∷◌, ◌++◌, length, map, get_or, set, slice_get, Option, Some, None, refl, ap, sym, ◌∙◌, subst, ⊎_elim, arith}
use Rattle.std.specs.Prelude.{◌==◌, is_some, nat_lt, replicate, sum_by, flat_map}
use Rattle.std.specs.List.{range_with_len}
use Rattle.std.specs.Option.{option_map_or}
use Rattle.std.proofs.lemmas.Bool.{false≢true, cond-false, cases_Bool, cases_eq, and_parts}
use Rattle.std.proofs.lemmas.List.{length-map, length-set}
use Rattle.std.proofs.lemmas.List.Elements.{All-from_get_or}
use Rattle.std.proofs.lemmas.List.Sums.{sum_by-set, sum_by-le}
use Rattle.std.proofs.lemmas.Option.{slice_get_within, slice_get-get_or, get_or_from_slice_get, same_Some}
use Rattle.pl_event.specs.declared.events.Event.{Event}
use Rattle.pl_event.specs.declared.envelopes.Envelope.{Envelope}
use Rattle.pl_event.specs.declared.envelopes.Lane.{Lane}
use Rattle.pl_event.specs.Hops.{same_lane, data_lane}
use Rattle.pl_event.specs.Meaning.{Meaning}
use Rattle.pl_event.specs.Worlds.{World}
use Rattle.pl_event.proofs.SameLanes.{same_lane-equal}
use Rattle.pl_context.specs.ContextViews.{ContextView}
use Rattle.pl_context.specs.OutputsViews.{OutputsView}
use Rattle.pl_context.specs.Stops.{HasPlaces, AreAmong}
use Rattle.pl_context.proofs.Places.{within-left, within-right, places-for}
use Rattle.pl_context.proofs.WaitingCalls.{at-set_here, at-set_there}
use Rattle.pl_flow.specs.Flows.{IsGood}
use Rattle.pl_flow.specs.LanesViews.{SameRoutes, KeepsPlaces, taken_with}
use Rattle.pl_head.specs.Transports.{TransportState}
use Rattle.pl_part.specs.Paths.{writer_hop}
use Rattle.pl_part.specs.Parts.{ChannelPartView, PartHolds, SamePart, head_hop, part_taken, part_lanes, part_writes}
use Rattle.pl_part.specs.PartCalls.{IsNextFor}
use Rattle.pl_part.specs.Counts.{part_done}
use Rattle.pl_channel.specs.Channels.{executor_at, home_of, target_of, origin_of, taken_of, data_lanes_of, done_of, writes_here, writes_of, came_of, lanes_view, HasAllNodes, PartStands, ChannelsStand}
use Rattle.pl_channel.proofs.Wholes.{IsWritten, written, tail-within, enters}

-- ---- lists

-- a list made of the elements' lists, where one was replaced that gives the same
joined-same : {A B : Type 0} (f : A → List B) (xs : List A) (i : ℕ) (x y : A) → slice_get xs i ≡ Some x → f y ≡ f x → flat_map f (set xs i y) ≡ flat_map f xs
joined-same f [] i x y at same = refl
joined-same f (z ∷ zs) zero x y at same = let e : z ≡ x = cc in ap (λ ws. ws ++ flat_map f zs) (same ∙ ap f (sym e))
joined-same f (z ∷ zs) (suc i) x y at same = ap (λ ws. f z ++ ws) (joined-same f zs i x y at same)

among-joined : {A : Type 0} (f : A → List Lane) (xs : List A) (i : ℕ) (x : A) → slice_get xs i ≡ Some x → AreAmong (f x) (flat_map f xs)
among-joined f [] i x at = absurd (no at)
  where
    no : None ≡ Some x → ⊥
    no e = cc
among-joined f (z ∷ zs) zero x at = let e : z ≡ x = cc in subst (λ (w : _). AreAmong (f w) (f z ++ flat_map f zs)) e (within-left (f z) (flat_map f zs))
among-joined f (z ∷ zs) (suc i) x at = λ l any. within-right (f z) (flat_map f zs) l (among-joined f zs i x at l any)

-- few summands, none of them large
pub few-sum : {A : Type 0} (f : A → ℕ) (xs : List A) → length xs ≤ 2 ^ 8 → ((k : ℕ) (x : A) → slice_get xs k ≡ Some x → f x < 2 ^ 50) → sum_by f xs < 2 ^ 62
few-sum f [] n each = omega arith
few-sum f (x ∷ xs) n each =
    let s = sum_by-le f (2 ^ 50) (x ∷ xs) (All-from_get_or (λ z. f z ≤ 2 ^ 50) (x ∷ xs) x (λ k lt. let e = each k (get_or (x ∷ xs) k x) (slice_get-get_or (x ∷ xs) k x lt) in omega (arith, e))) in
    omega (arith, n, s)

-- ---- the same part

module _ {S T : Type 0} (p p' : ChannelPartView S T) (same : SamePart p p') where
  pub same-hops : head_hop p' ≡ head_hop p
  same-hops = sym (length-map p'.path.contexts (λ (slot : Option (ContextView S)). is_some slot)) ∙ ap length same.path.contexts ∙ length-map p.path.contexts (λ (slot : Option (ContextView S)). is_some slot)

  same-writer : (hop : ℕ) → writer_hop p'.path hop ≡ writer_hop p.path hop
  same-writer hop = λ i. cond (hop == 0) (same-hops i) (cond (hop == same.path.tail_hop i + 1) (same.path.turn i) (hop - 1))

  pub same-executor : (hop : ℕ) → executor_at p' hop ≡ executor_at p hop
  same-executor hop = ap (λ (es : List ℕ). get_or es hop 0) same.path.executors

  same-lanes : part_lanes p' ≡ part_lanes p
  same-lanes = λ i. map (λ hop. data_lane (same.path.channel i) hop) (range_with_len 0 (length (same.path.executors i)))

  still-whole : HasAllNodes p → HasAllNodes p'
  still-whole w = record {
    outbound = w.outbound;
    filled = same.path.contexts ∙ w.filled ∙ ap (λ (k : ℕ). replicate k true ++ false ∷ replicate w.outbound true) (sym same.path.tail_hop);
    tail = same.path.tail ∙ w.tail;
    head = same.head ∙ w.head;
  }

-- ---- one of all parts

module _ {S T : Type 0} (ps : List (ChannelPartView S T)) (c : ℕ) (p p' : ChannelPartView S T) (was : slice_get ps c ≡ Some p) where
  -- all parts, where that of this channel is another one
  abbrev pub changed : List (ChannelPartView S T)
  changed = set ps c p'

  is : slice_get changed c ≡ Some p'
  is = at-set_here ps c p' (slice_get_within ps c p was)

  -- what is said of a part, or of none: here it is said of the one, and of the other
  pub at-was : {A : Type 0} (f : ChannelPartView S T → A) (none : A) (k : ℕ) → k ≡ c → option_map_or f (slice_get ps k) none ≡ f p
  at-was f none k e = ap (λ (o : Option (ChannelPartView S T)). option_map_or f o none) (ap (λ (n : ℕ). slice_get ps n) e ∙ was)

  pub at-is : {A : Type 0} (f : ChannelPartView S T → A) (none : A) (k : ℕ) → k ≡ c → option_map_or f (slice_get changed k) none ≡ f p'
  at-is f none k e = ap (λ (o : Option (ChannelPartView S T)). option_map_or f o none) (ap (λ (n : ℕ). slice_get changed n) e ∙ is)

  elsewhere : {A : Type 0} (f : ChannelPartView S T → A) (none : A) (k : ℕ) → k ≢ c → option_map_or f (slice_get changed k) none ≡ option_map_or f (slice_get ps k) none
  elsewhere f none k other = ap (λ (o : Option (ChannelPartView S T)). option_map_or f o none) (at-set_there ps c k p' other)

  pub unchanged : {A : Type 0} (f : ChannelPartView S T → A) (none : A) → f p' ≡ f p → (k : ℕ) → option_map_or f (slice_get changed k) none ≡ option_map_or f (slice_get ps k) none
  unchanged f none same k = ⊎_elim
      (λ (e : k ≡ c). at-is f none k e ∙ same ∙ sym (at-was f none k e))
      (λ (other : k ≢ c). elsewhere f none k other)
      (cases_eq k c)

  -- ---- what was done

  done-moves : done_of changed + part_done p ≡ done_of ps + part_done p'
  done-moves =
      let s = sum_by-set (λ (q : ChannelPartView S T). part_done q) ps c p' p (slice_get_within ps c p was) in
      let e : part_done (get_or ps c p) ≡ part_done p = ap (λ (q : ChannelPartView S T). part_done q) (get_or_from_slice_get ps c p p was) in
      ap (λ (n : ℕ). done_of changed + n) (sym e) ∙ s

  pub done-more : (n m k : ℕ) → part_done p + n + k ≤ part_done p' + m → done_of ps + n + k ≤ done_of changed + m
  done-more n m k more = let d = done-moves in omega (arith, more, d)

  -- ---- their lanes

  pub places-of : (b : OutputsView) → HasPlaces b.stopped (data_lanes_of ps) → HasPlaces b.stopped (part_lanes p)
  places-of b places = places-for b.stopped (data_lanes_of ps) (part_lanes p) places (among-joined (λ (q : ChannelPartView S T). part_lanes q) ps c p was)

  -- what one has put stays within the places
  pub places-stay : (b a : OutputsView) → KeepsPlaces (part_lanes p) b.stopped a.stopped → KeepsPlaces (data_lanes_of ps) b.stopped a.stopped
  places-stay b a placed hops among = placed hops (λ l any. among l (among-joined (λ (q : ChannelPartView S T). part_lanes q) ps c p was l any))

  -- they go the same ways, where the part is the same
  module _ (same : SamePart p p') where
    pub home-stays : home_of changed ≡ home_of ps
    home-stays = λ i k. unchanged (λ (q : ChannelPartView S T). executor_at q (head_hop q)) 0 (λ j. get_or (same.path.executors j) (same-hops p p' same j) 0) k i

    pub target-stays : target_of changed ≡ target_of ps
    target-stays = λ i l. unchanged (λ (q : ChannelPartView S T). executor_at q l.hop) 0 (same-executor p p' same l.hop) l.channel i

    pub origin-stays : origin_of changed ≡ origin_of ps
    origin-stays = λ i l. unchanged (λ (q : ChannelPartView S T). executor_at q (writer_hop q.path l.hop)) 0 (λ j. get_or (same.path.executors j) (same-writer p p' same l.hop j) 0) l.channel i

    lanes-stay : data_lanes_of changed ≡ data_lanes_of ps
    lanes-stay = joined-same (λ (q : ChannelPartView S T). part_lanes q) ps c p p' was (same-lanes p p' same)

    -- and the same are written, where its nodes write the same
    writes-stay : (meaning : S → Meaning) → ((l : Lane) → part_writes meaning p' l ≡ part_writes meaning p l) → (l : Lane) → writes_of meaning changed l ≡ writes_of meaning ps l
    writes-stay meaning writes l = unchanged (λ (q : ChannelPartView S T). writes_here meaning q l) false (λ i. nat_lt l.hop (length (same.path.executors i)) && writes l i) l.channel

    pub routes-stay : (meaning : S → Meaning) → ((l : Lane) → part_writes meaning p' l ≡ part_writes meaning p l) → (target target' : Lane → ℕ) → target' ≡ target → SameRoutes (lanes_view meaning target ps) (lanes_view meaning target' changed)
    routes-stay meaning writes target target' goes = λ i. record { target = goes i; written = λ l. writes-stay meaning writes l i; taken = taken_of changed; came = came_of meaning changed; places = lanes-stay i }

  -- ---- what was taken

  pub taken-none : ((l : Lane) → part_taken p' l ≡ part_taken p l) → taken_of changed ≡ taken_of ps
  taken-none same = λ i l. unchanged (λ (q : ChannelPartView S T). part_taken q l) 0 (same l) l.channel i

  pub taken-one : (e : Envelope) → e.lane.channel ≡ c → ((l : Lane) → part_taken p' l ≡ cond (same_lane l e.lane) (e.number + 1) (part_taken p l)) → taken_of changed ≡ taken_with (taken_of ps) e
  taken-one e of took = λ i l. lane l i
    where
      apart : (l : Lane) → l.channel ≢ c → same_lane l e.lane ≡ false
      apart l other = ⊎_elim
          (λ (t : same_lane l e.lane ≡ true). absurd (other (ap (λ (m : Lane). m.channel) (same_lane-equal l e.lane t) ∙ of)))
          (λ (f : same_lane l e.lane ≡ false). f)
          (cases_Bool (same_lane l e.lane))

      lane : (l : Lane) → taken_of changed l ≡ taken_with (taken_of ps) e l
      lane l = ⊎_elim
          (λ (here : l.channel ≡ c).
          at-is (λ (q : ChannelPartView S T). part_taken q l) 0 l.channel here ∙ took l
          ∙ ap (λ (n : ℕ). cond (same_lane l e.lane) (e.number + 1) n) (sym (at-was (λ (q : ChannelPartView S T). part_taken q l) 0 l.channel here)))
          (λ (other : l.channel ≢ c).
          elsewhere (λ (q : ChannelPartView S T). part_taken q l) 0 l.channel other
          ∙ sym (cond-false (same_lane l e.lane) (e.number + 1) (taken_of ps l) (apart l other)))
          (cases_eq l.channel c)

  -- ---- the stand

  module _ (meaning : S → Meaning) (stands_after : S → List Event → Type 0) (state : T → TransportState) (world : World) (stands : ChannelsStand world meaning stands_after state ps) where
    pub part-stands : PartStands world meaning stands_after state c p
    part-stands = stands.parts c p was

    -- the last hop is the head's
    pub home-last : (hop executor : ℕ) → hop ≡ head_hop p → executor ≡ executor_at p hop → executor ≡ home_of ps c
    home-last hop executor last is =
        is ∙ ap (λ (k : ℕ). executor_at p k) last ∙ sym (at-was (λ (q : ChannelPartView S T). executor_at q (head_hop q)) 0 c refl)

    pub below : p.path.tail_hop < head_hop p
    below = tail-within p part-stands.holds.hops part-stands.whole

    pub is-written : (l : Lane) → part_writes meaning p l ≡ true → IsWritten world meaning stands_after state p part-stands.holds below l
    is-written l w = written world meaning stands_after state p part-stands.holds below l w

    -- what its nodes write is of its channel
    pub own-channel : (l : Lane) → part_writes meaning p l ≡ true → l.channel ≡ c
    own-channel l w = (is-written l w).channel ∙ part-stands.channel

    pub still-stand : PartHolds world meaning stands_after state p' → SamePart p p' → part_done p' < 2 ^ 50 → ChannelsStand world meaning stands_after state changed
    still-stand holds same few = record {
      parts = λ k q at. ⊎_elim
          (λ (here : k ≡ c).
          subst (λ (z : ℕ × ChannelPartView S T). PartStands world meaning stands_after state z.0 z.1) (λ i. (sym here i, same_Some p' q (sym is ∙ ap (λ (n : ℕ). slice_get changed n) (sym here) ∙ at) i))
          (record { holds = holds; channel = same.path.channel ∙ part-stands.channel; whole = still-whole p p' same part-stands.whole; few = few }))
          (λ (other : k ≢ c). stands.parts k q (sym (at-set_there ps c k p' other) ∙ at))
          (cases_eq k c);
      few = let n = length-set ps c p' in let m = stands.few in omega (arith, n, m);
    }

    pub few-done : part_done p' < 2 ^ 50 → done_of changed < 2 ^ 62
    few-done few = few-sum (λ (q : ChannelPartView S T). part_done q) changed (let n = length-set ps c p' in let m = stands.few in omega (arith, n, m)) each
      where
        each : (k : ℕ) (q : ChannelPartView S T) → slice_get changed k ≡ Some q → part_done q < 2 ^ 50
        each k q at = ⊎_elim
            (λ (here : k ≡ c). subst (λ (x : ChannelPartView S T). part_done x < 2 ^ 50) (same_Some p' q (sym is ∙ ap (λ (n : ℕ). slice_get changed n) (sym here) ∙ at)) few)
            (λ (other : k ≢ c). (stands.parts k q (sym (at-set_there ps c k p' other) ∙ at)).few)
            (cases_eq k c)

    -- an envelope of a lane that is written is the next for its part
    pub next-for : (e : Envelope) (b : OutputsView) → e.lane.channel ≡ c → writes_of meaning ps e.lane ≡ true → e.number ≡ taken_of ps e.lane → IsGood world e → HasPlaces b.stopped (data_lanes_of ps)
        → IsNextFor world meaning stands_after state p e b
    next-for e b of writes number good places = record {
      holds = part-stands.holds;
      entered =
          let w = is-written e.lane (and_parts (nat_lt e.lane.hop (length p.path.executors)) (part_writes meaning p e.lane) (sym (at-was (λ (q : ChannelPartView S T). writes_here meaning q e.lane) false e.lane.channel of) ∙ writes)).1 in
          enters p part-stands.holds.hops part-stands.whole e.lane w.channel w.hop;
      number = number ∙ at-was (λ (q : ChannelPartView S T). part_taken q e.lane) 0 e.lane.channel of;
      good = good;
      places = places-of b places;
    }

-- a lane that is written has a channel
pub channel-there : {S T : Type 0} (meaning : S → Meaning) (ps : List (ChannelPartView S T)) (l : Lane) → writes_of meaning ps l ≡ true → l.channel < length ps
channel-there meaning ps l writes = by (slice_get ps l.channel) refl writes
  where
    by : (o : Option (ChannelPartView _ _)) → slice_get ps l.channel ≡ o → option_map_or (λ (p : ChannelPartView _ _). writes_here meaning p l) o false ≡ true → l.channel < length ps
    by None at w = absurd (false≢true w)
    by (Some p) at w = slice_get_within ps l.channel p at
