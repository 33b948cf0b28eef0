-- The parts of an executor that are its shares of channels before any move: they fit the lanes between executors.
use Rattle.std.proofs.Common.{◌≡◌, ◌≢◌, ℕ, suc, ◌<◌, true, false, List, [], ◌∷◌, ◌++◌, length, map, get_or, slice_get, Option, Some, None, refl, ap, ap₂, sym, ◌∙◌, subst, arith}
use Rattle.std.specs.Prelude.{◌==◌}
use Rattle.std.specs.List.{flat_map, range_with_len}
use Rattle.std.specs.Option.{option_map_or}
use Rattle.std.proofs.lemmas.Bool.{false≢true, cond-true, and_parts, eqb-true, false_from_ne_true}
use Rattle.std.proofs.lemmas.List.FromFn.{length-map-range_with_len, get_or-map-range_with_len}
use Rattle.std.proofs.lemmas.Option.{slice_get_within, slice_get-get_or, get_or_from_slice_get}
use Rattle.pl_event.specs.declared.events.Event.{Event}
use Rattle.pl_event.specs.declared.envelopes.Lane.{Lane}
use Rattle.pl_event.specs.Meaning.{Meaning}
use Rattle.pl_event.proofs.Lists.{All-at, at-index}
use Rattle.pl_queue.specs.Views.{has_lane}
use Rattle.pl_queue.specs.Left.{lanes_of_senders}
use Rattle.pl_context.specs.Stops.{AreAmong, HasPlaces, no_stops}
use Rattle.pl_context.proofs.Places.{places-start}
use Rattle.pl_flow.specs.Flows.{point, nowhere}
use Rattle.pl_head.specs.Transports.{TransportState}
use Rattle.pl_part.specs.Paths.{writer_hop}
use Rattle.pl_part.specs.Parts.{ChannelPartView, head_hop, part_lanes, part_taken, part_writes, part_came}
use Rattle.pl_part.specs.Shares.{executor_of}
use Rattle.pl_part.proofs.ShareLemmas.{share-taken-none, share-came-same}
use Rattle.pl_channel.specs.Lanes.{world_of}
use Rattle.pl_channel.specs.Channels.{executor_at, is_hop, origin_of, taken_of, writes_here, writes_of, came_of, data_lanes_of, target_of}
use Rattle.pl_channel.specs.Ways.{lanes_between}
use Rattle.pl_channel.specs.WholeParts.{AreWholeParts}
use Rattle.pl_channel.proofs.LanePlaces.{among-between, places-all}
use Rattle.pl_channel.proofs.Wholes.{written}
use Rattle.pl_world.specs.declared.session.Recorded.{Recorded}
use Rattle.pl_world.specs.Plans.{Plan, channel_planned}
use Rattle.pl_world.specs.PlanRules.{IsPlan, IsChannelPlan}
use Rattle.pl_exec.specs.Lanes.{AreLaid, every_lane, is_lane}
use Rattle.pl_exec.specs.Opening.{LaneTable, lanes_to, table_lanes, FitsLanes}
use Rattle.pl_exec.specs.ExecutorNodes.{nobody, enters, entered_executor, lanes_here}
use Rattle.pl_exec.specs.Sharing.{AreSharesOf}
use Rattle.pl_exec.proofs.LaneTablesEvery.{has-any, every-has, every-few}
use Rattle.pl_exec.proofs.SharesStand.{IsPlacedShare, whole-of}

joined-same : {A B C : Type 0} (f : A → List C) (h : B → List C) (xs : List A) (ys : List B) → length xs ≡ length ys → ((i : ℕ) (x : A) (y : B) → slice_get xs i ≡ Some x → slice_get ys i ≡ Some y → f x ≡ h y)
    → flat_map f xs ≡ flat_map h ys
joined-same f h [] [] size each = refl
joined-same f h [] (y ∷ ys) size each = absurd (omega (arith, size))
joined-same f h (x ∷ xs) [] size each = absurd (omega (arith, size))
joined-same f h (x ∷ xs) (y ∷ ys) size each = ap₂ (λ (a b : List _). a ++ b) (each 0 x y refl refl) (joined-same f h xs ys (omega (arith, size)) (λ i a b p q. each (suc i) a b p q))

-- what stands at a number, where each is made of its own
pub numbered-at : {A : Type 0} (f : ℕ → A) (n i : ℕ) (y : A) → slice_get (map f (range_with_len 0 n)) i ≡ Some y → y ≡ f i
numbered-at f n i y at =
    let size = length-map-range_with_len f 0 n in
    let within = slice_get_within (map f (range_with_len 0 n)) i y at in
    sym (get_or_from_slice_get (map f (range_with_len 0 n)) i y y at) ∙ get_or-map-range_with_len f 0 n i i y (omega (arith, within, size)) (omega arith)

-- by target how many lanes there are from an executor to so many
abbrev pub places_at : {S T : Type 0} → List (ChannelPartView S T) → ℕ → ℕ → List ℕ
places_at wholes count x = map (λ y. length (lanes_between wholes x y)) (range_with_len 0 count)

-- A table of the lanes between so many executors: it has each that goes from one to another on its way, and no others.
pub record IsTable {S T : Type 0} (wholes : List (ChannelPartView S T)) (count : ℕ) (lanes : LaneTable) : Type 0 where
  pub size : length lanes ≡ count
  pub crossing : (x y : ℕ) (l : Lane) → is_lane wholes l ≡ true → origin_of wholes l ≡ x → target_of wholes l ≡ y → x ≢ y → x < count → y < count → has_lane l (table_lanes lanes x y) ≡ true
  pub entering : (y : ℕ) (l : Lane) → has_lane l (lanes_of_senders (lanes_to lanes y)) ≡ true → (x : ℕ) × (x ≢ y) × (origin_of wholes l ≡ x) × (target_of wholes l ≡ y) × (is_lane wholes l ≡ true)

module _ {S T : Type 0} (meaning : S → Meaning) (stands_after : S → List Event → Type 0) (state : T → TransportState) (plan : Plan) (rs : List (Recorded S T)) (planned : plan.channels ≡ map (channel_planned meaning state) rs)
    (wholes : List (ChannelPartView S T)) (placed : AreWholeParts meaning stands_after state rs wholes) (ruled : IsPlan plan) (x : ℕ) (parts : List (ChannelPartView S T)) (are : AreSharesOf meaning stands_after state wholes x parts) where
  abbrev IsHere : ℕ → ChannelPartView S T → Type 0
  IsHere c share = IsPlacedShare meaning stands_after state plan rs planned wholes placed x parts are c share

  here : (c : ℕ) (share : ChannelPartView S T) → slice_get parts c ≡ Some share → IsHere c share
  here c share at = whole-of meaning stands_after state plan rs planned wholes placed x parts are c share at

  -- ---- where lanes go

  executor-there : (c : ℕ) (share : ChannelPartView S T) (s : IsHere c share) (hop : ℕ) → hop < length s.whole.path.executors → executor_at s.whole hop < plan.executors
  executor-there c share s hop within =
      let p = channel_planned meaning state s.recorded in
      let same = s.is_placed.whole.executors_are in
      let rule = All-at (IsChannelPlan plan.executors) plan.channels c p ruled.channels s.planned_at in
      let there = subst (λ (l : List ℕ). hop < length l) same within in
      subst (λ (l : List ℕ). get_or l hop 0 < plan.executors) (sym same) (All-at (λ (e : ℕ). e < plan.executors) p.executors hop (get_or p.executors hop 0) rule.placed (slice_get-get_or p.executors hop 0 there))

  goes-to : (l : Lane) (share : ChannelPartView S T) → slice_get parts l.channel ≡ Some share → (s : IsHere l.channel share) → is_hop s.whole l ≡ true → entered_executor parts l ≡ executor_at s.whole l.hop
  goes-to l share at s hop =
      ap (λ (o : Option (ChannelPartView S T)). option_map_or (λ (p : ChannelPartView S T). enters p l) o nobody) at
      ∙ ap (λ (es : List ℕ). enters (record s.whole { path = record s.whole.path { executors = es } }) l) s.is.share_is.path.executors
      ∙ cond-true (is_hop s.whole l) (executor_at s.whole l.hop) nobody hop

  -- nothing was taken
  none-taken : (l : Lane) → taken_of parts l ≡ 0
  none-taken l = by (slice_get parts l.channel) refl
    where
      by : (o : Option (ChannelPartView S T)) → slice_get parts l.channel ≡ o → option_map_or (λ (p : ChannelPartView S T). part_taken p l) o 0 ≡ 0
      by None at = refl
      by (Some share) at = let s = here l.channel share at in share-taken-none (λ (e : ℕ). e == x) s.whole share s.is.share_is l (s.is_placed.unmoved.taken l)

  -- ---- a lane that one of the nodes writes

  record IsOwn (l : Lane) : Type 0 where
    pub share : ChannelPartView S T
    pub at : slice_get parts l.channel ≡ Some share
    pub s : IsHere l.channel share
    pub wrote : part_writes meaning share l ≡ true
    pub whole_wrote : part_writes meaning s.whole l ≡ true
    -- its writer is here, and it enters a node
    pub writer : executor_of s.whole.path (writer_hop s.whole.path l.hop) ≡ x
    pub within : l.hop < length s.whole.path.executors
    pub hop : is_hop s.whole l ≡ true

  own : (l : Lane) → writes_of meaning parts l ≡ true → IsOwn l
  own l writes = by (slice_get parts l.channel) refl writes
    where
      by : (o : Option (ChannelPartView S T)) → slice_get parts l.channel ≡ o → option_map_or (λ (p : ChannelPartView S T). writes_here meaning p l) o false ≡ true → IsOwn l
      by None at w = absurd (false≢true w)
      by (Some share) at w =
          let s = here l.channel share at in
          let wrote = (and_parts _ (part_writes meaning share l) w).1 in
          let both = and_parts (part_writes meaning s.whole l) (executor_of s.whole.path (writer_hop s.whole.path l.hop) == x) (sym (s.is.writes l) ∙ wrote) in
          let below : s.whole.path.tail_hop < head_hop s.whole = let tail = s.keeps.tail_at in let head = s.keeps.head_at in omega (arith, tail, head) in
          let is = written (world_of true plan) meaning stands_after state s.whole s.holds below l both.0 in
          record {
            share = share;
            at = at;
            s = s;
            wrote = wrote;
            whole_wrote = both.0;
            writer = eqb-true (executor_of s.whole.path (writer_hop s.whole.path l.hop)) x both.1;
            within = is.within;
            hop = is.hop;
          }

  target-is : (l : Lane) (o : IsOwn l) → entered_executor parts l ≡ executor_at o.s.whole l.hop
  target-is l o = goes-to l o.share o.at o.s o.hop

  target-there : (l : Lane) → IsOwn l → entered_executor parts l < plan.executors
  target-there l o = subst (λ (n : ℕ). n < plan.executors) (sym (target-is l o)) (executor-there l.channel o.share o.s l.hop o.within)

  -- as the whole has it
  of-whole : {A : Type 0} (f : ChannelPartView S T → A) (none : A) (l : Lane) (o : IsOwn l) → option_map_or f (slice_get wholes l.channel) none ≡ f o.s.whole
  of-whole f none l o = ap (λ (q : Option (ChannelPartView S T)). option_map_or f q none) o.s.at

  goes-from : (l : Lane) → IsOwn l → origin_of wholes l ≡ x
  goes-from l o = of-whole (λ (p : ChannelPartView S T). executor_at p (writer_hop p.path l.hop)) 0 l o ∙ o.writer

  is-fresh : (l : Lane) → IsOwn l → came_of meaning parts l ≡ point 0 false
  is-fresh l o =
      ap (λ (q : Option (ChannelPartView S T)). option_map_or (λ (p : ChannelPartView S T). part_came meaning p l) q nowhere) o.at
      ∙ share-came-same (λ (e : ℕ). e == x) o.s.whole o.share o.s.is.share_is meaning l o.wrote ∙ o.s.is_placed.unmoved.came l o.whole_wrote

  has-place : (l : Lane) → IsOwn l → AreAmong (l ∷ []) (lanes_between wholes x (entered_executor parts l))
  has-place l o = subst (λ (z : ℕ × ℕ). AreAmong (l ∷ []) (lanes_between wholes z.0 z.1)) (λ i. (o.writer i, sym (target-is l o) i))
      (among-between wholes l.channel o.s.whole o.s.at o.s.is_placed.whole.channel_is l refl o.within)

  -- ---- the places

  same-lanes : data_lanes_of wholes ≡ data_lanes_of parts
  same-lanes = sym (joined-same (λ (p : ChannelPartView S T). part_lanes p) (λ (p : ChannelPartView S T). part_lanes p) parts wholes are.count (λ c share whole at there. (are.each c whole share there at).lanes))

  places-there : (target count : ℕ) → slice_get (places_at wholes plan.executors x) target ≡ Some count → HasPlaces (no_stops count) (lanes_between wholes x target)
  places-there target count at =
      let is = numbered-at (λ (y : ℕ). length (lanes_between wholes x y)) plan.executors target count at in
      places-start count (lanes_between wholes x target) (omega (arith, is))

  -- ---- the table

  module _ (laid : AreLaid wholes) (lanes : LaneTable) (table : IsTable wholes plan.executors lanes) (below : x < plan.executors) where
    -- a lane to this executor, which is written elsewhere
    enters-here : (l : Lane) → has_lane l (lanes_of_senders (lanes_to lanes x)) ≡ true → (entered_executor parts l ≡ x) × (writes_of meaning parts l ≡ false) × (taken_of parts l ≡ 0)
    enters-here l has = (goes, false_from_ne_true (writes_of meaning parts l) elsewhere, none-taken l)
      where
        from : (y : ℕ) × (y ≢ x) × (origin_of wholes l ≡ y) × (target_of wholes l ≡ x) × (is_lane wholes l ≡ true)
        from = table.entering x l has

        elsewhere : writes_of meaning parts l ≡ true → ⊥
        elsewhere w = from.1 (sym from.2 ∙ goes-from l (own l w))

        goes : entered_executor parts l ≡ x
        goes = by (slice_get wholes l.channel) refl from.4 from.3
          where
            by : (o : Option (ChannelPartView S T)) → slice_get wholes l.channel ≡ o → option_map_or (λ (p : ChannelPartView S T). is_hop p l) o false ≡ true → option_map_or (λ (p : ChannelPartView S T). executor_at p l.hop) o 0 ≡ x → entered_executor parts l ≡ x
            by None at lane target = absurd (false≢true lane)
            by (Some whole) at lane target =
                let size = are.count in
                let within = slice_get_within wholes l.channel whole at in
                let share = at-index parts l.channel (omega (arith, size, within)) in
                let s = here l.channel share.0 share.1 in
                let same = same-whole whole s.whole (sym at ∙ s.at) in
                goes-to l share.0 share.1 s (ap (λ (p : ChannelPartView S T). is_hop p l) (sym same) ∙ lane) ∙ ap (λ (p : ChannelPartView S T). executor_at p l.hop) (sym same) ∙ target
              where
                same-whole : (a b : ChannelPartView S T) → Some a ≡ Some b → a ≡ b
                same-whole a b e = cc

    -- They fit its lanes, and have the places of this executor.
    pub shares-fit : (heads : ℕ) → FitsLanes lanes x (record { executor = x; lanes = lanes_here meaning parts; heads = heads; was_refused = false }) (length (data_lanes_of wholes)) (places_at wholes plan.executors x)
    shares-fit heads = record {
      at = refl;
      unrefused = refl;
      fresh = λ l w. is-fresh l (own l w);
      there = λ l w. subst (λ (n : ℕ). entered_executor parts l < n) (sym table.size) (target-there l (own l w));
      own = λ l w to_here. none-taken l;
      away = λ l w off.
          let o = own l w in
          table.crossing x (entered_executor parts l) l (of-whole (λ (p : ChannelPartView S T). is_hop p l) false l o ∙ o.hop) (goes-from l o)
          (of-whole (λ (p : ChannelPartView S T). executor_at p l.hop) 0 l o ∙ sym (target-is l o)) (λ e. off (sym e)) below (target-there l o);
      entering = enters-here;
      work = subst (HasPlaces (no_stops (length (data_lanes_of wholes)))) same-lanes (places-all wholes);
      targets = length-map-range_with_len (λ (y : ℕ). length (lanes_between wholes x y)) 0 plan.executors ∙ sym table.size;
      hops = lanes_between wholes x;
      placed = places-there;
      among = λ l w. has-place l (own l w);
      few = record {
        lanes = every_lane wholes;
        few = let most = every-few 0 wholes laid.few in let channels = laid.channels in omega (arith, most, channels);
        all = λ l w. let o = own l w in sym (has-any l (every_lane wholes)) ∙ every-has wholes l ∙ of-whole (λ (p : ChannelPartView S T). is_hop p l) false l o ∙ o.hop;
      };
    }
