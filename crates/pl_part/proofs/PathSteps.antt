-- A node of a part moves: how the part stands then, and what it has put out.
use Rattle.std.proofs.Common.{◌≡◌, ◌≢◌, ℕ, zero, suc, ◌+◌, ◌-◌, ◌<◌, ◌≤◌, Bool, true, false, ◌||◌, ◌&&◌, cond, List, [], ◌∷◌, length, map, get_or, set, Option, Some, None, refl, ap, sym, ◌∙◌, subst, ⊎_elim, arith}
use Rattle.std.specs.Prelude.{◌==◌, is_some, if◌then◌else◌}
use Rattle.std.specs.List.{list_any, range_with_len}
use Rattle.std.specs.Option.{option_map_or}
use Rattle.std.proofs.lemmas.List.{length-set, set-get_or, get_or-set_same, get_or-set_other}
use Rattle.std.proofs.lemmas.List.Sums.{sum_by-set}
use Rattle.std.proofs.lemmas.Option.{none-some, same_Some}
use Rattle.std.proofs.lemmas.Bool.{cond-true, cond-false, cases_Bool, both_ways, and_parts, and_from, eqb-true, eq-eqb, ne_eqb, or_right, or_left}
use Rattle.pl_event.specs.declared.events.Event.{Event}
use Rattle.pl_event.specs.declared.envelopes.Kind.{Kind}
use Rattle.pl_event.specs.declared.envelopes.Kind.TheVariants.{Data, Flags}
use Rattle.pl_event.specs.declared.envelopes.Lane.{Lane}
use Rattle.pl_event.specs.declared.envelopes.Envelope.{Envelope}
use Rattle.pl_event.specs.declared.stages.Direction.{Direction}
use Rattle.pl_event.specs.declared.stages.Direction.TheVariants.{Inbound, Outbound, Turn}
use Rattle.pl_event.specs.Hops.{same_lane, data_lane, flags_lane}
use Rattle.pl_event.specs.Meaning.{Meaning}
use Rattle.pl_event.specs.Paths.{is_turn}
use Rattle.pl_event.specs.Worlds.{World}
use Rattle.pl_event.proofs.SameLanes.{same_lane-equal}
use Rattle.pl_context.specs.declared.ports.Port.{Port}
use Rattle.pl_context.specs.declared.standing.Took.{Took}
use Rattle.pl_context.specs.Standings.{is_over}
use Rattle.pl_context.specs.ContextViews.{ContextView, Enters, IsHop, has_up, has_down, down_hop, kind_taken, one_of, taken_of}
use Rattle.pl_context.specs.OutputsViews.{OutputsView}
use Rattle.pl_context.specs.Stops.{HasPlaces, AreAmong, same_hop}
use Rattle.pl_context.specs.TailViews.{TailView, EntersTail, kind_taken as tail_kind_taken, taken_of as tail_taken_of}
use Rattle.pl_flow.specs.Flows.{nowhere, IsGood}
use Rattle.pl_flow.specs.Makes.{Makes}
use Rattle.pl_flow.proofs.MakeLemmas.{makes-none, makes-among}
use Rattle.pl_part.specs.ContextHolds.{ContextHolds, ports_write, ports_came, port_point, context_writes, context_came, context_lanes}
use Rattle.pl_part.specs.TailHolds.{TailHolds}
use Rattle.pl_part.specs.Taking.{ContextTakes, ContextRefused, TailTakes}
use Rattle.pl_part.specs.Paths.{PathPartView, PathHolds, IsPathPart, IsAt, context_at, writer_hop, enters_path, path_taken, path_lanes, path_writes, path_writes_at, path_came}
use Rattle.pl_part.specs.PathCalls.{IsNextOnPath, PathPuts, PathTaken, PathRefused}
use Rattle.pl_part.specs.Counts.{context_done, tail_done, slot_done, path_done}
use Rattle.pl_part.proofs.TakenCounts.{node_taken, taken-kind, taken-next}

-- an item is of one lane
one-item : (k : Kind) → one_of Data k + one_of Flags k ≡ 1
one-item Data = refl
one-item Flags = refl

-- ---- slots

filled-there : {A : Type 0} (xs : List (Option A)) (i : ℕ) (x : A) → get_or xs i None ≡ Some x → i < length xs
filled-there [] i x e = absurd (no e)
  where
    no : None ≡ Some x → ⊥
    no e = cc
filled-there (y ∷ ys) zero x e = omega arith
filled-there (y ∷ ys) (suc i) x e = let t = filled-there ys i x e in omega (arith, t)

pub beyond : {A : Type 0} (xs : List (Option A)) (i : ℕ) → length xs ≤ i → get_or xs i None ≡ None
beyond [] i le = refl
beyond (x ∷ xs) zero le = absurd (omega (arith, le))
beyond (x ∷ xs) (suc i) le = beyond xs i (omega (arith, le))

-- the slot that was lent is that of the list
pub slot-at : {A : Type 0} (xs : List (Option A)) (i : ℕ) (slot lent : Option A) → i < length xs → slot ≡ get_or xs i slot → slot ≡ lent → get_or xs i None ≡ lent
slot-at [] i slot lent lt value is = absurd (omega (arith, lt))
slot-at (y ∷ ys) zero slot lent lt value is = sym value ∙ is
slot-at (y ∷ ys) (suc i) slot lent lt value is = slot-at ys i slot lent (omega (arith, lt)) value is

filled-within : {A : Type 0} (xs : List (Option A)) (i : ℕ) → is_some (get_or xs i None) ≡ true → i < length xs
filled-within [] i e = absurd (both_ways false refl e)
filled-within (y ∷ ys) zero e = omega arith
filled-within (y ∷ ys) (suc i) e = let t = filled-within ys i e in omega (arith, t)

pub set-same : {A : Type 0} (xs : List A) (i : ℕ) (d : A) → d ≡ get_or xs i d → set xs i d ≡ xs
set-same [] i d e = refl
set-same (y ∷ ys) zero d e = ap (λ z. z ∷ ys) e
set-same (y ∷ ys) (suc i) d e = ap (λ zs. y ∷ zs) (set-same ys i d e)

same-filled : {A : Type 0} (xs : List (Option A)) (i : ℕ) (x y : A) → get_or xs i None ≡ Some x → map (λ (slot : Option A). is_some slot) (set xs i (Some y)) ≡ map (λ (slot : Option A). is_some slot) xs
same-filled [] i x y e = refl
same-filled (z ∷ zs) zero x y e = ap (λ (b : Bool). b ∷ map (λ (slot : Option _). is_some slot) zs) (sym (ap (λ (slot : Option _). is_some slot) e))
same-filled (z ∷ zs) (suc i) x y e = ap (λ (ws : List Bool). is_some z ∷ ws) (same-filled zs i x y e)

-- ---- small facts

one-of-three : {G : Type 0} (a b c : Bool) → (a || (b || c)) ≡ true → (a ≡ true → G) → (b ≡ true → G) → (c ≡ true → G) → G
one-of-three true b c e f g h = f refl
one-of-three false true c e f g h = g refl
one-of-three false false c e f g h = h e

none-of-three : (a b c : Bool) → (a || (b || c)) ≡ false → (a ≡ false) × (b ≡ false) × (c ≡ false)
none-of-three false false c e = (refl, refl, e)
none-of-three false true c e = absurd (both_ways true e refl)
none-of-three true b c e = absurd (both_ways true e refl)

pub three-lanes : (a b c a' b' c' : Lane) → a ∷ b ∷ c ∷ [] ≡ a' ∷ b' ∷ c' ∷ [] → (a ≡ a') × (b ≡ b') × (c ≡ c')
three-lanes a b c a' b' c' e = (cc, cc, cc)

pub apart-tail : (d : Direction) (hop k : ℕ) → IsHop d hop k → hop ≢ k
apart-tail Inbound hop k is e = let less = is.0 in omega (arith, less, e)
apart-tail Turn hop k is e = let less = is.0 in omega (arith, less, e)
apart-tail Outbound hop k is e = let less = is.0 in omega (arith, less, e)

-- a hop of a channel is among its lanes
pub among-hops : (lane : Lane) (channel hop n first : ℕ) → same_hop lane (data_lane channel hop) ≡ true → first ≤ hop → hop < first + n → list_any (same_hop lane) (map (λ k. data_lane channel k) (range_with_len first n)) ≡ true
among-hops lane channel hop zero first same from to = absurd (omega (arith, from, to))
among-hops lane channel hop (suc n) first same from to = ⊎_elim
    (λ (t : (first == hop) ≡ true).
    or_left (same_hop lane (data_lane channel first)) _ (ap (λ (k : ℕ). same_hop lane (data_lane channel k)) (eqb-true first hop t) ∙ same))
    (λ (f : (first == hop) ≡ false).
    let n-eq : first ≢ hop = (λ e. both_ways (first == hop) f (eq-eqb first hop e)) in
    or_right (same_hop lane (data_lane channel first)) _ (among-hops lane channel hop n (first + 1) same (omega (arith, from, n-eq)) (omega (arith, to))))
    (cases_Bool (first == hop))

-- lanes of two hops are two
pub other-hop : (l m : Lane) → (l.hop ≡ m.hop → ⊥) → same_lane l m ≡ false
other-hop l m off = ⊎_elim (λ (t : same_lane l m ≡ true). absurd (off (ap (λ (k : Lane). k.hop) (same_lane-equal l m t)))) (λ (f : same_lane l m ≡ false). f) (cases_Bool (same_lane l m))

-- a lane that a stage does not write has come nowhere
came-nowhere : (hu hd : Bool) (p q f : Port) (l : Lane) → ports_write hu hd p.lane q.lane f.lane l ≡ false → ports_came hu hd p q f l ≡ nowhere
came-nowhere hu hd p q f l e =
    let n = none-of-three (hu && same_lane l p.lane) (hd && same_lane l q.lane) (hu && same_lane l f.lane) e in
    cond-false (hu && same_lane l p.lane) (port_point p) _ n.0 ∙ cond-false (hd && same_lane l q.lane) (port_point q) _ n.1
    ∙ cond-false (hu && same_lane l f.lane) (port_point f) nowhere n.2

-- ---- a context moves

module _ {S : Type 0} (meaning : S → Meaning) (stands_after : S → List Event → Type 0) (v : PathPartView S) (inv : IsPathPart (length v.executors) (length v.contexts) v.tail_hop v.turn)
    (some : (world : World) × PathHolds world meaning stands_after v) (hop : ℕ) (c : ContextView S) (at : context_at v hop ≡ Some c) where
  is : IsAt meaning v.channel hop v.tail_hop v.turn c
  is = (some.1.contexts hop c at).1

  within : hop < length v.contexts
  within = filled-there v.contexts hop c at

  own-lanes : (c.up.lane ≡ data_lane v.channel (hop + 1)) × (c.down.lane ≡ data_lane v.channel (down_hop (meaning c.stage).direction hop v.tail_hop)) × (c.flags.lane ≡ flags_lane v.channel (hop + 1))
  own-lanes = three-lanes c.up.lane c.down.lane c.flags.lane _ _ _ is.lanes

  pub apart : hop ≢ v.tail_hop
  apart = apart-tail (meaning c.stage).direction hop v.tail_hop is.fits

  -- ---- its counts

  taken-at : (l : Lane) → l.hop ≡ hop → (p : PathPartView S) (x : ContextView S) → p.tail_hop ≡ v.tail_hop → context_at p hop ≡ Some x → path_taken p l ≡ taken_of x l
  taken-at l e p x k has =
      let n = apart in
      cond-false (l.hop == p.tail_hop) _ _ (ne_eqb l.hop p.tail_hop (λ z. n (omega (arith, e, z, k))))
      ∙ ap (λ (o : Option (ContextView S)). option_map_or (λ (y : ContextView S). taken_of y l) o 0) (ap (λ (h : ℕ). context_at p h) e ∙ has)

  pub context-enters : (e : Envelope) → e.lane.hop ≡ hop → enters_path v e.lane ≡ true → Enters c e.lane
  context-enters e on_hop entered = record {
    channel = eqb-true e.lane.channel v.channel (and_parts (e.lane.channel == v.channel) _ entered).0 ∙ sym is.channel_is;
    hop = on_hop ∙ sym is.hop_is;
  }

  pub context-number : (e : Envelope) → e.lane.hop ≡ hop → Enters c e.lane → e.number ≡ path_taken v e.lane → e.number ≡ kind_taken c e.lane.kind
  context-number e on_hop enters number = number ∙ taken-at e.lane on_hop v c refl at ∙ taken-kind c.channel c.hop e.lane enters.channel enters.hop (λ k. kind_taken c k)

  -- ---- its places

  below : (d : Direction) → IsHop d hop v.tail_hop → down_hop d hop v.tail_hop < length v.executors
  below Inbound i = let w = within in let h = inv.hops_are in omega (arith, w, h)
  below Outbound i = let w = within in let h = inv.hops_are in omega (arith, w, h)
  below Turn i = let w = inv.within in let h = inv.hops_are in omega (arith, w, h)

  pub context-among : AreAmong (context_lanes c) (path_lanes v)
  context-among lane any =
      let up = data_lane v.channel (hop + 1) in
      let down = data_lane v.channel (down_hop (meaning c.stage).direction hop v.tail_hop) in
      let w = within in
      let h = inv.hops_are in
      let next : hop + 1 < 0 + length v.executors = omega (arith, w, h) in
      one-of-three (same_hop lane up) (same_hop lane down) (same_hop lane (flags_lane v.channel (hop + 1)) || false) (sym (ap (λ (ls : List Lane). list_any (same_hop lane) ls) is.lanes) ∙ any)
      (λ t. among-hops lane v.channel (hop + 1) (length v.executors) 0 t (omega arith) next)
      (λ t. among-hops lane v.channel (down_hop (meaning c.stage).direction hop v.tail_hop) (length v.executors) 0 t (omega arith) (let b = below (meaning c.stage).direction is.fits in omega (arith, b)))
      (λ t. among-hops lane v.channel (hop + 1) (length v.executors) 0 (or-false (same_hop lane up) t) (omega arith) next)
    where
      or-false : (a : Bool) → (a || false) ≡ true → a ≡ true
      or-false true e = refl
      or-false false e = e

  pub context-places : (before : OutputsView) → HasPlaces before.stopped (path_lanes v) → HasPlaces before.stopped (context_lanes c)
  context-places before p = record { hops = p.hops; few = p.few; stopped = p.stopped; stopped_flags = p.stopped_flags; own = λ l a. p.own l (context-among l a) }

  -- ---- who writes a lane

  writer-next : (h : ℕ) → h ≡ hop + 1 → writer_hop v h ≡ hop
  writer-next h e =
      let n = apart in
      cond-false (h == 0) _ _ (ne_eqb h 0 (λ z. omega (arith, e, z))) ∙ cond-false (h == v.tail_hop + 1) _ _ (ne_eqb h (v.tail_hop + 1) (λ z. n (omega (arith, e, z)))) ∙ omega (arith, e)

  writer-down : (d : Direction) → (is_turn d ≡ true → hop ≡ v.turn) → has_down d ≡ true → (h : ℕ) → h ≡ down_hop d hop v.tail_hop → writer_hop v h ≡ hop
  writer-down Inbound t has h e = absurd (both_ways false refl has)
  writer-down Outbound t has h e = writer-next h e
  writer-down Turn t has h e =
      cond-false (h == 0) _ _ (ne_eqb h 0 (λ z. omega (arith, e, z))) ∙ cond-true (h == v.tail_hop + 1) v.turn (h - 1) (eq-eqb h (v.tail_hop + 1) e) ∙ sym (t refl)

  own-writer : (l : Lane) → context_writes (meaning c.stage).direction c l ≡ true → writer_hop v l.hop ≡ hop
  own-writer l w =
      let d = (meaning c.stage).direction in
      one-of-three (has_up d && same_lane l c.up.lane) (has_down d && same_lane l c.down.lane) (has_up d && same_lane l c.flags.lane) w
      (λ t. writer-next l.hop (ap (λ (m : Lane). m.hop) (same_lane-equal l c.up.lane (and_parts _ _ t).1 ∙ own-lanes.0)))
      (λ t. let p = and_parts _ _ t in writer-down d is.turned p.0 l.hop (ap (λ (m : Lane). m.hop) (same_lane-equal l c.down.lane p.1 ∙ own-lanes.1)))
      (λ t. writer-next l.hop (ap (λ (m : Lane). m.hop) (same_lane-equal l c.flags.lane (and_parts _ _ t).1 ∙ own-lanes.2)))

  module _ (c' : ContextView S) (meant : meaning c'.stage ≡ meaning c.stage) (same_node : (c'.channel ≡ c.channel) × (c'.hop ≡ c.hop)) (lanes : context_lanes c' ≡ context_lanes c) where
    abbrev pub moved_path : PathPartView S
    moved_path = record v { contexts = set v.contexts hop (Some c') }

    pub now-here : context_at moved_path hop ≡ Some c'
    now-here = get_or-set_same v.contexts hop (Some c') None within

    pub still-there : (h : ℕ) → h ≢ hop → context_at moved_path h ≡ context_at v h
    still-there h n = get_or-set_other v.contexts hop h (Some c') None n

    unmoved : c' ≡ c → moved_path ≡ v
    unmoved e = ap (λ (xs : List (Option (ContextView S))). record v { contexts = xs })
        (ap (λ (y : ContextView S). set v.contexts hop (Some y)) e ∙ ap (λ (slot : Option (ContextView S)). set v.contexts hop slot) (sym at) ∙ set-get_or v.contexts hop None)

    same-writer : (h : ℕ) → writer_hop moved_path h ≡ writer_hop v h
    same-writer h = ap (λ (n : ℕ). if h == 0 then n else if h == v.tail_hop + 1 then v.turn else h - 1) (length-set v.contexts hop (Some c'))

    -- a lane by its writer: this context, or another
    by-writer : {G : Type 0} (l : Lane) → (writer_hop v l.hop ≡ hop → context_at v (writer_hop v l.hop) ≡ Some c → context_at moved_path (writer_hop moved_path l.hop) ≡ Some c' → G)
        → (context_at moved_path (writer_hop moved_path l.hop) ≡ context_at v (writer_hop v l.hop) → G) → G
    by-writer l own other = ⊎_elim
        (λ (t : (writer_hop v l.hop == hop) ≡ true).
        let e = eqb-true (writer_hop v l.hop) hop t in
        own e (ap (λ (h : ℕ). context_at v h) e ∙ at) (ap (λ (h : ℕ). context_at moved_path h) (same-writer l.hop ∙ e) ∙ now-here))
        (λ (f : (writer_hop v l.hop == hop) ≡ false).
        other (ap (λ (h : ℕ). context_at moved_path h) (same-writer l.hop) ∙ still-there (writer_hop v l.hop) (λ e. both_ways (writer_hop v l.hop == hop) f (eq-eqb (writer_hop v l.hop) hop e))))
        (cases_Bool (writer_hop v l.hop == hop))

    wrote : (l : Lane) (o : Option (ContextView S)) (x : ContextView S) → o ≡ Some x
        → option_map_or (λ (y : ContextView S). context_writes (meaning y.stage).direction y l) o false ≡ context_writes (meaning x.stage).direction x l
    wrote l o x e = ap (λ (z : Option (ContextView S)). option_map_or (λ (y : ContextView S). context_writes (meaning y.stage).direction y l) z false) e

    came : (l : Lane) (o : Option (ContextView S)) (x : ContextView S) → o ≡ Some x
        → option_map_or (λ (y : ContextView S). context_came (meaning y.stage).direction y l) o nowhere ≡ context_came (meaning x.stage).direction x l
    came l o x e = ap (λ (z : Option (ContextView S)). option_map_or (λ (y : ContextView S). context_came (meaning y.stage).direction y l) z nowhere) e

    still-writes : (l : Lane) → context_writes (meaning c.stage).direction c' l ≡ context_writes (meaning c.stage).direction c l
    still-writes l =
        let d = (meaning c.stage).direction in
        let e = three-lanes c'.up.lane c'.down.lane c'.flags.lane _ _ _ lanes in
        (λ i. ports_write (has_up d) (has_down d) (e.0 i) (e.1 i) (e.2 i) l)

    now-came : (l : Lane) (o : Option (ContextView S)) → o ≡ Some c'
        → option_map_or (λ (y : ContextView S). context_came (meaning y.stage).direction y l) o nowhere ≡ context_came (meaning c.stage).direction c' l
    now-came l o e = came l o c' e ∙ ap (λ (m : Meaning). context_came m.direction c' l) meant

    pub writes-same : (l : Lane) → path_writes meaning moved_path l ≡ path_writes meaning v l
    writes-same l = by-writer l
        (λ e old now. wrote l _ c' now ∙ ap (λ (m : Meaning). context_writes m.direction c' l) meant ∙ still-writes l ∙ sym (wrote l _ c old))
        (λ same. ap (λ (z : Option (ContextView S)). option_map_or (λ (y : ContextView S). context_writes (meaning y.stage).direction y l) z false) same)

    same-came : (l : Lane) → context_writes (meaning c.stage).direction c l ≡ false → path_came meaning v l ≡ path_came meaning moved_path l
    same-came l f =
        let d = (meaning c.stage).direction in
        by-writer l
        (λ e old now. came l _ c old ∙ came-nowhere (has_up d) (has_down d) c.up c.down c.flags l f
        ∙ sym (came-nowhere (has_up d) (has_down d) c'.up c'.down c'.flags l (still-writes l ∙ f)) ∙ sym (now-came l _ now))
        (λ same. ap (λ (z : Option (ContextView S)). option_map_or (λ (y : ContextView S). context_came (meaning y.stage).direction y l) z nowhere) (sym same))

    path-makes : (world : World) (before after : OutputsView)
        → Makes world (context_writes (meaning c.stage).direction c) (context_came (meaning c.stage).direction c) (context_came (meaning c.stage).direction c') before after
        → Makes world (path_writes meaning v) (path_came meaning v) (path_came meaning moved_path) before after
    path-makes world before after = makes-among world (context_writes (meaning c.stage).direction c) (path_writes meaning v)
        (context_came (meaning c.stage).direction c) (context_came (meaning c.stage).direction c') (path_came meaning v) (path_came meaning moved_path) before after
        (λ l t. let e = own-writer l t in (
          wrote l _ c (ap (λ (h : ℕ). context_at v h) e ∙ at) ∙ t,
          came l _ c (ap (λ (h : ℕ). context_at v h) e ∙ at),
          now-came l _ (ap (λ (h : ℕ). context_at moved_path h) (same-writer l.hop ∙ e) ∙ now-here),
        ))
        (λ l f. same-came l f)

    own-at : (l : Lane) → context_writes (meaning c.stage).direction c l ≡ true → path_writes_at meaning v hop l ≡ true
    own-at l t =
        let e = own-writer l t in
        and_from _ _ (wrote l _ c (ap (λ (h : ℕ). context_at v h) e ∙ at) ∙ t) (eq-eqb (writer_hop v l.hop) hop e)

    pub others-came : (l : Lane) → path_writes_at meaning v hop l ≡ false → path_came meaning moved_path l ≡ path_came meaning v l
    others-came l f = by-writer l
        (λ e old now. ⊎_elim
        (λ (t : context_writes (meaning c.stage).direction c l ≡ true). absurd (both_ways (path_writes_at meaning v hop l) f (own-at l t)))
        (λ (n : context_writes (meaning c.stage).direction c l ≡ false). sym (same-came l n))
        (cases_Bool (context_writes (meaning c.stage).direction c l)))
        (λ same. ap (λ (z : Option (ContextView S)). option_map_or (λ (y : ContextView S). context_came (meaning y.stage).direction y l) z nowhere) same)

    node-makes : (world : World) (before after : OutputsView)
        → Makes world (context_writes (meaning c.stage).direction c) (context_came (meaning c.stage).direction c) (context_came (meaning c.stage).direction c') before after
        → Makes world (path_writes_at meaning v hop) (path_came meaning v) (path_came meaning moved_path) before after
    node-makes world before after = makes-among world (context_writes (meaning c.stage).direction c) (path_writes_at meaning v hop)
        (context_came (meaning c.stage).direction c) (context_came (meaning c.stage).direction c') (path_came meaning v) (path_came meaning moved_path) before after
        (λ l t. let e = own-writer l t in (
          own-at l t,
          came l _ c (ap (λ (h : ℕ). context_at v h) e ∙ at),
          now-came l _ (ap (λ (h : ℕ). context_at moved_path h) (same-writer l.hop ∙ e) ∙ now-here),
        ))
        (λ l f. same-came l f)

    still-at : IsAt meaning v.channel hop v.tail_hop v.turn c'
    still-at = record {
      channel_is = same_node.0 ∙ is.channel_is;
      hop_is = same_node.1 ∙ is.hop_is;
      fits = subst (λ (m : Meaning). IsHop m.direction hop v.tail_hop) (sym meant) is.fits;
      turned = λ t. is.turned (ap (λ (m : Meaning). is_turn m.direction) (sym meant) ∙ t);
      lanes = lanes ∙ is.lanes ∙ ap (λ (m : Meaning). data_lane v.channel (hop + 1) ∷ data_lane v.channel (down_hop m.direction hop v.tail_hop) ∷ flags_lane v.channel (hop + 1) ∷ []) (sym meant);
    }

    path-holds : (world : World) → PathHolds world meaning stands_after v → ContextHolds world meaning stands_after c' → PathHolds world meaning stands_after moved_path
    path-holds world holds held = record {
      contexts = λ h x e. ⊎_elim
          (λ (t : (h == hop) ≡ true).
          let same = eqb-true h hop t in
          let x-is : c' ≡ x = same_Some c' x (sym now-here ∙ ap (λ (k : ℕ). context_at moved_path k) (sym same) ∙ e) in
          subst (λ (y : ℕ × ContextView S). ContextHolds world meaning stands_after y.1 × IsAt meaning v.channel y.0 v.tail_hop v.turn y.1) (λ i. (sym same i, x-is i)) (held, still-at))
          (λ (f : (h == hop) ≡ false).
          holds.contexts h x (sym (still-there h (λ k. both_ways (h == hop) f (eq-eqb h hop k))) ∙ e))
          (cases_Bool (h == hop));
      tail = holds.tail;
      few = let same = length-set v.contexts hop (Some c') in let few = holds.few in omega (arith, same, few);
    }

    -- more was done by this context, and by no other
    path-done : path_done moved_path + context_done c ≡ path_done v + context_done c'
    path-done =
        let sum = sum_by-set (λ (slot : Option (ContextView S)). slot_done slot) v.contexts hop (Some c') None within in
        let old = ap (λ (slot : Option (ContextView S)). slot_done slot) at in
        omega (arith, sum, old)

    context-puts : (before after : OutputsView) → ((hops : List Lane) → AreAmong (context_lanes c) hops → HasPlaces before.stopped hops → HasPlaces after.stopped hops) → PathPuts meaning v before moved_path after
    context-puts before after placed = record {
      same = record { channel = refl; executors = refl; contexts = same-filled v.contexts hop c c' at; tail = refl; tail_hop = refl; turn = refl; handed = refl };
      writes = λ l. writes-same l;
      placed = λ hops among p. placed hops (λ l a. among l (context-among l a)) p;
    }

    pub taken-by : (to : Lane → ℕ → ℕ) → ((l : Lane) → l.hop ≡ hop → taken_of c' l ≡ to l (taken_of c l)) → ((l : Lane) (n : ℕ) → l.hop ≢ hop → to l n ≡ n)
        → (l : Lane) → path_taken moved_path l ≡ to l (path_taken v l)
    taken-by to own other l = ⊎_elim
        (λ (t : (l.hop == hop) ≡ true).
        let e = eqb-true l.hop hop t in
        taken-at l e moved_path c' refl now-here ∙ own l e ∙ ap (λ (n : ℕ). to l n) (sym (taken-at l e v c refl at)))
        (λ (f : (l.hop == hop) ≡ false).
        let n : l.hop ≢ hop = (λ e. both_ways (l.hop == hop) f (eq-eqb l.hop hop e)) in
        ap (λ (o : Option (ContextView S)). if l.hop == v.tail_hop then option_map_or (λ (y : TailView). tail_taken_of y l) v.tail 0 else option_map_or (λ (y : ContextView S). taken_of y l) o 0) (still-there l.hop n)
        ∙ sym (other l (path_taken v l) n))
        (cases_Bool (l.hop == hop))

    pub context-taken : (is_spent : S → Bool) (e : Envelope) (before after : OutputsView) (answer : Took) → e.lane.hop ≡ hop → Enters c e.lane → e.number ≡ kind_taken c e.lane.kind
        → ContextTakes meaning stands_after is_spent c e before answer c' after → ((k : Kind) → kind_taken c' k ≡ kind_taken c k + one_of k e.lane.kind)
        → ((world : World) → ContextHolds world meaning stands_after c → IsGood world e → ContextHolds world meaning stands_after c')
        → ((world : World) → ContextHolds world meaning stands_after c → IsGood world e
        → Makes world (context_writes (meaning c.stage).direction c) (context_came (meaning c.stage).direction c) (context_came (meaning c.stage).direction c') before after)
        → ((hops : List Lane) → AreAmong (context_lanes c) hops → HasPlaces before.stopped hops → HasPlaces after.stopped hops)
        → context_done c + length after.items + 1 ≤ context_done c' + length before.items
        → PathTaken meaning stands_after is_spent v e before answer moved_path after
    context-taken is_spent e before after answer on_hop enters number takes counts held made placed more = record {
      takes = record {
        context = λ x off found. (
          c',
          ap (λ (h : ℕ). context_at moved_path h) on_hop ∙ now-here,
          subst (λ (y : ContextView S). ContextTakes meaning stands_after is_spent y e before answer c' after)
              (same_Some c x (sym at ∙ ap (λ (h : ℕ). context_at v h) (sym on_hop) ∙ found)) takes,
        );
        tail = λ t on found. absurd (apart (sym on_hop ∙ eqb-true e.lane.hop v.tail_hop on));
        others = λ h f. still-there h (λ k. both_ways (h == e.lane.hop) f (eq-eqb h e.lane.hop (k ∙ sym on_hop)));
        tail_kept = λ off. refl;
      };
      taken = taken-by (λ l n. cond (same_lane l e.lane) (e.number + 1) n)
          (λ l on_same. (λ i. node_taken (same_node.0 i) (same_node.1 i) (λ k. kind_taken c' k) l)
          ∙ taken-next c.channel c.hop e.lane enters.channel enters.hop (λ k. kind_taken c k) (λ k. kind_taken c' k) e.number number counts l)
          (λ l n off. cond-false (same_lane l e.lane) (e.number + 1) n (other-hop l e.lane (λ same. off (same ∙ on_hop))));
      puts = context-puts before after placed;
      holds = λ world holds good. path-holds world holds (held world (holds.contexts hop c at).0 good);
      made = λ world holds good. path-makes world before after (made world (holds.contexts hop c at).0 good);
      node = λ world holds good.
          subst (λ (h : ℕ). Makes world (path_writes_at meaning v h) (path_came meaning v) (path_came meaning moved_path) before after) (sym on_hop)
          (node-makes world before after (made world (holds.contexts hop c at).0 good));
      others = λ l f. others-came l (ap (λ (h : ℕ). path_writes_at meaning v h l) (sym on_hop) ∙ f);
      more = let done = path-done in omega (arith, done, more);
    }

    pub context-refused : (lane : Lane) (before after : OutputsView) → hop ≡ writer_hop v lane.hop → ContextRefused lane.kind c before c' after → (lane.kind ≡ Data → is_over c'.standing ≡ true) → ((k : Kind) → kind_taken c' k ≡ kind_taken c k)
        → ((world : World) → world.refuses ≡ true → ContextHolds world meaning stands_after c → ContextHolds world meaning stands_after c')
        → ((world : World) → world.refuses ≡ true → ContextHolds world meaning stands_after c
        → Makes world (context_writes (meaning c.stage).direction c) (context_came (meaning c.stage).direction c) (context_came (meaning c.stage).direction c') before after)
        → ((hops : List Lane) → AreAmong (context_lanes c) hops → HasPlaces before.stopped hops → HasPlaces after.stopped hops)
        → context_done c + length after.items ≤ context_done c' + length before.items
        → PathRefused meaning stands_after v lane before moved_path after
    context-refused lane before after writer refused over counts held made placed more = record {
      refuses = record {
        writer = λ x found. (
          c',
          ap (λ (h : ℕ). context_at moved_path h) (sym writer) ∙ now-here,
          subst (λ (y : ContextView S). ContextRefused lane.kind y before c' after) (same_Some c x (sym at ∙ ap (λ (h : ℕ). context_at v h) writer ∙ found)) refused,
        );
        none = λ n. absurd (none-some c (sym n ∙ ap (λ (h : ℕ). context_at v h) (sym writer) ∙ at));
        flags = λ k. let kept = refused.flag k in (unmoved kept.0, kept.1);
        first_hop = λ z. absurd (let last = writer ∙ ap (λ (h : ℕ). writer_hop v h) z in let w = within in omega (arith, last, w));
        others = λ h f. still-there h (λ k. both_ways (h == writer_hop v lane.hop) f (eq-eqb h (writer_hop v lane.hop) (k ∙ writer)));
        tail_kept = refl;
      };
      over = λ k x found. subst (λ (y : ContextView S). is_over y.standing ≡ true)
          (same_Some c' x (sym (ap (λ (h : ℕ). context_at moved_path h) (same-writer lane.hop ∙ sym writer) ∙ now-here) ∙ found)) (over k);
      taken = taken-by (λ l n. n) (λ l on_same. (λ i. node_taken (same_node.0 i) (same_node.1 i) (λ k. counts k i) l)) (λ l n off. refl);
      puts = context-puts before after placed;
      holds = λ world refuses holds. path-holds world holds (held world refuses (holds.contexts hop c at).0);
      made = λ world refuses holds. path-makes world before after (made world refuses (holds.contexts hop c at).0);
      node = λ world refuses holds.
          subst (λ (h : ℕ). Makes world (path_writes_at meaning v h) (path_came meaning v) (path_came meaning moved_path) before after) writer
          (node-makes world before after (made world refuses (holds.contexts hop c at).0));
      others = λ l f. others-came l (ap (λ (h : ℕ). path_writes_at meaning v h l) writer ∙ f);
      more = let done = path-done in omega (arith, done, more);
    }

-- ---- the tail moves, and nothing does

module _ {S : Type 0} (meaning : S → Meaning) (stands_after : S → List Event → Type 0) (v : PathPartView S) where
  pub none-refused : (lane : Lane) (before : OutputsView) → context_at v (writer_hop v lane.hop) ≡ None → PathRefused meaning stands_after v lane before v before
  none-refused lane before none = record {
    refuses = record {
      writer = λ x found. absurd (no (sym none ∙ found));
      none = λ n. (refl, refl);
      flags = λ k. (refl, refl);
      first_hop = λ z. (refl, refl);
      others = λ h f. refl;
      tail_kept = refl;
    };
    over = λ k x found. absurd (no (sym none ∙ found));
    taken = λ l. refl;
    puts = record {
      same = record { channel = refl; executors = refl; contexts = refl; tail = refl; tail_hop = refl; turn = refl; handed = refl };
      writes = λ l. refl;
      placed = λ hops among p. p;
    };
    holds = λ world refuses holds. holds;
    made = λ world refuses holds. makes-none world (path_writes meaning v) (path_came meaning v) before before refl refl;
    node = λ world refuses holds. makes-none world (path_writes_at meaning v (writer_hop v lane.hop)) (path_came meaning v) before before refl refl;
    others = λ l f. refl;
    more = omega arith;
  }
    where
      no : {x : ContextView S} → None ≡ Some x → ⊥
      no e = cc

  pub beyond-refused : (lane : Lane) (before : OutputsView) → length v.contexts ≤ writer_hop v lane.hop → PathRefused meaning stands_after v lane before v before
  beyond-refused lane before past = none-refused lane before (beyond v.contexts (writer_hop v lane.hop) past)

  module _ (some : (world : World) × PathHolds world meaning stands_after v) (t : TailView) (at : v.tail ≡ Some t) (e : Envelope) (there : (e.lane.hop == v.tail_hop) ≡ true) where
    same_node : (t.channel ≡ v.channel) × (t.hop ≡ v.tail_hop)
    same_node = let held = some.1.tail t at in (held.1, held.2)

    pub tail-enters : enters_path v e.lane ≡ true → EntersTail t e.lane
    tail-enters entered = record {
      channel = eqb-true e.lane.channel v.channel (and_parts (e.lane.channel == v.channel) _ entered).0 ∙ sym same_node.0;
      hop = eqb-true e.lane.hop v.tail_hop there ∙ sym same_node.1;
    }

    taken-there : (p : PathPartView S) (x : TailView) (l : Lane) → (l.hop == p.tail_hop) ≡ true → p.tail ≡ Some x → path_taken p l ≡ tail_taken_of x l
    taken-there p x l on found = cond-true (l.hop == p.tail_hop) _ _ on ∙ ap (λ (o : Option TailView). option_map_or (λ (y : TailView). tail_taken_of y l) o 0) found

    pub tail-number : EntersTail t e.lane → e.number ≡ path_taken v e.lane → e.number ≡ tail_kind_taken t e.lane.kind
    tail-number enters number = number ∙ taken-there v t e.lane there at ∙ taken-kind t.channel t.hop e.lane enters.channel enters.hop (λ k. tail_kind_taken t k)

    pub tail-taken : (is_spent : S → Bool) (before : OutputsView) (answer : Took) (t' : TailView) → EntersTail t e.lane → e.number ≡ tail_kind_taken t e.lane.kind
        → TailTakes t e answer t' → ((world : World) → TailHolds world t → IsGood world e → TailHolds world t') → (t'.channel ≡ t.channel) × (t'.hop ≡ t.hop)
        → ((k : Kind) → tail_kind_taken t' k ≡ tail_kind_taken t k + one_of k e.lane.kind)
        → PathTaken meaning stands_after is_spent v e before answer (record v { tail = Some t' }) before
    tail-taken is_spent before answer t' enters number takes held still counts = record {
      takes = record {
        context = λ x off found. absurd (both_ways (e.lane.hop == v.tail_hop) off there);
        tail = λ x on found. (t', refl, subst (λ (y : TailView). TailTakes y e answer t') (same_Some t x (sym at ∙ found)) takes, refl);
        others = λ h f. refl;
        tail_kept = λ off. absurd (both_ways (e.lane.hop == v.tail_hop) off there);
      };
      taken = λ l. ⊎_elim
          (λ (on : (l.hop == v.tail_hop) ≡ true).
          taken-there (record v { tail = Some t' }) t' l on refl ∙ (λ i. node_taken (still.0 i) (still.1 i) (λ k. tail_kind_taken t' k) l)
          ∙ taken-next t.channel t.hop e.lane enters.channel enters.hop (λ k. tail_kind_taken t k) (λ k. tail_kind_taken t' k) e.number number counts l
          ∙ ap (λ (n : ℕ). cond (same_lane l e.lane) (e.number + 1) n) (sym (taken-there v t l on at)))
          (λ (off : (l.hop == v.tail_hop) ≡ false).
          cond-false (l.hop == v.tail_hop) _ _ off ∙ sym (cond-false (l.hop == v.tail_hop) _ _ off)
          ∙ sym (cond-false (same_lane l e.lane) (e.number + 1) (path_taken v l)
          (other-hop l e.lane (λ same. both_ways (l.hop == v.tail_hop) off (ap (λ (h : ℕ). h == v.tail_hop) same ∙ there)))))
          (cases_Bool (l.hop == v.tail_hop));
      puts = record {
        same = record {
          channel = refl;
          executors = refl;
          contexts = refl;
          tail = sym (ap (λ (o : Option TailView). is_some o) at);
          tail_hop = refl;
          turn = refl;
          handed = takes.handed ∙ sym (ap (λ (o : Option TailView). option_map_or (λ (y : TailView). y.handed) o 0) at);
        };
        writes = λ l. refl;
        placed = λ hops among p. p;
      };
      holds = λ world holds good. record {
        contexts = holds.contexts;
        tail = λ x found. subst (λ (y : TailView). TailHolds world y × (y.channel ≡ v.channel) × (y.hop ≡ v.tail_hop)) (same_Some t' x found)
            (held world (holds.tail t at).0 good, still.0 ∙ same_node.0, still.1 ∙ same_node.1);
        few = holds.few;
      };
      made = λ world holds good. makes-none world (path_writes meaning v) (path_came meaning v) before before refl refl;
      node = λ world holds good. makes-none world (path_writes_at meaning v e.lane.hop) (path_came meaning v) before before refl refl;
      others = λ l f. refl;
      more =
          let old = ap (λ (o : Option TailView). option_map_or (λ (y : TailView). tail_done y) o 0) at in
          let items = counts Data in
          let flags = counts Flags in
          let one = one-item e.lane.kind in
          omega (arith, old, items, flags, one);
    }

-- ---- for a view of the same part

pub entered-within : {S : Type 0} (world : World) (meaning : S → Meaning) (stands_after : S → List Event → Type 0) (v : PathPartView S) (e : Envelope) (before : OutputsView) → IsNextOnPath world meaning stands_after v e before
    → (e.lane.hop == v.tail_hop) ≡ false → e.lane.hop < length v.contexts
entered-within world meaning stands_after v e before next off =
    filled-within v.contexts e.lane.hop (sym (cond-false (e.lane.hop == v.tail_hop) (is_some v.tail) (is_some (context_at v e.lane.hop)) off) ∙ (and_parts (e.lane.channel == v.channel) _ next.entered).1)

-- ---- for a view of the same nodes

-- The envelope is the next of a context.
pub record IsNextAt {S : Type 0} (world : World) (meaning : S → Meaning) (stands_after : S → List Event → Type 0) (v : PathPartView S) (e : Envelope) (before : OutputsView) (c : ContextView S) : Type 0 where
  pub next : IsNextOnPath world meaning stands_after v e before
  pub at : context_at v e.lane.hop ≡ Some c
  pub enters : Enters c e.lane
  pub number : e.number ≡ kind_taken c e.lane.kind

-- It is the next of the tail.
pub record IsNextAtTail {S : Type 0} (world : World) (meaning : S → Meaning) (stands_after : S → List Event → Type 0) (v : PathPartView S) (e : Envelope) (before : OutputsView) (t : TailView) : Type 0 where
  pub next : IsNextOnPath world meaning stands_after v e before
  pub there : (e.lane.hop == v.tail_hop) ≡ true
  pub enters : EntersTail t e.lane
  pub number : e.number ≡ tail_kind_taken t e.lane.kind

module _ {S : Type 0} (meaning : S → Meaning) (stands_after : S → List Event → Type 0) (p v : PathPartView S) (same : v ≡ p) where
  pub holds-of : (world : World) × PathHolds world meaning stands_after p → (world : World) × PathHolds world meaning stands_after v
  holds-of holds = subst (λ (y : PathPartView S). (world : World) × PathHolds world meaning stands_after y) (sym same) holds

  pub refusing-of : (world : World) × (world.refuses ≡ true) × PathHolds world meaning stands_after p → (world : World) × (world.refuses ≡ true) × PathHolds world meaning stands_after v
  refusing-of holds = subst (λ (y : PathPartView S). (world : World) × (world.refuses ≡ true) × PathHolds world meaning stands_after y) (sym same) holds

  module _ (e : Envelope) (before : OutputsView) (some : (world : World) × IsNextOnPath world meaning stands_after p e before) where
    next-of : (world : World) × IsNextOnPath world meaning stands_after v e before
    next-of = subst (λ (y : PathPartView S). (world : World) × IsNextOnPath world meaning stands_after y e before) (sym same) some

    pub next-within : (e.lane.hop == p.tail_hop) ≡ false → e.lane.hop < length v.contexts
    next-within elsewhere =
        let next = next-of in
        entered-within next.0 meaning stands_after v e before next.1 (subst (λ (y : PathPartView S). (e.lane.hop == y.tail_hop) ≡ false) (sym same) elsewhere)

    pub never-none : (e.lane.hop == p.tail_hop) ≡ false → (slot : Option (ContextView S)) → slot ≡ get_or v.contexts e.lane.hop slot → slot ≡ None → ⊥
    never-none elsewhere slot value none =
        let next = next-of in
        let off = subst (λ (y : PathPartView S). (e.lane.hop == y.tail_hop) ≡ false) (sym same) elsewhere in
        let at = slot-at v.contexts e.lane.hop slot None (next-within elsewhere) value none in
        both_ways (is_some (context_at v e.lane.hop)) (ap (λ (o : Option (ContextView S)). is_some o) at)
        (sym (cond-false (e.lane.hop == v.tail_hop) (is_some v.tail) (is_some (context_at v e.lane.hop)) off) ∙ (and_parts (e.lane.channel == v.channel) _ next.1.entered).1)

    pub never-no-tail : (e.lane.hop == p.tail_hop) ≡ true → v.tail ≡ None → ⊥
    never-no-tail at_tail none =
        let next = next-of in
        let there = subst (λ (y : PathPartView S). (e.lane.hop == y.tail_hop) ≡ true) (sym same) at_tail in
        both_ways (is_some v.tail) (ap (λ (o : Option TailView). is_some o) none)
        (sym (cond-true (e.lane.hop == v.tail_hop) (is_some v.tail) (is_some (context_at v e.lane.hop)) there) ∙ (and_parts (e.lane.channel == v.channel) _ next.1.entered).1)

    pub next-at : IsPathPart (length v.executors) (length v.contexts) v.tail_hop v.turn → (e.lane.hop == p.tail_hop) ≡ false → (c : ContextView S) (slot : Option (ContextView S)) → slot ≡ get_or v.contexts e.lane.hop slot → slot ≡ Some c
        → (world : World) × IsNextAt world meaning stands_after v e before c
    next-at inv elsewhere c slot value is =
        let next = next-of in
        let off = subst (λ (y : PathPartView S). (e.lane.hop == y.tail_hop) ≡ false) (sym same) elsewhere in
        let at = slot-at v.contexts e.lane.hop slot (Some c) (entered-within next.0 meaning stands_after v e before next.1 off) value is in
        let enters = context-enters meaning stands_after v inv (next.0, next.1.holds) e.lane.hop c at e refl next.1.entered in (
          next.0,
          record { next = next.1; at = at; enters = enters; number = context-number meaning stands_after v inv (next.0, next.1.holds) e.lane.hop c at e refl enters next.1.number },
        )

    pub next-at-tail : (e.lane.hop == p.tail_hop) ≡ true → (t : TailView) → v.tail ≡ Some t → (world : World) × IsNextAtTail world meaning stands_after v e before t
    next-at-tail at_tail t at =
        let next = next-of in
        let there = subst (λ (y : PathPartView S). (e.lane.hop == y.tail_hop) ≡ true) (sym same) at_tail in
        let enters = tail-enters meaning stands_after v (next.0, next.1.holds) t at e there next.1.entered in (
          next.0,
          record { next = next.1; there = there; enters = enters; number = tail-number meaning stands_after v (next.0, next.1.holds) t at e there enters next.1.number },
        )

module _ {S : Type 0} (meaning : S → Meaning) (stands_after : S → List Event → Type 0) (p v : PathPartView S) (same : v ≡ p) (before : OutputsView) (v' : PathPartView S) (after : OutputsView) where
  pub taken-of : (is_spent : S → Bool) (e : Envelope) (answer : Took) → PathTaken meaning stands_after is_spent v e before answer v' after → PathTaken meaning stands_after is_spent p e before answer v' after
  taken-of is_spent e answer t = subst (λ (y : PathPartView S). PathTaken meaning stands_after is_spent y e before answer v' after) same t

  pub refused-of : (l : Lane) → PathRefused meaning stands_after v l before v' after → PathRefused meaning stands_after p l before v' after
  refused-of l t = subst (λ (y : PathPartView S). PathRefused meaning stands_after y l before v' after) same t
