-- A part with all nodes of its channel: a lane that one of them writes enters another one.
use Rattle.std.proofs.Common.{◌≡◌, ◌≢◌, ◌⊎◌, ℕ, zero, suc, ◌+◌, ◌-◌, ◌<◌, ◌≤◌, Bool, true, false, ◌||◌, ◌&&◌, List, [], ◌∷◌, ◌++◌, length, map, get_or, Option, Some, None, refl, ap, sym, ◌∙◌, ⊎_elim, arith}
use Rattle.std.specs.Prelude.{◌==◌, is_some, nat_lt, replicate, if◌then◌else◌}
use Rattle.std.specs.Option.{option_map_or}
use Rattle.std.proofs.lemmas.Bool.{false≢true, cond-true, cond-false, cases_Bool, both_ways, and_parts, and_from, or_cases, or_left, or_right, eqb-true, eq-eqb, lt-ltb, ltb-true}
use Rattle.pl_event.specs.declared.events.Event.{Event}
use Rattle.pl_event.specs.declared.envelopes.Lane.{Lane}
use Rattle.pl_event.specs.declared.stages.Direction.{Direction}
use Rattle.pl_event.specs.declared.stages.Direction.TheVariants.{Inbound, Outbound, Turn}
use Rattle.pl_event.specs.declared.envelopes.Kind.TheVariants.{Data}
use Rattle.pl_event.specs.Hops.{same_hop, same_kind, same_lane, data_lane, flags_lane}
use Rattle.pl_event.specs.Meaning.{Meaning}
use Rattle.pl_event.specs.Worlds.{World}
use Rattle.pl_event.proofs.SameLanes.{same_lane-equal}
use Rattle.pl_context.specs.ContextViews.{ContextView, IsHop, has_up, has_down, down_hop}
use Rattle.pl_head.specs.HeadStand.{HeadView}
use Rattle.pl_head.specs.Transports.{TransportState}
use Rattle.pl_part.specs.ContextHolds.{context_writes}
use Rattle.pl_part.specs.HeadHolds.{head_writes}
use Rattle.pl_part.specs.Paths.{IsAt, context_at, writer_hop, enters_path}
use Rattle.pl_part.specs.Parts.{ChannelPartView, PartHolds, head_hop, has_entered, part_writes}
use Rattle.pl_part.proofs.PathSteps.{three-lanes}
use Rattle.pl_part.proofs.PartSteps.{filled-length}
use Rattle.pl_channel.specs.Channels.{HasAllNodes, is_hop}

-- ---- slots

there : {A : Type 0} (xs : List (Option A)) (i : ℕ) (x : A) → get_or xs i None ≡ Some x → i < length xs
there [] i x e = absurd (no e)
  where
    no : None ≡ Some x → ⊥
    no e = cc
there (y ∷ ys) zero x e = omega arith
there (y ∷ ys) (suc i) x e = let t = there ys i x e in omega (arith, t)

all-filled : {A : Type 0} (xs : List (Option A)) (m i : ℕ) → map (λ (slot : Option A). is_some slot) xs ≡ replicate m true → i < length xs → is_some (get_or xs i None) ≡ true
all-filled [] m i e lt = absurd (omega (arith, lt))
all-filled (x ∷ xs) zero i e lt = absurd (no e)
  where
    no : map (λ (slot : Option _). is_some slot) (x ∷ xs) ≡ [] → ⊥
    no e = cc
all-filled (x ∷ xs) (suc m) zero e lt = cc
all-filled (x ∷ xs) (suc m) (suc i) e lt = all-filled xs m i (cc) (omega (arith, lt))

-- all but one are filled
filled-but : {A : Type 0} (xs : List (Option A)) (n m i : ℕ) → map (λ (slot : Option A). is_some slot) xs ≡ replicate n true ++ false ∷ replicate m true → i < length xs → i ≢ n → is_some (get_or xs i None) ≡ true
filled-but [] n m i e lt other = absurd (omega (arith, lt))
filled-but (x ∷ xs) zero m zero e lt other = absurd (other refl)
filled-but (x ∷ xs) zero m (suc i) e lt other = all-filled xs m i (cc) (omega (arith, lt))
filled-but (x ∷ xs) (suc n) m zero e lt other = cc
filled-but (x ∷ xs) (suc n) m (suc i) e lt other = filled-but xs n m i (cc) (omega (arith, lt)) (λ s. other (ap suc s))

-- ---- lanes of a context

-- flags go up to the tail
below-tail : (d : Direction) (hop k : ℕ) → IsHop d hop k → has_up d ≡ true → hop < k
below-tail Inbound hop k is up = is.0
below-tail Turn hop k is up = is.0
below-tail Outbound hop k is up = absurd (false≢true up)

down-within : (d : Direction) (hop k n : ℕ) → hop < n → k < n → has_down d ≡ true → down_hop d hop k ≤ n
down-within Inbound hop k n h t down = absurd (false≢true down)
down-within Turn hop k n h t down = omega (arith, h, t)
down-within Outbound hop k n h t down = omega (arith, h, t)

-- ---- hops

module _ {S T : Type 0} (p : ChannelPartView S T) (l : Lane) (hops : length p.path.executors ≡ head_hop p + 1) where
  abbrev lower : Bool
  lower = nat_lt (l.hop + 1) (length p.path.executors)

  abbrev last : Bool
  last = (l.hop + 1 == length p.path.executors) && same_kind l.kind Data

  -- at the last hop it is data
  pub hop-last : l.channel ≡ p.path.channel → is_hop p l ≡ true → (l.hop == head_hop p) ≡ true → same_lane l (data_lane p.path.channel (head_hop p)) ≡ true
  unfolding same_lane
  hop-last channel hop t = and_from (same_hop l (data_lane p.path.channel (head_hop p))) (same_kind l.kind Data)
      (and_from (l.channel == p.path.channel) (l.hop == head_hop p) (eq-eqb l.channel p.path.channel channel) t)
      (⊎_elim
      (λ (b : lower ≡ true). let below = ltb-true (l.hop + 1) (length p.path.executors) b in let e = eqb-true l.hop (head_hop p) t in absurd (omega (arith, below, e, hops)))
      (λ (r : last ≡ true). (and_parts (l.hop + 1 == length p.path.executors) (same_kind l.kind Data) r).1)
      (or_cases lower last hop))

  -- and else it is before that
  pub hop-before : is_hop p l ≡ true → (l.hop == head_hop p) ≡ false → l.hop < head_hop p
  hop-before hop f = ⊎_elim
      (λ (b : lower ≡ true). let below = ltb-true (l.hop + 1) (length p.path.executors) b in omega (arith, below, hops))
      (λ (r : last ≡ true).
      let e = eqb-true (l.hop + 1) (length p.path.executors) (and_parts (l.hop + 1 == length p.path.executors) (same_kind l.kind Data) r).0 in
      absurd (both_ways (l.hop == head_hop p) f (eq-eqb l.hop (head_hop p) (omega (arith, e, hops)))))
      (or_cases lower last hop)

  pub to-hop : l.hop ≤ head_hop p → (l.hop ≡ head_hop p → l ≡ data_lane p.path.channel (head_hop p)) → is_hop p l ≡ true
  to-hop within at-last = ⊎_elim
      (λ (t : (l.hop == head_hop p) ≡ true).
      let e = eqb-true l.hop (head_hop p) t in
      or_right lower last
      (and_from (l.hop + 1 == length p.path.executors) (same_kind l.kind Data) (eq-eqb (l.hop + 1) (length p.path.executors) (omega (arith, e, hops))) (ap (λ (m : Lane). same_kind m.kind Data) (at-last e))))
      (λ (f : (l.hop == head_hop p) ≡ false).
      let other : l.hop ≢ head_hop p = λ e. both_ways (l.hop == head_hop p) f (eq-eqb l.hop (head_hop p) e) in
      or_left lower last (lt-ltb (l.hop + 1) (length p.path.executors) (omega (arith, within, other, hops))))
      (cases_Bool (l.hop == head_hop p))

-- ---- one part with all nodes

module _ {S T : Type 0} (p : ChannelPartView S T) (hops : length p.path.executors ≡ head_hop p + 1) (whole : HasAllNodes p) where
  pub tail-within : p.path.tail_hop < head_hop p
  tail-within = let size = filled-length p.path.contexts p.path.tail_hop whole.outbound whole.filled in omega (arith, size)

  -- what enters a node enters one that is here
  pub enters : (l : Lane) → l.channel ≡ p.path.channel → is_hop p l ≡ true → has_entered p l ≡ true
  enters l channel hop = ⊎_elim
      (λ (t : (l.hop == head_hop p) ≡ true).
      cond-true (l.hop == head_hop p) (is_some p.head && same_lane l (data_lane p.path.channel (head_hop p))) (enters_path p.path l) t
      ∙ and_from (is_some p.head) (same_lane l (data_lane p.path.channel (head_hop p))) whole.head (hop-last p l hops channel hop t))
      (λ (f : (l.hop == head_hop p) ≡ false).
      cond-false (l.hop == head_hop p) (is_some p.head && same_lane l (data_lane p.path.channel (head_hop p))) (enters_path p.path l) f
      ∙ and_from (l.channel == p.path.channel) (if l.hop == p.path.tail_hop then is_some p.path.tail else is_some (context_at p.path l.hop)) (eq-eqb l.channel p.path.channel channel)
      (slot (hop-before p l hops hop f)))
      (cases_Bool (l.hop == head_hop p))
    where
      slot : l.hop < head_hop p → (if l.hop == p.path.tail_hop then is_some p.path.tail else is_some (context_at p.path l.hop)) ≡ true
      slot lower = ⊎_elim
          (λ (t : (l.hop == p.path.tail_hop) ≡ true). cond-true (l.hop == p.path.tail_hop) (is_some p.path.tail) (is_some (context_at p.path l.hop)) t ∙ whole.tail)
          (λ (f : (l.hop == p.path.tail_hop) ≡ false).
          cond-false (l.hop == p.path.tail_hop) (is_some p.path.tail) (is_some (context_at p.path l.hop)) f
          ∙ filled-but p.path.contexts p.path.tail_hop whole.outbound l.hop whole.filled lower (λ e. both_ways (l.hop == p.path.tail_hop) f (eq-eqb l.hop p.path.tail_hop e)))
          (cases_Bool (l.hop == p.path.tail_hop))

-- ---- one part

module _ {S T : Type 0} (world : World) (meaning : S → Meaning) (stands_after : S → List Event → Type 0) (state : T → TransportState) (p : ChannelPartView S T) (holds : PartHolds world meaning stands_after state p)
    (tail-below : p.path.tail_hop < head_hop p) where
  pub record IsWritten (l : Lane) : Type 0 where
    pub channel : l.channel ≡ p.path.channel
    pub within : l.hop < length p.path.executors
    -- so is its writer
    pub writer : writer_hop p.path l.hop < length p.path.executors
    pub hop : is_hop p l ≡ true

  -- such a lane, of this channel
  is-written : (l : Lane) → writer_hop p.path l.hop ≤ head_hop p → l.channel ≡ p.path.channel → l.hop ≤ head_hop p → (l.hop ≡ head_hop p → l ≡ data_lane p.path.channel (head_hop p)) → IsWritten l
  is-written l writer channel within last = record { channel = channel; within = let hops = holds.hops in omega (arith, within, hops); writer = let hops = holds.hops in omega (arith, writer, hops); hop = to-hop p l holds.hops within last }

  by-head : (l : Lane) → l.hop ≡ 0 → (o : Option (HeadView T)) → p.head ≡ o → option_map_or (λ (h : HeadView T). head_writes h l) o false ≡ true → IsWritten l
  by-head l first None at w = absurd (false≢true w)
  by-head l first (Some h) at w =
      let t = tail-below in
      let writer : writer_hop p.path l.hop ≡ head_hop p = cond-true (l.hop == 0) (head_hop p) (if l.hop == p.path.tail_hop + 1 then p.path.turn else l.hop - 1) (eq-eqb l.hop 0 first) in
      is-written l (omega (arith, writer)) (of-channel (or_cases (same_lane l (data_lane h.channel 0)) (same_lane l (flags_lane h.channel 0)) w) ∙ (holds.head h at).1) (omega (arith, first)) (λ e. absurd (omega (arith, e, first, t)))
    where
      of-channel : (same_lane l (data_lane h.channel 0) ≡ true) ⊎ (same_lane l (flags_lane h.channel 0) ≡ true) → l.channel ≡ h.channel
      of-channel = ⊎_elim
          (λ (d : same_lane l (data_lane h.channel 0) ≡ true). ap (λ (m : Lane). m.channel) (same_lane-equal l (data_lane h.channel 0) d))
          (λ (f : same_lane l (flags_lane h.channel 0) ≡ true). ap (λ (m : Lane). m.channel) (same_lane-equal l (flags_lane h.channel 0) f))

  -- a data lane of this channel
  is-data : (l : Lane) (hop : ℕ) → writer_hop p.path l.hop ≤ head_hop p → l ≡ data_lane p.path.channel hop → hop ≤ head_hop p → IsWritten l
  is-data l hop writer e within = is-written l writer (ap (λ (m : Lane). m.channel) e) (let at = ap (λ (m : Lane). m.hop) e in omega (arith, at, within)) (λ last. e ∙ ap (λ (k : ℕ). data_lane p.path.channel k) (sym (ap (λ (m : Lane). m.hop) e) ∙ last))

  by-context : (l : Lane) (hop : ℕ) → writer_hop p.path l.hop ≡ hop → (o : Option (ContextView S)) → context_at p.path hop ≡ o → option_map_or (λ (c : ContextView S). context_writes (meaning c.stage).direction c l) o false ≡ true → IsWritten l
  by-context l hop writer None at w = absurd (false≢true w)
  by-context l hop writer (Some c) at w = ⊎_elim
      (λ (u : (has_up d && same_lane l c.up.lane) ≡ true). is-data l (hop + 1) below (same_lane-equal l c.up.lane (and_parts _ _ u).1 ∙ own.0) (omega (arith, inside)))
      (λ (r : ((has_down d && same_lane l c.down.lane) || (has_up d && same_lane l c.flags.lane)) ≡ true). ⊎_elim
      (λ (m : (has_down d && same_lane l c.down.lane) ≡ true).
      let q = and_parts _ _ m in is-data l (down_hop d hop p.path.tail_hop) below (same_lane-equal l c.down.lane q.1 ∙ own.1) (down-within d hop p.path.tail_hop (head_hop p) inside tail-below q.0))
      (λ (f : (has_up d && same_lane l c.flags.lane) ≡ true).
      let q = and_parts _ _ f in
      let e : l ≡ flags_lane p.path.channel (hop + 1) = same_lane-equal l c.flags.lane q.1 ∙ own.2 in
      let at : l.hop ≡ hop + 1 = ap (λ (m : Lane). m.hop) e in
      let low = below-tail d hop p.path.tail_hop is.fits q.0 in
      let t = tail-below in
      is-written l below (ap (λ (m : Lane). m.channel) e) (omega (arith, at, low, t)) (λ last. absurd (omega (arith, at, low, t, last))))
      (or_cases (has_down d && same_lane l c.down.lane) (has_up d && same_lane l c.flags.lane) r))
      (or_cases (has_up d && same_lane l c.up.lane) ((has_down d && same_lane l c.down.lane) || (has_up d && same_lane l c.flags.lane)) w)
    where
      d : Direction
      d = (meaning c.stage).direction

      is : IsAt meaning p.path.channel hop p.path.tail_hop p.path.turn c
      is = (holds.path.contexts hop c at).1

      inside : hop < head_hop p
      inside = there p.path.contexts hop c at

      below : writer_hop p.path l.hop ≤ head_hop p
      below = let i = inside in omega (arith, writer, i)

      own : (c.up.lane ≡ data_lane p.path.channel (hop + 1)) × (c.down.lane ≡ data_lane p.path.channel (down_hop d hop p.path.tail_hop)) × (c.flags.lane ≡ flags_lane p.path.channel (hop + 1))
      own = three-lanes c.up.lane c.down.lane c.flags.lane _ _ _ is.lanes

  -- a lane that a node writes is one of this channel, and enters a node
  pub written : (l : Lane) → part_writes meaning p l ≡ true → IsWritten l
  written l w = ⊎_elim
      (λ (t : (l.hop == 0) ≡ true). by-head l (eqb-true l.hop 0 t) p.head refl (sym (cond-true (l.hop == 0) _ _ t) ∙ w))
      (λ (f : (l.hop == 0) ≡ false). by-context l (writer_hop p.path l.hop) refl (context_at p.path (writer_hop p.path l.hop)) refl (sym (cond-false (l.hop == 0) _ _ f) ∙ w))
      (cases_Bool (l.hop == 0))
