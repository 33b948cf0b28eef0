-- A node of a part moves: how the part stands then, and what it has put out.
use Rattle.std.proofs.Common.{◌≡◌, ℕ, ◌+◌, ◌≤◌, Bool, true, false, ◌||◌, ◌&&◌, cond, List, [], ◌∷◌, ◌++◌, length, map, Option, Some, None, refl, ap, sym, ◌∙◌, subst, ⊎_elim, arith, length-append}
use Rattle.std.specs.Prelude.{◌==◌, is_some, replicate, if◌then◌else◌}
use Rattle.std.specs.Option.{option_map_or}
use Rattle.std.proofs.lemmas.List.{length-map, length-replicate}
use Rattle.std.proofs.lemmas.Bool.{cond-true, cond-false, cases_Bool, both_ways, and_parts, and_from, eqb-true, eq-eqb, or_parts}
use Rattle.std.proofs.lemmas.Option.{same_Some}
use Rattle.pl_event.specs.declared.events.Event.{Event}
use Rattle.pl_event.specs.declared.envelopes.Lane.{Lane}
use Rattle.pl_event.specs.declared.envelopes.Envelope.{Envelope}
use Rattle.pl_event.specs.Hops.{same_hop, same_lane, data_lane, flags_lane}
use Rattle.pl_event.specs.Meaning.{Meaning}
use Rattle.pl_event.specs.Worlds.{World}
use Rattle.pl_event.proofs.SameLanes.{same_lane-equal, same_lane-self}
use Rattle.pl_context.specs.declared.standing.Took.{Took}
use Rattle.pl_context.specs.ContextViews.{ContextView}
use Rattle.pl_context.specs.OutputsViews.{OutputsView}
use Rattle.pl_context.specs.Stops.{StopsView, HasPlaces, AreAmong}
use Rattle.pl_context.proofs.Places.{places-for}
use Rattle.pl_flow.specs.Flows.{Point, nowhere, IsGood}
use Rattle.pl_flow.specs.Makes.{Makes}
use Rattle.pl_flow.proofs.MakeLemmas.{makes-among, makes-none}
use Rattle.pl_head.specs.Transports.{TransportState}
use Rattle.pl_head.specs.HeadStand.{HeadView, EntersHead, gone_of}
use Rattle.pl_part.specs.ContextHolds.{port_point, context_writes}
use Rattle.pl_part.specs.Paths.{PathPartView, PathHolds, PathTakes, SamePath, context_at, writer_hop, path_taken, path_lanes, path_writes, path_writes_at, path_came, enters_path}
use Rattle.pl_part.specs.PathCalls.{IsNextOnPath}
use Rattle.pl_part.specs.HeadHolds.{HeadHolds, head_writes, head_came, head_lanes, head_taken}
use Rattle.pl_head.specs.declared.heads.OutStep.{OutStep}
use Rattle.pl_head.specs.declared.heads.ReadStep.{ReadStep}
use Rattle.pl_head.specs.HeadCalls.{HeadTakes, HeadReads, HeadWrites, HeadAborts}
use Rattle.pl_part.specs.Parts.{ChannelPartView, PartHolds, PartReads, PartWrites, PartAborts, SamePart, head_hop, has_entered, part_taken, part_lanes, part_writes, writes_at, part_came}
use Rattle.pl_part.specs.PartCalls.{IsNextFor, NodePuts, Taken, HeadGiven, Given, PartRefused}
use Rattle.pl_part.specs.Counts.{head_done, path_done, part_done}
use Rattle.pl_part.proofs.HeadMoves.{take-holds, take-makes, take-places, take-more}
use Rattle.pl_part.proofs.PathSteps.{among-hops, other-hop, beyond}
use Rattle.pl_part.proofs.PartCounts.{part-few}

twice : (a : Bool) → (a || false) ≡ true → (a || (a || false)) ≡ true
twice true e = refl
twice false e = e

-- a flags lane enters where the data lane of its hop does
pub beside : (s : StopsView) (channel : ℕ) → HasPlaces s (data_lane channel 0 ∷ []) → HasPlaces s (flags_lane channel 0 ∷ [])
beside s channel p = record { hops = p.hops; few = p.few; stopped = p.stopped; stopped_flags = p.stopped_flags; own = λ lane any. p.own lane any }

or-same : (a : Bool) → (a || (a || false)) ≡ true → a ≡ true
or-same true e = refl
or-same false e = e

and-on : (a b : Bool) → (a && b) ≡ false → b ≡ true → a ≡ false
and-on true b e t = absurd (both_ways b e t)
and-on false b e t = refl

no-same : {A : Type 0} {G : Type 0} (x : A) → None ≡ Some x → G
no-same x e = absurd (no e)
  where
    no : None ≡ Some x → ⊥
    no e = cc

makes-longer : (world : World) (writes : Lane → Bool) (from to : Lane → Point) (b a : OutputsView) → Makes world writes from to b a → length b.items ≤ length a.items
makes-longer world writes from to b a m = let size = ap length m.items ∙ length-append b.items m.added in omega (arith, size)

-- ---- the head's lanes

module _ {T : Type 0} (h : HeadView T) (l : Lane) where
  -- they enter hop 0
  head-first : head_writes h l ≡ true → (l.hop == 0) ≡ true
  head-first w = ⊎_elim
      (λ (t : same_lane l (data_lane h.channel 0) ≡ true). ap (λ (m : Lane). m.hop == 0) (same_lane-equal l (data_lane h.channel 0) t))
      (λ (f : same_lane l (data_lane h.channel 0) ≡ false).
      ap (λ (m : Lane). m.hop == 0) (same_lane-equal l (flags_lane h.channel 0) (sym (ap (λ (b : Bool). b || same_lane l (flags_lane h.channel 0)) f) ∙ w)))
      (cases_Bool (same_lane l (data_lane h.channel 0)))

  -- no other has come anywhere
  head-nowhere : head_writes h l ≡ false → head_came h l ≡ nowhere
  head-nowhere w =
      let none = or_parts (same_lane l (data_lane h.channel 0)) (same_lane l (flags_lane h.channel 0)) w in
      cond-false (same_lane l (data_lane h.channel 0)) (port_point h.input.port) _ none.0 ∙ cond-false (same_lane l (flags_lane h.channel 0)) (port_point h.buffer.flags) nowhere none.1

module _ {S T : Type 0} (meaning : S → Meaning) (stands_after : S → List Event → Type 0) (state : T → TransportState) (p : ChannelPartView S T) where
  -- the head writes the lanes of hop 0, and none of the contexts does
  first-writer : (l : Lane) → (l.hop == 0) ≡ true → writer_hop p.path l.hop ≡ head_hop p
  first-writer l z = cond-true (l.hop == 0) (head_hop p) _ z

  none-first : (l : Lane) → (l.hop == 0) ≡ true → context_at p.path (writer_hop p.path l.hop) ≡ None
  none-first l z = beyond p.path.contexts (writer_hop p.path l.hop) (let w = first-writer l z in omega (arith, w))

  path-quiet : (l : Lane) → (l.hop == 0) ≡ true → path_writes meaning p.path l ≡ false
  path-quiet l z = ap (λ (o : Option (ContextView S)). option_map_or (λ (c : ContextView S). context_writes (meaning c.stage).direction c l) o false) (none-first l z)

  -- ---- the head moves

  module _ (h : HeadView T) (at : p.head ≡ Some h) (h' : HeadView T) (same_node : (h'.channel ≡ h.channel) × (h'.hop ≡ h.hop) × (gone_of h' ≡ gone_of h)) where
    abbrev pub with_head : ChannelPartView S T
    with_head = record p { head = Some h' }

    same-head-writes : (l : Lane) → head_writes h' l ≡ head_writes h l
    same-head-writes l = (λ i. same_lane l (data_lane (same_node.0 i) 0) || same_lane l (flags_lane (same_node.0 i) 0))

    wrote : (l : Lane) → option_map_or (λ (x : HeadView T). head_writes x l) p.head false ≡ head_writes h l
    wrote l = ap (λ (o : Option (HeadView T)). option_map_or (λ (x : HeadView T). head_writes x l) o false) at

    came : (l : Lane) → option_map_or (λ (x : HeadView T). head_came x l) p.head nowhere ≡ head_came h l
    came l = ap (λ (o : Option (HeadView T)). option_map_or (λ (x : HeadView T). head_came x l) o nowhere) at

    head-writes : (l : Lane) → part_writes meaning with_head l ≡ part_writes meaning p l
    head-writes l = ap (λ (b : Bool). if l.hop == 0 then b else path_writes meaning p.path l) (same-head-writes l ∙ sym (wrote l))

    first-came : (l : Lane) → (l.hop == 0) ≡ true → head_writes h l ≡ false → part_came meaning with_head l ≡ part_came meaning p l
    first-came l z w =
        cond-true (l.hop == 0) (head_came h' l) (path_came meaning p.path l) z ∙ head-nowhere h' l (same-head-writes l ∙ w) ∙ sym (head-nowhere h l w) ∙ sym (came l)
        ∙ sym (cond-true (l.hop == 0) (option_map_or (λ (x : HeadView T). head_came x l) p.head nowhere) (path_came meaning p.path l) z)

    later-came : (l : Lane) → (l.hop == 0) ≡ false → part_came meaning with_head l ≡ part_came meaning p l
    later-came l z =
        cond-false (l.hop == 0) (head_came h' l) (path_came meaning p.path l) z
        ∙ sym (cond-false (l.hop == 0) (option_map_or (λ (x : HeadView T). head_came x l) p.head nowhere) (path_came meaning p.path l) z)

    head-others : (l : Lane) → writes_at meaning p (head_hop p) l ≡ false → part_came meaning with_head l ≡ part_came meaning p l
    head-others l w = ⊎_elim
        (λ (z : (l.hop == 0) ≡ true).
        let part = and-on (part_writes meaning p l) (writer_hop p.path l.hop == head_hop p) w (eq-eqb (writer_hop p.path l.hop) (head_hop p) (first-writer l z)) in
        first-came l z (sym (wrote l) ∙ sym (cond-true (l.hop == 0) (option_map_or (λ (x : HeadView T). head_writes x l) p.head false) (path_writes meaning p.path l) z) ∙ part))
        (λ (z : (l.hop == 0) ≡ false). later-came l z)
        (cases_Bool (l.hop == 0))

    head-makes : (world : World) (b a : OutputsView) → Makes world (head_writes h) (head_came h) (head_came h') b a → Makes world (writes_at meaning p (head_hop p)) (part_came meaning p) (part_came meaning with_head) b a
    head-makes world b a = makes-among world (head_writes h) (writes_at meaning p (head_hop p)) (head_came h) (head_came h') (part_came meaning p) (part_came meaning with_head) b a
        (λ l t. let z = head-first h l t in (
          and_from _ _ (cond-true (l.hop == 0) (option_map_or (λ (x : HeadView T). head_writes x l) p.head false) (path_writes meaning p.path l) z ∙ wrote l ∙ t)
              (eq-eqb (writer_hop p.path l.hop) (head_hop p) (first-writer l z)),
          cond-true (l.hop == 0) (option_map_or (λ (x : HeadView T). head_came x l) p.head nowhere) (path_came meaning p.path l) z ∙ came l,
          cond-true (l.hop == 0) (head_came h' l) (path_came meaning p.path l) z,
        ))
        (λ l f. sym (⊎_elim (λ (z : (l.hop == 0) ≡ true). first-came l z f) (λ (z : (l.hop == 0) ≡ false). later-came l z) (cases_Bool (l.hop == 0))))

    head-same : SamePart p with_head
    head-same = record {
      path = record { channel = refl; executors = refl; contexts = refl; tail = refl; tail_hop = refl; turn = refl; handed = refl };
      head = sym (ap (λ (o : Option (HeadView T)). is_some o) at);
      gone = same_node.2 ∙ sym (ap (λ (o : Option (HeadView T)). option_map_or (λ (x : HeadView T). gone_of x) o (0, false)) at);
    }

    head-holds : (world : World) → PartHolds world meaning stands_after state p → HeadHolds state world h' → PartHolds world meaning stands_after state with_head
    head-holds world holds held = record {
      path = holds.path;
      head = λ x found.
          let own = holds.head h at in
          subst (λ (y : HeadView T). HeadHolds state world y × (y.channel ≡ p.path.channel) × (y.hop ≡ head_hop p)) (same_Some h' x found) (held, same_node.0 ∙ own.1, same_node.1 ∙ own.2);
      hops = holds.hops;
    }

    -- ---- in a world where the part holds

    module _ (some : (world : World) × PartHolds world meaning stands_after state p) where
      own-channel : h.channel ≡ p.path.channel
      own-channel = (some.1.head h at).1

      own-hop : h.hop ≡ head_hop p
      own-hop = (some.1.head h at).2

      pub head-among : AreAmong (head_lanes h) (part_lanes p)
      head-among lane any =
          let hops = some.1.hops in
          among-hops lane p.path.channel 0 (length p.path.executors) 0
          (ap (λ (n : ℕ). same_hop lane (data_lane n 0)) (sym own-channel) ∙ or-same (same_hop lane (data_lane h.channel 0)) any) (omega arith) (omega (arith, hops))

      head-puts : (b a : OutputsView) → ((lanes : List Lane) → AreAmong (head_lanes h) lanes → HasPlaces b.stopped lanes → HasPlaces a.stopped lanes)
          → HeadHolds state some.0 h' → Makes some.0 (head_writes h) (head_came h) (head_came h') b a → NodePuts meaning p (head_hop p) b with_head a
      head-puts b a placed held makes = record {
        same = head-same;
        writes = head-writes;
        others = head-others;
        placed = λ lanes among places. placed lanes (λ l any. among l (head-among l any)) places;
        longer = makes-longer some.0 (head_writes h) (head_came h) (head_came h') b a makes;
        few = part-few some.0 meaning stands_after state with_head (head-holds some.0 some.1 held);
      }

      -- more was done by the head, and by no other
      head-done : part_done with_head + head_done h ≡ part_done p + head_done h'
      head-done = let old = ap (λ (o : Option (HeadView T)). option_map_or (λ (x : HeadView T). head_done x) o 0) at in omega (arith, old)

      pub head-given : (b a : OutputsView) → HeadGiven state h b h' a → Given meaning stands_after state p (head_hop p) b with_head a
      head-given b a t = record {
        taken = λ l.
            ap (λ (n : ℕ). if l.hop == head_hop p then n else path_taken p.path l)
            ((λ i. cond (same_lane l (data_lane (same_node.0 i) (same_node.1 i))) (t.taken i) 0) ∙ sym (ap (λ (o : Option (HeadView T)). option_map_or (λ (x : HeadView T). head_taken x l) o 0) at));
        puts = let own = (some.1.head h at).0 in head-puts b a t.placed (t.holds some.0 own) (t.made some.0 own);
        holds = λ world holds. head-holds world holds (t.holds world (holds.head h at).0);
        made = λ world holds. head-makes world b a (t.made world (holds.head h at).0);
        more = let done = head-done in let more = t.more in omega (arith, done, more);
      }

      module _ (e : Envelope) (there : (e.lane.hop == head_hop p) ≡ true) where
        pub head-enters : has_entered p e.lane ≡ true → EntersHead h e.lane
        head-enters entered =
            let here = and_parts (is_some p.head) (same_lane e.lane (data_lane p.path.channel (head_hop p))) (sym (cond-true (e.lane.hop == head_hop p) _ (enters_path p.path e.lane) there) ∙ entered) in
            same_lane-equal e.lane (data_lane p.path.channel (head_hop p)) here.1 ∙ (λ i. data_lane (sym own-channel i) (sym own-hop i))

        taken-there : (l : Lane) → (l.hop == head_hop p) ≡ true → part_taken p l ≡ head_taken h l
        taken-there l on = cond-true (l.hop == head_hop p) _ (path_taken p.path l) on ∙ ap (λ (o : Option (HeadView T)). option_map_or (λ (x : HeadView T). head_taken x l) o 0) at

        pub head-number : EntersHead h e.lane → e.number ≡ part_taken p e.lane → e.number ≡ h.taken
        head-number enters number =
            number ∙ taken-there e.lane there
            ∙ cond-true (same_lane e.lane (data_lane h.channel h.hop)) h.taken 0 (ap (λ (m : Lane). same_lane m (data_lane h.channel h.hop)) enters ∙ same_lane-self (data_lane h.channel h.hop))

        head-counts : EntersHead h e.lane → e.number ≡ h.taken → h'.taken ≡ h.taken + 1 → (l : Lane) → part_taken with_head l ≡ cond (same_lane l e.lane) (e.number + 1) (part_taken p l)
        head-counts enters number count l = ⊎_elim
            (λ (on : (l.hop == head_hop p) ≡ true).
            cond-true (l.hop == head_hop p) (head_taken h' l) (path_taken p.path l) on
            ∙ (λ i. cond (same_lane l (data_lane (same_node.0 i) (same_node.1 i))) (count i) 0)
            ∙ ap (λ (m : Lane). cond (same_lane l m) (h.taken + 1) 0) (sym enters)
            ∙ ⊎_elim
            (λ (t : same_lane l e.lane ≡ true).
            cond-true (same_lane l e.lane) (h.taken + 1) 0 t ∙ ap (λ (n : ℕ). n + 1) (sym number) ∙ sym (cond-true (same_lane l e.lane) (e.number + 1) (part_taken p l) t))
            (λ (f : same_lane l e.lane ≡ false).
            cond-false (same_lane l e.lane) (h.taken + 1) 0 f
            ∙ sym (cond-false (same_lane l (data_lane h.channel h.hop)) h.taken 0 (ap (λ (m : Lane). same_lane l m) (sym enters) ∙ f)) ∙ sym (taken-there l on)
            ∙ sym (cond-false (same_lane l e.lane) (e.number + 1) (part_taken p l) f))
            (cases_Bool (same_lane l e.lane)))
            (λ (off : (l.hop == head_hop p) ≡ false).
            cond-false (l.hop == head_hop p) (head_taken h' l) (path_taken p.path l) off
            ∙ sym (cond-false (l.hop == head_hop p) (option_map_or (λ (x : HeadView T). head_taken x l) p.head 0) (path_taken p.path l) off)
            ∙ sym (cond-false (same_lane l e.lane) (e.number + 1) (part_taken p l)
            (other-hop l e.lane (λ same. both_ways (l.hop == head_hop p) off (ap (λ (n : ℕ). n == head_hop p) same ∙ there)))))
            (cases_Bool (l.hop == head_hop p))

        pub head-taken : IsGood some.0 e → (is_spent : S → Bool) (b a : OutputsView) (answer : Took) → EntersHead h e.lane → e.number ≡ h.taken → HeadTakes state h e b answer h' a
            → Taken meaning stands_after state is_spent p e b answer with_head a
        head-taken fits is_spent b a answer enters number takes =
            let own = (some.1.head h at).0 in
            let held : (world : World) → HeadHolds state world h → IsGood world e → HeadHolds state world h' = λ world k good.
            record { plan = k.plan; events = k.events; holds = take-holds state world k.plan k.events h k.holds e enters number good b a answer h' takes } in
            let made : (world : World) → HeadHolds state world h → IsGood world e → Makes world (head_writes h) (head_came h) (head_came h') b a = λ world k good.
            take-makes state world k.plan k.events h k.holds e enters number good b a answer h' takes in
            let placed = take-places state some.0 own.plan own.events h own.holds e enters number fits b a answer h' takes in
            let more = take-more state some.0 own.plan own.events h own.holds e enters number fits b a answer h' takes in
            let on : head_hop p ≡ e.lane.hop = sym (eqb-true e.lane.hop (head_hop p) there) in
            record {
              takes = record {
                path = λ off. absurd (both_ways (e.lane.hop == head_hop p) off there);
                head = λ x t found. (h', refl, subst (λ (y : HeadView T). HeadTakes state y e b answer h' a) (same_Some h x (sym at ∙ found)) takes, refl);
              };
              taken = λ l. head-counts enters number takes.taken l;
              puts = subst (λ (n : ℕ). NodePuts meaning p n b with_head a) on (head-puts b a placed (held some.0 own fits) (made some.0 own fits));
              holds = λ world holds good. head-holds world holds (held world (holds.head h at).0 good);
              made = λ world holds good.
                  subst (λ (n : ℕ). Makes world (writes_at meaning p n) (part_came meaning p) (part_came meaning with_head) b a) on (head-makes world b a (made world (holds.head h at).0 good));
              more = let done = head-done in omega (arith, done, more);
            }

  -- the lanes of a head need one place
  pub head-places : (some : (world : World) × PartHolds world meaning stands_after state p) (h : HeadView T) → p.head ≡ Some h → (b : OutputsView) → HasPlaces b.stopped (part_lanes p) → HasPlaces b.stopped (data_lane h.channel 0 ∷ [])
  head-places some h at b places =
      places-for b.stopped (part_lanes p) (data_lane h.channel 0 ∷ []) places (λ l any. head-among h at h (refl, refl, refl) some l (twice (same_hop l (data_lane h.channel 0)) any))

  -- ---- nothing moves

  pub none-given : (some : (world : World) × PartHolds world meaning stands_after state p) (hop : ℕ) (b : OutputsView) → Given meaning stands_after state p hop b p b
  none-given some hop b = record {
    taken = λ l. refl;
    puts = record {
      same = record { path = record { channel = refl; executors = refl; contexts = refl; tail = refl; tail_hop = refl; turn = refl; handed = refl }; head = refl; gone = refl };
      writes = λ l. refl;
      others = λ l f. refl;
      placed = λ lanes among places. places;
      longer = omega arith;
      few = part-few some.0 meaning stands_after state p some.1;
    };
    holds = λ world holds. holds;
    made = λ world holds. makes-none world (writes_at meaning p hop) (part_came meaning p) b b refl refl;
    more = omega arith;
  }

  -- ---- a context or the tail moves

  module _ (v' : PathPartView S) (same : SamePath p.path v') where
    abbrev pub with_path : ChannelPartView S T
    with_path = record p { path = v' }

    same-hop : head_hop with_path ≡ head_hop p
    same-hop =
        sym (length-map v'.contexts (λ (slot : Option (ContextView S)). is_some slot)) ∙ ap length same.contexts ∙ length-map p.path.contexts (λ (slot : Option (ContextView S)). is_some slot)

    path-same : SamePart p with_path
    path-same = record { path = same; head = refl; gone = refl }

    path-holds : (world : World) → PartHolds world meaning stands_after state p → PathHolds world meaning stands_after v' → PartHolds world meaning stands_after state with_path
    path-holds world holds held = record {
      path = held;
      head = λ h found. let own = holds.head h found in (own.0, own.1 ∙ sym same.channel, own.2 ∙ sym same-hop);
      hops = ap length same.executors ∙ holds.hops ∙ ap (λ (n : ℕ). n + 1) (sym same-hop);
    }

    module _ (hop : ℕ) (writes : (l : Lane) → path_writes meaning v' l ≡ path_writes meaning p.path l)
        (others : (l : Lane) → path_writes_at meaning p.path hop l ≡ false → path_came meaning v' l ≡ path_came meaning p.path l) where
      path-others : (l : Lane) → (l.hop == 0) ≡ true → part_came meaning with_path l ≡ part_came meaning p l
      path-others l z =
          cond-true (l.hop == 0) (option_map_or (λ (x : HeadView T). head_came x l) p.head nowhere) (path_came meaning v' l) z
          ∙ sym (cond-true (l.hop == 0) (option_map_or (λ (x : HeadView T). head_came x l) p.head nowhere) (path_came meaning p.path l) z)

      later-came-path : (l : Lane) → (l.hop == 0) ≡ false → path_writes_at meaning p.path hop l ≡ false → part_came meaning with_path l ≡ part_came meaning p l
      later-came-path l z f =
          cond-false (l.hop == 0) (option_map_or (λ (x : HeadView T). head_came x l) p.head nowhere) (path_came meaning v' l) z ∙ others l f
          ∙ sym (cond-false (l.hop == 0) (option_map_or (λ (x : HeadView T). head_came x l) p.head nowhere) (path_came meaning p.path l) z)

      later-writes : (l : Lane) → (l.hop == 0) ≡ false → path_writes_at meaning p.path hop l ≡ writes_at meaning p hop l
      later-writes l z =
          ap (λ (b : Bool). b && (writer_hop p.path l.hop == hop)) (sym (cond-false (l.hop == 0) (option_map_or (λ (x : HeadView T). head_writes x l) p.head false) (path_writes meaning p.path l) z))

      path-puts : (some : (world : World) × PartHolds world meaning stands_after state p) (b a : OutputsView)
          → ((lanes : List Lane) → AreAmong (path_lanes p.path) lanes → HasPlaces b.stopped lanes → HasPlaces a.stopped lanes)
          → PathHolds some.0 meaning stands_after v' → Makes some.0 (path_writes_at meaning p.path hop) (path_came meaning p.path) (path_came meaning v') b a → NodePuts meaning p hop b with_path a
      path-puts some b a placed held makes = record {
        same = path-same;
        writes = λ l. ap (λ (x : Bool). if l.hop == 0 then option_map_or (λ (y : HeadView T). head_writes y l) p.head false else x) (writes l);
        others = λ l f. ⊎_elim (λ (z : (l.hop == 0) ≡ true). path-others l z) (λ (z : (l.hop == 0) ≡ false). later-came-path l z (later-writes l z ∙ f)) (cases_Bool (l.hop == 0));
        placed = placed;
        longer = makes-longer some.0 (path_writes_at meaning p.path hop) (path_came meaning p.path) (path_came meaning v') b a makes;
        few = part-few some.0 meaning stands_after state with_path (path-holds some.0 some.1 held);
      }

      path-makes : (world : World) (b a : OutputsView) → Makes world (path_writes_at meaning p.path hop) (path_came meaning p.path) (path_came meaning v') b a
          → Makes world (writes_at meaning p hop) (part_came meaning p) (part_came meaning with_path) b a
      path-makes world b a = makes-among world (path_writes_at meaning p.path hop) (writes_at meaning p hop) (path_came meaning p.path) (path_came meaning v') (part_came meaning p) (part_came meaning with_path) b a
          (λ l t. let z = not-first l t in (
            sym (later-writes l z) ∙ t,
            cond-false (l.hop == 0) (option_map_or (λ (x : HeadView T). head_came x l) p.head nowhere) (path_came meaning p.path l) z,
            cond-false (l.hop == 0) (option_map_or (λ (x : HeadView T). head_came x l) p.head nowhere) (path_came meaning v' l) z,
          ))
          (λ l f. sym (⊎_elim (λ (z : (l.hop == 0) ≡ true). path-others l z) (λ (z : (l.hop == 0) ≡ false). later-came-path l z f) (cases_Bool (l.hop == 0))))
        where
          not-first : (l : Lane) → path_writes_at meaning p.path hop l ≡ true → (l.hop == 0) ≡ false
          not-first l t = ⊎_elim
              (λ (z : (l.hop == 0) ≡ true). absurd (both_ways (path_writes meaning p.path l) (path-quiet l z) (and_parts _ _ t).0))
              (λ (z : (l.hop == 0) ≡ false). z)
              (cases_Bool (l.hop == 0))

      pub path-refused : (some : (world : World) × (world.refuses ≡ true) × PartHolds world meaning stands_after state p) (b a : OutputsView) → ((l : Lane) → path_taken v' l ≡ path_taken p.path l)
          → ((lanes : List Lane) → AreAmong (path_lanes p.path) lanes → HasPlaces b.stopped lanes → HasPlaces a.stopped lanes)
          → ((world : World) → world.refuses ≡ true → PathHolds world meaning stands_after p.path → PathHolds world meaning stands_after v')
          → ((world : World) → world.refuses ≡ true → PathHolds world meaning stands_after p.path → Makes world (path_writes_at meaning p.path hop) (path_came meaning p.path) (path_came meaning v') b a)
          → path_done p.path + length a.items ≤ path_done v' + length b.items
          → PartRefused meaning stands_after state p hop b with_path a
      path-refused some b a counts placed held made more = record {
        taken = λ l. (λ i. if l.hop == same-hop i then option_map_or (λ (x : HeadView T). head_taken x l) p.head 0 else counts l i);
        puts = path-puts (some.0, some.2) b a placed (held some.0 some.1 some.2.path) (made some.0 some.1 some.2.path);
        holds = λ world refuses holds. path-holds world holds (held world refuses holds.path);
        made = λ world refuses holds. path-makes world b a (made world refuses holds.path);
        more = omega (arith, more);
      }

  -- the envelope goes to a context or to the tail
  module _ (e : Envelope) (off : (e.lane.hop == head_hop p) ≡ false) where
    pub next-on-path : (world : World) (b : OutputsView) → IsNextFor world meaning stands_after state p e b → IsNextOnPath world meaning stands_after p.path e b
    next-on-path world b next = record {
      holds = next.holds.path;
      entered = sym (cond-false (e.lane.hop == head_hop p) (is_some p.head && same_lane e.lane (data_lane p.path.channel (head_hop p))) (enters_path p.path e.lane) off) ∙ next.entered;
      number = next.number ∙ cond-false (e.lane.hop == head_hop p) (option_map_or (λ (x : HeadView T). head_taken x e.lane) p.head 0) (path_taken p.path e.lane) off;
      good = next.good;
      places = next.places;
    }

    pub path-taken : (v' : PathPartView S) (same : SamePath p.path v') (some : (world : World) × PartHolds world meaning stands_after state p) → IsGood some.0 e → (is_spent : S → Bool) (b a : OutputsView) (answer : Took) → PathTakes meaning stands_after is_spent p.path e b answer v' a
        → ((l : Lane) → path_taken v' l ≡ cond (same_lane l e.lane) (e.number + 1) (path_taken p.path l))
        → ((l : Lane) → path_writes meaning v' l ≡ path_writes meaning p.path l)
        → ((l : Lane) → path_writes_at meaning p.path e.lane.hop l ≡ false → path_came meaning v' l ≡ path_came meaning p.path l)
        → ((lanes : List Lane) → AreAmong (path_lanes p.path) lanes → HasPlaces b.stopped lanes → HasPlaces a.stopped lanes)
        → ((world : World) → PathHolds world meaning stands_after p.path → IsGood world e → PathHolds world meaning stands_after v')
        → ((world : World) → PathHolds world meaning stands_after p.path → IsGood world e → Makes world (path_writes_at meaning p.path e.lane.hop) (path_came meaning p.path) (path_came meaning v') b a)
        → path_done p.path + length a.items + 1 ≤ path_done v' + length b.items
        → Taken meaning stands_after state is_spent p e b answer (with_path v' same) a
    path-taken v' same some fits is_spent b a answer takes counts writes others placed held made more = record {
      takes = record { path = λ f. (takes, refl); head = λ h on found. absurd (both_ways (e.lane.hop == head_hop p) off on) };
      taken = λ l. ⊎_elim
          (λ (on : (l.hop == head_hop p) ≡ true).
          (λ i. if l.hop == same-hop v' same i then option_map_or (λ (x : HeadView T). head_taken x l) p.head 0 else path_taken v' l)
          ∙ cond-true (l.hop == head_hop p) (option_map_or (λ (x : HeadView T). head_taken x l) p.head 0) (path_taken v' l) on
          ∙ sym (cond-true (l.hop == head_hop p) (option_map_or (λ (x : HeadView T). head_taken x l) p.head 0) (path_taken p.path l) on)
          ∙ sym (cond-false (same_lane l e.lane) (e.number + 1) (part_taken p l) (other-hop l e.lane (λ q. both_ways (e.lane.hop == head_hop p) off (ap (λ (n : ℕ). n == head_hop p) (sym q) ∙ on)))))
          (λ (f : (l.hop == head_hop p) ≡ false).
          (λ i. if l.hop == same-hop v' same i then option_map_or (λ (x : HeadView T). head_taken x l) p.head 0 else path_taken v' l)
          ∙ cond-false (l.hop == head_hop p) (option_map_or (λ (x : HeadView T). head_taken x l) p.head 0) (path_taken v' l) f
          ∙ counts l
          ∙ ap (λ (n : ℕ). cond (same_lane l e.lane) (e.number + 1) n) (sym (cond-false (l.hop == head_hop p) (option_map_or (λ (x : HeadView T). head_taken x l) p.head 0) (path_taken p.path l) f)))
          (cases_Bool (l.hop == head_hop p));
      puts = path-puts v' same e.lane.hop writes others some b a placed (held some.0 some.1.path fits) (made some.0 some.1.path fits);
      holds = λ world holds good. path-holds v' same world holds (held world holds.path good);
      made = λ world holds good. path-makes v' same e.lane.hop writes others world b a (made world holds.path good);
      more = omega (arith, more);
    }

-- ---- for a view of the same part

-- The envelope is the next of the head.
pub record IsNextAtHead {S T : Type 0} (world : World) (meaning : S → Meaning) (stands_after : S → List Event → Type 0) (state : T → TransportState) (v : ChannelPartView S T) (e : Envelope) (before : OutputsView) (h : HeadView T) : Type 0 where
  pub next : IsNextFor world meaning stands_after state v e before
  pub there : (e.lane.hop == head_hop v) ≡ true
  pub enters : EntersHead h e.lane
  pub number : e.number ≡ h.taken

module _ {S T : Type 0} (meaning : S → Meaning) (stands_after : S → List Event → Type 0) (state : T → TransportState) (p v : ChannelPartView S T) (same : v ≡ p) (before : OutputsView) where
  pub taken-of : (v' : ChannelPartView S T) (after : OutputsView) (is_spent : S → Bool) (e : Envelope) (answer : Took) → Taken meaning stands_after state is_spent v e before answer v' after
      → Taken meaning stands_after state is_spent p e before answer v' after
  taken-of v' after is_spent e answer t = subst (λ (y : ChannelPartView S T). Taken meaning stands_after state is_spent y e before answer v' after) same t

  pub refused-of : (v' : ChannelPartView S T) (after : OutputsView) (hop : ℕ) → PartRefused meaning stands_after state v (writer_hop v.path hop) before v' after → PartRefused meaning stands_after state p (writer_hop p.path hop) before v' after
  refused-of v' after hop t = subst (λ (y : ChannelPartView S T). PartRefused meaning stands_after state y (writer_hop y.path hop) before v' after) same t

  pub holds-of : (world : World) × PartHolds world meaning stands_after state p → (world : World) × PartHolds world meaning stands_after state v
  holds-of holds = subst (λ (y : ChannelPartView S T). (world : World) × PartHolds world meaning stands_after state y) (sym same) holds

  pub refusing-of : (world : World) × (world.refuses ≡ true) × PartHolds world meaning stands_after state p → (world : World) × (world.refuses ≡ true) × PartHolds world meaning stands_after state v
  refusing-of holds = subst (λ (y : ChannelPartView S T). (world : World) × (world.refuses ≡ true) × PartHolds world meaning stands_after state y) (sym same) holds

  -- ---- what it is to take

  module _ (e : Envelope) (some : (world : World) × IsNextFor world meaning stands_after state p e before) where
    pub next-of : (world : World) × IsNextFor world meaning stands_after state v e before
    next-of = subst (λ (y : ChannelPartView S T). (world : World) × IsNextFor world meaning stands_after state y e before) (sym same) some

    pub next-at-head : (e.lane.hop == head_hop p) ≡ true → (h : HeadView T) → v.head ≡ Some h → (world : World) × IsNextAtHead world meaning stands_after state v e before h
    next-at-head at_head h at =
        let next = next-of in
        let there = subst (λ (y : ChannelPartView S T). (e.lane.hop == head_hop y) ≡ true) (sym same) at_head in
        let enters = head-enters meaning stands_after state v h at h (refl, refl, refl) (next.0, next.1.holds) e there next.1.entered in (
          next.0,
          record { next = next.1; there = there; enters = enters; number = head-number meaning stands_after state v h at h (refl, refl, refl) (next.0, next.1.holds) e there enters next.1.number },
        )

  -- ---- what its head is to do

  module _ (holds : (world : World) × PartHolds world meaning stands_after state p) where
    -- it has none
    pub given-none : Given meaning stands_after state p (head_hop p) before v before
    given-none = subst (λ (y : ChannelPartView S T). Given meaning stands_after state y (head_hop y) before v before) same (none-given meaning stands_after state v (holds-of holds) (head_hop v) before)

    module _ (h : HeadView T) (at : v.head ≡ Some h) where
      pub places-there : HasPlaces before.stopped (part_lanes p) → HasPlaces before.stopped (data_lane h.channel 0 ∷ [])
      places-there places = head-places meaning stands_after state v (holds-of holds) h at before (subst (λ (y : ChannelPartView S T). HasPlaces before.stopped (part_lanes y)) (sym same) places)

      pub given-there : (h' : HeadView T) (after : OutputsView) → ((world : World) × HeadHolds state world h → HeadGiven state h before h' after) → Given meaning stands_after state p (head_hop p) before (record v { head = Some h' }) after
      given-there h' after gives =
          let some = holds-of holds in
          let t = gives (some.0, (some.1.head h at).0) in
          subst (λ (y : ChannelPartView S T). Given meaning stands_after state y (head_hop y) before (record v { head = Some h' }) after) same (head-given meaning stands_after state v h at h' t.same_node some before after t)

module _ {S T : Type 0} (state : T → TransportState) (p v : ChannelPartView S T) (same : v ≡ p) (before : OutputsView) (h : HeadView T) (at : v.head ≡ Some h) (h' : HeadView T) (after : OutputsView) where
  abbrev moved_head : ChannelPartView S T
  moved_head = record v { head = Some h' }

  pub reads-of : (answer : ReadStep) → HeadReads state h before answer h' after → PartReads state p before answer moved_head after
  reads-of answer r = subst (λ (y : ChannelPartView S T). PartReads state y before answer moved_head after) same
      (record {
        head = λ x found. (h', refl, subst (λ (y : HeadView T). HeadReads state y before answer h' after) (same_Some h x (sym at ∙ found)) r);
        none = λ n. no-same h (sym n ∙ at);
        path = refl;
      })

  pub writes-of : (may_refuse : T → ℕ → Type 0) (answer : OutStep) → HeadWrites state may_refuse h before answer h' after → PartWrites state may_refuse p before answer moved_head after
  writes-of may_refuse answer r = subst (λ (y : ChannelPartView S T). PartWrites state may_refuse y before answer moved_head after) same
      (record {
        head = λ x found. (h', refl, subst (λ (y : HeadView T). HeadWrites state may_refuse y before answer h' after) (same_Some h x (sym at ∙ found)) r);
        none = λ n. no-same h (sym n ∙ at);
        path = refl;
      })

  pub aborts-of : HeadAborts state h before h' after → PartAborts state p before moved_head after
  aborts-of r = subst (λ (y : ChannelPartView S T). PartAborts state y before moved_head after) same
      (record {
        head = λ x found. (h', refl, subst (λ (y : HeadView T). HeadAborts state y before h' after) (same_Some h x (sym at ∙ found)) r);
        none = λ n. no-same h (sym n ∙ at);
        path = refl;
      })

-- ---- all nodes of a channel

pub filled-length : {A : Type 0} (xs : List (Option A)) (n m : ℕ) → map (λ (slot : Option A). is_some slot) xs ≡ replicate n true ++ false ∷ replicate m true → length xs ≡ n + m + 1
filled-length xs n m e =
    let size = sym (length-map xs (λ (slot : Option _). is_some slot)) ∙ ap length e ∙ length-append (replicate n true) (false ∷ replicate m true) in
    let one = length-replicate n true in
    let two = length-replicate m true in
    omega (arith, size, one, two)
