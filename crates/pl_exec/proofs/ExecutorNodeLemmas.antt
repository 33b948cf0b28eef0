-- The nodes of an executor, where the part of one channel has changed.
use Rattle.std.proofs.Common.{◌≡◌, ℕ, ◌+◌, ◌<◌, ◌≤◌, Bool, true, false, ◌&&◌, List, length, map, get_or, slice_get, Option, Some, None, refl, ap, sym, ◌∙◌, subst, ⊎_elim, arith, inl, inr}
use Rattle.std.specs.Prelude.{◌==◌, is_some, nat_lt, if◌then◌else◌}
use Rattle.std.specs.Option.{option_map_or}
use Rattle.std.proofs.lemmas.Bool.{cond-true, cond-false, cases_Bool, and_parts, and_from, eqb-true, eq-eqb, lt-ltb, ltb-true}
use Rattle.std.proofs.lemmas.Bool.Decides.{eqb_tells}
use Rattle.std.proofs.lemmas.List.{length-set}
use Rattle.std.proofs.Math.ListN.{get_or-map}
use Rattle.std.proofs.lemmas.Option.{slice_get_within}
use Rattle.pl_event.specs.declared.events.Event.{Event}
use Rattle.pl_event.specs.declared.envelopes.Envelope.{Envelope}
use Rattle.pl_event.specs.declared.envelopes.Lane.{Lane}
use Rattle.pl_event.specs.Hops.{same_lane, data_lane}
use Rattle.pl_event.specs.Meaning.{Meaning}
use Rattle.pl_event.specs.Worlds.{World}
use Rattle.pl_event.proofs.Lists.{at_set_same, at_set_other}
use Rattle.pl_context.specs.OutputsViews.{OutputsView}
use Rattle.pl_context.specs.Stops.{HasPlaces}
use Rattle.pl_flow.specs.Flows.{nowhere, IsGood}
use Rattle.pl_flow.specs.LanesViews.{SameRoutes}
use Rattle.pl_flow.specs.Makes.{Makes}
use Rattle.pl_flow.proofs.MakeLemmas.{makes-among}
use Rattle.pl_head.specs.Transports.{TransportState}
use Rattle.pl_part.specs.Paths.{context_at, enters_path, writer_hop}
use Rattle.pl_part.specs.Parts.{ChannelPartView, PartHolds, SamePart, head_hop, has_entered, part_taken, part_writes, part_came, writes_at}
use Rattle.pl_part.specs.PartCalls.{IsNextFor}
use Rattle.pl_channel.specs.PlanStand.{PartKeepsPlan}
use Rattle.pl_channel.specs.Channels.{executor_at, is_hop, data_lanes_of, taken_of, writes_here, writes_of, came_of}
use Rattle.pl_channel.proofs.OneChannel.{changed, at-was, at-is, unchanged, places-of, routes-stay, same-hops, same-executor}
use Rattle.pl_channel.proofs.Wholes.{written, hop-last, hop-before}
use Rattle.pl_exec.specs.ExecutorNodes.{nobody, enters, entered_executor, lanes_here, has_node, IsResident, NoneRefused, ShareStands, NodesStand}
use Rattle.pl_world.specs.Plans.{ChannelPlan, Plan}

-- ---- lists

-- what is said of a slot is said alike, where it is said alike of the lists
pub same-slot : {A : Type 0} (xs ys : List (Option A)) (i : ℕ) → map (λ (slot : Option A). is_some slot) xs ≡ map (λ (slot : Option A). is_some slot) ys → is_some (get_or xs i None) ≡ is_some (get_or ys i None)
same-slot xs ys i same =
    sym (get_or-map (λ (slot : Option _). is_some slot) xs i None) ∙ ap (λ (bs : List Bool). get_or bs i false) same ∙ get_or-map (λ (slot : Option _). is_some slot) ys i None

-- ---- the same nodes

module _ {S T : Type 0} (p p' : ChannelPartView S T) (same : SamePart p p') where
  same-hop : (l : Lane) → is_hop p' l ≡ is_hop p l
  same-hop l = ap (λ (es : List ℕ). is_hop (record p { path = record p.path { executors = es } }) l) same.path.executors

  pub same-enters : (l : Lane) → enters p' l ≡ enters p l
  same-enters l = λ i. if same-hop l i then same-executor p p' same l.hop i else nobody

  same-node : (hop : ℕ) → has_node p' hop ≡ has_node p hop
  same-node hop = λ i. if hop == same-hops p p' same i then same.head i else if hop == same.path.tail_hop i then same.path.tail i else same-slot p'.path.contexts p.path.contexts hop same.path.contexts i

  still-resident : (me : ℕ) → IsResident me p → IsResident me p'
  still-resident me r = record { nodes = λ hop within. let hops = same-hops p p' same in same-node hop ∙ r.nodes hop (omega (arith, within, hops)) ∙ ap (λ (x : ℕ). x == me) (sym (same-executor p p' same hop)) }

-- ---- a part on an executor

module _ {S T : Type 0} (me c : ℕ) (p : ChannelPartView S T) (resident : IsResident me p) (channel : p.path.channel ≡ c) (hops : length p.path.executors ≡ head_hop p + 1) where
  -- what enters a node of this executor enters one that is here
  pub enters-here : (l : Lane) → me < nobody → l.channel ≡ c → enters p l ≡ me → has_entered p l ≡ true
  enters-here l small of here = ⊎_elim
      (λ (h : is_hop p l ≡ true). there h (sym (cond-true (is_hop p l) (executor_at p l.hop) nobody h) ∙ here))
      (λ (n : is_hop p l ≡ false). let e : nobody ≡ me = sym (cond-false (is_hop p l) (executor_at p l.hop) nobody n) ∙ here in absurd (omega (arith, e, small)))
      (cases_Bool (is_hop p l))
    where
      own : l.channel ≡ p.path.channel
      own = of ∙ sym channel

      node : l.hop ≤ head_hop p → executor_at p l.hop ≡ me → has_node p l.hop ≡ true
      node within at = resident.nodes l.hop within ∙ eq-eqb (executor_at p l.hop) me at

      there : is_hop p l ≡ true → executor_at p l.hop ≡ me → has_entered p l ≡ true
      there h at = ⊎_elim
          (λ (t : (l.hop == head_hop p) ≡ true).
          cond-true (l.hop == head_hop p) (is_some p.head && same_lane l (data_lane p.path.channel (head_hop p))) (enters_path p.path l) t
          ∙ and_from (is_some p.head) (same_lane l (data_lane p.path.channel (head_hop p)))
          (sym (cond-true (l.hop == head_hop p) (is_some p.head) _ t) ∙ node (let e = eqb-true l.hop (head_hop p) t in omega (arith, e)) at)
          (hop-last p l hops own h t))
          (λ (f : (l.hop == head_hop p) ≡ false).
          let lower = hop-before p l hops h f in
          cond-false (l.hop == head_hop p) (is_some p.head && same_lane l (data_lane p.path.channel (head_hop p))) (enters_path p.path l) f
          ∙ and_from (l.channel == p.path.channel) (if l.hop == p.path.tail_hop then is_some p.path.tail else is_some (context_at p.path l.hop)) (eq-eqb l.channel p.path.channel own)
          (sym (cond-false (l.hop == head_hop p) (is_some p.head) _ f) ∙ node (omega (arith, lower)) at))
          (cases_Bool (l.hop == head_hop p))

-- where a lane enters this executor there is its channel
pub channel-here : {S T : Type 0} (ps : List (ChannelPartView S T)) (me : ℕ) (l : Lane) → me < nobody → entered_executor ps l ≡ me → l.channel < length ps
channel-here ps me l small here = by (slice_get ps l.channel) refl here
  where
    by : (o : Option (ChannelPartView _ _)) → slice_get ps l.channel ≡ o → option_map_or (λ (p : ChannelPartView _ _). enters p l) o nobody ≡ me → l.channel < length ps
    by None at e = absurd (omega (arith, e, small))
    by (Some p) at e = slice_get_within ps l.channel p at

-- ---- a lane that one of them writes

-- it has a hop
pub written-hop : {S T : Type 0} (meaning : S → Meaning) (ps : List (ChannelPartView S T)) (l : Lane) (p : ChannelPartView S T) → slice_get ps l.channel ≡ Some p → writes_of meaning ps l ≡ true → l.hop < length p.path.executors
written-hop meaning ps l p at w =
    let here : writes_here meaning p l ≡ true = ap (λ (o : Option (ChannelPartView _ _)). option_map_or (λ (q : ChannelPartView _ _). writes_here meaning q l) o false) (sym at) ∙ w in
    ltb-true l.hop (length p.path.executors) (and_parts (nat_lt l.hop (length p.path.executors)) (part_writes meaning p l) here).0

-- it enters a node, that of its hop
pub enters-hop : {S T : Type 0} (world : World) (plan : Plan) (meaning : S → Meaning) (stands_after : S → List Event → Type 0) (state : T → TransportState) (me : ℕ) (refused : Bool) (ps : List (ChannelPartView S T))
    → NodesStand world plan meaning stands_after state me refused ps → (l : Lane) (p : ChannelPartView S T) → slice_get ps l.channel ≡ Some p → writes_of meaning ps l ≡ true → entered_executor ps l ≡ executor_at p l.hop
enters-hop world plan meaning stands_after state me refused ps stand l p at w =
    let own = stand.parts l.channel p at in
    let here : writes_here meaning p l ≡ true = ap (λ (o : Option (ChannelPartView _ _)). option_map_or (λ (q : ChannelPartView _ _). writes_here meaning q l) o false) (sym at) ∙ w in
    let is = written world meaning stands_after state p own.holds own.within l (and_parts (nat_lt l.hop (length p.path.executors)) (part_writes meaning p l) here).1 in
    ap (λ (o : Option (ChannelPartView _ _)). option_map_or (λ (q : ChannelPartView _ _). enters q l) o nobody) at ∙ cond-true (is_hop p l) (executor_at p l.hop) nobody is.hop

-- ---- one of all parts

module _ {S T : Type 0} (ps : List (ChannelPartView S T)) (c : ℕ) (p p' : ChannelPartView S T) (was : slice_get ps c ≡ Some p) where
  pub targets-stay : SamePart p p' → entered_executor (changed ps c p p' was) ≡ entered_executor ps
  targets-stay same = λ i l. unchanged ps c p p' was (λ (q : ChannelPartView S T). enters q l) nobody (same-enters p p' same l) l.channel i

  pub routes-keep : (meaning : S → Meaning) → SamePart p p' → ((l : Lane) → part_writes meaning p' l ≡ part_writes meaning p l) → SameRoutes (lanes_here meaning ps) (lanes_here meaning (changed ps c p p' was))
  routes-keep meaning same writes = routes-stay ps c p p' was same meaning writes (entered_executor ps) (entered_executor (changed ps c p p' was)) (targets-stay same)

  pub count-stays : length (changed ps c p p' was) ≡ length ps
  count-stays = length-set ps c p'

  module _ (world : World) (plan : Plan) (meaning : S → Meaning) (stands_after : S → List Event → Type 0) (state : T → TransportState) (me : ℕ) (refused : Bool) where
    module _ (stand : NodesStand world plan meaning stands_after state me refused ps) where
      pub own-stands : ShareStands world meaning stands_after state me refused c p
      own-stands = stand.parts c p was

      -- what is for this executor is the next for its part
      pub next-here : (e : Envelope) (b : OutputsView) → e.lane.channel ≡ c → entered_executor ps e.lane ≡ me → e.number ≡ taken_of ps e.lane → IsGood world e → HasPlaces b.stopped (data_lanes_of ps)
          → IsNextFor world meaning stands_after state p e b
      next-here e b of here number good places = record {
        holds = own-stands.holds;
        entered = enters-here me c p own-stands.resident own-stands.channel own-stands.holds.hops e.lane stand.number of (sym (at-was ps c p p' was (λ (q : ChannelPartView S T). enters q e.lane) nobody e.lane.channel of) ∙ here);
        number = number ∙ at-was ps c p p' was (λ (q : ChannelPartView S T). part_taken q e.lane) 0 e.lane.channel of;
        good = good;
        places = places-of ps c p p' was b places;
      }

      -- what its nodes write is of its channel, and is written here
      own-written : (l : Lane) → part_writes meaning p l ≡ true → (l.channel ≡ c) × (writes_of meaning ps l ≡ true)
      own-written l w =
          let is = written world meaning stands_after state p own-stands.holds own-stands.within l w in
          let of = is.channel ∙ own-stands.channel in
          (of, at-was ps c p p' was (λ (q : ChannelPartView S T). writes_here meaning q l) false l.channel of ∙ and_from (nat_lt l.hop (length p.path.executors)) (part_writes meaning p l) (lt-ltb l.hop (length p.path.executors) is.within) w)

      -- what one of its nodes has put is what the executor's nodes have put
      pub made-here : (hop : ℕ) (b a : OutputsView) → ((l : Lane) → writes_at meaning p hop l ≡ false → part_came meaning p' l ≡ part_came meaning p l)
          → Makes world (writes_at meaning p hop) (part_came meaning p) (part_came meaning p') b a → Makes world (writes_of meaning ps) (came_of meaning ps) (came_of meaning (changed ps c p p' was)) b a
      made-here hop b a others made = makes-among world (writes_at meaning p hop) (writes_of meaning ps) (part_came meaning p) (part_came meaning p') (came_of meaning ps) (came_of meaning (changed ps c p p' was)) b a
          (λ l at.
          let own = own-written l (and_parts (part_writes meaning p l) (writer_hop p.path l.hop == hop) at).0 in
          (own.1, at-was ps c p p' was (λ (q : ChannelPartView S T). part_came meaning q l) nowhere l.channel own.0, at-is ps c p p' was (λ (q : ChannelPartView S T). part_came meaning q l) nowhere l.channel own.0))
          (λ l off. sym (unchanged ps c p p' was (λ (q : ChannelPartView S T). part_came meaning q l) nowhere (others l off) l.channel))
          made

      -- The nodes stand, where that part does and goes on as its plan has it. Nothing more was refused, or now something was.
      pub nodes-stand : (later : Bool) → (later ≡ false → refused ≡ false) → SamePart p p' → PartHolds world meaning stands_after state p' → (later ≡ false → NoneRefused p')
          → ((q : ChannelPlan) → slice_get plan.channels c ≡ Some q → PartKeepsPlan state q p → PartKeepsPlan state q p') → NodesStand world plan meaning stands_after state me later (changed ps c p p' was)
      nodes-stand later still same holds called kept = record {
        parts = parts;
        keeps = record { count = count-stays ∙ stand.keeps.count; each = each };
        number = stand.number;
      }
        where
          here : ShareStands world meaning stands_after state me later c p'
          here = record {
            holds = holds;
            channel = same.path.channel ∙ own-stands.channel;
            within = let hops = same-hops p p' same in let at = same.path.tail_hop in let w = own-stands.within in omega (arith, hops, at, w);
            resident = still-resident p p' same me own-stands.resident;
            called = called;
          }

          weaker : (k : ℕ) (q : ChannelPartView S T) → ShareStands world meaning stands_after state me refused k q → ShareStands world meaning stands_after state me later k q
          weaker k q s = record { holds = s.holds; channel = s.channel; within = s.within; resident = s.resident; called = λ e. s.called (still e) }

          parts : (k : ℕ) (q : ChannelPartView S T) → slice_get (changed ps c p p' was) k ≡ Some q → ShareStands world meaning stands_after state me later k q
          parts k q at = elim (eqb_tells k c) [
            | inl is ↦
                let own = at_set_same ps c p' q (subst (λ (i : ℕ). slice_get (changed ps c p p' was) i ≡ Some q) is.1 at) in
                subst (λ (z : ℕ × ChannelPartView S T). ShareStands world meaning stands_after state me later z.0 z.1) (λ i. (sym is.1 i, sym own i)) here
            | inr other ↦ weaker k q (stand.parts k q (at_set_other ps c k p' q other.1 at))
          ]

          each : (d : ℕ) (q : ChannelPlan) (part : ChannelPartView S T) → slice_get plan.channels d ≡ Some q → slice_get (changed ps c p p' was) d ≡ Some part → PartKeepsPlan state q part
          each d q part planned at = elim (eqb_tells d c) [
            | inl is ↦
                let own = at_set_same ps c p' part (subst (λ (i : ℕ). slice_get (changed ps c p p' was) i ≡ Some part) is.1 at) in
                let there = subst (λ (i : ℕ). slice_get plan.channels i ≡ Some q) is.1 planned in
                subst (PartKeepsPlan state q) (sym own) (kept q there (stand.keeps.each c q p there was))
            | inr other ↦ stand.keeps.each d q part planned (at_set_other ps c d p' part other.1 at)
          ]

-- ---- the head

-- where the lane that a node of the part enters is the head's, the head is there
pub head-there : {S T : Type 0} (p : ChannelPartView S T) (l : Lane) → has_entered p l ≡ true → (l.hop == head_hop p) ≡ true → is_some p.head ≡ true
head-there p l entered t =
    (and_parts (is_some p.head) (same_lane l (data_lane p.path.channel (head_hop p)))
    (sym (cond-true (l.hop == head_hop p) (is_some p.head && same_lane l (data_lane p.path.channel (head_hop p))) (enters_path p.path l) t) ∙ entered)).0

-- ---- a refusal at a part

-- the nodes stay where they are, and the head is as it was
pub refused-keeps : {S T : Type 0} (state : T → TransportState) (q : ChannelPlan) (p p' : ChannelPartView S T) → SamePart p p' → p'.head ≡ p.head → PartKeepsPlan state q p → PartKeepsPlan state q p'
refused-keeps state q p p' same head k = record {
  executors = same.path.executors ∙ k.executors;
  tail_at = same.path.tail_hop ∙ k.tail_at;
  head_at = same-hops p p' same ∙ k.head_at;
  head = λ h is. k.head h (sym head ∙ is);
  handed = same.path.handed ∙ k.handed;
  gone = same.gone ∙ k.gone;
}
