-- The part of the tests: what it is made of, and that it stays ready.
use Rattle.std.proofs.Common.{◌≡◌, ℕ, zero, suc, ◌+◌, ◌<◌, ◌≤◌, ◌^◌, Bool, true, false, ◌&&◌, List, [], ◌∷◌, ◌++◌, length, map, replicate, get_or, slice_get, Option, Some, None, Result, Ok, Err, IfOk, refl, ap, sym, ◌∙◌, subst, ⊎_elim, arith}
use Rattle.std.specs.Prelude.{◌==◌, nat_lt, is_some, if◌then◌else◌}
use Rattle.std.specs.Option.{option_map_or}
use Rattle.std.proofs.lemmas.Bool.{cond-false, cases_Bool, both_ways, ne_eqb, ltb-true, ltb-false}
use Rattle.std.proofs.lemmas.List.{length-map}
use Rattle.std.proofs.lemmas.Option.{same_Some}
use Rattle.std.specs.declared.alloc.AllocError.{AllocError}
use Rattle.pl_event.specs.declared.envelopes.Envelope.{Envelope}
use Rattle.pl_event.specs.declared.envelopes.Kind.{Kind}
use Rattle.pl_event.specs.declared.envelopes.Kind.TheVariants.{Data, Flags}
use Rattle.pl_event.specs.declared.envelopes.Lane.{Lane}
use Rattle.pl_event.specs.declared.stages.Direction.{Direction}
use Rattle.pl_event.specs.declared.stages.Direction.TheVariants.{Inbound, Outbound, Turn}
use Rattle.pl_event.specs.Hops.{same_lane, same_kind, data_lane}
use Rattle.pl_event.specs.Inputs.{Bursts, recorded_input}
use Rattle.pl_event.specs.Meaning.{up_of, down_of}
use Rattle.pl_event.specs.Worlds.{World}
use Rattle.pl_context.specs.ContextViews.{ContextView, kind_taken, taken_of}
use Rattle.pl_context.specs.OutputsViews.{OutputsView}
use Rattle.pl_context.specs.Stops.{StopsView, HasPlaces, no_stops, has_stopped}
use Rattle.pl_context.specs.TailViews.{TailView, new_tail, kind_taken as tail_kind_taken, taken_of as tail_taken_of}
use Rattle.pl_context.proofs.Places.{places-start}
use Rattle.pl_flow.specs.Flows.{point, nowhere, on}
use Rattle.pl_flow.specs.Makes.{Makes}
use Rattle.pl_head.specs.declared.inputs.ReadPlan.{ReadPlan}
use Rattle.pl_head.specs.Transports.{MemoryTransportView, memory_state}
use Rattle.pl_head.specs.HeadStand.{HeadView}
use Rattle.pl_part.specs.ContextHolds.{context_writes, context_came}
use Rattle.pl_part.specs.HeadHolds.{HeadHolds, head_writes, head_came, head_taken}
use Rattle.pl_part.specs.NewParts.{IsPlannedAt, ArePlannedWith, AreNewSlots}
use Rattle.pl_part.specs.Paths.{writer_hop, path_taken, path_lanes, path_writes, path_came}
use Rattle.pl_part.specs.Parts.{ChannelPartView, PartHolds, SamePart, head_hop, has_entered, part_taken, part_writes, writes_at, part_came}
use Rattle.pl_context.specs.declared.standing.Took.{Took}
use Rattle.pl_part.specs.PartCalls.{IsNextFor, NodePuts, Taken, Given}
use Rattle.pl_part.proofs.NewHeads.{IsFresh, new-holds, new-came, new-taken}
use Rattle.pl_part_tests.specs.declared.relays.Relay.{Relay}
use Rattle.pl_part_tests.specs.Relays.{relaying}
use Rattle.pl_part_tests.specs.Playing.{Waits}
use Rattle.pl_part_tests.specs.SampleParts.{sample_meaning, anywhere, sample_bursts, sample_events, sample_world, IsSample, IsReady}
use Rattle.pl_part_tests.proofs.PlayLemmas.{slot-filled, plays-gone, plays-front, plays-given, front-number, front-good, front-places}

abbrev Part : Type 0
Part = ChannelPartView Relay MemoryTransportView

-- ---- its nodes

abbrev at_node : ℕ → Bool
at_node hop = if hop == 2 then true else get_or (true ∷ true ∷ false ∷ true ∷ []) hop false

-- by a lane's channel, hop and kind
abbrev at_lane : Bool → ℕ → Kind → Bool
at_lane here hop kind = if hop == 4 then (here && (hop == 4)) && same_kind kind Data else here && at_node hop

node-entered : (p : Part) → IsSample p → (l : Lane) → has_entered p l ≡ at_lane (l.channel == 7) l.hop l.kind
unfolding same_lane
node-entered p s l =
    let slot = slot-filled p.path l.hop ∙ ap (λ (bs : List Bool). get_or bs l.hop false) s.filled in
    let count : length p.path.contexts ≡ 4 = sym (length-map p.path.contexts (λ (slot : Option (ContextView Relay)). is_some slot)) ∙ ap (λ (bs : List Bool). length bs) s.filled in
    (λ i. if l.hop == count i then s.head i && same_lane l (data_lane (s.channel i) (count i)) else ((l.channel == s.channel i) && (if l.hop == s.tail_hop i then s.tail i else slot i)))

on-path : (hop : ℕ) (kind : Kind) → hop < 4 → at_lane true hop kind ≡ true
on-path zero kind h = refl
on-path (suc zero) kind h = refl
on-path (suc (suc zero)) kind h = refl
on-path (suc (suc (suc zero))) kind h = refl
on-path (suc (suc (suc (suc n)))) kind h = absurd (omega (arith, h))

behind : (hop : ℕ) (kind : Kind) → 5 ≤ hop → at_lane true hop kind ≡ false
behind hop kind h = cond-false (hop == 4) _ _ (ne_eqb hop 4 (λ e. omega (arith, h, e))) ∙ cond-false (hop == 2) true _ (ne_eqb hop 2 (λ e. omega (arith, h, e))) ∙ none hop h
  where
    none : (n : ℕ) → 5 ≤ n → get_or (true ∷ true ∷ false ∷ true ∷ []) n false ≡ false
    none zero h = absurd (omega (arith, h))
    none (suc zero) h = absurd (omega (arith, h))
    none (suc (suc zero)) h = absurd (omega (arith, h))
    none (suc (suc (suc zero))) h = absurd (omega (arith, h))
    none (suc (suc (suc (suc n)))) h = refl

away : (hop : ℕ) (kind : Kind) → at_lane false hop kind ≡ false
away hop kind = by (hop == 4)
  where
    by : (b : Bool) → (if b then false && same_kind kind Data else false) ≡ false
    by true = refl
    by false = refl

data-node : (hop : ℕ) → hop < 5 → at_lane true hop Data ≡ true
data-node zero h = refl
data-node (suc zero) h = refl
data-node (suc (suc zero)) h = refl
data-node (suc (suc (suc zero))) h = refl
data-node (suc (suc (suc (suc zero)))) h = refl
data-node (suc (suc (suc (suc (suc n))))) h = absurd (omega (arith, h))

flags-behind : (hop : ℕ) → 4 ≤ hop → at_lane true hop Flags ≡ false
flags-behind zero h = absurd (omega (arith, h))
flags-behind (suc zero) h = absurd (omega (arith, h))
flags-behind (suc (suc zero)) h = absurd (omega (arith, h))
flags-behind (suc (suc (suc zero))) h = absurd (omega (arith, h))
flags-behind (suc (suc (suc (suc zero)))) h = refl
flags-behind (suc (suc (suc (suc (suc n))))) h = behind (suc (suc (suc (suc (suc n))))) Flags (omega arith)

module _ (p : Part) (s : IsSample p) (l : Lane) where
  as-lane : (here : Bool) (kind : Kind) → (l.channel == 7) ≡ here → l.kind ≡ kind → has_entered p l ≡ at_lane here l.hop kind
  as-lane here kind c k = node-entered p s l ∙ (λ i. at_lane (c i) l.hop (k i))

  pub entered-data : l.kind ≡ Data → (l.channel == 7) ≡ true → nat_lt l.hop 5 ≡ has_entered p l
  entered-data k c = ⊎_elim
      (λ (t : nat_lt l.hop 5 ≡ true). t ∙ sym (as-lane true Data c k ∙ data-node l.hop (ltb-true l.hop 5 t)))
      (λ (f : nat_lt l.hop 5 ≡ false). f ∙ sym (as-lane true Data c k ∙ behind l.hop Data (ltb-false l.hop 5 f)))
      (cases_Bool (nat_lt l.hop 5))

  pub entered-flags : l.kind ≡ Flags → (l.channel == 7) ≡ true → nat_lt l.hop 4 ≡ has_entered p l
  entered-flags k c = ⊎_elim
      (λ (t : nat_lt l.hop 4 ≡ true). t ∙ sym (as-lane true Flags c k ∙ on-path l.hop Flags (ltb-true l.hop 4 t)))
      (λ (f : nat_lt l.hop 4 ≡ false). f ∙ sym (as-lane true Flags c k ∙ flags-behind l.hop (ltb-false l.hop 4 f)))
      (cases_Bool (nat_lt l.hop 4))

  pub entered-elsewhere : (l.channel == 7) ≡ false → (l.channel == 7) ≡ has_entered p l
  entered-elsewhere c = c ∙ sym (as-lane false l.kind c refl ∙ away l.hop l.kind)

same-sample : (p p' : Part) → SamePart p p' → IsSample p → IsSample p'
same-sample p p' same s = record {
  channel = same.path.channel ∙ s.channel;
  executors = same.path.executors ∙ s.executors;
  filled = same.path.contexts ∙ s.filled;
  tail = same.path.tail ∙ s.tail;
  tail_hop = same.path.tail_hop ∙ s.tail_hop;
  head = same.head ∙ s.head;
}

-- ---- it stays ready

module _ (p : Part) (b m : OutputsView) (x : Envelope) (items : b.items ≡ x ∷ m.items) (stops : m.stopped ≡ b.stopped) (ready : IsReady p b) where
  pub ready-gone : has_entered p x.lane ≡ false → IsReady p m
  ready-gone away = record {
    sample = ready.sample;
    plays = plays-gone sample_world sample_meaning anywhere memory_state p b m x items stops ready.plays away;
  }

  module _ (entered : has_entered p x.lane ≡ true) where
    pub front-next : IsNextFor sample_world sample_meaning anywhere memory_state p x m
    front-next = record {
      holds = ready.plays.holds;
      entered = entered;
      number = front-number sample_world sample_meaning anywhere memory_state p b m x items stops ready.plays entered;
      good = front-good sample_world sample_meaning anywhere memory_state p b m x items stops ready.plays entered;
      places = front-places sample_world sample_meaning anywhere memory_state p b m x items stops ready.plays entered;
    }

    pub ready-front : (is_spent : Relay → Bool) (answer : Took) (p' : Part) (a : OutputsView) → Taken sample_meaning anywhere memory_state is_spent p x m answer p' a → IsReady p' a
    ready-front is_spent answer p' a t = record {
      sample = same-sample p p' t.puts.same ready.sample;
      plays = plays-front sample_world sample_meaning anywhere memory_state p b m x items stops ready.plays entered p' x.lane.hop a t.puts.same t.taken t.puts.writes
          (t.holds sample_world ready.plays.holds front-next.good) (t.made sample_world ready.plays.holds front-next.good) t.puts.placed;
    }

-- a node at a hop has put something out, and nothing is taken
pub ready-given : (p p' : Part) (hop : ℕ) (b a : OutputsView) → IsReady p b → NodePuts sample_meaning p hop b p' a → ((l : Lane) → part_taken p' l ≡ part_taken p l)
    → PartHolds sample_world sample_meaning anywhere memory_state p' → Makes sample_world (writes_at sample_meaning p hop) (part_came sample_meaning p) (part_came sample_meaning p') b a → IsReady p' a
ready-given p p' hop b a ready puts counts holds made = record {
  sample = same-sample p p' puts.same ready.sample;
  plays = plays-given sample_world sample_meaning anywhere memory_state p p' hop b a ready.plays puts.same puts.writes holds made puts.placed counts;
}

-- the head has moved, or was aborted
pub ready-after : (p p' : Part) (hop : ℕ) (b a : OutputsView) → IsReady p b → Given sample_meaning anywhere memory_state p hop b p' a → IsReady p' a
ready-after p p' hop b a ready t = ready-given p p' hop b a ready t.puts t.taken (t.holds sample_world ready.plays.holds) (t.made sample_world ready.plays.holds)

-- ---- it is ready at first

planned-at : (hop : ℕ) (s : Relay) (d : Direction) → s.direction ≡ d → IsPlannedAt sample_world sample_meaning 7 2 1 hop (record s { direction = d }) → IsPlannedAt sample_world sample_meaning 7 2 1 hop s
planned-at hop s d e planned = subst (λ (k : Direction). IsPlannedAt sample_world sample_meaning 7 2 1 hop (record s { direction = k })) (sym e) planned

first-planned : (s : Relay) → s.direction ≡ Inbound → IsPlannedAt sample_world sample_meaning 7 2 1 0 s
unfolding same_lane
first-planned s e = planned-at 0 s Inbound e (record {
  at = (omega arith, omega arith);
  turned = λ t. absurd (both_ways false refl t);
  events = sample_events;
  plan = record { own = refl; up = λ t. refl; down = λ t. absurd (both_ways false refl t); few = omega arith; few_up = λ t. omega arith; few_down = λ t. absurd (both_ways false refl t) };
})

turn-planned : (s : Relay) → s.direction ≡ Turn → IsPlannedAt sample_world sample_meaning 7 2 1 1 s
unfolding same_lane
turn-planned s e = planned-at 1 s Turn e (record {
  at = (omega arith, omega arith);
  turned = λ t. refl;
  events = up_of (relaying Inbound) sample_events;
  plan = record { own = refl; up = λ t. refl; down = λ t. refl; few = omega arith; few_up = λ t. omega arith; few_down = λ t. omega arith };
})

last-planned : (s : Relay) → s.direction ≡ Outbound → IsPlannedAt sample_world sample_meaning 7 2 1 3 s
unfolding same_lane
last-planned s e = planned-at 3 s Outbound e (record {
  at = (omega arith, omega arith);
  turned = λ t. absurd (both_ways false refl t);
  events = down_of (relaying Turn) (up_of (relaying Inbound) sample_events);
  plan = record { own = refl; up = λ t. absurd (both_ways false refl t); down = λ t. refl; few = omega arith; few_up = λ t. absurd (both_ways false refl t); few_down = λ t. omega arith };
})

all-planned : (s0 s1 s2 : Relay) → s0.direction ≡ Inbound → s1.direction ≡ Turn → s2.direction ≡ Outbound → ArePlannedWith sample_world sample_meaning 7 1 (s0 ∷ s1 ∷ []) (s2 ∷ [])
unfolding same_lane
all-planned s0 s1 s2 e0 e1 e2 = record {
  planned_inbound = λ i s found. by i s found;
  planned_tail = (up_of (relaying Turn) (up_of (relaying Inbound) sample_events), refl, omega arith);
  planned_outbound = λ i s found. behind i s found;
}
  where
    none : {s : Relay} → None ≡ Some s → ⊥
    none e = cc

    by : (i : ℕ) (s : Relay) → slice_get (s0 ∷ s1 ∷ []) i ≡ Some s → IsPlannedAt sample_world sample_meaning 7 2 1 (0 + i) s
    by zero s found = first-planned s (sym (ap (λ (r : Relay). r.direction) (same_Some s0 s found)) ∙ e0)
    by (suc zero) s found = turn-planned s (sym (ap (λ (r : Relay). r.direction) (same_Some s1 s found)) ∙ e1)
    by (suc (suc i)) s found = absurd (none found)

    behind : (i : ℕ) (s : Relay) → slice_get (s2 ∷ []) i ≡ Some s → IsPlannedAt sample_world sample_meaning 7 2 1 (3 + i) s
    behind zero s found = last-planned s (sym (ap (λ (r : Relay). r.direction) (same_Some s2 s found)) ∙ e2)
    behind (suc i) s found = absurd (none found)

pub sample-planned : (inbound outbound : List Relay) (s0 s1 s2 : Relay) → inbound ≡ s0 ∷ s1 ∷ [] → outbound ≡ s2 ∷ [] → s0.direction ≡ Inbound → s1.direction ≡ Turn → s2.direction ≡ Outbound
    → ArePlannedWith sample_world sample_meaning 7 1 inbound outbound
sample-planned inbound outbound s0 s1 s2 i o e0 e1 e2 = subst (λ (y : List Relay × List Relay). ArePlannedWith sample_world sample_meaning 7 1 y.0 y.1) (λ j. (sym i j, sym o j)) (all-planned s0 s1 s2 e0 e1 e2)

-- ---- its head

head-holds : (plan : ReadPlan) (h : HeadView MemoryTransportView) → plan.bursts ≡ sample_bursts → IsFresh memory_state plan 7 4 h → HeadHolds memory_state sample_world h
unfolding same_lane
head-holds plan h bursts new = new-holds memory_state plan 7 4 h new sample_world
    (record {
      events = down_of (relaying Outbound) (down_of (relaying Turn) (up_of (relaying Inbound) sample_events));
      own = refl;
      few = omega arith;
      input = ap (λ bs. Some (recorded_input bs)) (sym bursts);
    })
    (subst (λ (bs : Bursts). length (recorded_input bs) + 1 < 2 ^ 31) (sym bursts) (omega arith))

-- ---- all of it

module _ (p : Part) (sample : IsSample p) (holds : PartHolds sample_world sample_meaning anywhere memory_state p) (new : AreNewSlots sample_world sample_meaning 7 2 1 anywhere p.path.contexts)
    (tail : p.path.tail ≡ Some (new_tail 7 2)) (h : HeadView MemoryTransportView) (head : p.head ≡ Some h)
    (head_starts : (l : Lane) → head_writes h l ≡ true → head_came h l ≡ point 0 false) (head_untaken : (l : Lane) → head_taken h l ≡ 0) where
  if-none : (b : Bool) (n : ℕ) → n ≡ 0 → (if b then n else 0) ≡ 0
  if-none true n e = e
  if-none false n e = refl

  none-taken : (l : Lane) (o : Option (ContextView Relay)) → ((c : ContextView Relay) → o ≡ Some c → (k : Kind) → kind_taken c k ≡ 0) → option_map_or (λ (c : ContextView Relay). taken_of c l) o 0 ≡ 0
  none-taken l None none = refl
  none-taken l (Some c) none = if-none ((l.channel == c.channel) && (l.hop == c.hop)) (kind_taken c l.kind) (none c refl l.kind)

  tail-none : (k : Kind) → tail_kind_taken (new_tail 7 2) k ≡ 0
  tail-none Data = refl
  tail-none Flags = refl

  both : (b : Bool) {m n : ℕ} → m ≡ 0 → n ≡ 0 → (if b then m else n) ≡ 0
  both true e f = e
  both false e f = f

  path-untaken : (l : Lane) → path_taken p.path l ≡ 0
  path-untaken l = both (l.hop == p.path.tail_hop)
      (ap (λ (o : Option TailView). option_map_or (λ (t : TailView). tail_taken_of t l) o 0) tail ∙ if-none ((l.channel == 7) && (l.hop == 2)) (tail_kind_taken (new_tail 7 2) l.kind) (tail-none l.kind))
      (none-taken l (get_or p.path.contexts l.hop None) (λ c found k. (new l.hop c found).none_taken k))

  nothing-taken : (l : Lane) → part_taken p l ≡ 0
  nothing-taken l = both (l.hop == head_hop p) (ap (λ (o : Option (HeadView MemoryTransportView)). option_map_or (λ (h : HeadView MemoryTransportView). head_taken h l) o 0) head ∙ head_untaken l) (path-untaken l)

  path-starts : (l : Lane) (o : Option (ContextView Relay))
      → ((c : ContextView Relay) → o ≡ Some c → context_writes (sample_meaning c.stage).direction c l ≡ true → context_came (sample_meaning c.stage).direction c l ≡ point 0 false)
      → option_map_or (λ (c : ContextView Relay). context_writes (sample_meaning c.stage).direction c l) o false ≡ true
      → option_map_or (λ (c : ContextView Relay). context_came (sample_meaning c.stage).direction c l) o nowhere ≡ point 0 false
  path-starts l None starts e = absurd (both_ways false refl e)
  path-starts l (Some c) starts e = starts c refl e

  starts-at : (l : Lane) → part_writes sample_meaning p l ≡ true → part_came sample_meaning p l ≡ point 0 false
  starts-at l writes = by (l.hop == 0) writes
    where
      at-head : option_map_or (λ (h : HeadView MemoryTransportView). head_writes h l) p.head false ≡ true → option_map_or (λ (h : HeadView MemoryTransportView). head_came h l) p.head nowhere ≡ point 0 false
      at-head w =
          ap (λ (o : Option (HeadView MemoryTransportView)). option_map_or (λ (h : HeadView MemoryTransportView). head_came h l) o nowhere) head
          ∙ head_starts l (sym (ap (λ (o : Option (HeadView MemoryTransportView)). option_map_or (λ (h : HeadView MemoryTransportView). head_writes h l) o false) head) ∙ w)

      by : (b : Bool) → (if b then option_map_or (λ (h : HeadView MemoryTransportView). head_writes h l) p.head false else path_writes sample_meaning p.path l) ≡ true
          → (if b then option_map_or (λ (h : HeadView MemoryTransportView). head_came h l) p.head nowhere else path_came sample_meaning p.path l) ≡ point 0 false
      by true w = at-head w
      by false w = path-starts l (get_or p.path.contexts (writer_hop p.path l.hop) None) (λ c found. (new (writer_hop p.path l.hop) c found).starts l) w

  abbrev places-of : List ℕ → List Lane
  places-of executors = path_lanes {S = Relay} (record p.path { executors = executors })

  pub ready-at-first : (w : OutputsView) → w.items ≡ [] → w.stopped ≡ no_stops 5 → IsReady p w
  ready-at-first w empty stops = record {
    sample = sample;
    plays = record {
      holds = holds;
      lanes = λ l entered. subst (λ (y : ℕ × List Envelope). Waits sample_world (part_writes sample_meaning p l) (has_stopped w.stopped l) y.0 (on l y.1) (part_came sample_meaning p l)) (λ i. (sym (nothing-taken l) i, sym empty i)) (record {
        over = false;
        flow = tt;
        idle = λ not. refl;
        up_to = λ own goes. sym (starts-at l own);
      });
      places = subst (λ (y : StopsView × List Lane). HasPlaces y.0 y.1) (λ i. (sym stops i, places-of (sym sample.executors i)))
          (places-start 5 (places-of (2 ∷ 0 ∷ 2 ∷ 1 ∷ 2 ∷ [])) (omega arith));
    };
  }

-- a part that was made so is one of these, and ready
module _ (r : Result Part AllocError) (inbound outbound : List Relay) (two : length inbound ≡ 2) (tail : IfOk r (λ p. p.path.tail ≡ Some (new_tail 7 (length inbound))))
    (h : HeadView MemoryTransportView) (head : IfOk r (λ p. p.head ≡ Some h)) where
  pub made-sample : (executors : List ℕ) → length outbound ≡ 1 → executors ≡ 2 ∷ 0 ∷ 2 ∷ 1 ∷ 2 ∷ []
      → IfOk r (λ p. (p.path.channel ≡ 7) × (p.path.executors ≡ executors) × (p.path.tail_hop ≡ length inbound) × (p.path.turn ≡ 1))
      → IfOk r (λ p. map (λ (slot : Option (ContextView Relay)). is_some slot) p.path.contexts ≡ replicate (length inbound) true ++ false ∷ replicate (length outbound) true)
      → IfOk r (λ p. IsSample p)
  made-sample executors one are place filled = by r place filled tail head
    where
      by : (r : Result Part AllocError) → IfOk r (λ p. (p.path.channel ≡ 7) × (p.path.executors ≡ executors) × (p.path.tail_hop ≡ length inbound) × (p.path.turn ≡ 1))
          → IfOk r (λ p. map (λ (slot : Option (ContextView Relay)). is_some slot) p.path.contexts ≡ replicate (length inbound) true ++ false ∷ replicate (length outbound) true)
          → IfOk r (λ p. p.path.tail ≡ Some (new_tail 7 (length inbound))) → IfOk r (λ p. p.head ≡ Some h) → IfOk r (λ p. IsSample p)
      by (Ok p) place filled tail head = record {
        channel = place.0;
        executors = place.1 ∙ are;
        filled = filled ∙ (λ i. replicate (two i) true ++ false ∷ replicate (one i) true);
        tail = ap (λ (o : Option TailView). is_some o) tail;
        tail_hop = place.2 ∙ two;
        head = ap (λ (o : Option (HeadView MemoryTransportView)). is_some o) head;
      }
      by (Err e) place filled tail head = tt

  pub made-ready : (plan : ReadPlan) → plan.bursts ≡ sample_bursts → IsFresh memory_state plan 7 4 h → ArePlannedWith sample_world sample_meaning 7 1 inbound outbound → IfOk r (λ p. IsSample p)
      → IfOk r (λ p. (world : World) → ArePlannedWith world sample_meaning 7 1 inbound outbound → AreNewSlots world sample_meaning 7 (length inbound) 1 anywhere p.path.contexts)
      → IfOk r (λ p. (world : World) → ArePlannedWith world sample_meaning 7 1 inbound outbound → HeadHolds memory_state world h → PartHolds world sample_meaning anywhere memory_state p)
      → IfOk r (λ p. (w : OutputsView) → w.items ≡ [] → w.stopped ≡ no_stops 5 → IsReady p w)
  made-ready plan bursts fresh planned sample new holds = by r sample tail head new holds
    where
      by : (r : Result Part AllocError) → IfOk r (λ p. IsSample p) → IfOk r (λ p. p.path.tail ≡ Some (new_tail 7 (length inbound))) → IfOk r (λ p. p.head ≡ Some h)
          → IfOk r (λ p. (world : World) → ArePlannedWith world sample_meaning 7 1 inbound outbound → AreNewSlots world sample_meaning 7 (length inbound) 1 anywhere p.path.contexts)
          → IfOk r (λ p. (world : World) → ArePlannedWith world sample_meaning 7 1 inbound outbound → HeadHolds memory_state world h → PartHolds world sample_meaning anywhere memory_state p)
          → IfOk r (λ p. (w : OutputsView) → w.items ≡ [] → w.stopped ≡ no_stops 5 → IsReady p w)
      by (Ok p) sample tail head new holds =
          ready-at-first p sample (holds sample_world planned (head-holds plan h bursts fresh)) (subst (λ (n : ℕ). AreNewSlots sample_world sample_meaning 7 n 1 anywhere p.path.contexts) two (new sample_world planned))
          (tail ∙ ap (λ (n : ℕ). Some (new_tail 7 n)) two) h head (new-came memory_state plan 7 4 h fresh) (new-taken memory_state plan 7 4 h fresh)
      by (Err e) sample tail head new holds = tt
