-- A live channel whose nodes have handed over or forgotten something: executors see it as it was, and it stands at its plan.
use Rattle.std.proofs.Common.{◌≡◌, ℕ, zero, suc, ◌+◌, ◌<◌, ◌≤◌, ◌^◌, Bool, false, ◌&&◌, ◌||◌, cond, List, [], ◌∷◌, length, get_or, Option, Some, None, refl, sym, ap, subst, ◌∙◌, arith}
use Rattle.std.specs.Prelude.{◌==◌, is_some, nat_lt, slice_get, slice_set, if◌then◌else◌}
use Rattle.std.specs.List.{sum_by}
use Rattle.std.specs.Vec.{with_item}
use Rattle.std.specs.Option.{option_map, option_map_or}
use Rattle.std.proofs.lemmas.Option.{none-some, same_Some}
use Rattle.pl_event.specs.declared.envelopes.Lane.{Lane}
use Rattle.pl_event.specs.declared.events.Event.{Event}
use Rattle.pl_event.specs.Hops.{data_lane, flags_lane, same_lane}
use Rattle.pl_event.specs.Inputs.{recorded_input}
use Rattle.pl_event.specs.Meaning.{Meaning}
use Rattle.pl_event.specs.Worlds.{World}
use Rattle.pl_stages.specs.Counts.{weight}
use Rattle.pl_context.specs.declared.ports.Port.{Port}
use Rattle.pl_context.specs.ContextViews.{ContextView, taken_of}
use Rattle.pl_context.specs.OutputsViews.{OutputsView}
use Rattle.pl_context.specs.TailViews.{TailView, handed_over, taken_of as tail_taken_of}
use Rattle.pl_flow.specs.Flows.{Point, nowhere}
use Rattle.pl_head.specs.Buffers.{OutboundBufferView}
use Rattle.pl_head.specs.HeadCalls.{HeadForgets}
use Rattle.pl_head.specs.HeadStand.{HeadView}
use Rattle.pl_head.specs.InputStand.{InputStands, fed_plan}
use Rattle.pl_head.specs.Transports.{TransportState}
use Rattle.pl_net.specs.Nets.{StationView}
use Rattle.pl_net.specs.Stations.{stations_view}
use Rattle.pl_net.specs.declared.stations.Stations.{Stations}
use Rattle.pl_part.specs.ContextHolds.{port_point}
use Rattle.pl_part.specs.Counts.{head_done, part_done, path_done, slot_done, tail_done}
use Rattle.pl_part.specs.Forgetting.{PartForgets, part_handed, path_record}
use Rattle.pl_part.specs.HeadHolds.{head_taken}
use Rattle.pl_part.specs.Parts.{ChannelPartView, PartHolds, head_hop, part_came, part_gone, part_taken, part_writes}
use Rattle.pl_part.specs.Paths.{context_at, path_came, path_taken, path_writes, writer_hop}
use Rattle.pl_channel.specs.Channels.{ChannelsStand, PartStands, data_lanes_of, executor_at, writes_here}
use Rattle.pl_channel.specs.Lanes.{world_of}
use Rattle.pl_channel.proofs.OneChannel.{taken-none, unchanged}
use Rattle.pl_replay.specs.Moves.{nodes_view, nodes_stand}
use Rattle.pl_replay.specs.Views.{channels_view}
use Rattle.pl_replay.specs.declared.channels.Channels.{Channels}
use Rattle.pl_world.specs.Plans.{ChannelPlan}
use Rattle.pl_world.specs.Reports.{tail_of}
use Rattle.pl_live.specs.LiveStand.{LiveView, LiveStands, LiveRests, GoesByPlan, HandsOut, HasHanded, IsUnclosed, ReadsFed, accepted_in, alone, consumed_of, gone_in, head_in, parts_of, recorded_in}
use Rattle.pl_live.proofs.FedGoes.{goes-with}
use Rattle.pl_live.proofs.IdleNets.{idle-stands}
use Rattle.pl_live.proofs.LiveEnds.{part-stands}
use Rattle.pl_live.proofs.Moved.{accepted-at, gone-at, gone-in, handed-at}
use Rattle.pl_live.proofs.Pending.{record-handed}

-- ---- what executors see of it

module _ {S T : Type 0} (meaning : S → Meaning) (part : ChannelPartView S T) (tail : Option TailView) (head : Option (HeadView T)) where
  -- the part, with these ends
  abbrev pub with_ends : ChannelPartView S T
  with_ends = record { path = record part.path { tail = tail }; head = head }

  -- Seen as it was: its ends have taken and given as much.
  pub seen : ((l : Lane) → part_taken with_ends l ≡ part_taken part l) → ((l : Lane) → part_writes meaning with_ends l ≡ part_writes meaning part l) → ((l : Lane) → part_came meaning with_ends l ≡ part_came meaning part l) → part_done with_ends ≡ part_done part
      → channels_view meaning (with_ends ∷ []) ≡ channels_view meaning (part ∷ [])
  seen taken writes came done = λ i. record {
    channels = 1;
    home = λ k. unchanged (part ∷ []) 0 part with_ends refl (λ (q : ChannelPartView S T). executor_at q (head_hop q)) 0 refl k i;
    origin = λ l. unchanged (part ∷ []) 0 part with_ends refl (λ (q : ChannelPartView S T). executor_at q (writer_hop q.path l.hop)) 0 refl l.channel i;
    lanes = record {
      target = λ l. unchanged (part ∷ []) 0 part with_ends refl (λ (q : ChannelPartView S T). executor_at q l.hop) 0 refl l.channel i;
      written = λ l. unchanged (part ∷ []) 0 part with_ends refl (λ (q : ChannelPartView S T). writes_here meaning q l) false (ap (λ (b : Bool). nat_lt l.hop (length part.path.executors) && b) (writes l)) l.channel i;
      taken = taken-none (part ∷ []) 0 part with_ends refl taken i;
      came = λ l. unchanged (part ∷ []) 0 part with_ends refl (λ (q : ChannelPartView S T). part_came meaning q l) nowhere (came l) l.channel i;
      places = data_lanes_of (part ∷ []);
    };
    work_done = 0 + done i;
  }

-- ---- a tail that has handed its record over

module _ {S T : Type 0} (part : ChannelPartView S T) where
  -- what is said of a tail, or of none, whatever it holds
  of-tail : {A : Type 0} (f : TailView → A) (none : A) → ((t : TailView) → f (handed_over t) ≡ f t) → option_map_or f (option_map handed_over part.path.tail) none ≡ option_map_or f part.path.tail none
  of-tail f none same = by part.path.tail
    where
      by : (o : Option TailView) → option_map_or f (option_map handed_over o) none ≡ option_map_or f o none
      by None = refl
      by (Some t) = same t

  still-tail : is_some (option_map handed_over part.path.tail) ≡ is_some part.path.tail
  still-tail = by part.path.tail
    where
      by : (o : Option TailView) → is_some (option_map handed_over o) ≡ is_some o
      by None = refl
      by (Some t) = refl

  handed-done : part_done (part_handed part) ≡ part_done part
  handed-done = ap (λ (n : ℕ). (sum_by (λ (slot : Option (ContextView S)). slot_done slot) part.path.contexts + n) + option_map_or (λ (h : HeadView T). head_done h) part.head 0) (of-tail (λ t. tail_done t) 0 (λ t. refl))

  handed-taken : (l : Lane) → part_taken (part_handed part) l ≡ part_taken part l
  handed-taken l =
      ap (λ (n : ℕ). if l.hop == head_hop part then option_map_or (λ (h : HeadView T). head_taken h l) part.head 0 else (if l.hop == part.path.tail_hop then n else option_map_or (λ (c : ContextView S). taken_of c l) (context_at part.path l.hop) 0))
      (of-tail (λ t. tail_taken_of t l) 0 (λ t. refl))

  pub handed-view : (meaning : S → Meaning) → channels_view meaning (part_handed part ∷ []) ≡ channels_view meaning (part ∷ [])
  handed-view meaning = seen meaning part (option_map handed_over part.path.tail) part.head handed-taken (λ l. refl) (λ l. refl) handed-done

-- ---- a head that has forgotten what it took

module _ {S T : Type 0} (state : T → TransportState) (part : ChannelPartView S T) (h h' : HeadView T) (at : part.head ≡ Some h) (f : HeadForgets state h h') where
  abbrev pub forgot : ChannelPartView S T
  forgot = record part { head = Some h' }

  -- all that executors see of a head
  abbrev seen_head : HeadView T → ℕ × ℕ × ℕ × Port × Port
  seen_head x = (x.channel, x.hop, x.taken, x.input.port, x.buffer.flags)

  same-seen : seen_head h' ≡ seen_head h
  same-seen = λ i. (ap (λ (x : HeadView T). x.channel) f.same i, ap (λ (x : HeadView T). x.hop) f.same i, ap (λ (x : HeadView T). x.taken) f.same i, ap (λ (x : HeadView T). x.input.port) f.same i, ap (λ (b : OutboundBufferView). b.flags) f.writes i)

  -- what is said of its head, or of none, by that
  of-head : {A : Type 0} (g : ℕ × ℕ × ℕ × Port × Port → A) (none : A) → g (seen_head h') ≡ option_map_or (λ (x : HeadView T). g (seen_head x)) part.head none
  of-head g none = ap g same-seen ∙ sym (ap (λ (o : Option (HeadView T)). option_map_or (λ (x : HeadView T). g (seen_head x)) o none) at)

  forgot-done : part_done forgot ≡ part_done part
  forgot-done = ap (λ (n : ℕ). path_done part.path + n) (of-head (λ x. x.2 + x.3.made + x.4.made) 0)

  forgot-taken : (l : Lane) → part_taken forgot l ≡ part_taken part l
  forgot-taken l = ap (λ (n : ℕ). if l.hop == head_hop part then n else path_taken part.path l) (of-head (λ x. cond (same_lane l (data_lane x.0 x.1)) x.2 0) 0)

  forgot-view : (meaning : S → Meaning) → channels_view meaning (forgot ∷ []) ≡ channels_view meaning (part ∷ [])
  forgot-view meaning = seen meaning part part.path.tail (Some h') forgot-taken
      (λ l. ap (λ (b : Bool). if l.hop == 0 then b else path_writes meaning part.path l) (of-head (λ x. same_lane l (data_lane x.0 0) || same_lane l (flags_lane x.0 0)) false))
      (λ l. ap (λ (q : Point). if l.hop == 0 then q else path_came meaning part.path l)
      (of-head (λ x. cond (same_lane l (data_lane x.0 0)) (port_point x.3) (cond (same_lane l (flags_lane x.0 0)) (port_point x.4) nowhere)) nowhere))
      forgot-done

-- ---- a live channel

-- It stands at its plan, where its part is another that stands there too, and is seen as it was.
module _ {S T : Type 0} (meaning : S → Meaning) (stands_after : S → List Event → Type 0) (state : T → TransportState) (p : ChannelPlan) (live live' : LiveView S T) (s : LiveStands meaning stands_after state p live) (part' : ChannelPartView S T)
    (parts : parts_of live' ≡ part' ∷ []) (executors : live'.stations.stations.items ≡ live.stations.stations.items) (work : live'.stations.work ≡ live.stations.work) (room : live'.room ≡ live.room) (ends : live'.ends ≡ live.ends) where
  hold : PartStands (world_of false (alone p)) meaning stands_after state 0 part' → ChannelsStand (world_of false (alone p)) meaning stands_after state (part' ∷ [])
  hold stands = record { parts = at-one; few = omega arith }
    where
      at-one : (c : ℕ) (q : ChannelPartView S T) → slice_get (part' ∷ []) c ≡ Some q → PartStands (world_of false (alone p)) meaning stands_after state c q
      at-one zero q at = subst (λ (x : ChannelPartView S T). PartStands (world_of false (alone p)) meaning stands_after state 0 x) (same_Some part' q at) stands
      at-one (suc c) q at = absurd (none-some q at)

  pub stands-kept : PartStands (world_of false (alone p)) meaning stands_after state 0 part' → channels_view meaning (part' ∷ []) ≡ channels_view meaning (s.goes.part ∷ []) → GoesByPlan meaning stands_after state p live.ends part' → HasHanded meaning stands_after state p live'
      → LiveStands meaning stands_after state p live'
  stands-kept stands view by_plan handed = record {
    plan = s.plan;
    fed = ap (λ (n : ℕ). weight (recorded_input p.bursts) + n) room ∙ s.fed;
    goes = record { part = part'; is_alone = parts; by_plan = subst (λ (b : Bool). GoesByPlan meaning stands_after state p b part') (sym ends) by_plan };
    handed = handed;
    executors = ap (λ (es : List StationView). length es) executors ∙ s.executors;
    backlogs = s.backlogs;
    stands = idle-stands (world_of false (alone p)) (world_of false (alone p)) (nodes_view meaning) (nodes_stand meaning stands_after state) 0 (stations_view live.stations s.backlogs) (stations_view live'.stations s.backlogs) s.executors s.rests s.stands
        (subst (λ (ps : List (ChannelPartView S T)). ChannelsStand (world_of false (alone p)) meaning stands_after state ps) (sym parts) (hold stands))
        (ap (λ (ps : List (ChannelPartView S T)). channels_view meaning ps) parts ∙ view ∙ ap (λ (ps : List (ChannelPartView S T)). channels_view meaning ps) (sym s.goes.is_alone))
        executors refl work;
    rests = ap (λ (w : OutputsView). w.items) work ∙ s.rests;
  }

module _ {S T : Type 0} (meaning : S → Meaning) (stands_after : S → List Event → Type 0) (state : T → TransportState) (p : ChannelPlan) (live live' : LiveView S T) (s : LiveStands meaning stands_after state p live)
    (executors : live'.stations.stations.items ≡ live.stations.stations.items) (work : live'.stations.work ≡ live.stations.work) (room : live'.room ≡ live.room) (ends : live'.ends ≡ live.ends) where
  abbrev part : ChannelPartView S T
  part = s.goes.part

  abbrev world : World
  world = world_of false (alone p)

  held : PartStands world meaning stands_after state 0 part
  held = part-stands meaning stands_after state p live s

  -- its tail has handed its record over
  pub handed-stands : parts_of live' ≡ part_handed part ∷ [] → PartHolds world meaning stands_after state (part_handed part) → HasHanded meaning stands_after state p live' → LiveStands meaning stands_after state p live'
  handed-stands parts holds handed = stands-kept meaning stands_after state p live live' s (part_handed part) parts executors work room ends
      (record {
        holds = holds;
        channel = held.channel;
        whole = record { outbound = held.whole.outbound; filled = held.whole.filled; tail = still-tail part ∙ held.whole.tail; head = held.whole.head };
        few = subst (λ (n : ℕ). n < 2 ^ 50) (sym (handed-done part)) held.few;
      })
      (handed-view part meaning)
      (let g = s.goes.by_plan in
      goes-with meaning stands_after state p live.ends live.ends part (option_map handed_over part.path.tail) part.head (still-tail part ∙ g.has_tail) g.has_head (λ h at. (g.reads h at, g.window h at, g.unclosed h at)) g)
      handed

  -- what that holds is next to be handed out
  pub record-out : parts_of live' ≡ part_handed part ∷ [] → live.front ≡ [] → live'.delivered ≡ live.delivered → live'.front ≡ path_record part.path → live'.gone ≡ live.gone → live'.consumed ≡ live.consumed → HasHanded meaning stands_after state p live'
  record-out parts none delivered front gone consumed = record {
    events = subst (λ (x : ℕ × List Event × ℕ). HandsOut (tail_of p) x.0 x.1 x.2)
        (λ i. (
          sym delivered i,
          (ap (λ (ps : List (ChannelPartView S T)). recorded_in ps) s.goes.is_alone ∙ sym front) i,
          ((λ j. handed-at part (parts_of live) s.goes.is_alone j + length (recorded_in (s.goes.is_alone j))) ∙ sym (counts part.path.tail) ∙ sym (handed-at (part_handed part) (parts_of live') parts)) i,
        ))
        (record-handed meaning stands_after state p live s none);
    gone_is = gone ∙ s.handed.gone_is ∙ gone-in part (parts_of live) s.goes.is_alone ∙ sym (gone-in (part_handed part) (parts_of live') parts);
    consumed_within = subst (λ (x : ℕ × List ℕ). x.0 ≤ length x.1)
        (λ i. (sym consumed i, (ap (λ (ps : List (ChannelPartView S T)). accepted_in state ps) s.goes.is_alone ∙ sym (ap (λ (ps : List (ChannelPartView S T)). accepted_in state ps) parts)) i)) s.handed.consumed_within;
  }
    where
      counts : (o : Option TailView) → option_map_or (λ (t : TailView). t.handed) (option_map handed_over o) 0 ≡ option_map_or (λ (t : TailView). t.handed) o 0 + length (option_map_or (λ (t : TailView). t.events) o [])
      counts None = refl
      counts (Some t) = refl

  -- its head has forgotten what it took
  module _ (h h' : HeadView T) (at : part.head ≡ Some h) (f : HeadForgets state h h') where
    reads-on : ReadsFed p live.ends h → ReadsFed p live.ends h'
    reads-on r = record {
      reads = r.reads;
      failed = r.failed;
      stand = subst (InputStands (fed_plan p.bursts) r.reads r.failed) (sym (ap (λ (x : HeadView T). x.input) f.same)) r.stand;
      by_failure = λ failed. ap (λ (x : HeadView T). is_some x.failure) f.same ∙ r.by_failure failed;
      not_ended = r.not_ended;
    }

    own : (Holds : HeadView T → Type 0) → Holds h' → (x : HeadView T) → Some h' ≡ Some x → Holds x
    own Holds holds x there = subst Holds (same_Some h' x there) holds

    pub forgot-stands : parts_of live' ≡ forgot state part h h' at f ∷ [] → PartHolds world meaning stands_after state (forgot state part h h' at f) → HasHanded meaning stands_after state p live' → LiveStands meaning stands_after state p live'
    forgot-stands parts holds handed = stands-kept meaning stands_after state p live live' s (forgot state part h h' at f) parts executors work room ends
        (record {
          holds = holds;
          channel = held.channel;
          whole = record { outbound = held.whole.outbound; filled = held.whole.filled; tail = held.whole.tail; head = refl };
          few = subst (λ (n : ℕ). n < 2 ^ 50) (sym (forgot-done state part h h' at f)) held.few;
        })
        (forgot-view state part h h' at f meaning)
        (let g = s.goes.by_plan in
        goes-with meaning stands_after state p live.ends live.ends part part.path.tail (Some h') g.has_tail refl
        (own (λ x. ReadsFed p live.ends x × ((state x.transport).window ≡ p.window) × IsUnclosed x) (
          reads-on (g.reads h at),
          ap (λ (t : TransportState). t.window) f.transport ∙ g.window h at,
          λ none. ap (λ (x : HeadView T). x.is_closed) f.same ∙ g.unclosed h at (ap (λ (x : HeadView T). x.failure) (sym f.same) ∙ none),
        ))
        g)
        handed

    pub forgot-out : parts_of live' ≡ forgot state part h h' at f ∷ [] → live'.delivered ≡ live.delivered → live'.front ≡ live.front → live'.gone ≡ h'.gone → live'.consumed ≡ 0 → HasHanded meaning stands_after state p live'
    forgot-out parts delivered front gone consumed = record {
      events = subst (λ (x : ℕ × List Event × ℕ). HandsOut (tail_of p) x.0 x.1 x.2)
          (λ i. (sym delivered i, sym front i, (handed-at part (parts_of live) s.goes.is_alone ∙ sym (handed-at (forgot state part h h' at f) (parts_of live') parts)) i)) s.handed.events;
      gone_is = gone ∙ sym (gone-at (forgot state part h h' at f) (parts_of live') parts h' refl);
      consumed_within = omega (arith, consumed);
    }

-- ---- as who calls its part sees it

module _ {S T : Type 0} (meaning : S → Meaning) (stands_after : S → List Event → Type 0) (state : T → TransportState) (p : ChannelPlan) (live : LiveView S T) (s : LiveStands meaning stands_after state p live)
    (before : ChannelPartView S T) (was : before ≡ get_or (parts_of live) 0 before) (after : ChannelPartView S T) (holds : (world : World) → PartHolds world meaning stands_after state before → PartHolds world meaning stands_after state after) where
  -- its nodes with this part
  abbrev pub stations_with : Stations (Channels S T)
  stations_with = record live.stations { nodes = record { parts = with_item live.stations.nodes.parts 0 after } }

  own-part : before ≡ s.goes.part
  own-part = was ∙ ap (λ (ps : List (ChannelPartView S T)). get_or ps 0 before) s.goes.is_alone

  set-part : (part' : ChannelPartView S T) → after ≡ part' → slice_set (parts_of live) 0 after ≡ part' ∷ []
  set-part part' is = ap (λ (ps : List (ChannelPartView S T)). slice_set ps 0 after) s.goes.is_alone ∙ ap (λ (q : ChannelPartView S T). q ∷ []) is

  still-holds : (part' : ChannelPartView S T) → after ≡ part' → PartHolds (world_of false (alone p)) meaning stands_after state part'
  still-holds part' is = subst (λ (q : ChannelPartView S T). PartHolds (world_of false (alone p)) meaning stands_after state q) is
      (holds (world_of false (alone p)) (subst (λ (q : ChannelPartView S T). PartHolds (world_of false (alone p)) meaning stands_after state q) (sym own-part) (part-stands meaning stands_after state p live s).holds))

  -- how many bytes its part says are gone
  pub gone-read : (q : ChannelPartView S T) → q ≡ get_or (slice_set (parts_of live) 0 after) 0 q → (gone : ℕ) → gone ≡ (part_gone q).0 → gone ≡ gone_in (slice_set (parts_of live) 0 after)
  gone-read q there gone is =
      let one = set-part after refl in
      is ∙ ap (λ (x : ChannelPartView S T). (part_gone x).0) (there ∙ ap (λ (ps : List (ChannelPartView S T)). get_or ps 0 q) one) ∙ sym (gone-in after (slice_set (parts_of live) 0 after) one)

  -- what its tail holds is the record
  pub record-own : path_record before.path ≡ recorded_in (parts_of live)
  record-own = ap (λ (q : ChannelPartView S T). path_record q.path) own-part ∙ sym (ap (λ (ps : List (ChannelPartView S T)). recorded_in ps) s.goes.is_alone)

  -- Its head has forgotten some of what it took, and all that was accepted was consumed.
  module _ (f : PartForgets state before after) (gone : ℕ) (is : gone ≡ gone_in (slice_set (parts_of live) 0 after)) where
    at : s.goes.part.head ≡ Some f.before
    at = sym (ap (λ (q : ChannelPartView S T). q.head) own-part) ∙ f.has_head

    abbrev now : ChannelPartView S T
    now = forgot state s.goes.part f.before f.after at f.forgets

    same-forgot : after ≡ now
    same-forgot = f.is ∙ ap (λ (q : ChannelPartView S T). record q { head = Some f.after }) own-part

    gone-now : gone ≡ f.after.gone
    gone-now = is ∙ gone-at now (slice_set (parts_of live) 0 after) (set-part now same-forgot) f.after refl

    pub forgets-with : LiveStands meaning stands_after state p (record live { stations = stations_with; gone = gone; consumed = 0 })
    forgets-with =
        let live' = record live { stations = stations_with; gone = gone; consumed = 0 } in
        forgot-stands meaning stands_after state p live live' s refl refl refl refl f.before f.after at f.forgets (set-part now same-forgot) (still-holds now same-forgot)
        (forgot-out meaning stands_after state p live live' s refl refl refl refl f.before f.after at f.forgets (set-part now same-forgot) refl refl gone-now refl)

    -- As many bytes were consumed.
    pub consumed-still : live.consumed ≡ length (accepted_in state (parts_of live)) → gone + 0 ≡ consumed_of live
    consumed-still all =
        let old = s.handed.gone_is ∙ gone-at s.goes.part (parts_of live) s.goes.is_alone f.before at in
        let held = ap (λ (bs : List ℕ). length bs) (accepted-at s.goes.part (parts_of live) s.goes.is_alone state f.before at) in
        let more = f.forgets.gone in
        omega (arith, gone-now, old, held, more, all)

  -- Its tail has handed its record over, which is next to be handed out.
  module _ (hands : after ≡ part_handed before) (none : live.front ≡ []) (front : List Event) (front-is : front ≡ path_record before.path) where
    same-handed : after ≡ part_handed s.goes.part
    same-handed = hands ∙ ap (λ (q : ChannelPartView S T). part_handed q) own-part

    pub hands-with : LiveStands meaning stands_after state p (record live { stations = stations_with; front = front })
    hands-with =
        let now = part_handed s.goes.part in
        let live' = record live { stations = stations_with; front = front } in
        handed-stands meaning stands_after state p live live' s refl refl refl refl (set-part now same-handed) (still-holds now same-handed)
        (record-out meaning stands_after state p live live' s refl refl refl refl (set-part now same-handed) none refl (front-is ∙ ap (λ (q : ChannelPartView S T). path_record q.path) own-part) refl refl)

    -- its head is as it was
    same-head : head_in (slice_set (parts_of live) 0 after) ≡ head_in (parts_of live)
    same-head = ap (λ (ps : List (ChannelPartView S T)). head_in ps) (set-part (part_handed s.goes.part) same-handed) ∙ sym (ap (λ (ps : List (ChannelPartView S T)). head_in ps) s.goes.is_alone)

    pub hands-rests : LiveRests meaning stands_after state p live → LiveRests meaning stands_after state p (record live { stations = stations_with; front = front })
    hands-rests r = record {
      stands = hands-with;
      settled = λ h w at all. r.settled h w (sym same-head ∙ at) (all ∙ ap (λ (o : Option (HeadView T)). length (option_map_or (λ (x : HeadView T). (state x.transport).accepted) o [])) same-head);
    }
