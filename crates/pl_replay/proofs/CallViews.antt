-- What a call of one channel's part is, as executors see the nodes of all channels.
use Rattle.std.proofs.Common.{◌≡◌, ℕ, Bool, true, false, List, length, slice_get, Some, refl, ap, sym, ◌∙◌, subst, ⊎_elim, arith}
use Rattle.std.specs.Global.{Vec}
use Rattle.std.specs.Prelude.{◌==◌, nat_lt}
use Rattle.std.specs.Vec.{with_item}
use Rattle.std.proofs.lemmas.Bool.{cases_Bool, both_ways, and_parts, and_from, eqb-true, eq-eqb, lt-ltb}
use Rattle.pl_event.specs.declared.events.Event.{Event}
use Rattle.pl_event.specs.declared.envelopes.Envelope.{Envelope}
use Rattle.pl_event.specs.declared.envelopes.Lane.{Lane}
use Rattle.pl_event.specs.Meaning.{Meaning}
use Rattle.pl_event.specs.Worlds.{World}
use Rattle.pl_context.specs.declared.standing.Took.{Took}
use Rattle.pl_context.specs.OutputsViews.{OutputsView}
use Rattle.pl_flow.specs.Flows.{nowhere, IsGood}
use Rattle.pl_flow.specs.Makes.{Makes}
use Rattle.pl_flow.proofs.MakeLemmas.{makes-among}
use Rattle.pl_head.specs.Transports.{TransportState}
use Rattle.pl_part.specs.Paths.{writer_hop}
use Rattle.pl_part.specs.Parts.{ChannelPartView, PartHolds, head_hop, part_writes, writes_at, part_came}
use Rattle.pl_part.specs.PartCalls.{NodePuts, Taken, Given}
use Rattle.pl_net.specs.NodesViews.{NodesView, NodesPut, NodesTake, NodesGive, NodesMake, HeadGives, written_by}
use Rattle.pl_channel.specs.Channels.{executor_at, home_of, target_of, origin_of, writes_here, writes_of, came_of, ChannelsStand}
use Rattle.pl_channel.proofs.OneChannel.{at-is, at-was, changed, done-more, few-done, home-stays, is-written, origin-stays, own-channel, part-stands, places-stay, routes-stay, still-stand, taken-none, taken-one, target-stays, unchanged}
use Rattle.pl_replay.specs.Moves.{nodes_view, nodes_stand}
use Rattle.pl_replay.specs.Views.{channels_view}

module _ {S T : Type 0} (ps : List (ChannelPartView S T)) (c : ℕ) (p p' : ChannelPartView S T) (was : slice_get ps c ≡ Some p) (meaning : S → Meaning) (stands_after : S → List Event → Type 0) (state : T → TransportState)
    (world : World) (stands : ChannelsStand world meaning stands_after state ps) where
  abbrev now : List (ChannelPartView S T)
  now = changed ps c p p' was

  abbrev before : NodesView
  before = channels_view meaning ps

  abbrev after : NodesView
  after = channels_view meaning now

  -- ---- what was put

  own : (l : Lane) → part_writes meaning p l ≡ true → l.channel ≡ c
  own = own-channel ps c p p' was meaning stands_after state world stands

  -- what the node at a hop writes is written on the executor of that
  own-written : (l : Lane) (hop : ℕ) → writes_at meaning p hop l ≡ true → written_by before (executor_at p hop) l ≡ true
  own-written l hop at =
      let w = and_parts (part_writes meaning p l) (writer_hop p.path l.hop == hop) at in
      let here = own l w.0 in
      let is = is-written ps c p p' was meaning stands_after state world stands l w.0 in
      and_from (writes_of meaning ps l) (origin_of ps l == executor_at p hop)
      (at-was ps c p p' was (λ (q : ChannelPartView S T). writes_here meaning q l) false l.channel here ∙ and_from (nat_lt l.hop (length p.path.executors)) (part_writes meaning p l) (lt-ltb l.hop (length p.path.executors) is.within) w.0)
      (eq-eqb (origin_of ps l) (executor_at p hop)
      (at-was ps c p p' was (λ (q : ChannelPartView S T). executor_at q (writer_hop q.path l.hop)) 0 l.channel here ∙ ap (λ (h : ℕ). executor_at p h) (eqb-true (writer_hop p.path l.hop) hop w.1)))

  -- a lane of another executor does not come further
  others-stay : (hop : ℕ) → ((l : Lane) → writes_at meaning p hop l ≡ false → part_came meaning p' l ≡ part_came meaning p l)
      → (l : Lane) → writes_at meaning p hop l ≡ false → came_of meaning now l ≡ came_of meaning ps l
  others-stay hop others l off = unchanged ps c p p' was (λ (q : ChannelPartView S T). part_came meaning q l) nowhere (others l off) l.channel

  puts : (hop : ℕ) (b a : OutputsView) → NodePuts meaning p hop b p' a → NodesPut before (executor_at p hop) b after a
  puts hop b a put = record {
    home = home-stays ps c p p' was put.same;
    origin = origin-stays ps c p p' was put.same;
    routes = routes-stay ps c p p' was put.same meaning put.writes (target_of ps) (target_of now) (target-stays ps c p p' was put.same);
    others = λ l off. others-stay hop put.others l (not-own l off);
    placed = places-stay ps c p p' was b a put.placed;
    few = few-done ps c p p' was meaning stands_after state world stands put.few;
  }
    where
      not-own : (l : Lane) → written_by before (executor_at p hop) l ≡ false → writes_at meaning p hop l ≡ false
      not-own l off = ⊎_elim
          (λ (t : writes_at meaning p hop l ≡ true). absurd (both_ways (written_by before (executor_at p hop) l) off (own-written l hop t)))
          (λ (f : writes_at meaning p hop l ≡ false). f)
          (cases_Bool (writes_at meaning p hop l))

  makes : (hop : ℕ) (b a : OutputsView) → ((l : Lane) → writes_at meaning p hop l ≡ false → part_came meaning p' l ≡ part_came meaning p l)
      → Makes world (writes_at meaning p hop) (part_came meaning p) (part_came meaning p') b a → NodesMake world before (executor_at p hop) b after a
  makes hop b a others made = makes-among world (writes_at meaning p hop) (written_by before (executor_at p hop)) (part_came meaning p) (part_came meaning p') (came_of meaning ps) (came_of meaning now) b a
      (λ l at.
      let here = own l (and_parts (part_writes meaning p l) (writer_hop p.path l.hop == hop) at).0 in
      (own-written l hop at, at-was ps c p p' was (λ (q : ChannelPartView S T). part_came meaning q l) nowhere l.channel here, at-is ps c p p' was (λ (q : ChannelPartView S T). part_came meaning q l) nowhere l.channel here))
      (λ l off. sym (others-stay hop others l off))
      made

  holds : PartHolds world meaning stands_after state p
  holds = (part-stands ps c p p' was meaning stands_after state world stands).holds

  -- ---- a node has taken an envelope

  module _ (is_spent : S → Bool) (e : Envelope) (b : OutputsView) (answer : Took) (a : OutputsView) (of : e.lane.channel ≡ c) (t : Taken meaning stands_after state is_spent p e b answer p' a) where
    -- on the executor that its lane enters
    at-target : executor_at p e.lane.hop ≡ target_of ps e.lane
    at-target = sym (at-was ps c p p' was (λ (q : ChannelPartView S T). executor_at q e.lane.hop) 0 e.lane.channel of)

    pub take-view : NodesTake before e b after a
    take-view = record {
      puts = subst (λ (x : ℕ). NodesPut before x b after a) at-target (puts e.lane.hop b a t.puts);
      taken = taken-one ps c p p' was e of t.taken;
      more = done-more ps c p p' was (length a.items) (length b.items) 1 t.more;
      longer = t.puts.longer;
    }

    pub take-stands : IsGood world e → ChannelsStand world meaning stands_after state now
    take-stands good = still-stand ps c p p' was meaning stands_after state world stands (t.holds world holds good) t.puts.same t.puts.few

    pub take-makes : IsGood world e → NodesMake world before (target_of ps e.lane) b after a
    take-makes good = subst (λ (x : ℕ). NodesMake world before x b after a) at-target (makes e.lane.hop b a t.puts.others (t.made world holds good))

  -- ---- the head has moved

  module _ (b a : OutputsView) (t : Given meaning stands_after state p (head_hop p) b p' a) where
    at-home : executor_at p (head_hop p) ≡ home_of ps c
    at-home = sym (at-was ps c p p' was (λ (q : ChannelPartView S T). executor_at q (head_hop q)) 0 c refl)

    give-view : NodesGive before (home_of ps c) b after a
    give-view = record {
      puts = subst (λ (x : ℕ). NodesPut before x b after a) at-home (puts (head_hop p) b a t.puts);
      taken = taken-none ps c p p' was t.taken;
      more = let n = t.more in let m = done-more ps c p p' was (length a.items) (length b.items) 0 (omega (arith, n)) in omega (arith, m);
    }

    give-stands : ChannelsStand world meaning stands_after state now
    give-stands = still-stand ps c p p' was meaning stands_after state world stands (t.holds world holds) t.puts.same t.puts.few

    give-makes : NodesMake world before (home_of ps c) b after a
    give-makes = subst (λ (x : ℕ). NodesMake world before x b after a) at-home (makes (head_hop p) b a t.puts.others (t.made world holds))

-- all that a call of the head of a channel gives
pub head-gives : {S T : Type 0} (parts : Vec (ChannelPartView S T)) (c : ℕ) (p p' : ChannelPartView S T) (was : slice_get parts.items c ≡ Some p) (meaning : S → Meaning) (stands_after : S → List Event → Type 0) (state : T → TransportState)
    (stands : (world : World) × ChannelsStand world meaning stands_after state parts.items) (b a : OutputsView) → Given meaning stands_after state p (head_hop p) b p' a
    → HeadGives (nodes_view {S = S} {T = T} meaning) (nodes_stand meaning stands_after state) (record { parts = parts }) c b (record { parts = with_item parts c p' }) a
head-gives parts c p p' was meaning stands_after state stands b a given = record {
  view = give-view parts.items c p p' was meaning stands_after state stands.0 stands.1 b a given;
  stands = λ world held. give-stands parts.items c p p' was meaning stands_after state world held b a given;
  makes = λ world held. give-makes parts.items c p p' was meaning stands_after state world held b a given;
}
