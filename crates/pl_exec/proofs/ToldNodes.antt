-- The nodes of an executor, where the head of one channel has told some of its settled writes.
use Rattle.std.proofs.Common.{◌≡◌, ℕ, Bool, true, List, Option, Some, None, length, set, slice_get, refl, ap, sym, ◌∙◌, subst}
use Rattle.std.specs.Option.{option_map}
use Rattle.std.proofs.lemmas.Option.{none-some, same_Some}
use Rattle.pl_event.specs.declared.events.Event.{Event}
use Rattle.pl_event.specs.declared.envelopes.Lane.{Lane}
use Rattle.pl_event.specs.Meaning.{Meaning}
use Rattle.pl_event.specs.Worlds.{World}
use Rattle.pl_context.specs.OutputsViews.{OutputsView}
use Rattle.pl_flow.specs.Flows.{nowhere}
use Rattle.pl_head.specs.HeadStand.{HeadView}
use Rattle.pl_head.specs.Transports.{TransportState}
use Rattle.pl_part.specs.Paths.{context_at}
use Rattle.pl_part.specs.Parts.{ChannelPartView, SamePart, part_taken, part_writes, part_came}
use Rattle.pl_part.specs.Told.{IsTold, told_head}
use Rattle.pl_part.proofs.ToldLemmas.{told-same, told-taken, told-writes, told-came, is-told-holds}
use Rattle.pl_channel.specs.Lanes.{world_of}
use Rattle.pl_channel.specs.PlanStand.{HeadKeepsPlan, PartKeepsPlan}
use Rattle.pl_channel.specs.Channels.{came_of}
use Rattle.pl_channel.proofs.OneChannel.{changed, unchanged, same-hops, taken-none}
use Rattle.pl_threads.specs.NodesViews.{OwnNodesView, NodesKeep, LanesMake}
use Rattle.pl_world.specs.Plans.{ChannelPlan, Plan}
use Rattle.pl_exec.specs.declared.nodes.ExecutorNodes.{ExecutorNodes}
use Rattle.pl_exec.specs.ExecutorNodes.{NodesStand, channel_parts, heads_of, lanes_here, own_view}
use Rattle.pl_exec.specs.Telling.{AreSeated, AreToldAt, ExecutorStands, IsToldAt, TellsAt, channel_seats}
use Rattle.pl_exec.proofs.HeadLists.{heads-stay}
use Rattle.pl_exec.proofs.ExecutorNodeLemmas.{nodes-stand, own-stands, routes-keep}

-- ---- a part

module _ {S T : Type 0} (p p' : ChannelPartView S T) (told : IsTold p p') where
  same : SamePart p p'
  same = subst (λ (x : ChannelPartView S T). SamePart p x) (sym told.is) (told-same told.so_many p)

  taken-as-before : (l : Lane) → part_taken p' l ≡ part_taken p l
  taken-as-before l = ap (λ (x : ChannelPartView S T). part_taken x l) told.is ∙ told-taken told.so_many p l

  writes-as-before : (meaning : S → Meaning) (l : Lane) → part_writes meaning p' l ≡ part_writes meaning p l
  writes-as-before meaning l = ap (λ (x : ChannelPartView S T). part_writes meaning x l) told.is ∙ told-writes told.so_many p meaning l

  came-as-before : (meaning : S → Meaning) (l : Lane) → part_came meaning p' l ≡ part_came meaning p l
  came-as-before meaning l = ap (λ (x : ChannelPartView S T). part_came meaning x l) told.is ∙ told-came told.so_many p meaning l

  module _ (state : T → TransportState) (q : ChannelPlan) (keeps : PartKeepsPlan state q p) where
    head-keeps : (o : Option (HeadView T)) → p.head ≡ o → (h : HeadView T) → option_map (told_head told.so_many) o ≡ Some h → HeadKeepsPlan state q h
    head-keeps None at h is = absurd (none-some h is)
    head-keeps (Some x) at h is =
        let k = keeps.head x at in
        subst (HeadKeepsPlan state q) (same_Some (told_head told.so_many x) h is)
        (record {
          reads = k.reads;
          low = k.low;
          high = k.high;
          window = k.window;
          fail_at = k.fail_at;
          calls = k.calls;
          counted = k.counted;
          called = k.called;
          failures = k.failures;
          aborted = k.aborted;
          closed = k.closed;
          unrefused = k.unrefused;
        })

    keeps-as-before : PartKeepsPlan state q p'
    keeps-as-before = record {
      executors = same.path.executors ∙ keeps.executors;
      tail_at = same.path.tail_hop ∙ keeps.tail_at;
      head_at = same-hops p p' same ∙ keeps.head_at;
      head = λ h is. head-keeps p.head refl h (sym (ap (λ (x : ChannelPartView S T). x.head) told.is) ∙ is);
      handed = same.path.handed ∙ keeps.handed;
      gone = same.gone ∙ keeps.gone;
    }

-- ---- all parts

module _ {S T : Type 0} (ps : List (ChannelPartView S T)) (c : ℕ) (ps' : List (ChannelPartView S T)) (t : IsToldAt ps c ps') where
  becomes : ps' ≡ changed ps c t.before t.after t.was
  becomes = t.becomes

  pub told-stands : (world : World) (plan : Plan) (meaning : S → Meaning) (stands_after : S → List Event → Type 0) (state : T → TransportState) (me : ℕ) (refused : Bool) → NodesStand world plan meaning stands_after state me refused ps
      → NodesStand world plan meaning stands_after state me refused ps'
  told-stands world plan meaning stands_after state me refused stand =
      let own = own-stands ps c t.before t.after t.was world plan meaning stands_after state me refused stand in
      subst (NodesStand world plan meaning stands_after state me refused) (sym becomes)
      (nodes-stand ps c t.before t.after t.was world plan meaning stands_after state me refused stand refused (λ s. s) (same t.before t.after t.told) (is-told-holds t.before t.after world meaning stands_after state t.told own.holds)
      (λ r hop x at. own.called r hop x (sym (ap (λ (y : ChannelPartView S T). context_at y.path hop) t.told.is) ∙ at))
      (λ q planned k. keeps-as-before t.before t.after t.told state q k))

  pub told-lanes : (meaning : S → Meaning) → lanes_here meaning ps' ≡ lanes_here meaning ps
  told-lanes meaning =
      let kept = routes-keep ps c t.before t.after t.was meaning (same t.before t.after t.told) (writes-as-before t.before t.after t.told meaning) in
      ap (λ (x : List (ChannelPartView S T)). lanes_here meaning x) becomes
      ∙ kept ∙ (λ i. record (lanes_here meaning ps) { taken = taken-none ps c t.before t.after t.was (taken-as-before t.before t.after t.told) i; came = λ l. come meaning l i })
    where
      come : (meaning : S → Meaning) (l : Lane) → came_of meaning (changed ps c t.before t.after t.was) l ≡ came_of meaning ps l
      come meaning l = unchanged ps c t.before t.after t.was (λ (q : ChannelPartView S T). part_came meaning q l) nowhere (came-as-before t.before t.after t.told meaning l) l.channel

-- ---- the positions of the parts that have their heads

-- they stay
pub heads-told : {S T : Type 0} (ps : List (ChannelPartView S T)) (k : ℕ) (p p' : ChannelPartView S T) → slice_get ps k ≡ Some p → IsTold p p' → heads_of (set ps k p') ≡ heads_of ps
heads-told ps k p p' was told = heads-stay ps k p p' was (same p p' told)

-- ---- the nodes of an executor

-- Of these nodes, whose parts by channel are these, the head of a channel has told.
module _ {S T : Type 0} (plan : Plan) (mid now : ExecutorNodes S T) (c : ℕ) (told : AreToldAt plan mid c now) (ps : List (ChannelPartView S T)) (are : channel_parts plan mid ≡ ps) where
  pub told-from : IsToldAt ps c (channel_parts plan now)
  told-from = subst (λ (l : List (ChannelPartView S T)). IsToldAt l c (channel_parts plan now)) are told.parts

  -- they stand where they did so but for what is told
  pub stands-told : (world : World) (meaning : S → Meaning) (stands_after : S → List Event → Type 0) (state : T → TransportState) → world ≡ world_of true plan
      → NodesStand world plan meaning stands_after state mid.number mid.was_refused ps → mid.heads.items ≡ heads_of mid.parts.items
      → AreSeated now.words.now plan (channel_seats plan now) → ((x : ℕ) → TellsAt (channel_seats plan now) (channel_parts plan now) x) → ExecutorStands world plan meaning stands_after state now
  stands-told world meaning stands_after state is_world nodes own seated tells = record {
    is_world = is_world;
    in_order = told.in_order;
    nodes = subst (λ (m : ExecutorNodes S T). NodesStand world plan meaning stands_after state m.number m.was_refused (channel_parts plan now)) (sym told.same)
        (told-stands ps c (channel_parts plan now) told-from world plan meaning stands_after state mid.number mid.was_refused nodes);
    own = ap (λ (m : ExecutorNodes S T). m.heads.items) told.same ∙ own ∙ sym told.own;
    seated = seated;
    told = tells;
  }

  -- and are seen so by their executor
  abbrev seen : (S → Meaning) → OwnNodesView
  seen meaning = record { executor = mid.number; lanes = lanes_here meaning ps; heads = length mid.heads.items; was_refused = mid.was_refused }

  pub view-told : (meaning : S → Meaning) → own_view plan meaning now ≡ seen meaning
  view-told meaning =
      let lanes = told-lanes ps c (channel_parts plan now) told-from meaning in
      λ i. record { executor = (told.same i).number; lanes = lanes i; heads = length (told.same i).heads.items; was_refused = (told.same i).was_refused }

  -- so a call that they made before is as it was
  module _ (meaning : S → Meaning) (before : ExecutorNodes S T) where
    pub keeps-told : NodesKeep (own_view plan meaning before) (seen meaning) → NodesKeep (own_view plan meaning before) (own_view plan meaning now)
    keeps-told = subst (λ (v : OwnNodesView). NodesKeep (own_view plan meaning before) v) (sym (view-told meaning))

    pub makes-told : (world : World) {b a : OutputsView} → LanesMake world (own_view plan meaning before).lanes b (seen meaning).lanes a → LanesMake world (own_view plan meaning before).lanes b (own_view plan meaning now).lanes a
    makes-told world {b} {a} = subst (λ (v : OwnNodesView). LanesMake world (own_view plan meaning before).lanes b v.lanes a) (sym (view-told meaning))
