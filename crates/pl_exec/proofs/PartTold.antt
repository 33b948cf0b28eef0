-- The nodes of an executor of which one part has changed, where the head of its channel has told its writes since.
use Rattle.std.proofs.Common.{◌≡◌, ◌<◌, ℕ, false, List, get_or, length, set, slice_get, Some, refl, ap, sym, ◌∙◌, subst}
use Rattle.std.specs.Vec.{with_item}
use Rattle.std.proofs.lemmas.List.{length-set}
use Rattle.pl_event.specs.declared.envelopes.Lane.{Lane}
use Rattle.pl_event.specs.declared.events.Event.{Event}
use Rattle.pl_event.specs.Meaning.{Meaning}
use Rattle.pl_event.specs.Worlds.{World}
use Rattle.pl_context.specs.OutputsViews.{OutputsView}
use Rattle.pl_flow.specs.LanesViews.{SameRoutes}
use Rattle.pl_flow.specs.Makes.{Makes}
use Rattle.pl_head.specs.Transports.{TransportState}
use Rattle.pl_part.specs.Parts.{ChannelPartView, SamePart, part_came, part_taken, part_writes, writes_at}
use Rattle.pl_threads.specs.NodesViews.{LanesMake, NodesKeep, OwnNodesView}
use Rattle.pl_channel.specs.Channels.{came_of, taken_of, writes_of}
use Rattle.pl_channel.proofs.OneChannel.{taken-none}
use Rattle.pl_world.specs.Plans.{Plan}
use Rattle.pl_exec.specs.declared.nodes.ExecutorNodes.{ExecutorNodes}
use Rattle.pl_exec.specs.ExecutorNodes.{AreInOrder, NodesStand, channel_parts, lanes_here, own_view}
use Rattle.pl_exec.specs.Telling.{AreSeated, AreToldAt, ExecutorStands, IsToldAt, KeepsOthers, SettlesAt, TellsAfter, TellsAt, channel_seats}
use Rattle.pl_exec.proofs.HeadLists.{heads-stay}
use Rattle.pl_exec.proofs.ExecutorNodeLemmas.{made-here, routes-keep}
use Rattle.pl_exec.proofs.PartsHere.{parts-set}
use Rattle.pl_exec.proofs.SeatLemmas.{all-tell, head-tells, others-told}
use Rattle.pl_exec.proofs.ToldNodes.{keeps-told, makes-told, stands-told, told-from, view-told}

-- The part at a position of these nodes.
pub record PartAt {S T : Type 0} (plan : Plan) (n : ExecutorNodes S T) (k : ℕ) (p : ChannelPartView S T) : Type 0 where
  pub order : AreInOrder (length plan.channels) n
  pub within : k < length n.here.items
  pub at : slice_get n.parts.items k ≡ Some p
  pub there : slice_get (channel_parts plan n) (get_or n.here.items k 0) ≡ Some p

-- It became another.
module _ {S T : Type 0} {plan : Plan} {n : ExecutorNodes S T} {k : ℕ} {p p' : ChannelPartView S T} (x : PartAt plan n k p) (same : SamePart p p') where
  -- its channel, and the parts by channel before and then
  abbrev ch : ℕ
  ch = get_or n.here.items k 0

  abbrev ps : List (ChannelPartView S T)
  ps = channel_parts plan n

  abbrev between : List (ChannelPartView S T)
  between = set ps ch p'

  abbrev moved : ExecutorNodes S T
  moved = record n { parts = with_item n.parts k p' }

  pub becomes : channel_parts plan moved ≡ between
  becomes = parts-set plan n x.order k p' x.within

  pub in-order : AreInOrder (length plan.channels) moved
  in-order = record { row = x.order.row; parts = length-set n.parts.items k p' ∙ x.order.parts; seats = x.order.seats; positions = x.order.positions }

  pub stand-then : (world : World) (meaning : S → Meaning) (stands_after : S → List Event → Type 0) (state : T → TransportState) → NodesStand world plan meaning stands_after state n.number n.was_refused between
      → NodesStand world plan meaning stands_after state n.number n.was_refused (channel_parts plan moved)
  stand-then world meaning stands_after state nodes = subst (NodesStand world plan meaning stands_after state n.number n.was_refused) (sym becomes) nodes

  -- with the same head its seats tell what they told
  pub tells-then : p'.head ≡ p.head → TellsAt (channel_seats plan n) ps ch → TellsAt (channel_seats plan n) (channel_parts plan moved) ch
  tells-then head tells = subst (λ (l : List (ChannelPartView S T)). TellsAt (channel_seats plan n) l ch) (sym becomes) (head-tells (channel_seats plan n) ps ch p p' x.there head tells)

  pub routes-then : (meaning : S → Meaning) → ((l : Lane) → part_writes meaning p' l ≡ part_writes meaning p l) → SameRoutes (lanes_here meaning ps) (lanes_here meaning (channel_parts plan moved))
  routes-then meaning writes = subst (λ (l : List (ChannelPartView S T)). SameRoutes (lanes_here meaning ps) (lanes_here meaning l)) (sym becomes) (routes-keep ps ch p p' x.there meaning same writes)

  pub taken-then : ((l : Lane) → part_taken p' l ≡ part_taken p l) → taken_of (channel_parts plan moved) ≡ taken_of ps
  taken-then stays = ap (λ (l : List (ChannelPartView S T)). taken_of l) becomes ∙ taken-none ps ch p p' x.there stays

  pub makes-then : (world : World) (meaning : S → Meaning) (stands_after : S → List Event → Type 0) (state : T → TransportState) → NodesStand world plan meaning stands_after state n.number n.was_refused ps
      → (hop : ℕ) (b a : OutputsView) → ((l : Lane) → writes_at meaning p hop l ≡ false → part_came meaning p' l ≡ part_came meaning p l) → Makes world (writes_at meaning p hop) (part_came meaning p) (part_came meaning p') b a
      → Makes world (writes_of meaning ps) (came_of meaning ps) (came_of meaning (channel_parts plan moved)) b a
  makes-then world meaning stands_after state nodes hop b a others made =
      subst (λ (l : List (ChannelPartView S T)). Makes world (writes_of meaning ps) (came_of meaning ps) (came_of meaning l) b a) (sym becomes)
      (made-here ps ch p p' x.there world plan meaning stands_after state n.number n.was_refused nodes hop b a others made)

  -- and then the head of its channel has told
  module _ {now : ExecutorNodes S T} (told : AreToldAt plan moved ch now) where
    pub told-parts : IsToldAt between ch (channel_parts plan now)
    told-parts = told-from plan moved now ch told between becomes

    pub then-stands : (world : World) (meaning : S → Meaning) (stands_after : S → List Event → Type 0) (state : T → TransportState) → ExecutorStands world plan meaning stands_after state n
        → NodesStand world plan meaning stands_after state n.number n.was_refused between → AreSeated now.words.now plan (channel_seats plan now) → KeepsOthers (channel_seats plan n) ch (channel_seats plan now)
        → TellsAt (channel_seats plan now) (channel_parts plan now) ch → ExecutorStands world plan meaning stands_after state now
    then-stands world meaning stands_after state before nodes seated others tells =
        stands-told plan moved now ch told between becomes world meaning stands_after state before.is_world nodes (before.own ∙ sym (heads-stay n.parts.items k p p' x.at same)) seated
        (all-tell (channel_seats plan n) (channel_seats plan now) ps (channel_parts plan now) ch before.told others (others-told ps ch p' (channel_parts plan now) told-parts) tells)

    pub then-keeps : (meaning : S → Meaning) → ((l : Lane) → part_writes meaning p' l ≡ part_writes meaning p l) → NodesKeep (own_view plan meaning n) (own_view plan meaning now)
    then-keeps meaning writes = keeps-told plan moved now ch told between becomes meaning n (record { executor = refl; routes = routes-keep ps ch p p' x.there meaning same writes; heads = refl })

    pub then-taken : (meaning : S → Meaning) → (own_view plan meaning now).lanes.taken ≡ (lanes_here meaning between).taken
    then-taken meaning = ap (λ (v : OwnNodesView). v.lanes.taken) (view-told plan moved now ch told between becomes meaning)

    pub then-makes : (world : World) (meaning : S → Meaning) (stands_after : S → List Event → Type 0) (state : T → TransportState) → NodesStand world plan meaning stands_after state n.number n.was_refused ps
        → (hop : ℕ) (b a : OutputsView) → ((l : Lane) → writes_at meaning p hop l ≡ false → part_came meaning p' l ≡ part_came meaning p l) → Makes world (writes_at meaning p hop) (part_came meaning p) (part_came meaning p') b a
        → LanesMake world (own_view plan meaning n).lanes b (own_view plan meaning now).lanes a
    then-makes world meaning stands_after state nodes hop b a others made =
        makes-told plan moved now ch told between becomes meaning n world (made-here ps ch p p' x.there world plan meaning stands_after state n.number n.was_refused nodes hop b a others made)

    pub tells-after : (does : List (ChannelPartView S T) → Type 0) (c : ℕ) → c ≡ ch → does between → SettlesAt (channel_seats plan n) (channel_parts plan moved) ch (channel_seats plan now)
        → KeepsOthers (channel_seats plan n) ch (channel_seats plan now) → TellsAfter plan does c n now
    tells-after does c is done settled others = record {
      between = between;
      done = done;
      told = subst (λ (m : ℕ). IsToldAt between m (channel_parts plan now)) (sym is) told-parts;
      settled = subst (λ (z : ℕ × List (ChannelPartView S T)). SettlesAt (channel_seats plan n) z.1 z.0 (channel_seats plan now)) (λ i. (sym is i, becomes i)) settled;
      others = subst (λ (m : ℕ). KeepsOthers (channel_seats plan n) m (channel_seats plan now)) (sym is) others;
    }
