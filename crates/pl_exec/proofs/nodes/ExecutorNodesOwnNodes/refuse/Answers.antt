use Rattle.std.proofs.Common.{◌≡◌, ℕ, List, get_or, set, slice_get, Some, true, refl, sym, ap, subst, ◌∙◌, arith}
use Rattle.pl_event.proofs.Lists.{at_set_other, at_set_same}
use Rattle.pl_event.specs.Worlds.{World}
use Rattle.pl_part.specs.Parts.{ChannelPartView}
use Rattle.pl_part.specs.Paths.{context_at, writer_hop}
use Rattle.pl_part.specs.PartCalls.{PartRefused}
use Rattle.pl_threads.specs.Serving.{ServesNone}
use Rattle.pl_channel.proofs.OneChannel.{places-of, places-stay}
use Rattle.pl_exec.specs.ExecutorNodes.{NodesStand, channel_parts, served_of}
use Rattle.pl_exec.specs.Telling.{TellsAt, channel_seats}
use Rattle.pl_exec.proofs.HeadLists.{heads-stay}
use Rattle.pl_exec.proofs.MovedNodes.{refuse-stands}
use Rattle.pl_exec.proofs.PartsHere.{written-part, written-position, written-slot}
use Rattle.pl_exec.proofs.PartTold.{PartAt, becomes, in-order, makes-then, routes-then, taken-then}
use Rattle.pl_exec.proofs.SeatLemmas.{all-tell, head-tells}
use Rattle.pl_exec.proofs.ServedNodes.{heads-equal, serves-none}
use Rattle.pl_exec.proofs.nodes.ExecutorNodesOwnNodes.refuse.Goals as goal
use Rattle.pl_exec.proofs.nodes.ExecutorNodesOwnNodes.refuse.Goals.{After-index_mut, After-refuse}

pub index-requires : goal.index-requires
index-requires g c =
    let slot = written-slot g.W.Planned.plan c.args.self.now c.requires.stands.in_order g.S.Stage.meaning c.args.lane c.requires.written in
    omega (arith, slot, c.args.self.now.positions.ok.0)

pub index_mut-requires : goal.index_mut-requires
index_mut-requires g c =
    let position = written-position g.W.Planned.plan c.args.self.now c.requires.stands.in_order g.S.Stage.meaning c.args.lane c.requires.written c.index.result.now c.index.ensures in
    omega (arith, position, c.args.self.now.parts.ok.0)

-- the part of the channel
own : (g : _) (c : After-index_mut g) → (c.args.lane.channel ≡ get_or c.args.self.now.here.items c.index.result.now 0) × PartAt g.W.Planned.plan c.args.self.now c.index.result.now c.index_mut.result.now
own g c =
    let w = written-part g.W.Planned.plan c.args.self.now c.requires.stands.in_order g.S.Stage.meaning c.args.lane c.requires.written c.index.result.now c.index_mut.result.now c.index.ensures c.index_mut.ensures.value in
    (w.0, record { order = c.requires.stands.in_order; within = w.1; at = w.2; there = w.3 })

pub refuse-requires-clause-holds : goal.refuse-requires-clause-holds
refuse-requires-clause-holds g c = (
  g.W.Named.world,
  ap (λ (w : World). w.refuses) c.requires.stands.is_world,
  (c.requires.stands.nodes.parts (get_or c.args.self.now.here.items c.index.result.now 0) c.index_mut.result.now (own g (goal.at.refuse-requires-clause-holds g c).After-index_mut).1.there).holds,
)

pub refuse-requires-clause-places : goal.refuse-requires-clause-places
refuse-requires-clause-places g c =
    places-of (channel_parts g.W.Planned.plan c.args.self.now) (get_or c.args.self.now.here.items c.index.result.now 0) c.index_mut.result.now c.index_mut.result.now
    (own g (goal.at.refuse-requires-clause-places g c).After-index_mut).1.there c.args.work.now c.requires.places

-- what the call of the part has done
given : (g : _) (c : After-refuse g)
    → PartRefused g.S.Stage.meaning g.S.Stage.stands_after g.T.Transport.state c.index_mut.result.now (writer_hop c.index_mut.result.now.path c.args.lane.hop) c.args.work.now c.refuse.new.self c.refuse.new.work
given g c = c.refuse.ensures.refused

pub returns-clause-stands : goal.returns-clause-stands
returns-clause-stands g c =
    let n = c.args.self.now in
    let plan = g.W.Planned.plan in
    let ch = get_or n.here.items c.index.result.now 0 in
    let ps = channel_parts plan n in
    let p = c.index_mut.result.now in
    let p' = c.refuse.new.self in
    let at = goal.at.returns-clause-stands g c in
    let o = (own g at.After-index_mut).1 in
    let same = c.refuse.ensures.refused.puts.same in
    let stands = c.requires.stands in
    record {
      is_world = stands.is_world;
      in_order = let order = in-order o same in record { row = order.row; parts = order.parts; seats = order.seats; positions = order.positions };
      nodes =
          subst (NodesStand g.W.Named.world plan g.S.Stage.meaning g.S.Stage.stands_after g.T.Transport.state n.number true) (sym (becomes o same))
          (refuse-stands ps ch p p' o.there g.W.Named.world plan g.S.Stage.meaning g.S.Stage.stands_after g.S.Stage.is_spent g.T.Transport.state
          n.number n.was_refused stands.nodes (writer_hop p.path c.args.lane.hop) c.args.work.now c.refuse.new.work (ap (λ (w : World). w.refuses) stands.is_world) (given g at.After-refuse) c.refuse.ensures.head);
      own = stands.own ∙ sym (heads-stay n.parts.items c.index.result.now p p' o.at same);
      seated = stands.seated;
      told = subst (λ (l : List (ChannelPartView g.row.S.Denot g.row.T.Denot)). (x : ℕ) → TellsAt (channel_seats plan n) l x) (sym (becomes o same))
          (all-tell (channel_seats plan n) (channel_seats plan n) ps (set ps ch p') ch stands.told (λ x slot other there. there) (λ x q other there. at_set_other ps ch x p' q other there)
          (head-tells (channel_seats plan n) ps ch p p' o.there c.refuse.ensures.head (stands.told ch)));
    }

pub returns-clause-keeps : goal.returns-clause-keeps
returns-clause-keeps g c =
    let puts = c.refuse.ensures.refused.puts in
    record { executor = refl; routes = routes-then (own g (goal.at.returns-clause-keeps g c).After-index_mut).1 puts.same g.S.Stage.meaning puts.writes; heads = refl }

pub returns-clause-taken : goal.returns-clause-taken
returns-clause-taken g c = taken-then (own g (goal.at.returns-clause-taken g c).After-index_mut).1 c.refuse.ensures.refused.puts.same c.refuse.ensures.refused.taken

pub returns-clause-placed : goal.returns-clause-placed
returns-clause-placed g c =
    let n = c.args.self.now in
    let o = own g (goal.at.returns-clause-placed g c).After-index_mut in
    places-stay (channel_parts g.W.Planned.plan n) (get_or n.here.items c.index.result.now 0) c.index_mut.result.now c.refuse.new.self o.1.there c.args.work.now c.refuse.new.work c.refuse.ensures.refused.puts.placed

pub returns-clause-makes : goal.returns-clause-makes
returns-clause-makes g c =
    let p = c.index_mut.result.now in
    let refused = c.refuse.ensures.refused in
    let nodes = c.requires.stands.nodes in
    let o = (own g (goal.at.returns-clause-makes g c).After-index_mut).1 in
    makes-then o refused.puts.same g.W.Named.world g.S.Stage.meaning g.S.Stage.stands_after g.T.Transport.state nodes (writer_hop p.path c.args.lane.hop) c.args.work.now c.refuse.new.work refused.puts.others
    (refused.made g.W.Named.world (ap (λ (w : World). w.refuses) c.requires.stands.is_world) (nodes.parts (get_or c.args.self.now.here.items c.index.result.now 0) p o.there).holds)

pub returns-clause-served : goal.returns-clause-served
returns-clause-served g c =
    let plan = g.W.Planned.plan in
    let state = g.T.Transport.state in
    let ps = channel_parts plan c.args.self.now in
    let p = c.index_mut.result.now in
    let o = (own g (goal.at.returns-clause-served g c).After-index_mut).1 in
    subst (λ (l : List (ChannelPartView g.row.S.Denot g.row.T.Denot)). ServesNone (served_of state plan ps) (served_of state plan l)) (sym (becomes o c.refuse.ensures.refused.puts.same))
    (serves-none state plan ps (get_or c.args.self.now.here.items c.index.result.now 0) p c.refuse.new.self o.there (λ q. heads-equal state p c.refuse.new.self c.refuse.ensures.head q))

-- the context that writes the lane is over
pub returns-clause-gave_up : goal.returns-clause-gave_up
returns-clause-gave_up g c p x at kind here =
    let n = c.args.self.now in
    let p' = c.refuse.new.self in
    let o = own g (goal.at.returns-clause-gave_up g c).After-index_mut in
    let there = (λ i. slice_get (sym (becomes o.1 c.refuse.ensures.refused.puts.same) i) (sym o.0 i)) ∙ at in
    let is : p ≡ p' = at_set_same (channel_parts g.W.Planned.plan n) (get_or n.here.items c.index.result.now 0) p' p there in
    c.refuse.ensures.over kind x (subst (λ (q : ChannelPartView g.row.S.Denot g.row.T.Denot). context_at q.path (writer_hop q.path c.args.lane.hop) ≡ Some x) is here)

-- the part of its channel refuses it so, and no other part
pub returns-clause-refuses : goal.returns-clause-refuses
returns-clause-refuses g c =
    let ps = channel_parts g.W.Planned.plan c.args.self.now in
    let p' = c.refuse.new.self in
    let same = c.refuse.ensures.refused.puts.same in
    let o = own g (goal.at.returns-clause-refuses g c).After-index_mut in (
      record {
        before = c.index_mut.result.now;
        after = p';
        was = ap (λ (m : ℕ). slice_get ps m) o.0 ∙ o.1.there;
        becomes = becomes o.1 same ∙ ap (λ (m : ℕ). set ps m p') (sym o.0);
        same = same;
        done = record { path = c.refuse.ensures.refuses; head = c.refuse.ensures.head };
      },
      refl,
    )
