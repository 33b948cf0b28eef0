use Rattle.std.proofs.Common.{◌≡◌, ℕ, Bool, List, get_or, set, slice_get, Some, sym, ap, subst, ◌∙◌, arith}
use Rattle.pl_part.specs.Parts.{ChannelPartView, PartMoves, head_hop}
use Rattle.pl_channel.specs.Channels.{IsMovedBy}
use Rattle.pl_channel.proofs.Vecs.{put-back}
use Rattle.pl_channel.proofs.HeadMoves.{moves-idle}
use Rattle.pl_channel.proofs.OneChannel.{places-of, places-stay, taken-none}
use Rattle.pl_exec.specs.declared.nodes.ExecutorNodes.{ExecutorNodes}
use Rattle.pl_exec.specs.ExecutorNodes.{NodesStand, channel_parts, own_channels, served_of}
use Rattle.pl_exec.proofs.HeadLists.{own-part, own-within}
use Rattle.pl_exec.proofs.OverLemmas.{may-move-here}
use Rattle.pl_exec.proofs.MovedNodes.{move-stands}
use Rattle.pl_exec.proofs.PartsHere.{own-at, own-slot, part-at}
use Rattle.pl_exec.proofs.PartTold.{PartAt, in-order, stand-then, tells-after, tells-then, then-keeps, then-makes, then-stands, then-taken, told-parts}
use Rattle.pl_exec.proofs.ServedNodes.{move-serves, moves-once, told-moves}
use Rattle.pl_exec.proofs.nodes.ExecutorNodesOwnNodes.move_head.Goals as goal
use Rattle.pl_exec.proofs.nodes.ExecutorNodesOwnNodes.move_head.Goals.{After-index_mut, After-move_head-has_moved}

pub index_mut-requires : goal.index_mut-requires
index_mut-requires g c =
    let n = c.args.self.now in
    let within = own-within n.parts.items n.heads.items c.args.at c.index-position.result.now c.requires.there c.index-position.ensures c.requires.stands.own in
    omega (arith, within, n.parts.ok.0)

-- the part at the position, and its channel
own : (g : _) (c : After-index_mut g) → PartAt g.W.Planned.plan c.args.self.now c.index-position.result.now c.index_mut.result.now
own g c =
    let n = c.args.self.now in
    let k = c.index-position.result.now in
    let order = c.requires.stands.in_order in
    let inside = own-within n.parts.items n.heads.items c.args.at k c.requires.there c.index-position.ensures c.requires.stands.own in
    let part = own-part n.parts.items n.heads.items c.args.at k c.requires.there c.index-position.ensures c.requires.stands.own c.index_mut.result.now c.index_mut.ensures.value in
    record { order = order; within = omega (arith, inside, order.parts); at = part; there = part-at g.W.Planned.plan n order k c.index_mut.result.now part }

pub move_head-has_moved-requires-clause-holds : goal.move_head-has_moved-requires-clause-holds
move_head-has_moved-requires-clause-holds g c = (
  g.W.Named.world,
  (c.requires.stands.nodes.parts (get_or c.args.self.now.here.items c.index-position.result.now 0) c.index_mut.result.now (own g (goal.at.move_head-has_moved-requires-clause-holds g c).After-index_mut).there).holds,
)

pub move_head-has_moved-requires-clause-places : goal.move_head-has_moved-requires-clause-places
move_head-has_moved-requires-clause-places g c =
    places-of (channel_parts g.W.Planned.plan c.args.self.now) (get_or c.args.self.now.here.items c.index-position.result.now 0) c.index_mut.result.now c.index_mut.result.now
    (own g (goal.at.move_head-has_moved-requires-clause-places g c).After-index_mut).there c.args.work.now c.requires.places

-- the nodes stand with that part
still-stand : (g : _) (c : After-move_head-has_moved g) → slice_get (channel_parts g.W.Planned.plan c.args.self.now) (get_or c.args.self.now.here.items c.index-position.result.now 0) ≡ Some c.index_mut.result.now
    → NodesStand g.W.Named.world g.W.Planned.plan g.S.Stage.meaning g.S.Stage.stands_after g.T.Transport.state c.args.self.now.number c.args.self.now.was_refused
    (set (channel_parts g.W.Planned.plan c.args.self.now) (get_or c.args.self.now.here.items c.index-position.result.now 0) c.move_head-has_moved.new.self)
still-stand g c o =
    let n = c.args.self.now in
    let m = c.move_head-has_moved in
    move-stands (channel_parts g.W.Planned.plan n) (get_or n.here.items c.index-position.result.now 0) c.index_mut.result.now m.new.self o g.W.Named.world g.W.Planned.plan g.S.Stage.meaning g.S.Stage.stands_after g.S.Stage.is_spent g.T.Transport.state
    n.number n.was_refused c.requires.stands.nodes c.requires.stands.is_world g.T.Transport.may_refuse c.args.by c.args.work.now m.result m.new.work m.ensures.given m.ensures.moves

pub tell_if-requires-clause-there : goal.tell_if-requires-clause-there
tell_if-requires-clause-there g c = (own g (goal.at.tell_if-requires-clause-there g c).After-index_mut).within

pub tell_if-requires-clause-in_order : goal.tell_if-requires-clause-in_order
tell_if-requires-clause-in_order g c = in-order (own g (goal.at.tell_if-requires-clause-in_order g c).After-index_mut) c.move_head-has_moved.ensures.given.puts.same

pub tell_if-requires-clause-nodes : goal.tell_if-requires-clause-nodes
tell_if-requires-clause-nodes g c =
    let at = goal.at.tell_if-requires-clause-nodes g c in
    let o = own g at.After-index_mut in
    stand-then o c.move_head-has_moved.ensures.given.puts.same g.W.Named.world g.S.Stage.meaning g.S.Stage.stands_after g.T.Transport.state (still-stand g at.After-move_head-has_moved o.there)

-- where it made no move it is as it was
pub tell_if-requires-clause-told : goal.tell_if-requires-clause-told
tell_if-requires-clause-told g c = λ idle.
    let m = c.move_head-has_moved in
    let p = c.index_mut.result.now in
    tells-then (own g (goal.at.tell_if-requires-clause-told g c).After-index_mut) m.ensures.given.puts.same
    (ap (λ (q : ChannelPartView g.row.S.Denot g.row.T.Denot). q.head) (moves-idle g.T.Transport.state p c.args.work.now m.new.self m.new.work g.T.Transport.may_refuse c.args.by m.result m.ensures.moves idle).0)
    (c.requires.stands.told (get_or c.args.self.now.here.items c.index-position.result.now 0))

pub returns-clause-enabled : goal.returns-clause-enabled
returns-clause-enabled g c =
    let n = c.args.self.now in
    let plan = g.W.Planned.plan in
    let m = c.move_head-has_moved in
    let k = c.index-position.result.now in
    let ch = get_or n.here.items k 0 in
    let o = own g (goal.at.returns-clause-enabled g c).After-index_mut in
    record {
      channel = ch;
      is = own-slot plan n c.requires.stands.in_order c.args.at k c.requires.there c.index-position.ensures;
      may = may-move-here g.T.Transport.state g.T.Transport.may_refuse c.index_mut.result.now c.args.work.now m.new.self m.new.work c.args.by m.result m.ensures.moves (channel_parts plan n) ch o.there;
    }

pub returns-clause-idle : goal.returns-clause-idle
returns-clause-idle g c = λ idle.
    let n = c.args.self.now in
    let p = c.index_mut.result.now in
    let m = c.move_head-has_moved in
    let same = moves-idle g.T.Transport.state p c.args.work.now m.new.self m.new.work g.T.Transport.may_refuse c.args.by m.result m.ensures.moves idle in
    (c.tell_if.ensures.unwanted idle ∙ (λ i. record n { parts = put-back n.parts c.index-position.result.now p m.new.self c.index_mut.ensures.value same.0 i }), same.1)

pub returns-clause-stands : goal.returns-clause-stands
returns-clause-stands g c =
    let at = goal.at.returns-clause-stands g c in
    let o = own g at.After-index_mut in
    let t = c.tell_if.ensures in
    then-stands o c.move_head-has_moved.ensures.given.puts.same t.told g.W.Named.world g.S.Stage.meaning g.S.Stage.stands_after g.T.Transport.state c.requires.stands (still-stand g at.After-move_head-has_moved o.there) t.seated t.others t.tells

pub returns-clause-keeps : goal.returns-clause-keeps
returns-clause-keeps g c =
    let puts = c.move_head-has_moved.ensures.given.puts in
    then-keeps (own g (goal.at.returns-clause-keeps g c).After-index_mut) puts.same c.tell_if.ensures.told g.S.Stage.meaning puts.writes

pub returns-clause-taken : goal.returns-clause-taken
returns-clause-taken g c =
    let m = c.move_head-has_moved in
    let o = own g (goal.at.returns-clause-taken g c).After-index_mut in
    then-taken o m.ensures.given.puts.same c.tell_if.ensures.told g.S.Stage.meaning
    ∙ taken-none (channel_parts g.W.Planned.plan c.args.self.now) (get_or c.args.self.now.here.items c.index-position.result.now 0) c.index_mut.result.now m.new.self o.there m.ensures.given.taken

pub returns-clause-placed : goal.returns-clause-placed
returns-clause-placed g c =
    let n = c.args.self.now in
    let m = c.move_head-has_moved in
    let o = own g (goal.at.returns-clause-placed g c).After-index_mut in
    places-stay (channel_parts g.W.Planned.plan n) (get_or n.here.items c.index-position.result.now 0) c.index_mut.result.now m.new.self o.there c.args.work.now m.new.work m.ensures.given.puts.placed

pub returns-clause-refused : goal.returns-clause-refused
returns-clause-refused g c = ap (λ (n : ExecutorNodes g.row.S.Denot g.row.T.Denot). n.was_refused) c.tell_if.ensures.told.same

pub returns-clause-makes : goal.returns-clause-makes
returns-clause-makes g c =
    let p = c.index_mut.result.now in
    let given = c.move_head-has_moved.ensures.given in
    let nodes = c.requires.stands.nodes in
    let o = own g (goal.at.returns-clause-makes g c).After-index_mut in
    then-makes o given.puts.same c.tell_if.ensures.told g.W.Named.world g.S.Stage.meaning g.S.Stage.stands_after g.T.Transport.state nodes (head_hop p) c.args.work.now c.move_head-has_moved.new.work given.puts.others
    (given.made g.W.Named.world (nodes.parts (get_or c.args.self.now.here.items c.index-position.result.now 0) p o.there).holds)

pub returns-clause-served : goal.returns-clause-served
returns-clause-served g c =
    let state = g.T.Transport.state in
    let plan = g.W.Planned.plan in
    let ch = get_or c.args.self.now.here.items c.index-position.result.now 0 in
    let ps = channel_parts plan c.args.self.now in
    let p = c.index_mut.result.now in
    let m = c.move_head-has_moved in
    let nodes = c.requires.stands.nodes in
    let o = own g (goal.at.returns-clause-served g c).After-index_mut in
    told-moves state plan (set ps ch m.new.self) ch (channel_parts plan c.tell_if.new.self) (told-parts o m.ensures.given.puts.same c.tell_if.ensures.told) c.args.by (served_of state plan ps)
    (moves-once state plan ps ch p m.new.self o.there c.args.by
    (move-serves state g.T.Transport.may_refuse g.W.Named.world g.S.Stage.meaning g.S.Stage.stands_after p m.new.self c.args.work.now m.new.work c.args.by m.result
    (nodes.parts ch p o.there).holds m.ensures.moves (slice_get plan.channels ch) (λ q at. nodes.keeps.each ch q p at o.there)))

pub returns-clause-moves : goal.returns-clause-moves
returns-clause-moves g c = λ made.
    let n = c.args.self.now in
    let plan = g.W.Planned.plan in
    let k = c.index-position.result.now in
    let ps = channel_parts plan n in
    let p = c.index_mut.result.now in
    let m = c.move_head-has_moved in
    let o = own g (goal.at.returns-clause-moves g c).After-index_mut in
    let is : get_or (own_channels n) c.args.at 0 ≡ get_or n.here.items k 0 = own-at plan n c.requires.stands.in_order c.args.at k c.requires.there c.index-position.ensures in
    tells-after o m.ensures.given.puts.same c.tell_if.ensures.told
    (λ (l : List (ChannelPartView g.row.S.Denot g.row.T.Denot)). IsMovedBy g.T.Transport.state g.T.Transport.may_refuse ps c.args.by (get_or (own_channels n) c.args.at 0) c.args.work.now l m.new.work) (get_or (own_channels n) c.args.at 0) is
    (record {
      before = p;
      after = m.new.self;
      was = subst (λ (x : ℕ). slice_get ps x ≡ Some p) (sym is) o.there;
      becomes = ap (λ (x : ℕ). set ps x m.new.self) (sym is);
      same = m.ensures.given.puts.same;
      done = subst (λ (b : Bool). PartMoves g.T.Transport.state g.T.Transport.may_refuse p c.args.by c.args.work.now b m.new.self m.new.work) made m.ensures.moves;
    })
    c.tell_if.ensures.settled c.tell_if.ensures.others
