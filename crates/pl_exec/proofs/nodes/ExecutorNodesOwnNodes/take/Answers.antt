use Rattle.std.proofs.Common.{◌≡◌, ◌==◌, ℕ, List, get_or, set, slice_get, Some, ap, sym, ◌∙◌, arith}
use Rattle.pl_part.specs.Parts.{ChannelPartView}
use Rattle.pl_part.specs.PartCalls.{Taken}
use Rattle.pl_channel.specs.Channels.{IsTakenBy}
use Rattle.pl_channel.proofs.OneChannel.{places-stay, taken-one}
use Rattle.pl_exec.specs.declared.nodes.ExecutorNodes.{ExecutorNodes}
use Rattle.pl_exec.specs.ExecutorNodes.{NodesStand, channel_parts}
use Rattle.pl_exec.proofs.MovedNodes.{take-stands}
use Rattle.pl_exec.proofs.ExecutorNodeLemmas.{next-here}
use Rattle.pl_exec.proofs.PartsHere.{enters-index, enters-part, enters-slot}
use Rattle.pl_exec.proofs.PartTold.{PartAt, in-order, stand-then, tells-after, tells-then, then-keeps, then-makes, then-stands, then-taken, told-parts}
use Rattle.pl_exec.proofs.ServedNodes.{serves-none, take-serves, told-served}
use Rattle.pl_exec.proofs.nodes.ExecutorNodesOwnNodes.take.Goals as goal
use Rattle.pl_exec.proofs.nodes.ExecutorNodesOwnNodes.take.Goals.{After-index_mut-part, After-take}

-- ---- the position of the lane's channel

pub index-requires : goal.index-requires
index-requires g c =
    let n = c.args.self.now in
    let slot = enters-slot g.W.Planned.plan n c.requires.stands.in_order g.W.Named.world g.S.Stage.meaning g.S.Stage.stands_after g.T.Transport.state c.requires.stands.nodes c.args.envelope.lane c.requires.here in
    omega (arith, slot, n.positions.ok.0)

pub index_mut-part-requires : goal.index_mut-part-requires
index_mut-part-requires g c =
    let n = c.args.self.now in
    let index = enters-index g.W.Planned.plan n c.requires.stands.in_order g.W.Named.world g.S.Stage.meaning g.S.Stage.stands_after g.T.Transport.state c.requires.stands.nodes c.args.envelope.lane c.requires.here c.index.result.now c.index.ensures in
    omega (arith, index, n.parts.ok.0)

-- ---- the part there

own : (g : _) (c : After-index_mut-part g) → (c.args.envelope.lane.channel ≡ get_or c.args.self.now.here.items c.index.result.now 0) × PartAt g.W.Planned.plan c.args.self.now c.index.result.now c.index_mut-part.result.now
own g c =
    let e = enters-part g.W.Planned.plan c.args.self.now c.requires.stands.in_order g.W.Named.world g.S.Stage.meaning g.S.Stage.stands_after g.T.Transport.state c.requires.stands.nodes c.args.envelope.lane c.requires.here
    c.index.result.now c.index_mut-part.result.now c.index.ensures c.index_mut-part.ensures.value in
    (e.0, record { order = c.requires.stands.in_order; within = e.1; at = e.2; there = e.3 })

pub take-requires : goal.take-requires
take-requires g c =
    let n = c.args.self.now in
    let p = c.index_mut-part.result.now in
    let o = own g (goal.at.take-requires g c).After-index_mut-part in
    record {
      next = (
        g.W.Named.world,
        next-here (channel_parts g.W.Planned.plan n) (get_or n.here.items c.index.result.now 0) p p o.1.there g.W.Named.world g.W.Planned.plan g.S.Stage.meaning g.S.Stage.stands_after g.T.Transport.state n.number n.was_refused c.requires.stands.nodes
            c.args.envelope c.args.work.now o.0 c.requires.here c.requires.number c.requires.good c.requires.places,
      );
    }

-- ---- what the call of the part has done

taken : (g : _) (c : After-take g) → Taken g.S.Stage.meaning g.S.Stage.stands_after g.T.Transport.state g.S.Stage.is_spent c.index_mut-part.result.now c.args.envelope c.args.work.now c.take.result c.take.new.self c.take.new.work
taken g c = c.take.ensures

-- the nodes stand with that part
still-stand : (g : _) (c : After-take g) (within : c.args.envelope.lane.channel ≡ get_or c.args.self.now.here.items c.index.result.now 0) (o : slice_get (channel_parts g.W.Planned.plan c.args.self.now) (get_or c.args.self.now.here.items c.index.result.now 0) ≡ Some c.index_mut-part.result.now)
    → NodesStand g.W.Named.world g.W.Planned.plan g.S.Stage.meaning g.S.Stage.stands_after g.T.Transport.state c.args.self.now.number c.args.self.now.was_refused
    (set (channel_parts g.W.Planned.plan c.args.self.now) (get_or c.args.self.now.here.items c.index.result.now 0) c.take.new.self)
still-stand g c within o =
    let n = c.args.self.now in
    take-stands (channel_parts g.W.Planned.plan n) (get_or n.here.items c.index.result.now 0) c.index_mut-part.result.now c.take.new.self o g.W.Named.world g.W.Planned.plan g.S.Stage.meaning g.S.Stage.stands_after g.S.Stage.is_spent g.T.Transport.state
    n.number n.was_refused c.requires.stands.nodes c.args.envelope c.args.work.now c.take.result c.take.new.work within c.requires.here c.requires.good (taken g c)

pub tell_if-requires-clause-there : goal.tell_if-requires-clause-there
tell_if-requires-clause-there g c = (own g (goal.at.tell_if-requires-clause-there g c).After-index_mut-part).1.within

pub tell_if-requires-clause-in_order : goal.tell_if-requires-clause-in_order
tell_if-requires-clause-in_order g c = in-order (own g (goal.at.tell_if-requires-clause-in_order g c).After-index_mut-part).1 c.take.ensures.puts.same

pub tell_if-requires-clause-nodes : goal.tell_if-requires-clause-nodes
tell_if-requires-clause-nodes g c =
    let at = goal.at.tell_if-requires-clause-nodes g c in
    let o = own g at.After-index_mut-part in
    stand-then o.1 c.take.ensures.puts.same g.W.Named.world g.S.Stage.meaning g.S.Stage.stands_after g.T.Transport.state (still-stand g at.After-take o.0 o.1.there)

-- where it was not for the head, that is as it was
pub tell_if-requires-clause-told : goal.tell_if-requires-clause-told
tell_if-requires-clause-told g c = λ off.
    let at = goal.at.tell_if-requires-clause-told g c in
    let o = own g at.After-index_mut-part in
    tells-then o.1 c.take.ensures.puts.same
    ((taken g at.After-take).takes.path (ap (λ (n : ℕ). c.args.envelope.lane.hop == n) (sym c.head_hop.ensures) ∙ off)).1
    (c.requires.stands.told (get_or c.args.self.now.here.items c.index.result.now 0))

-- ---- what stands after it

pub returns-clause-stands : goal.returns-clause-stands
returns-clause-stands g c =
    let at = goal.at.returns-clause-stands g c in
    let o = own g at.After-index_mut-part in
    let t = c.tell_if.ensures in
    then-stands o.1 c.take.ensures.puts.same t.told g.W.Named.world g.S.Stage.meaning g.S.Stage.stands_after g.T.Transport.state c.requires.stands (still-stand g at.After-take o.0 o.1.there) t.seated t.others t.tells

pub returns-clause-keeps : goal.returns-clause-keeps
returns-clause-keeps g c = then-keeps (own g (goal.at.returns-clause-keeps g c).After-index_mut-part).1 c.take.ensures.puts.same c.tell_if.ensures.told g.S.Stage.meaning c.take.ensures.puts.writes

pub returns-clause-taken : goal.returns-clause-taken
returns-clause-taken g c =
    let o = own g (goal.at.returns-clause-taken g c).After-index_mut-part in
    then-taken o.1 c.take.ensures.puts.same c.tell_if.ensures.told g.S.Stage.meaning
    ∙ taken-one (channel_parts g.W.Planned.plan c.args.self.now) (get_or c.args.self.now.here.items c.index.result.now 0) c.index_mut-part.result.now c.take.new.self o.1.there c.args.envelope o.0 c.take.ensures.taken

pub returns-clause-placed : goal.returns-clause-placed
returns-clause-placed g c =
    let n = c.args.self.now in
    let o = own g (goal.at.returns-clause-placed g c).After-index_mut-part in
    places-stay (channel_parts g.W.Planned.plan n) (get_or n.here.items c.index.result.now 0) c.index_mut-part.result.now c.take.new.self o.1.there c.args.work.now c.take.new.work c.take.ensures.puts.placed

pub returns-clause-refused : goal.returns-clause-refused
returns-clause-refused g c = ap (λ (n : ExecutorNodes g.row.S.Denot g.row.T.Denot). n.was_refused) c.tell_if.ensures.told.same

pub returns-clause-makes : goal.returns-clause-makes
returns-clause-makes g c =
    let ch = get_or c.args.self.now.here.items c.index.result.now 0 in
    let nodes = c.requires.stands.nodes in
    let o = own g (goal.at.returns-clause-makes g c).After-index_mut-part in
    then-makes o.1 c.take.ensures.puts.same c.tell_if.ensures.told g.W.Named.world g.S.Stage.meaning g.S.Stage.stands_after g.T.Transport.state nodes c.args.envelope.lane.hop c.args.work.now c.take.new.work c.take.ensures.puts.others
    (c.take.ensures.made g.W.Named.world (nodes.parts ch c.index_mut-part.result.now o.1.there).holds c.requires.good)

pub returns-clause-served : goal.returns-clause-served
returns-clause-served g c x =
    let state = g.T.Transport.state in
    let plan = g.W.Planned.plan in
    let ch = get_or c.args.self.now.here.items c.index.result.now 0 in
    let ps = channel_parts plan c.args.self.now in
    let p = c.index_mut-part.result.now in
    let o = own g (goal.at.returns-clause-served g c).After-index_mut-part in
    told-served state plan (set ps ch c.take.new.self) ch (channel_parts plan c.tell_if.new.self) (told-parts o.1 c.take.ensures.puts.same c.tell_if.ensures.told) x
    ∙ serves-none state plan ps ch p c.take.new.self o.1.there
    (λ q. take-serves state g.S.Stage.meaning g.S.Stage.stands_after g.S.Stage.is_spent p c.take.new.self c.args.envelope c.args.work.now c.take.new.work c.take.result c.take.ensures.puts.same c.take.ensures.takes q) x

pub returns-clause-takes : goal.returns-clause-takes
returns-clause-takes g c =
    let ps = channel_parts g.W.Planned.plan c.args.self.now in
    let o = own g (goal.at.returns-clause-takes g c).After-index_mut-part in
    tells-after o.1 c.take.ensures.puts.same c.tell_if.ensures.told
    (λ (l : List (ChannelPartView g.row.S.Denot g.row.T.Denot)). IsTakenBy g.S.Stage.meaning g.S.Stage.stands_after g.S.Stage.is_spent g.T.Transport.state ps c.args.envelope c.args.work.now l c.take.new.work) c.args.envelope.lane.channel o.0
    (record {
      before = c.index_mut-part.result.now;
      after = c.take.new.self;
      was = ap (λ (m : ℕ). slice_get ps m) o.0 ∙ o.1.there;
      becomes = ap (λ (m : ℕ). set ps m c.take.new.self) (sym o.0);
      same = c.take.ensures.puts.same;
      done = (c.take.result, c.take.ensures.takes);
    })
    c.tell_if.ensures.settled c.tell_if.ensures.others
