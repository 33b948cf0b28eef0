use Rattle.std.proofs.Common.{◌≡◌, ℕ, slice_get, Some, ap, sym, ◌∙◌, arith}
use Rattle.pl_exec.specs.ExecutorNodes.{channel_parts}
use Rattle.pl_exec.proofs.ExecutorNodeLemmas.{enters-hop, written-hop}
use Rattle.pl_exec.proofs.PartsHere.{written-part, written-position, written-slot}
use Rattle.pl_exec.proofs.nodes.ExecutorNodesOwnNodes.target.Goals as goal
use Rattle.pl_exec.proofs.nodes.ExecutorNodesOwnNodes.target.Goals.{After-index-2}

pub index-requires : goal.index-requires
index-requires g c =
    let slot = written-slot g.W.Planned.plan c.args.self.now c.requires.stands.in_order g.S.Stage.meaning c.args.lane c.requires.written in
    omega (arith, slot, c.args.self.now.positions.ok.0)

pub index-requires-2 : goal.index-requires-2
index-requires-2 g c =
    let position = written-position g.W.Planned.plan c.args.self.now c.requires.stands.in_order g.S.Stage.meaning c.args.lane c.requires.written c.index.result.now c.index.ensures in
    omega (arith, position, c.args.self.now.parts.ok.0)

-- the part of the lane's channel
own : (g : _) (c : After-index-2 g) → slice_get (channel_parts g.W.Planned.plan c.args.self.now) c.args.lane.channel ≡ Some c.index-2.result.now
own g c =
    let plan = g.W.Planned.plan in
    let n = c.args.self.now in
    let part = written-part plan n c.requires.stands.in_order g.S.Stage.meaning c.args.lane c.requires.written c.index.result.now c.index-2.result.now c.index.ensures c.index-2.ensures in
    ap (λ (k : ℕ). slice_get (channel_parts plan n) k) part.0 ∙ part.3

pub target-requires : goal.target-requires
target-requires g c =
    written-hop g.S.Stage.meaning (channel_parts g.W.Planned.plan c.args.self.now) c.args.lane c.index-2.result.now (own g (goal.at.target-requires g c).After-index-2) c.requires.written

pub returns : goal.returns
returns g c =
    let n = c.args.self.now in
    let plan = g.W.Planned.plan in
    c.target.ensures
    ∙ sym (enters-hop g.W.Named.world plan g.S.Stage.meaning g.S.Stage.stands_after g.T.Transport.state n.number n.was_refused (channel_parts plan n) c.requires.stands.nodes c.args.lane c.index-2.result.now (own g (goal.at.returns g c).After-index-2) c.requires.written)
