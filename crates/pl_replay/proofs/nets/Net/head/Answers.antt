use Rattle.pl_replay.proofs.NetEnds.{own-at, its-ends, end-found}
use Rattle.pl_replay.proofs.nets.Net.head.Goals as goal

pub returns : goal.returns
returns g c =
    let parts = c.parts.result.now in
    let part = c.in_ok-get.field-0.now in
    let found = c.in_ok-get.ensures.lookup in
    let at = own-at c.args.self.now.nodes.parts.items parts c.parts.ensures.items c.parts.ensures.ends c.args.channel part found.0 found.1 in
    let ends = its-ends c.args.self.now.nodes.parts.items parts c.parts.ensures.items c.parts.ensures.ends c.args.channel part found.0 found.1 in
    end-found _ c.head.result (λ head. head.now) part.head ends.head ends.has_head c.head.ensures.some c.head.ensures.none (λ head is. (part, at, is))
