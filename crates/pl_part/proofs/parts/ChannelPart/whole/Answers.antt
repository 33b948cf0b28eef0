use Rattle.std.proofs.Common.{◌≡◌, length, ap, sym, subst, ◌∙◌, arith}
use Rattle.std.proofs.lemmas.Option.{same_Some}
use Rattle.pl_head.specs.HeadStand.{HeadView}
use Rattle.pl_part.specs.HeadHolds.{HeadHolds}
use Rattle.pl_part.proofs.HeadMoves.{head-few}
use Rattle.pl_part.proofs.PartSteps.{filled-length}
use Rattle.pl_part.proofs.parts.ChannelPart.whole.Goals as goal

pub returns-clause-holds : goal.returns-clause-holds
returns-clause-holds g c = λ world planned held.
    let t = c.in_ok-path.ensures in
    let size = filled-length c.in_ok-path.path.contexts (length c.args.inbound.items) (length c.args.outbound.items) t.filled in
    let executors = ap length t.path.1 in
    record {
      path = t.holds world planned;
      head = λ x found.
          subst (λ (y : HeadView _). HeadHolds g.T.Transport.state world y × (y.channel ≡ c.in_ok-path.path.channel) × (y.hop ≡ length c.in_ok-path.path.contexts)) (same_Some c.args.head x found)
          (held, c.requires.last.0 ∙ sym t.path.0, c.requires.last.1 ∙ sym size);
      hops = omega (arith, executors, c.requires.hops, size);
    }

pub returns-clause-few : goal.returns-clause-few
returns-clause-few g c = λ world held.
    let few = head-few g.T.Transport.state world held.plan held.events c.args.head held.holds in
    omega (arith, few, c.in_ok-path.ensures.done)
