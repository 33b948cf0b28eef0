use Rattle.std.proofs.Common.{ap, sym, ◌∙◌, ◌++◌, ◌∷◌, []}
use Rattle.pl_event.specs.Hops.{flags_lane}
use Rattle.pl_queue_tests.proofs.OpeningLemmas.{hops-more}
use Rattle.pl_queue_tests.proofs.openings.lanes_of_channel.Goals as goal

pub loop-hop-preserved : goal.loop-hop-preserved
loop-hop-preserved c =
    c.in_ok-push.ensures.items ∙ ap (λ l. c.loop-hop.lanes.items ++ l ∷ []) c.lane.ensures ∙ ap (λ ls. ls ++ flags_lane c.args.channel c.loop-hop.hop ∷ []) c.loop-hop.invariant ∙ sym (hops-more c.args.channel c.loop-hop.hop)
