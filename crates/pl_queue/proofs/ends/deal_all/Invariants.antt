use Rattle.std.proofs.Common.{◌≡◌, true, map, take}
use Rattle.pl_queue.specs.Rule.{Each}
use Rattle.pl_queue.specs.Views.{view_of, no_sends, fresh_sends, fresh_takes}
use Rattle.pl_queue.specs.Left.{lanes_of_senders}
use Rattle.pl_queue.proofs.ends.deal_all.Given as goal

abbrev pub invariant-loop-own : goal.invariant-loop-own
invariant-loop-own g l = record {
  pass : g.Q.RuledQueue.is_pass l.queue l.pass;
  dealt : g.Q.RuledQueue.view_of l.pass ≡ view_of true no_sends (fresh_takes (lanes_of_senders (map (λ v. v.items) (take l.own-index l.lanes))));
  senders : Each (λ s. g.Q.RuledQueue.is_pass l.queue s.pass) l.senders.items;
  sent : map (λ s. (g.Q.RuledQueue.view_of s.pass).sends) l.senders.items ≡ map (λ v. fresh_sends v.items) (take l.own-index l.lanes);
}

abbrev pub ghosts-deal : goal.ghosts-deal
ghosts-deal g a = record { lanes = a.lanes.now }
