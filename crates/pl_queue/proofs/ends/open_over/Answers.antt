use Rattle.std.proofs.Common.{true, map, ap, sym, subst, ◌∙◌}
use Rattle.pl_queue.specs.Left.{lanes_of_senders, own_lanes}
use Rattle.pl_queue.specs.Limits.{is_mailbox_within}
use Rattle.pl_queue.specs.Positions.{ArePositions}
use Rattle.pl_queue.specs.Views.{view_of, no_sends, fresh_takes, fresh_take_counts, lanes_of_counts}
use Rattle.pl_queue.proofs.TakerLemmas.{begins-taking, counts-apart, counts-few}
use Rattle.pl_queue.proofs.ends.open_over.Goals as goal

pub returns-clause-taker : goal.returns-clause-taker
returns-clause-taker g c =
    let dealt = c.in_ok-senders.ensures.pass in
    let made = c.in_ok-counts.ensures ∙ ap (λ ls. fresh_take_counts (lanes_of_senders (map own_lanes ls))) c.as_slice-2.ensures.value in
    let taking = begins-taking (g.Q.RuledQueue.view_of c.deal_all.new.pass) c.in_ok-counts.counts.items c.in_ok-positions.positions.rows.items (lanes_of_senders (map own_lanes c.args.lanes.items))
    (dealt.1 ∙ ap (λ ls. view_of true no_sends (fresh_takes (lanes_of_senders (map own_lanes ls)))) c.as_slice-4.ensures.value) made c.requires.apart
    (subst (λ ms. ArePositions c.in_ok-positions.positions.rows.items 0 (lanes_of_counts ms)) c.as_slice-3.ensures.value c.in_ok-positions.ensures) in
    ((dealt.0, taking.0), taking.1)

pub new-requires-clause-apart : goal.new-requires-clause-apart
new-requires-clause-apart g c =
    counts-apart (lanes_of_senders (map own_lanes c.args.lanes.items)) c.as_slice-3.result.now
    (c.as_slice-3.ensures.value ∙ c.in_ok-counts.ensures ∙ ap (λ ls. fresh_take_counts (lanes_of_senders (map own_lanes ls))) c.as_slice-2.ensures.value) c.requires.apart

pub new-requires-clause-few : goal.new-requires-clause-few
new-requires-clause-few g c =
    counts-few (map own_lanes c.args.lanes.items) c.args.capacity c.as_slice-3.result.now
    (ap (λ ls. is_mailbox_within (map own_lanes ls) c.args.capacity) (sym c.as_slice.ensures.value) ∙ sym c.is_within.ensures ∙ c.if-not-is_within.false)
    (c.as_slice-3.ensures.value ∙ c.in_ok-counts.ensures ∙ ap (λ ls. fresh_take_counts (lanes_of_senders (map own_lanes ls))) c.as_slice-2.ensures.value)
