use Rattle.std.specs.Global.{Vec}
use Rattle.std.proofs.Common.{◌≡◌, ◌≤◌, length, arith}
use Rattle.pl_event.specs.declared.envelopes.Lane.{Lane}
use Rattle.pl_queue.specs.Views.{fresh_sends}
use Rattle.pl_queue_bench.proofs.FlagSteps.{opened-all, same-length}
use Rattle.pl_queue_bench.proofs.boxes.opened.Goals as goal

pub returns-in-Ok-open-clause-senders : goal.returns-in-Ok-open-clause-senders
returns-in-Ok-open-clause-senders g c =
    let told = c.in-Ok-open.ensures.senders in
    let senders = c.in-Ok-open.opened.1.items in
    let lists = c.in-Ok.lists.items in
    let same : length senders ≡ length lists = same-length g.M.Mailbox.ends.sends_of (λ (v : Vec Lane). fresh_sends v.items) senders lists told.1 in
    let enough : c.args.channels ≤ length senders = omega (arith, same, c.in-Ok.ensures.len, c.requires.1) in (
      omega (arith, same, c.in-Ok.ensures.len),
      opened-all (λ s. g.M.Mailbox.ends.is_sender c.in-Ok-open.opened.0 s) g.M.Mailbox.ends.sends_of senders lists c.args.hops c.args.channels told.0 told.1 enough c.in-Ok.ensures.each,
    )
