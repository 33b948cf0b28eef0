use Rattle.std.proofs.Common.{rules, sym, subst}
use denote.Exit.{no}
use denote.Param.Send.{arg_send, arg_sync, param_send, param_sync}
use Rattle.pl_queue.specs.Rule.{Each}
use Rattle.pl_post_tests.specs.Turns.{IsInTurn}
use Rattle.pl_post_tests.proofs.tests.four_senders.four_send_while_closing.Goals as goal

pub join-feeders-requires-after_bounds : goal.join-feeders-requires-after_bounds
join-feeders-requires-after_bounds g c κs within =
    let t = c.type_bounds in (
      (
        (c.in-Ok.ensures.feeders, c.requires.world, param_sync _ _ (arg_sync _ no _ t.sync-R)),
        (
          param_send _ _ (arg_send _ no _ t.send-W),
          param_send _ _ (arg_send _ no _ t.send-M),
          param_send _ _ (arg_send _ no _ t.send-M-Sender),
          param_send _ _ (arg_send _ no _ t.send-M-Taker),
          param_sync _ _ (arg_sync _ no _ t.sync-W),
          param_sync _ _ (arg_sync _ no _ t.sync-M),
          param_sync _ _ (arg_sync _ no _ t.sync-R),
        ),
      ),
      search rules,
    )

pub loop-feeder-init : goal.loop-feeder-init
loop-feeder-init g c =
    subst (λ fs. Each (λ f. IsInTurn g.M.Mailbox.ends c.in-Ok.opened f.seat f.first f.sent) fs) (sym c.into_iter-feeder-iterator.ensures.into_iter_gives.0) c.join-feeders.ensures.first
