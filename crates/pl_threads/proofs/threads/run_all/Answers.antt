use denote.Exit.{no}
use denote.Param.Send.{param_send, param_sync, arg_send, arg_sync}
use Rattle.pl_threads.proofs.threads.run_all.Goals as goal

pub scoped-requires : goal.scoped-requires
scoped-requires g c =
    let b = c.type_bounds in record {
      at = λ a. (
        c.in_ok-all.ensures.items,
        (
          param_send _ _ (arg_send _ no _ b.send-W),
          param_send _ _ (arg_send _ no _ b.send-M),
          param_send _ _ (arg_send _ no _ b.send-N),
          param_send _ _ (arg_send _ no _ b.send-M-Sender),
          param_send _ _ (arg_send _ no _ b.send-M-Taker),
          param_sync _ _ (arg_sync _ no _ b.sync-W),
          param_sync _ _ (arg_sync _ no _ b.sync-M),
          param_sync _ _ (arg_sync _ no _ b.sync-G),
          param_sync _ _ (arg_sync _ no _ b.sync-R),
        ),
      );
    }

pub returns-clause-ended : goal.returns-clause-ended
returns-clause-ended g c = c.scoped.ensures.1.0

pub returns-clause-entered : goal.returns-clause-entered
returns-clause-entered g c = c.scoped.ensures.1.1
