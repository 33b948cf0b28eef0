use Rattle.std.proofs.Common.{ℕ, sym, subst, ◌∙◌}
use Rattle.std.specs.Option.{IfSome}
use denote.Exit.{no}
use denote.Param.{param}
use denote.Param.Send.{param_send, arg_send, shr_send}
use mir.Syntax.{named}
use Rattle.pl_threads.specs.contracts.start.Start as start_row
use Rattle.pl_threads.proofs.start.Start.TheSendSync as start
use Rattle.pl_words.specs.Admissions.{OwnerSeatView}
use Rattle.pl_threads.specs.Running.{EndsAs}
use Rattle.pl_threads.proofs.Sends.{executor_send, left_send, parker_send, captured_send}
use Rattle.pl_threads.proofs.threads.start_each.Goals as goal

-- The closure has the executor, references to the runtime, the gate and the start, and the parker.
pub spawn_with-spawned-requires-send-F : goal.spawn_with-spawned-requires-send-F
spawn_with-spawned-requires-send-F g c κs within =
    let b = c.type_bounds in
    let executor =
    executor_send (record { mir = named 6; lft = κs.1.1.1.1.1.1.0 }) (param 1 g.row.W) (param 2 g.row.M) (param 3 g.row.N) (param 6 g.row.M-Sender) (param 7 g.row.M-Taker) g.W.Named g.M.Mailbox g.N.OwnNodes
    b.send-N b.send-M-Sender b.send-M-Taker b.sync-M in
    let rt = shr_send (named 7) κs.1.1.1.1.1.1.1.0 (param 5 g.row.R) b.sync-R in
    let gate = shr_send (named 8) κs.1.1.1.1.1.1.1.1.0 (param 4 g.row.G) b.sync-G in
    let begin = shr_send (named 9) κs.1.1.1.1.1.1.1.1.1.0 start_row.the_row start.the_sync in
    param_send _ _ (arg_send _ no _ (captured_send _ _ _ _ _ _ executor rt gate begin parker_send))

pub spawn_with-spawned-requires-send-T : goal.spawn_with-spawned-requires-send-T
spawn_with-spawned-requires-send-T g c κs within =
    let b = c.type_bounds in
    let left = left_send (param 1 g.row.W) (param 2 g.row.M) (param 3 g.row.N) (param 6 g.row.M-Sender) (param 7 g.row.M-Taker) g.W.Named g.M.Mailbox g.N.OwnNodes b.send-N b.send-M-Taker in
    param_send _ _ (arg_send _ no _ left)

pub spawn_with-spawned-requires-clause-keeps : goal.spawn_with-spawned-requires-clause-keeps
spawn_with-spawned-requires-clause-keeps g c κs within = λ r gave.
    let Keeps : g.row.G.Denot → ℕ → OwnerSeatView → ℕ → Type 0 = λ gate number owner turn. IfSome r (λ finished. EndsAs g.N.OwnNodes.view_of number owner finished × g.G.Gate.was_entered gate number turn) in
    let first = c.in-Some.executor in
    let told = subst (λ gate. Keeps gate first.number first.owner first.turns) (sym c.of.ensures) gave in
    let numbered = subst (λ number. Keeps c.of.result.value number first.owner first.turns) (sym c.number.ensures) told in
    let owned = subst (λ owner. Keeps c.of.result.value c.number.result owner first.turns) (sym (c.of-in-loop-executor.ensures ∙ c.owner.ensures)) numbered in
    subst (λ turn. Keeps c.of.result.value c.number.result c.of-in-loop-executor.result.value turn) (sym c.turns.ensures) owned
