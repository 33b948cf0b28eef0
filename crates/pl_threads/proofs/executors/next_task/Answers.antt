use Rattle.std.proofs.Common.{◌≡◌, ◌<◌, ◌^◌, Some, subst}
use Rattle.std.specs.Prelude.{MatchOption}
use Rattle.pl_event.specs.declared.envelopes.Envelope.{Envelope}
use Rattle.pl_event.specs.Worlds.{FitsWorld}
use Rattle.pl_queue.specs.declared.views.TakerView.{TakerView}
use Rattle.pl_queue.specs.Rule.{TakerSees, WasOnce}
use Rattle.pl_queue.specs.Views.{next_of, after_take}
use Rattle.pl_threads.proofs.executors.next_task.Goals as goal

-- what the taker knows is the same after the look
pub returns-clause-taken : goal.returns-clause-taken
returns-clause-taken g c =
    let takes_of = g.M.Mailbox.ends.takes_of in
    subst
    (λ (t : TakerView). MatchOption c.take.result
    ((takes_of c.take.new.taker ≡ t) × WasOnce 0 (TakerSees g.W.Named.world t))
    (λ (x : Envelope). (next_of x.lane t.counts ≡ Some x.number) × (x.number < 2 ^ 32) × FitsWorld g.W.Named.world x × (takes_of c.take.new.taker ≡ after_take t x)))
    c.is_empty.ensures.same c.take.ensures.taken
