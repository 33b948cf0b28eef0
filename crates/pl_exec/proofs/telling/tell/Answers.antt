use Rattle.std.proofs.Common.{◌≡◌, ◌-◌, ◌<◌, sym, subst}
use Rattle.pl_words.specs.declared.watermark.TheConstants.{MAX_SETS}
use Rattle.pl_words.specs.Watermarks.{HeadSeatView}
use Rattle.pl_part.specs.Told.{part_untold}
use Rattle.pl_words.specs.PromiseViews.{SettleSeatView}
use Rattle.pl_exec.specs.SessionWords.{TriesEach}
use Rattle.pl_exec.specs.Telling.{part_outcomes}
use Rattle.pl_exec.proofs.SeatLemmas.{tells-told}
use Rattle.pl_exec.proofs.telling.tell.Goals as goal

pub returns-clause-tells : goal.returns-clause-tells
returns-clause-tells g c =
    tells-told c.args.part.now c.settle.new.part c.settle.new.seats c.settle.ensures.told c.settle.ensures.all
    (λ x at. subst (λ (m : HeadSeatView). m.sets < MAX_SETS - 1 → (m.pending ≡ x.buffer.pending) × (m.unwritable ≡ x.buffer.is_unwritable)) (sym c.settle.ensures.mark) (c.set_mark.ensures.says x at))

pub returns-clause-settled : goal.returns-clause-settled
returns-clause-settled g c =
    let p = c.args.part.now in
    subst (λ (s : SettleSeatView). TriesEach (part_outcomes p) (part_untold p) s c.settle.new.seats.settle) c.set_mark.ensures.settle c.settle.ensures.settled
