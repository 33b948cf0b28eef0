use Rattle.std.proofs.Common.{ℕ, ◌≤◌, List, [], ◌∷◌, ◌++◌, length, take, drop, ap, ◌∙◌, arith}
use Rattle.std.proofs.lemmas.List.{length-take-le}
use Rattle.pl_event.specs.declared.events.Event.TheVariants.{Read}
use Rattle.pl_event.specs.declared.events.Message.TheVariants.{Line}
use Rattle.pl_stages.proofs.FrameSteps.{takes_kept, takes_whole, takes_too_long, fills_payload, fills_field}
use Rattle.pl_stages.proofs.length_framer.LengthFramer.fill.Goals as goal

-- of the bytes no more are taken than the frame lacks
few : (taken : ℕ) (bytes : List ℕ) (missing : ℕ) → taken ≤ length bytes → taken ≤ missing → length (take taken bytes) ≤ missing
few taken bytes missing there within = omega (arith, length-take-le taken bytes there)

pub returns-in-Unfinished-clause-takes : goal.returns-in-Unfinished-clause-takes
returns-in-Unfinished-clause-takes c =
    takes_kept _ _ _ _ _ _ _ c.args.self.now.widths c.requires.no_skip c.in_ok-extend_from_slice.ensures.items
    (rw c.as_slice.ensures.value at c.in-Unfinished.ensures)

pub returns-in_ok-push-in-Whole-clause-takes : goal.returns-in_ok-push-in-Whole-clause-takes
returns-in_ok-push-in-Whole-clause-takes c =
    let grown = c.in_ok-extend_from_slice.ensures.items in
    let front = rw c.as_slice.ensures.value at c.in-Whole.ensures in
    takes_whole _ _ _ _ _ _ _ _ _ c.args.self.now.widths c.requires.no_skip grown
    (ap (λ v. v.items) c.replace.ensures.after ∙ c.new.ensures.items)
    (omega (arith, front.0, front.1))
    (fills_payload _ _ _ _ _ (record { field = c.missing.ensures.field; payload = c.missing.ensures.payload }) grown (few _ _ _ (omega arith) (omega arith)) (omega (arith, front.0, front.2)))
    (c.in_ok-push-in-Whole.ensures.items
    ∙ ap (λ made. c.args.up.now.items ++ made ∷ [])
    (c.line_of.ensures ∙ ap (λ t. Read (Line t))
    (c.drop_front.ensures ∙ ap (λ frame. drop c.args.self.now.width frame) (c.from_vec-frame.ensures ∙ ap (λ v. v.items) c.replace.ensures.value))))

pub returns-in_ok-push-in-TooLong-clause-takes : goal.returns-in_ok-push-in-TooLong-clause-takes
returns-in_ok-push-in-TooLong-clause-takes c =
    let grown = c.in_ok-extend_from_slice.ensures.items in
    let front = rw c.as_slice.ensures.value at c.in-TooLong.ensures in
    takes_too_long _ _ _ _ _ _ _ _ _ _ c.args.self.now.widths c.requires.no_skip grown c.clear.ensures.items front.0 front.1
    (fills_field _ _ _ _ _ _ (record { field = c.missing.ensures.field; payload = c.missing.ensures.payload }) grown (few _ _ _ (omega arith) (omega arith)) c.args.self.now.unfinished (omega (arith, front.0, front.1)) front.2)
    c.in_ok-push-in-TooLong.ensures.items
