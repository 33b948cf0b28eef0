use Rattle.std.proofs.Common.{◌≡◌, ℕ, ◌+◌, List, [], ◌∷◌, ◌++◌, length, drop, ap, sym, refl, ◌∙◌}
use Rattle.std.proofs.Math.Seq.{drop-append-add}
use Rattle.pl_event.specs.declared.events.Event.TheVariants.{Read}
use Rattle.pl_event.specs.declared.events.Message.TheVariants.{Line}
use Rattle.pl_stages.proofs.FrameSteps.{takes_whole}
use Rattle.pl_stages.proofs.length_framer.LengthFramer.take_chunk.Goals as goal

-- what follows a field that ends in the chunk
payload_part : (width start : ℕ) (kept chunk : List ℕ) → length kept + start ≡ width → drop start chunk ≡ drop width (kept ++ chunk)
payload_part width start kept chunk field = sym (drop-append-add kept chunk start) ∙ ap (λ n. drop n (kept ++ chunk)) field

pub returns-in-Some-clause-takes : goal.returns-in-Some-clause-takes
returns-in-Some-clause-takes c =
    let one = rw c.as_slice.ensures at c.in-Some.ensures.whole.0 refl in
    takes_whole _ _ _ _ _ _ _ _ _ c.args.self.now.widths one.0 refl c.clear.ensures.items one.2.0 one.2.1
    (c.in_ok-push.ensures.items
    ∙ ap (λ made. c.args.up.now.items ++ made ∷ [])
    (c.line_of.ensures ∙ ap (λ t. Read (Line t))
    (c.drop_front.ensures ∙ payload_part c.args.self.now.width c.in-Some.start c.args.self.now.partial.items c.args.chunk c.in-Some.ensures.start)))
