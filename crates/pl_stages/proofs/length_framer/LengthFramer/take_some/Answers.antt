use Rattle.std.proofs.Common.{◌≡◌, ℕ, ◌+◌, ◌-◌, List, [], ◌∷◌, ◌++◌, take, drop, sym, ap, ◌∙◌, arith}
use Rattle.std.proofs.lemmas.Bool.{eqb-true}
use Rattle.std.proofs.lemmas.List.{length-take-le, drop-take, nil_from_length}
use Rattle.byteorder.specs.Numbers.{big_from-take}
use Rattle.pl_event.specs.declared.events.Event.TheVariants.{Read}
use Rattle.pl_event.specs.declared.events.Message.TheVariants.{Line}
use Rattle.pl_stages.proofs.FrameSteps.{takes_skipped, takes_whole}
use Rattle.pl_stages.proofs.length_framer.LengthFramer.take_some.Goals as goal

payload_part : (width payload : ℕ) (bytes : List ℕ) → take (width + payload - width) (drop width bytes) ≡ drop width (take (width + payload) bytes)
payload_part width payload bytes =
    ap (λ n. take n (drop width bytes)) (let same : width + payload - width ≡ payload = omega arith in same) ∙ sym (drop-take width payload bytes)

pub returns-then-self-gt0-clause-takes : goal.returns-then-self-gt0-clause-takes
returns-then-self-gt0-clause-takes c =
    let size = length-take-le c.min-skipped.result c.args.bytes.now (omega arith) in
    takes_skipped _ _ _ _ _ _ _ c.args.self.now.widths (c.args.self.now.skipping c.if-self-gt0.true) c.if-self-gt0.true
    (omega (arith, size)) (omega (arith, size))

pub returns-in-Whole-clause-takes : goal.returns-in-Whole-clause-takes
returns-in-Whole-clause-takes c =
    let front = c.in-Whole.ensures in
    let kept = c.args.self.now.partial in
    let none = eqb-true kept.len 0 (sym c.is_empty.ensures ∙ c.if-is_empty.true) in
    let nothing = nil_from_length kept.items (omega (arith, none, kept.ok.0)) in
    let end = c.args.self.now.width + c.in-Whole.len in
    let same = big_from-take 0 c.args.self.now.width end c.args.bytes.now (omega arith) in
    let size = length-take-le end c.args.bytes.now front.2 in
    let says = front.0 in
    takes_whole _ _ _ _ _ (take end c.args.bytes.now) _ _ _ c.args.self.now.widths (omega (arith, c.if-self-gt0.false))
    (ap (λ before. before ++ take end c.args.bytes.now) (sym nothing)) nothing
    (omega (arith, same, says, front.1)) (omega (arith, same, says, size))
    (c.in_ok-push.ensures.items
    ∙ ap (λ made. c.args.up.now.items ++ made ∷ [])
    (c.line_of.ensures ∙ ap (λ t. Read (Line t))
    (c.in_ok-from_slice.ensures.ok ∙ payload_part c.args.self.now.width c.in-Whole.len c.args.bytes.now)))
