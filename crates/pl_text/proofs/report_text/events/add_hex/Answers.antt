use Rattle.std.proofs.Common.{◌≡◌, ℕ, ◌<◌, List, ◌++◌, length, ap, ◌∙◌, arith, rules, append_assoc, append-nil}
use Rattle.std.proofs.lemmas.List.{nil_from_length}
use Rattle.std.specs.Slice.Iter.{chunks_rest}
use Rattle.hex.specs.Hex.{encode_lower}
use Rattle.pl_text.proofs.HexTexts.{encode_lower-nil, encode_lower-parts, hex_text-filled}
use Rattle.pl_text.proofs.report_text.events.add_hex.Goals as goal

pub loop-some-preserved : goal.loop-some-preserved
loop-some-preserved c =
    let steps = c.in-Some.ensures.steps in
    let some = c.in-Some.some.now in
    let rest = chunks_rest c.next.new.self in
    let old = c.loop-some.text.items in
    let added : c.add_some.new.text.items ≡ old ++ encode_lower some = search rules in (
      search rules,
      tt,
      steps.0 ∙ c.loop-some.invariant.2,
      ap (λ (t : List ℕ). t ++ encode_lower rest) added
          ∙ append_assoc old (encode_lower some) (encode_lower rest)
          ∙ ap (λ (t : List ℕ). old ++ t) (encode_lower-parts _ some rest steps.1.0)
          ∙ c.loop-some.invariant.3,
    )

pub returns : goal.returns
returns c =
    let none = nil_from_length _ c.in-None.ensures.steps.1.0 in
    let filled : 0 < length c.args.bytes.now = search (rules, arith) in
    rw (hex_text-filled c.args.bytes.now filled) (rw (none, encode_lower-nil, append-nil) at c.loop-some.invariant.3)
