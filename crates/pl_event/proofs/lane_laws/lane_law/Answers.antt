use Rattle.std.proofs.Common.{◌≡◌, ℕ, ◌+◌, ◌-◌, List, [], ◌∷◌, ◌++◌, length, take, drop, suc, sym, ap, ◌∙◌, arith}
use Rattle.std.proofs.lemmas.List.{take_more, take-append-drop}
use Rattle.std.proofs.Math.Seq.{drop-cons}
use Rattle.std.proofs.lemmas.Option.{slice_get_within, get_or_from_slice_get}
use Rattle.pl_event.specs.Meaning.{Meaning, up_of, down_of}
use Rattle.pl_event.specs.Lanes.{lane, through, out_through, written, turn_ended, through_by-push}
use Rattle.pl_event.proofs.LaneLemmas.{lane-near, lane-far, lane-prefix, written-turn}
use Rattle.pl_event.proofs.lane_laws.lane_law.Goals as goal

pub returns-clause-inbound : goal.returns-clause-inbound
returns-clause-inbound c = λ inbound out input hop m at_hop.
    let within = slice_get_within inbound hop m at_hop in
    lane-near inbound out input (hop + 1) (omega arith)
    ∙ ap (λ (ms : List Meaning). through ms input) (take_more inbound hop m within ∙ ap (λ (n : Meaning). take hop inbound ++ n ∷ []) (get_or_from_slice_get inbound hop m m at_hop))
    ∙ through_by-push up_of (take hop inbound) m input
    ∙ ap (up_of m) (sym (lane-near inbound out input hop (omega arith)))

pub returns-clause-written : goal.returns-clause-written
returns-clause-written c = λ inbound out input.
    let none : length inbound + 1 - length inbound - 1 ≡ 0 = omega arith in
    lane-far inbound out input (length inbound + 1) (omega arith)
    ∙ ap (λ (n : ℕ). out_through (take n out) (written inbound input)) none

pub returns-clause-outbound : goal.returns-clause-outbound
returns-clause-outbound c = λ inbound out input index m at_index.
    let within = slice_get_within out index m at_index in
    let next : length inbound + 2 + index - length inbound - 1 ≡ index + 1 = omega arith in
    let here : length inbound + 1 + index - length inbound - 1 ≡ index = omega arith in
    lane-far inbound out input (length inbound + 2 + index) (omega arith)
    ∙ ap (λ (n : ℕ). out_through (take n out) (written inbound input)) next
    ∙ ap (λ (ms : List Meaning). out_through ms (written inbound input)) (take_more out index m within ∙ ap (λ (n : Meaning). take index out ++ n ∷ []) (get_or_from_slice_get out index m m at_index))
    ∙ through_by-push down_of (take index out) m (written inbound input)
    ∙ ap (down_of m) (sym (lane-far inbound out input (length inbound + 1 + index) (omega arith) ∙ ap (λ (n : ℕ). out_through (take n out) (written inbound input)) here))

pub returns-clause-grows : goal.returns-clause-grows
returns-clause-grows c = λ inbound out input more hop longer. lane-prefix inbound out hop input more longer

pub returns-clause-turn : goal.returns-clause-turn
returns-clause-turn c = λ inbound out input hop m at_hop turn none.
    let within = slice_get_within inbound hop m at_hop in
    let split : inbound ≡ take hop inbound ++ m ∷ drop (suc hop) inbound =
    sym (take-append-drop hop inbound)
    ∙ ap (λ (ms : List Meaning). take hop inbound ++ ms) (drop-cons inbound hop m within ∙ ap (λ (n : Meaning). n ∷ drop (suc hop) inbound) (get_or_from_slice_get inbound hop m m at_hop)) in
    let here = written-turn (take hop inbound) m (drop (suc hop) inbound) input none turn in
    let own : through (take hop inbound) input ≡ lane inbound out input hop = sym (lane-near inbound out input hop (omega arith)) in
    let past : length inbound + 1 - length inbound - 1 ≡ 0 = omega arith in (
      lane-far inbound out input (length inbound + 1) (omega arith)
          ∙ ap (λ (n : ℕ). out_through (take n out) (written inbound input)) past
          ∙ ap (λ (ms : List Meaning). written ms input) split ∙ here.0 ∙ ap (down_of m) own,
      ap (λ (ms : List Meaning). turn_ended ms input) split ∙ here.1 ∙ ap m.ended own,
    )
