use Rattle.std.proofs.Common.{◌≡◌, ◌<◌, ℕ, List, length, get_or, replicate, set, ap, sym, ◌∙◌, arith}
use Rattle.std.specs.List.{range_with_len}
use Rattle.std.proofs.lemmas.List.Elements.{All-get_or}
use Rattle.pl_exec.specs.ChannelRows.{by_channel}
use Rattle.pl_exec.proofs.ByChannel.{all-positions, by-none, next-position, positions-size}
use Rattle.pl_exec.proofs.sharing.positions.Goals as goal

pub loop-position-init : goal.loop-position-init
loop-position-init c = c.in_ok-positions.ensures.items_if_clones_equal (λ y e. e) ∙ sym (by-none (λ n k. k) c.args.row.now (replicate c.args.channels (length c.args.row.now)))

pub index_mut-requires : goal.index_mut-requires
index_mut-requires c =
    let row = c.args.row.now in
    let there = All-get_or (λ k. k < c.args.channels) row c.loop-position.position 0 c.loop-position-test.true c.requires.row.there in
    let size = ap (λ (l : List ℕ). length l) c.loop-position.invariant ∙ positions-size c.args.channels row c.requires.row (range_with_len 0 c.loop-position.position) in
    omega (arith, there, size, c.loop-position.positions.ok.0)

pub loop-position-preserved : goal.loop-position-preserved
loop-position-preserved c =
    let row = c.args.row.now in
    let k = c.loop-position.position in
    ap (λ (l : List ℕ). set l (get_or row k 0) k) c.loop-position.invariant
    ∙ next-position c.args.channels row c.requires.row k c.index_mut.result.now c.loop-position-test.true (c.index_mut.ensures.value ∙ ap (λ (l : List ℕ). get_or l (get_or row k 0) c.index_mut.result.now) c.loop-position.invariant)

pub returns : goal.returns
returns c =
    let row = c.args.row.now in
    let end : c.loop-position.position ≡ length row = omega (arith, c.loop-position-test.false, c.loop-position.auto.position-end) in
    c.loop-position.invariant
    ∙ ap (λ (n : ℕ). by_channel (λ n k. k) row (range_with_len 0 n) (replicate c.args.channels (length row))) end
    ∙ all-positions c.args.channels row c.requires.row
