use Rattle.std.proofs.Common.{◌≡◌, ◌+◌, ◌<◌, ℕ, List, Option, length, map, get_or, set, slice_get, Some, refl, ap, sym, subst, ◌∙◌, arith}
use Rattle.std.proofs.lemmas.List.{get_or_default}
use Rattle.std.proofs.lemmas.List.Elements.{All-get_or}
use Rattle.std.proofs.lemmas.Option.{none-some, slice_get_read}
use Rattle.pl_part.specs.Parts.{ChannelPartView}
use Rattle.std.specs.List.{range_with_len}
use Rattle.pl_exec.specs.ChannelRows.{row_position}
use Rattle.pl_exec.specs.ExecutorNodes.{heads_of}
use Rattle.pl_exec.specs.SessionWords.{SeatsView}
use Rattle.pl_exec.proofs.SharesMade.{AreTaken, HasFirst, all-shares, next-share, next-taken, none-taken, rest-is}
use Rattle.pl_exec.proofs.sharing.nodes_on.Goals as goal

-- the channel that is read in a row
channel-at : (row here : List ℕ) (k channel : ℕ) → channel ≡ get_or here k channel → here ≡ row → k < length row → channel ≡ get_or row k 0
channel-at row here k channel read same within = read ∙ ap (λ (l : List ℕ). get_or l k channel) same ∙ get_or_default row k channel 0 within

pub loop-position-init : goal.loop-position-init
loop-position-init g c =
    let count : c.len.result ≡ length c.args.left.now.items = omega (arith, c.len.ensures, c.args.left.now.ok.0) in
    record {
      has = record {
        number = refl;
        unrefused = refl;
        words_are = refl;
        here = refl;
        positions = c.in_ok-positions.ensures ∙ (λ i. map (row_position (c.deref.ensures.value i)) (range_with_len 0 (count i)));
        parts = ap (λ (l : List (ChannelPartView g.row.S.Denot g.row.T.Denot)). length l) c.in_ok-with_capacity.ensures.items;
        seats = ap (λ (l : List (Option SeatsView)). length l) c.in_ok-with_capacity-2.ensures.items;
        each = λ j share slot at there. absurd (none-some share (ap (λ (l : List (ChannelPartView g.row.S.Denot g.row.T.Denot)). slice_get l j) (sym c.in_ok-with_capacity.ensures.items) ∙ at));
        own = c.new.ensures.items ∙ ap (λ (l : List (ChannelPartView g.row.S.Denot g.row.T.Denot)). heads_of l) (sym c.in_ok-with_capacity.ensures.items);
      };
      taken = none-taken c.args.number c.args.left.now.items c.args.seats.now.items c.args.here.items;
    }

pub index_mut-requires-in-loop-position : goal.index_mut-requires-in-loop-position
index_mut-requires-in-loop-position g c =
    let row = c.args.here.items in
    let k = c.loop-position.position in
    let within : k < length row = omega (arith, c.loop-position-test.true, c.len-position-end.ensures, c.args.here.ok.0) in
    let channel-is = channel-at row _ k c.index-channel.result.now c.index-channel.ensures c.loop-position.invariant.has.here within in
    let there = All-get_or (λ n. n < length c.args.left.now.items) row k 0 within c.requires.row.there in
    omega (arith, channel-is, there, c.loop-position.invariant.taken.rests.seats_count, c.requires.seats, c.loop-position.seats.ok.0)

pub loop-position-preserved : goal.loop-position-preserved
loop-position-preserved g c =
    let has = c.loop-position.invariant.has in
    let taken = c.loop-position.invariant.taken in
    let row = c.args.here.items in
    let k = c.loop-position.position in
    let within : k < length row = omega (arith, c.loop-position-test.true, c.len-position-end.ensures, c.args.here.ok.0) in
    let channel = c.index-channel.result.now in
    let channel-is = channel-at row _ k channel c.index-channel.ensures has.here within in
    let p = c.index_mut.result.now in
    let p' = c.take_share.new.self in
    let share = c.in_ok-share.share in
    let slot = c.index_mut-in-loop-position.result.now in
    let slot' = c.add_share.new.seats in
    let left = c.loop-position.left.items in
    let seats = c.loop-position.seats.items in
    let there = All-get_or (λ n. n < length c.args.left.now.items) row k 0 within c.requires.row.there in
    let below : channel < length left = omega (arith, channel-is, there, taken.rests.parts_count) in
    let below-seats : channel < length seats = omega (arith, channel-is, there, taken.rests.seats_count, c.requires.seats) in
    let was : slice_get c.args.left.now.items (get_or row k 0) ≡ Some p = sym (taken.ahead k (omega arith) within) ∙ ap (λ (n : ℕ). slice_get left n) (sym channel-is) ∙ slice_get_read left (length left) channel p refl below c.index_mut.ensures.value in
    let seat : slice_get c.args.seats.now.items (get_or row k 0) ≡ Some slot = sym (taken.seats_ahead k (omega arith) within) ∙ ap (λ (n : ℕ). slice_get seats n) (sym channel-is) ∙ slice_get_read seats (length seats) channel slot refl below-seats c.index_mut-in-loop-position.ensures.value in
    record {
      has =
          next-share g.S.Stage.meaning g.S.Stage.stands_after g.T.Transport.state c.args.left.now.items c.args.words.now c.args.seats.now.items c.args.number row k c.loop-position.nodes c.add_share.new.nodes p share slot has c.in_ok-add_share.ensures.got was seat
          c.in_ok-share.ensures.share;
      taken =
          subst (λ (n : ℕ). AreTaken c.args.number c.args.left.now.items c.args.seats.now.items row (k + 1) (set left n p') (set seats n slot')) (sym channel-is)
          (next-taken c.args.number c.args.left.now.items c.args.seats.now.items row k left seats p p' slot slot' c.requires.row within taken was seat
          (rest-is c.args.number p share p' slot slot' c.in_ok-share.ensures.share.share_is c.in_ok-share.ensures.rest.share_is c.in_ok-add_share.ensures.left));
    }

pub returns-clause-shares : goal.returns-clause-shares
returns-clause-shares g c =
    let end : c.loop-position.position ≡ length c.args.here.items = omega (arith, c.loop-position-test.false, c.loop-position.auto.position-end, c.len-position-end.ensures, c.args.here.ok.0) in
    all-shares g.S.Stage.meaning g.S.Stage.stands_after g.T.Transport.state c.args.left.now.items c.args.words.now c.args.seats.now.items c.args.number c.args.here.items c.loop-position.nodes c.requires.row
    (subst (λ (n : ℕ). HasFirst g.S.Stage.meaning g.S.Stage.stands_after g.T.Transport.state c.args.left.now.items c.args.words.now c.args.seats.now.items c.args.number c.args.here.items n c.loop-position.nodes) end c.loop-position.invariant.has)

pub returns-clause-rests : goal.returns-clause-rests
returns-clause-rests g c = c.loop-position.invariant.taken.rests
