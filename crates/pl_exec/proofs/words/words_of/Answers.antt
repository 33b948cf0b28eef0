use Rattle.std.proofs.Common.{◌≡◌, ◌+◌, ◌++◌, [], ◌∷◌, List, length, replicate, take, ap, sym, ◌∙◌, subst, arith, length-append}
use Rattle.std.proofs.lemmas.List.{length-replicate, length-take-le, take_all, take_more}
use Rattle.pl_world.specs.declared.session.Recorded.{Recorded}
use Rattle.pl_exec.specs.SessionWords.{AreHeadSeatsOf, AreUnused, ChannelNames, HaveMarksOf, SeatsView, SightView, new_head_seats, new_sights, new_seats}
use Rattle.pl_exec.proofs.WordLemmas.{head_seats-marks, head_seats-new, head_seats-own, heads-step, readers-step}
use Rattle.pl_exec.proofs.words.words_of.Goals as goal

pub loop-channel-init : goal.loop-channel-init
loop-channel-init g c =
    let none = c.in_ok-words.ensures.items in
    record {
      count = ap (λ (l : List ChannelNames). length l) none;
      heads = c.in_ok-heads.ensures.items ∙ ap (λ (l : List ChannelNames). new_head_seats l []) (sym none);
      readers = c.in_ok-all.ensures ∙ ap (λ (l : List ChannelNames). replicate c.args.readers (new_sights l)) (sym none);
    }

pub add_row-requires : goal.add_row-requires
add_row-requires g c =
    let inv = c.loop-channel.invariant in
    c.in_ok-own.ensures.count ∙ sym (ap (λ (l : List (List SightView)). length l) inv.readers ∙ length-replicate c.args.readers (new_sights c.loop-channel.words.items))

pub loop-channel-preserved : goal.loop-channel-preserved
loop-channel-preserved g c =
    let inv = c.loop-channel.invariant in
    let words = c.loop-channel.words.items in
    let channels = c.args.channels.now in
    let index = c.loop-channel.channel-index in
    let done = take index channels in
    let channel = c.channel-item.result in
    let own = c.in_ok-own.own in
    let row = c.in_ok-own.row.items in
    let added = c.in_ok-push.ensures.items in
    let taken : take (index + 1) channels ≡ done ++ channel ∷ [] = take_more channels index channel c.loop-channel-test.true ∙ ap (λ (r : Recorded g.row.S.Denot g.row.T.Denot). done ++ r ∷ []) (sym c.channel-item.is) in
    let seats : c.in_ok-own.seats ≡ new_seats own channel.pipeline.low channel.pipeline.high = c.in_ok-own.ensures.seats ∙ (λ i. new_seats own (c.low.ensures.low i) (c.high.ensures.high i)) in
    record {
      count = let more = ap (λ (l : List ChannelNames). length l) added in omega (arith, more, inv.count, length-append words (own ∷ []));
      heads =
          c.in_ok-push-2.ensures.items
          ∙ heads-step words done own channel c.loop-channel.heads.items c.in_ok-own.seats (inv.count ∙ sym (length-take-le index channels (omega (arith, c.loop-channel-test.true)))) inv.heads seats
          ∙ (λ i. new_head_seats (sym added i) (sym taken i));
      readers =
          c.in_ok-add_row.ensures
          ∙ readers-step c.args.readers words own c.loop-channel.all.items row inv.readers c.in_ok-own.ensures.count c.in_ok-own.ensures.sights
          ∙ (λ i. replicate c.args.readers (new_sights (sym added i)));
    }

-- nobody has used them
pub invariant_of-result : goal.invariant_of-result
invariant_of-result g c = subst AreUnused (sym c.loop-channel.invariant.heads) (head_seats-new c.loop-channel.words.items (take c.loop-channel.channel-index c.args.channels.now))

-- the seats of all channels were made
made : (g : _) (c : goal.After-loop-channel g) → AreHeadSeatsOf c.loop-channel.words.items c.loop-channel.heads.items × HaveMarksOf c.loop-channel.heads.items c.args.channels.now
made g c =
    let channels = c.args.channels.now in
    let words = c.loop-channel.words.items in
    let inv = c.loop-channel.invariant in
    let whole : take c.loop-channel.channel-index channels ≡ channels = take_all c.loop-channel.channel-index channels c.loop-channel-test.false in
    let count : length words ≡ length channels = omega (arith, inv.count, c.loop-channel-test.false) in
    subst (λ (heads : List SeatsView). AreHeadSeatsOf words heads × HaveMarksOf heads channels) (sym (inv.heads ∙ ap (λ (l : List (Recorded g.row.S.Denot g.row.T.Denot)). new_head_seats words l) whole))
    (head_seats-own words channels count, head_seats-marks words channels count)

pub returns-clause-heads : goal.returns-clause-heads
returns-clause-heads g c =
    c.loop-channel.invariant.heads
    ∙ ap (λ (l : List (Recorded g.row.S.Denot g.row.T.Denot)). new_head_seats c.loop-channel.words.items l) (take_all c.loop-channel.channel-index c.args.channels.now c.loop-channel-test.false)

pub returns-clause-own_heads : goal.returns-clause-own_heads
returns-clause-own_heads g c = (made g c).0

pub returns-clause-marks : goal.returns-clause-marks
returns-clause-marks g c = (made g c).1
