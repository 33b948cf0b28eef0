use Rattle.std.proofs.Common.{◌≡◌, List, length, get_or, replicate, set, slice_get, Option, Some, None, refl, ap, sym, subst, ◌∙◌, arith}
use Rattle.std.proofs.lemmas.List.{get_or_default, length-set, set-get_or}
use Rattle.std.proofs.lemmas.Option.{none-some, same_Some, slice_get_read}
use Rattle.pl_event.proofs.Lists.{at_set_other}
use Rattle.pl_part.specs.Parts.{ChannelPartView}
use Rattle.pl_exec.specs.ChannelRows.{by_channel}
use Rattle.pl_exec.specs.SessionWords.{AreSeatsOf, SeatsView}
use Rattle.pl_exec.specs.Telling.{AreSeated, CanTell, IsToldAt, KeepsOthers, SettlesAt, TellsAt, channel_seats}
use Rattle.pl_exec.specs.ExecutorNodes.{channel_parts, parts_elsewhere}
use Rattle.pl_exec.proofs.PartsHere.{channel-within, part-at, parts-count, parts-set, seat-at, seats-set}
use Rattle.pl_exec.proofs.SeatLemmas.{none-told-at, seat-marks, seat-told, tells-at, told-at}
use Rattle.pl_exec.proofs.SettledWrites.{none-settles, settles-at, told-settles}
use Rattle.pl_exec.proofs.ToldNodes.{heads-told}
use Rattle.pl_exec.proofs.nodes.ExecutorNodes.tell_if.Goals as goal
use Rattle.pl_exec.proofs.nodes.ExecutorNodes.tell_if.Goals.{After-index, After-index_mut, After-index_mut-in-Some, After-tell}

-- ---- it is not wanted

pub returns-then-not-wanted-clause-told : goal.returns-then-not-wanted-clause-told
returns-then-not-wanted-clause-told g c =
    let n = c.args.self.now in
    let order = c.requires.in_order in
    let within = channel-within g.W.Planned.plan n order c.args.position c.requires.there in
    record {
      same = refl;
      in_order = order;
      own = refl;
      parts = none-told-at (channel_parts g.W.Planned.plan n) (get_or n.here.items c.args.position 0) (let size = parts-count g.W.Planned.plan n order in omega (arith, size, within));
    }

pub returns-then-not-wanted-clause-tells : goal.returns-then-not-wanted-clause-tells
returns-then-not-wanted-clause-tells g c = c.requires.told c.if-not-wanted.true

pub returns-then-not-wanted-clause-settled : goal.returns-then-not-wanted-clause-settled
returns-then-not-wanted-clause-settled g c =
    let n = c.args.self.now in
    told-settles (channel_seats g.W.Planned.plan n) (channel_parts g.W.Planned.plan n) (get_or n.here.items c.args.position 0) (c.requires.told c.if-not-wanted.true)

-- ---- the seats of the channel, and its part

slot-at : (g : _) (c : goal.After-index_mut g) → slice_get c.args.self.now.seats.items c.args.position ≡ Some c.index_mut.result.now
slot-at g c =
    let seats = c.args.self.now.seats.items in
    let size = c.requires.in_order.seats in
    let there = c.requires.there in
    slice_get_read seats (length seats) c.args.position c.index_mut.result.now refl (omega (arith, size, there)) c.index_mut.ensures.value

own-slot : (g : _) (c : goal.After-index_mut g) → slice_get (channel_seats g.W.Planned.plan c.args.self.now) (get_or c.args.self.now.here.items c.args.position 0) ≡ Some c.index_mut.result.now
own-slot g c = seat-at g.W.Planned.plan c.args.self.now c.requires.in_order c.args.position c.index_mut.result.now (slot-at g c)

own-seats : (g : _) (c : goal.After-index_mut-in-Some g) → slice_get (channel_seats g.W.Planned.plan c.args.self.now) (get_or c.args.self.now.here.items c.args.position 0) ≡ Some (Some c.in-Some.seats)
own-seats g c = own-slot g (goal.at.tell-requires g c).After-index_mut ∙ ap (λ (s : Option SeatsView). Some s) c.in-Some.is

here-part : (g : _) (c : goal.After-index_mut-in-Some g) → slice_get c.args.self.now.parts.items c.args.position ≡ Some c.index_mut-in-Some.result.now
here-part g c =
    let ps = c.args.self.now.parts.items in
    let size = c.requires.in_order.parts in
    let there = c.requires.there in
    slice_get_read ps (length ps) c.args.position c.index_mut-in-Some.result.now refl (omega (arith, size, there)) c.index_mut-in-Some.ensures.value

own-part : (g : _) (c : goal.After-index_mut-in-Some g) → slice_get (channel_parts g.W.Planned.plan c.args.self.now) (get_or c.args.self.now.here.items c.args.position 0) ≡ Some c.index_mut-in-Some.result.now
own-part g c = part-at g.W.Planned.plan c.args.self.now c.requires.in_order c.args.position c.index_mut-in-Some.result.now (here-part g c)

-- the channel that is told of
same-channel : (g : _) (c : goal.After-index g) → c.index.result.now ≡ get_or c.args.self.now.here.items c.args.position 0
same-channel g c = c.index.ensures ∙ get_or_default c.args.self.now.here.items c.args.position c.index.result.now 0 c.requires.there

pub tell-requires : goal.tell-requires
tell-requires g c =
    let self = c.args.self.now in
    let at = goal.at.tell-requires g c in
    let channel = get_or self.here.items c.args.position 0 in
    let p = c.index_mut-in-Some.result.now in
    let s = c.in-Some.seats in
    let seat = c.requires.seated.each channel s (own-seats g at.After-index_mut-in-Some) in
    subst (λ (k : _). CanTell g.S.Stage.meaning g.S.Stage.stands_after g.T.Transport.state self.words.now k s p) (sym (same-channel g at.After-index))
    (record {
      own = seat.own;
      holds = (g.W.Named.world, (c.requires.nodes.parts channel p (own-part g at.After-index_mut-in-Some)).holds);
      marks =
          seat-marks self.words.now g.W.Planned.plan (channel_seats g.W.Planned.plan self) c.requires.seated channel g.W.Named.world g.S.Stage.meaning g.S.Stage.stands_after g.T.Transport.state self.number self.was_refused (channel_parts g.W.Planned.plan self)
          p s c.requires.nodes (own-part g at.After-index_mut-in-Some) (own-seats g at.After-index_mut-in-Some);
      ordered = seat.ordered;
    })

-- its part and its seats by channel, once they have told
parts-are : (g : _) (c : goal.After-tell g)
    → by_channel (λ other part. part) c.args.self.now.here.items (set c.args.self.now.parts.items c.args.position c.tell.new.part) (parts_elsewhere g.W.Planned.plan)
    ≡ set (channel_parts g.W.Planned.plan c.args.self.now) (get_or c.args.self.now.here.items c.args.position 0) c.tell.new.part
parts-are g c = parts-set g.W.Planned.plan c.args.self.now c.requires.in_order c.args.position c.tell.new.part c.requires.there

seats-are : (g : _) (c : goal.After-tell g)
    → by_channel (λ none slot. slot) c.args.self.now.here.items (set c.args.self.now.seats.items c.args.position (Some c.tell.new.seats)) (replicate (length g.W.Planned.plan.channels) None)
    ≡ set (channel_seats g.W.Planned.plan c.args.self.now) (get_or c.args.self.now.here.items c.args.position 0) (Some c.tell.new.seats)
seats-are g c = seats-set g.W.Planned.plan c.args.self.now c.requires.in_order c.args.position (Some c.tell.new.seats) c.requires.there

pub returns-in-Some-clause-told : goal.returns-in-Some-clause-told
returns-in-Some-clause-told g c =
    let n = c.args.self.now in
    let k = c.args.position in
    let order = c.requires.in_order in
    let at = goal.at.returns-in-Some-clause-told g c in
    let p = c.index_mut-in-Some.result.now in
    record {
      same = refl;
      in_order = record {
        row = order.row;
        parts = length-set n.parts.items k c.tell.new.part ∙ order.parts;
        seats = length-set n.seats.items k (Some c.tell.new.seats) ∙ order.seats;
        positions = order.positions;
      };
      own = heads-told n.parts.items k p c.tell.new.part (here-part g at.After-index_mut-in-Some) c.tell.ensures.told;
      parts = subst (λ (ps : List (ChannelPartView g.row.S.Denot g.row.T.Denot)). IsToldAt (channel_parts g.W.Planned.plan n) (get_or n.here.items k 0) ps) (sym (parts-are g at.After-tell))
          (told-at (channel_parts g.W.Planned.plan n) (get_or n.here.items k 0) p c.tell.new.part (own-part g at.After-index_mut-in-Some) c.tell.ensures.told);
    }

pub returns-in-Some-clause-seated : goal.returns-in-Some-clause-seated
returns-in-Some-clause-seated g c =
    let n = c.args.self.now in
    let channel = get_or n.here.items c.args.position 0 in
    let at = goal.at.returns-in-Some-clause-seated g c in
    subst (λ (seats : List (Option SeatsView)). AreSeated n.words.now g.W.Planned.plan seats) (sym (seats-are g at.After-tell))
    (seat-told n.words.now g.W.Planned.plan (channel_seats g.W.Planned.plan n) c.requires.seated channel c.in-Some.seats c.tell.new.seats (own-seats g at.After-index_mut-in-Some)
    (subst (λ (k : _). AreSeatsOf n.words.now k c.tell.new.seats) (same-channel g at.After-index) c.tell.ensures.own) c.tell.ensures.same)

pub returns-in-Some-clause-tells : goal.returns-in-Some-clause-tells
returns-in-Some-clause-tells g c =
    let n = c.args.self.now in
    let channel = get_or n.here.items c.args.position 0 in
    let at = (goal.at.returns-in-Some-clause-tells g c).After-tell in
    subst (λ (z : List (Option SeatsView) × List (ChannelPartView g.row.S.Denot g.row.T.Denot)). TellsAt z.0 z.1 channel) (λ i. (sym (seats-are g at) i, sym (parts-are g at) i))
    (tells-at (channel_seats g.W.Planned.plan n) (channel_parts g.W.Planned.plan n) channel c.tell.new.seats c.tell.new.part c.tell.ensures.tells)

pub returns-in-Some-clause-settled : goal.returns-in-Some-clause-settled
returns-in-Some-clause-settled g c =
    let n = c.args.self.now in
    let channel = get_or n.here.items c.args.position 0 in
    let at = goal.at.returns-in-Some-clause-settled g c in
    subst (λ (seats : List (Option SeatsView)). SettlesAt (channel_seats g.W.Planned.plan n) (channel_parts g.W.Planned.plan n) channel seats) (sym (seats-are g at.After-tell))
    (settles-at (channel_seats g.W.Planned.plan n) (channel_parts g.W.Planned.plan n) channel c.in-Some.seats c.tell.new.seats c.index_mut-in-Some.result.now (own-seats g at.After-index_mut-in-Some) (own-part g at.After-index_mut-in-Some) c.tell.ensures.settled)

pub returns-in-Some-clause-others : goal.returns-in-Some-clause-others
returns-in-Some-clause-others g c =
    let n = c.args.self.now in
    let channel = get_or n.here.items c.args.position 0 in
    let at = (goal.at.returns-in-Some-clause-others g c).After-tell in
    subst (λ (seats : List (Option SeatsView)). KeepsOthers (channel_seats g.W.Planned.plan n) channel seats) (sym (seats-are g at))
    (λ x slot other at. at_set_other (channel_seats g.W.Planned.plan n) channel x (Some c.tell.new.seats) slot other at)

-- ---- there are none

-- the slot is as it was
unchanged : (g : _) (c : goal.After-index_mut g) → set c.args.self.now.seats.items c.args.position c.index_mut.result.now ≡ c.args.self.now.seats.items
unchanged g c =
    let seats = c.args.self.now.seats.items in
    ap (λ (slot : Option SeatsView). set seats c.args.position slot) c.index_mut.ensures.value ∙ set-get_or seats c.args.position c.index_mut.result.now

pub returns-in_default-clause-told : goal.returns-in_default-clause-told
returns-in_default-clause-told g c =
    let n = c.args.self.now in
    let order = c.requires.in_order in
    let within = channel-within g.W.Planned.plan n order c.args.position c.requires.there in
    record {
      same = refl;
      in_order = record { row = order.row; parts = order.parts; seats = length-set n.seats.items c.args.position c.index_mut.result.now ∙ order.seats; positions = order.positions };
      own = refl;
      parts = none-told-at (channel_parts g.W.Planned.plan n) (get_or n.here.items c.args.position 0) (let size = parts-count g.W.Planned.plan n order in omega (arith, size, within));
    }

pub returns-in_default-clause-seated : goal.returns-in_default-clause-seated
returns-in_default-clause-seated g c =
    let n = c.args.self.now in
    subst (λ (seats : List (Option SeatsView)). AreSeated n.words.now g.W.Planned.plan (by_channel (λ none slot. slot) n.here.items seats (replicate (length g.W.Planned.plan.channels) None)))
    (sym (unchanged g (goal.at.returns-in_default-clause-seated g c).After-index_mut)) c.requires.seated

pub returns-in_default-clause-tells : goal.returns-in_default-clause-tells
returns-in_default-clause-tells g c =
    let n = c.args.self.now in
    let at = (goal.at.returns-in_default-clause-tells g c).After-index_mut in
    subst (λ (seats : List (Option SeatsView)). TellsAt (by_channel (λ none slot. slot) n.here.items seats (replicate (length g.W.Planned.plan.channels) None)) (channel_parts g.W.Planned.plan n) (get_or n.here.items c.args.position 0))
    (sym (unchanged g at))
    (λ s p h slot there is. absurd (none-some s (sym c.in_default.is ∙ same_Some c.index_mut.result.now (Some s) (sym (own-slot g at) ∙ slot))))

pub returns-in_default-clause-settled : goal.returns-in_default-clause-settled
returns-in_default-clause-settled g c =
    let n = c.args.self.now in
    none-settles (channel_seats g.W.Planned.plan n) (channel_parts g.W.Planned.plan n) (get_or n.here.items c.args.position 0) _ c.index_mut.result.now (own-slot g (goal.at.returns-in_default-clause-settled g c).After-index_mut) c.in_default.is

pub returns-in_default-clause-others : goal.returns-in_default-clause-others
returns-in_default-clause-others g c =
    let n = c.args.self.now in
    subst (λ (seats : List (Option SeatsView)). KeepsOthers (channel_seats g.W.Planned.plan n) (get_or n.here.items c.args.position 0) (by_channel (λ none slot. slot) n.here.items seats (replicate (length g.W.Planned.plan.channels) None)))
    (sym (unchanged g (goal.at.returns-in_default-clause-others g c).After-index_mut)) (λ x slot other at. at)
