use Rattle.std.proofs.Common.{◌<◌, Option, length, set, refl, sym, ap, subst, ◌∙◌, arith}
use Rattle.std.specs.Option.{option_map_or}
use Rattle.std.proofs.lemmas.Option.{slice_get_read}
use Rattle.pl_net.specs.Nets.{StationView, has_room, memory_at}
use Rattle.pl_net.specs.Stations.{stations_view, waits_of}
use Rattle.pl_net.proofs.OneExecutor.{replaces-set}
use Rattle.pl_context.proofs.ContextLemmas.{on_err}
use Rattle.pl_context.proofs.WaitingCalls.{at-set_here}
use Rattle.pl_net.proofs.Oldest.{same-waits, none-open, hand-oldest, hand-there, room-stands, room-hands}
use Rattle.pl_net.proofs.stations.Stations.hand.Goals as goal

pub index_mut-requires : goal.index_mut-requires
index_mut-requires g c =
    let w = c.requires.stands in
    let size = c.args.self.now.stations.ok.0 in
    let t = hand-there g.N.Nodes.view_of g.N.Nodes.stands w.0 w.1 (stations_view c.args.self.now w.2) w.3 c.args.me c.args.self.now.capacity c.next_target.result (c.next_target.ensures w.0 w.1 w.2 w.3)
    c.in-Some.target c.in-Some.is in
    omega (arith, t, size)

pub hand_to-requires-clause-there : goal.hand_to-requires-clause-there
hand_to-requires-clause-there g c =
    let w = c.requires.stands in
    let size = c.args.self.now.stations.ok.0 in
    let t = hand-there g.N.Nodes.view_of g.N.Nodes.stands w.0 w.1 (stations_view c.args.self.now w.2) w.3 c.args.me c.args.self.now.capacity c.next_target.result (c.next_target.ensures w.0 w.1 w.2 w.3)
    c.in-Some.target c.in-Some.is in
    (c.requires.there, omega (arith, t, size))

pub hand_to-requires-clause-memory : goal.hand_to-requires-clause-memory
hand_to-requires-clause-memory g c =
    let w = c.requires.stands in
    let t = hand-there g.N.Nodes.view_of g.N.Nodes.stands w.0 w.1 (stations_view c.args.self.now w.2) w.3 c.args.me c.args.self.now.capacity c.next_target.result (c.next_target.ensures w.0 w.1 w.2 w.3)
    c.in-Some.target c.in-Some.is in
    subst (λ (o : Option StationView). 0 < option_map_or (λ (e : StationView). e.room) o 0) (sym (at-set_here c.args.self.now.stations.items c.in-Some.target c.reserve.new.self t)) (c.in_ok-reserve-in-Some.ensures.room)

pub hand_to-requires-clause-stands : goal.hand_to-requires-clause-stands
hand_to-requires-clause-stands g c =
    let w = c.requires.stands in
    let view_of = g.N.Nodes.view_of in
    let stands = g.N.Nodes.stands in
    let from = stations_view c.args.self.now w.2 in
    let found = c.next_target.ensures w.0 w.1 w.2 w.3 in
    let t = hand-there view_of stands w.0 w.1 from w.3 c.args.me c.args.self.now.capacity c.next_target.result found c.in-Some.target c.in-Some.is in
    let p = hand-oldest view_of stands w.0 w.1 from w.3 c.args.me c.args.self.now.capacity c.next_target.result found c.in-Some.target c.in-Some.is in
    let es = c.args.self.now.stations.items in
    let b = c.index_mut.result.now in
    let r = replaces-set es c.in-Some.target b c.reserve.new.self (slice_get_read es (length es) c.in-Some.target b refl t c.index_mut.ensures.value) in (
      w.0,
      w.1,
      w.2,
      p.i,
      room-stands view_of stands w.0 w.1 from w.3 c.in-Some.target (set es c.in-Some.target c.reserve.new.self) b c.reserve.new.self r (ap (λ (e : StationView). e.queue) c.reserve.ensures.same) (ap (λ (e : StationView). e.waiting) c.reserve.ensures.same),
      p.own_at,
    )

pub returns-in-None-clause-none : goal.returns-in-None-clause-none
returns-in-None-clause-none g c = λ is world x backlogs h.
    none-open (has_room c.args.self.now.stations.items c.args.self.now.capacity) (backlogs c.args.me) (sym c.in-None.is ∙ c.next_target.ensures world x backlogs h)

pub returns-in_ok-reserve-in-Some-clause-hands : goal.returns-in_ok-reserve-in-Some-clause-hands
returns-in_ok-reserve-in-Some-clause-hands g c = λ is world x backlogs h.
    let view_of = g.N.Nodes.view_of in
    let stands = g.N.Nodes.stands in
    let from = stations_view c.args.self.now backlogs in
    let found = c.next_target.ensures world x backlogs h in
    let t = hand-there view_of stands world x from h c.args.me c.args.self.now.capacity c.next_target.result found c.in-Some.target c.in-Some.is in
    let p = hand-oldest view_of stands world x from h c.args.me c.args.self.now.capacity c.next_target.result found c.in-Some.target c.in-Some.is in
    let es = c.args.self.now.stations.items in
    let b = c.index_mut.result.now in
    let r = replaces-set es c.in-Some.target b c.reserve.new.self (slice_get_read es (length es) c.in-Some.target b refl t c.index_mut.ensures.value) in
    let q = ap (λ (e : StationView). e.queue) c.reserve.ensures.same in
    let y = ap (λ (e : StationView). e.waiting) c.reserve.ensures.same in
    let s = c.hand_to.ensures.hands world x backlogs p.i
    (room-stands view_of stands world x from h c.in-Some.target (set es c.in-Some.target c.reserve.new.self) b c.reserve.new.self r q y) p.own_at in
    (s.0, s.1, (p.i, p.open_at, room-hands view_of stands world x from h c.in-Some.target (set es c.in-Some.target c.reserve.new.self) b c.reserve.new.self r q y c.args.me p.i (stations_view c.hand_to.new.self s.0) s.2))

pub returns-in_err-reserve-in-Some-clause-err : goal.returns-in_err-reserve-in-Some-clause-err
returns-in_err-reserve-in-Some-clause-err g c = on_err c.from_residual.result (record {
  nodes = refl;
  stations = same-waits c.args.self.now.stations.items c.in-Some.target c.index_mut.result.now c.reserve.new.self c.index_mut.ensures.value (ap waits_of c.reserve.ensures.same);
  work = refl;
})

pub returns-in_err-reserve-in-Some-clause-stays : goal.returns-in_err-reserve-in-Some-clause-stays
returns-in_err-reserve-in-Some-clause-stays g c = on_err c.from_residual.result (λ world x backlogs h.
    let t = hand-there g.N.Nodes.view_of g.N.Nodes.stands world x (stations_view c.args.self.now backlogs) h c.args.me c.args.self.now.capacity c.next_target.result (c.next_target.ensures world x backlogs h)
    c.in-Some.target c.in-Some.is in
    let es = c.args.self.now.stations.items in
    let b = c.index_mut.result.now in
    let r = replaces-set es c.in-Some.target b c.reserve.new.self (slice_get_read es (length es) c.in-Some.target b refl t c.index_mut.ensures.value) in
    room-stands g.N.Nodes.view_of g.N.Nodes.stands world x (stations_view c.args.self.now backlogs) h c.in-Some.target (set es c.in-Some.target c.reserve.new.self) b c.reserve.new.self r (ap (λ (e : StationView). e.queue) c.reserve.ensures.same) (ap (λ (e : StationView). e.waiting) c.reserve.ensures.same))

pub returns-in_err-reserve-in-Some-clause-wanted : goal.returns-in_err-reserve-in-Some-clause-wanted
returns-in_err-reserve-in-Some-clause-wanted g c = on_err c.from_residual.result (λ world x backlogs h.
    let p = hand-oldest g.N.Nodes.view_of g.N.Nodes.stands world x (stations_view c.args.self.now backlogs) h c.args.me c.args.self.now.capacity c.next_target.result (c.next_target.ensures world x backlogs h)
    c.in-Some.target c.in-Some.is in
    (p.i, p.open_at))

pub returns-in_err-reserve-in-Some-clause-refused : goal.returns-in_err-reserve-in-Some-clause-refused
returns-in_err-reserve-in-Some-clause-refused g c = on_err c.from_residual.result (λ world x backlogs h.
    let es = c.args.self.now.stations.items in
    let from = stations_view c.args.self.now backlogs in
    let found = c.next_target.ensures world x backlogs h in
    let p = hand-oldest g.N.Nodes.view_of g.N.Nodes.stands world x from h c.args.me c.args.self.now.capacity c.next_target.result found c.in-Some.target c.in-Some.is in
    let t = hand-there g.N.Nodes.view_of g.N.Nodes.stands world x from h c.args.me c.args.self.now.capacity c.next_target.result found c.in-Some.target c.in-Some.is in
    let at = slice_get_read es (length es) c.in-Some.target c.index_mut.result.now refl t c.index_mut.ensures.value in
    record {
      i = p.i;
      entry = p.entry;
      oldest = p.open_at;
      is = p.is;
      memory = ap (memory_at es) p.target ∙ ap (λ (o : Option StationView). option_map_or (λ (e : StationView). e.room) o 0) at ∙ c.in_err-reserve-in-Some.ensures.refused;
    })
