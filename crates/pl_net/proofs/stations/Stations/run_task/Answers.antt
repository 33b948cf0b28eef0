use Rattle.std.proofs.Common.{[], length, set, refl, ap, ◌∙◌, arith}
use Rattle.std.specs.Option.{option_map_or}
use Rattle.std.proofs.lemmas.List.{set-get_or}
use Rattle.std.proofs.lemmas.Option.{slice_get_read}
use Rattle.pl_net.specs.Nets.{StationView, StationsView}
use Rattle.pl_net.specs.Stations.{stations_view}
use Rattle.pl_net.proofs.OneExecutor.{Replaces, replaces-set}
use Rattle.pl_net.proofs.StationSteps.{queued-written, queued-number, queued-good, task-stands}
use Rattle.pl_net.proofs.stations.Stations.run_task.Goals as goal

-- its own place among all
own : (g : _) (c : goal.After-take-arg-in-Some-1 g) → Replaces c.args.self.now.stations.items (set c.args.self.now.stations.items c.args.me c.next_task.new.self) c.args.me c.index_mut.result.now c.next_task.new.self
own g c =
    let es = c.args.self.now.stations.items in
    let a = c.index_mut.result.now in
    replaces-set es c.args.me a c.next_task.new.self (slice_get_read es (length es) c.args.me a refl (omega (arith, c.requires.there, c.args.self.now.stations.ok.0)) c.index_mut.ensures.value)

pub take-requires-clause-next : goal.take-requires-clause-next
take-requires-clause-next g c =
    let w = c.requires.stands in (
      w.0,
      w.2.hold,
      queued-good g.N.Nodes.view_of g.N.Nodes.stands w.0 c.args.me (stations_view c.args.self.now w.1) w.2 (set c.args.self.now.stations.items c.args.me c.next_task.new.self) c.index_mut.result.now c.next_task.new.self (own g c)
          c.in-Some.envelope c.in-Some.ensures.front c.in-Some.ensures.waiting,
    )

pub take-requires-clause-written : goal.take-requires-clause-written
take-requires-clause-written g c =
    let w = c.requires.stands in
    queued-written g.N.Nodes.view_of g.N.Nodes.stands w.0 c.args.me (stations_view c.args.self.now w.1) w.2 (set c.args.self.now.stations.items c.args.me c.next_task.new.self) c.index_mut.result.now c.next_task.new.self (own g c)
    c.in-Some.envelope c.in-Some.ensures.front c.in-Some.ensures.waiting

pub take-requires-clause-number : goal.take-requires-clause-number
take-requires-clause-number g c =
    let w = c.requires.stands in
    queued-number g.N.Nodes.view_of g.N.Nodes.stands w.0 c.args.me (stations_view c.args.self.now w.1) w.2 (set c.args.self.now.stations.items c.args.me c.next_task.new.self) c.index_mut.result.now c.next_task.new.self (own g c)
    c.in-Some.envelope c.in-Some.ensures.front c.in-Some.ensures.waiting

pub work_off-requires-clause-stands : goal.work_off-requires-clause-stands
work_off-requires-clause-stands g c =
    let w = c.requires.stands in
    let es = c.args.self.now.stations.items in
    let a = c.index_mut.result.now in
    let r = replaces-set es c.args.me a c.next_task.new.self (slice_get_read es (length es) c.args.me a refl (omega (arith, c.requires.there, c.args.self.now.stations.ok.0)) c.index_mut.ensures.value) in
    let from = stations_view c.args.self.now w.1 in
    let good = queued-good g.N.Nodes.view_of g.N.Nodes.stands w.0 c.args.me from w.2 (set es c.args.me c.next_task.new.self) a c.next_task.new.self r c.in-Some.envelope c.in-Some.ensures.front c.in-Some.ensures.waiting in (
      w.0,
      w.1,
      task-stands g.N.Nodes.view_of g.N.Nodes.stands w.0 c.args.me from w.2 (set es c.args.me c.next_task.new.self) a c.next_task.new.self r c.in-Some.envelope c.in-Some.ensures.front c.in-Some.ensures.waiting
          c.take.new.self c.take.new.work c.take.ensures.view (c.take.ensures.stands w.0 w.2.hold good) (c.take.ensures.makes w.0 w.2.hold good),
    )

pub returns-in-Some-clause-runs : goal.returns-in-Some-clause-runs
returns-in-Some-clause-runs g c = λ t world backlogs h.
    let es = c.args.self.now.stations.items in
    let a = c.index_mut.result.now in
    let r = replaces-set es c.args.me a c.next_task.new.self (slice_get_read es (length es) c.args.me a refl (omega (arith, c.requires.there, c.args.self.now.stations.ok.0)) c.index_mut.ensures.value) in
    let from = stations_view c.args.self.now backlogs in
    let good = queued-good g.N.Nodes.view_of g.N.Nodes.stands world c.args.me from h (set es c.args.me c.next_task.new.self) a c.next_task.new.self r c.in-Some.envelope c.in-Some.ensures.front c.in-Some.ensures.waiting in
    let mid : StationsView g.row.N.Denot = record { nodes = c.take.new.self; stations = set es c.args.me c.next_task.new.self; backlogs = backlogs; work = c.take.new.work } in
    let s = c.work_off.ensures.settles world backlogs
    (task-stands g.N.Nodes.view_of g.N.Nodes.stands world c.args.me from h (set es c.args.me c.next_task.new.self) a c.next_task.new.self r c.in-Some.envelope c.in-Some.ensures.front c.in-Some.ensures.waiting
    c.take.new.self c.take.new.work c.take.ensures.view (c.take.ensures.stands world h.hold good) (c.take.ensures.makes world h.hold good)) in (
      s.0,
      s.1,
      record {
        envelope = c.in-Some.envelope;
        before = a;
        after = c.next_task.new.self;
        was = r.was;
        front = c.in-Some.ensures.front;
        waiting = c.in-Some.ensures.waiting;
        mid = mid;
        is = r.is;
        others = r.others;
        backlogs = refl;
        taken = c.take.ensures.takes;
        settles = s.2;
      },
    )

pub returns-in-None-clause-idle : goal.returns-in-None-clause-idle
returns-in-None-clause-idle g c = λ t.
    let es = c.args.self.now.stations.items in
    let a = c.index_mut.result.now in
    let at = slice_get_read es (length es) c.args.me a refl (omega (arith, c.requires.there, c.args.self.now.stations.ok.0)) c.index_mut.ensures.value in (
      ap (λ o. option_map_or (λ (e : StationView). e.queue) o []) at ∙ c.in-None.ensures.none.0,
      record {
        nodes = refl;
        stations = ap (λ e. set es c.args.me e) (c.in-None.ensures.none.1 ∙ c.index_mut.ensures.value) ∙ set-get_or es c.args.me a;
        work = refl;
      },
    )
