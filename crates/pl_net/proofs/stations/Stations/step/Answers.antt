use Rattle.std.proofs.Common.{◌≡◌, ◌≢◌, ◌<◌, ◌+◌, ◌^◌, ◌∷◌, [], ℕ, Some, length, set, slice_get, refl, sym, subst, ◌∙◌, arith, inl, inr}
use Rattle.std.proofs.lemmas.Option.{slice_get_read}
use Rattle.pl_context.specs.Stops.{HasPlaces}
use Rattle.pl_context.specs.WaitingViews.{stops_for}
use Rattle.pl_net.specs.Nets.{IsAdded}
use Rattle.pl_net.specs.Stations.{stations_view}
use Rattle.pl_net.proofs.OneExecutor.{replaces-set}
use Rattle.pl_net.proofs.StationSteps.{step-written, step-number, step-good, step-is, call-stands, add-there, add-placed, add-few, kept_by, keep-stands, keep-is}
use Rattle.pl_net.proofs.stations.Stations.step.Goals as goal

pub target-target-requires : goal.target-target-requires
target-target-requires g c =
    let w = c.requires.stands in
    step-written g.N.Nodes.view_of g.N.Nodes.stands w.0 c.args.me (stations_view c.args.self.now w.1) w.2 c.in-Some.envelope c.next.new.self c.in-Some.ensures.front c.in-Some.ensures.stopped

pub take-requires-clause-next : goal.take-requires-clause-next
take-requires-clause-next g c =
    let w = c.requires.stands in (
      w.0,
      w.2.hold,
      step-good g.N.Nodes.view_of g.N.Nodes.stands w.0 c.args.me (stations_view c.args.self.now w.1) w.2 c.in-Some.envelope c.next.new.self c.in-Some.ensures.front c.in-Some.ensures.stopped
          (sym c.target-target.ensures ∙ c.if-target-me.true),
    )

pub take-requires-clause-written : goal.take-requires-clause-written
take-requires-clause-written g c =
    let w = c.requires.stands in
    step-written g.N.Nodes.view_of g.N.Nodes.stands w.0 c.args.me (stations_view c.args.self.now w.1) w.2 c.in-Some.envelope c.next.new.self c.in-Some.ensures.front c.in-Some.ensures.stopped

pub take-requires-clause-number : goal.take-requires-clause-number
take-requires-clause-number g c =
    let w = c.requires.stands in
    step-number g.N.Nodes.view_of g.N.Nodes.stands w.0 c.args.me (stations_view c.args.self.now w.1) w.2 c.in-Some.envelope c.next.new.self c.in-Some.ensures.front c.in-Some.ensures.stopped
    (sym c.target-target.ensures ∙ c.if-target-me.true)

-- the executor that runs
own : (g : _) (c : goal.After-index_mut g) → slice_get c.args.self.now.stations.items c.args.me ≡ Some c.index_mut.result.now
own g c =
    let es = c.args.self.now.stations.items in
    slice_get_read es (length es) c.args.me c.index_mut.result.now refl (omega (arith, c.requires.there, c.args.self.now.stations.ok.0)) c.index_mut.ensures.value

-- what its backlog is asked for
asks : (g : _) (c : goal.After-index_mut g) → (c.target-target.result < length c.index_mut.result.now.waiting.targets) × HasPlaces (stops_for c.index_mut.result.now.waiting c.target-target.result) (c.in-Some.envelope.lane ∷ [])
    × (c.index_mut.result.now.waiting.added + 1 < 2 ^ 64)
asks g c =
    let w = c.requires.stands in
    let a = c.index_mut.result.now in
    let es = set c.args.self.now.stations.items c.args.me a in
    let r = replaces-set c.args.self.now.stations.items c.args.me a a (own g c) in
    let away : (g.N.Nodes.view_of c.args.self.now.nodes).lanes.target c.in-Some.envelope.lane ≢ c.args.me = λ e. c.if-target-me.false (c.target-target.ensures ∙ e) in
    let from = stations_view c.args.self.now w.1 in (
      subst (λ (k : ℕ). k < length a.waiting.targets) (sym c.target-target.ensures) (add-there g.N.Nodes.view_of g.N.Nodes.stands w.0 c.args.me from w.2 c.in-Some.envelope c.next.new.self c.in-Some.ensures.front c.in-Some.ensures.stopped away es a a r),
      subst (λ (k : ℕ). HasPlaces (stops_for a.waiting k) (c.in-Some.envelope.lane ∷ [])) (sym c.target-target.ensures)
          (add-placed g.N.Nodes.view_of g.N.Nodes.stands w.0 c.args.me from w.2 c.in-Some.envelope c.next.new.self c.in-Some.ensures.front c.in-Some.ensures.stopped away es a a r),
      add-few g.N.Nodes.view_of g.N.Nodes.stands w.0 c.args.me from w.2 c.in-Some.envelope c.next.new.self c.in-Some.ensures.front c.in-Some.ensures.stopped away es a a r,
    )

pub add-requires-clause-there : goal.add-requires-clause-there
add-requires-clause-there g c = (asks g c).0

pub add-requires-clause-place : goal.add-requires-clause-place
add-requires-clause-place g c = (asks g c).1

pub add-requires-clause-few : goal.add-requires-clause-few
add-requires-clause-few g c = (asks g c).2

pub returns-then-target-me-clause-steps : goal.returns-then-target-me-clause-steps
returns-then-target-me-clause-steps g c = λ t world backlogs h.
    let here = sym c.target-target.ensures ∙ c.if-target-me.true in
    let good = step-good g.N.Nodes.view_of g.N.Nodes.stands world c.args.me (stations_view c.args.self.now backlogs) h c.in-Some.envelope c.next.new.self c.in-Some.ensures.front c.in-Some.ensures.stopped here in (
      backlogs,
      call-stands g.N.Nodes.view_of g.N.Nodes.stands world c.args.me (stations_view c.args.self.now backlogs) h c.in-Some.envelope c.next.new.self c.in-Some.ensures.front c.in-Some.ensures.stopped here
          c.take.new.self c.take.new.work c.take.ensures.view (c.take.ensures.stands world h.hold good) (c.take.ensures.makes world h.hold good),
      step-is g.N.Nodes.view_of g.N.Nodes.stands world c.args.me (stations_view c.args.self.now backlogs) h c.in-Some.envelope c.next.new.self c.in-Some.ensures.front c.in-Some.ensures.stopped g.N.Nodes.takes c.in-Some.ensures.room
          (inl (record { here = here; taken = c.take.ensures.takes; stations = refl; backlogs = refl })),
    )

pub returns-else-target-me-clause-steps : goal.returns-else-target-me-clause-steps
returns-else-target-me-clause-steps g c = λ t world backlogs h.
    let es = c.args.self.now.stations.items in
    let a = c.index_mut.result.now in
    let a' = c.add.new.self in
    let away : (g.N.Nodes.view_of c.args.self.now.nodes).lanes.target c.in-Some.envelope.lane ≢ c.args.me = λ e. c.if-target-me.false (c.target-target.ensures ∙ e) in
    let at = slice_get_read es (length es) c.args.me a refl (omega (arith, c.requires.there, c.args.self.now.stations.ok.0)) c.index_mut.ensures.value in
    let r = replaces-set es c.args.me a a' at in
    let adds = subst (λ (k : ℕ). IsAdded a k c.in-Some.envelope a') c.target-target.ensures c.add.ensures in
    let view_of = g.N.Nodes.view_of in
    let stands = g.N.Nodes.stands in
    let from = stations_view c.args.self.now backlogs in (
      kept_by view_of stands world c.args.me from h c.in-Some.envelope c.next.new.self c.in-Some.ensures.front c.in-Some.ensures.stopped away (set es c.args.me a') a a' r adds,
      keep-stands view_of stands world c.args.me from h c.in-Some.envelope c.next.new.self c.in-Some.ensures.front c.in-Some.ensures.stopped away (set es c.args.me a') a a' r adds,
      step-is view_of stands world c.args.me from h c.in-Some.envelope c.next.new.self c.in-Some.ensures.front c.in-Some.ensures.stopped g.N.Nodes.takes c.in-Some.ensures.room
          (inr (keep-is view_of stands world c.args.me from h c.in-Some.envelope c.next.new.self c.in-Some.ensures.front c.in-Some.ensures.stopped away (set es c.args.me a') a a' r adds g.N.Nodes.takes)),
    )
