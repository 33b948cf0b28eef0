use Rattle.std.specs.Global.{Vec}
use Rattle.std.specs.Vec.Iter.{into_iter_items}
use Rattle.std.proofs.Common.{◌++◌, List, ℕ, ap, map, ◌∙◌, arith}
use Rattle.std.proofs.lemmas.List.{map_push, nil_from_length}
use Rattle.pl_event.specs.declared.envelopes.Lane.{Lane}
use Rattle.pl_exec.specs.declared.lanes.WayIn.{WayIn}
use Rattle.pl_exec.specs.Opening.{Way, ways_in}
use Rattle.pl_exec.proofs.ListSteps.{made-next, made-whole}
use Rattle.pl_exec.proofs.WaysMade.{way_of}
use Rattle.pl_exec.proofs.lanes.split_ways.Goals as goal

pub loop-way-init : goal.loop-way-init
loop-way-init c =
    let all = c.into_iter-way-iterator.ensures.into_iter_gives.0 in
    let left = ways_in (into_iter_items c.into_iter-way-iterator.result) in
    record {
      origins = ap (λ (l : List ℕ). l ++ map (λ (w : Way). w.origin) left) c.in_ok-origins.ensures.items ∙ ap (λ (l : List WayIn). map (λ (w : Way). w.origin) (ways_in l)) all;
      lanes = ap (λ (l : List (Vec Lane)). map (λ (s : Vec Lane). s.items) l ++ map (λ (w : Way). w.lanes) left) c.in_ok-lanes.ensures.items ∙ ap (λ (l : List WayIn). map (λ (w : Way). w.lanes) (ways_in l)) all;
    }

pub loop-way-preserved : goal.loop-way-preserved
loop-way-preserved c =
    let ways = ways_in c.args.ways.items in
    let left = ways_in c.loop-way.way-iterator.rest.items in
    let rest = ways_in c.next.new.self.rest.items in
    let front = ap (λ (l : List WayIn). ways_in l) c.in-Some.ensures.steps.0 in
    record {
      origins = made-next (λ (w : Way). w.origin) (map (λ (w : Way). w.origin) ways) c.loop-way.origins.items c.push.new.self.items left rest (way_of c.in-Some.way) front c.in_ok-push.ensures.items c.loop-way.invariant.origins;
      lanes =
          made-next (λ (w : Way). w.lanes) (map (λ (w : Way). w.lanes) ways) (map (λ (s : Vec Lane). s.items) c.loop-way.lanes.items) (map (λ (s : Vec Lane). s.items) c.push-in-loop-way.new.self.items) left rest (way_of c.in-Some.way) front
          (ap (λ (l : List (Vec Lane)). map (λ (s : Vec Lane). s.items) l) c.in_ok-push-2.ensures.items ∙ map_push (λ (s : Vec Lane). s.items) c.loop-way.lanes.items c.in-Some.way.lanes) c.loop-way.invariant.lanes;
    }

pub returns-clause-origins : goal.returns-clause-origins
returns-clause-origins c =
    let left = c.loop-way.way-iterator.rest in
    let none = ap (λ (l : List WayIn). ways_in l) (nil_from_length left.items (omega (arith, c.in-None.ensures.steps.0, left.ok))) in
    made-whole (λ (w : Way). w.origin) (map (λ (w : Way). w.origin) (ways_in c.args.ways.items)) c.loop-way.origins.items (ways_in left.items) none c.loop-way.invariant.origins

pub returns-clause-lanes : goal.returns-clause-lanes
returns-clause-lanes c =
    let left = c.loop-way.way-iterator.rest in
    let none = ap (λ (l : List WayIn). ways_in l) (nil_from_length left.items (omega (arith, c.in-None.ensures.steps.0, left.ok))) in
    made-whole (λ (w : Way). w.lanes) (map (λ (w : Way). w.lanes) (ways_in c.args.ways.items)) (map (λ (s : Vec Lane). s.items) c.loop-way.lanes.items) (ways_in left.items) none c.loop-way.invariant.lanes
