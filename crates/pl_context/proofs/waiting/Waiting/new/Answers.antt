use Rattle.std.proofs.Common.{◌≡◌, ◌<◌, List, [], ◌∷◌, ◌++◌, length, map, take, get_or, refl, sym, subst, ap, ◌∙◌, arith}
use Rattle.std.specs.List.{All}
use Rattle.std.proofs.lemmas.List.{length-map, map-append, take_all, take_more}
use Rattle.std.proofs.lemmas.List.Elements.{All-nil, All-push}
use Rattle.pl_event.proofs.Lists.{All-at}
use Rattle.pl_context.specs.declared.waiting.Stamp.{Stamp}
use Rattle.pl_context.specs.Stops.{StopsView, no_stops}
use Rattle.pl_context.specs.Backlogs.{BacklogView}
use Rattle.pl_context.specs.WaitingViews.{Aged}
use Rattle.pl_context.proofs.WaitingFronts.{fronts-empty}
use Rattle.pl_context.proofs.waiting.Waiting.new.Goals as goal

pub loop-count-init : goal.loop-count-init
loop-count-init g c =
    let none = c.in_ok-targets.ensures.items in (
      subst (λ (l : List (BacklogView (Stamp g.row.A.Denot))). All (λ b. b.items ≡ []) l) (sym none) (All-nil (λ (b : BacklogView (Stamp g.row.A.Denot)). b.items ≡ [])),
      ap (map (λ (b : BacklogView (Stamp g.row.A.Denot)). b.stopped)) none,
    )

pub loop-count-preserved : goal.loop-count-preserved
loop-count-preserved g c =
    let B = BacklogView (Stamp g.row.A.Denot) in
    let new = c.in_ok-new.field-0 in
    let pushed = c.in_ok-push.ensures.items in (
      subst (λ (l : List B). All (λ b. b.items ≡ []) l) (sym pushed) (All-push (λ (b : B). b.items ≡ []) c.loop-count.targets.items new c.loop-count.invariant.0 c.in_ok-new.ensures.empty),
      ap (map (λ (b : B). b.stopped)) pushed
          ∙ map-append (λ (b : B). b.stopped) c.loop-count.targets.items (new ∷ [])
          ∙ ap (λ (l : List StopsView). l ++ new.stopped ∷ []) c.loop-count.invariant.1
          ∙ ap (λ (s : StopsView). map no_stops (take c.loop-count.count-index c.args.places.now) ++ s ∷ []) c.in_ok-new.ensures.places
          ∙ sym (ap (map no_stops) (take_more c.args.places.now c.loop-count.count-index 0 c.loop-count-test.true) ∙ map-append no_stops (take c.loop-count.count-index c.args.places.now) (get_or c.args.places.now c.loop-count.count-index 0 ∷ [])),
    )

pub returns-clause-empty : goal.returns-clause-empty
returns-clause-empty g c = record {
  aged = [];
  entries_are = refl;
  holds = record {
    order = λ i j d before below. absurd (omega (arith, below));
    younger = All-nil (λ (i : Aged g.row.A.Denot). i.age < 0);
    there = All-nil (λ (i : Aged g.row.A.Denot). i.entry.target < length c.loop-count.targets.items);
    waits = λ target b at. All-at (λ (b : BacklogView (Stamp g.row.A.Denot)). b.items ≡ []) c.loop-count.targets.items target b c.loop-count.invariant.0 at;
  };
}

pub returns-clause-places : goal.returns-clause-places
returns-clause-places g c =
    c.loop-count.invariant.1 ∙ ap (map no_stops) (take_all c.loop-count.count-index c.args.places.now c.loop-count-test.false)

pub invariant_of-result : goal.invariant_of-result
invariant_of-result g c =
    let targets = c.loop-count.targets.items in
    let places = c.args.places.now in
    let same = ap (λ (l : List StopsView). length l) (c.loop-count.invariant.1 ∙ ap (map no_stops) (take_all c.loop-count.count-index places c.loop-count-test.false)) in
    let long = length-map targets (λ (b : BacklogView (Stamp g.row.A.Denot)). b.stopped) in
    let wide = length-map places no_stops in
    fronts-empty targets c.in_ok-new-2.field-0 c.in_ok-new-2.ensures.empty (omega (arith, same, long, wide, c.in_ok-new-2.ensures.places)) c.loop-count.invariant.0
