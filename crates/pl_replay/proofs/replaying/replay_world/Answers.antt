use Rattle.std.proofs.Common.{rules, ◌≡◌, ◌<◌, ◌∙◌, List, length, take, refl, sym, subst, ap, arith}
use Rattle.std.specs.List.{list_all}
use Rattle.std.specs.Prelude.{Result, Ok, Err, IfOk}
use Rattle.std.proofs.lemmas.Result.{IfOk-at_ok}
use Rattle.std.proofs.lemmas.List.{take_all}
use Rattle.std.proofs.lemmas.Bool.{true_from_ne_false}
use Rattle.pl_net.specs.Stations.{stations_view}
use Rattle.pl_net.specs.Nets.{no_backlogs}
use Rattle.pl_world.specs.declared.moves.Move.{Move}
use Rattle.pl_world.specs.Plans.{planned}
use Rattle.pl_replay.specs.MoveModel.{is_there}
use Rattle.pl_replay.specs.Moves.{Reaches}
use Rattle.pl_replay.proofs.Reached.{reaches-more, there-next, there-stops}
use Rattle.pl_replay.proofs.replaying.replay_world.Goals as goal

if-ok : {X E : Type 0} (r : Result X E) (P : X → Type 0) → ((x : X) → r ≡ Ok x → P x) → IfOk r P
if-ok (Ok x) P holds = holds x refl
if-ok (Err e) P holds = tt

pub loop-step-init : goal.loop-step-init
loop-step-init g c =
    let b = c.in_ok-net.ensures.begins in
    record { there = refl; start = stations_view c.in_ok-net.net no_backlogs; begins = b.begins; backlogs = no_backlogs; stands = b.stands; reached = refl }

pub loop-step-preserved : goal.loop-step-preserved
loop-step-preserved g c =
    let plan = planned g.S.Stage.meaning g.T.Transport.state c.args.capacity c.args.world.executors c.args.world.channels in
    let moves = c.args.moves.now in
    let i = c.loop-step.step-index in
    let so_far = c.loop-step.invariant in
    let within : i < length moves = omega arith in
    let made = c.in_ok-apply.ensures.applied.made plan so_far.backlogs so_far.stands in
    let on = true_from_ne_false _ (λ off. let refused = c.in_ok-apply.ensures.applied.there plan so_far.backlogs so_far.stands off in cc) in
    record {
      there = there-next plan moves i _ within so_far.there on;
      start = so_far.start;
      begins = so_far.begins;
      backlogs = made.0;
      stands = made.1;
      reached = reaches-more g.S.Stage.meaning g.S.Stage.stands_after g.S.Stage.is_spent g.T.Transport.state g.T.Transport.may_refuse plan.capacity moves i _ within so_far.start (stations_view c.loop-step.net so_far.backlogs) c.in_ok-apply.field-0 (stations_view c.apply.new.self made.0) so_far.reached made.2;
    }

pub returns-in_err-apply-clause-no_such : goal.returns-in_err-apply-clause-no_such
returns-in_err-apply-clause-no_such g c = λ is.
    let plan = planned g.S.Stage.meaning g.T.Transport.state c.args.capacity c.args.world.executors c.args.world.channels in
    let so_far = c.loop-step.invariant in
    let within : c.loop-step.step-index < length c.args.moves.now = omega arith in
    there-stops plan c.args.moves.now c.loop-step.step-index _ within (c.apply.ensures.applied.no_such (search rules) plan so_far.backlogs so_far.stands)

pub returns-clause-replayed : goal.returns-clause-replayed
returns-clause-replayed g c =
    let plan = planned g.S.Stage.meaning g.T.Transport.state c.args.capacity c.args.world.executors c.args.world.channels in
    let moves = c.args.moves.now in
    let so_far = c.loop-step.invariant in
    let all : take c.loop-step.step-index moves ≡ moves = take_all c.loop-step.step-index moves (omega arith) in
    if-ok c.into_report.result _ (λ report is. record {
      there = sym (ap (list_all (is_there plan)) all) ∙ so_far.there;
      start = so_far.start;
      begins = so_far.begins;
      end = stations_view c.loop-step.net so_far.backlogs;
      reached = subst (λ (t : List Move). Reaches g.S.Stage.meaning g.S.Stage.stands_after g.S.Stage.is_spent g.T.Transport.state g.T.Transport.may_refuse plan.capacity t so_far.start (stations_view c.loop-step.net so_far.backlogs)) all so_far.reached;
      reports = IfOk-at_ok _ is c.into_report.ensures.reports;
      kept = IfOk-at_ok _ is c.into_report.ensures.kept plan so_far.backlogs so_far.stands;
      planned = IfOk-at_ok _ is c.into_report.ensures.planned plan so_far.backlogs so_far.stands;
    })
