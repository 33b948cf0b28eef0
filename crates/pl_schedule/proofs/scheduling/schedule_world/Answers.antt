use Rattle.std.proofs.Common.{Bool, Ok, refl, ap}
use Rattle.pl_net.specs.Stations.{stations_view}
use Rattle.pl_net.specs.Nets.{no_backlogs}
use Rattle.pl_world.specs.Plans.{planned}
use Rattle.pl_schedule.proofs.scheduling.schedule_world.Goals as goal

pub returns-clause-replayed : goal.returns-clause-replayed
returns-clause-replayed g c =
    let plan = planned g.S.Stage.meaning g.T.Transport.state c.args.capacity c.args.world.executors c.args.world.channels in
    let begins = c.in_ok-net.ensures.begins in
    let made = c.in_ok-is_over.ensures.driven.leads plan no_backlogs (stations_view c.in_ok-net.net no_backlogs) begins.stands refl refl in
    record {
      there = made.0;
      start = stations_view c.in_ok-net.net no_backlogs;
      begins = begins.begins;
      end = stations_view c.drive.new.net made.1.0;
      reached = made.1.2;
      reports = c.in_ok-report.ensures.reports;
      kept = c.in_ok-report.ensures.kept plan made.1.0 made.1.1;
      planned = c.in_ok-report.ensures.planned plan made.1.0 made.1.1;
    }

pub returns-clause-all : goal.returns-clause-all
returns-clause-all g c = λ off. c.in_ok-is_over.ensures.all (ap (λ (b : Bool). Ok b) off)
