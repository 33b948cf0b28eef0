use Rattle.std.proofs.Common.{List, refl, subst}
use Rattle.pl_head.specs.Transports.{memory_state}
use Rattle.pl_stages.specs.contracts.handlers.HandlerStage.TheImpl.{meaning-value}
use Rattle.pl_world.specs.declared.moves.Move.{Move}
use Rattle.pl_world.specs.Sessions.{plan_of}
use Rattle.pl_replay.specs.Starts.{transports_of}
use Rattle.pl_tool.specs.ProgramLines.{Replay}
use Rattle.pl_tool.specs.ProgramOutcomes.{IsReplayedOver}
use Rattle.pl_tool.proofs.SessionTransports.{as_planned}
use Rattle.pl_tool.proofs.program.replayed.Goals as goal

pub returns-clause-ok : goal.returns-clause-ok
returns-clause-ok g c =
    let channels = c.in_ok-session.session.world.channels in
    let session = plan_of meaning-value.it memory_state c.in_ok-session.session in
    let transports = transports_of channels in
    let report = c.in_ok-report.report in
    record {
      request = Replay c.args.text.now;
      given = refl;
      session = session;
      taken = c.in_ok-session.ensures.ok;
      is_answer = record {
        moves = c.in_ok-moves.moves.items;
        means = c.in_ok-moves.ensures.ok;
        transports = transports;
        are_its = as_planned meaning-value.it channels c.in_ok-session.ensures.uncalled;
        is_replayed = subst (λ (moves : List Move). IsReplayedOver transports session moves report) c.as_slice.ensures.value c.in_ok-report.ensures.replayed;
      };
    }
