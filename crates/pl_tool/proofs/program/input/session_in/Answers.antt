use Rattle.pl_head.specs.contracts.transports.MemoryTransportTransport.TheImpl.{state-value}
use Rattle.pl_world.specs.Sessions.{plan_of}
use Rattle.pl_stages.specs.contracts.handlers.HandlerStage.TheImpl.{meaning-value}
use Rattle.pl_text.specs.SessionReading.{seen}
use Rattle.pl_tool.proofs.ProgramInputs.{not_text_means, text_means}
use Rattle.pl_tool.proofs.program.input.session_in.Goals as goal

pub returns-in-Ok-clause-means : goal.returns-in-Ok-clause-means
returns-in-Ok-clause-means c =
    text_means c.args.input.now c.in-Ok.text.now (seen (plan_of meaning-value.it state-value.it) c.read_session.result) c.in-Ok.ensures.cases c.read_session.ensures.meaning

pub returns-in-Err-clause-means : goal.returns-in-Err-clause-means
returns-in-Err-clause-means c _ = not_text_means c.args.input.now c.requires c.in-Err.ensures.cases.0
