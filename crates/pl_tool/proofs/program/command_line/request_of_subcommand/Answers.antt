use Rattle.std.proofs.Common.{rules}
use Rattle.clap.specs.Matches.{found_of}
use Rattle.pl_tool.proofs.ProgramReads.{replay_is_requested, run_is_requested}
use Rattle.pl_tool.proofs.program.command_line.request_of_subcommand.Goals as goal

pub returns-then-eq : goal.returns-then-eq
returns-then-eq c = replay_is_requested (found_of c.args.found.now) c.args.name.now c.moves_text.result.now (search rules) c.moves_text.ensures

pub returns-then-eq-2 : goal.returns-then-eq-2
returns-then-eq-2 c = run_is_requested (found_of c.args.found.now) c.args.name.now _ (search rules) c.run_request.ensures
