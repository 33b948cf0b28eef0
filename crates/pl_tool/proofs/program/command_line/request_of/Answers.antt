use Rattle.pl_tool.proofs.ProgramReads.{line_is_read}
use Rattle.pl_tool.proofs.program.command_line.request_of.Goals as goal

pub returns : goal.returns
returns c =
    line_is_read c.args.args.now c.has_dash.result _ c.request_in.result c.request_in.ensures c.in-Ok.ensures.found c.in-Ok.ensures.kinds c.has_dash.ensures c.if-has_dash.false
