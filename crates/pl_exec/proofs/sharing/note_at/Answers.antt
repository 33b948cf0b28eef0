use Rattle.std.proofs.Common.{arith}
use Rattle.pl_exec.proofs.ChannelRows.{noted-at, noted-nowhere}
use Rattle.pl_exec.proofs.sharing.note_at.Goals as goal

pub returns-in_ok-note_once : goal.returns-in_ok-note_once
returns-in_ok-note_once c =
    noted-at c.args.rows.now.items c.args.executor c.args.channel c.index_mut.result.now c.note_once.new.row (omega (arith, c.if-executor-len.true, c.len.ensures, c.args.rows.now.ok.0)) c.index_mut.ensures.value c.in_ok-note_once.ensures

pub returns-else-executor-len : goal.returns-else-executor-len
returns-else-executor-len c = noted-nowhere c.args.rows.now.items c.args.executor c.args.channel (omega (arith, c.if-executor-len.false, c.len.ensures, c.args.rows.now.ok.0))
