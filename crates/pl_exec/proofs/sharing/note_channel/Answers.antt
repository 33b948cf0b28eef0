use Rattle.std.proofs.Common.{List, ℕ, arith, subst}
use Rattle.std.proofs.lemmas.List.{take_all}
use Rattle.pl_exec.specs.Sharing.{AreNoted, rows_in}
use Rattle.pl_exec.proofs.ChannelRows.{next-noted, none-noted}
use Rattle.pl_exec.proofs.sharing.note_channel.Goals as goal

pub loop-hop-init : goal.loop-hop-init
loop-hop-init g c = none-noted c.args.channel c.args.part.now.path.executors (rows_in c.args.rows.now.items)

pub loop-hop-preserved : goal.loop-hop-preserved
loop-hop-preserved g c =
    next-noted c.args.channel c.args.part.now.path.executors (rows_in c.args.rows.now.items) c.loop-hop.hop c.target.result (rows_in c.loop-hop.rows.items) (rows_in c.note_at.new.rows.items)
    c.requires (omega (arith, c.loop-hop-test.true, c.hops-hop-end.ensures)) c.target.ensures c.loop-hop.invariant c.in_ok-note_at.ensures

pub returns : goal.returns
returns g c =
    subst (λ (l : List ℕ). AreNoted c.args.channel l (rows_in c.args.rows.now.items) (rows_in c.loop-hop.rows.items)) (take_all c.loop-hop.hop c.args.part.now.path.executors (omega (arith, c.loop-hop-test.false, c.hops-hop-end.ensures))) c.loop-hop.invariant
