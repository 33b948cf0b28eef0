use Rattle.std.proofs.Common.{refl}
use Rattle.pl_part_tests.specs.SampleParts.{sample_world}
use Rattle.pl_part_tests.proofs.SampleLemmas.{ready-given, ready-after}
use Rattle.pl_part_tests.proofs.playing.apply.Goals as goal

pub returns-in-Read : goal.returns-in-Read
returns-in-Read c = record { ready = ready-after c.args.part.now c.next_read.new.self _ c.args.work.now c.next_read.new.work c.requires.ready c.next_read.ensures.given }

pub returns-in-Write : goal.returns-in-Write
returns-in-Write c = record { ready = ready-after c.args.part.now c.write_once.new.self _ c.args.work.now c.write_once.new.work c.requires.ready c.write_once.ensures.given }

pub returns-in-Move : goal.returns-in-Move
returns-in-Move c = record { ready = ready-after c.args.part.now c.move_head.new.self _ c.args.work.now c.move_head.new.work c.requires.ready c.move_head.ensures.given }

pub returns-in-Abort : goal.returns-in-Abort
returns-in-Abort c = record { ready = ready-after c.args.part.now c.abort.new.self _ c.args.work.now c.abort.new.work c.requires.ready c.abort.ensures.given }

pub returns-in-Refuse : goal.returns-in-Refuse
returns-in-Refuse c =
    let t = c.refuse.ensures.refused in
    let holds = c.requires.ready.plays.holds in
    record { ready = ready-given c.args.part.now c.refuse.new.self _ c.args.work.now c.refuse.new.work c.requires.ready t.puts t.taken (t.holds sample_world refl holds) (t.made sample_world refl holds) }
