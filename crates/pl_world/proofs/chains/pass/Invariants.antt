use Rattle.std.proofs.Common.{◌≡◌}
use Rattle.pl_event.specs.Meaning.{up_of, down_of}
use Rattle.pl_world.proofs.chains.pass.Given as goal

-- the stage has taken the events so far, and has made what it makes of them
abbrev pub invariant-loop-event : goal.invariant-loop-event
invariant-loop-event g l =
    let meaning = g.S.Stage.meaning l.fn.stage in
    record {
      meaning_kept : g.S.Stage.meaning l.stage ≡ meaning;
      stands : g.S.Stage.stands_after l.stage l.yielded;
      up_made : l.up.items ≡ up_of meaning l.yielded;
      down_made : l.down.items ≡ down_of meaning l.yielded;
    }
