use Rattle.std.proofs.Common.{sym}
use Rattle.pl_stages.proofs.Spaces.{before_space-none, after_space-none, before_space-at, after_space-at}
use Rattle.pl_stages.proofs.command_decoder.command_of.Goals as goal

pub returns-in-None : goal.returns-in-None
returns-in-None c =
    let none = sym (rw c.as_slice.ensures at c.in-None.ensures.place) in
    rw (before_space-none c.args.line none, after_space-none c.args.line none)
    (rw c.as_slice-in-None.ensures at c.command_alone.ensures)

pub returns-in-Some : goal.returns-in-Some
returns-in-Some c =
    let first = sym (rw c.as_slice.ensures at c.in-Some.ensures.place) in
    rw (before_space-at c.args.line c.in-Some.end first, after_space-at c.args.line c.in-Some.end first)
    c.command_followed.ensures
