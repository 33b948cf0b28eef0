use Rattle.std.proofs.Common.{sym, arith}
use Rattle.std.proofs.lemmas.Grind.{common_steps}
use Rattle.pl_stages.specs.Commands.{key_in, before_space}
use Rattle.pl_stages.proofs.Spaces.{after_space-none, before_space-at, after_space-at}
use Rattle.pl_stages.proofs.Grammar.{addition_of-no_number}
use Rattle.pl_stages.proofs.command_decoder.add_with.Goals as goal

pub returns-in-None : goal.returns-in-None
returns-in-None c =
    let none = after_space-none c.args.argument.now (sym c.in-None.ensures.place) in
    rw none (addition_of-no_number (key_in (before_space c.args.argument.now)))

pub returns-in-Some : goal.returns-in-Some
returns-in-Some c =
    let name = before_space-at c.args.argument.now c.in-Some.end (sym c.in-Some.ensures.place) in
    let number = after_space-at c.args.argument.now c.in-Some.end (sym c.in-Some.ensures.place) in
    rw (name, number) (grind (arith, common_steps))
