use Rattle.std.proofs.Common.{codes, sym}
use Rattle.std.specs.Str.{bytes_eq}
use Rattle.pl_stages.proofs.Grammar.{needs_more}
use Rattle.pl_stages.proofs.command_decoder.command_alone.Goals as goal

pub returns-then-takes_argument : goal.returns-then-takes_argument
returns-then-takes_argument c =
    let verb = c.args.verb.now in
    needs_more (bytes_eq verb (codes "PING")) (bytes_eq verb (codes "QUIT")) (bytes_eq verb (codes "ECHO")) (bytes_eq verb (codes "ADD")) (bytes_eq verb (codes "GET"))
    (sym c.if-is_verb.ensures) (sym c.if-is_verb-2.ensures) c.if-takes_argument.ensures
