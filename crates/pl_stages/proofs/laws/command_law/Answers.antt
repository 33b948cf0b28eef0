use Rattle.pl_stages.proofs.Grammar.{command_of-ping, command_of-quit, command_of-echo, command_of-add, command_of-get, command_of-unknown, command_of-never_long}
use Rattle.pl_stages.proofs.PrintedNumbers.{number_in-is}
use Rattle.pl_stages.proofs.laws.command_law.Goals as goal

pub returns : goal.returns
returns c = assumption (command_of-ping, command_of-quit, command_of-echo, command_of-add, command_of-get, number_in-is, command_of-unknown, command_of-never_long)
