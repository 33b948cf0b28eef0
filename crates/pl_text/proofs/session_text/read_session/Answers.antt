use Rattle.std.proofs.Common.{rules}
use Rattle.pl_text.specs.SessionTexts.{session_in, session_of}
use Rattle.pl_text.proofs.SessionWithin.{session_is_within}
use Rattle.pl_text.proofs.session_text.read_session.Goals as goal

pub returns-clause-within : goal.returns-clause-within
unfolding session_of session_in
returns-clause-within c = session_is_within c.args.text.now _ (search rules)
