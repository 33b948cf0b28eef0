use Rattle.std.proofs.Common.{not}
use Rattle.std.specs.Prelude.{◌==◌}
use Rattle.pl_part.proofs.ShareLemmas.{share-is-of, with-head}
use Rattle.pl_part.proofs.parts.ChannelPart.take_share.Goals as goal

pub returns-clause-share : goal.returns-clause-share
returns-clause-share g c =
    share-is-of (λ e. e == c.args.executor) _ _
    (with-head (λ e. e == c.args.executor) _ _ c.self.view_is c.in_ok-path.path c.take_where-head.result c.head_executor.result c.in_ok-path.ensures.share c.head_executor.ensures c.take_where-head.ensures.taken)
    g.S.Stage.meaning g.S.Stage.stands_after g.T.Transport.state

pub returns-clause-rest : goal.returns-clause-rest
returns-clause-rest g c =
    share-is-of (λ e. not (e == c.args.executor)) _ _
    (with-head (λ e. not (e == c.args.executor)) _ _ c.self.view_is c.take_share.new.self c.take_where-head.new.slot c.head_executor.result c.in_ok-path.ensures.rest c.head_executor.ensures c.take_where-head.ensures.left)
    g.S.Stage.meaning g.S.Stage.stands_after g.T.Transport.state
