use Rattle.std.proofs.Common.{sym, subst, ◌∙◌}
use Rattle.std.proofs.lemmas.Bool.{both_ways}
use Rattle.pl_part.specs.Parts.{ChannelPartView, PartHolds}
use Rattle.pl_part.proofs.Forgotten.{call-forgets, forgets-or-not}
use Rattle.pl_part.proofs.parts.ChannelPart.forget.Goals as goal
use Rattle.pl_part.proofs.parts.ChannelPart.forget.Goals.{in-Some, in-None}

pub returns-clause-forgets : goal.returns-clause-forgets
returns-clause-forgets g c =
    let v : ChannelPartView _ _ = record { path = c.self.inside.path; head = c.self.inside.head } in
    elim c.match-self.branch [
      | in-Some w ↦ λ does. rw w.self-inside-is (call-forgets c.args.self.now v c.self.view_is g.T.Transport.state w.in-Some.head w.forget.new.self w.in-Some.is (w.forget.ensures.forgets (sym w.result-is ∙ does)))
      | in-None w ↦ λ does. absurd (both_ways c.match-self.result w.result-is does)
    ]

pub returns-clause-holds : goal.returns-clause-holds
returns-clause-holds g c =
    let v : ChannelPartView _ _ = record { path = c.self.inside.path; head = c.self.inside.head } in
    elim c.match-self.branch [
      | in-Some w ↦ λ world. rw w.self-inside-is (forgets-or-not c.args.self.now v c.self.view_is g.T.Transport.state w.in-Some.head w.forget.new.self w.in-Some.is world g.S.Stage.meaning g.S.Stage.stands_after w.forget.result w.forget.ensures.forgets w.forget.ensures.kept)
      | in-None w ↦ λ world holds. rw w.self-inside-is (subst (λ (p : ChannelPartView _ _). PartHolds world g.S.Stage.meaning g.S.Stage.stands_after g.T.Transport.state p) (sym c.self.view_is) holds)
    ]
