use Rattle.std.proofs.Common.{◌≡◌, refl, subst, true, false}
use Rattle.std.specs.Prelude.{◌==◌}
use Rattle.std.proofs.lemmas.Bool.{eq-eqb, ne_eqb}
use Rattle.pl_part.specs.Paths.{PathPartView}
use Rattle.pl_part.proofs.paths.PathPart.take.Goals as goal

pub same-self : goal.same-self
same-self g c = refl

pub same-self-else-envelope-self : goal.same-self-else-envelope-self
same-self-else-envelope-self g c = refl

pub take_at_tail-requires-clause-next : goal.take_at_tail-requires-clause-next
take_at_tail-requires-clause-next g c = c.requires.next

pub take_at_tail-requires-clause-there : goal.take_at_tail-requires-clause-there
take_at_tail-requires-clause-there g c = subst (λ (y : PathPartView _). (c.args.envelope.lane.hop == y.tail_hop) ≡ true) c.self.view_is (eq-eqb _ _ c.if-envelope-self.true)

pub take_at_context-requires-clause-next : goal.take_at_context-requires-clause-next
take_at_context-requires-clause-next g c = c.requires.next

pub take_at_context-requires-clause-elsewhere : goal.take_at_context-requires-clause-elsewhere
take_at_context-requires-clause-elsewhere g c = subst (λ (y : PathPartView _). (c.args.envelope.lane.hop == y.tail_hop) ≡ false) c.self.view_is (ne_eqb _ _ c.if-envelope-self.false)

pub returns-then-envelope-self : goal.returns-then-envelope-self
returns-then-envelope-self g c =
    let t = c.take_at_tail.ensures in
    record { takes = t.takes; holds = t.holds; same = t.puts.same; taken = t.taken; writes = t.puts.writes; made = t.made; node = t.node; others = t.others; placed = t.puts.placed; more = t.more }

pub returns-else-envelope-self : goal.returns-else-envelope-self
returns-else-envelope-self g c =
    let t = c.take_at_context.ensures in
    record { takes = t.takes; holds = t.holds; same = t.puts.same; taken = t.taken; writes = t.puts.writes; made = t.made; node = t.node; others = t.others; placed = t.puts.placed; more = t.more }
