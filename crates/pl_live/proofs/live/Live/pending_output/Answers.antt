use Rattle.std.proofs.Common.{ℕ, ◌≤◌, List, ◌++◌, length, take, sym, ap, subst, ◌∙◌, arith}
use Rattle.std.proofs.lemmas.List.{length-drop}
use Rattle.pl_head.specs.Writes.{out}
use Rattle.pl_world.specs.Reports.{head_of}
use Rattle.pl_live.specs.LiveStand.{LiveView, accepted_in, consumed_of, parts_of}
use Rattle.pl_live.proofs.Pending.{all-sent, next-bytes, none-left, slice-is}
use Rattle.pl_live.proofs.live.Live.pending_output.Goals as goal

pub returns-clause-within : goal.returns-clause-within
returns-clause-within g c =
    let live = c.args.self.now in
    let accepted = accepted_in g.T.Transport.state (parts_of live) in
    let slice = slice-is g.T.Transport.state (parts_of live) c.head.result.now c.head.ensures c.bytes.result.now c.bytes.ensures.accepted c.self.inside.consumed live.consumed (ap (λ (l : LiveView _ _). l.consumed) c.self.view_is) in
    let size = ap (λ (l : List ℕ). length l) slice ∙ length-drop live.consumed accepted in
    let within = subst (λ (l : LiveView _ _). l.consumed ≤ length (accepted_in g.T.Transport.state (parts_of l))) c.self.view_is c.self.invariant.1.handed.consumed_within in
    omega (arith, size, within)

pub returns-clause-next : goal.returns-clause-next
returns-clause-next g c = λ p s.
    let live = c.args.self.now in
    let n = next-bytes g.S.Stage.meaning g.S.Stage.stands_after g.T.Transport.state p live s in
    let slice = slice-is g.T.Transport.state (parts_of live) c.head.result.now c.head.ensures c.bytes.result.now c.bytes.ensures.accepted c.self.inside.consumed live.consumed (ap (λ (l : LiveView _ _). l.consumed) c.self.view_is) in
    (n.0, ap (λ (l : List ℕ). take (consumed_of live) (out (head_of p)) ++ l ++ n.0) slice ∙ n.1)

pub returns-clause-all : goal.returns-clause-all
returns-clause-all g c = λ p w r sound window none.
    let live = c.args.self.now in
    let slice = slice-is g.T.Transport.state (parts_of live) c.head.result.now c.head.ensures c.bytes.result.now c.bytes.ensures.accepted c.self.inside.consumed live.consumed (ap (λ (l : LiveView _ _). l.consumed) c.self.view_is) in
    all-sent g.S.Stage.meaning g.S.Stage.stands_after g.T.Transport.state p live r sound w window (none-left live.consumed (accepted_in g.T.Transport.state (parts_of live)) r.stands.handed.consumed_within (sym slice ∙ none))
