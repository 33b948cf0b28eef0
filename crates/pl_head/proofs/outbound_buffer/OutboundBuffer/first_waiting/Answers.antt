use Rattle.std.proofs.Common.{◌≡◌, ◌<◌, ℕ, List, [], ◌∷◌, length, get_or, ap, sym, ◌∙◌, arith}
use Rattle.std.specs.VecDeque.{deque_len}
use Rattle.std.proofs.lemmas.Bool.{eqb-true, eqb-false}
use Rattle.std.proofs.lemmas.List.{nil_from_length}
use Rattle.pl_head.specs.declared.outbound_buffer.Entry.{Entry}
use Rattle.pl_head.specs.WaitingMessages.{first_number}
use Rattle.pl_head.proofs.Renumbering.{first-within}
use Rattle.pl_head.proofs.outbound_buffer.OutboundBuffer.first_waiting.Goals as goal

first-some : (es : List Entry) (first : Entry) (writes : ℕ) → 0 < length es → first ≡ get_or es 0 first → first.number ≡ first_number es writes
first-some [] first writes some is = absurd (omega (arith, some))
first-some (e ∷ es) first writes some is = ap (λ (x : Entry). x.number) is

pub returns-then-is_empty-clause-view : goal.returns-then-is_empty-clause-view
returns-then-is_empty-clause-view c =
    let b = c.args.self.now in
    let zero = eqb-true (deque_len b.entries) 0 (sym c.is_empty.ensures ∙ c.if-is_empty.true) in
    let all : c.len.result ≡ length b.outcomes.items = omega (arith, c.len.ensures, b.outcomes.ok.0) in
    all ∙ ap (λ (es : List Entry). first_number es (length b.outcomes.items)) (sym (nil_from_length b.entries.items (omega (arith, zero, b.entries.ok.0))))

pub index-first-requires : goal.index-first-requires
index-first-requires c =
    let some = eqb-false (deque_len c.args.self.now.entries) 0 (sym c.is_empty.ensures ∙ c.if-is_empty.false) in
    omega (arith, some)

pub returns-clause-view : goal.returns-clause-view
returns-clause-view c =
    let b = c.args.self.now in
    let some = eqb-false (deque_len b.entries) 0 (sym c.is_empty.ensures ∙ c.if-is_empty.false) in
    first-some b.entries.items c.index-first.result.now (length b.outcomes.items) (omega (arith, some, b.entries.ok.0)) c.index-first.ensures

pub returns-clause-within : goal.returns-clause-within
returns-clause-within c =
    let b = c.args.self.now in
    let some = eqb-false (deque_len b.entries) 0 (sym c.is_empty.ensures ∙ c.if-is_empty.false) in
    let is = first-some b.entries.items c.index-first.result.now (length b.outcomes.items) (omega (arith, some, b.entries.ok.0)) c.index-first.ensures in
    omega (arith, is, first-within b.entries.items b.settled.items b.outcomes.items b.account)
