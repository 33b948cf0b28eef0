use Rattle.std.proofs.Common.{ℕ, ◌+◌, [], ◌∷◌, ap, sym, ◌∙◌, arith}
use Rattle.pl_head.specs.Marks.{Added}
use Rattle.pl_head.proofs.MarkSteps.{pending_from-append, added-exact, rises, stays_below, stays_above, stands-still, sends_none, stands-turned, sends_one}
use Rattle.pl_head.proofs.marks.Marks.add.Goals as goal

pub returns-then-self-clause-stands : goal.returns-then-self-clause-stands
returns-then-self-clause-stands c = λ cs s.
    let t = stays_above c.args.self.now.low c.args.self.now.high cs (Added c.args.size) (sym c.if-self.true ∙ s.unwritable_is) (omega (arith, s.pending_is, c.args.self.now.not_below c.if-self.true)) in
    rw c.if-self.true (stands-still c.args.self.now.flags (ap (λ (p : ℕ). p + c.args.size) s.pending_is ∙ sym (pending_from-append 0 cs (Added c.args.size ∷ []))) (added-exact c.args.self.now.pending c.args.size cs s.exact) s.sent t)

pub returns-then-self-clause-flags : goal.returns-then-self-clause-flags
returns-then-self-clause-flags c = λ cs s.
    let t = stays_above c.args.self.now.low c.args.self.now.high cs (Added c.args.size) (sym c.if-self.true ∙ s.unwritable_is) (omega (arith, s.pending_is, c.args.self.now.not_below c.if-self.true)) in
    sends_none t

pub returns-then-self-2-clause-stands : goal.returns-then-self-2-clause-stands
returns-then-self-2-clause-stands c = λ cs s.
    let t = stays_below c.args.self.now.low c.args.self.now.high cs (Added c.args.size) (sym c.if-self.false ∙ s.unwritable_is) (omega (arith, s.pending_is)) in
    rw c.if-self.false (stands-still c.args.self.now.flags (ap (λ (p : ℕ). p + c.args.size) s.pending_is ∙ sym (pending_from-append 0 cs (Added c.args.size ∷ []))) (added-exact c.args.self.now.pending c.args.size cs s.exact) s.sent t)

pub returns-then-self-2-clause-flags : goal.returns-then-self-2-clause-flags
returns-then-self-2-clause-flags c = λ cs s.
    let t = stays_below c.args.self.now.low c.args.self.now.high cs (Added c.args.size) (sym c.if-self.false ∙ s.unwritable_is) (omega (arith, s.pending_is)) in
    sends_none t

pub returns-clause-stands : goal.returns-clause-stands
returns-clause-stands c = λ cs s.
    let t = rises c.args.self.now.low c.args.self.now.high cs (Added c.args.size) (sym c.if-self.false ∙ s.unwritable_is) (omega (arith, s.pending_is)) in
    stands-turned c.args.self.now.flags (ap (λ (p : ℕ). p + c.args.size) s.pending_is ∙ sym (pending_from-append 0 cs (Added c.args.size ∷ []))) (added-exact c.args.self.now.pending c.args.size cs s.exact) s.sent t c.pass.ensures.open c.pass.ensures.sent

pub returns-clause-flags : goal.returns-clause-flags
returns-clause-flags c = λ cs s.
    let t = rises c.args.self.now.low c.args.self.now.high cs (Added c.args.size) (sym c.if-self.false ∙ s.unwritable_is) (omega (arith, s.pending_is)) in
    sends_one t c.pass.ensures.passes
