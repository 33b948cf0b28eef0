use Rattle.std.proofs.Common.{ℕ, ◌-◌, [], ◌∷◌, ap, sym, ◌∙◌, arith}
use Rattle.pl_head.specs.Marks.{Removed}
use Rattle.pl_head.proofs.MarkSteps.{pending_from-append, removed-exact, falls, stays_below, stays_above, stands-still, sends_none, stands-turned, sends_one}
use Rattle.pl_head.proofs.marks.Marks.remove.Goals as goal

pub returns-then-not-self-clause-stands : goal.returns-then-not-self-clause-stands
returns-then-not-self-clause-stands c = λ cs s.
    let t = stays_below c.args.self.now.low c.args.self.now.high cs (Removed c.args.size) (sym c.if-not-self.true ∙ s.unwritable_is) (omega (arith, s.pending_is, c.args.self.now.not_above c.if-not-self.true)) in
    rw c.if-not-self.true (stands-still c.args.self.now.flags (ap (λ (p : ℕ). p - c.args.size) s.pending_is ∙ sym (pending_from-append 0 cs (Removed c.args.size ∷ []))) (removed-exact c.args.self.now.pending c.args.size cs c.requires.fits s.exact) s.sent t)

pub returns-then-not-self-clause-flags : goal.returns-then-not-self-clause-flags
returns-then-not-self-clause-flags c = λ cs s.
    let t = stays_below c.args.self.now.low c.args.self.now.high cs (Removed c.args.size) (sym c.if-not-self.true ∙ s.unwritable_is) (omega (arith, s.pending_is, c.args.self.now.not_above c.if-not-self.true)) in
    sends_none t

pub returns-then-self-clause-stands : goal.returns-then-self-clause-stands
returns-then-self-clause-stands c = λ cs s.
    let t = stays_above c.args.self.now.low c.args.self.now.high cs (Removed c.args.size) (sym c.if-not-self.false ∙ s.unwritable_is) (omega (arith, s.pending_is)) in
    rw c.if-not-self.false (stands-still c.args.self.now.flags (ap (λ (p : ℕ). p - c.args.size) s.pending_is ∙ sym (pending_from-append 0 cs (Removed c.args.size ∷ []))) (removed-exact c.args.self.now.pending c.args.size cs c.requires.fits s.exact) s.sent t)

pub returns-then-self-clause-flags : goal.returns-then-self-clause-flags
returns-then-self-clause-flags c = λ cs s.
    let t = stays_above c.args.self.now.low c.args.self.now.high cs (Removed c.args.size) (sym c.if-not-self.false ∙ s.unwritable_is) (omega (arith, s.pending_is)) in
    sends_none t

pub returns-clause-stands : goal.returns-clause-stands
returns-clause-stands c = λ cs s.
    let t = falls c.args.self.now.low c.args.self.now.high cs (Removed c.args.size) (sym c.if-not-self.false ∙ s.unwritable_is) (omega (arith, s.pending_is)) in
    stands-turned c.args.self.now.flags (ap (λ (p : ℕ). p - c.args.size) s.pending_is ∙ sym (pending_from-append 0 cs (Removed c.args.size ∷ []))) (removed-exact c.args.self.now.pending c.args.size cs c.requires.fits s.exact) s.sent t c.pass.ensures.open c.pass.ensures.sent

pub returns-clause-flags : goal.returns-clause-flags
returns-clause-flags c = λ cs s.
    let t = falls c.args.self.now.low c.args.self.now.high cs (Removed c.args.size) (sym c.if-not-self.false ∙ s.unwritable_is) (omega (arith, s.pending_is)) in
    sends_one t c.pass.ensures.passes
