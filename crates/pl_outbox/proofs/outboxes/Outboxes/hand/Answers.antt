use Rattle.std.proofs.Common.{◌≡◌, ◌==◌, ◌&&◌, ◌||◌, ℕ, Bool, not, sym, ap, subst, ◌∙◌}
use Rattle.pl_context.specs.WaitingViews.{WaitingView, Holds}
use Rattle.pl_words.specs.Admissions.{AdmittedView}
use Rattle.pl_outbox.specs.OutboxViews.{OutboxesView, Stays, Sends, was_tried, oldest_untried}
use Rattle.pl_outbox.proofs.HandSteps.{untried-same, keeps-then, stays-then, sends-first}
use Rattle.pl_outbox.proofs.outboxes.Outboxes.hand.Goals as goal

pub loop-init : goal.loop-init
loop-init g c =
    let f = c.forget_tries.ensures.forgets in
    record {
      keeps = record { each = f.same; holds = λ entries holds. subst (λ (w : WaitingView AdmittedView). Holds w entries) (sym f.waiting) holds };
      stays = f.stays;
    }

pub loop-preserved : goal.loop-preserved
loop-preserved g c = record {
  keeps = keeps-then c.args.self.now c.loop.self c.offer.new.self c.loop.invariant.keeps (c.offer.ensures.keeps (cc));
  stays = stays-then c.args.self.now c.loop.self c.offer.new.self c.loop.invariant.stays c.offer.ensures.stays;
}

pub returns-then-offer-clause-stays : goal.returns-then-offer-clause-stays
returns-then-offer-clause-stays g c =
    subst (λ (o : OutboxesView). Stays c.args.self.now o) (sym c.ring_for_many.ensures) (stays-then c.args.self.now c.loop.self c.offer.new.self c.loop.invariant.stays c.offer.ensures.stays)

pub returns-then-offer-clause-oldest : goal.returns-then-offer-clause-oldest
returns-then-offer-clause-oldest g c = λ entries holds.
    let untried : (y : ℕ) → was_tried c.offer.new.self y ≡ was_tried c.loop.self y = λ y. c.offer.ensures.tried y ∙ ap (λ (handed : Bool). (not handed && (y == c.in-Some-oldest.way)) || was_tried c.loop.self y) c.if-offer.true in
    c.in-Some-oldest.ensures.oldest entries (c.loop.invariant.keeps.holds entries holds)
    ∙ sym (ap (λ (o : OutboxesView). oldest_untried o entries) c.ring_for_many.ensures ∙ untried-same c.loop.self c.offer.new.self entries untried)

pub returns-then-offer-clause-none : goal.returns-then-offer-clause-none
returns-then-offer-clause-none g c = tt

pub returns-then-offer-clause-handed : goal.returns-then-offer-clause-handed
returns-then-offer-clause-handed g c =
    let o = c.args.self.now in
    let way = c.in-Some-oldest.way in
    subst (λ (p : OutboxesView). Sends o way p) (sym c.ring_for_many.ensures) (sends-first o c.loop.self c.offer.new.self way c.loop.invariant.keeps (c.offer.ensures.sends (cc)))

pub offer-requires : goal.offer-requires
offer-requires g c = record { there = c.in-Some-oldest.ensures.there; waits = c.in-Some-oldest.ensures.waits }
