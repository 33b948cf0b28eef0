-- Offers, one after another, until one is taken.
use Rattle.std.proofs.Common.{◌≡◌, ℕ, Bool, not, List, ap, sym, ◌∙◌}
use Rattle.std.specs.List.{find}
use Rattle.std.specs.Option.{option_map}
use Rattle.pl_context.specs.WaitingViews.{Entry}
use Rattle.pl_queue.specs.declared.views.SenderView.{SenderView}
use Rattle.pl_queue.specs.Views.{after_offer}
use Rattle.pl_words.specs.Admissions.{AdmittedView}
use Rattle.pl_outbox.specs.OutboxViews.{OutboxesView, was_tried, oldest_untried, KeepsAll, Sends, Stays}

pub untried-same : (o o' : OutboxesView) (entries : List (Entry AdmittedView)) → ((y : ℕ) → was_tried o' y ≡ was_tried o y) → oldest_untried o' entries ≡ oldest_untried o entries
untried-same o o' entries same = ap (λ (f : ℕ → Bool). option_map (λ (e : Entry AdmittedView). e.target) (find (λ e. not (f e.target)) entries)) (λ i y. same y i)

pub keeps-then : (o p q : OutboxesView) → KeepsAll o p → KeepsAll p q → KeepsAll o q
keeps-then o p q f g = record {
  each = λ y. record { waits = (g.each y).waits ∙ (f.each y).waits; sends = (g.each y).sends ∙ (f.each y).sends };
  holds = λ entries holds. g.holds entries (f.holds entries holds);
}

pub stays-then : (o p q : OutboxesView) → Stays o p → Stays p q → Stays o q
stays-then o p q f g = record {
  count = g.count ∙ f.count;
  ways = g.ways ∙ f.ways;
  reached = λ y l. g.reached y l ∙ f.reached y l;
  cut = λ y l. g.cut y l ∙ f.cut y l;
  stops = λ y. g.stops y ∙ f.stops y;
  closed = λ seen. g.closed (f.closed seen);
  made = g.made ∙ f.made;
}

-- nothing had moved before the first was sent
pub sends-first : (o p q : OutboxesView) (way : ℕ) → KeepsAll o p → Sends p way q → Sends o way q
sends-first o p q way keeps s = record {
  envelope = s.envelope;
  waits = sym (keeps.each way).waits ∙ s.waits;
  sends = s.sends ∙ ap (option_map (λ (v : SenderView). after_offer v s.envelope)) (keeps.each way).sends;
  others = λ y other. record { waits = (s.others y other).waits ∙ (keeps.each y).waits; sends = (s.others y other).sends ∙ (keeps.each y).sends };
  rest = λ entries holds. s.rest entries (keeps.holds entries holds);
}
