use Rattle.std.proofs.Common.{[], ap, sym, ◌∙◌, arith, length}
use Rattle.std.proofs.lemmas.List.{length-map}
use Rattle.pl_context.specs.Stops.{no_stops}
use Rattle.pl_outbox.specs.Tries.{TriesView}
use Rattle.pl_outbox.proofs.AdmissionLemmas.{new_admissions}
use Rattle.pl_outbox.proofs.OutboxLemmas.{new-hold, waits-entries}
use Rattle.pl_outbox.proofs.outboxes.Outboxes.new.Goals as goal

pub invariant_of-result : goal.invariant_of-result
invariant_of-result g c =
    let w = c.in_ok-new.field-0 in
    let outboxes = c.args.outboxes.items in
    let targets = sym (length-map w.targets (λ b. b.stopped)) ∙ ap length c.in_ok-new.ensures.places ∙ length-map c.args.places.now no_stops ∙ c.requires.places in (
      new-hold g.W.Named.world outboxes w c.in_ok-new-2.field-0.tried c.args.ways.items c.requires.new c.in_ok-new.ensures.empty targets c.in_ok-new.ensures.added c.requires.few,
      omega (arith, ap (λ (t : TriesView). t.count) c.in_ok-new-2.ensures, c.len.ensures, c.args.outboxes.ok.0),
    )

pub returns-clause-waits : goal.returns-clause-waits
returns-clause-waits g c = λ y. waits-entries c.in_ok-new.field-0 [] c.in_ok-new.ensures.empty y

pub returns-clause-admitted : goal.returns-clause-admitted
returns-clause-admitted g c = new_admissions c.args.outboxes.items c.requires.new

pub returns-clause-places : goal.returns-clause-places
returns-clause-places g c = c.in_ok-new.ensures.places
