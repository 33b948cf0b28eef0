use Rattle.std.proofs.Common.{rules, arith, ◌≡◌, ◌∙◌, sym, ap}
use Rattle.pl_words.proofs.AdmissionMoves.{tries, takes_back}
use Rattle.pl_words.specs.declared.status.Status.TheVariants.{Closed}
use Rattle.pl_words.specs.Phases.{phase_in}
use Rattle.pl_words.specs.AdmissionRule.{tried}
use Rattle.pl_words.proofs.admission.Admission.admit.Goals as goal

pub fetch_add-word-requires : goal.fetch_add-word-requires
fetch_add-word-requires c = (search rules, search rules, tries _ _ _ _ (search rules) (search rules) (omega arith))

pub fetch_sub-requires : goal.fetch_sub-requires
fetch_sub-requires c =
    let found : phase_in c.fetch_add-word.result ≡ Closed = sym c.phase_in-phase.ensures ∙ c.in-Closed-phase.is in (
      search rules,
      search rules,
      takes_back _ _ _ _ (ap (λ m. m.0.trial) c.fetch_add-word.ensures.2.0 ∙ ap (λ p. (tried c.seat.inside.seat.me.0 p).trial) found),
    )
