-- What no line is answered with: the whole report has only drained channels, and a line that is not read has one status.
use Rattle.std.proofs.Common.{◌≡◌, ◌∙◌, ℕ, List, [], ◌∷◌, true, false, map, Option, Some, refl, sym, ap, subst}
use Rattle.std.specs.Prelude.{◌≢◌, None, unwrap_or}
use Rattle.std.specs.List.{list_all}
use Rattle.pl_world.specs.Plans.{ChannelPlan}
use Rattle.pl_world.specs.Reports.{whole_report}
use Rattle.pl_threads.specs.declared.threads.RunFault.TheVariants as run
use Rattle.pl_tool.specs.declared.program.failure.Failure.{Failure}
use Rattle.pl_tool.specs.declared.program.failure.Failure.TheVariants.{Usage, Moves, Replay, Input, Session, Run, Memory, Output}
use Rattle.pl_tool.specs.ProgramFailures.{status_of}
use Rattle.pl_tool.specs.ProgramLines.{RequestView, Run as RunRequest, Plain}
use Rattle.pl_replay.specs.Reported.{is_drained}
use Rattle.pl_tool.specs.ProgramOutcomes.{Explains, HasPrinted, IsAnswer, IsCause}

all_whole : (ps : List ChannelPlan) → list_all (λ c. is_drained c.stands) (map whole_report ps) ≡ true
all_whole [] = refl
all_whole (p ∷ ps) = all_whole ps

false_is_not_true : false ≡ true → ⊥
false_is_not_true e = cc e

-- so plain did not request a report that has others
pub open_is_not_plain : (requested : Option RequestView) (unread left before after : Option (List ℕ)) → HasPrinted false requested unread left before after → requested ≢ Some Plain
open_is_not_plain requested unread left before after printed plain =
    let reported = printed.is_reported in
    let is : reported.request ≡ Plain = ap (λ (o : Option RequestView). unwrap_or o Plain) (sym reported.given ∙ plain) in
    let answer = subst (λ (r : RequestView). IsAnswer r reported.session printed.report) is reported.is_answer in
    false_is_not_true (printed.stands ∙ ap (list_all (λ c. is_drained c.stands)) answer ∙ all_whole reported.session.channels)

-- ---- a line that is not read

not_given : (request : RequestView) (requested : Option RequestView) → requested ≡ Some request → requested ≢ None
not_given request None e none = cc
not_given request (Some r) e none = cc

-- each failure but Usage is of a line that is read
unread_status : (failure : Failure) (requested : Option RequestView) (unread left : Option (List ℕ)) → requested ≡ None → IsCause failure requested unread left → status_of failure ≡ 2
unread_status Usage requested unread left none cause = refl
unread_status (Moves f) requested unread left none cause = refl
unread_status (Replay f) requested unread left none cause = refl
unread_status Input requested unread left none cause = absurd (not_given cause.0.request requested cause.0.given none)
unread_status (Session f) requested unread left none cause = absurd (not_given cause.0.request requested cause.0.given none)
unread_status (Run run.Spawn) requested unread left none cause = absurd (not_given (RunRequest cause.queue) requested cause.given none)
unread_status (Run run.Memory) requested unread left none cause = absurd cause
unread_status Memory requested unread left none cause = absurd (not_given cause.request requested cause.given none)
unread_status Output requested unread left none cause = absurd (not_given cause.1.request requested cause.1.given none)

pub unread_is_usage : (failure : Failure) (requested : Option RequestView) (unread left before after : Option (List ℕ)) → Explains failure requested unread left before after → requested ≡ None → status_of failure ≡ 2
unread_is_usage failure requested unread left before after explained none = unread_status failure requested unread left none explained.0
