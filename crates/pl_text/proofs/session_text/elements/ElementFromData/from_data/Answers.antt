use Rattle.std.proofs.Common.{◌≡◌, ℕ, true, Result, Ok, sym, ap, ◌∙◌}
use Rattle.std.specs.Prelude.{is_some}
use Rattle.std.proofs.lemmas.Result.{err_from_is_err_and}
use Rattle.serde_json.specs.Data.{Data}
use Rattle.serde_json.specs.Find.{as_object}
use Rattle.pl_event.specs.declared.elements.Element.{Element}
use Rattle.pl_event.specs.declared.elements.Element.TheVariants.{User}
use Rattle.pl_text.specs.declared.faults.SessionFault.{SessionFault}
use Rattle.pl_text.specs.declared.session_text.version.Version.{Version}
use Rattle.pl_text.specs.SessionReading.{◌>>=◌}
use Rattle.pl_text.specs.SessionChannels.{element_in, knows_user_events, user_in}
use Rattle.pl_text.proofs.session_text.elements.ElementFromData.from_data.Goals as goal

-- an event of this number, unless there was a fault
abbrev event_of : Result ℕ SessionFault → Result Element SessionFault
event_of number = number >>= λ n. Ok (User n)

-- an object is read as a user event, in a version that knows them
reads_event : (version : Version) (d : Data) (number : Result ℕ SessionFault) → knows_user_events version ≡ true → is_some (as_object d) ≡ true → user_in d ≡ number → element_in version d ≡ event_of number
unfolding element_in
reads_event version d number known object is = rw (known, object) (ap event_of is)

pub returns-in_ok-user_in : goal.returns-in_ok-user_in
returns-in_ok-user_in c =
    reads_event _ _ _ (sym c.knows_user_events.ensures ∙ c.if-knows_user_events.true) (sym c.is_object.ensures ∙ c.if-is_object.true) (sym c.user_in.ensures ∙ c.in_ok-user_in.was)

pub returns-in_err-user_in : goal.returns-in_err-user_in
returns-in_err-user_in c =
    let p = err_from_is_err_and c.from_residual.result c.from_residual.ensures.1 in
    rw (p.1, p.2) (λ other. reads_event _ _ _ (sym c.knows_user_events.ensures ∙ c.if-knows_user_events.true) (sym c.is_object.ensures ∙ c.if-is_object.true) (sym c.user_in.ensures ∙ c.in_err-user_in.was))
