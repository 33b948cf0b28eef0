-- What the bytes of the input mean.
use Rattle.std.proofs.Common.{◌≡◌, ℕ, ◌+◌, ◌≤◌, ◌<◌, Bool, true, false, List, ◌++◌, length, length-append, refl, ap, ◌∙◌, sym, subst, arith}
use Rattle.std.specs.Prelude.{if◌then◌else◌, nat_lt, Option, Result, Ok, Err, IsErr, IfErr}
use Rattle.std.specs.Io.KnownBytes.{Consumes}
use Rattle.std.specs.Result.{IsErrAnd}
use Rattle.std.specs.Str.{IsUtf8, is_utf8}
use Rattle.std.proofs.lemmas.Bool.Decides.{nat_tests}
use Rattle.std.proofs.lemmas.Str.{IsUtf8-from_is_utf8, is_utf8-from_IsUtf8}
use Rattle.std.proofs.lemmas.Bool.{false_from_ne_true}
use Rattle.pl_text.specs.declared.faults.SessionFault.{SessionFault}
use Rattle.pl_text.specs.declared.faults.SessionFault.TheVariants.{NotJson, Version, Missing, Kind, Limit, Build}
use Rattle.pl_text.specs.declared.faults.SessionFault.TheVariants as session
use Rattle.pl_text.specs.declared.session_text.limits.TheConstants.{MAX_SESSION_TEXT}
use Rattle.pl_world.specs.Plans.{Plan}
use Rattle.pl_tool.specs.declared.program.failure.Failure.{Failure}
use Rattle.pl_tool.specs.declared.program.failure.Failure.TheVariants.{Usage, Moves, Replay, Input, Session, Run, Memory, Output}
use Rattle.pl_tool.proofs.ProgramBytes.{consumes_more}
use Rattle.pl_tool.specs.ProgramOutcomes.{EndsReading, RefusesInput, session_of_bytes}
use Rattle.pl_text.specs.SessionReading.{AnswersMeaning}
use Rattle.pl_text.specs.SessionTexts.{session_of}

-- reading a text tests its length once more
read_once : {A : Type 0} (is_long : Bool) (too_long read : A) → (if is_long then too_long else (if is_long then too_long else read)) ≡ (if is_long then too_long else read)
read_once true too_long read = refl
read_once false too_long read = refl

-- a text means what it is read as
text_session : (input : List ℕ) → is_utf8 input ≡ true → session_of input ≡ session_of_bytes input
unfolding session_of
text_session input is =
    sym (ap (λ (is_text : Bool). if nat_lt MAX_SESSION_TEXT (length input) then Err Limit else (if is_text then session_of input else Err NotJson)) is
    ∙ read_once (nat_lt MAX_SESSION_TEXT (length input)) (Err Limit) _)

pub text_means : (input text : List ℕ) (answer : Result Plan SessionFault) → (text ≡ input) × IsUtf8 input → AnswersMeaning answer (session_of text) → AnswersMeaning answer (session_of_bytes input)
text_means input text answer is means =
    subst (λ (m : Result Plan SessionFault). AnswersMeaning answer m) (ap session_of is.0 ∙ text_session input (is_utf8-from_IsUtf8 input is.1)) means

is_short : (n : ℕ) → n ≤ MAX_SESSION_TEXT → nat_lt MAX_SESSION_TEXT n ≡ false
is_short n le = grind (arith, nat_tests)

-- bytes within the limit that are not a text mean no session
pub not_text_means : (input : List ℕ) → length input ≤ MAX_SESSION_TEXT → (IsUtf8 input → ⊥) → session_of_bytes input ≡ Err NotJson
not_text_means input small none =
    ap (λ (is_long : Bool). if is_long then Err Limit else (if is_utf8 input then session_of input else Err NotJson)) (is_short (length input) small)
    ∙ ap (λ (is_text : Bool). if is_text then session_of input else Err NotJson) (false_from_ne_true (is_utf8 input) (λ e. none (IsUtf8-from_is_utf8 input e)))

-- ---- a text that is too long

is_long : (n : ℕ) → MAX_SESSION_TEXT < n → nat_lt MAX_SESSION_TEXT n ≡ true
is_long n lt = grind (arith, nat_tests)

pub long_means : (input : List ℕ) → MAX_SESSION_TEXT < length input → session_of_bytes input ≡ Err Limit
long_means input long =
    ap (λ (is_long : Bool). if is_long then Err Limit else (if is_utf8 input then session_of input else Err NotJson)) (is_long (length input) long)

-- a failure after bytes that were read before, and more that were taken
pub input_refused : (a b c : Option (List ℕ)) (old bytes : List ℕ) (e : Failure) → Consumes a b old → Consumes b c bytes → EndsReading e (length old + length bytes) → RefusesInput e a c
input_refused a b c old bytes Input p q n = (old ++ bytes, consumes_more a b c old bytes p q, omega (arith, length-append old bytes, n))
input_refused a b c old bytes Memory p q n = (old ++ bytes, consumes_more a b c old bytes p q, omega (arith, length-append old bytes, n))
input_refused a b c old bytes (Session Limit) p q n =
    let long : MAX_SESSION_TEXT < length (old ++ bytes) = omega (arith, length-append old bytes, n) in
    record {
      input = old ++ bytes;
      taken = consumes_more a b c old bytes p q;
      at_end = λ short. absurd (omega (arith, long, short));
      means = long_means (old ++ bytes) long;
      is_named = λ e. cc;
    }
input_refused a b c old bytes (Session NotJson) p q n = absurd n
input_refused a b c old bytes (Session Version) p q n = absurd n
input_refused a b c old bytes (Session Missing) p q n = absurd n
input_refused a b c old bytes (Session Kind) p q n = absurd n
input_refused a b c old bytes (Session (Build f)) p q n = absurd n
input_refused a b c old bytes (Session session.Memory) p q n = absurd n
input_refused a b c old bytes Usage p q n = absurd n
input_refused a b c old bytes (Moves f) p q n = absurd n
input_refused a b c old bytes (Replay f) p q n = absurd n
input_refused a b c old bytes (Run f) p q n = absurd n
input_refused a b c old bytes Output p q n = absurd n

-- a failure that is passed on
pub passed_on : {A : Type 0} (answer : Result A Failure) (e : Failure) (a c : Option (List ℕ)) → IsErr answer × IsErrAnd answer (λ f. f ≡ e) → RefusesInput e a c → IfErr answer (λ f. RefusesInput f a c)
passed_on (Ok x) e a c is refused = tt
passed_on (Err f) e a c is refused = subst (λ (g : Failure). RefusesInput g a c) (sym is.1) refused
