-- What a value of JSON means: the words in which the tables of a session are written (docs/FORMATS.md, "Session").
use Rattle.std.specs.Prelude.{◌≡◌, ◌≢◌, ℕ, ◌&&◌, Bool, List, [], ◌∷◌, length, nat_le, nat_eq, if◌then◌else◌, Option, Some, None, Result, Ok, Err, option_and_then, option_map}
use Rattle.std.specs.Cmp.Lexicographic.{pointwise}
use Rattle.serde_json.specs.Data.{Data, null, boolean, number, string, array, object, Items, no_items, item}
use Rattle.serde_json.specs.Find.{get, as_number, as_u64, as_str, as_array}
use Rattle.pl_build.specs.declared.faults.BuildFault.{BuildFault}
use Rattle.pl_build.specs.declared.faults.BuildFault.TheVariants as build
use Rattle.pl_text.specs.declared.faults.SessionFault.{SessionFault}
use Rattle.pl_text.specs.declared.faults.SessionFault.TheVariants.{Missing, Kind, Limit, Build, Memory}

-- ---- results

-- the next reading, unless there was a fault: the first fault is the answer
infixl 10 ◌>>=◌
abbrev pub ◌>>=◌ : {A B F : Type 0} → Result A F → (A → Result B F) → Result B F
(Ok x) >>= f = f x
(Err e) >>= f = Err e

-- An answer is what reading means, unless memory ran out.
abbrev pub AnswersMeaning : {A : Type 0} → Result A SessionFault → Result A SessionFault → Type 0
AnswersMeaning (Ok x) meaning = meaning ≡ Ok x
AnswersMeaning (Err e) meaning = e ≢ Memory → meaning ≡ Err e

-- a result with its value as view sees it
abbrev pub seen : {A B F : Type 0} → (A → B) → Result A F → Result B F
seen view (Ok x) = Ok (view x)
seen view (Err e) = Err e

-- the value, or this fault where there is none
abbrev pub known : {A F : Type 0} → F → Option A → Result A F
known fault None = Err fault
known fault (Some x) = Ok x

-- a refused build as a fault of the session
abbrev pub fault_of_build : BuildFault → SessionFault
fault_of_build build.DuplicateName = Build build.DuplicateName
fault_of_build build.NoSuchName = Build build.NoSuchName
fault_of_build build.Limit = Build build.Limit
fault_of_build build.NoSuchGroup = Build build.NoSuchGroup
fault_of_build build.NoTurn = Build build.NoTurn
fault_of_build build.TwoTurns = Build build.TwoTurns
fault_of_build build.Marks = Build build.Marks
fault_of_build build.Memory = Memory

-- what was built, or its refusal as a fault of the session
abbrev pub built : {A : Type 0} → Result A BuildFault → Result A SessionFault
built (Ok x) = Ok x
built (Err e) = Err (fault_of_build e)

-- ---- one value

-- a whole number, of which JSON's 1.0 is none
abbrev pub whole : Data → Result ℕ SessionFault
whole d = known Kind (option_and_then as_u64 (as_number d))

abbrev pub between : ℕ → ℕ → ℕ → Result ℕ SessionFault
between low high n = if nat_le low n && nat_le n high then Ok n else Err Limit

-- a whole number in a range
unfoldable pub whole_in : ℕ → ℕ → Data → Result ℕ SessionFault
whole_in low high d = whole d >>= between low high

-- the UTF-8 bytes of a text
unfoldable pub text : Data → Result (List ℕ) SessionFault
text d = known Kind (as_str d)

abbrev pub same_text : List ℕ → List ℕ → Bool
same_text = pointwise nat_eq

-- ---- members of an object

unfoldable pub an_object : Data → Result Data SessionFault
an_object (object ms) = Ok (object ms)
an_object null = Err Kind
an_object (boolean b) = Err Kind
an_object (number n) = Err Kind
an_object (string s) = Err Kind
an_object (array ds) = Err Kind

-- null counts as absent
abbrev pub unless_null : Data → Option Data
unless_null null = None
unless_null (boolean b) = Some (boolean b)
unless_null (number n) = Some (number n)
unless_null (string s) = Some (string s)
unless_null (array ds) = Some (array ds)
unless_null (object ms) = Some (object ms)

unfoldable pub present : List ℕ → Data → Option Data
present name d = option_and_then unless_null (get name d)

-- a member that has to be there: null is there, and mostly of another kind
abbrev pub required : {A : Type 0} → List ℕ → (Data → Result A SessionFault) → Data → Result A SessionFault
required name read d = known Missing (get name d) >>= read

abbrev pub read_or : {A : Type 0} → (Data → Result A SessionFault) → A → Option Data → Result A SessionFault
read_or read default None = Ok default
read_or read default (Some d) = read d

abbrev pub with_default : {A : Type 0} → List ℕ → (Data → Result A SessionFault) → A → Data → Result A SessionFault
with_default name read default d = read_or read default (present name d)

-- a member of which there may be none
abbrev pub optional : {A : Type 0} → List ℕ → (Data → Result A SessionFault) → Data → Result (Option A) SessionFault
optional name read d = with_default name (λ member. read member >>= λ x. Ok (Some x)) None d

-- ---- arrays

abbrev pub elements : Items → List Data
elements no_items = []
elements (item d ds) = d ∷ elements ds

unfoldable pub elements_of : Data → Result (List Data) SessionFault
elements_of d = known Kind (option_map elements (as_array d))

-- each element wholly before the next
abbrev pub each : {A B F : Type 0} → (A → Result B F) → List A → Result (List B) F
each read [] = Ok []
each read (d ∷ ds) = read d >>= λ x. each read ds >>= λ xs. Ok (x ∷ xs)

abbrev pub of_at_most : {A : Type 0} → ℕ → List A → Result (List A) SessionFault
of_at_most most ds = if nat_le (length ds) most then Ok ds else Err Limit

-- an array: its length first, then its elements by index
abbrev pub array_in : {A : Type 0} → ℕ → (Data → Result A SessionFault) → Data → Result (List A) SessionFault
array_in most read d = elements_of d >>= of_at_most most >>= each read

-- an array of any length
abbrev pub array_of : {A : Type 0} → (Data → Result A SessionFault) → Data → Result (List A) SessionFault
array_of read d = elements_of d >>= each read
