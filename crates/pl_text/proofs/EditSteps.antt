-- One edit of a builder is one edit of what its handlers mean.
use Rattle.std.proofs.Common.{◌≡◌, ◌≢◌, ℕ, zero, suc, ◌+◌, Bool, true, false, List, [], ◌∷◌, ◌++◌, length, Option, Some, None, Ok, Err, sym, refl, ap, ap₂, ◌∙◌, unwrap_or, IfSome, subst, arith}
use Rattle.std.specs.Prelude.{IsErr, Result, is_some, if◌then◌else◌, insert, remove, find, nat_lt, slice_get}
use Rattle.std.specs.List.{position_or_len}
use Rattle.std.specs.Result.{IsErrAnd}
use Rattle.std.specs.Option.{option_map_or}
use Rattle.std.proofs.lemmas.Bool.Decides.{nat_tests}
use Rattle.std.proofs.lemmas.List.{map-append}
use Rattle.std.proofs.lemmas.List.Folds.{find_at}
use Rattle.pl_event.specs.Meaning.{Meaning}
use Rattle.pl_build.specs.declared.named_stages.NamedStage.{NamedStage}
use Rattle.pl_build.specs.declared.faults.BuildFault.{BuildFault}
use Rattle.pl_build.specs.declared.faults.BuildFault.TheVariants.{NoSuchName, Memory}
use Rattle.pl_build.specs.Pipelines.{PipelineBuilderView, handler_of, is_named, index_of, without, stage_of}
use Rattle.pl_build.specs.Refusals.{naming_fault, beside_fault}
use Rattle.pl_text.specs.declared.session_text.outline.Addition.{Addition}
use Rattle.pl_text.specs.SessionHandlers.{meaning_of}
use Rattle.pl_text.specs.SessionReading.{seen}
use Rattle.pl_text.specs.SessionBuilding.{Builds, meant, made_unless, added, put_before, put_after}
use Rattle.pl_event.proofs.Lists.{insert-map, remove-map}
use Rattle.pl_text.proofs.MeantPipelines.{one, index_of-meant, naming_fault-meant, beside_fault-meant}

-- ---- refusals

-- a refusal that is passed on says what the edit is refused for
pub passed_on : {A B : Type 0} (answer : Result A BuildFault) (view : A → B) (made : Result B BuildFault) (f : BuildFault)
    → IsErr answer × IsErrAnd answer (λ e. e ≡ f) → (f ≢ Memory → made ≡ Err f) → Builds (seen view answer) made
passed_on (Ok x) view made f is refused = absurd is.1
passed_on (Err e) view made f is refused =
    subst (λ (g : BuildFault). g ≢ Memory → made ≡ Err g) (sym is.1) refused

unless_none : {A : Type 0} (o : Option BuildFault) (made : A) → o ≡ None → made_unless o made ≡ Ok made
unless_none None made e = refl
unless_none (Some f) made e = cc

unless_some : {A : Type 0} (o : Option BuildFault) (made : A) (f : BuildFault) → f ≡ unwrap_or o Memory → f ≢ Memory → made_unless o made ≡ Err f
unless_some None made f is other = absurd (other is)
unless_some (Some g) made f is other = ap (λ (h : BuildFault). Err h) (sym is)

is_there : (naming : Option BuildFault) (index : Option ℕ) → (if is_some naming then naming else if is_some index then None else Some NoSuchName) ≡ None → is_some index ≡ true
is_there (Some f) index e = cc
is_there None (Some n) e = refl
is_there None None e = cc

test_is_some : (b : Bool) (n : ℕ) → is_some (if b then Some n else None) ≡ b
test_is_some true n = refl
test_is_some false n = refl

slice_is_some : {X : Type 0} (xs : List X) (i : ℕ) → is_some (slice_get xs i) ≡ nat_lt i (length xs)
slice_is_some [] i = grind (arith, nat_tests)
slice_is_some (x ∷ xs) zero = grind (arith, nat_tests)
slice_is_some (x ∷ xs) (suc i) = slice_is_some xs i ∙ more i (length xs)
  where
    more : (i n : ℕ) → nat_lt i n ≡ nat_lt (suc i) (suc n)
    more i n = grind (arith, nat_tests)

module _ {S : Type 0} (meaning : S → Meaning) where
  -- the handler that is added means what the edit says
  one_added : (a : Addition) (name : List ℕ) (group : Option (List ℕ)) (stage : S) → name ≡ a.name → group ≡ a.group → meaning stage ≡ meaning_of a.handler → one meaning (handler_of name group stage) ≡ added a
  one_added a name group stage named grouped means =
      ap (λ (n : List ℕ). handler_of n group (meaning stage)) named
      ∙ ap₂ (λ (g : Option (List ℕ)) (m : Meaning). handler_of a.name g m) grouped means

  -- ---- first and last

  pub first_refused : (a : Addition) (name : List ℕ) (old : List (NamedStage S)) (made : List (NamedStage Meaning)) (f : BuildFault) → name ≡ a.name → f ≡ unwrap_or (naming_fault name old) Memory → f ≢ Memory
      → made_unless (naming_fault a.name (meant meaning old)) made ≡ Err f
  first_refused a name old made f named is other =
      ap (λ (o : Option BuildFault). made_unless o made) (naming_fault-meant meaning a.name old ∙ ap (λ (n : List ℕ). naming_fault n old) (sym named))
      ∙ unless_some (naming_fault name old) made f is other

  named_made : (a : Addition) (name : List ℕ) (old : List (NamedStage S)) (made : List (NamedStage Meaning)) → name ≡ a.name → naming_fault name old ≡ None
      → made_unless (naming_fault a.name (meant meaning old)) made ≡ Ok made
  named_made a name old made named none =
      unless_none (naming_fault a.name (meant meaning old)) made (naming_fault-meant meaning a.name old ∙ ap (λ (n : List ℕ). naming_fault n old) (sym named) ∙ none)

  pub first_made : (a : Addition) (name : List ℕ) (group : Option (List ℕ)) (stage : S) (old new : PipelineBuilderView S) → name ≡ a.name → group ≡ a.group → meaning stage ≡ meaning_of a.handler
      → naming_fault name old.handlers ≡ None → new ≡ record old { handlers = handler_of name group stage ∷ old.handlers }
      → made_unless (naming_fault a.name (meant meaning old.handlers)) (added a ∷ meant meaning old.handlers) ≡ Ok (meant meaning new.handlers)
  first_made a name group stage old new named grouped means none is =
      named_made a name old.handlers (added a ∷ meant meaning old.handlers) named none
      ∙ ap (λ (h : NamedStage Meaning). Ok (h ∷ meant meaning old.handlers)) (sym (one_added a name group stage named grouped means))
      ∙ ap (λ (p : PipelineBuilderView S). Ok (meant meaning p.handlers)) (sym is)

  pub last_made : (a : Addition) (name : List ℕ) (group : Option (List ℕ)) (stage : S) (old new : PipelineBuilderView S) → name ≡ a.name → group ≡ a.group → meaning stage ≡ meaning_of a.handler
      → naming_fault name old.handlers ≡ None → new ≡ record old { handlers = old.handlers ++ handler_of name group stage ∷ [] }
      → made_unless (naming_fault a.name (meant meaning old.handlers)) (meant meaning old.handlers ++ added a ∷ []) ≡ Ok (meant meaning new.handlers)
  last_made a name group stage old new named grouped means none is =
      named_made a name old.handlers (meant meaning old.handlers ++ added a ∷ []) named none
      ∙ ap (λ (h : NamedStage Meaning). Ok (meant meaning old.handlers ++ h ∷ [])) (sym (one_added a name group stage named grouped means))
      ∙ ap (λ (hs : List (NamedStage Meaning)). Ok hs) (sym (map-append (one meaning) old.handlers (handler_of name group stage ∷ [])))
      ∙ ap (λ (p : PipelineBuilderView S). Ok (meant meaning p.handlers)) (sym is)

  -- ---- before and after

  beside_is : (a : Addition) (at to name : List ℕ) (old : List (NamedStage S)) → name ≡ a.name → to ≡ at → beside_fault at a.name (meant meaning old) ≡ beside_fault to name old
  beside_is a at to name old named given =
      beside_fault-meant meaning at a.name old ∙ ap₂ (λ (t n : List ℕ). beside_fault t n old) (sym given) (sym named)

  pub beside_refused : (a : Addition) (at to name : List ℕ) (old : List (NamedStage S)) (made : List (NamedStage Meaning)) (f : BuildFault) → name ≡ a.name → to ≡ at → f ≡ unwrap_or (beside_fault to name old) Memory → f ≢ Memory
      → made_unless (beside_fault at a.name (meant meaning old)) made ≡ Err f
  beside_refused a at to name old made f named given is other =
      ap (λ (o : Option BuildFault). made_unless o made) (beside_is a at to name old named given) ∙ unless_some (beside_fault to name old) made f is other

  -- a handler put in at an index that is there
  put_in : (shift : ℕ → ℕ) (o : Option ℕ) (handler : NamedStage S) (old new : PipelineBuilderView S) → is_some o ≡ true → IfSome o (λ index. new ≡ record old { handlers = insert old.handlers (shift index) handler })
      → option_map_or (λ index. insert (meant meaning old.handlers) (shift index) (one meaning handler)) o (meant meaning old.handlers) ≡ meant meaning new.handlers
  put_in shift None handler old new there is = cc
  put_in shift (Some index) handler old new there is =
      insert-map (one meaning) old.handlers (shift index) handler ∙ ap (λ (p : PipelineBuilderView S). meant meaning p.handlers) (sym is)

  put_beside : (shift : ℕ → ℕ) (a : Addition) (at to name : List ℕ) (group : Option (List ℕ)) (stage : S) (old new : PipelineBuilderView S) → name ≡ a.name → to ≡ at → group ≡ a.group → meaning stage ≡ meaning_of a.handler
      → beside_fault to name old.handlers ≡ None → IfSome (index_of to old.handlers) (λ index. new ≡ record old { handlers = insert old.handlers (shift index) (handler_of name group stage) })
      → option_map_or (λ index. insert (meant meaning old.handlers) (shift index) (added a)) (index_of at (meant meaning old.handlers)) (meant meaning old.handlers) ≡ meant meaning new.handlers
  put_beside shift a at to name group stage old new named given grouped means none is =
      let index = index_of-meant meaning at old.handlers ∙ ap (λ (t : List ℕ). index_of t old.handlers) (sym given) in
      ap₂ (λ (o : Option ℕ) (h : NamedStage Meaning). option_map_or (λ index. insert (meant meaning old.handlers) (shift index) h) o (meant meaning old.handlers)) index (sym (one_added a name group stage named grouped means))
      ∙ put_in shift (index_of to old.handlers) (handler_of name group stage) old new (is_there (naming_fault name old.handlers) (index_of to old.handlers) none) is

  beside_made : (a : Addition) (at to name : List ℕ) (old : List (NamedStage S)) (made : List (NamedStage Meaning)) → name ≡ a.name → to ≡ at → beside_fault to name old ≡ None
      → made_unless (beside_fault at a.name (meant meaning old)) made ≡ Ok made
  beside_made a at to name old made named given none =
      unless_none (beside_fault at a.name (meant meaning old)) made (beside_is a at to name old named given ∙ none)

  pub before_made : (a : Addition) (at to name : List ℕ) (group : Option (List ℕ)) (stage : S) (old new : PipelineBuilderView S) → name ≡ a.name → to ≡ at → group ≡ a.group → meaning stage ≡ meaning_of a.handler
      → beside_fault to name old.handlers ≡ None → IfSome (index_of to old.handlers) (λ index. new ≡ record old { handlers = insert old.handlers index (handler_of name group stage) })
      → made_unless (beside_fault at a.name (meant meaning old.handlers)) (put_before at (added a) (meant meaning old.handlers)) ≡ Ok (meant meaning new.handlers)
  before_made a at to name group stage old new named given grouped means none is =
      beside_made a at to name old.handlers (put_before at (added a) (meant meaning old.handlers)) named given none
      ∙ ap (λ (hs : List (NamedStage Meaning)). Ok hs) (put_beside (λ n. n) a at to name group stage old new named given grouped means none is)

  pub after_made : (a : Addition) (at to name : List ℕ) (group : Option (List ℕ)) (stage : S) (old new : PipelineBuilderView S) → name ≡ a.name → to ≡ at → group ≡ a.group → meaning stage ≡ meaning_of a.handler
      → beside_fault to name old.handlers ≡ None → IfSome (index_of to old.handlers) (λ index. new ≡ record old { handlers = insert old.handlers (index + 1) (handler_of name group stage) })
      → made_unless (beside_fault at a.name (meant meaning old.handlers)) (put_after at (added a) (meant meaning old.handlers)) ≡ Ok (meant meaning new.handlers)
  after_made a at to name group stage old new named given grouped means none is =
      beside_made a at to name old.handlers (put_after at (added a) (meant meaning old.handlers)) named given none
      ∙ ap (λ (hs : List (NamedStage Meaning)). Ok hs) (put_beside (λ n. n + 1) a at to name group stage old new named given grouped means none is)

  -- ---- remove

  without-meant : (name : List ℕ) (old : List (NamedStage S)) → without name (meant meaning old) ≡ meant meaning (without name old)
  without-meant name old =
      ap (λ (o : Option ℕ). option_map_or (λ index. remove (meant meaning old) index) o (meant meaning old)) (index_of-meant meaning name old) ∙ taken (index_of name old)
    where
      taken : (o : Option ℕ) → option_map_or (λ index. remove (meant meaning old) index) o (meant meaning old) ≡ meant meaning (option_map_or (λ index. remove old index) o old)
      taken None = refl
      taken (Some index) = remove-map (one meaning) old index

  index_is_some : (name : List ℕ) (old : List (NamedStage S)) → is_some (index_of name (meant meaning old)) ≡ is_some (find (is_named name) old)
  index_is_some name old =
      ap is_some (index_of-meant meaning name old)
      ∙ test_is_some (nat_lt (position_or_len (is_named name) old) (length old)) (position_or_len (is_named name) old)
      ∙ sym (ap is_some (find_at (is_named name) old) ∙ slice_is_some old (position_or_len (is_named name) old))

  by_stage : (found : Option (NamedStage S)) (stage : S) → option_map_or (λ handler. Ok handler.stage) found (Err NoSuchName) ≡ Ok stage → is_some found ≡ true
  by_stage None stage e = cc
  by_stage (Some h) stage e = refl

  by_fault : (found : Option (NamedStage S)) (f : BuildFault) → option_map_or (λ handler. Ok handler.stage) found (Err NoSuchName) ≡ Err f → (is_some found ≡ false) × (f ≡ NoSuchName)
  by_fault None f e = (refl, cc)
  by_fault (Some h) f e = cc

  pub removed : (name to : List ℕ) (stage : S) (old new : PipelineBuilderView S) → to ≡ name → stage_of to old.handlers ≡ Ok stage → new ≡ record old { handlers = without to old.handlers }
      → (if is_some (index_of name (meant meaning old.handlers)) then Ok (without name (meant meaning old.handlers)) else Err NoSuchName) ≡ Ok (meant meaning new.handlers)
  removed name to stage old new given was is =
      let there = index_is_some name old.handlers ∙ ap (λ (t : List ℕ). is_some (find (is_named t) old.handlers)) (sym given) ∙ by_stage (find (is_named to) old.handlers) stage was in
      ap (λ (b : Bool). if b then Ok (without name (meant meaning old.handlers)) else Err NoSuchName) there
      ∙ ap (λ (hs : List (NamedStage Meaning)). Ok hs) (without-meant name old.handlers ∙ ap (λ (t : List ℕ). meant meaning (without t old.handlers)) (sym given))
      ∙ ap (λ (p : PipelineBuilderView S). Ok (meant meaning p.handlers)) (sym is)

  pub not_removed : (name to : List ℕ) (f : BuildFault) (old : List (NamedStage S)) → to ≡ name → stage_of to old ≡ Err f
      → (if is_some (index_of name (meant meaning old)) then Ok (without name (meant meaning old)) else Err NoSuchName) ≡ Err f
  not_removed name to f old given was =
      let p = by_fault (find (is_named to) old) f was in
      let there = index_is_some name old ∙ ap (λ (t : List ℕ). is_some (find (is_named t) old)) (sym given) ∙ p.0 in
      ap (λ (b : Bool). if b then Ok (without name (meant meaning old)) else Err NoSuchName) there ∙ ap (λ (g : BuildFault). Err g) (sym p.1)
