-- Reading elements one after the other, as a loop does.
use Rattle.std.proofs.Common.{◌≡◌, ◌++◌, List, [], ◌∷◌, Result, Ok, Err, refl, sym, ap, ◌∙◌, append_assoc}
use Rattle.std.proofs.lemmas.List.{append-nil}
use Rattle.serde_json.specs.Data.{Data}
use Rattle.serde_json.specs.View.{items_of}
use Rattle.pl_text.specs.SessionReading.{◌>>=◌, each, elements}

pub elements_items_of : (ds : List Data) → elements (items_of ds) ≡ ds
elements_items_of [] = refl
elements_items_of (d ∷ ds) = ap (λ (rest : List Data). d ∷ rest) (elements_items_of ds)

-- what was read, and then these
abbrev pub and_then : {B F : Type 0} → List B → Result (List B) F → Result (List B) F
and_then got rest = rest >>= λ xs. Ok (got ++ xs)

pub each-begins : {B F : Type 0} (rest : Result (List B) F) → rest ≡ and_then [] rest
each-begins (Ok xs) = refl
each-begins (Err e) = refl

one_more : {B F : Type 0} (got : List B) (x : B) (rest : Result (List B) F) → and_then got (rest >>= λ xs. Ok (x ∷ xs)) ≡ and_then (got ++ x ∷ []) rest
one_more got x (Ok xs) = ap (λ (l : List _). Ok l) (sym (append_assoc got (x ∷ []) xs))
one_more got x (Err e) = refl

-- one element more
pub each-more : {A B F : Type 0} (read : A → Result B F) (whole : Result (List B) F) (got : List B) (d : A) (ds : List A) (x : B)
    → whole ≡ and_then got (each read (d ∷ ds)) → read d ≡ Ok x → whole ≡ and_then (got ++ x ∷ []) (each read ds)
each-more read whole got d ds x so_far here = so_far ∙ rw here (one_more got x (each read ds))

-- the first fault is the answer
pub each-stops : {A B F : Type 0} (read : A → Result B F) (whole : Result (List B) F) (got : List B) (d : A) (ds : List A) (e : F)
    → whole ≡ and_then got (each read (d ∷ ds)) → read d ≡ Err e → whole ≡ Err e
each-stops read whole got d ds e so_far here = so_far ∙ rw here refl

pub each-ends : {A B F : Type 0} (read : A → Result B F) (whole : Result (List B) F) (got : List B) (ds : List A)
    → whole ≡ and_then got (each read ds) → ds ≡ [] → whole ≡ Ok got
each-ends read whole got ds so_far none = so_far ∙ rw none (ap (λ (l : List _). Ok l) (append-nil got))
