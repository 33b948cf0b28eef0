-- Moves that are written term by term read back.
use Rattle.std.proofs.Common.{◌≡◌, ℕ, ◌+◌, ◌≤◌, ◌<◌, ◌^◌, ◌==◌, false, List, [], ◌∷◌, ◌++◌, length, map, take, get_or, decimal, Result, Ok, Err, None, refl, sym, ap, ap₂, subst, ◌∙◌, arith}
use Rattle.std.specs.List.{All, AllByRecursion, flat_map, slice_split}
use Rattle.std.specs.Result.{IfOk}
use Rattle.std.proofs.lemmas.Bool.{cond-false, ne_eqb}
use Rattle.std.proofs.lemmas.Fmt.{decimal_is_IsNumeral}
use Rattle.std.proofs.lemmas.List.{append-nil, get_or_default, take_more, flat_map_more}
use Rattle.std.proofs.lemmas.List.Elements.{All-cons, recursion_from_All}
use Rattle.std.proofs.lemmas.List.Splits.{slice_split_at, slice_split_none}
use Rattle.std.proofs.lemmas.List.Sums.{sum_by-cons}
use Rattle.std.proofs.lemmas.Str.Parse.{digit_at}
use Rattle.pl_world.specs.declared.moves.Move.{Move}
use Rattle.pl_world.specs.declared.moves.Move.TheVariants.{Read, Task, Hand, Out}
use Rattle.pl_text.specs.declared.moves_text.terms.Term.{Term}
use Rattle.pl_text.specs.declared.moves_text.TheConstants.{MAX_MOVES}
use Rattle.pl_text.specs.MovesTexts.{IsSayable, IsTermWithin, MeansMoves, copies_of_term, move_text, moves_of_terms, moves_said, next_word, between_spaces, term_text, terms_text}

-- ---- no term has a space

abbrev Spaceless : List ℕ → Type 0
Spaceless ds = All (λ b. (b == 32) ≡ false) ds

decimal-spaceless : (n : ℕ) → n < 2 ^ 64 → Spaceless (decimal n)
decimal-spaceless n small = λ i d lt.
    let digit = digit_at (decimal n) i (decimal_is_IsNumeral n small).0.1 lt in
    subst (λ (b : ℕ). (b == 32) ≡ false) (get_or_default (decimal n) i 0 d lt) (ne_eqb _ 32 (λ e. omega (arith, digit, e)))

move-spaceless : (m : Move) → IsSayable m → Spaceless (move_text m)
move-spaceless (Read n) says = All-cons (λ (b : ℕ). (b == 32) ≡ false) 82 (decimal n) refl (decimal-spaceless n (omega arith))
move-spaceless (Task n) says = All-cons (λ (b : ℕ). (b == 32) ≡ false) 84 (decimal n) refl (decimal-spaceless n (omega arith))
move-spaceless (Hand n) says = All-cons (λ (b : ℕ). (b == 32) ≡ false) 72 (decimal n) refl (decimal-spaceless n (omega arith))
move-spaceless (Out n) says = All-cons (λ (b : ℕ). (b == 32) ≡ false) 79 (decimal n) refl (decimal-spaceless n (omega arith))

text-long : (m : Move) (ms : List Move) → (length (terms_text (m ∷ ms)) == 0) ≡ false
text-long (Read n) ms = ne_eqb _ 0 (λ e. omega (arith, e))
text-long (Task n) ms = ne_eqb _ 0 (λ e. omega (arith, e))
text-long (Hand n) ms = ne_eqb _ 0 (λ e. omega (arith, e))
text-long (Out n) ms = ne_eqb _ 0 (λ e. omega (arith, e))

-- one term more
pub terms-more : (first : Move) (rest : List Move) (i : ℕ) (d : Move) (text after : List ℕ) → i < length rest → text ≡ terms_text (first ∷ take i rest) → after ≡ text ++ next_word (get_or rest i d)
    → after ≡ terms_text (first ∷ take (i + 1) rest)
terms-more first rest i d text after within so_far more =
    more
    ∙ ap (λ (t : List ℕ). t ++ next_word (get_or rest i d)) so_far
    ∙ flat_map_more next_word (move_text first) (take i rest) (get_or rest i d)
    ∙ ap (λ (ms : List Move). terms_text (first ∷ ms)) (sym (take_more rest i d within))

-- ---- its parts

split-terms : (term : List ℕ) → Spaceless term → (ms : List Move) → AllByRecursion IsSayable ms → slice_split (λ b. b == 32) (term ++ flat_map next_word ms) ≡ term ∷ map move_text ms
split-terms term free [] say = ap (slice_split (λ b. b == 32)) (append-nil term) ∙ slice_split_none (λ b. b == 32) term free
split-terms term free (m ∷ ms) say =
    slice_split_at (λ b. b == 32) term 32 (terms_text (m ∷ ms)) free refl ∙ ap (λ (l : List (List ℕ)). term ∷ l) (split-terms (move_text m) (move-spaceless m say.0) ms say.1)

parts-are : (ms : List Move) → AllByRecursion IsSayable ms → between_spaces (terms_text ms) ≡ map move_text ms
parts-are [] say = refl
parts-are (m ∷ ms) say =
    cond-false (length (terms_text (m ∷ ms)) == 0) [] (slice_split (λ b. b == 32) (terms_text (m ∷ ms))) (text-long m ms) ∙ split-terms (move_text m) (move-spaceless m say.0) ms say.1

-- ---- its terms

abbrev term_of : Move → Term
term_of m = record { step = m; count = None }

term-texts : (ms : List Move) → map move_text ms ≡ map term_text (map term_of ms)
term-texts [] = refl
term-texts (m ∷ ms) = ap₂ (λ (w : List ℕ) (l : List (List ℕ)). w ∷ l) (sym (append-nil (move_text m))) (term-texts ms)

within : (ms : List Move) → AllByRecursion IsSayable ms → AllByRecursion IsTermWithin (map term_of ms)
within [] say = tt
within (m ∷ ms) say = (record { number_fits = say.0; count_fits = tt }, within ms say.1)

said : (ms : List Move) → moves_said (map term_of ms) ≡ length ms
said [] = refl
said (m ∷ ms) = sum_by-cons copies_of_term (term_of m) (map term_of ms) ∙ omega (arith, said ms)

moves-are : (ms : List Move) → moves_of_terms (map term_of ms) ≡ ms
moves-are [] = refl
moves-are (m ∷ ms) = ap (λ (l : List Move). m ∷ l) (moves-are ms)

-- the text of moves means them
pub text-means : (ms : List Move) → AllByRecursion IsSayable ms → length ms ≤ MAX_MOVES → MeansMoves (terms_text ms) ms
text-means ms say few = (map term_of ms, record { texts_are = parts-are ms say ∙ term-texts ms; fit = within ms say }, omega (arith, said ms, few), sym (moves-are ms))

-- so does that of an answer
pub answer-means : {T E : Type 0} (bytes : T → List ℕ) (r : Result T E) (ms : List Move) → IfOk r (λ text. bytes text ≡ terms_text ms) → IfOk r (λ _. All IsSayable ms)
    → IfOk r (λ text. length ms ≤ MAX_MOVES → MeansMoves (bytes text) ms)
answer-means bytes (Ok text) ms is say = λ few. subst (λ (t : List ℕ). MeansMoves t ms) (sym is) (text-means ms (recursion_from_All IsSayable ms say) few)
answer-means bytes (Err e) ms is say = tt

pub none-means : (ms : List Move) → length ms ≡ 0 → MeansMoves [] ms
none-means [] none = text-means [] tt (omega arith)
none-means (m ∷ ms) none = absurd (omega (arith, none))
