-- Terms one after the other.
use Rattle.std.proofs.Common.{Bool, false, ◌==◌, subst, ◌≡◌, ◌≢◌, ℕ, zero, suc, ◌+◌, ◌<◌, List, [], ◌∷◌, ◌++◌, length, get_or, map, take, refl, sym, ap, ◌∙◌, arith}
use Rattle.std.specs.List.{AllByRecursion, slice_split}
use Rattle.std.proofs.lemmas.List.{take_more, map-append}
use Rattle.pl_text.specs.declared.moves_text.terms.Term.{Term}
use Rattle.pl_text.specs.MovesTexts.{IsTermWithin, Says, term_text, between_spaces}

-- one term more at the end
pub fits_push : (ws : List Term) (w : Term) → AllByRecursion IsTermWithin ws → IsTermWithin w → AllByRecursion IsTermWithin (ws ++ w ∷ [])
fits_push [] w fits fit = (fit, tt)
fits_push (v ∷ ws) w fits fit = (fits.0, fits_push ws w fits.1 fit)

-- a text that is not a term is in no list of terms
no_terms : (p : List ℕ) (n : ℕ) (ws : List Term) → ((w : Term) → IsTermWithin w → p ≢ term_text w) → n < length (map term_text ws) → p ≡ get_or (map term_text ws) n p → AllByRecursion IsTermWithin ws → ⊥
no_terms p n [] none lt e fits = absurd (omega arith)
no_terms p zero (w ∷ ws) none lt e fits = none w fits.0 e
no_terms p (suc n) (w ∷ ws) none lt e fits = no_terms p n ws none (omega arith) e fits.1

-- the next text is the next term's
pub terms_more : (ps : List (List ℕ)) (n : ℕ) (ws : List Term) (w : Term) (p : List ℕ) → n < length ps → p ≡ get_or ps n p → p ≡ term_text w → map term_text ws ≡ take n ps → map term_text (ws ++ w ∷ []) ≡ take (n + 1) ps
terms_more ps n ws w p lt is text so_far =
    map-append term_text ws (w ∷ []) ∙ ap (λ (x : List (List ℕ)). x ++ term_text w ∷ []) so_far ∙ ap (λ x. take n ps ++ x ∷ []) (sym text ∙ is) ∙ sym (take_more ps n p lt)

-- what is between the spaces of a text that is not empty
pub some_between : (text : List ℕ) (b : Bool) → b ≡ (length text == 0) → b ≡ false → between_spaces text ≡ slice_split (λ x. x == 32) text
some_between text b is off = rw (sym is ∙ off) refl

-- a text that is not a term leaves the text without terms
pub is_stopped : (text : List ℕ) (ps : List (List ℕ)) (n : ℕ) (p : List ℕ) → between_spaces text ≡ ps → n < length ps → p ≡ get_or ps n p → ((w : Term) → IsTermWithin w → p ≢ term_text w) → (ws : List Term) → Says text ws → ⊥
is_stopped text ps n p e lt is none ws says =
    let same : ps ≡ map term_text ws = sym e ∙ says.texts_are in
    no_terms p n ws none (subst (λ (l : List (List ℕ)). n < length l) same lt) (subst (λ (l : List (List ℕ)). p ≡ get_or l n p) same is) says.fit
