-- A text says one list of terms only.
use Rattle.std.proofs.Common.{◌≡◌, ◌≢◌, ℕ, suc, ◌<◌, List, [], ◌∷◌, ◌++◌, length, get_or, map, decimal, Option, Some, None, refl, sym, ap, ◌∙◌, arith}
use Rattle.std.specs.List.{AllByRecursion}
use Rattle.std.proofs.lemmas.Fmt.{decimal_injective}
use Rattle.std.proofs.lemmas.List.{append-nil}
use Rattle.pl_world.specs.declared.moves.Move.{Move}
use Rattle.pl_world.specs.declared.moves.Move.TheVariants.{Read, Task, Hand, Out}
use Rattle.pl_text.specs.declared.moves_text.terms.Term.{Term}
use Rattle.pl_world.specs.Movers.{mover_of}
use Rattle.pl_text.specs.MovesTexts.{AreInRange, IsTermWithin, Says, count_text, move_text, moves_of_terms, moves_said, term_text}
use Rattle.pl_text.proofs.MovesNumbers.{decimal_lacks_x, lacks_seam}

-- no element is an x
abbrev Lacks : List ℕ → Type 0
Lacks ds = (i : ℕ) → i < length ds → get_or ds i 0 ≢ 120

head_is : (c d : ℕ) (cs ds : List ℕ) → c ∷ cs ≡ d ∷ ds → c ≡ d
head_is c d cs ds e = cc

tail_is : (c d : ℕ) (cs ds : List ℕ) → c ∷ cs ≡ d ∷ ds → cs ≡ ds
tail_is c d cs ds e = cc

-- what comes before the first x, and what comes after it
parts_at_x : (cs ds xs ys : List ℕ) → Lacks cs → Lacks ds → cs ++ 120 ∷ xs ≡ ds ++ 120 ∷ ys → (cs ≡ ds) × (xs ≡ ys)
parts_at_x [] [] xs ys p q e = (refl, tail_is 120 120 xs ys e)
parts_at_x [] (d ∷ ds) xs ys p q e = absurd (q 0 (omega arith) (sym (head_is 120 d xs (ds ++ 120 ∷ ys) e)))
parts_at_x (c ∷ cs) [] xs ys p q e = absurd (p 0 (omega arith) (head_is c 120 (cs ++ 120 ∷ xs) ys e))
parts_at_x (c ∷ cs) (d ∷ ds) xs ys p q e =
    let same = head_is c d (cs ++ 120 ∷ xs) (ds ++ 120 ∷ ys) e in
    let rest = parts_at_x cs ds xs ys (λ i lt. p (suc i) (omega arith)) (λ i lt. q (suc i) (omega arith)) (tail_is c d (cs ++ 120 ∷ xs) (ds ++ 120 ∷ ys) e) in
    (ap (λ (x : ℕ). x ∷ cs) same ∙ ap (λ (l : List ℕ). d ∷ l) rest.0, rest.1)

-- a text says at most one number and count
numbers_once : (m n : ℕ) (a b : Option ℕ) → AreInRange m a → AreInRange n b → decimal m ++ count_text a ≡ decimal n ++ count_text b → (m ≡ n) × (a ≡ b)
numbers_once m n None None p q e =
    (decimal_injective m n (omega (arith, p.number_fits)) (omega (arith, q.number_fits)) (sym (append-nil (decimal m)) ∙ e ∙ append-nil (decimal n)), refl)
numbers_once m n None (Some k) p q e =
    absurd (lacks_seam (decimal m) (decimal n) (decimal k) (sym (append-nil (decimal m)) ∙ e) (decimal_lacks_x m (omega (arith, p.number_fits))))
numbers_once m n (Some j) None p q e =
    absurd (lacks_seam (decimal n) (decimal m) (decimal j) (sym (append-nil (decimal n)) ∙ sym e) (decimal_lacks_x n (omega (arith, q.number_fits))))
numbers_once m n (Some j) (Some k) p q e =
    let s = parts_at_x (decimal m) (decimal n) (decimal j) (decimal k) (decimal_lacks_x m (omega (arith, p.number_fits))) (decimal_lacks_x n (omega (arith, q.number_fits))) e in
    (decimal_injective m n (omega (arith, p.number_fits)) (omega (arith, q.number_fits)) s.0, ap (λ (x : ℕ). Some x) (decimal_injective j k (omega (arith, p.count_fits)) (omega (arith, q.count_fits)) s.1))

-- a text says at most one term
step_once : (s t : Move) (a b : Option ℕ) → AreInRange (mover_of s) a → AreInRange (mover_of t) b → move_text s ++ count_text a ≡ move_text t ++ count_text b → (s ≡ t) × (a ≡ b)
step_once (Read m) (Read n) a b p q e =
    let once = numbers_once m n a b p q (tail_is 82 82 _ _ e) in (ap (λ (x : ℕ). Read x) once.0, once.1)
step_once (Task m) (Task n) a b p q e =
    let once = numbers_once m n a b p q (tail_is 84 84 _ _ e) in (ap (λ (x : ℕ). Task x) once.0, once.1)
step_once (Hand m) (Hand n) a b p q e =
    let once = numbers_once m n a b p q (tail_is 72 72 _ _ e) in (ap (λ (x : ℕ). Hand x) once.0, once.1)
step_once (Out m) (Out n) a b p q e =
    let once = numbers_once m n a b p q (tail_is 79 79 _ _ e) in (ap (λ (x : ℕ). Out x) once.0, once.1)
step_once _ _ a b p q e = absurd (omega (arith, head_is _ _ _ _ e))

term_once : (w v : Term) → IsTermWithin w → IsTermWithin v → term_text w ≡ term_text v → w ≡ v
term_once w v p q e =
    let once = step_once w.step v.step w.count v.count p q e in
    let stepped : Move → Term = λ s. record { step = s; count = w.count } in
    let counted : Option ℕ → Term = λ a. record { step = v.step; count = a } in
    ap stepped once.0 ∙ ap counted once.1

heads : (c d : List ℕ) (cs ds : List (List ℕ)) → c ∷ cs ≡ d ∷ ds → (c ≡ d) × (cs ≡ ds)
heads c d cs ds e = (cc, cc)

terms_once : (ws vs : List Term) → AllByRecursion IsTermWithin ws → AllByRecursion IsTermWithin vs → map term_text ws ≡ map term_text vs → ws ≡ vs
terms_once [] [] p q e = refl
terms_once [] (v ∷ vs) p q e = cc
terms_once (w ∷ ws) [] p q e = cc
terms_once (w ∷ ws) (v ∷ vs) p q e =
    let both = heads (term_text w) (term_text v) (map term_text ws) (map term_text vs) e in
    ap (λ (x : Term). x ∷ ws) (term_once w v p.0 q.0 both.0) ∙ ap (λ (l : List Term). v ∷ l) (terms_once ws vs p.1 q.1 both.1)

says_once : (text : List ℕ) (ws vs : List Term) → Says text ws → Says text vs → ws ≡ vs
says_once text ws vs p q = terms_once ws vs p.fit q.fit (sym p.texts_are ∙ q.texts_are)

-- so all terms that a text says make the same moves
pub moves_once : (text : List ℕ) (ws vs : List Term) → Says text ws → Says text vs → moves_of_terms ws ≡ moves_of_terms vs
moves_once text ws vs p q = ap moves_of_terms (says_once text ws vs p q)

pub total_once : (text : List ℕ) (ws vs : List Term) → Says text ws → Says text vs → moves_said ws ≡ moves_said vs
total_once text ws vs p q = ap moves_said (says_once text ws vs p q)
