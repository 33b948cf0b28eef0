-- An inbound chain split at its turn, and handlers that have taken nothing.
use Rattle.std.proofs.Common.{◌≡◌, ℕ, ◌+◌, ◌<◌, List, [], ◌∷◌, ◌++◌, length, get_or, take, drop, Bool, false, ap, sym, subst, ◌∙◌, arith, add-one, drop-cons}
use Rattle.std.specs.Prelude.{All}
use Rattle.std.specs.List.{list_any, position_or_len}
use Rattle.std.proofs.lemmas.Grind.{common_steps}
use Rattle.std.proofs.lemmas.List.{get_or-take, length-take, take-append-drop}
use Rattle.std.proofs.lemmas.List.Elements.{All-nil, All-cons, All-head, All-tail}
use Rattle.std.proofs.lemmas.List.Folds.{list_any_none}
use Rattle.std.proofs.lemmas.List.Sums.{fails_before_first}
use Rattle.pl_event.specs.declared.events.Event.{Event}

-- ---- lists

-- none before the first that passes does
pub none_before : {X : Type 0} (p : X → Bool) (xs : List X) (i : ℕ) → i ≡ position_or_len p xs → list_any p (take i xs) ≡ false
none_before p xs i first =
    list_any_none p (take i xs) (λ k d within.
    ap p (get_or-take i xs k d (omega (arith, within, length-take i xs))) ∙ fails_before_first p xs k d (omega (arith, within, length-take i xs, first)))

pub front_kept : {X : Type 0} (xs : List X) (i : ℕ) → take i (take (i + 1) xs) ++ drop (i + 1) (take (i + 1) xs) ≡ take i xs
front_kept xs i = grind (arith, common_steps)

pub split_whole : {X : Type 0} (xs cut front rest : List X) (i : ℕ) (x : X) → i < length xs → cut ≡ take (i + 1) xs → front ≡ take i cut ++ drop (i + 1) cut → x ≡ get_or cut i x → rest ≡ drop (i + 1) xs → xs ≡ front ++ x ∷ rest
split_whole {X = X} xs cut front rest i x within is kept here left =
    let front_is : front ≡ take i xs = kept ∙ ap (λ (t : List X). take i t ++ drop (i + 1) t) is ∙ front_kept xs i in
    let x_is : x ≡ get_or xs i x = here ∙ ap (λ (t : List X). get_or t i x) is ∙ get_or-take (i + 1) xs i x (omega arith) in
    sym (take-append-drop i xs)
    ∙ ap (λ (t : List X). take i xs ++ t) (drop-cons xs i x within ∙ ap (λ (n : ℕ). get_or xs i x ∷ drop n xs) (sym (add-one i)))
    ∙ (λ k. sym front_is k ++ sym x_is k ∷ sym left k)

-- ---- chains

-- what is true of each handler of a chain is true of each of its parts
pub split_new : {S : Type 0} (stands_after : S → List Event → Type 0) (inbound before : List S) (turn : S) (after : List S) → inbound ≡ before ++ turn ∷ after → All (λ s. stands_after s []) inbound
    → (All (λ s. stands_after s []) before) × (stands_after turn []) × (All (λ s. stands_after s []) after)
split_new {S = S} stands_after inbound before turn after whole all =
    let New : S → Type 0 = λ s. stands_after s [] in
    parts before (subst (λ (t : List S). All New t) whole all)
  where
    parts : (ss : List S) → All (λ s. stands_after s []) (ss ++ turn ∷ after) → (All (λ s. stands_after s []) ss) × (stands_after turn []) × (All (λ s. stands_after s []) after)
    parts [] h = (All-nil (λ (s : S). stands_after s []), All-head (λ (s : S). stands_after s []) turn after h, All-tail (λ (s : S). stands_after s []) turn after h)
    parts (s ∷ ss) h =
        let rest = parts ss (All-tail (λ (t : S). stands_after t []) s (ss ++ turn ∷ after) h) in
        (All-cons (λ (t : S). stands_after t []) s ss (All-head (λ (t : S). stands_after t []) s (ss ++ turn ∷ after) h) rest.0, rest.1, rest.2)
