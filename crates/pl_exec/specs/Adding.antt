-- The values of one list, added to those of another.
use Rattle.std.specs.Prelude.{List, [], ◌∷◌}

-- to each of the first list the one of its number in the second is added, as far as that goes
abbrev pub each_with : {A B : Type 0} → (A → B → A) → List A → List B → List A
each_with add [] ys = []
each_with add (x ∷ xs) [] = x ∷ xs
each_with add (x ∷ xs) (y ∷ ys) = add x y ∷ each_with add xs ys
