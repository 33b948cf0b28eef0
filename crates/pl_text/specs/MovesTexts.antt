-- The text of a list of moves (docs/FORMATS.md, "Moves"). A number is written as it is printed, so with no zero before it.
use Rattle.std.specs.Prelude.{◌≡◌, ℕ, ◌≤◌, ◌<◌, ◌==◌, List, [], ◌∷◌, ◌++◌, length, map, sum_by, replicate, decimal, if◌then◌else◌, Option, Some, None, IfSome}
use Rattle.std.specs.List.{slice_split, flat_map, AllByRecursion}
use Rattle.pl_world.specs.declared.moves.Move.{Move}
use Rattle.pl_world.specs.declared.moves.Move.TheVariants.{Read, Task, Hand, Out}
use Rattle.pl_world.specs.Movers.{mover_of}
use Rattle.pl_text.specs.declared.faults.MovesFault.{MovesFault}
use Rattle.pl_text.specs.declared.faults.MovesFault.TheVariants as fault
use Rattle.pl_text.specs.declared.moves_text.terms.Term.{Term}
use Rattle.pl_text.specs.declared.moves_text.terms.TheConstants.{MAX_NUMBER, MAX_COUNT}
use Rattle.pl_text.specs.declared.moves_text.TheConstants.{MAX_MOVES}

-- R, T, H or O, and the number
abbrev pub move_text : Move → List ℕ
move_text (Read n) = 82 ∷ decimal n
move_text (Task n) = 84 ∷ decimal n
move_text (Hand n) = 72 ∷ decimal n
move_text (Out n) = 79 ∷ decimal n

-- x and the count, where there is one
abbrev pub count_text : Option ℕ → List ℕ
count_text None = []
count_text (Some n) = 120 ∷ decimal n

abbrev pub term_text : Term → List ℕ
term_text w = move_text w.step ++ count_text w.count

-- a term without a count, after another one
abbrev pub next_word : Move → List ℕ
next_word step = 32 ∷ move_text step

-- a term without a count for each move, with a space between each two
abbrev pub terms_text : List Move → List ℕ
terms_text [] = []
terms_text (step ∷ steps) = move_text step ++ flat_map next_word steps

-- a term can say it
abbrev pub IsSayable : Move → Type 0
IsSayable step = mover_of step ≤ MAX_NUMBER

-- a number and a count within their limits
pub record AreInRange (number : ℕ) (count : Option ℕ) : Type 0 where
  pub number_fits : number ≤ MAX_NUMBER
  pub count_fits : IfSome count (λ n. (1 ≤ n) × (n ≤ MAX_COUNT))

abbrev pub IsTermWithin : Term → Type 0
IsTermWithin w = AreInRange (mover_of w.step) w.count

-- the texts between single spaces, and none of the empty text
abbrev pub between_spaces : List ℕ → List (List ℕ)
between_spaces text = if length text == 0 then [] else slice_split (λ b. b == 32) text

-- The text says these terms. They are its texts between spaces, each within its limits.
pub record Says (text : List ℕ) (ws : List Term) : Type 0 where
  pub texts_are : between_spaces text ≡ map term_text ws
  pub fit : AllByRecursion IsTermWithin ws

-- one, where there is no count
abbrev pub times_of : Option ℕ → ℕ
times_of None = 1
times_of (Some n) = n

abbrev pub copies_of_term : Term → ℕ
copies_of_term w = times_of w.count

-- how many moves the terms say
abbrev pub moves_said : List Term → ℕ
moves_said ws = sum_by copies_of_term ws

-- as many copies of each term's move as it says
abbrev pub moves_of_terms : List Term → List Move
moves_of_terms ws = flat_map (λ w. replicate (copies_of_term w) w.step) ws

-- The text means these moves (FORMATS). They are those of the terms that it says, at most `MAX_MOVES`.
abbrev pub MeansMoves : List ℕ → List Move → Type 0
MeansMoves text moves = (ws : List Term) × Says text ws × (moves_said ws ≤ MAX_MOVES) × (moves ≡ moves_of_terms ws)

-- the text has something between spaces that is not a term, or says too many moves
abbrev pub IsNoMoves : MovesFault → List ℕ → Type 0
IsNoMoves fault.Form text = (ws : List Term) → Says text ws → ⊥
IsNoMoves fault.Limit text = (ws : List Term) × Says text ws × (MAX_MOVES < moves_said ws)
IsNoMoves fault.Memory text = ⊥
