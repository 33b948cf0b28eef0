-- Slots by place, of which each that is empty has what is at its place among others; and the stages of channels so.
use Rattle.std.proofs.Common.{◌≡◌, ℕ, zero, suc, ◌<◌, ◌≤◌, List, [], ◌∷◌, ◌++◌, length, get_or, set, Option, Some, None, replicate, refl, ap, sym, subst, ◌∙◌, arith}
use Rattle.std.specs.Global.{Vec}
use Rattle.std.specs.Prelude.{All}
use Rattle.std.specs.Option.{option_or}
use Rattle.std.proofs.lemmas.List.{get_or-map, length-map, map-set}
use Rattle.std.proofs.lemmas.List.Elements.{All-head, All-tail}
use Rattle.pl_part.specs.declared.kept.KeptStage.{KeptStage}
use Rattle.pl_part.specs.Parts.{ChannelPartView}
use Rattle.pl_exec.specs.ChannelRows.{IsChannelRow, by_channel}
use Rattle.pl_exec.specs.RunStages.{filled_up, slots_in, with_stages}
use Rattle.pl_exec.proofs.ByChannel.{by-count, by-next, row-within}

pub all-empty : {S : Type 0} (rows : List (Vec (Option (KeptStage S)))) → All (λ row. row.items ≡ []) rows → slots_in rows ≡ replicate (length rows) []
all-empty [] none = refl
all-empty {S = S} (row ∷ rows) none =
    let P = λ (r : Vec (Option (KeptStage S))). r.items ≡ [] in
    λ i. All-head P row rows none i ∷ all-empty rows (All-tail P row rows none) i

pub filled_up-none : {A : Type 0} (slots : List (Option A)) → filled_up slots [] ≡ slots
filled_up-none [] = refl
filled_up-none (slot ∷ slots) = refl

pub filled_up-count : {A : Type 0} (slots others : List (Option A)) → length (filled_up slots others) ≡ length slots
filled_up-count [] others = refl
filled_up-count (slot ∷ slots) [] = refl
filled_up-count (slot ∷ slots) (other ∷ others) = ap (λ (n : ℕ). suc n) (filled_up-count slots others)

alone : {A : Type 0} (slot : Option A) → slot ≡ option_or slot None
alone None = refl
alone (Some x) = refl

-- what is at a place
pub filled_up-at : {A : Type 0} (slots others : List (Option A)) (i : ℕ) → i < length slots → get_or (filled_up slots others) i None ≡ option_or (get_or slots i None) (get_or others i None)
filled_up-at [] others i within = absurd (omega (arith, within))
filled_up-at (Some x ∷ slots) [] zero within = refl
filled_up-at (None ∷ slots) [] zero within = refl
filled_up-at (slot ∷ slots) [] (suc i) within = alone (get_or slots i None)
filled_up-at (slot ∷ slots) (other ∷ others) zero within = refl
filled_up-at (slot ∷ slots) (other ∷ others) (suc i) within = filled_up-at slots others i (omega (arith, within))

-- one more of the others has a place
pub filled_up-next : {A : Type 0} (slots others : List (Option A)) (other was : Option A) → length others < length slots → was ≡ get_or (filled_up slots others) (length others) was
    → set (filled_up slots others) (length others) (option_or was other) ≡ filled_up slots (others ++ other ∷ [])
filled_up-next [] others other was within read = absurd (omega (arith, within))
filled_up-next (slot ∷ slots) [] other was within read = let rest = sym (filled_up-none slots) in λ i. option_or (read i) other ∷ rest i
filled_up-next {A = A} (slot ∷ slots) (first ∷ others) other was within read = ap (λ (l : List (Option A)). option_or slot first ∷ l) (filled_up-next slots others other was (omega (arith, within)) read)

-- the others that have no place are left out
pub filled_up-past : {A : Type 0} (slots others rest : List (Option A)) → length slots ≤ length others → filled_up slots others ≡ filled_up slots (others ++ rest)
filled_up-past [] others rest past = refl
filled_up-past (slot ∷ slots) [] rest past = absurd (omega (arith, past))
filled_up-past {A = A} (slot ∷ slots) (first ∷ others) rest past = ap (λ (l : List (Option A)). option_or slot first ∷ l) (filled_up-past slots others rest (omega (arith, past)))

-- ---- the stages of all channels, by the parts of an executor in a row

-- the stages of the next part come to those of its channel
pub slots-next : {S T : Type 0} (row : List ℕ) (old rows : List (Vec (Option (KeptStage S)))) (done : List (ChannelPartView S T)) (k c : ℕ) (part : ChannelPartView S T) (was new : Vec (Option (KeptStage S)))
    → IsChannelRow (length old) row → k < length row → k ≡ length done → c ≡ get_or row k 0 → slots_in rows ≡ by_channel with_stages row done (slots_in old) → was ≡ get_or rows c was → new.items ≡ with_stages was.items part
    → slots_in (set rows c new) ≡ by_channel with_stages row (done ++ part ∷ []) (slots_in old)
slots-next {S = S} {T = T} row old rows done k c part was new is within at channel so_far read added =
    let items = λ (slots : Vec (Option (KeptStage S))). slots.items in
    map-set items rows c new
    ∙ (λ i. set (so_far i) (channel i) new.items)
    ∙ by-next (with_stages {S = S} {T = T}) row (slots_in old) own done k part was.items new.items within at
    (ap items read ∙ sym (get_or-map items rows c was was.items there) ∙ (λ i. get_or (so_far i) (channel i) was.items)) added
  where
    own : IsChannelRow (length (slots_in old)) row
    own = subst (λ (n : ℕ). IsChannelRow n row) (sym (length-map old (λ (slots : Vec (Option (KeptStage S))). slots.items))) is

    there : c < length rows
    there =
        let below = row-within (with_stages {S = S} {T = T}) row (slots_in old) own k within in
        let size =
        sym (length-map rows (λ (slots : Vec (Option (KeptStage S))). slots.items))
        ∙ ap (λ (l : List (List (Option (KeptStage S)))). length l) so_far
        ∙ by-count (with_stages {S = S} {T = T}) row (slots_in old) done in
        omega (arith, channel, below, size)
