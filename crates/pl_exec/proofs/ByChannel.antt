-- Lists by channel, to which is added what stands at positions in a row.
use Rattle.std.proofs.Common.{◌≡◌, ◌≢◌, ℕ, zero, suc, ◌+◌, ◌<◌, ◌≤◌, Bool, true, false, not, List, [], ◌∷◌, ◌++◌, length, map, get_or, replicate, set, slice_get, Option, Some, None, refl, ap, sym, ◌∙◌, subst, ⊎_elim, ◌⊎◌, inl, inr, arith}
use Rattle.std.specs.Prelude.{◌==◌}
use Rattle.std.specs.List.{enumerate_from, range_with_len}
use Rattle.std.specs.Option.{option_map_or}
use Rattle.std.proofs.lemmas.Bool.{cases_eq, cases_lt, eqb-true}
use Rattle.std.proofs.lemmas.List.{get_or-map, get_or-replicate, get_or-set_other, get_or-set_same, length-map, length-replicate, length-set, same_lists}
use Rattle.std.proofs.lemmas.List.Elements.{All-get_or}
use Rattle.std.proofs.lemmas.List.FromFn.{get_or-enumerate_from, get_or-map-range_with_len, get_or-range_with_len, length-enumerate_from, length-map-range_with_len, length-range_with_len}
use Rattle.std.proofs.lemmas.List.Sums.{prefix_len-le-length, prefix_len_stops}
use Rattle.std.proofs.lemmas.Option.{same_Some, slice_get-get_or, slice_get_past, slice_get_within, get_or_from_slice_get}
use Rattle.pl_event.proofs.Lists.{at-index, slice_get-behind, slice_get_none}
use Rattle.pl_exec.specs.ChannelRows.{IsChannelRow, by_channel, held_for, row_position}
use Rattle.pl_exec.proofs.LaneTablesSteps.{range-more}

-- ---- positions

pub position-most : (row : List ℕ) (c : ℕ) → row_position row c ≤ length row
position-most row c = prefix_len-le-length (λ k. not (k == c)) row

-- what stands at the position of a channel is that channel
pub position-is : (row : List ℕ) (c : ℕ) → row_position row c < length row → get_or row (row_position row c) 0 ≡ c
position-is row c within = eqb-true (get_or row (row_position row c) 0) c (turned (get_or row (row_position row c) 0 == c) (prefix_len_stops (λ k. not (k == c)) row 0 within))
  where
    turned : (b : Bool) → not b ≡ false → b ≡ true
    turned true e = refl
    turned false e = cc

-- at a position there is one channel
pub position-one : (row : List ℕ) (c k : ℕ) → row_position row c ≡ k → k < length row → get_or row k 0 ≡ c
position-one row c k is within = subst (λ (n : ℕ). get_or row n 0 ≡ c) is (position-is row c (omega (arith, is, within)))

push-other : {A : Type 0} (ys : List A) (y : A) (j : ℕ) → j ≢ length ys → slice_get (ys ++ y ∷ []) j ≡ slice_get ys j
push-other [] y zero apart = absurd (apart refl)
push-other [] y (suc j) apart = refl
push-other (z ∷ zs) y zero apart = refl
push-other (z ∷ zs) y (suc j) apart = push-other zs y j (λ e. apart (ap (λ (n : ℕ). suc n) e))

-- ---- lists by channel

module _ {A B : Type 0} (add : A → B → A) (row : List ℕ) (xs : List A) where
  -- what stands by the number of a channel
  abbrev grown : List B → ℕ → A → A
  grown ys c x = option_map_or (add x) (held_for row ys c) x

  pub by-count : (ys : List B) → length (by_channel add row ys xs) ≡ length xs
  by-count ys = length-map (enumerate_from 0 xs) (λ (z : ℕ × A). grown ys z.0 z.1) ∙ length-enumerate_from 0 xs

  by-get : (ys : List B) (c : ℕ) (d : A) → c < length xs → get_or (by_channel add row ys xs) c d ≡ grown ys c (get_or xs c d)
  by-get ys c d within =
      let zero-first : 0 + c ≡ c = omega arith in
      get_or-map (λ (z : ℕ × A). grown ys z.0 z.1) (enumerate_from 0 xs) c (0, d) d (let size = length-enumerate_from 0 xs in omega (arith, within, size))
      ∙ ap (λ (z : ℕ × A). grown ys z.0 z.1) (get_or-enumerate_from 0 xs c (0, d) within)
      ∙ ap (λ (n : ℕ). grown ys n (get_or xs c d)) zero-first

  by-slot : (ys : List B) (c : ℕ) (x : A) → slice_get xs c ≡ Some x → slice_get (by_channel add row ys xs) c ≡ Some (grown ys c x)
  by-slot ys c x at =
      let within = slice_get_within xs c x at in
      slice_get-get_or (by_channel add row ys xs) c x (let size = by-count ys in omega (arith, within, size))
      ∙ ap (λ (y : A). Some y) (by-get ys c x within ∙ ap (grown ys c) (get_or_from_slice_get xs c x x at))

  -- there is something at its position
  pub by-held : (ys : List B) (c : ℕ) (x : A) (y : B) → slice_get xs c ≡ Some x → held_for row ys c ≡ Some y → slice_get (by_channel add row ys xs) c ≡ Some (add x y)
  by-held ys c x y at held = by-slot ys c x at ∙ ap (λ (o : Option B). Some (option_map_or (add x) o x)) held

  -- What stands by the number of a channel is what stood there, with what there is at its position, if there is anything.
  pub record Slot (ys : List B) (c : ℕ) (z : A) : Type 0 where
    pub before : A
    pub was : slice_get xs c ≡ Some before
    pub is : ((y : B) × (held_for row ys c ≡ Some y) × (z ≡ add before y)) ⊎ ((length ys ≤ row_position row c) × (z ≡ before))

  pub slot-at : (ys : List B) (c : ℕ) (z : A) → slice_get (by_channel add row ys xs) c ≡ Some z → Slot ys c z
  slot-at ys c z at = record { before = x.0; was = x.1; is = by (held_for row ys c) refl }
    where
      x : (x : A) × (slice_get xs c ≡ Some x)
      x = at-index xs c (let size = by-count ys in let within = slice_get_within (by_channel add row ys xs) c z at in omega (arith, size, within))

      value : z ≡ grown ys c x.0
      value = same_Some z (grown ys c x.0) (sym at ∙ by-slot ys c x.0 x.1)

      by : (o : Option B) → held_for row ys c ≡ o → ((y : B) × (held_for row ys c ≡ Some y) × (z ≡ add x.0 y)) ⊎ ((length ys ≤ row_position row c) × (z ≡ x.0))
      by None held = inr (slice_get_none ys (row_position row c) held, value ∙ ap (λ (o : Option B). option_map_or (add x.0) o x.0) held)
      by (Some y) held = inl (y, held, value ∙ ap (λ (o : Option B). option_map_or (add x.0) o x.0) held)

  -- nothing is added
  pub by-none : by_channel add row [] xs ≡ xs
  by-none = same_lists (by_channel add row [] xs) xs (by-count []) (λ n d lt. by-get [] n d (let size = by-count [] in omega (arith, lt, size)))

  module _ (is : IsChannelRow (length xs) row) where
    pub row-within : (k : ℕ) → k < length row → get_or row k 0 < length xs
    row-within k within = All-get_or (λ c. c < length xs) row k 0 within is.there

    pub held-at : (ys : List B) (k : ℕ) (y : B) → k < length row → slice_get ys k ≡ Some y → held_for row ys (get_or row k 0) ≡ Some y
    held-at ys k y within at = ap (λ (n : ℕ). slice_get ys n) (is.once k within) ∙ at

    -- where other things stand at one position, or more, it is so of its channel
    pub by-write : (ys zs : List B) (k : ℕ) (x : A) (y : B) → k < length row → slice_get xs (get_or row k 0) ≡ Some x → slice_get zs k ≡ Some y → ((j : ℕ) → j ≢ k → slice_get zs j ≡ slice_get ys j)
        → by_channel add row zs xs ≡ set (by_channel add row ys xs) (get_or row k 0) (add x y)
    by-write ys zs k x y within at here same = same_lists (by_channel add row zs xs) (set (by_channel add row ys xs) c (add x y)) (by-count zs ∙ sym (length-set (by_channel add row ys xs) c (add x y) ∙ by-count ys)) each
      where
        c : ℕ
        c = get_or row k 0

        each : (n : ℕ) (d : A) → n < length (by_channel add row zs xs) → get_or (by_channel add row zs xs) n d ≡ get_or (set (by_channel add row ys xs) c (add x y)) n d
        each n d lt = ⊎_elim
            (λ (e : n ≡ c).
            ap (λ (m : ℕ). get_or (by_channel add row zs xs) m d) e
            ∙ get_or_from_slice_get (by_channel add row zs xs) c (add x y) d (by-held zs c x y at (held-at zs k y within here))
            ∙ sym (get_or-set_same (by_channel add row ys xs) c (add x y) d (let size = by-count ys in let w = row-within k within in omega (arith, size, w)))
            ∙ ap (λ (m : ℕ). get_or (set (by_channel add row ys xs) c (add x y)) m d) (sym e))
            (λ (other : n ≢ c).
            let below : n < length xs = let size = by-count zs in omega (arith, lt, size) in
            by-get zs n d below
            ∙ ap (λ (o : Option B). option_map_or (add (get_or xs n d)) o (get_or xs n d)) (same (row_position row n) (λ e. other (sym (position-one row n k e within))))
            ∙ sym (by-get ys n d below)
            ∙ sym (get_or-set_other (by_channel add row ys xs) c n (add x y) d other))
            (cases_eq n c)

    -- what stands at the next position is added too
    pub by-next : (ys : List B) (k : ℕ) (y : B) (z w : A) → k < length row → k ≡ length ys → z ≡ get_or (by_channel add row ys xs) (get_or row k 0) z → w ≡ add z y
        → set (by_channel add row ys xs) (get_or row k 0) w ≡ by_channel add row (ys ++ y ∷ []) xs
    by-next ys k y z w within last read added =
        ap (λ (v : A). set (by_channel add row ys xs) c v) (added ∙ ap (λ (v : A). add v y) same)
        ∙ sym (by-write ys (ys ++ y ∷ []) k x.0 y within x.1 (ap (λ (n : ℕ). slice_get (ys ++ y ∷ []) n) last ∙ slice_get-behind ys [] y) (λ j apart. push-other ys y j (λ e. apart (e ∙ sym last))))
      where
        c : ℕ
        c = get_or row k 0

        x : (x : A) × (slice_get xs c ≡ Some x)
        x = at-index xs c (row-within k within)

        -- nothing was added there
        none : held_for row ys c ≡ None
        none = slice_get_past ys (row_position row c) (let at = is.once k within in omega (arith, at, last))

        same : z ≡ x.0
        same = read ∙ get_or_from_slice_get (by_channel add row ys xs) c x.0 z (by-slot ys c x.0 x.1 ∙ ap (λ (o : Option B). Some (option_map_or (add x.0) o x.0)) none)

-- ---- the positions of all channels

module _ (channels : ℕ) (row : List ℕ) (is : IsChannelRow channels row) where
  abbrev positions-of : List ℕ → List ℕ
  positions-of ys = by_channel (λ n k. k) row ys (replicate channels (length row))

  replicated-count : length (replicate channels (length row)) ≡ channels
  replicated-count = length-replicate channels (length row)

  pub positions-size : (ys : List ℕ) → length (positions-of ys) ≡ channels
  positions-size ys = by-count (λ n k. k) row (replicate channels (length row)) ys ∙ replicated-count

  pub next-position : (k z : ℕ) → k < length row → z ≡ get_or (positions-of (range_with_len 0 k)) (get_or row k 0) z → set (positions-of (range_with_len 0 k)) (get_or row k 0) k ≡ positions-of (range_with_len 0 (k + 1))
  next-position k z within read =
      by-next (λ n j. j) row (replicate channels (length row)) (subst (λ (n : ℕ). IsChannelRow n row) (sym replicated-count) is) (range_with_len 0 k) k k z k within (sym (length-range_with_len 0 k)) read refl
      ∙ ap positions-of (sym (range-more k))

  pub all-positions : positions-of (range_with_len 0 (length row)) ≡ map (row_position row) (range_with_len 0 channels)
  all-positions = same_lists (positions-of (range_with_len 0 (length row))) (map (row_position row) (range_with_len 0 channels)) (positions-size (range_with_len 0 (length row)) ∙ sym (length-map-range_with_len (row_position row) 0 channels)) each
    where
      -- what is at a position, or behind them
      value : (n d : ℕ) → n < channels → option_map_or (λ (k : ℕ). k) (slice_get (range_with_len 0 (length row)) (row_position row n)) (get_or (replicate channels (length row)) n d) ≡ row_position row n
      value n d below = elim (cases_lt (row_position row n) (length row)) [
        | inl within ↦
            let count = length-range_with_len 0 (length row) in
            let is : 0 + row_position row n ≡ row_position row n = omega arith in
            ap (λ (o : Option ℕ). option_map_or (λ (k : ℕ). k) o (get_or (replicate channels (length row)) n d))
            (slice_get-get_or (range_with_len 0 (length row)) (row_position row n) 0 (omega (arith, within, count))
            ∙ ap (λ (m : ℕ). Some m) (get_or-range_with_len 0 (length row) (row_position row n) 0 within ∙ is))
        | inr past ↦
            let count = length-range_with_len 0 (length row) in
            let most = position-most row n in
            let is : length row ≡ row_position row n = omega (arith, most, past) in
            ap (λ (o : Option ℕ). option_map_or (λ (k : ℕ). k) o (get_or (replicate channels (length row)) n d)) (slice_get_past (range_with_len 0 (length row)) (row_position row n) (omega (arith, past, count)))
            ∙ get_or-replicate channels n (length row) d below ∙ is
      ]

      each : (n d : ℕ) → n < length (positions-of (range_with_len 0 (length row))) → get_or (positions-of (range_with_len 0 (length row))) n d ≡ get_or (map (row_position row) (range_with_len 0 channels)) n d
      each n d lt =
          let all-of = positions-size (range_with_len 0 (length row)) in
          let count = replicated-count in
          let below : n < channels = omega (arith, lt, all-of) in
          let zero-first : 0 + n ≡ n = omega arith in
          by-get (λ n j. j) row (replicate channels (length row)) (range_with_len 0 (length row)) n d (omega (arith, below, count))
          ∙ value n d below ∙ sym (get_or-map-range_with_len (row_position row) 0 channels n n d below zero-first)
