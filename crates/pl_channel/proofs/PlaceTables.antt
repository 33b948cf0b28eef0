-- Tables of numbers, with a row for each executor, in which one more is counted at a time.
use Rattle.std.proofs.Common.{◌≡◌, ℕ, ◌+◌, ◌<◌, ◌≤◌, ◌^◌, ◌&&◌, Bool, List, [], length, map, get_or, set, take, replicate, refl, ap, sym, subst, ◌∙◌, arith, inl, inr}
use Rattle.std.specs.Global.{Vec}
use Rattle.std.specs.Prelude.{◌==◌, cond}
use Rattle.std.specs.List.{count_by, range_with_len}
use Rattle.std.proofs.lemmas.Bool.{cases_eq, cases_lt, eq-eqb, ne_eqb}
use Rattle.std.proofs.lemmas.List.{get_or-replicate, get_or-set_other, get_or-set_same, get_or-map, get_or_past, length-map, length-replicate, length-set, map-id, map-set}
use Rattle.std.proofs.lemmas.List.FromFn.{fill_by_all, get_or-map-range_with_len, length-map-range_with_len, sum_by-map-range_with_len_more, take-map-range_with_len}
use Rattle.std.proofs.lemmas.List.Sums.{sum_by-take-le}
use Rattle.pl_channel.specs.Ways.{Counts, HasRoom, pairs_counted, one_more}

-- what a row holds
abbrev pub items : Vec ℕ → List ℕ
items row = row.items

row-within : (table : List (List ℕ)) (x y : ℕ) → y < length (get_or table x []) → x < length table
row-within table x y column = elim (cases_lt x (length table)) [
  | inl within ↦ within
  | inr past ↦ let none = ap (λ (l : List ℕ). length l) (get_or_past table x [] past) in absurd (omega (arith, none, column))
]

-- ---- one more

one-here : (origin target x y : ℕ) → origin ≡ x → target ≡ y → one_more origin target x y ≡ 1
one-here origin target x y row column = λ i. cond (eq-eqb origin x row i && eq-eqb target y column i) 1 0

one-elsewhere-row : (origin target x y : ℕ) → (origin ≡ x → ⊥) → one_more origin target x y ≡ 0
one-elsewhere-row origin target x y other = ap (λ (b : Bool). cond (b && (target == y)) 1 0) (ne_eqb origin x other)

one-elsewhere : (origin target x y : ℕ) → origin ≡ x → (target ≡ y → ⊥) → one_more origin target x y ≡ 0
one-elsewhere origin target x y row other = λ i. cond (eq-eqb origin x row i && ne_eqb target y other i) 1 0

module _ (table : List (List ℕ)) (origin target : ℕ) where
  abbrev row : List ℕ
  row = get_or table origin []

  abbrev grown : List ℕ
  grown = set row target (get_or row target 0 + 1)

  abbrev after : List (List ℕ)
  after = set table origin grown

  pub count-one : origin < length table → Counts table after (one_more origin target)
  count-one there = record {
    rows = length-set table origin grown;
    columns = λ x. elim (cases_eq x origin) [
      | inl here ↦ ap (λ (k : ℕ). length (get_or after k [])) here ∙ ap (λ (l : List ℕ). length l) (get_or-set_same table origin grown [] there) ∙ length-set row target (get_or row target 0 + 1) ∙ ap (λ (k : ℕ). length (get_or table k [])) (sym here)
      | inr other ↦ ap (λ (l : List ℕ). length l) (get_or-set_other table origin x grown [] other)
    ];
    each = λ x y within column. elim (cases_eq x origin) [
      | inl here ↦
          let at : pairs_counted after x y ≡ get_or grown y 0 = ap (λ (k : ℕ). pairs_counted after k y) here ∙ ap (λ (l : List ℕ). get_or l y 0) (get_or-set_same table origin grown [] there) in
          let was : pairs_counted table x y ≡ get_or row y 0 = ap (λ (k : ℕ). pairs_counted table k y) here in
          let size : length (get_or table x []) ≡ length row = ap (λ (k : ℕ). length (get_or table k [])) here in
          elim (cases_eq y target) [
            | inl too ↦
                let more : get_or grown y 0 ≡ get_or row y 0 + 1 =
                ap (λ (k : ℕ). get_or grown k 0) too ∙ get_or-set_same row target (get_or row target 0 + 1) 0 (omega (arith, column, size, too)) ∙ ap (λ (k : ℕ). get_or row k 0 + 1) (sym too) in
                let one = one-here origin target x y (sym here) (sym too) in
                omega (arith, at, was, more, one)
            | inr beside ↦
                let same = get_or-set_other row target y (get_or row target 0 + 1) 0 beside in
                let none = one-elsewhere origin target x y (sym here) (λ e. beside (sym e)) in
                omega (arith, at, was, same, none)
          ]
      | inr other ↦
          let same : pairs_counted after x y ≡ pairs_counted table x y = ap (λ (l : List ℕ). get_or l y 0) (get_or-set_other table origin x grown [] other) in
          let none = one-elsewhere-row origin target x y (λ e. other (sym e)) in
          omega (arith, same, none)
    ];
  }

module _ (rows : List (Vec ℕ)) (i : ℕ) (row : Vec ℕ) (within : i < length rows) (is : row ≡ get_or rows i row) where
  at-row : row.items ≡ get_or (map items rows) i []
  at-row = ap items is ∙ sym (get_or-map items rows i row [] within)

  -- one more in a row
  pub row-room : (target : ℕ) → HasRoom (map items rows) (one_more i target) → get_or row.items target 0 + 1 < 2 ^ 16
  row-room target had =
      let room = had.few i target in
      let one = one-here i target i target refl refl in
      let at = ap (λ (l : List ℕ). get_or l target 0) at-row in
      omega (arith, room, one, at)

  pub row-counted : (target : ℕ) (new : Vec ℕ) → new.items ≡ set row.items target (get_or row.items target 0 + 1) → Counts (map items rows) (map items (set rows i new)) (one_more i target)
  row-counted target new grown =
      let table = map items rows in
      subst (λ (l : List (List ℕ)). Counts table l (one_more i target))
      (sym (map-set items rows i new ∙ ap (λ (l : List ℕ). set table i l) (grown ∙ ap (λ (l : List ℕ). set l target (get_or l target 0 + 1)) at-row)))
      (count-one table i target (omega (arith, within, length-map rows items)))

  -- a row of a table that is known by its rows
  pub row-is : (f : ℕ → List ℕ) (count : ℕ) → map items rows ≡ map f (range_with_len 0 count) → row.items ≡ f i
  row-is f count are =
      let size = ap (λ (l : List (List ℕ)). length l) are in
      at-row
      ∙ ap (λ (l : List (List ℕ)). get_or l i []) are
      ∙ get_or-map-range_with_len f 0 count i i [] (omega (arith, within, size, length-map rows items, length-map-range_with_len f 0 count)) (omega arith)

-- ---- more and more

pub counts-same : (a b : List (List ℕ)) (f g : ℕ → ℕ → ℕ) → ((x y : ℕ) → g x y ≡ f x y) → Counts a b f → Counts a b g
counts-same a b f g same all = record { rows = all.rows; columns = all.columns; each = λ x y within column. let at = all.each x y within column in let is = same x y in omega (arith, at, is) }

pub counts-more : (a b c : List (List ℕ)) (f g h : ℕ → ℕ → ℕ) → ((x y : ℕ) → h x y ≡ f x y + g x y) → Counts a b f → Counts b c g → Counts a c h
counts-more a b c f g h whole one two = record {
  rows = two.rows ∙ one.rows;
  columns = λ x. two.columns x ∙ one.columns x;
  each = λ x y within column.
      let first = one.each x y within column in
      let second = two.each x y (omega (arith, within, one.rows)) (omega (arith, column, one.columns x)) in
      let both = whole x y in
      omega (arith, first, second, both);
}

-- where there is room for the whole, there is room for what is left of it
pub room-left : (start now : List (List ℕ)) (f g whole : ℕ → ℕ → ℕ) → HasRoom start whole → Counts start now f → ((x y : ℕ) → f x y + g x y ≤ whole x y) → HasRoom now g
room-left start now f g whole had so_far part = record {
  few = λ x y.
      let fits = part x y in
      let room = had.few x y in
      elim (cases_lt y (length (get_or start x []))) [
        | inl column ↦ let at = so_far.each x y (row-within start x y column) column in omega (arith, at, fits, room)
        | inr past ↦
            let size = so_far.columns x in
            let none : pairs_counted now x y ≡ 0 = get_or_past (get_or now x []) y 0 (omega (arith, past, size)) in
            omega (arith, none, fits, room)
      ];
}

-- ---- from none to all

module _ (count : ℕ) where
  abbrev pub zeros : List (List ℕ)
  zeros = replicate count (replicate count 0)

  zeros-row : (x : ℕ) → x < count → get_or zeros x [] ≡ replicate count 0
  zeros-row x within = get_or-replicate count x (replicate count 0) [] within

  zeros-size : (x : ℕ) → x < count → length (get_or zeros x []) ≡ count
  zeros-size x within = ap (λ (l : List ℕ). length l) (zeros-row x within) ∙ length-replicate count 0

  zeros-at : (x y : ℕ) → pairs_counted zeros x y ≡ 0
  zeros-at x y = elim (cases_lt y (length (get_or zeros x []))) [
    | inl column ↦
        let size = length-replicate count (replicate {A = ℕ} count 0) in
        let row = row-within zeros x y column in
        let within : x < count = omega (arith, row, size) in
        let columns = zeros-size x within in
        ap (λ (l : List ℕ). get_or l y 0) (zeros-row x within) ∙ get_or-replicate count y 0 0 (omega (arith, column, columns))
    | inr past ↦ get_or_past (get_or zeros x []) y 0 past
  ]

  pub zeros-room : (f : ℕ → ℕ → ℕ) → ((x y : ℕ) → f x y < 2 ^ 16) → HasRoom zeros f
  zeros-room f few = record { few = λ x y. let none = zeros-at x y in let fits = few x y in omega (arith, none, fits) }

  pub table-is : (table : List (List ℕ)) (f g : ℕ → ℕ → ℕ) → ((x y : ℕ) → g x y ≡ f x y) → Counts zeros table f → table ≡ map (λ x. map (λ y. g x y) (range_with_len 0 count)) (range_with_len 0 count)
  table-is table f g same all =
      fill_by_all (λ x. map (λ y. g x y) (range_with_len 0 count)) table count [] (all.rows ∙ length-replicate count (replicate {A = ℕ} count 0)) (λ x within.
      let row = zeros-size x within in
      fill_by_all (λ y. g x y) (get_or table x []) count 0 (all.columns x ∙ row) (λ y column.
      let size = length-replicate count (replicate {A = ℕ} count 0) in
      let none = zeros-at x y in
      let at = all.each x y (omega (arith, within, size)) (omega (arith, column, row)) in
      let is = same x y in
      omega (arith, at, none, is)))

-- ---- how many of a range

module _ (q : ℕ → Bool) where
  pub count-range-more : (n : ℕ) → count_by q (range_with_len 0 (n + 1)) ≡ count_by q (range_with_len 0 n) + cond (q n) 1 0
  count-range-more n =
      ap (λ (l : List ℕ). count_by q l) (sym (map-id (range_with_len 0 (n + 1))))
      ∙ sum_by-map-range_with_len_more (λ (k : ℕ). cond (q k) 1 0) (λ (k : ℕ). k) 0 n n (omega arith)
      ∙ ap (λ (l : List ℕ). count_by q l + cond (q n) 1 0) (map-id (range_with_len 0 n))

  pub count-range-le : (k n : ℕ) → k ≤ n → count_by q (range_with_len 0 k) ≤ count_by q (range_with_len 0 n)
  count-range-le k n within =
      let front : count_by q (range_with_len 0 k) ≡ count_by q (take k (range_with_len 0 n)) =
      ap (λ (l : List ℕ). count_by q l) (sym (map-id (range_with_len 0 k)) ∙ sym (take-map-range_with_len (λ (j : ℕ). j) 0 n k within)) ∙ ap (λ (l : List ℕ). count_by q (take k l)) (map-id (range_with_len 0 n)) in
      let less = sum_by-take-le (λ (j : ℕ). cond (q j) 1 0) (range_with_len 0 n) k in
      omega (arith, front, less)
