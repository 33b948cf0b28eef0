-- The lanes of one hop after another, and of one part after another, are counted.
use Rattle.std.proofs.Common.{◌≡◌, ℕ, ◌+◌, ◌<◌, List, length, map, get_or, take, ap, sym, ◌∙◌, arith}
use Rattle.std.specs.Prelude.{cond}
use Rattle.std.specs.List.{count_by, range_with_len, sum_by}
use Rattle.std.proofs.lemmas.List.{take_all}
use Rattle.std.proofs.lemmas.List.Sums.{length-filter, sum_by-take-le, sum_by_more}
use Rattle.pl_part.specs.Paths.{writer_hop}
use Rattle.pl_part.specs.Parts.{ChannelPartView}
use Rattle.pl_channel.specs.Ways.{ArePlaceable, Counts, HasRoom, goes_between, hops_between, lanes_between, one_more}
use Rattle.pl_channel.proofs.LaneCounts.{length-lanes_between, lanes-between-few}
use Rattle.pl_channel.proofs.PlaceTables.{count-range-le, count-range-more, counts-more, counts-same, room-left, table-is, zeros, zeros-room}

-- ---- the hops of a part

module _ {S T : Type 0} (p : ChannelPartView S T) where
  -- how many of the first hops
  abbrev pub hops_before : ℕ → ℕ → ℕ → ℕ
  hops_before n x y = count_by (goes_between x y p) (range_with_len 0 n)

  abbrev hops_of : ℕ → ℕ → ℕ
  hops_of x y = length (hops_between x y p)

  module _ (start now : List (List ℕ)) (hop : ℕ) (so_far : Counts start now (hops_before hop)) where
    module _ (origin target : ℕ) (from : origin ≡ get_or p.path.executors (writer_hop p.path hop) 0) (to : target ≡ get_or p.path.executors hop 0) where
      one-is : (x y : ℕ) → one_more origin target x y ≡ cond (goes_between x y p hop) 1 0
      one-is x y = ap (λ (n : ℕ). one_more n target x y) from ∙ ap (λ (n : ℕ). one_more (get_or p.path.executors (writer_hop p.path hop) 0) n x y) to

      pub hop-room : hop < length p.path.executors → HasRoom start hops_of → HasRoom now (one_more origin target)
      hop-room within had = room-left start now (hops_before hop) (one_more origin target) hops_of had so_far (λ x y.
          let more = count-range-more (goes_between x y p) hop in
          let part = count-range-le (goes_between x y p) (hop + 1) (length p.path.executors) (omega (arith, within)) in
          let whole = length-filter (goes_between x y p) (range_with_len 0 (length p.path.executors)) in
          let one = one-is x y in
          omega (arith, more, part, whole, one))

      pub hop-counted : (after : List (List ℕ)) → Counts now after (one_more origin target) → Counts start after (hops_before (hop + 1))
      hop-counted after counted = counts-more start now after (hops_before hop) (one_more origin target) (hops_before (hop + 1)) (λ x y.
          let more = count-range-more (goes_between x y p) hop in
          let one = one-is x y in
          omega (arith, more, one)) so_far counted

    pub hops-counted : hop ≡ length p.path.executors → Counts start now hops_of
    hops-counted all = counts-same start now (hops_before hop) hops_of (λ x y.
        length-filter (goes_between x y p) (range_with_len 0 (length p.path.executors)) ∙ ap (λ (n : ℕ). hops_before n x y) (sym all)) so_far

-- ---- the parts

module _ {S T : Type 0} (ps : List (ChannelPartView S T)) (count : ℕ) where
  -- how many of the first parts
  abbrev pub lanes_before : ℕ → ℕ → ℕ → ℕ
  lanes_before n x y = sum_by (λ p. length (hops_between x y p)) (take n ps)

  module _ (now : List (List ℕ)) (n : ℕ) (so_far : Counts (zeros count) now (lanes_before n)) where
    module _ (p : ChannelPartView S T) (within : n < length ps) (is : p ≡ get_or ps n p) where
      one-part : (x y : ℕ) → lanes_before (n + 1) x y ≡ lanes_before n x y + length (hops_between x y p)
      one-part x y =
          sum_by_more (λ (q : ChannelPartView S T). length (hops_between x y q)) ps n p within
          ∙ ap (λ (q : ChannelPartView S T). lanes_before n x y + length (hops_between x y q)) (sym is)

      pub part-room : ArePlaceable ps → HasRoom now (λ x y. length (hops_between x y p))
      part-room placeable = room-left (zeros count) now (lanes_before n) (λ x y. length (hops_between x y p)) (λ x y. sum_by (λ q. length (hops_between x y q)) ps)
          (zeros-room count (λ x y. sum_by (λ q. length (hops_between x y q)) ps) (λ x y. lanes-between-few ps x y placeable.few)) so_far (λ x y.
          let more = one-part x y in
          let part = sum_by-take-le (λ (q : ChannelPartView S T). length (hops_between x y q)) ps (n + 1) in
          omega (arith, more, part))

      pub part-counted : (after : List (List ℕ)) → Counts now after (λ x y. length (hops_between x y p)) → Counts (zeros count) after (lanes_before (n + 1))
      part-counted after counted = counts-more (zeros count) now after (lanes_before n) (λ x y. length (hops_between x y p)) (lanes_before (n + 1)) one-part so_far counted

    pub parts-counted : n ≡ length ps → now ≡ map (λ x. map (λ y. length (lanes_between ps x y)) (range_with_len 0 count)) (range_with_len 0 count)
    parts-counted all = table-is count now (lanes_before n) (λ x y. length (lanes_between ps x y)) (λ x y.
        length-lanes_between ps x y ∙ ap (λ (l : List (ChannelPartView S T)). sum_by (λ p. length (hops_between x y p)) l) (sym (take_all n ps (omega (arith, all))))) so_far
