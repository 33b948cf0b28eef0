-- The channels that have nodes on each executor: a row of them for each, made in one walk over all hops.
use Rattle.std.proofs.Common.{◌≡◌, ◌≢◌, ◌||◌, ℕ, ◌+◌, ◌<◌, ◌≤◌, Bool, true, false, not, List, [], ◌∷◌, ◌++◌, Some, get_or, set, take, slice_get, length, map, refl, ap, sym, subst, ◌∙◌, ⊎_elim, arith, append-nil}
use Rattle.std.specs.Global.{Vec}
use Rattle.std.specs.Prelude.{◌==◌, All, Contains, cond}
use Rattle.std.specs.List.{range_with_len}
use Rattle.std.specs.Option.{option_map}
use Rattle.std.specs.Set.{is_member}
use Rattle.std.proofs.lemmas.Bool.{both_ways, cases_eq, eq-eqb, ne_eqb, or_right}
use Rattle.std.proofs.lemmas.Bool.Decides.{Decides-eqb}
use Rattle.std.proofs.lemmas.List.{get_or-map, get_or-set_other, get_or-set_same, length-map, length-set, length-take-le, map-append, map-set, take_more}
use Rattle.std.proofs.lemmas.List.Elements.{All-contains, All-from_get_or, All-same, All-weaker}
use Rattle.std.proofs.lemmas.List.Folds.{list_any_more}
use Rattle.std.proofs.lemmas.List.FromFn.{fill_by_all, get_or-map-range_with_len, length-map-range_with_len}
use Rattle.std.proofs.lemmas.List.Sums.{position_or_len_is, prefix_len_passes}
use Rattle.std.proofs.lemmas.Map.Made.{is_member-Decides}
use Rattle.std.proofs.lemmas.Option.{get_or_from_slice_get, slice_get-map}
use Rattle.pl_event.proofs.Lists.{All-at, at-index, map-at}
use Rattle.pl_part.specs.Parts.{ChannelPartView}
use Rattle.pl_exec.specs.ChannelRows.{IsChannelRow, row_position}
use Rattle.pl_exec.specs.ExecutorNodes.{numbered_from}
use Rattle.pl_exec.specs.Sharing.{AreNoted, IsNoted, IsNotedAt, channels_on, rows_in}
use Rattle.pl_exec.proofs.HeadLists.{in-range, numbered-few, numbered-more, numbered-there, rising}

-- as many rows as there are executors, with nothing in them
pub rows-none : (rows : List (Vec ℕ)) (count : ℕ) → length rows ≡ count → All (λ row. row.items ≡ []) rows → rows_in rows ≡ map (λ x. []) (range_with_len 0 count)
rows-none rows count size none =
    fill_by_all (λ x. []) (rows_in rows) count [] (length-map rows (λ (row : Vec ℕ). row.items) ∙ size)
    (λ x below.
    let row = at-index rows x (omega (arith, below, size)) in
    get_or_from_slice_get (rows_in rows) x row.0.items [] (map-at (λ (v : Vec ℕ). v.items) rows x row.0 row.1) ∙ All-at (λ (v : Vec ℕ). v.items ≡ []) rows x row.0 none row.1)

-- ---- one hop

pub noted-at : (rows : List (Vec ℕ)) (executor channel : ℕ) (before after : Vec ℕ) → executor < length rows → before ≡ get_or rows executor before → IsNoted channel before.items after.items
    → IsNotedAt channel executor (rows_in rows) (rows_in (set rows executor after))
noted-at rows executor channel before after within read noted =
    let view = λ (row : Vec ℕ). row.items in
    let is : before.items ≡ get_or (rows_in rows) executor [] = ap view read ∙ sym (get_or-map view rows executor before [] within) in
    let size : length (rows_in rows) ≡ length rows = length-map rows view in
    subst (λ (l : List (List ℕ)). IsNotedAt channel executor (rows_in rows) l) (sym (map-set view rows executor after))
    (record {
      count = length-set (rows_in rows) executor after.items;
      here = λ _. subst (λ (z : List ℕ × List ℕ). IsNoted channel z.0 z.1) (λ i. (is i, sym (get_or-set_same (rows_in rows) executor after.items [] (omega (arith, within, size))) i)) noted;
      others = λ x apart. get_or-set_other (rows_in rows) executor x after.items [] apart;
    })

-- there is no row for it
pub noted-nowhere : (rows : List (Vec ℕ)) (executor channel : ℕ) → length rows ≤ executor → IsNotedAt channel executor (rows_in rows) (rows_in rows)
noted-nowhere rows executor channel past = record {
  count = refl;
  here = λ within. let size = length-map rows (λ (row : Vec ℕ). row.items) in absurd (omega (arith, past, within, size));
  others = λ x apart. refl;
}

-- ---- the hops of a channel

or-false : (b c : Bool) → c ≡ false → (b || c) ≡ b
or-false true c e = refl
or-false false c e = e

module _ (channel : ℕ) where
  row-noted : (row now after : List ℕ) (b : Bool) → All (λ c. c < channel) row → now ≡ row ++ cond b (channel ∷ []) [] → IsNoted channel now after → after ≡ row ++ channel ∷ []
  row-noted row now after true lower was noted = noted.again row was ∙ was
  row-noted row now after false lower was noted =
      let same = was ∙ append-nil row in
      noted.once (All-same (λ c. c < channel) now row same lower) ∙ ap (λ (l : List ℕ). l ++ channel ∷ []) same

  module _ (es : List ℕ) (start : List (List ℕ)) where
    pub none-noted : AreNoted channel (take 0 es) start start
    none-noted = record { count = refl; each = λ x within. sym (append-nil (get_or start x [])) }

    pub next-noted : (n executor : ℕ) (now after : List (List ℕ)) → All (All (λ c. c < channel)) start → n < length es → executor ≡ get_or es n 0 → AreNoted channel (take n es) start now → IsNotedAt channel executor now after
        → AreNoted channel (take (n + 1) es) start after
    next-noted n executor now after lower within is so_far noted = record {
      count = noted.count ∙ so_far.count;
      each = λ x below.
          let was = is_member (λ a b. a == b) (take n es) x in
          let more : is_member (λ a b. a == b) (take (n + 1) es) x ≡ (was || (x == get_or es n 0)) = list_any_more (λ b. x == b) es n 0 within in
          let row = get_or start x [] in
          let size = so_far.count in
          ⊎_elim
          (λ (e : x ≡ executor).
          let here = subst (λ (k : ℕ). IsNoted channel (get_or now k []) (get_or after k [])) (sym e) (noted.here (omega (arith, e, below, size))) in
          row-noted row (get_or now x []) (get_or after x []) was (lower x [] below) (so_far.each x below) here
          ∙ ap (λ (b : Bool). row ++ cond b (channel ∷ []) []) (sym (more ∙ or_right was (x == get_or es n 0) (eq-eqb x (get_or es n 0) (e ∙ is)))))
          (λ (apart : x ≢ executor).
          noted.others x apart
          ∙ so_far.each x below
          ∙ ap (λ (b : Bool). row ++ cond b (channel ∷ []) []) (sym (more ∙ or-false was (x == get_or es n 0) (ne_eqb x (get_or es n 0) (λ e. apart (e ∙ sym is))))))
          (cases_eq x executor);
    }

-- ---- all channels

module _ {S T : Type 0} (ps : List (ChannelPartView S T)) (count : ℕ) where
  module _ (n : ℕ) (rows : List (List ℕ)) (are : rows ≡ map (channels_on (take n ps)) (range_with_len 0 count)) where
    row-at : (x : ℕ) → x < count → get_or rows x [] ≡ channels_on (take n ps) x
    row-at x below = ap (λ (l : List (List ℕ)). get_or l x []) are ∙ get_or-map-range_with_len (channels_on (take n ps)) 0 count x x [] below (omega arith)

    row-count : length rows ≡ count
    row-count = ap (λ (l : List (List ℕ)). length l) are ∙ length-map-range_with_len (channels_on (take n ps)) 0 count

    -- each of them is before the next
    pub rows-lower : n ≤ length ps → All (All (λ c. c < n)) rows
    rows-lower within = All-from_get_or (All (λ c. c < n)) rows [] (λ x there.
        let size = row-count in
        let first = take n ps in
        let on = λ (p : ChannelPartView S T). is_member (λ a b. a == b) p.path.executors x in
        let counted = length-map first on in
        let taken = length-take-le n ps (omega (arith, within)) in
        All-same (λ c. c < n) (get_or rows x []) (channels_on first x) (row-at x (omega (arith, there, size)))
        (All-weaker (λ c. (0 ≤ c) × (c < 0 + length (map on first))) (λ c. c < n) (λ c r. let high = r.1 in omega (arith, high, counted, taken, within)) (channels_on first x) (in-range 0 (map on first) 0 (omega arith))))

    pub rows-more : (p : ChannelPartView S T) (after : List (List ℕ)) → n < length ps → p ≡ get_or ps n p → AreNoted n p.path.executors rows after → after ≡ map (channels_on (take (n + 1) ps)) (range_with_len 0 count)
    rows-more p after within read noted = fill_by_all (channels_on (take (n + 1) ps)) after count [] (noted.count ∙ row-count) (λ x below.
        let size = row-count in
        let first = take n ps in
        let on = λ (q : ChannelPartView S T). is_member (λ a b. a == b) q.path.executors x in
        let counted = length-map first on in
        let taken = length-take-le n ps (omega (arith, within)) in
        let grown : take (n + 1) ps ≡ first ++ p ∷ [] = take_more ps n p within ∙ ap (λ (q : ChannelPartView S T). first ++ q ∷ []) (sym read) in
        noted.each x (omega (arith, below, size))
        ∙ ap (λ (l : List ℕ). l ++ cond (on p) (n ∷ []) []) (row-at x below)
        ∙ sym (ap (λ (l : List (ChannelPartView S T)). numbered_from 0 (map on l)) grown
        ∙ ap (λ (bs : List Bool). numbered_from 0 bs) (map-append on first (p ∷ []))
        ∙ numbered-more 0 (map on first) (on p) n (omega (arith, counted, taken, within))))

-- ---- they are those that have a node there, each once

-- a channel without a position is not in the row
off-row : (row : List ℕ) (c : ℕ) → length row ≤ row_position row c → Contains row c → ⊥
off-row row c past has = both_ways (c == c) (turned (c == c) (All-contains (λ (k : ℕ). not (k == c) ≡ true) row c (λ k d lt. prefix_len_passes (λ (n : ℕ). not (n == c)) row k d (omega (arith, past, lt))) has)) (eq-eqb c c refl)
  where
    turned : (b : Bool) → not b ≡ true → b ≡ false
    turned false e = refl
    turned true e = cc

module _ {S T : Type 0} (ps : List (ChannelPartView S T)) (x : ℕ) where
  abbrev on : ChannelPartView S T → Bool
  on p = is_member (λ a b. a == b) p.path.executors x

  pub not-on : (c : ℕ) (p : ChannelPartView S T) → slice_get ps c ≡ Some p → length (channels_on ps x) ≤ row_position (channels_on ps x) c → Contains p.path.executors x → ⊥
  not-on c p at past has = off-row (channels_on ps x) c past
      (numbered-there 0 (map on ps) c c (slice_get-map on ps c ∙ ap (option_map on) at ∙ ap (λ (b : Bool). Some b) ((is_member-Decides Decides-eqb p.path.executors x).1 has)) (omega arith))

  pub row-on : IsChannelRow (length ps) (channels_on ps x)
  row-on =
      let bs = map on ps in
      let size = length-map ps on in
      record {
        few = let few = numbered-few 0 bs in omega (arith, few, size);
        there = All-weaker (λ c. (0 ≤ c) × (c < 0 + length bs)) (λ c. c < length ps) (λ c r. let high = r.1 in omega (arith, high, size)) (channels_on ps x) (in-range 0 bs 0 (omega arith));
        once = λ k within. position_or_len_is (λ n. n == get_or (channels_on ps x) k 0) (channels_on ps x) k 0 (omega (arith, within))
            (λ j lt. ne_eqb (get_or (channels_on ps x) j 0) (get_or (channels_on ps x) k 0) (λ e. let less = rising 0 bs j k lt within in omega (arith, e, less)))
            (λ _. eq-eqb (get_or (channels_on ps x) k 0) (get_or (channels_on ps x) k 0) refl);
      }
