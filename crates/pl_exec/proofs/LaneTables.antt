-- The table of the lanes between executors: it is square, mailboxes can be opened for it, and it has each lane at the way from
-- the executor that writes it to the one that it enters.
use Rattle.std.proofs.Common.{◌≡◌, ◌≢◌, ℕ, ◌+◌, ◌<◌, ◌≤◌, ◌==◌, ◌&&◌, not, Bool, true, false, cond, List, [], ◌∷◌, ◌++◌, length, map, filter, get_or, Some, None, refl, ap, sym, ◌∙◌, ⊎_elim, arith}
use Rattle.std.specs.Prelude.{All, if◌then◌else◌}
use Rattle.std.specs.List.{count_by, flat_map, list_any, range_with_len}
use Rattle.std.proofs.lemmas.Bool.{cases_lt, and_parts, and_from, eqb-true, eq-eqb, ne_eqb, both_ways, not-true, false≢true}
use Rattle.std.proofs.lemmas.List.{get_or_past}
use Rattle.std.proofs.lemmas.List.Elements.{All-map}
use Rattle.std.proofs.lemmas.List.Folds.{Any-from_list_any}
use Rattle.std.proofs.lemmas.List.FromFn.{length-map-range_with_len}
use Rattle.std.proofs.lemmas.List.Sums.{sum_by-cons, sum_by-le-sum_by}
use Rattle.std.proofs.lemmas.Map.Views.{any-filter_same}
use Rattle.pl_event.specs.declared.envelopes.Lane.{Lane}
use Rattle.pl_event.specs.Hops.{same_lane}
use Rattle.pl_event.proofs.SameLanes.{same_lane-equal, same_lane-self}
use Rattle.pl_event.proofs.Lists.{any-joined}
use Rattle.pl_part.specs.Parts.{ChannelPartView}
use Rattle.pl_queue.specs.declared.limits.TheConstants.{MAX_CAPACITY, MAX_SENDERS}
use Rattle.pl_queue.specs.declared.mailbox.OpenRefusal.TheVariants.{Limit}
use Rattle.pl_queue.specs.Left.{Apart, lanes_of_senders}
use Rattle.pl_queue.specs.Rule.{Each}
use Rattle.pl_queue.specs.Views.{has_lane}
use Rattle.pl_queue.proofs.LimitLemmas.{within}
use Rattle.pl_channel.specs.Channels.{origin_of, target_of}
use Rattle.pl_exec.specs.Opening.{lanes_to, table_lanes, IsSquare, CanOpen}
use Rattle.pl_exec.specs.Lanes.{AreLaid, crosses, every_lane, is_lane, lane_table}
use Rattle.pl_exec.proofs.LaneTablesSums.{at-most, count-all, count-parts}
use Rattle.pl_exec.proofs.LaneTablesGrown.{made-between, made-length, made-row, made-square}
use Rattle.pl_exec.proofs.LaneTablesEvery.{times, has-any, every-once, every-has, every-few}

-- ---- lanes apart

none-same : (l : Lane) (ls : List Lane) → times l ls ≡ 0 → Each (λ m. same_lane l m ≡ false) ls
none-same l [] never = tt
none-same l (m ∷ ms) never =
    let sum = sum_by-cons (λ z. cond (same_lane l z) 1 0) m ms in
    (other (same_lane l m) (omega (arith, never, sum)), none-same l ms (omega (arith, never, sum)))
  where
    other : (b : Bool) → ◌≡◌ {A = ℕ} (cond b 1 0) 0 → b ≡ false
    other true e = absurd (omega (arith, e))
    other false e = refl

apart-once : (ls : List Lane) → ((l : Lane) → times l ls ≤ 1) → Apart ls
apart-once [] once = tt
apart-once (m ∷ ms) once =
    let sum : (l : Lane) → times l (m ∷ ms) ≡ cond (same_lane l m) 1 0 + times l ms = λ l. sum_by-cons (λ z. cond (same_lane l z) 1 0) m ms in
    let here : ◌≡◌ {A = ℕ} (cond (same_lane m m) 1 0) 1 = ap (λ b. cond b 1 0) (same_lane-self m) in
    (none-same m ms (omega (arith, once m, sum m, here)), apart-once ms (λ l. omega (arith, once l, sum l)))

all-joined : {A : Type 0} (f : A → List Lane) (xs : List A) → lanes_of_senders (map f xs) ≡ flat_map f xs
all-joined f [] = refl
all-joined f (x ∷ xs) = ap (λ ls. f x ++ ls) (all-joined f xs)

module _ {S T : Type 0} (ps : List (ChannelPartView S T)) where
  -- the lanes from an executor to a target, and for each of so many senders those to a target
  abbrev between : ℕ → ℕ → List Lane
  between y x = filter (crosses ps x y) (every_lane ps)

  abbrev row : ℕ → ℕ → List (List Lane)
  row count y = map (between y) (range_with_len 0 count)

  -- ---- its form

  pub table-length : (count : ℕ) → length (lane_table ps count) ≡ count
  table-length count = made-length ps (every_lane ps) count

  pub table-square : (count : ℕ) → IsSquare (lane_table ps count)
  table-square count = made-square ps (every_lane ps) count

  row-at : (count y : ℕ) → y < count → lanes_to (lane_table ps count) y ≡ row count y
  row-at count y below = made-row ps (every_lane ps) count y below

  between-at : (count x y : ℕ) → x < count → y < count → table_lanes (lane_table ps count) x y ≡ between y x
  between-at count x y from to = made-between ps (every_lane ps) count x y from to

  -- ---- which lanes it has

  between-has : (x y : ℕ) (l : Lane) → list_any (same_lane l) (between y x) ≡ (crosses ps x y l && is_lane ps l)
  between-has x y l =
      any-filter_same (same_lane l) (crosses ps x y) (crosses ps x y l) (λ m same. ap (crosses ps x y) (sym (same_lane-equal l m same))) (every_lane ps)
      ∙ ap (λ b. crosses ps x y l && b) (sym (has-any l (every_lane ps)) ∙ every-has ps l)

  pub crossing-there : (count x y : ℕ) (l : Lane) → is_lane ps l ≡ true → origin_of ps l ≡ x → target_of ps l ≡ y → x ≢ y → x < count → y < count
      → has_lane l (table_lanes (lane_table ps count) x y) ≡ true
  crossing-there count x y l is from to apart x-below y-below =
      let crossing : crosses ps x y l ≡ true = and_from _ _ (ap not (ne_eqb x y apart)) (and_from _ _ (eq-eqb (origin_of ps l) x from) (eq-eqb (target_of ps l) y to)) in
      ap (has_lane l) (between-at count x y x-below y-below) ∙ has-any l (between y x) ∙ between-has x y l ∙ and_from (crosses ps x y l) (is_lane ps l) crossing is

  pub entering-crosses : (count y : ℕ) (l : Lane) → has_lane l (lanes_of_senders (lanes_to (lane_table ps count) y)) ≡ true
      → (x : ℕ) × (x ≢ y) × (origin_of ps l ≡ x) × (target_of ps l ≡ y) × (is_lane ps l ≡ true)
  entering-crosses count y l has = ⊎_elim
      (λ (below : y < count).
      let found = sym (any-joined (same_lane l) (between y) (range_with_len 0 count)) ∙ ap (list_any (same_lane l)) (sym (all-joined (between y) (range_with_len 0 count)))
      ∙ sym (has-any l (lanes_of_senders (row count y))) ∙ ap (λ senders. has_lane l (lanes_of_senders senders)) (sym (row-at count y below)) ∙ has in
      let any = Any-from_list_any (λ x. list_any (same_lane l) (between y x)) (range_with_len 0 count) found in
      let x = any.1 in
      let both = and_parts (crosses ps x y l) (is_lane ps l) (sym (between-has x y l) ∙ any.4) in
      let crossing = and_parts (not (x == y)) ((origin_of ps l == x) && (target_of ps l == y)) both.0 in
      let ends = and_parts (origin_of ps l == x) (target_of ps l == y) crossing.1 in
      (x, (λ same. both_ways (x == y) (not-true (x == y) crossing.0) (eq-eqb x y same)), eqb-true (origin_of ps l) x ends.0, eqb-true (target_of ps l) y ends.1, both.1))
      (λ (past : count ≤ y).
      absurd (false≢true (ap (λ senders. has_lane l (lanes_of_senders senders)) (sym (get_or_past (lane_table ps count) y [] (omega (arith, past, table-length count)))) ∙ has)))
      (cases_lt y count)

  -- ---- that mailboxes can be opened for it

  -- a lane comes from one executor alone
  one-origin : (count y : ℕ) (l : Lane) → count_by (λ x. crosses ps x y l) (range_with_len 0 count) ≤ 1
  one-origin count y l =
      let fewer = sum_by-le-sum_by (λ x. cond (crosses ps x y l) 1 0) (λ x. cond (origin_of ps l == x) 1 0) (range_with_len 0 count) (λ x. by-origin (not (x == y)) (origin_of ps l == x) (target_of ps l == y)) in
      omega (arith, fewer, at-most (origin_of ps l) 1 0 count)
    where
      by-origin : (a b c : Bool) → ◌≤◌ (cond (a && (b && c)) 1 0) (cond b 1 0)
      by-origin true true true = omega arith
      by-origin true true false = omega arith
      by-origin true false c = omega arith
      by-origin false true c = omega arith
      by-origin false false c = omega arith

  row-few : (count y : ℕ) (t : Lane → Bool) → count_by t (lanes_of_senders (row count y)) ≤ count_by t (every_lane ps)
  row-few count y t =
      let parts = count-parts (λ x. crosses ps x y) t (range_with_len 0 count) (one-origin count y) (every_lane ps) in
      let joined = ap (count_by t) (all-joined (between y) (range_with_len 0 count)) in
      omega (arith, parts, joined)

  row-apart : (count y : ℕ) → Apart (lanes_of_senders (row count y))
  row-apart count y = apart-once (lanes_of_senders (row count y)) (λ l.
      let few = row-few count y (same_lane l) in
      let once = every-once ps l in
      let one = at-most-one (is_lane ps l) in
      omega (arith, few, once, one))
    where
      at-most-one : (b : Bool) → ◌≤◌ (cond b 1 0) 1
      at-most-one true = omega arith
      at-most-one false = omega arith

  row-length : (count y : ℕ) → length (lanes_of_senders (row count y)) ≤ length (every_lane ps)
  row-length count y =
      let few = row-few count y (λ l. true) in
      omega (arith, few, count-all (lanes_of_senders (row count y)), count-all (every_lane ps))

  module _ (laid : AreLaid ps) (count capacity : ℕ) (few : count ≤ MAX_SENDERS) (room : 1 ≤ capacity) (bounded : capacity ≤ MAX_CAPACITY) where
    row-open : (y : ℕ) → CanOpen capacity (row count y)
    row-open y =
        let senders : length (row count y) ≤ 65535 = omega (arith, few, length-map-range_with_len (between y) 0 count) in
        let lanes : length (lanes_of_senders (row count y)) ≤ 8192 = omega (arith, row-length count y, every-few 0 ps laid.few, laid.channels) in
        record {
          apart = row-apart count y;
          within = ap (λ b. if b then None else Some Limit) (within (row count y) capacity (λ e. omega (arith, e, room)) bounded senders lanes);
        }

    pub table-open : All (CanOpen capacity) (lane_table ps count)
    table-open = All-map (CanOpen capacity) (row count) (range_with_len 0 count) (λ k d below. row-open (get_or (range_with_len 0 count) k d))
