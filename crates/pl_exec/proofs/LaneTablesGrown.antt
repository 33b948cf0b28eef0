-- A table of lanes to which one lane after another is added.
use Rattle.std.proofs.Common.{◌≡◌, ◌≢◌, ℕ, ◌+◌, ◌<◌, ◌==◌, ◌&&◌, not, Bool, true, false, cond, List, [], ◌∷◌, ◌++◌, length, map, filter, get_or, set, slice_get, Option, Some, append_assoc, refl, ap, sym, ◌∙◌, ⊎_elim, arith}
use Rattle.std.specs.Prelude.{All, if◌then◌else◌}
use Rattle.std.specs.List.{range_with_len}
use Rattle.std.specs.Option.{option_map_or}
use Rattle.std.specs.Global.{Vec}
use Rattle.std.proofs.lemmas.Bool.{and_from, and_parts, cases_Bool, cases_eq, eq-eqb, eqb-true, false≢true, ne_eqb}
use Rattle.std.proofs.lemmas.List.{append-nil, get_or-map, get_or-set_other, get_or-set_same, length-map, length-set, map-append}
use Rattle.std.proofs.lemmas.List.Elements.{All-map, filter-append}
use Rattle.std.proofs.lemmas.List.FromFn.{fill_by_all, get_or-map-range_with_len, length-map-range_with_len}
use Rattle.std.proofs.lemmas.Option.{get_or_from_slice_get, slice_get_within}
use Rattle.pl_event.proofs.Lists.{All-at, at-index, map-at}
use Rattle.pl_event.specs.declared.envelopes.Lane.{Lane}
use Rattle.pl_event.specs.Hops.{data_lane, flags_lane}
use Rattle.pl_part.specs.Parts.{ChannelPartView}
use Rattle.pl_part.specs.Paths.{writer_hop}
use Rattle.pl_channel.specs.Channels.{executor_at, origin_of, target_of}
use Rattle.pl_exec.specs.declared.lanes.Leaving.{Leaving}
use Rattle.pl_exec.specs.Opening.{LaneTable, IsSquare, lanes_in, lanes_to, lanes_with, senders_to, table_lanes}
use Rattle.pl_exec.specs.Lanes.{crosses, lanes_at, table_of, with_lane, with_lanes}

-- ---- the lists of a table

-- what comes last goes to its target
pub with-push : (ls : List Leaving) (l : Leaving) (y : ℕ) → lanes_with (ls ++ l ∷ []) y ≡ lanes_with ls y ++ cond (l.target == y) (l.lane ∷ []) []
with-push ls l y =
    let to = λ (m : Leaving). m.target == y in
    let lane = λ (m : Leaving). m.lane in
    ap (λ (ms : List Leaving). map lane ms) (filter-append to ls (l ∷ []))
    ∙ map-append lane (filter to ls) (cond (l.target == y) (l ∷ []) [])
    ∙ ap (λ (ms : List Lane). lanes_with ls y ++ ms) (mapped-if (l.target == y))
  where
    mapped-if : (b : Bool) → map (λ (m : Leaving). m.lane) (cond b (l ∷ []) []) ≡ cond b (l.lane ∷ []) []
    mapped-if true = refl
    mapped-if false = refl

pub table-rows : (items : List (Vec Leaving)) → length (lanes_in items) ≡ length items
table-rows items = length-map-range_with_len (senders_to items) 0 (length items)

row-at : (items : List (Vec Leaving)) (y : ℕ) → y < length items → lanes_to (lanes_in items) y ≡ senders_to items y
row-at items y to = get_or-map-range_with_len (senders_to items) 0 (length items) y y [] to (omega arith)

pub row-length : (items : List (Vec Leaving)) (y : ℕ) → y < length items → length (lanes_to (lanes_in items) y) ≡ length items
row-length items y to = ap (λ (senders : List (List Lane)). length senders) (row-at items y to) ∙ length-map items (λ (s : Vec Leaving). lanes_with s.items y)

list-at : (items : List (Vec Leaving)) (d : Vec Leaving) (x y : ℕ) → x < length items → y < length items → table_lanes (lanes_in items) x y ≡ lanes_with (get_or items x d).items y
list-at items d x y from to =
    ap (λ (senders : List (List Lane)). get_or senders x []) (row-at items y to) ∙ get_or-map (λ (s : Vec Leaving). lanes_with s.items y) items x d [] from

-- so it is of the one that stands there
pub list-there : (items : List (Vec Leaving)) (s : Vec Leaving) (x y : ℕ) → slice_get items x ≡ Some s → y < length items → table_lanes (lanes_in items) x y ≡ lanes_with s.items y
list-there items s x y at to =
    list-at items s x y (slice_get_within items x s at) to ∙ ap (λ (v : Vec Leaving). lanes_with v.items y) (get_or_from_slice_get items x s s at)

pub lists-square : (items : List (Vec Leaving)) → IsSquare (lanes_in items)
lists-square items =
    All-map (λ target. length target ≡ length (lanes_in items)) (senders_to items) (range_with_len 0 (length items))
    (λ k d below. length-map items (λ (s : Vec Leaving). lanes_with s.items (get_or (range_with_len 0 (length items)) k d)) ∙ sym (table-rows items))

-- where nothing is written, there is none
pub none-in : (items : List (Vec Leaving)) (count : ℕ) → length items ≡ count → All (λ s. s.items ≡ []) items → lanes_in items ≡ map (λ y. map (λ x. []) (range_with_len 0 count)) (range_with_len 0 count)
none-in items count size none =
    fill_by_all (λ y. map (λ x. []) (range_with_len 0 count)) (lanes_in items) count [] (table-rows items ∙ size)
    (λ y below.
    row-at items y (omega (arith, below, size))
    ∙ fill_by_all (λ x. []) (senders_to items y) count [] (length-map items (λ (s : Vec Leaving). lanes_with s.items y) ∙ size)
    (λ x under.
    let s = at-index items x (omega (arith, under, size)) in
    get_or_from_slice_get (senders_to items y) x (lanes_with s.0.items y) [] (map-at (λ (v : Vec Leaving). lanes_with v.items y) items x s.0 s.1)
    ∙ ap (λ (ls : List Leaving). lanes_with ls y) (All-at (λ (v : Vec Leaving). v.items ≡ []) items x s.0 none s.1)))

-- ---- one lane more

-- it comes to the list of this origin and target
abbrev comes : ℕ → ℕ → ℕ → ℕ → Bool
comes origin target x y = not (x == y) && ((origin == x) && (target == y))

there : (origin target : ℕ) → origin ≢ target → comes origin target origin target ≡ true
there origin target apart =
    and_from (not (origin == target)) ((origin == origin) && (target == target)) (ap not (ne_eqb origin target apart))
    (and_from (origin == origin) (target == target) (eq-eqb origin origin refl) (eq-eqb target target refl))

elsewhere : (origin target x y : ℕ) → (x ≢ y → origin ≡ x → target ≡ y → ⊥) → comes origin target x y ≡ false
elsewhere origin target x y never = ⊎_elim
    (λ (e : comes origin target x y ≡ true).
    let ways = and_parts (not (x == y)) ((origin == x) && (target == y)) e in
    let ends = and_parts (origin == x) (target == y) ways.1 in
    absurd (never (λ same. false≢true (sym (ap not (eq-eqb x y same)) ∙ ways.0)) (eqb-true origin x ends.0) (eqb-true target y ends.1)))
    (λ (e : comes origin target x y ≡ false). e)
    (cases_Bool (comes origin target x y))

module _ (origin target : ℕ) (lane : Lane) where
  -- of what its origin writes it comes to those to its target
  of-origin : (x y : ℕ) → x ≡ origin → origin ≢ target → comes origin target x y ≡ (target == y)
  of-origin x y e apart = ⊎_elim
      (λ (t : target ≡ y). (λ i. comes origin target (e i) (sym t i)) ∙ there origin target apart ∙ sym (eq-eqb target y t))
      (λ (t : target ≢ y). elsewhere origin target x y (λ _ _ at. t at) ∙ sym (ne_eqb target y t))
      (cases_eq target y)

  -- a table is known by its lists
  as-grown : (old new : LaneTable) → length new ≡ length old → IsSquare new
      → ((x y : ℕ) → x < length old → y < length old → table_lanes new x y ≡ table_lanes old x y ++ cond (comes origin target x y) (lane ∷ []) []) → new ≡ with_lane old origin target lane
  as-grown old new count square each =
      fill_by_all (λ y. map (grown y) (range_with_len 0 (length old))) new (length old) [] count
      (λ y below. fill_by_all (grown y) (lanes_to new y) (length old) [] (square y [] (omega (arith, below, count)) ∙ count) (λ x under. each x y under below))
    where
      grown : ℕ → ℕ → List Lane
      grown y x = table_lanes old x y ++ cond (comes origin target x y) (lane ∷ []) []

  same-list : (ls : List Lane) (x y : ℕ) → comes origin target x y ≡ false → ls ≡ ls ++ cond (comes origin target x y) (lane ∷ []) []
  same-list ls x y e = sym (append-nil ls) ∙ ap (λ b. ls ++ cond b (lane ∷ []) []) (sym e)

  -- where it has no way, nothing is added
  pub kept-table : (table : LaneTable) → IsSquare table → (origin ≢ target → origin < length table → target < length table → ⊥) → table ≡ with_lane table origin target lane
  kept-table table square never =
      as-grown table table refl square
      (λ x y under below. same-list (table_lanes table x y) x y (elsewhere origin target x y (λ apart from to. never (λ e. apart (sym from ∙ e ∙ to)) (omega (arith, under, from)) (omega (arith, below, to)))))

  -- else it comes to the end of what its origin writes
  pub pushed-table : (items : List (Vec Leaving)) (before after : Vec Leaving) → origin < length items → origin ≢ target → before ≡ get_or items origin before → after.items ≡ before.items ++ record { target = target; lane = lane } ∷ []
      → lanes_in (set items origin after) ≡ with_lane (lanes_in items) origin target lane
  pushed-table items before after from apart read grown =
      let new = set items origin after in
      let size = table-rows items in
      let size' = table-rows new in
      let long : length new ≡ length items = length-set items origin after in
      as-grown (lanes_in items) (lanes_in new) (size' ∙ long ∙ sym size) (lists-square new)
      (λ x y under below.
      let x-there : x < length items = omega (arith, under, size) in
      let y-there : y < length items = omega (arith, below, size) in
      let old = list-at items before x y x-there y-there in
      list-at new before x y (omega (arith, x-there, long)) (omega (arith, y-there, long))
      ∙ ⊎_elim
      (λ (e : x ≡ origin).
      ap (λ (i : ℕ). lanes_with (get_or new i before).items y) e
      ∙ ap (λ (v : Vec Leaving). lanes_with v.items y) (get_or-set_same items origin after before from)
      ∙ ap (λ (ls : List Leaving). lanes_with ls y) grown
      ∙ with-push before.items (record { target = target; lane = lane }) y
      ∙ (λ i. lanes_with (read i).items y ++ cond (sym (of-origin x y e apart) i) (lane ∷ []) [])
      ∙ ap (λ (ls : List Lane). ls ++ cond (comes origin target x y) (lane ∷ []) []) (ap (λ (i : ℕ). lanes_with (get_or items i before).items y) (sym e) ∙ sym old))
      (λ (other : x ≢ origin).
      ap (λ (v : Vec Leaving). lanes_with v.items y) (get_or-set_other items origin x after before other)
      ∙ sym old
      ∙ same-list (table_lanes (lanes_in items) x y) x y (elsewhere origin target x y (λ _ at _. other (sym at))))
      (cases_eq x origin))

-- ---- the table of some lanes

module _ {S T : Type 0} (ps : List (ChannelPartView S T)) (lanes : List Lane) (count : ℕ) where
  abbrev row-of : ℕ → List (List Lane)
  row-of y = map (λ x. filter (crosses ps x y) lanes) (range_with_len 0 count)

  pub made-length : length (table_of ps count lanes) ≡ count
  made-length = length-map-range_with_len row-of 0 count

  pub made-square : IsSquare (table_of ps count lanes)
  made-square =
      All-map (λ target. length target ≡ length (table_of ps count lanes)) row-of (range_with_len 0 count)
      (λ k d below. length-map-range_with_len (λ x. filter (crosses ps x (get_or (range_with_len 0 count) k d)) lanes) 0 count ∙ sym made-length)

  pub made-row : (y : ℕ) → y < count → lanes_to (table_of ps count lanes) y ≡ row-of y
  made-row y below = get_or-map-range_with_len row-of 0 count y y [] below (omega arith)

  pub made-between : (x y : ℕ) → x < count → y < count → table_lanes (table_of ps count lanes) x y ≡ filter (crosses ps x y) lanes
  made-between x y from to = ap (λ senders. get_or senders x []) (made-row y to) ∙ get_or-map-range_with_len (λ x. filter (crosses ps x y) lanes) 0 count x x [] from (omega arith)

-- ---- the lanes of a hop are added to the table of those before

module _ {S T : Type 0} (ps : List (ChannelPartView S T)) (count : ℕ) where
  next-table : (done : List Lane) (l : Lane) → with_lane (table_of ps count done) (origin_of ps l) (target_of ps l) l ≡ table_of ps count (done ++ l ∷ [])
  next-table done l =
      let size = made-length ps done count in
      sym
      (as-grown (origin_of ps l) (target_of ps l) l (table_of ps count done) (table_of ps count (done ++ l ∷ [])) (made-length ps (done ++ l ∷ []) count ∙ sym size)
      (made-square ps (done ++ l ∷ []) count)
      (λ x y under below.
      let from : x < count = omega (arith, under, size) in
      let to : y < count = omega (arith, below, size) in
      made-between ps (done ++ l ∷ []) count x y from to
      ∙ filter-append (crosses ps x y) done (l ∷ [])
      ∙ ap (λ ls. ls ++ cond (crosses ps x y l) (l ∷ []) []) (sym (made-between ps done count x y from to))))

  module _ (channel hops hop : ℕ) (p : ChannelPartView S T) (at : slice_get ps channel ≡ Some p) where
    abbrev from : ℕ
    from = executor_at p (writer_hop p.path hop)

    abbrev to : ℕ
    to = executor_at p hop

    next-lane : (done : List Lane) (l : Lane) → l.channel ≡ channel → l.hop ≡ hop → with_lane (table_of ps count done) from to l ≡ table_of ps count (done ++ l ∷ [])
    next-lane done l is-channel is-hop =
        let found : slice_get ps l.channel ≡ Some p = ap (slice_get ps) is-channel ∙ at in
        let origin : from ≡ origin_of ps l =
        ap (λ (h : ℕ). executor_at p (writer_hop p.path h)) (sym is-hop) ∙ ap (λ (o : Option (ChannelPartView S T)). option_map_or (λ (q : ChannelPartView S T). executor_at q (writer_hop q.path l.hop)) o 0) (sym found) in
        let target : to ≡ target_of ps l =
        ap (λ (h : ℕ). executor_at p h) (sym is-hop) ∙ ap (λ (o : Option (ChannelPartView S T)). option_map_or (λ (q : ChannelPartView S T). executor_at q l.hop) o 0) (sym found) in
        (λ i. with_lane (table_of ps count done) (origin i) (target i) l) ∙ next-table done l

    abbrev hop-lanes : Bool → List Lane
    hop-lanes last = if last then data_lane channel hop ∷ [] else data_lane channel hop ∷ flags_lane channel hop ∷ []

    next-lanes : (done : List Lane) (last : Bool) → with_lanes (table_of ps count done) from to (hop-lanes last) ≡ table_of ps count (done ++ hop-lanes last)
    next-lanes done true = next-lane done (data_lane channel hop) refl refl
    next-lanes done false =
        ap (λ (t : LaneTable). with_lane t from to (flags_lane channel hop)) (next-lane done (data_lane channel hop) refl refl)
        ∙ next-lane (done ++ data_lane channel hop ∷ []) (flags_lane channel hop) refl refl
        ∙ ap (λ (ls : List Lane). table_of ps count ls) (append_assoc done (data_lane channel hop ∷ []) (flags_lane channel hop ∷ []))

    pub next-hop : (done : List Lane) → with_lanes (table_of ps count done) from to (lanes_at channel hops hop) ≡ table_of ps count (done ++ lanes_at channel hops hop)
    next-hop done = next-lanes done (hop + 1 == hops)
