-- The ways to each target, made of what one executor after another writes.
use Rattle.std.proofs.Common.{◌≡◌, ◌≢◌, ℕ, ◌+◌, ◌<◌, ◌^◌, ◌≤◌, ◌==◌, ◌||◌, not, Bool, true, false, cond, List, [], ◌∷◌, ◌++◌, length, map, get_or, set, slice_get, take, Some, refl, ap, sym, ◌∙◌, subst, ⊎_elim, arith, append-nil, length-append}
use Rattle.std.specs.Global.{Vec}
use Rattle.std.specs.Prelude.{All}
use Rattle.std.proofs.lemmas.Bool.{cases_Bool, cases_eq, cond-false, cond-true, eq-eqb, ne_eqb, or_parts}
use Rattle.std.proofs.lemmas.List.{length-map, length-take-le, map-set, take_all, take_more}
use Rattle.std.proofs.lemmas.List.Elements.{All-cons, All-nil}
use Rattle.std.proofs.lemmas.Option.{same_Some, slice_get-get_or, slice_get_read, slice_get_within}
use Rattle.pl_event.specs.declared.envelopes.Lane.{Lane}
use Rattle.pl_event.proofs.Lists.{All-at, at-index, at_set_other, at_set_same, map-at, slice_get-behind}
use Rattle.pl_queue.specs.Ends.{MailboxEnds}
use Rattle.pl_queue.specs.Left.{lanes_of_senders}
use Rattle.pl_queue.specs.Views.{fresh_takes}
use Rattle.pl_exec.specs.declared.lanes.Leaving.{Leaving}
use Rattle.pl_exec.specs.declared.lanes.WayIn.{WayIn}
use Rattle.pl_exec.specs.Opening.{AreAllWays, AreBefore, CanOpen, CanOpenAll, GetLanes, InboxView, IsOwn, LaneTable, OwnView, Way, is_way, lanes_in, lanes_to, lanes_with, table_lanes, way_by, way_if, ways_from, ways_in, ways_to}
use Rattle.pl_exec.proofs.LaneTablesGrown.{list-there, row-length, table-rows, with-push}
use Rattle.pl_exec.proofs.Ways.{lanes-way, no-lanes, own-way, ways-few, ways-open, ways-some}

abbrev pub way_of : WayIn → Way
way_of way = way_by way.origin way.lanes.items

-- senders with the lanes of these ways are as many
pub senders-count : (ways : List WayIn) (senders : List (Vec Lane)) → map (λ s. s.items) senders ≡ map (λ (w : Way). w.lanes) (ways_in ways) → length senders ≡ length ways
senders-count ways senders are =
    let size = ap (λ (l : List (List Lane)). length l) are in
    omega (arith, size, length-map senders (λ (s : Vec Lane). s.items), length-map (ways_in ways) (λ (w : Way). w.lanes), length-map ways way_of)

-- ---- whether there is a way

module _ (others : List Way) (target origin : ℕ) (own : List Lane) where
  with-own : is_way target origin own ≡ true → others ++ way_if target origin own ≡ others ++ way_by origin own ∷ []
  with-own t = ap (λ (l : List Way). others ++ l) (cond-true (is_way target origin own) (way_by origin own ∷ []) [] t)

  without-own : is_way target origin own ≡ false → others ++ way_if target origin own ≡ others
  without-own t = ap (λ (l : List Way). others ++ l) (cond-false (is_way target origin own) (way_by origin own ∷ []) [] t) ∙ append-nil others

has-none : (target origin : ℕ) (own : List Lane) → is_way target origin own ≡ false → own ≡ []
has-none target origin own t = no-lanes own (or_parts (origin == target) (not (length own == 0)) t).1

-- ---- the last way of a target

last-some : (items : List WayIn) (others : List Way) (v : Way) → ways_in items ≡ others ++ v ∷ [] → length items ≡ length others + 1
last-some items others v e =
    let size = ap (λ (l : List Way). length l) e in
    omega (arith, size, length-map items way_of, length-append others (v ∷ []))

shown : (items : List WayIn) (n : ℕ) (way : WayIn) → n < length items → way ≡ get_or items n way → slice_get (ways_in items) n ≡ Some (way_of way)
shown items n way within read = map-at way_of items n way (slice_get_read items (length items) n way refl within read)

-- what is read twice is the same
pub same-read : {A : Type 0} (xs : List A) (n : ℕ) (x y : A) → n < length xs → x ≡ get_or xs n x → y ≡ get_or xs n y → x ≡ y
same-read xs n x y within read again = same_Some x y (sym (slice_get_read xs (length xs) n x refl within read) ∙ slice_get_read xs (length xs) n y refl within again)

last-is : (items : List WayIn) (others : List Way) (v : Way) (n : ℕ) (way : WayIn) → ways_in items ≡ others ++ v ∷ [] → n + 1 ≡ length items → way ≡ get_or items n way → way_of way ≡ v
last-is items others v n way e place read =
    let size = last-some items others v e in
    let same : n ≡ length others = omega (arith, size, place) in
    same_Some (way_of way) v
    (sym (shown items n way (omega (arith, place)) read) ∙ (λ i. slice_get (e i) (same i)) ∙ slice_get-behind others [] v)

set-last : {A : Type 0} (xs : List A) (x y : A) → set (xs ++ x ∷ []) (length xs) y ≡ xs ++ y ∷ []
set-last [] x y = refl
set-last (z ∷ zs) x y = ap (λ (l : List _). z ∷ l) (set-last zs x y)

-- where the last is of another executor, it has none there
pub last-other : (items : List WayIn) (others : List Way) (target origin : ℕ) (own : List Lane) (n : ℕ) (way : WayIn) → ways_in items ≡ others ++ way_if target origin own → n + 1 ≡ length items → way ≡ get_or items n way → way.origin ≢ origin
    → is_way target origin own ≡ false
last-other items others target origin own n way e place read other = ⊎_elim
    (λ (t : is_way target origin own ≡ true).
    absurd (other (ap (λ (w : Way). w.origin) (last-is items others (way_by origin own) n way (e ∙ with-own others target origin own t) place read))))
    (λ (t : is_way target origin own ≡ false). t)
    (cases_Bool (is_way target origin own))

-- and where there is none at all
pub none-there : (items : List WayIn) (others : List Way) (target origin : ℕ) (own : List Lane) → ways_in items ≡ others ++ way_if target origin own → length items ≡ 0 → is_way target origin own ≡ false
none-there items others target origin own e none = ⊎_elim
    (λ (t : is_way target origin own ≡ true).
    let size = last-some items others (way_by origin own) (e ∙ with-own others target origin own t) in
    absurd (omega (arith, size, none)))
    (λ (t : is_way target origin own ≡ false). t)
    (cases_Bool (is_way target origin own))

-- with lanes it has one
with-lanes : (others : List Way) (target origin : ℕ) (own : List Lane) (lane : Lane) → others ++ way_by origin (own ++ lane ∷ []) ∷ [] ≡ others ++ way_if target origin (own ++ lane ∷ [])
with-lanes others target origin own lane =
    let lanes = own ++ lane ∷ [] in
    let some = lanes-way target origin lanes (let size = length-append own (lane ∷ []) in omega (arith, size)) in
    sym (with-own others target origin lanes some)

module _ (items : List WayIn) (others : List Way) (target origin : ℕ) (own : List Lane) (lane : Lane) (all : AreBefore origin others) (are : ways_in items ≡ others ++ way_if target origin own) where
  -- one lane more of its way
  pub added-last : (n : ℕ) (before after : WayIn) → n + 1 ≡ length items → before ≡ get_or items n before → before.origin ≡ origin → after.origin ≡ before.origin → after.lanes.items ≡ before.lanes.items ++ lane ∷ []
      → ways_in (set items n after) ≡ others ++ way_if target origin (own ++ lane ∷ [])
  added-last n before after place read mine same grown = ⊎_elim
      (λ (t : is_way target origin own ≡ true).
      let front : ways_in items ≡ others ++ way_by origin own ∷ [] = are ∙ with-own others target origin own t in
      let size = last-some items others (way_by origin own) front in
      let at : n ≡ length others = omega (arith, size, place) in
      let is = last-is items others (way_by origin own) n before front place read in
      let made : way_of after ≡ way_by origin (own ++ lane ∷ []) = λ i. way_by ((same ∙ mine) i) ((grown ∙ ap (λ (w : Way). w.lanes ++ lane ∷ []) is) i) in
      map-set way_of items n after
      ∙ (λ i. set (front i) (at i) (made i))
      ∙ set-last others (way_by origin own) (way_by origin (own ++ lane ∷ []))
      ∙ with-lanes others target origin own lane)
      (λ (t : is_way target origin own ≡ false).
      let front : ways_in items ≡ others = are ∙ without-own others target origin own t in
      let at = sym (ap (λ (l : List Way). slice_get l n) front) ∙ shown items n before (omega (arith, place)) read in
      let lower = All-at (λ (w : Way). w.origin < origin) others n (way_of before) all at in
      absurd (omega (arith, lower, mine)))
      (cases_Bool (is_way target origin own))

  -- or a new way with it
  pub added-new : (after : List Way) → is_way target origin own ≡ false → after ≡ ways_in items ++ way_by origin (lane ∷ []) ∷ [] → after ≡ others ++ way_if target origin (own ++ lane ∷ [])
  added-new after t pushed =
      pushed
      ∙ (λ i. (are ∙ without-own others target origin own t) i ++ way_by origin (sym (has-none target origin own t) i ++ lane ∷ []) ∷ [])
      ∙ with-lanes others target origin own lane

-- ---- one of a table

module _ (table : List (Vec WayIn)) (target : ℕ) (before after : Vec WayIn) (at : slice_get table target ≡ Some before) where
  -- the one that was there is another now
  changed-at : (now new : Vec WayIn) → now ≡ get_or table target now → slice_get (set table target new) target ≡ Some after → (before ≡ now) × (after ≡ new)
  changed-at now new read at' =
      (same_Some before now (sym at ∙ slice_get_read table (length table) target now refl (slice_get_within table target before at) read), at_set_same table target new after at')

  -- and the others are as they were
  kept-at : (n : ℕ) (new : Vec WayIn) → target ≢ n → slice_get (set table n new) target ≡ Some after → before ≡ after
  kept-at n new other at' = same_Some before after (sym at ∙ at_set_other table n target new after other at')

abbrev list_of : Vec WayIn → List Way
list_of ways = ways_in ways.items

-- a lane to another target adds nothing to these ways
not-to : (leaving : Leaving) (origin target : ℕ) (before after : Vec WayIn) (others : List Way) (own : List Lane) → before ≡ after → leaving.target ≢ target → list_of before ≡ others ++ way_if target origin own
    → list_of after ≡ others ++ way_if target origin (own ++ cond (leaving.target == target) (leaving.lane ∷ []) [])
not-to leaving origin target before after others own same other are =
    ap list_of (sym same) ∙ are
    ∙ ap (λ (ls : List Lane). others ++ way_if target origin ls) (sym (append-nil own) ∙ ap (λ (b : Bool). own ++ cond b (leaving.lane ∷ []) []) (sym (ne_eqb leaving.target target other)))

pub leaving-past : (table : List (Vec WayIn)) (origin : ℕ) (leaving : Leaving) → length table ≤ leaving.target → (target : ℕ) (before after : Vec WayIn) → slice_get table target ≡ Some before → slice_get table target ≡ Some after → (others : List Way) (own : List Lane)
    → list_of before ≡ others ++ way_if target origin own → list_of after ≡ others ++ way_if target origin (own ++ cond (leaving.target == target) (leaving.lane ∷ []) [])
leaving-past table origin leaving past target before after at at' others own are =
    not-to leaving origin target before after others own (same_Some before after (sym at ∙ at')) (λ e. let within = slice_get_within table target before at in omega (arith, within, past, e)) are

pub leaving-added : (table : List (Vec WayIn)) (origin : ℕ) (leaving : Leaving) (now new : Vec WayIn) → now ≡ get_or table leaving.target now
    → ((target : ℕ) → GetLanes target origin (leaving.lane ∷ []) (list_of now) (list_of new))
    → (target : ℕ) (before after : Vec WayIn) → slice_get table target ≡ Some before → slice_get (set table leaving.target new) target ≡ Some after → GetLanes target origin (cond (leaving.target == target) (leaving.lane ∷ []) []) (list_of before) (list_of after)
leaving-added table origin leaving now new read grown target before after at at' others own all are = ⊎_elim
    (λ (e : leaving.target ≡ target).
    let here = changed-at table leaving.target before after (ap (slice_get table) e ∙ at) now new read (ap (slice_get (set table leaving.target new)) e ∙ at') in
    ap list_of here.1 ∙ grown target others own all (ap list_of (sym here.0) ∙ are)
    ∙ ap (λ (b : Bool). others ++ way_if target origin (own ++ cond b (leaving.lane ∷ []) [])) (sym (eq-eqb leaving.target target e)))
    (λ (other : leaving.target ≢ target).
    not-to leaving origin target before after others own (kept-at table target before after at leaving.target new (λ e. other (sym e)) at') other are)
    (cases_eq leaving.target target)

-- an executor's own way comes to those to itself
pub own-added : (table : List (Vec WayIn)) (origin : ℕ) (now new : Vec WayIn) → now ≡ get_or table origin now → list_of new ≡ list_of now ++ way_by origin [] ∷ []
    → (target : ℕ) (before after : Vec WayIn) → slice_get table target ≡ Some before → slice_get (set table origin new) target ≡ Some after → list_of after ≡ list_of before ++ way_if target origin []
own-added table origin now new read pushed target before after at at' = ⊎_elim
    (λ (e : origin ≡ target).
    let here = changed-at table origin before after (ap (slice_get table) e ∙ at) now new read (ap (slice_get (set table origin new)) e ∙ at') in
    ap list_of here.1 ∙ pushed ∙ ap (λ (v : Vec WayIn). list_of v ++ way_by origin [] ∷ []) (sym here.0)
    ∙ sym (with-own (list_of before) origin origin [] (own-way origin [])) ∙ ap (λ (k : ℕ). list_of before ++ way_if k origin []) e)
    (λ (other : origin ≢ target).
    ap list_of (sym (kept-at table target before after at origin new (λ e. other (sym e)) at'))
    ∙ sym (without-own (list_of before) target origin [] (ap (λ (b : Bool). b || not (0 == 0)) (ne_eqb origin target other))))
    (cases_eq origin target)

-- one lane more of what it writes
pub lanes-more : (origin target : ℕ) (others : List Way) (done : List Leaving) (leaving : Leaving)
    → others ++ way_if target origin (lanes_with done target ++ cond (leaving.target == target) (leaving.lane ∷ []) []) ≡ others ++ way_if target origin (lanes_with (done ++ leaving ∷ []) target)
lanes-more origin target others done leaving = ap (λ (ls : List Lane). others ++ way_if target origin ls) (sym (with-push done leaving target))

-- ---- the ways of the first executors

-- the way of one more comes last
ways-push : (target n : ℕ) (senders : List (List Lane)) (lanes : List Lane) → ways_from target n (senders ++ lanes ∷ []) ≡ ways_from target n senders ++ way_if target (n + length senders) lanes
ways-push target n [] lanes = let same : n ≡ n + 0 = omega arith in ap (λ (k : ℕ). way_if target k lanes) same
ways-push target n (first ∷ more) lanes =
    let same : n + 1 + length more ≡ n + length (first ∷ more) = omega arith in
    by (is_way target n first) (way_by n first) (ways_from target (n + 1) (more ++ lanes ∷ [])) (ways_from target (n + 1) more) (way_if target (n + 1 + length more) lanes) (ways-push target (n + 1) more lanes)
    ∙ ap (λ (k : ℕ). ways_from target n (first ∷ more) ++ way_if target k lanes) same
  where
    by : (b : Bool) (w : Way) (xs ys zs : List Way) → xs ≡ ys ++ zs → cond b (w ∷ xs) xs ≡ cond b (w ∷ ys) ys ++ zs
    by true w xs ys zs e = ap (λ (l : List Way). w ∷ l) e
    by false w xs ys zs e = e

-- they are of these executors alone
ways-lower : (target n bound : ℕ) (senders : List (List Lane)) → n + length senders ≤ bound → All (λ (way : Way). way.origin < bound) (ways_from target n senders)
ways-lower target n bound [] within = All-nil (λ (way : Way). way.origin < bound)
ways-lower target n bound (first ∷ more) within =
    by (is_way target n first) (ways_from target (n + 1) more) (ways-lower target (n + 1) bound more (omega (arith, within)))
  where
    by : (b : Bool) (rest : List Way) → All (λ (way : Way). way.origin < bound) rest → All (λ (way : Way). way.origin < bound) (cond b (way_by n first ∷ rest) rest)
    by true rest all = All-cons (λ (way : Way). way.origin < bound) (way_by n first) rest (omega (arith, within)) all
    by false rest all = all

module _ (lanes : List (Vec Leaving)) where
  -- the ways to a target of the first executors
  abbrev pub first-ways : ℕ → ℕ → List Way
  first-ways n target = ways_from target 0 (take n (lanes_to (lanes_in lanes) target))

  -- with those of one more
  pub next-ways : (table table' : List (Vec WayIn)) (n : ℕ) (leaving : Vec Leaving) → length table ≡ length lanes → length table' ≡ length table → slice_get lanes n ≡ Some leaving
      → ((target : ℕ) (ways : Vec WayIn) → slice_get table target ≡ Some ways → list_of ways ≡ first-ways n target)
      → ((target : ℕ) (before after : Vec WayIn) → slice_get table target ≡ Some before → slice_get table' target ≡ Some after → AreBefore n (list_of before) → list_of after ≡ list_of before ++ way_if target n (lanes_with leaving.items target))
      → (target : ℕ) (ways : Vec WayIn) → slice_get table' target ≡ Some ways → list_of ways ≡ first-ways (n + 1) target
  next-ways table table' n leaving count count' at made added target ways here =
      let within = slice_get_within table' target ways here in
      let before = at-index table target (omega (arith, within, count')) in
      let there : target < length lanes = omega (arith, within, count', count) in
      let below = slice_get_within lanes n leaving at in
      let row = lanes_to (lanes_in lanes) target in
      let wide = row-length lanes target there in
      let few = length-take-le n row (omega (arith, below, wide)) in
      let was = made target before.0 before.1 in
      let place : 0 + length (take n row) ≡ n = omega (arith, few) in
      let lower = ways-lower target 0 n (take n row) (omega (arith, few)) in
      added target before.0 ways before.1 here (lower-at before.0 was lower)
      ∙ (λ i. was i ++ way_if target (sym place i) (sym (list-there lanes leaving n target at there) i))
      ∙ sym (ways-push target 0 (take n row) (table_lanes (lanes_in lanes) n target))
      ∙ ap (ways_from target 0) (sym (take_more row n [] (omega (arith, below, wide))))
    where
      lower-at : (v : Vec WayIn) → list_of v ≡ first-ways n target → All (λ (way : Way). way.origin < n) (first-ways n target) → All (λ (way : Way). way.origin < n) (list_of v)
      lower-at v same all = subst (λ (l : List Way). All (λ (way : Way). way.origin < n) l) (sym same) all

  -- at last they are those of all
  pub whole-ways : (table : List (Vec WayIn)) (n : ℕ) → length table ≡ length lanes → n ≡ length lanes → ((target : ℕ) (ways : Vec WayIn) → slice_get table target ≡ Some ways → list_of ways ≡ first-ways n target) → AreAllWays (lanes_in lanes) table
  whole-ways table n count all made = record {
    count = count ∙ sym (table-rows lanes);
    each = λ target ways at.
        let within = slice_get_within table target ways at in
        let row = lanes_to (lanes_in lanes) target in
        let wide = row-length lanes target (omega (arith, within, count)) in
        made target ways at ∙ ap (ways_from target 0) (take_all n row (omega (arith, wide, all)));
  }

-- ---- a mailbox for the ways to a target

module _ (lanes : LaneTable) (table : List (Vec WayIn)) where
  -- they are those of the lanes there
  pub ways-at : AreAllWays lanes table → (target : ℕ) (ways : Vec WayIn) → slice_get table target ≡ Some ways → (slice_get lanes target ≡ Some (lanes_to lanes target)) × (list_of ways ≡ ways_to target (lanes_to lanes target))
  ways-at are target ways at =
      let within = slice_get_within table target ways at in
      let size = are.count in
      (slice_get-get_or lanes target [] (omega (arith, within, size)), are.each target ways at)

  -- there is one, they are not too many, and a mailbox for them can be opened
  pub ways-mailbox : (capacity : ℕ) → AreAllWays lanes table → CanOpenAll capacity lanes → (target : ℕ) (ways : Vec WayIn) → slice_get table target ≡ Some ways
      → (0 < length ways.items) × (length ways.items < 2 ^ 16) × CanOpen capacity (map (λ (w : Way). w.lanes) (list_of ways))
  ways-mailbox capacity are can target ways at =
      let is = ways-at are target ways at in
      let senders = lanes_to lanes target in
      let there = slice_get_within lanes target senders is.0 in
      let long = All-at (λ (row : List (List Lane)). length row ≡ length lanes) lanes target senders can.square is.0 in
      let size = ap (λ (l : List Way). length l) is.1 in
      let shown = length-map ways.items way_of in
      let few = can.few in (
        omega (arith, size, shown, ways-some target 0 senders (omega arith) (omega (arith, there, long))),
        omega (arith, size, shown, few, long, ways-few target 0 senders),
        subst (λ (ws : List Way). CanOpen capacity (map (λ (w : Way). w.lanes) ws)) (sym is.1) (ways-open target capacity senders (All-at (CanOpen capacity) lanes target senders can.each is.0)),
      )

-- the taker of these is that of all
pub own-lanes : {M S T : Type 0} (ends : MailboxEnds M S T) (inbox : InboxView M) (some all : List (List Lane)) (own : OwnView T) → lanes_of_senders some ≡ lanes_of_senders all → IsOwn ends inbox some own → IsOwn ends inbox all own
own-lanes ends inbox some all own same is = record { taker = is.taker; takes = is.takes ∙ ap fresh_takes same; owner = is.owner }
