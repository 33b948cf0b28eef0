-- What is put into a table of positions is found there.
use Rattle.std.specs.Global.{Vec}
use Rattle.std.proofs.Common.{◌≡◌, ◌≢◌, Some, ◌+◌, ◌<◌, ◌≤◌, ℕ, zero, suc, true, false, List, [], ◌∷◌, ◌++◌, map, take, length, get_or, set, refl, ap, sym, ◌∙◌, subst, ⊎_elim, arith, add-one}
use Rattle.std.proofs.lemmas.List.{length_push}
use Rattle.std.proofs.lemmas.Bool.{cond-true, cond-false, cases_Bool, both_ways, false≢true, cases_eq}
use Rattle.std.proofs.lemmas.Option.{none-some}
use Rattle.pl_event.specs.declared.envelopes.Envelope.{Envelope}
use Rattle.pl_event.specs.declared.envelopes.Kind.{Kind}
use Rattle.pl_event.specs.declared.envelopes.Kind.TheVariants.{Data, Flags}
use Rattle.pl_event.specs.declared.envelopes.Lane.{Lane}
use Rattle.pl_event.specs.Hops.{same_lane}
use Rattle.pl_event.proofs.SameLanes.{same_lane-equal, same_lane-self}
use Rattle.pl_queue.specs.declared.left.LaneLeft.{LaneLeft}
use Rattle.pl_queue.specs.declared.views.TakeCount.{TakeCount}
use Rattle.pl_queue.specs.Left.{LaneLeftView, held, held_of, put_held, lanes_left, taken_count, handed_count, Apart}
use Rattle.pl_queue.specs.Positions.{row_by, row_of, row_at, position_of, ArePositions}
use Rattle.pl_queue.specs.Rule.{Each}
use Rattle.pl_queue.specs.Views.{take_count, set_take_count, lanes_of_counts, has_lane, next_of}
use Rattle.pl_queue.proofs.Lists.{get_or-any}

pub row_at-set : (rows : List (Vec ℕ)) (n : ℕ) (row : Vec ℕ) → n < length rows → row_at (set rows n row) n ≡ row.items
row_at-set [] n row h = absurd (omega arith)
row_at-set (r ∷ rows) zero row h = refl
row_at-set (r ∷ rows) (suc n) row h = row_at-set rows n row (omega arith)

pub row_at-other : (rows : List (Vec ℕ)) (n m : ℕ) (row : Vec ℕ) → m ≢ n → row_at (set rows n row) m ≡ row_at rows m
row_at-other [] n m row h = refl
row_at-other (r ∷ rows) zero zero row h = absurd (h refl)
row_at-other (r ∷ rows) zero (suc m) row h = refl
row_at-other (r ∷ rows) (suc n) zero row h = refl
row_at-other (r ∷ rows) (suc n) (suc m) row h = row_at-other rows n m row (λ e. h (ap suc e))

pub row_at-get : (rows : List (Vec ℕ)) (n : ℕ) (d : Vec ℕ) → n < length rows → row_at rows n ≡ (get_or rows n d).items
row_at-get [] n d h = absurd (omega arith)
row_at-get (r ∷ rows) zero d h = refl
row_at-get (r ∷ rows) (suc n) d h = row_at-get rows n d (omega arith)

pub row_at-past : (rows : List (Vec ℕ)) (n : ℕ) → length rows ≤ n → row_at rows n ≡ []
row_at-past [] n h = refl
row_at-past (r ∷ rows) zero h = absurd (omega arith)
row_at-past (r ∷ rows) (suc n) h = row_at-past rows n (omega arith)

pub row_at-found : (rows got : List (Vec ℕ)) (lane : Lane) (n : ℕ) (row d : Vec ℕ) → got ≡ rows → n ≡ row_of lane → n < length got → row ≡ get_or got n d → row_at rows (row_of lane) ≡ row.items
row_at-found rows got lane n row d same is h e =
    ap (λ rs. row_at rs (row_of lane)) (sym same) ∙ ap (λ k. row_at got k) (sym is) ∙ row_at-get got n d h ∙ ap (λ (r : Vec ℕ). r.items) (sym e)

-- a list that got one more is long enough for one more
pub one-longer : {A : Type 0} (xs ys : List A) (x : A) (n : ℕ) → ys ≡ xs ++ x ∷ [] → n ≤ length xs → n + 1 ≤ length ys
one-longer xs ys x n grown long = subst (λ zs. n + 1 ≤ length zs) (sym grown) (omega (arith, length_push xs x, long))

-- an empty row more
pub row_at-more : (rows : List (Vec ℕ)) (row : Vec ℕ) (n : ℕ) → row.items ≡ [] → row_at (rows ++ row ∷ []) n ≡ row_at rows n
row_at-more [] row zero e = e
row_at-more [] row (suc n) e = refl
row_at-more (r ∷ rows) row zero e = refl
row_at-more (r ∷ rows) row (suc n) e = row_at-more rows row n e

-- a zero more
pub get_or-zero : (xs : List ℕ) (n : ℕ) → get_or (xs ++ 0 ∷ []) n 0 ≡ get_or xs n 0
get_or-zero [] zero = refl
get_or-zero [] (suc n) = refl
get_or-zero (x ∷ xs) zero = refl
get_or-zero (x ∷ xs) (suc n) = get_or-zero xs n

pub get_or-past : (xs : List ℕ) (n : ℕ) → length xs ≤ n → get_or xs n 0 ≡ 0
get_or-past [] n h = refl
get_or-past (x ∷ xs) zero h = absurd (omega arith)
get_or-past (x ∷ xs) (suc n) h = get_or-past xs n (omega arith)

-- lanes of one row and one hop are the same
same-row : (a b : Kind) (c d : ℕ) → row_by a c ≡ row_by b d → (a ≡ b) × (c ≡ d)
same-row Data Data c d e = (refl, omega (arith, e))
same-row Data Flags c d e = absurd (omega (arith, e))
same-row Flags Data c d e = absurd (omega (arith, e))
same-row Flags Flags c d e = (refl, omega (arith, e))

same-by-row : (a b : Lane) → row_of a ≡ row_of b → a.hop ≡ b.hop → a ≡ b
same-by-row a b r e =
    let s = same-row a.kind b.kind a.channel b.channel r in
    λ i. record { channel = s.1 i; kind = s.0 i; hop = e i }

-- the position of every other lane stays, where one entry of one row has changed
pub position-others : (rows more : List (Vec ℕ)) (lane : Lane) (row : Vec ℕ) (d : Vec ℕ) → ((n : ℕ) → row_at more n ≡ row_at rows n) → row_of lane < length more
    → ((n : ℕ) → n ≢ lane.hop → get_or row.items n 0 ≡ get_or (get_or more (row_of lane) d).items n 0)
    → (l : Lane) → same_lane l lane ≡ false → position_of (set more (row_of lane) row) l ≡ position_of rows l
position-others rows more lane row d same long others l apart = ⊎_elim
    (λ (here : row_of l ≡ row_of lane).
    ⊎_elim
    (λ (hop : l.hop ≡ lane.hop). absurd (both_ways (same_lane l lane) apart (subst (λ y. same_lane l y ≡ true) (same-by-row l lane here hop) (same_lane-self l))))
    (λ (hop : l.hop ≢ lane.hop).
    ap (λ n. get_or (row_at (set more (row_of lane) row) n) l.hop 0) here
    ∙ ap (λ xs. get_or xs l.hop 0) (row_at-set more (row_of lane) row long)
    ∙ others l.hop hop
    ∙ ap (λ xs. get_or xs l.hop 0) (sym (row_at-get more (row_of lane) d long) ∙ same (row_of lane))
    ∙ ap (λ n. get_or (row_at rows n) l.hop 0) (sym here))
    (cases_eq l.hop lane.hop))
    (λ (other : row_of l ≢ row_of lane).
    ap (λ xs. get_or xs l.hop 0) (row_at-other more (row_of lane) (row_of l) row other ∙ same (row_of l)))
    (cases_eq (row_of l) (row_of lane))

pub position-here : (more : List (Vec ℕ)) (lane : Lane) (row : Vec ℕ) (position : ℕ) → row_of lane < length more → get_or row.items lane.hop 0 ≡ position
    → position_of (set more (row_of lane) row) lane ≡ position
position-here more lane row position long is = ap (λ xs. get_or xs lane.hop 0) (row_at-set more (row_of lane) row long) ∙ is

-- the table of the first lanes, and of one more
positions-same : (rows more : List (Vec ℕ)) (lane : Lane) → ((l : Lane) → same_lane l lane ≡ false → position_of more l ≡ position_of rows l) → (n : ℕ) (lanes : List Lane)
    → Each (λ l. same_lane l lane ≡ false) lanes → ArePositions rows n lanes → ArePositions more n lanes
positions-same rows more lane others n [] each h = tt
positions-same rows more lane others n (l ∷ ls) each h = (others l each.0 ∙ h.0, positions-same rows more lane others (n + 1) ls each.1 h.1)

positions-snoc : (rows : List (Vec ℕ)) (n : ℕ) (lanes : List Lane) (lane : Lane) → ArePositions rows n lanes → position_of rows lane ≡ n + length lanes → ArePositions rows n (lanes ++ lane ∷ [])
positions-snoc rows n [] lane h e = (e ∙ omega arith, tt)
positions-snoc rows n (l ∷ ls) lane h e = (h.0, positions-snoc rows (n + 1) ls lane h.1 (e ∙ omega arith))

earlier : (ms : List TakeCount) (i : ℕ) (m : TakeCount) → i < length ms → m ≡ get_or ms i m → Apart (lanes_of_counts ms) → Each (λ l. same_lane l m.lane ≡ false) (lanes_of_counts (take i ms))
earlier [] i m h e a = absurd (omega arith)
earlier (x ∷ xs) zero m h e a = tt
earlier (x ∷ xs) (suc i) m h e a = (other xs i m (omega arith) e a.0, earlier xs i m (omega arith) e a.1)
  where
    other : (xs : List TakeCount) (i : ℕ) (m : TakeCount) → i < length xs → m ≡ get_or xs i m → Each (λ l. same_lane x.lane l ≡ false) (lanes_of_counts xs) → same_lane x.lane m.lane ≡ false
    other [] i m h e a = absurd (omega arith)
    other (y ∷ ys) zero m h e a = ap (λ (k : TakeCount). same_lane x.lane k.lane) e ∙ a.0
    other (y ∷ ys) (suc i) m h e a = other ys i m (omega arith) e a.1

lanes-take : (ms : List TakeCount) (i : ℕ) (m : TakeCount) → i < length ms → m ≡ get_or ms i m → lanes_of_counts (take (suc i) ms) ≡ lanes_of_counts (take i ms) ++ m.lane ∷ []
lanes-take [] i m h e = absurd (omega arith)
lanes-take (x ∷ xs) zero m h e = ap (λ (k : TakeCount). k.lane ∷ []) (sym e)
lanes-take (x ∷ xs) (suc i) m h e = ap (λ t. x.lane ∷ t) (lanes-take xs i m (omega arith) e)

lanes-count : (ms : List TakeCount) (i : ℕ) → i ≤ length ms → length (lanes_of_counts (take i ms)) ≡ i
lanes-count [] zero h = refl
lanes-count [] (suc i) h = absurd (omega arith)
lanes-count (x ∷ xs) zero h = refl
lanes-count (x ∷ xs) (suc i) h = ap suc (lanes-count xs i (omega arith))

pub positions-more : (rows more : List (Vec ℕ)) (ms : List TakeCount) (i : ℕ) (m : TakeCount) → i < length ms → m ≡ get_or ms i m → Apart (lanes_of_counts ms)
    → position_of more m.lane ≡ i → ((l : Lane) → same_lane l m.lane ≡ false → position_of more l ≡ position_of rows l)
    → ArePositions rows 0 (lanes_of_counts (take i ms)) → ArePositions more 0 (lanes_of_counts (take (i + 1) ms))
positions-more rows more ms i m h e apart here others positions =
    subst (λ ls. ArePositions more 0 ls) (sym (ap (λ n. lanes_of_counts (take n ms)) (add-one i) ∙ lanes-take ms i m h e))
    (positions-snoc more 0 (lanes_of_counts (take i ms)) m.lane
    (positions-same rows more m.lane others 0 (lanes_of_counts (take i ms)) (earlier ms i m h e apart) positions)
    (omega (arith, here, lanes-count ms i (omega arith))))

pub positions-at : (rows more : List (Vec ℕ)) (ms : List TakeCount) (i : ℕ) (d : TakeCount) → i < length ms → Apart (lanes_of_counts ms)
    → position_of more (get_or ms i d).lane ≡ i → ((l : Lane) → same_lane l (get_or ms i d).lane ≡ false → position_of more l ≡ position_of rows l)
    → ArePositions rows 0 (lanes_of_counts (take i ms)) → ArePositions more 0 (lanes_of_counts (take (i + 1) ms))
positions-at rows more ms i d h = positions-more rows more ms i (get_or ms i d) h (get_or-any ms i d (get_or ms i d) h)

-- the position of a lane is where its count stands
pub count-there : (rows : List (Vec ℕ)) (l : Lane) (next n : ℕ) (ms : List TakeCount) → ArePositions rows n (lanes_of_counts ms) → has_lane l (lanes_of_counts ms) ≡ true
    → (i : ℕ) × (position_of rows l ≡ n + i) × (i < length ms) × ((d : TakeCount) → set_take_count l next ms ≡ set ms i (take_count (get_or ms i d).lane next))
count-there rows l next n [] p h = absurd (false≢true h)
count-there rows l next n (m ∷ ms) p h = ⊎_elim
    (λ (t : same_lane l m.lane ≡ true).
    (0, ap (λ y. position_of rows y) (same_lane-equal l m.lane t) ∙ p.0 ∙ omega arith, omega arith, λ d. cond-true (same_lane l m.lane) _ _ t))
    (λ (t : same_lane l m.lane ≡ false).
    let r = count-there rows l next (n + 1) ms p.1 (sym (cond-false (same_lane l m.lane) true (has_lane l (lanes_of_counts ms)) t) ∙ h) in
    (suc r.0, r.1 ∙ omega arith, omega (arith, r.2), λ d. cond-false (same_lane l m.lane) _ _ t ∙ ap (λ ks. m ∷ ks) (r.3 d)))
    (cases_Bool (same_lane l m.lane))

-- the position of a lane is where its entry stands
pub entry-there : (rows : List (Vec ℕ)) (x : Envelope) (n : ℕ) (es : List LaneLeft) → ArePositions rows n (lanes_left (map held_of es)) → has_lane x.lane (lanes_left (map held_of es)) ≡ true
    → (i : ℕ) × (position_of rows x.lane ≡ n + i) × (i < length es)
    × ((d new : LaneLeft) → held_of new ≡ held (get_or es i d).lane (x.number + 1) (get_or es i d).taken ((get_or es i d).left.items ++ x ∷ []) → map held_of (set es i new) ≡ put_held x (map held_of es))
entry-there rows x n [] p h = absurd (false≢true h)
entry-there rows x n (e ∷ es) p h = ⊎_elim
    (λ (t : same_lane x.lane e.lane ≡ true). (
      0,
      ap (λ y. position_of rows y) (same_lane-equal x.lane e.lane t) ∙ p.0 ∙ omega arith,
      omega arith,
      λ d new is. ap (λ y. y ∷ map held_of es) is ∙ sym (cond-true (same_lane x.lane e.lane) _ _ t),
    ))
    (λ (t : same_lane x.lane e.lane ≡ false).
    let r = entry-there rows x (n + 1) es p.1 (sym (cond-false (same_lane x.lane e.lane) true (has_lane x.lane (lanes_left (map held_of es))) t) ∙ h) in (
      suc r.0,
      r.1 ∙ omega arith,
      omega (arith, r.2),
      λ d new is. ap (λ ks. held_of e ∷ ks) (r.3 d new is) ∙ sym (cond-false (same_lane x.lane e.lane) _ _ t),
    ))
    (cases_Bool (same_lane x.lane e.lane))

-- a lane with a next number is among the lanes
pub next_of-has : (l : Lane) (ms : List TakeCount) (k : ℕ) → next_of l ms ≡ Some k → has_lane l (lanes_of_counts ms) ≡ true
next_of-has l [] k h = absurd (none-some k h)
next_of-has l (m ∷ ms) k h = ⊎_elim
    (λ (t : same_lane l m.lane ≡ true). cond-true (same_lane l m.lane) true (has_lane l (lanes_of_counts ms)) t)
    (λ (t : same_lane l m.lane ≡ false).
    cond-false (same_lane l m.lane) true (has_lane l (lanes_of_counts ms)) t ∙ next_of-has l ms k (sym (cond-false (same_lane l m.lane) _ _ t) ∙ h))
    (cases_Bool (same_lane l m.lane))

pub lanes_left-taken : (hs : List LaneLeftView) → lanes_left hs ≡ lanes_of_counts (map taken_count hs)
lanes_left-taken [] = refl
lanes_left-taken (h ∷ hs) = ap (λ t. h.lane ∷ t) (lanes_left-taken hs)

pub lanes_left-handed : (hs : List LaneLeftView) → lanes_left hs ≡ lanes_of_counts (map handed_count hs)
lanes_left-handed [] = refl
lanes_left-handed (h ∷ hs) = ap (λ t. h.lane ∷ t) (lanes_left-handed hs)
