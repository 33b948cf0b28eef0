-- Runs of numbers, and look-ups by lane.
use Rattle.std.proofs.Common.{◌≡◌, ◌⊎◌, ◌+◌, ◌<◌, ◌≤◌, ℕ, Bool, true, false, cond, List, [], ◌∷◌, ◌++◌, map, Some, None, zero, suc, length, get_or, take, drop, refl, ap, sym, ◌∙◌, subst, inl, inr, ⊎_elim, arith, add-one, append_assoc, append-nil}
use Rattle.std.proofs.lemmas.Bool.{cond-true, cond-false, cases_Bool, both_ways, false≢true}
use Rattle.std.proofs.lemmas.List.{map_more}
use Rattle.std.proofs.lemmas.Option.{same_Some, none-some}
use Rattle.pl_event.specs.declared.envelopes.Lane.{Lane}
use Rattle.pl_event.specs.declared.envelopes.Envelope.{Envelope}
use Rattle.pl_event.specs.Hops.{same_lane}
use Rattle.pl_event.proofs.SameLanes.{same_lane-equal}
use Rattle.pl_queue.specs.declared.views.SendCount.{SendCount}
use Rattle.pl_queue.specs.declared.views.TakeCount.{TakeCount}
use Rattle.pl_queue.specs.declared.views.SenderView.{SenderView}
use Rattle.pl_queue.specs.Views.{send_count, take_count, sent_of, next_of, set_send_count, set_take_count, fresh_send_counts, fresh_take_counts, has_lane, lanes_of_counts}
use Rattle.pl_queue.specs.Left.{lanes_of_senders, send_counts_of, Apart}
use Rattle.pl_queue.specs.Rule.{numbers_of, IsRun, Each}

-- f, but for the lane l
abbrev pub at_lane : {A : Type 0} → (Lane → A) → Lane → A → Lane → A
at_lane f l a m = cond (same_lane m l) a (f m)

pub at_this : {A : Type 0} (f : Lane → A) (l : Lane) (a : A) (m : Lane) → same_lane m l ≡ true → at_lane f l a m ≡ a
at_this f l a m e = cond-true (same_lane m l) a (f m) e

pub at_other : {A : Type 0} (f : Lane → A) (l : Lane) (a : A) (m : Lane) → same_lane m l ≡ false → at_lane f l a m ≡ f m
at_other f l a m e = cond-false (same_lane m l) a (f m) e

pub numbers_of-snoc : (l : Lane) (items : List Envelope) (x : Envelope) → numbers_of l (items ++ x ∷ []) ≡ numbers_of l items ++ cond (same_lane l x.lane) (x.number ∷ []) []
numbers_of-snoc l [] x = refl
numbers_of-snoc l (y ∷ ys) x =
    elim (same_lane l y.lane) as (λ b. cond b (y.number ∷ numbers_of l (ys ++ x ∷ [])) (numbers_of l (ys ++ x ∷ [])) ≡ cond b (y.number ∷ numbers_of l ys) (numbers_of l ys) ++ cond (same_lane l x.lane) (x.number ∷ []) []) [
      | true ↦ ap (λ ns. y.number ∷ ns) (numbers_of-snoc l ys x)
      | false ↦ numbers_of-snoc l ys x
    ]

pub IsRun-snoc : (from : ℕ) (ns : List ℕ) (to : ℕ) → IsRun from ns to → IsRun from (ns ++ to ∷ []) (to + 1)
IsRun-snoc from [] to h = (sym h, ap (λ n. n + 1) h)
IsRun-snoc from (n ∷ ns) to h = (h.0, IsRun-snoc (from + 1) ns to h.1)

pub IsRun-le : (from : ℕ) (ns : List ℕ) (to : ℕ) → IsRun from ns to → from ≤ to
IsRun-le from [] to h = omega arith
IsRun-le from (n ∷ ns) to h = omega (arith, IsRun-le (from + 1) ns to h.1)

append_nil : (ns : List ℕ) → ns ++ [] ≡ ns
append_nil [] = refl
append_nil (n ∷ ns) = ap (λ ms. n ∷ ms) (append_nil ns)

-- one more number of this lane, or none
pub IsRun-more : (from : ℕ) (ns : List ℕ) (to n : ℕ) (b : Bool) → (b ≡ true → to ≡ n) → IsRun from ns to → IsRun from (ns ++ cond b (n ∷ []) []) (cond b (n + 1) to)
IsRun-more from ns to n true same h = subst (λ k. IsRun from (ns ++ k ∷ []) (k + 1)) (same refl) (IsRun-snoc from ns to h)
IsRun-more from ns to n false same h = subst (λ ms. IsRun from ms to) (sym (append_nil ns)) h

-- one number less of this lane, or none
pub IsRun-less : (from : ℕ) (ns : List ℕ) (to n : ℕ) (b : Bool) → IsRun from (cond b (n ∷ ns) ns) to → IsRun (cond b (n + 1) from) ns to
IsRun-less from ns to n true h = subst (λ k. IsRun (k + 1) ns to) (sym h.0) h.1
IsRun-less from ns to n false h = h

pub Each-snoc : {A : Type 0} (P : A → Type 0) (xs : List A) (x : A) → Each P xs → P x → Each P (xs ++ x ∷ [])
Each-snoc P [] x h p = (p, tt)
Each-snoc P (y ∷ ys) x h p = (h.0, Each-snoc P ys x h.1 p)

pub Each-weaker : {A : Type 0} (P Q : A → Type 0) → ((x : A) → P x → Q x) → (xs : List A) → Each P xs → Each Q xs
Each-weaker P Q f [] h = tt
Each-weaker P Q f (x ∷ xs) h = (f x h.0, Each-weaker P Q f xs h.1)

-- what is found after a send_count was set: the lane's own, or what was there
pub sent_of-set : (l m : Lane) (n : ℕ) (e : Bool) (ss : List SendCount) (k : ℕ) (f : Bool) → sent_of m (set_send_count l n e ss) ≡ Some (k, f)
    → ((same_lane m l ≡ true) × (n ≡ k) × (e ≡ f)) ⊎ ((same_lane m l ≡ false) × (sent_of m ss ≡ Some (k, f)))
sent_of-set l m n e [] k f h = absurd (none-some (k, f) h)
sent_of-set l m n e (s ∷ ss) k f h = ⊎_elim
    (λ (here : same_lane l s.lane ≡ true).
    let same : l ≡ s.lane = same_lane-equal l s.lane here in
    let h' = subst (λ b. sent_of m (cond b (send_count s.lane n e ∷ ss) (s ∷ set_send_count l n e ss)) ≡ Some (k, f)) here h in
    ⊎_elim
    (λ (t : same_lane m s.lane ≡ true).
    let g = subst (λ b. cond b (Some (n, e)) (sent_of m ss) ≡ Some (k, f)) t h' in
    let p = same_Some (n, e) (k, f) g in
    inl (subst (λ y. same_lane m y ≡ true) (sym same) t, ap (λ (q : ℕ × Bool). q.0) p, ap (λ (q : ℕ × Bool). q.1) p))
    (λ (t : same_lane m s.lane ≡ false).
    let g = subst (λ b. cond b (Some (n, e)) (sent_of m ss) ≡ Some (k, f)) t h' in
    inr (subst (λ y. same_lane m y ≡ false) (sym same) t, subst (λ b. cond b (Some (s.next, s.ended)) (sent_of m ss) ≡ Some (k, f)) (sym t) g))
    (cases_Bool (same_lane m s.lane)))
    (λ (here : same_lane l s.lane ≡ false).
    let h' = subst (λ b. sent_of m (cond b (send_count s.lane n e ∷ ss) (s ∷ set_send_count l n e ss)) ≡ Some (k, f)) here h in
    ⊎_elim
    (λ (t : same_lane m s.lane ≡ true).
    let g = subst (λ b. cond b (Some (s.next, s.ended)) (sent_of m (set_send_count l n e ss)) ≡ Some (k, f)) t h' in
    ⊎_elim
    (λ (u : same_lane m l ≡ true). absurd (both_ways (same_lane l s.lane) here (subst (λ y. same_lane y s.lane ≡ true) (same_lane-equal m l u) t)))
    (λ (u : same_lane m l ≡ false). inr (u, subst (λ b. cond b (Some (s.next, s.ended)) (sent_of m ss) ≡ Some (k, f)) (sym t) g))
    (cases_Bool (same_lane m l)))
    (λ (t : same_lane m s.lane ≡ false).
    let g = subst (λ b. cond b (Some (s.next, s.ended)) (sent_of m (set_send_count l n e ss)) ≡ Some (k, f)) t h' in
    ⊎_elim (λ r. inl r) (λ r. inr (r.0, subst (λ b. cond b (Some (s.next, s.ended)) (sent_of m ss) ≡ Some (k, f)) (sym t) r.1)) (sent_of-set l m n e ss k f g))
    (cases_Bool (same_lane m s.lane)))
    (cases_Bool (same_lane l s.lane))

-- the next number of every lane after a take_count was set
pub next_of-set : (l m : Lane) (n : ℕ) (ms : List TakeCount) (k : ℕ) → next_of l ms ≡ Some k → next_of m (set_take_count l n ms) ≡ cond (same_lane m l) (Some n) (next_of m ms)
next_of-set l m n [] k h = absurd (none-some k h)
next_of-set l m n (s ∷ ss) k h = ⊎_elim
    (λ (here : same_lane l s.lane ≡ true).
    let same : s.lane ≡ l = sym (same_lane-equal l s.lane here) in
    ap (λ b. next_of m (cond b (take_count s.lane n ∷ ss) (s ∷ set_take_count l n ss))) here
    ∙ subst (λ y. cond (same_lane m s.lane) (Some n) (next_of m ss) ≡ cond (same_lane m y) (Some n) (cond (same_lane m s.lane) (Some s.next) (next_of m ss))) same
    (elim (same_lane m s.lane) as (λ b. cond b (Some n) (next_of m ss) ≡ cond b (Some n) (cond b (Some s.next) (next_of m ss))) [ true ↦ refl | false ↦ refl ]))
    (λ (here : same_lane l s.lane ≡ false).
    let h' = subst (λ b. cond b (Some s.next) (next_of l ss) ≡ Some k) here h in
    let r = next_of-set l m n ss k h' in
    ap (λ b. next_of m (cond b (take_count s.lane n ∷ ss) (s ∷ set_take_count l n ss))) here
    ∙ ap (λ o. cond (same_lane m s.lane) (Some s.next) o) r
    ∙ ⊎_elim
    (λ (t : same_lane m s.lane ≡ true).
    let u : same_lane m l ≡ false = ⊎_elim
    (λ (w : same_lane m l ≡ true). absurd (both_ways (same_lane l s.lane) here (subst (λ y. same_lane y s.lane ≡ true) (same_lane-equal m l w) t)))
    (λ (w : same_lane m l ≡ false). w) (cases_Bool (same_lane m l)) in
    cond-true (same_lane m s.lane) _ _ t ∙ sym (cond-true (same_lane m s.lane) (Some s.next) (next_of m ss) t) ∙ sym (cond-false (same_lane m l) (Some n) _ u))
    (λ (t : same_lane m s.lane ≡ false).
    cond-false (same_lane m s.lane) _ _ t ∙ ap (λ o. cond (same_lane m l) (Some n) o) (sym (cond-false (same_lane m s.lane) (Some s.next) (next_of m ss) t)))
    (cases_Bool (same_lane m s.lane)))
    (cases_Bool (same_lane l s.lane))

-- in two lists of send_counts: found in one of them
pub sent_of-append : (l : Lane) (ss ts : List SendCount) (k : ℕ) (f : Bool) → sent_of l (ss ++ ts) ≡ Some (k, f) → (sent_of l ss ≡ Some (k, f)) ⊎ (sent_of l ts ≡ Some (k, f))
sent_of-append l [] ts k f h = inr h
sent_of-append l (s ∷ ss) ts k f h = ⊎_elim
    (λ (t : same_lane l s.lane ≡ true).
    let g = subst (λ b. cond b (Some (s.next, s.ended)) (sent_of l (ss ++ ts)) ≡ Some (k, f)) t h in
    inl (subst (λ b. cond b (Some (s.next, s.ended)) (sent_of l ss) ≡ Some (k, f)) (sym t) g))
    (λ (t : same_lane l s.lane ≡ false).
    let g = subst (λ b. cond b (Some (s.next, s.ended)) (sent_of l (ss ++ ts)) ≡ Some (k, f)) t h in
    ⊎_elim (λ r. inl (subst (λ b. cond b (Some (s.next, s.ended)) (sent_of l ss) ≡ Some (k, f)) (sym t) r)) (λ r. inr r) (sent_of-append l ss ts k f g))
    (cases_Bool (same_lane l s.lane))

pub sent_of-fresh : (l : Lane) (ls : List Lane) (k : ℕ) (f : Bool) → sent_of l (fresh_send_counts ls) ≡ Some (k, f) → (has_lane l ls ≡ true) × (0 ≡ k) × (false ≡ f)
sent_of-fresh l [] k f h = absurd (none-some (k, f) h)
sent_of-fresh l (m ∷ ms) k f h = ⊎_elim
    (λ (t : same_lane l m ≡ true).
    let g = subst (λ b. cond b (Some (0, false)) (sent_of l (fresh_send_counts ms)) ≡ Some (k, f)) t h in
    let p = same_Some (0, false) (k, f) g in
    (cond-true (same_lane l m) true (has_lane l ms) t, ap (λ (q : ℕ × Bool). q.0) p, ap (λ (q : ℕ × Bool). q.1) p))
    (λ (t : same_lane l m ≡ false).
    let g = subst (λ b. cond b (Some (0, false)) (sent_of l (fresh_send_counts ms)) ≡ Some (k, f)) t h in
    let r = sent_of-fresh l ms k f g in
    (cond-false (same_lane l m) true (has_lane l ms) t ∙ r.0, r.1, r.2))
    (cases_Bool (same_lane l m))

-- in counts and fresh ones behind them
pub next_of-append : (l : Lane) (ms ns : List TakeCount) → (next_of l ms ≡ None) → next_of l (ms ++ ns) ≡ next_of l ns
next_of-append l [] ns h = refl
next_of-append l (m ∷ ms) ns h = ⊎_elim
    (λ (t : same_lane l m.lane ≡ true). absurd (none-some m.next (sym (subst (λ b. cond b (Some m.next) (next_of l ms) ≡ None) t h))))
    (λ (t : same_lane l m.lane ≡ false).
    cond-false (same_lane l m.lane) _ _ t ∙ next_of-append l ms ns (subst (λ b. cond b (Some m.next) (next_of l ms) ≡ None) t h))
    (cases_Bool (same_lane l m.lane))

pub next_of-front : (l : Lane) (ms ns : List TakeCount) (k : ℕ) → (next_of l ms ≡ Some k) → next_of l (ms ++ ns) ≡ Some k
next_of-front l [] ns k h = absurd (none-some k h)
next_of-front l (m ∷ ms) ns k h = ⊎_elim
    (λ (t : same_lane l m.lane ≡ true).
    cond-true (same_lane l m.lane) _ _ t ∙ subst (λ b. cond b (Some m.next) (next_of l ms) ≡ Some k) t h)
    (λ (t : same_lane l m.lane ≡ false).
    cond-false (same_lane l m.lane) _ _ t ∙ next_of-front l ms ns k (subst (λ b. cond b (Some m.next) (next_of l ms) ≡ Some k) t h))
    (cases_Bool (same_lane l m.lane))

pub next_of-fresh : (l : Lane) (ls : List Lane) → next_of l (fresh_take_counts ls) ≡ cond (has_lane l ls) (Some 0) None
next_of-fresh l [] = refl
next_of-fresh l (m ∷ ms) = elim (same_lane l m) as (λ b. cond b (Some 0) (next_of l (fresh_take_counts ms)) ≡ cond (cond b true (has_lane l ms)) (Some 0) None) [
  | true ↦ refl
  | false ↦ next_of-fresh l ms
]

pub all_lanes-snoc : (lss : List (List Lane)) (ls : List Lane) → lanes_of_senders (lss ++ ls ∷ []) ≡ lanes_of_senders lss ++ ls
all_lanes-snoc [] ls = append-nil ls
all_lanes-snoc (ms ∷ mss) ls = ap (λ k. ms ++ k) (all_lanes-snoc mss ls) ∙ sym (append_assoc ms (lanes_of_senders mss) ls)

pub map-append : {A B : Type 0} (f : A → B) (xs ys : List A) → map f (xs ++ ys) ≡ map f xs ++ map f ys
map-append f [] ys = refl
map-append f (x ∷ xs) ys = ap (λ k. f x ∷ k) (map-append f xs ys)

pub take-more : {A : Type 0} (xs : List A) (i : ℕ) (x : A) → i < length xs → x ≡ get_or xs i x → take (suc i) xs ≡ take i xs ++ x ∷ []
take-more [] i x h e = absurd (omega arith)
take-more (y ∷ ys) zero x h e = ap (λ k. k ∷ []) (sym e)
take-more (y ∷ ys) (suc i) x h e = ap (λ k. y ∷ k) (take-more ys i x (omega arith) e)

pub map-more : {A B : Type 0} (f : A → B) (xs : List A) (i : ℕ) (x : A) → i < length xs → x ≡ get_or xs i x → map f (take (i + 1) xs) ≡ map f (take i xs) ++ f x ∷ []
map-more f xs i x h e = ap (λ n. map f (take n xs)) (add-one i) ∙ ap (λ k. map f k) (take-more xs i x h e) ∙ map-append f (take i xs) (x ∷ [])

-- what a loop has pushed onto start, one more
pub pushed-more : {A B : Type 0} (f : A → B) (start now : List B) (xs : List A) (i : ℕ) (d : A) → i < length xs → now ≡ start ++ map f (take i xs) → now ++ f (get_or xs i d) ∷ [] ≡ start ++ map f (take (i + 1) xs)
pushed-more f start now xs i d h e =
    ap (λ k. k ++ f (get_or xs i d) ∷ []) e ∙ append_assoc start (map f (take i xs)) (f (get_or xs i d) ∷ []) ∙ ap (λ k. start ++ k) (sym (map_more f xs i d h))

pub lanes-more : {A : Type 0} (f : A → List Lane) (xs : List A) (i : ℕ) (x : A) → i < length xs → x ≡ get_or xs i x
    → lanes_of_senders (map f (take (i + 1) xs)) ≡ lanes_of_senders (map f (take i xs)) ++ f x
lanes-more f xs i x h e = ap lanes_of_senders (map-more f xs i x h e) ∙ all_lanes-snoc (map f (take i xs)) (f x)

Each-later : (P : Lane → Type 0) (xs ys : List Lane) → Each P (xs ++ ys) → Each P ys
Each-later P [] ys h = h
Each-later P (x ∷ xs) ys h = Each-later P xs ys h.1

has-none : (x : Lane) (ys : List Lane) → Each (λ m. same_lane x m ≡ false) ys → has_lane x ys ≡ false
has-none x [] h = refl
has-none x (y ∷ ys) h = cond-false (same_lane x y) true (has_lane x ys) h.0 ∙ has-none x ys h.1

-- of lanes apart, one of the later is none of the first
pub not_both : (l : Lane) (xs ys : List Lane) → Apart (xs ++ ys) → has_lane l xs ≡ true → has_lane l ys ≡ true → ⊥
not_both l [] ys a h k = absurd (false≢true h)
not_both l (x ∷ xs) ys a h k = ⊎_elim
    (λ (t : same_lane l x ≡ true).
    let e : l ≡ x = same_lane-equal l x t in
    both_ways (has_lane x ys) (has-none x ys (Each-later (λ m. same_lane x m ≡ false) xs ys a.0)) (subst (λ y. has_lane y ys ≡ true) e k))
    (λ (t : same_lane l x ≡ false). not_both l xs ys a.1 (sym (cond-false (same_lane l x) true (has_lane l xs) t) ∙ h) k)
    (cases_Bool (same_lane l x))

pub has-front : (l : Lane) (xs ys : List Lane) → has_lane l xs ≡ true → has_lane l (xs ++ ys) ≡ true
has-front l [] ys h = absurd (false≢true h)
has-front l (x ∷ xs) ys h = ⊎_elim
    (λ (t : same_lane l x ≡ true). cond-true (same_lane l x) true (has_lane l (xs ++ ys)) t)
    (λ (t : same_lane l x ≡ false).
    cond-false (same_lane l x) true (has_lane l (xs ++ ys)) t ∙ has-front l xs ys (sym (cond-false (same_lane l x) true (has_lane l xs) t) ∙ h))
    (cases_Bool (same_lane l x))

pub lanes-split : {A : Type 0} (f : A → List Lane) (xs : List A) (i : ℕ) (x : A) → i < length xs → x ≡ get_or xs i x
    → lanes_of_senders (map f xs) ≡ lanes_of_senders (map f (take i xs)) ++ (f x ++ lanes_of_senders (map f (drop (suc i) xs)))
lanes-split f [] i x h e = absurd (omega arith)
lanes-split f (y ∷ ys) zero x h e = ap (λ k. f k ++ lanes_of_senders (map f ys)) (sym e)
lanes-split f (y ∷ ys) (suc i) x h e = ap (λ k. f y ++ k) (lanes-split f ys i x (omega arith) e) ∙ sym (append_assoc (f y) (lanes_of_senders (map f (take i ys))) (f x ++ lanes_of_senders (map f (drop (suc i) ys))))

-- the lanes of a list were not among those of the lists before it
pub lanes-new : {A : Type 0} (f : A → List Lane) (xs : List A) (i : ℕ) (x : A) → i < length xs → x ≡ get_or xs i x → Apart (lanes_of_senders (map f xs))
    → (l : Lane) → has_lane l (f x) ≡ true → next_of l (fresh_take_counts (lanes_of_senders (map f (take i xs)))) ≡ None
lanes-new f xs i x h e a l k =
    let before = lanes_of_senders (map f (take i xs)) in
    let rest = lanes_of_senders (map f (drop (suc i) xs)) in
    let a' = subst Apart (lanes-split f xs i x h e) a in
    let not_in : has_lane l before ≡ false = ⊎_elim (λ (t : has_lane l before ≡ true). absurd (not_both l before (f x ++ rest) a' t (has-front l (f x) rest k)))
    (λ (t : has_lane l before ≡ false). t) (cases_Bool (has_lane l before)) in
    next_of-fresh l before ∙ cond-false (has_lane l before) (Some 0) None not_in

pub counts-more : {A : Type 0} (f : A → List Lane) (xs : List A) (i : ℕ) (x : A) (own : List Lane) → i < length xs → x ≡ get_or xs i x → own ≡ f x
    → fresh_take_counts (lanes_of_senders (map f (take (i + 1) xs))) ≡ fresh_take_counts (lanes_of_senders (map f (take i xs))) ++ fresh_take_counts own
counts-more f xs i x own h e o =
    ap fresh_take_counts (lanes-more f xs i x h e) ∙ map-append (λ l. take_count l 0) (lanes_of_senders (map f (take i xs))) (f x)
    ∙ ap (λ ls. fresh_take_counts (lanes_of_senders (map f (take i xs))) ++ fresh_take_counts ls) (sym o)

pub get_or-any : {A : Type 0} (xs : List A) (i : ℕ) (d e : A) → i < length xs → get_or xs i d ≡ get_or xs i e
get_or-any [] i d e h = absurd (omega arith)
get_or-any (x ∷ xs) zero d e h = refl
get_or-any (x ∷ xs) (suc i) d e h = get_or-any xs i d e (omega arith)

pub send_counts_of-snoc : (ss : List SenderView) (s : SenderView) → send_counts_of (ss ++ s ∷ []) ≡ send_counts_of ss ++ s.send_counts
send_counts_of-snoc [] s = append-nil s.send_counts
send_counts_of-snoc (t ∷ ts) s = ap (λ k. t.send_counts ++ k) (send_counts_of-snoc ts s) ∙ sym (append_assoc t.send_counts (send_counts_of ts) s.send_counts)

pub Each-at : {A : Type 0} (P : A → Type 0) (xs : List A) (i : ℕ) (x : A) → i < length xs → x ≡ get_or xs i x → Each P xs → P x
Each-at P [] i x h e p = absurd (omega arith)
Each-at P (y ∷ ys) zero x h e p = subst P (sym e) p.0
Each-at P (y ∷ ys) (suc i) x h e p = Each-at P ys i x (omega arith) e p.1

pub no_items : {A : Type 0} (xs : List A) → length xs ≡ 0 → [] ≡ xs
no_items [] e = refl
no_items (x ∷ xs) e = absurd (omega arith)

pub fresh_take_counts-lanes : (ls : List Lane) → lanes_of_counts (fresh_take_counts ls) ≡ ls
fresh_take_counts-lanes [] = refl
fresh_take_counts-lanes (l ∷ ls) = ap (λ t. l ∷ t) (fresh_take_counts-lanes ls)
