-- What is left, while the queue is emptied and at the end.
use Rattle.std.specs.Global.{Vec}
use Rattle.std.proofs.Common.{◌≡◌, ◌+◌, ℕ, Bool, true, false, cond, List, [], ◌∷◌, ◌++◌, length, map, Some, refl, ap, sym, ◌∙◌, subst, ⊎_elim, arith}
use Rattle.std.proofs.lemmas.Bool.{cond-true, cond-false, cases_Bool}
use Rattle.std.proofs.lemmas.Option.{same_Some, none-some}
use Rattle.pl_event.specs.declared.envelopes.Lane.{Lane}
use Rattle.pl_event.specs.declared.envelopes.Envelope.{Envelope}
use Rattle.pl_event.specs.Hops.{same_lane}
use Rattle.pl_event.specs.Worlds.{World}
use Rattle.pl_event.proofs.SameLanes.{same_lane-equal, same_lane-flip, same_lane-self}
use Rattle.pl_queue.specs.declared.views.SendCount.{SendCount}
use Rattle.pl_queue.specs.declared.views.TakeCount.{TakeCount}
use Rattle.pl_queue.specs.declared.views.PassView.{PassView}
use Rattle.pl_queue.specs.Views.{send_count, set_send_count, lanes_of_send_counts, has_lane, take_count, sent_of, next_of, set_take_count, lanes_of_counts, taken as after}
use Rattle.pl_queue.specs.Rule.{IsRun, Each, IsTakersNext, BothSee}
use Rattle.pl_queue.specs.Left.{lanes_left, LaneLeftView, held, put_held, taken_count, handed_count, unheld, IsLeft, IsEntry, IsLeftSoFar, IsEntrySoFar, Apart, AreAll, IsEmptying, IsAllLeft}
use Rattle.pl_queue.specs.Positions.{ArePositions}
use Rattle.pl_queue.proofs.PositionLemmas.{lanes_left-handed, lanes_left-taken, next_of-has}
use Rattle.pl_queue.proofs.Lists.{IsRun-snoc, Each-snoc, Each-weaker, map-append}

pub Each-with : {A : Type 0} (P Q R : A → Type 0) → ((x : A) → P x → Q x → R x) → (xs : List A) → Each P xs → Each Q xs → Each R xs
Each-with P Q R f [] p q = tt
Each-with P Q R f (x ∷ xs) p q = (f x p.0 q.0, Each-with P Q R f xs p.1 q.1)

put-taken : (x : Envelope) (hs : List LaneLeftView) → map taken_count (put_held x hs) ≡ map taken_count hs
put-taken x [] = refl
put-taken x (h ∷ hs) =
    elim (same_lane x.lane h.lane) as (λ b. map taken_count (cond b (held h.lane (x.number + 1) h.taken (h.left ++ x ∷ []) ∷ hs) (h ∷ put_held x hs)) ≡ taken_count h ∷ map taken_count hs) [
      | true ↦ refl
      | false ↦ ap (λ t. taken_count h ∷ t) (put-taken x hs)
    ]

put-handed : (x : Envelope) (hs : List LaneLeftView) → map handed_count (put_held x hs) ≡ set_take_count x.lane (x.number + 1) (map handed_count hs)
put-handed x [] = refl
put-handed x (h ∷ hs) =
    elim (same_lane x.lane h.lane) as (λ b. map handed_count (cond b (held h.lane (x.number + 1) h.taken (h.left ++ x ∷ []) ∷ hs) (h ∷ put_held x hs))
    ≡ cond b (take_count h.lane (x.number + 1) ∷ map handed_count hs) (handed_count h ∷ set_take_count x.lane (x.number + 1) (map handed_count hs))) [
      | true ↦ refl
      | false ↦ ap (λ t. handed_count h ∷ t) (put-handed x hs)
    ]

pub set_take_count-lanes : (l : Lane) (n : ℕ) (ms : List TakeCount) → lanes_of_counts (set_take_count l n ms) ≡ lanes_of_counts ms
set_take_count-lanes l n [] = refl
set_take_count-lanes l n (m ∷ ms) =
    elim (same_lane l m.lane) as (λ b. lanes_of_counts (cond b (take_count m.lane n ∷ ms) (m ∷ set_take_count l n ms)) ≡ m.lane ∷ lanes_of_counts ms) [
      | true ↦ refl
      | false ↦ ap (λ t. m.lane ∷ t) (set_take_count-lanes l n ms)
    ]

pub set_send_count-lanes : (l : Lane) (n : ℕ) (e : Bool) (cs : List SendCount) → lanes_of_send_counts (set_send_count l n e cs) ≡ lanes_of_send_counts cs
set_send_count-lanes l n e [] = refl
set_send_count-lanes l n e (c ∷ cs) =
    elim (same_lane l c.lane) as (λ b. lanes_of_send_counts (cond b (send_count c.lane n e ∷ cs) (c ∷ set_send_count l n e cs)) ≡ c.lane ∷ lanes_of_send_counts cs) [
      | true ↦ refl
      | false ↦ ap (λ t. c.lane ∷ t) (set_send_count-lanes l n e cs)
    ]

-- a look-up finds each lane that is there
found : (cs : List SendCount) (ms : List TakeCount) (l : Lane) (n : ℕ) → lanes_of_send_counts cs ≡ lanes_of_counts ms → next_of l ms ≡ Some n → (m : ℕ) × (e : Bool) × (sent_of l cs ≡ Some (m, e))
found cs [] l n same h = absurd (none-some n h)
found [] (m ∷ ms) l n same h = absurd (let c = ap length same in omega (arith, c))
found (c ∷ cs) (m ∷ ms) l n same h =
    let here : c.lane ≡ m.lane = cc in
    let rest : lanes_of_send_counts cs ≡ lanes_of_counts ms = cc in
    ⊎_elim
    (λ (t : same_lane l c.lane ≡ true). (c.next, c.ended, cond-true (same_lane l c.lane) _ _ t))
    (λ (t : same_lane l c.lane ≡ false).
    let r = found cs ms l n rest (sym (cond-false (same_lane l m.lane) (Some m.next) (next_of l ms) (ap (λ k. same_lane l k) (sym here) ∙ t)) ∙ h) in
    (r.0, r.1, cond-false (same_lane l c.lane) _ _ t ∙ r.2))
    (cases_Bool (same_lane l c.lane))

-- all senders were given, where their lanes are the taker's
pub all-given : (cs : List SendCount) (ms : List TakeCount) → lanes_of_send_counts cs ≡ lanes_of_counts ms → AreAll cs ms
all-given cs ms same = λ l n h. found cs ms l n same h

module _ (world : World) (send_counts : List SendCount) where
  put-entries : (x : Envelope) (hs : List LaneLeftView) → next_of x.lane (map handed_count hs) ≡ Some x.number → ((l : Lane) → x.lane ≡ l → IsLeftSoFar world send_counts l x)
      → Each (IsEntrySoFar world send_counts) hs → Each (IsEntrySoFar world send_counts) (put_held x hs)
  put-entries x [] n p h = tt
  put-entries x (e ∷ es) n p h = ⊎_elim
      (λ (t : same_lane x.lane e.lane ≡ true).
      let is : e.handed ≡ x.number = same_Some e.handed x.number (sym (cond-true (same_lane x.lane e.lane) (Some e.handed) (next_of x.lane (map handed_count es)) t) ∙ n) in
      let new : IsEntrySoFar world send_counts (held e.lane (x.number + 1) e.taken (e.left ++ x ∷ [])) = record {
        run = subst (λ ns. IsRun e.taken ns (x.number + 1)) (sym (map-append (λ (y : Envelope). y.number) e.left (x ∷ [])))
            (subst (λ k. IsRun e.taken (map (λ (y : Envelope). y.number) e.left ++ k ∷ []) (k + 1)) is (IsRun-snoc e.taken (map (λ (y : Envelope). y.number) e.left) e.handed h.0.run));
        left = Each-snoc (IsLeftSoFar world send_counts e.lane) e.left x h.0.left (p e.lane (same_lane-equal x.lane e.lane t));
      } in
      subst (λ b. Each (IsEntrySoFar world send_counts) (cond b (held e.lane (x.number + 1) e.taken (e.left ++ x ∷ []) ∷ es) (e ∷ put_held x es))) (sym t) (new, h.1))
      (λ (t : same_lane x.lane e.lane ≡ false).
      subst (λ b. Each (IsEntrySoFar world send_counts) (cond b (held e.lane (x.number + 1) e.taken (e.left ++ x ∷ []) ∷ es) (e ∷ put_held x es))) (sym t)
      (h.0, put-entries x es (sym (cond-false (same_lane x.lane e.lane) (Some e.handed) (next_of x.lane (map handed_count es)) t) ∙ n) p h.1))
      (cases_Bool (same_lane x.lane e.lane))

  pub emptying-more : (first : List TakeCount) (v : PassView) (hs : List LaneLeftView) (x : Envelope) → IsEmptying world send_counts first v hs → IsTakersNext world v x
      → IsEmptying world send_counts first (after v x) (put_held x hs)
  emptying-more first v hs x h n = record {
    taker = h.taker;
    send_counts_are = h.send_counts_are;
    handed = put-handed x hs ∙ ap (λ ms. set_take_count x.lane (x.number + 1) ms) h.handed;
    taken = put-taken x hs ∙ h.taken;
    entries = put-entries x hs (ap (λ ms. next_of x.lane ms) h.handed ∙ n.number)
        (λ l e. record {
          lane = e;
          fits = n.fits;
          last = λ c m f s. n.last c m f (ap (λ ls. sent_of x.lane ls) h.send_counts_are ∙ s);
        })
        h.entries;
  }

  -- the front has an entry, at the position of its lane
  pub emptying-there : (first : List TakeCount) (v : PassView) (hs : List LaneLeftView) (x : Envelope) → IsEmptying world send_counts first v hs → IsTakersNext world v x
      → has_lane x.lane (lanes_left hs) ≡ true
  emptying-there first v hs x h n =
      ap (λ ls. has_lane x.lane ls) (lanes_left-handed hs) ∙ next_of-has x.lane (map handed_count hs) x.number (ap (λ ms. next_of x.lane ms) h.handed ∙ n.number)

  pub emptying-positions : (first : List TakeCount) (v : PassView) (hs : List LaneLeftView) (rows : List (Vec ℕ)) → IsEmptying world send_counts first v hs → ArePositions rows 0 (lanes_of_counts first)
      → ArePositions rows 0 (lanes_left hs)
  emptying-positions first v hs rows h p = subst (λ ls. ArePositions rows 0 ls) (sym (lanes_left-taken hs ∙ ap lanes_of_counts h.taken)) p

others : (f : LaneLeftView → ℕ) (l : Lane) (hs : List LaneLeftView) → Each (λ m. same_lane l m ≡ false) (lanes_of_counts (map (λ (h : LaneLeftView). take_count h.lane (f h)) hs))
    → Each (λ (h : LaneLeftView). same_lane h.lane l ≡ false) hs
others f l [] a = tt
others f l (h ∷ hs) a = (same_lane-flip l h.lane a.0, others f l hs a.1)

-- in a table with no lane twice each entry is found
pub next_of-apart : (f : LaneLeftView → ℕ) (hs : List LaneLeftView) → Apart (lanes_of_counts (map (λ (h : LaneLeftView). take_count h.lane (f h)) hs))
    → Each (λ (h : LaneLeftView). next_of h.lane (map (λ (h : LaneLeftView). take_count h.lane (f h)) hs) ≡ Some (f h)) hs
next_of-apart f [] a = tt
next_of-apart f (h ∷ hs) a =
    let rest = map (λ (h : LaneLeftView). take_count h.lane (f h)) hs in (
      cond-true (same_lane h.lane h.lane) (Some (f h)) (next_of h.lane rest) (same_lane-self h.lane),
      Each-with (λ (k : LaneLeftView). same_lane k.lane h.lane ≡ false) (λ (k : LaneLeftView). next_of k.lane rest ≡ Some (f k)) (λ (k : LaneLeftView). cond (same_lane k.lane h.lane) (Some (f h)) (next_of k.lane rest) ≡ Some (f k))
          (λ k p q. cond-false (same_lane k.lane h.lane) (Some (f h)) (next_of k.lane rest) p ∙ q)
          hs (others f h.lane hs a.0) (next_of-apart f hs a.1),
    )

same_lanes : (f g : LaneLeftView → ℕ) (hs : List LaneLeftView) → lanes_of_counts (map (λ (h : LaneLeftView). take_count h.lane (f h)) hs) ≡ lanes_of_counts (map (λ (h : LaneLeftView). take_count h.lane (g h)) hs)
same_lanes f g [] = refl
same_lanes f g (h ∷ hs) = ap (λ t. h.lane ∷ t) (same_lanes f g hs)

IsRun-count : (from : ℕ) (xs : List Envelope) (to : ℕ) → IsRun from (map (λ (x : Envelope). x.number) xs) to → to ≡ from + length xs
IsRun-count from [] to h = omega (arith, h)
IsRun-count from (x ∷ xs) to h = let r = IsRun-count (from + 1) xs to h.1 in omega (arith, r)

handed_back : (ms : List TakeCount) → map handed_count (map unheld ms) ≡ ms
handed_back [] = refl
handed_back (m ∷ ms) = ap (λ t. m ∷ t) (handed_back ms)

taken_back : (ms : List TakeCount) → map taken_count (map unheld ms) ≡ ms
taken_back [] = refl
taken_back (m ∷ ms) = ap (λ t. m ∷ t) (taken_back ms)

module _ (world : World) (send_counts : List SendCount) where
  entry : (first : List TakeCount) (v : PassView) → AreAll send_counts first → v.sends.send_counts ≡ send_counts → BothSee world v [] → (h : LaneLeftView) → next_of h.lane first ≡ Some h.taken → next_of h.lane v.takes.counts ≡ Some h.handed
      → IsEntrySoFar world send_counts h → IsEntry world send_counts h
  entry first v all same see h was is e =
      let sent = all h.lane h.taken was in
      let m = sent.0 in
      let f = sent.1 in
      let at : sent_of h.lane send_counts ≡ Some (m, f) = sent.2 in
      let handed : h.handed ≡ m = see.lanes h.lane h.handed m f is (ap (λ ls. sent_of h.lane ls) same ∙ at) in
      record {
        handed = (f, at ∙ ap (λ k. Some (k, f)) (sym handed));
        count = IsRun-count h.taken h.left h.handed e.run;
        run = e.run;
        left = Each-weaker (IsLeftSoFar world send_counts h.lane) (IsLeft world h.lane h.handed)
            (λ x p. record {
              lane = p.lane;
              fits = p.fits;
              last = λ c. handed ∙ p.last c m f (ap (λ l. sent_of l send_counts) p.lane ∙ at);
            })
            h.left e.left;
      }

  pub emptying-ends : (first : List TakeCount) (v : PassView) (hs : List LaneLeftView) → IsEmptying world send_counts first v hs → Apart (lanes_of_counts first) → AreAll send_counts first → BothSee world v []
      → IsAllLeft world send_counts first hs
  emptying-ends first v hs h apart all see =
      let a : Apart (lanes_of_counts (map taken_count hs)) = subst (λ ms. Apart (lanes_of_counts ms)) (sym h.taken) apart in
      let b : Apart (lanes_of_counts (map handed_count hs)) = subst Apart (same_lanes (λ k. k.taken) (λ k. k.handed) hs) a in
      let was = next_of-apart (λ k. k.taken) hs a in
      let is = next_of-apart (λ k. k.handed) hs b in
      record {
        taken = h.taken;
        entries = Each-with (λ (k : LaneLeftView). next_of k.lane (map taken_count hs) ≡ Some k.taken)
            (λ (k : LaneLeftView). (next_of k.lane (map handed_count hs) ≡ Some k.handed) × IsEntrySoFar world send_counts k)
            (IsEntry world send_counts)
            (λ k p q. entry first v all h.send_counts_are see k (ap (λ ms. next_of k.lane ms) (sym h.taken) ∙ p) (ap (λ ms. next_of k.lane ms) (sym h.handed) ∙ q.0) q.1)
            hs was
            (Each-with (λ (k : LaneLeftView). next_of k.lane (map handed_count hs) ≡ Some k.handed) (IsEntrySoFar world send_counts) (λ (k : LaneLeftView). (next_of k.lane (map handed_count hs) ≡ Some k.handed) × IsEntrySoFar world send_counts k)
            (λ k p q. (p, q)) hs is h.entries);
      }

  unheld-entries : (ms : List TakeCount) → Each (IsEntrySoFar world send_counts) (map unheld ms)
  unheld-entries [] = tt
  unheld-entries (m ∷ ms) = (record { run = refl; left = tt }, unheld-entries ms)

  pub emptying-begins : (v : PassView) → v.taker ≡ true → v.sends.send_counts ≡ send_counts → IsEmptying world send_counts v.takes.counts v (map unheld v.takes.counts)
  emptying-begins v t same = record {
    taker = t;
    send_counts_are = same;
    handed = handed_back v.takes.counts;
    taken = taken_back v.takes.counts;
    entries = unheld-entries v.takes.counts;
  }
