-- The seats of a post, each with one lane.
use Rattle.std.proofs.Common.{◌≡◌, ℕ, List, [], ◌∷◌, ◌++◌, map, length, refl, ap, sym, subst, ◌∙◌, arith}
use Rattle.std.proofs.lemmas.List.{length-append, map_push}
use Rattle.pl_event.specs.declared.envelopes.Lane.{Lane}
use Rattle.pl_queue.specs.declared.views.SenderView.{SenderView}
use Rattle.pl_event.specs.Hops.{same_lane, data_lane}
use Rattle.pl_queue.specs.Left.{Apart, lanes_of_senders}
use Rattle.pl_queue.specs.Rule.{Each}
use Rattle.pl_queue.specs.Views.{fresh_sends}
use Rattle.std.proofs.lemmas.Bool.{cond-false}
use Rattle.std.proofs.Common.{Some}
use Rattle.pl_event.specs.Worlds.{content_in, content_of}
use Rattle.pl_event.proofs.Lists.{head-is, tail-is}
use Rattle.pl_queue_tests.specs.Relays.{lane_events}
use Rattle.pl_queue_tests.proofs.RelayLemmas.{fresh, in_first, in_second}
use Rattle.pl_post_tests.specs.Feeding.{IsNext, three_lanes}

last-same : {A : Type 0} (xs ys : List A) (x y : A) → xs ++ x ∷ [] ≡ ys ++ y ∷ [] → (xs ≡ ys) × (x ≡ y)
last-same [] [] x y e = (refl, head-is x y [] [] e)
last-same [] (w ∷ ys) x y e = absurd (let n = ap length e in omega (arith, n, length-append ys (y ∷ [])))
last-same (z ∷ xs) [] x y e = absurd (let n = ap length e in omega (arith, n, length-append xs (x ∷ [])))
last-same (z ∷ xs) (w ∷ ys) x y e =
    let front = head-is z w (xs ++ x ∷ []) (ys ++ y ∷ []) e in
    let rest = last-same xs ys x y (tail-is z w (xs ++ x ∷ []) (ys ++ y ∷ []) e) in
    ((λ i. front i ∷ rest.0 i), rest.1)

pub each-first : {S : Type 0} (P Q : S → Type 0) (xs : List S) → Each (λ s. P s × Q s) xs → Each P xs
each-first P Q [] all = tt
each-first P Q (x ∷ xs) all = (all.0.0, each-first P Q xs all.1)

each-last : {S : Type 0} (P : S → Type 0) (front : List S) (x : S) → Each P (front ++ x ∷ []) → Each P front × P x
each-last P [] x all = (tt, all.0)
each-last P (s ∷ ss) x all = let rest = each-last P ss x all.1 in ((all.0, rest.0), rest.1)

-- the last of the seats that are left, and those before it
last-seat : {S : Type 0} (P : S → Type 0) (f : S → SenderView) (all front : List S) (x : S) (sends : List SenderView) (last : SenderView) → Each P all → map f all ≡ sends ++ last ∷ [] → all ≡ front ++ x ∷ []
    → (Each P front × (map f front ≡ sends)) × (P x × (f x ≡ last))
last-seat P f all front x sends last each is popped =
    let whole = each-last P front x (subst (λ ss. Each P ss) popped each) in
    let same = last-same (map f front) sends (f x) last (sym (map_push f front x) ∙ ap (λ ss. map f ss) (sym popped) ∙ is) in
    ((whole.0, same.0), (whole.1, same.1))

pub three-seats : {S V : Type 0} (P : S → Type 0) (f : S → SenderView) (h : V → List Lane) (all more fewer none : List S) (x y z : S) (lanes : List V) (a b c : V) (k l m : Lane)
    → Each P all → map f all ≡ map (λ v. fresh_sends (h v)) lanes → all ≡ more ++ z ∷ [] → more ≡ fewer ++ y ∷ [] → fewer ≡ none ++ x ∷ [] → lanes ≡ a ∷ b ∷ c ∷ [] → h a ≡ k ∷ [] → h b ≡ l ∷ [] → h c ≡ m ∷ []
    → (P x × IsNext k 0 (f x)) × (P y × IsNext l 0 (f y)) × (P z × IsNext m 0 (f z))
three-seats P f h all more fewer none x y z lanes a b c k l m each is popped popped' popped'' made one two three =
    let sends : map f all ≡ (fresh_sends (h a) ∷ fresh_sends (h b) ∷ []) ++ fresh_sends (h c) ∷ [] = is ∙ ap (λ vs. map (λ v. fresh_sends (h v)) vs) made in
    let third = last-seat P f all more z (fresh_sends (h a) ∷ fresh_sends (h b) ∷ []) (fresh_sends (h c)) each sends popped in
    let second = last-seat P f more fewer y (fresh_sends (h a) ∷ []) (fresh_sends (h b)) third.0.0 third.0.1 popped' in
    let first = last-seat P f fewer none x [] (fresh_sends (h a)) second.0.0 second.0.1 popped'' in (
      (first.1.0, (fresh k (f x) (first.1.1 ∙ ap fresh_sends one)).0),
      (second.1.0, (fresh l (f y) (second.1.1 ∙ ap fresh_sends two)).0),
      (third.1.0, (fresh m (f z) (third.1.1 ∙ ap fresh_sends three)).0),
    )

all-apart : Apart (data_lane 0 0 ∷ data_lane 1 0 ∷ data_lane 2 0 ∷ [])
unfolding same_lane
all-apart = ((refl, (refl, tt)), ((refl, tt), (tt, tt)))

pub three-apart : {V : Type 0} (h : V → List Lane) (lanes : List V) (a b c : V) → lanes ≡ a ∷ b ∷ c ∷ [] → h a ≡ data_lane 0 0 ∷ [] → h b ≡ data_lane 1 0 ∷ [] → h c ≡ data_lane 2 0 ∷ [] → Apart (lanes_of_senders (map h lanes))
three-apart h lanes a b c made one two three =
    subst Apart (sym (ap (λ vs. lanes_of_senders (map h vs)) made ∙ (λ i. one i ++ (two i ++ (three i ++ []))))) all-apart

pub one-apart : {V : Type 0} (h : V → List Lane) (lanes : List V) (a : V) (l : Lane) → lanes ≡ a ∷ [] → h a ≡ l ∷ [] → Apart (lanes_of_senders (map h lanes))
one-apart h lanes a l made one = subst Apart (sym (ap (λ vs. lanes_of_senders (map h vs)) made ∙ (λ i. one i ++ []))) (tt, tt)

-- what the three lanes carry

pub carries-first : (n : ℕ) → content_of (three_lanes n) (data_lane 0 0) ≡ Some (lane_events n)
carries-first n = in_first (data_lane 0 0) (lane_events n) ((data_lane 1 0, lane_events n) ∷ (data_lane 2 0, lane_events n) ∷ [])

pub carries-second : (n : ℕ) → content_of (three_lanes n) (data_lane 1 0) ≡ Some (lane_events n)
unfolding same_lane
carries-second n =
    cond-false (same_lane (data_lane 1 0) (data_lane 0 0)) (Some (lane_events n)) (content_in ((data_lane 1 0, lane_events n) ∷ (data_lane 2 0, lane_events n) ∷ []) (data_lane 1 0)) refl
    ∙ in_first (data_lane 1 0) (lane_events n) ((data_lane 2 0, lane_events n) ∷ [])

pub carries-third : (n : ℕ) → content_of (three_lanes n) (data_lane 2 0) ≡ Some (lane_events n)
unfolding same_lane
carries-third n =
    cond-false (same_lane (data_lane 2 0) (data_lane 0 0)) (Some (lane_events n)) (content_in ((data_lane 1 0, lane_events n) ∷ (data_lane 2 0, lane_events n) ∷ []) (data_lane 2 0)) refl
    ∙ in_second (data_lane 1 0) (data_lane 2 0) (lane_events n) (lane_events n) refl
