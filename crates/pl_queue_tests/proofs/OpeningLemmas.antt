-- The lanes of different hops and channels are apart.
use Rattle.std.specs.Global.{Vec}
use Rattle.std.proofs.Common.{◌≡◌, ◌<◌, ◌≤◌, ◌+◌, ◌++◌, ℕ, zero, suc, true, false, List, [], ◌∷◌, map, length, get_or, ap, sym, subst, ◌∙◌, arith, append-nil, add-one, ⊎_elim}
use Rattle.std.proofs.lemmas.Bool.{cases_Bool, cases_eq}
use Rattle.std.proofs.lemmas.List.{get_or_append_left, get_or_push}
use Rattle.pl_event.specs.declared.envelopes.Lane.{Lane}
use Rattle.pl_event.specs.Hops.{flags_lane, same_lane}
use Rattle.pl_event.proofs.SameLanes.{same_lane-equal}
use Rattle.pl_queue.specs.Left.{Apart, lanes_of_senders, own_lanes}
use Rattle.pl_queue.specs.Rule.{Each}
use Rattle.pl_queue.proofs.Lists.{Each-snoc, Each-weaker, map-append, all_lanes-snoc}
use Rattle.pl_queue_tests.specs.Openings.{hops_below, HaveChannels}

pub hops-more : (c n : ℕ) → hops_below c (n + 1) ≡ hops_below c n ++ flags_lane c n ∷ []
hops-more c n = ap (hops_below c) (add-one n)

are-below : (c n : ℕ) → Each (λ (l : Lane). (l.channel ≡ c) × (l.hop < n)) (hops_below c n)
are-below c zero = tt
are-below c (suc n) = Each-snoc (λ (l : Lane). (l.channel ≡ c) × (l.hop < suc n)) (hops_below c n) (flags_lane c n)
    (Each-weaker (λ (l : Lane). (l.channel ≡ c) × (l.hop < n)) (λ (l : Lane). (l.channel ≡ c) × (l.hop < suc n)) (λ l h. (h.0, omega (arith, h.1))) (hops_below c n) (are-below c n))
    (cc, omega arith)

other : (l m : Lane) → (l ≡ m → ⊥) → same_lane l m ≡ false
other l m h = ⊎_elim
    (λ (t : same_lane l m ≡ true). absurd (h (same_lane-equal l m t)))
    (λ (t : same_lane l m ≡ false). t)
    (cases_Bool (same_lane l m))

Each-append : (P : Lane → Type 0) (xs ys : List Lane) → Each P xs → Each P ys → Each P (xs ++ ys)
Each-append P [] ys a b = b
Each-append P (x ∷ xs) ys a b = (a.0, Each-append P xs ys a.1 b)

Apart-append : (xs ys : List Lane) → Apart xs → Apart ys → Each (λ x. Each (λ y. same_lane x y ≡ false) ys) xs → Apart (xs ++ ys)
Apart-append [] ys a b e = b
Apart-append (x ∷ xs) ys a b e = (Each-append (λ y. same_lane x y ≡ false) xs ys a.0 e.0, Apart-append xs ys a.1 b e.1)

hops-apart : (c n : ℕ) → Apart (hops_below c n)
hops-apart c zero = tt
hops-apart c (suc n) = Apart-append (hops_below c n) (flags_lane c n ∷ []) (hops-apart c n) (tt, tt)
    (Each-weaker (λ (l : Lane). (l.channel ≡ c) × (l.hop < n)) (λ x. Each (λ y. same_lane x y ≡ false) (flags_lane c n ∷ []))
    (λ l h. (other l (flags_lane c n) (λ e. let k = ap (λ (m : Lane). m.hop) e in omega (arith, k, h.1)), tt)) (hops_below c n) (are-below c n))

-- the first so many lists have a channel each, and the others have no lane
pub record AreLists (hops channels : ℕ) (lists : List (Vec Lane)) : Type 0 where
  pub each : HaveChannels hops channels lists
  pub below : Each (λ (l : Lane). l.channel < channels) (lanes_of_senders (map own_lanes lists))
  pub apart : Apart (lanes_of_senders (map own_lanes lists))

lanes-more : (lists : List (Vec Lane)) (v : Vec Lane) (own : List Lane) → v.items ≡ own → lanes_of_senders (map own_lanes (lists ++ v ∷ [])) ≡ lanes_of_senders (map own_lanes lists) ++ own
lanes-more lists v own e =
    ap lanes_of_senders (map-append own_lanes lists (v ∷ [])) ∙ all_lanes-snoc (map own_lanes lists) v.items ∙ ap (λ ls. lanes_of_senders (map own_lanes lists) ++ ls) e

front : {A : Type 0} (xs : List A) (x y : A) (i : ℕ) → i < length xs → y ≡ get_or (xs ++ x ∷ []) i y → y ≡ get_or xs i y
front xs x y i h e = e ∙ get_or_append_left xs (x ∷ []) y i h

pub channel-more : (hops n : ℕ) (lists : List (Vec Lane)) (v : Vec Lane) → length lists ≡ n → v.items ≡ hops_below n hops → AreLists hops n lists → AreLists hops (n + 1) (lists ++ v ∷ [])
channel-more hops n lists v len own h =
    let before = lanes_of_senders (map own_lanes lists) in
    let more : before ++ hops_below n hops ≡ lanes_of_senders (map own_lanes (lists ++ v ∷ [])) = sym (lanes-more lists v (hops_below n hops) own) in
    record {
      each = λ i w below e. ⊎_elim
          (λ (x : i ≡ n). ap (λ (u : Vec Lane). u.items) (e ∙ get_or_push lists v w i (len ∙ sym x)) ∙ own ∙ ap (λ c. hops_below c hops) (sym x))
          (λ (x : i ≡ n → ⊥). let less : i < n = omega (arith, below, x) in h.each i w less (front lists v w i (omega (arith, less, len)) e))
          (cases_eq i n);
      below = subst (λ ls. Each (λ (l : Lane). l.channel < n + 1) ls) more (Each-append (λ (l : Lane). l.channel < n + 1) before (hops_below n hops)
          (Each-weaker (λ (l : Lane). l.channel < n) (λ (l : Lane). l.channel < n + 1) (λ l less. omega (arith, less)) before h.below)
          (Each-weaker (λ (l : Lane). (l.channel ≡ n) × (l.hop < hops)) (λ (l : Lane). l.channel < n + 1) (λ l is. omega (arith, is.0)) (hops_below n hops) (are-below n hops)));
      apart = subst Apart more (Apart-append before (hops_below n hops) h.apart (hops-apart n hops)
          (Each-weaker (λ (l : Lane). l.channel < n) (λ x. Each (λ y. same_lane x y ≡ false) (hops_below n hops))
          (λ x less. Each-weaker (λ (l : Lane). (l.channel ≡ n) × (l.hop < hops)) (λ y. same_lane x y ≡ false)
          (λ y is. other x y (λ e. let k = ap (λ (m : Lane). m.channel) e in omega (arith, k, less, is.0))) (hops_below n hops) (are-below n hops)) before h.below));
    }

pub none-more : (hops n : ℕ) (lists : List (Vec Lane)) (v : Vec Lane) → n ≤ length lists → v.items ≡ [] → AreLists hops n lists → AreLists hops n (lists ++ v ∷ [])
none-more hops n lists v len own h =
    let same : lanes_of_senders (map own_lanes lists) ≡ lanes_of_senders (map own_lanes (lists ++ v ∷ [])) = sym (lanes-more lists v [] own ∙ append-nil (lanes_of_senders (map own_lanes lists))) in
    record {
      each = λ i w below e. h.each i w below (front lists v w i (omega (arith, below, len)) e);
      below = subst (λ ls. Each (λ (l : Lane). l.channel < n) ls) same h.below;
      apart = subst Apart same h.apart;
    }

pub no-lists : (hops : ℕ) (lists : List (Vec Lane)) → lists ≡ [] → AreLists hops 0 lists
no-lists hops lists e = subst (λ vs. AreLists hops 0 vs) (sym e) (record { each = λ i w below _. absurd (omega (arith, below)); below = tt; apart = tt })
