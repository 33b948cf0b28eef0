-- The laws of a watermark trace.
use Rattle.std.proofs.Common.{◌≡◌, ℕ, ◌+◌, ◌-◌, ◌<◌, ◌≤◌, List, [], ◌∷◌, ◌++◌, Bool, true, false, ap, sym, ◌∙◌, refl, arith, ◌⊎◌, inl, inr}
use Rattle.std.specs.Prelude.{if◌then◌else◌, nat_lt, ◌↔◌, All}
use Rattle.std.proofs.lemmas.Bool.{ltb-true, ltb-false, lt-ltb, le-ltb}
use Rattle.std.proofs.lemmas.List.Elements.{All-nil, All-cons, All-head, All-tail}
use Rattle.pl_head.specs.Marks.{Change, Added, Removed, changed, pending_from, pending_after, levels, levels_from, flags, flags_from, is_unwritable, unwritable_from, AlternateFrom, turning, IsExceeded, sizes_added, removed_by, IsCovered}
use Rattle.pl_head.proofs.MarkSteps.{levels_from-append, unwritable_from-append, flags-push, is_unwritable-push}

-- ---- the flags

pub alternate_from : (low high : ℕ) (u : Bool) (ps : List ℕ) → AlternateFrom u (flags_from low high u ps)
alternate_from low high u [] = tt
alternate_from low high false (p ∷ ps) =
    elim (nat_lt high p) as (λ (b : Bool). AlternateFrom false (if b then false ∷ flags_from low high true ps else flags_from low high false ps))
    [ true ↦ (refl, alternate_from low high true ps) | false ↦ alternate_from low high false ps ]
alternate_from low high true (p ∷ ps) =
    elim (nat_lt p low) as (λ (b : Bool). AlternateFrom true (if b then true ∷ flags_from low high false ps else flags_from low high true ps))
    [ true ↦ (refl, alternate_from low high false ps) | false ↦ alternate_from low high true ps ]

-- one level more turns the marks, with a flag, or leaves them, with none
one_turns : (low high : ℕ) (u : Bool) (p : ℕ) → flags_from low high u (p ∷ []) ≡ turning u (unwritable_from low high u (p ∷ []))
one_turns low high false p =
    elim (nat_lt high p) as (λ (b : Bool). (if b then false ∷ [] else []) ≡ turning false b) [ true ↦ refl | false ↦ refl ]
one_turns low high true p =
    elim (nat_lt p low) as (λ (b : Bool). (if b then true ∷ [] else []) ≡ turning true (if b then false else true)) [ true ↦ refl | false ↦ refl ]

pub change_turns : (low high : ℕ) (cs : List Change) (c : Change) → flags low high (cs ++ c ∷ []) ≡ flags low high cs ++ turning (is_unwritable low high cs) (is_unwritable low high (cs ++ c ∷ []))
change_turns low high cs c =
    flags-push low high cs c
    ∙ ap (λ (t : List Bool). flags low high cs ++ t)
    (one_turns low high (is_unwritable low high cs) (changed (pending_after cs) c) ∙ ap (turning (is_unwritable low high cs)) (sym (is_unwritable-push low high cs c)))

-- ---- not writable

exceeded-cons : (low high p : ℕ) (ps : List ℕ) → IsExceeded low high ps → IsExceeded low high (p ∷ ps)
exceeded-cons low high p ps e = record {
  before = p ∷ e.before;
  level = e.level;
  since = e.since;
  split = ap (λ (t : List ℕ). p ∷ t) e.split;
  above = e.above;
  none_below = e.none_below;
}

exceeded-here : (low high p : ℕ) (ps : List ℕ) → high < p → All (λ q. low ≤ q) ps → IsExceeded low high (p ∷ ps)
exceeded-here low high p ps above none =
    record { before = []; level = p; since = ps; split = refl; above = above; none_below = none }

-- it was so before and no level was below low, or some level was above high
abbrev Why : ℕ → ℕ → Bool → List ℕ → Type 0
Why low high u ps = ((u ≡ true) × All (λ q. low ≤ q) ps) ⊎ IsExceeded low high ps

why-false : (low high p : ℕ) (ps : List ℕ) (b : Bool) → nat_lt high p ≡ b → Why low high b ps → Why low high false (p ∷ ps)
why-false low high p ps false is why = elim why [ inl x ↦ cc | inr e ↦ inr (exceeded-cons low high p ps e) ]
why-false low high p ps true is why =
    elim why [ inl x ↦ inr (exceeded-here low high p ps (ltb-true high p is) x.1) | inr e ↦ inr (exceeded-cons low high p ps e) ]

why-true : (low high p : ℕ) (ps : List ℕ) (b : Bool) → nat_lt p low ≡ b → Why low high (if b then false else true) ps → Why low high true (p ∷ ps)
why-true low high p ps true is why = elim why [ inl x ↦ cc | inr e ↦ inr (exceeded-cons low high p ps e) ]
why-true low high p ps false is why =
    elim why [ inl x ↦ inl (refl, All-cons (λ q. low ≤ q) p ps (ltb-false p low is) x.1) | inr e ↦ inr (exceeded-cons low high p ps e) ]

why_unwritable : (low high : ℕ) (u : Bool) (ps : List ℕ) → unwritable_from low high u ps ≡ true → Why low high u ps
why_unwritable low high u [] h = inl (h, All-nil (λ q. low ≤ q))
why_unwritable low high false (p ∷ ps) h =
    why-false low high p ps (nat_lt high p) refl (why_unwritable low high (nat_lt high p) ps h)
why_unwritable low high true (p ∷ ps) h =
    why-true low high p ps (nat_lt p low) refl (why_unwritable low high (if nat_lt p low then false else true) ps h)

pub stays_unwritable : (low high : ℕ) (ps : List ℕ) → All (λ q. low ≤ q) ps → unwritable_from low high true ps ≡ true
stays_unwritable low high [] none = refl
stays_unwritable low high (p ∷ ps) none =
    let test = le-ltb p low (All-head (λ q. low ≤ q) p ps none) in
    ap (λ (b : Bool). unwritable_from low high (if b then false else true) ps) test
    ∙ stays_unwritable low high ps (All-tail (λ q. low ≤ q) p ps none)

exceeded_unwritable : (low high : ℕ) (u : Bool) (before : List ℕ) (level : ℕ) (since : List ℕ) → low ≤ high → high < level → All (λ q. low ≤ q) since
    → unwritable_from low high u (before ++ level ∷ since) ≡ true
exceeded_unwritable low high false [] level since ordered above none =
    ap (λ (b : Bool). unwritable_from low high b since) (lt-ltb high level above) ∙ stays_unwritable low high since none
exceeded_unwritable low high true [] level since ordered above none =
    stays_unwritable low high (level ∷ since) (All-cons (λ q. low ≤ q) level since (omega (arith, ordered, above)) none)
exceeded_unwritable low high false (p ∷ before) level since ordered above none =
    exceeded_unwritable low high (nat_lt high p) before level since ordered above none
exceeded_unwritable low high true (p ∷ before) level since ordered above none =
    exceeded_unwritable low high (if nat_lt p low then false else true) before level since ordered above none

pub unwritable_exactly : (low high : ℕ) (cs : List Change) → low ≤ high → (is_unwritable low high cs ≡ true) ↔ IsExceeded low high (levels cs)
unwritable_exactly low high cs ordered = (
  λ h. elim (why_unwritable low high false (levels cs) h) [ inl x ↦ cc | inr e ↦ e ],
  λ e. ap (λ (ps : List ℕ). unwritable_from low high false ps) e.split ∙ exceeded_unwritable low high false e.before e.level e.since ordered e.above e.none_below,
)

-- with low 0 there is no way back
pub never_back : (high : ℕ) (cs more : List Change) → is_unwritable 0 high cs ≡ true → is_unwritable 0 high (cs ++ more) ≡ true
never_back high cs more h =
    ap (λ (ps : List ℕ). unwritable_from 0 high false ps) (levels_from-append 0 cs more)
    ∙ unwritable_from-append 0 high false (levels cs) (levels_from (pending_after cs) more)
    ∙ ap (λ (b : Bool). unwritable_from 0 high b (levels_from (pending_after cs) more)) h
    ∙ stays_unwritable 0 high (levels_from (pending_after cs) more) (λ k d within. omega arith)

-- ---- pending

pending_balances : (p : ℕ) (cs : List Change) → IsCovered p cs → pending_from p cs + removed_by cs ≡ p + sizes_added cs
pending_balances p [] h = refl
pending_balances p (Added n ∷ cs) h = let rest = pending_balances (p + n) cs h in omega (arith, rest)
pending_balances p (Removed n ∷ cs) h = let rest = pending_balances (p - n) cs h.1 in omega (arith, rest, h.0)

pub pending_exactly : (cs : List Change) → IsCovered 0 cs → pending_after cs + removed_by cs ≡ sizes_added cs
pending_exactly cs h = let all = pending_balances 0 cs h in omega (arith, all)
