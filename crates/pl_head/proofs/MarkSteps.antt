-- What one change more does to the marks: it turns them or leaves them.
use Rattle.std.proofs.Common.{◌≡◌, ℕ, ◌+◌, ◌-◌, ◌<◌, ◌≤◌, List, [], ◌∷◌, ◌++◌, length, Bool, true, false, ltb, ap, sym, ◌∙◌, refl, arith, append-nil, length-append}
use Rattle.std.specs.Prelude.{if◌then◌else◌, nat_lt}
use Rattle.std.proofs.lemmas.Bool.Decides.{nat_tests}
use Rattle.pl_context.specs.declared.ports.Port.{Port}
use Rattle.pl_context.specs.OutputsViews.{OutputsView}
use Rattle.pl_context.specs.Ports.{FlagPasses}
use Rattle.pl_head.specs.MarksStand.{Watermarks, SendsFlags}
use Rattle.pl_head.specs.Marks.{Change, Added, Removed, sizes_added, removed_by, changed, pending_from, pending_after, levels_from, flags, flags_from, is_unwritable, unwritable_from}

-- changes behind others
pub pending_from-append : (p : ℕ) (cs ds : List Change) → pending_from p (cs ++ ds) ≡ pending_from (pending_from p cs) ds
pending_from-append p [] ds = refl
pending_from-append p (c ∷ cs) ds = pending_from-append (changed p c) cs ds

pub added_by-append : (cs ds : List Change) → sizes_added (cs ++ ds) ≡ sizes_added cs + sizes_added ds
added_by-append [] ds = omega arith
added_by-append (Added n ∷ cs) ds = let rest = added_by-append cs ds in omega (arith, rest)
added_by-append (Removed n ∷ cs) ds = added_by-append cs ds

pub removed_by-append : (cs ds : List Change) → removed_by (cs ++ ds) ≡ removed_by cs + removed_by ds
removed_by-append [] ds = omega arith
removed_by-append (Added n ∷ cs) ds = removed_by-append cs ds
removed_by-append (Removed n ∷ cs) ds = let rest = removed_by-append cs ds in omega (arith, rest)

-- what was added and removed, one change later
pub added-exact : (p size : ℕ) (cs : List Change) → p + removed_by cs ≡ sizes_added cs → (p + size) + removed_by (cs ++ Added size ∷ []) ≡ sizes_added (cs ++ Added size ∷ [])
added-exact p size cs h =
    omega (arith, h, added_by-append cs (Added size ∷ []), removed_by-append cs (Added size ∷ []))

pub removed-exact : (p size : ℕ) (cs : List Change) → size ≤ p → p + removed_by cs ≡ sizes_added cs → (p - size) + removed_by (cs ++ Removed size ∷ []) ≡ sizes_added (cs ++ Removed size ∷ [])
removed-exact p size cs within h =
    omega (arith, within, h, added_by-append cs (Removed size ∷ []), removed_by-append cs (Removed size ∷ []))

pub levels_from-append : (p : ℕ) (cs ds : List Change) → levels_from p (cs ++ ds) ≡ levels_from p cs ++ levels_from (pending_from p cs) ds
levels_from-append p [] ds = refl
levels_from-append p (c ∷ cs) ds = ap (λ (t : List ℕ). changed p c ∷ t) (levels_from-append (changed p c) cs ds)

pub unwritable_from-append : (low high : ℕ) (u : Bool) (ps qs : List ℕ) → unwritable_from low high u (ps ++ qs) ≡ unwritable_from low high (unwritable_from low high u ps) qs
unwritable_from-append low high u [] qs = refl
unwritable_from-append low high false (p ∷ ps) qs = unwritable_from-append low high (nat_lt high p) ps qs
unwritable_from-append low high true (p ∷ ps) qs = unwritable_from-append low high (if nat_lt p low then false else true) ps qs

flags_from-append : (low high : ℕ) (u : Bool) (ps qs : List ℕ) → flags_from low high u (ps ++ qs) ≡ flags_from low high u ps ++ flags_from low high (unwritable_from low high u ps) qs
flags_from-append low high u [] qs = refl
flags_from-append low high false (p ∷ ps) qs =
    elim (nat_lt high p) as (λ (b : Bool). (if b then false ∷ flags_from low high true (ps ++ qs) else flags_from low high false (ps ++ qs)) ≡ (if b then false ∷ flags_from low high true ps else flags_from low high false ps) ++ flags_from low high (unwritable_from low high b ps) qs)
    [ true ↦ ap (λ (t : List Bool). false ∷ t) (flags_from-append low high true ps qs) | false ↦ flags_from-append low high false ps qs ]
flags_from-append low high true (p ∷ ps) qs =
    elim (nat_lt p low) as (λ (b : Bool). (if b then true ∷ flags_from low high false (ps ++ qs) else flags_from low high true (ps ++ qs)) ≡ (if b then true ∷ flags_from low high false ps else flags_from low high true ps) ++ flags_from low high (unwritable_from low high (if b then false else true) ps) qs)
    [ true ↦ ap (λ (t : List Bool). true ∷ t) (flags_from-append low high false ps qs) | false ↦ flags_from-append low high true ps qs ]

-- the flags that one more change sends, and what the last flag then said, by what it said before and by pending
pub flags-push : (low high : ℕ) (cs : List Change) (c : Change) → flags low high (cs ++ c ∷ []) ≡ flags low high cs ++ flags_from low high (is_unwritable low high cs) (changed (pending_after cs) c ∷ [])
flags-push low high cs c =
    ap (λ (ps : List ℕ). flags_from low high false ps) (levels_from-append 0 cs (c ∷ [])) ∙ flags_from-append low high false (levels_from 0 cs) (changed (pending_after cs) c ∷ [])

pub is_unwritable-push : (low high : ℕ) (cs : List Change) (c : Change) → is_unwritable low high (cs ++ c ∷ []) ≡ unwritable_from low high (is_unwritable low high cs) (changed (pending_after cs) c ∷ [])
is_unwritable-push low high cs c =
    ap (λ (ps : List ℕ). unwritable_from low high false ps) (levels_from-append 0 cs (c ∷ [])) ∙ unwritable_from-append low high false (levels_from 0 cs) (changed (pending_after cs) c ∷ [])

-- the marks after one change more: what the last flag says, and the flags that this change sends
pub record Turns (low high : ℕ) (cs : List Change) (c : Change) (after : Bool) (sent : List Bool) : Type 0 where
  pub last : is_unwritable low high (cs ++ c ∷ []) ≡ after
  pub flags : flags low high (cs ++ c ∷ []) ≡ flags low high cs ++ sent

turns : (low high : ℕ) (cs : List Change) (c : Change) (before after : Bool) (sent : List Bool) → before ≡ is_unwritable low high cs
    → unwritable_from low high before (changed (pending_after cs) c ∷ []) ≡ after → flags_from low high before (changed (pending_after cs) c ∷ []) ≡ sent → Turns low high cs c after sent
turns low high cs c before after sent b l f = record {
  last = is_unwritable-push low high cs c ∙ ap (λ (u : Bool). unwritable_from low high u (changed (pending_after cs) c ∷ [])) (sym b) ∙ l;
  flags = flags-push low high cs c ∙ ap (λ (u : Bool). flags low high cs ++ flags_from low high u (changed (pending_after cs) c ∷ [])) (sym b) ∙ ap (λ (t : List Bool). flags low high cs ++ t) f;
}

pub rises : (low high : ℕ) (cs : List Change) (c : Change) → false ≡ is_unwritable low high cs → high < changed (pending_after cs) c → Turns low high cs c true (false ∷ [])
rises low high cs c b h =
    let test : ltb high (changed (pending_after cs) c) ≡ true = grind (arith, nat_tests) in
    turns low high cs c false true (false ∷ []) b test (rw test refl)

pub falls : (low high : ℕ) (cs : List Change) (c : Change) → true ≡ is_unwritable low high cs → changed (pending_after cs) c < low → Turns low high cs c false (true ∷ [])
falls low high cs c b h =
    let test : ltb (changed (pending_after cs) c) low ≡ true = grind (arith, nat_tests) in
    turns low high cs c true false (true ∷ []) b (rw test refl) (rw test refl)

pub stays_below : (low high : ℕ) (cs : List Change) (c : Change) → false ≡ is_unwritable low high cs → changed (pending_after cs) c ≤ high → Turns low high cs c false []
stays_below low high cs c b h =
    let test : ltb high (changed (pending_after cs) c) ≡ false = grind (arith, nat_tests) in
    turns low high cs c false false [] b test (rw test refl)

pub stays_above : (low high : ℕ) (cs : List Change) (c : Change) → true ≡ is_unwritable low high cs → low ≤ changed (pending_after cs) c → Turns low high cs c true []
stays_above low high cs c b h =
    let test : ltb (changed (pending_after cs) c) low ≡ false = grind (arith, nat_tests) in
    turns low high cs c true true [] b (rw test refl) (rw test refl)

-- ---- the marks and their flags after one change more

module _ {low high : ℕ} {cs : List Change} {c : Change} {after : Bool} where
  module _ (p : Port) {pending : ℕ} (is : pending ≡ pending_after (cs ++ c ∷ [])) (exact : pending + removed_by (cs ++ c ∷ []) ≡ sizes_added (cs ++ c ∷ []))
      (sent : p.is_open ≡ true → p.made ≡ length (flags low high cs)) where
    -- it sends none
    pub stands-still : Turns low high cs c after [] → Watermarks low high pending after p (cs ++ c ∷ [])
    stands-still t = record {
      pending_is = is;
      exact = exact;
      unwritable_is = sym t.last;
      sent = λ goes. sent goes ∙ ap (λ (fs : List Bool). length fs) (sym (t.flags ∙ append-nil (flags low high cs)));
    }

    -- it sends one
    pub stands-turned : {value : Bool} {p' : Port} → Turns low high cs c after (value ∷ []) → (p'.is_open ≡ true → p.is_open ≡ true) → (p'.is_open ≡ true → p'.made ≡ p.made + 1)
        → Watermarks low high pending after p' (cs ++ c ∷ [])
    stands-turned {value = value} t goes_on one = record {
      pending_is = is;
      exact = exact;
      unwritable_is = sym t.last;
      sent = λ goes. omega (arith, sent (goes_on goes), one goes, ap (λ (fs : List Bool). length fs) t.flags, length-append (flags low high cs) (value ∷ []));
    }

  pub sends_none : {p : Port} {before : OutputsView} → Turns low high cs c after [] → SendsFlags low high cs (c ∷ []) p before p before
  sends_none t = record { added = []; flags_are = t.flags; passes = (refl, refl) }

  pub sends_one : {value : Bool} {p p' : Port} {before between : OutputsView} → Turns low high cs c after (value ∷ []) → FlagPasses p value before p' between → SendsFlags low high cs (c ∷ []) p before p' between
  sends_one {value = value} {p' = p'} {between = between} t passes =
      record { added = value ∷ []; flags_are = t.flags; passes = (p', between, passes, (refl, refl)) }
