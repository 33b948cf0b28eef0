-- Flags that pass: which may stand at their numbers, and how far their lane has come.
use Rattle.std.proofs.Common.{◌≡◌, ◌⊎◌, ℕ, ◌+◌, ◌≤◌, ◌<◌, ◌^◌, ◌%◌, Bool, true, false, not, eqb, cond, List, [], ◌∷◌, ◌++◌, length, refl, sym, ap, ◌∙◌, subst, ⊎_elim, arith, inl, inr}
use Rattle.std.specs.Prelude.{◌==◌}
use Rattle.std.proofs.lemmas.Bool.{cases_eq, cases_Bool, both_ways, eq-eqb, ne_eqb, cond-true, cond-false}
use Rattle.pl_event.specs.declared.envelopes.Kind.TheVariants.{Flags}
use Rattle.pl_event.specs.declared.envelopes.Lane.{Lane}
use Rattle.pl_event.specs.declared.envelopes.Envelope.{Envelope}
use Rattle.pl_event.specs.declared.envelopes.Item.TheVariants as item
use Rattle.pl_event.specs.Hops.{same_lane}
use Rattle.pl_event.specs.Worlds.{World, FitsAsKind, FitsWorld}
use Rattle.pl_event.proofs.SameLanes.{same_lane-equal, same_lane-self}
use Rattle.pl_context.specs.declared.added.Added.{Added}
use Rattle.pl_context.specs.declared.added.Added.TheVariants.{Last, Refused, Discarded}
use Rattle.pl_context.specs.declared.ports.Port.{Port}
use Rattle.pl_context.specs.Stops.{StopsView, has_stopped}
use Rattle.pl_context.specs.OutputsViews.{OutputsView, Puts}
use Rattle.pl_context.specs.Ports.{flag_port_after}
use Rattle.pl_flow.specs.Flows.{Point, point, after, IsNext, IsGood}
use Rattle.pl_flow.specs.Makes.{Makes, made_one}
use Rattle.pl_flow.proofs.MakeLemmas.{one-put, makes-none, makes-then, stops-here}
use Rattle.pl_head.specs.Marks.{Change, flags, levels, AlternateFrom}
use Rattle.pl_head.specs.FlagLanes.{FlagsPass}
use Rattle.pl_head.proofs.MarkLaws.{alternate_from}
use Rattle.pl_head.proofs.FlagSteps.{pass_closed, port-lane}
use Rattle.pl_part.specs.ContextHolds.{port_point}
use Rattle.pl_part.specs.TailHolds.{Alternate}
use Rattle.pl_part.proofs.PortMakes.{makes-to}
use Rattle.pl_part.proofs.ContextCounts.{flag-length}

-- ---- flags alternate

-- the next flag says the contrary
next-flag : (n : ℕ) → not (n % 2 == 1) ≡ ((n + 1) % 2 == 1)
next-flag n = elim (cases_eq (n % 2) 1) [
  | inl odd ↦
      let even : (n + 1) % 2 ≡ 0 = omega (arith, odd) in
      ap not (eq-eqb (n % 2) 1 odd) ∙ sym (ap (λ (r : ℕ). eqb r 1) even)
  | inr other ↦
      let odd : (n + 1) % 2 ≡ 1 = omega (arith, other) in
      ap not (ne_eqb (n % 2) 1 other) ∙ sym (eq-eqb ((n + 1) % 2) 1 odd)
]

alternates : (n : ℕ) (value : Bool) (fs : List Bool) → value ≡ (n % 2 == 1) → AlternateFrom value fs → Alternate n fs
alternates n value [] e h = tt
alternates n value (f ∷ fs) e h = (h.0 ∙ e, alternates (n + 1) (not value) fs (ap not e ∙ next-flag n) h.1)

alternate-rest : (n : ℕ) (xs ys : List Bool) → Alternate n (xs ++ ys) → Alternate (n + length xs) ys
alternate-rest n [] ys h = let same : n ≡ n + 0 = omega arith in subst (λ k. Alternate k ys) same h
alternate-rest n (x ∷ xs) ys h =
    let same : n + 1 + length xs ≡ n + length (x ∷ xs) = omega arith in
    subst (λ k. Alternate k ys) same (alternate-rest (n + 1) xs ys h.1)

-- the flags that sizes add to those of the sizes before
pub flags-fit : (low high : ℕ) (cs more : List Change) (added : List Bool) (made : ℕ) → flags low high (cs ++ more) ≡ flags low high cs ++ added → made ≡ length (flags low high cs) → Alternate made added
flags-fit low high cs more added made are count =
    let all : Alternate 0 (flags low high (cs ++ more)) = alternates 0 false (flags low high (cs ++ more)) refl (alternate_from low high false (levels (cs ++ more))) in
    let rest = alternate-rest 0 (flags low high cs) added (subst (λ (fs : List Bool). Alternate 0 fs) are all) in
    let same : 0 + length (flags low high cs) ≡ made = omega (arith, count) in
    subst (λ k. Alternate k added) same rest

-- ---- they pass

-- where each lane is, once the port of one has moved
abbrev pub with_port : (Lane → Point) → Port → Port → Lane → Point
with_port from p q l = cond (same_lane l p.lane) (port_point q) (from l)

one-more : (answer : Added) (p : Port) → p.made ≤ (flag_port_after answer p).made
one-more Last p = omega arith
one-more Refused p = omega arith
one-more Discarded p = omega arith

pub passes-grow : (values : List Bool) (p p' : Port) (b a : OutputsView) → FlagsPass values p b p' a → p.made ≤ p'.made
passes-grow [] p p' b a h = let same = ap (λ (q : Port). q.made) h.0 in omega (arith, same)
passes-grow (v ∷ vs) p p' b a h =
    let rest = passes-grow vs h.0 p' h.1 a h.3 in
    ⊎_elim
    (λ (o : p.is_open ≡ true).
    let put = h.2.put o in
    let same = ap (λ (q : Port). q.made) put.1 in
    let one = one-more put.0 p in
    omega (arith, same, one, rest))
    (λ (s : p.is_open ≡ false). let same = ap (λ (q : Port). q.made) (h.2.closed s).0 in omega (arith, same, rest))
    (cases_Bool p.is_open)

pub passes-lane : (values : List Bool) (p p' : Port) (b a : OutputsView) → FlagsPass values p b p' a → p'.lane ≡ p.lane
passes-lane [] p p' b a h = ap (λ (q : Port). q.lane) h.0
passes-lane (v ∷ vs) p p' b a h =
    passes-lane vs h.0 p' h.1 a h.3
    ∙ ⊎_elim
    (λ (o : p.is_open ≡ true). let put = h.2.put o in ap (λ (q : Port). q.lane) put.1 ∙ port-lane put.0 p)
    (λ (s : p.is_open ≡ false). ap (λ (q : Port). q.lane) (h.2.closed s).0)
    (cases_Bool p.is_open)

-- those that came on the list were given to the port
pub passes-more : (values : List Bool) (p p' : Port) (b a : OutputsView) → p.lane.kind ≡ Flags → FlagsPass values p b p' a → p.made + length a.items ≤ p'.made + length b.items
passes-more [] p p' b a kind h =
    let same = ap (λ (q : Port). q.made) h.0 in
    let none = ap (λ (y : OutputsView). length y.items) h.1 in
    omega (arith, same, none)
passes-more (v ∷ vs) p p' b a kind h =
    let one = flag-length p kind v b h.1 h.0 h.2 in
    let lane = passes-lane (v ∷ []) p h.0 b h.1 (h.0, h.1, h.2, (refl, refl)) in
    let rest = passes-more vs h.0 p' h.1 a (ap (λ (l : Lane). l.kind) lane ∙ kind) h.3 in
    omega (arith, one, rest)

module _ (world : World) (writes : Lane → Bool) where
  -- nothing passes
  none-passes : (p p' : Port) (b a : OutputsView) (from : Lane → Point) → from p.lane ≡ port_point p → p' ≡ p → a ≡ b → Makes world writes from (with_port from p p') b a
  none-passes p p' b a from at same out =
      makes-to world writes from from (with_port from p p') b a (makes-none world writes from b a (ap (λ (o : OutputsView). o.items) out) (ap (λ (o : OutputsView). o.stopped) out))
      (λ l n. ⊎_elim
      (λ (t : same_lane l p.lane ≡ true).
      cond-true (same_lane l p.lane) (port_point p') (from l) t ∙ ap port_point same ∙ sym at ∙ ap from (sym (same_lane-equal l p.lane t)))
      (λ (f : same_lane l p.lane ≡ false). cond-false (same_lane l p.lane) (port_point p') (from l) f)
      (cases_Bool (same_lane l p.lane)))

  module _ (p : Port) (kind : p.lane.kind ≡ Flags) (own : writes p.lane ≡ true) (value : Bool) (fits : value ≡ (p.made % 2 == 1)) (small : p.made < 2 ^ 32) (b a : OutputsView) (from : Lane → Point)
      (at : from p.lane ≡ port_point p) (goes : p.is_open ≡ true) where
    abbrev flag : Envelope
    flag = record { lane = p.lane; number = p.made; item = item.Flag value }

    flag-good : IsGood world flag
    unfolding FitsWorld
    flag-good = record { fits = subst (λ k. FitsAsKind world k flag) (sym kind) fits; small = small }

    flag-here : (answer : Added) → Puts b flag answer a → has_stopped a.stopped p.lane ≡ false → port_point (flag_port_after answer p) ≡ after flag
    flag-here Last puts n = ap (λ (t : Bool). point (p.made + 1) (not t)) goes
    flag-here Refused puts n = absurd (both_ways (has_stopped a.stopped p.lane) n (ap (λ (s : StopsView). has_stopped s p.lane) puts.stopped ∙ stops-here b.stopped p.lane))
    flag-here Discarded puts n = absurd (both_ways (has_stopped a.stopped p.lane) n (ap (λ (s : StopsView). has_stopped s p.lane) puts.stopped ∙ puts.discarded.0 refl))

    -- one flag is handed on, or its lane stops
    one-passes : (answer : Added) (mid : Port) → mid ≡ flag_port_after answer p → Puts b flag answer a → Makes world writes from (with_port from p mid) b a
    one-passes answer mid is puts =
        let next : IsNext world (from p.lane) flag = record { over = ap (λ (t : Point). t.over) at ∙ ap not goes; number = sym (ap (λ (t : Point). t.next) at); good = flag-good } in
        makes-to world writes from (made_one from flag) (with_port from p mid) b a (one-put world writes from b a flag own next answer puts)
        (λ l n. ⊎_elim
        (λ (t : same_lane l p.lane ≡ true).
        cond-true (same_lane l p.lane) (port_point mid) (from l) t ∙ ap port_point is
        ∙ flag-here answer puts (ap (λ (m : Lane). has_stopped a.stopped m) (sym (same_lane-equal l p.lane t)) ∙ n)
        ∙ sym (cond-true (same_lane l p.lane) (after flag) (from l) t))
        (λ (f : same_lane l p.lane ≡ false). cond-false (same_lane l p.lane) (port_point mid) (from l) f ∙ sym (cond-false (same_lane l p.lane) (after flag) (from l) f))
        (cases_Bool (same_lane l p.lane)))

  -- the flags of a lane pass, one after another
  pub flags-make : (values : List Bool) (p p' : Port) (b a : OutputsView) (from : Lane → Point) → p.lane.kind ≡ Flags → writes p.lane ≡ true → (p.is_open ≡ true → Alternate p.made values)
      → p'.made < 2 ^ 32 → from p.lane ≡ port_point p → FlagsPass values p b p' a → Makes world writes from (with_port from p p') b a
  flags-make [] p p' b a from kind own fits small at h = none-passes p p' b a from at h.0 h.1
  flags-make (v ∷ vs) p p' b a from kind own fits small at h = ⊎_elim
      (λ (s : p.is_open ≡ false). let all = pass_closed (v ∷ vs) p p' b a h s in none-passes p p' b a from at all.0 all.1)
      (λ (o : p.is_open ≡ true).
      let put = h.2.put o in
      let mid = h.0 in
      let lane : mid.lane ≡ p.lane = ap (λ (q : Port). q.lane) put.1 ∙ port-lane put.0 p in
      let grows = passes-grow (v ∷ vs) p p' b a h in
      let one = one-passes p kind own v (fits o).0 (omega (arith, grows, small)) b h.1 from at o put.0 mid put.1 put.2 in
      let two = flags-make vs mid p' h.1 a (with_port from p mid) (ap (λ (m : Lane). m.kind) lane ∙ kind) (ap writes lane ∙ own)
      (λ q. rest put.0 mid put.1 (fits o).1 q) small (cond-true (same_lane mid.lane p.lane) (port_point mid) (from mid.lane) (ap (λ (m : Lane). same_lane m p.lane) lane ∙ self p.lane)) h.3 in
      makes-to world writes from (with_port (with_port from p mid) mid p') (with_port from p p') b a (makes-then world writes from (with_port from p mid) (with_port (with_port from p mid) mid p') b h.1 a one two)
      (λ l n. joined l mid lane))
      (swap (cases_Bool p.is_open))
    where
      swap : {A B : Type 0} → (A ⊎ B) → (B ⊎ A)
      swap (inl x) = inr x
      swap (inr y) = inl y

      self : (l : Lane) → same_lane l l ≡ true
      self l = same_lane-self l

      rest : (answer : Added) (mid : Port) → mid ≡ flag_port_after answer p → Alternate (p.made + 1) vs → mid.is_open ≡ true → Alternate mid.made vs
      rest Last mid is more q = subst (λ k. Alternate k vs) (sym (ap (λ (r : Port). r.made) is)) more
      rest Refused mid is more q = absurd (both_ways mid.is_open (ap (λ (r : Port). r.is_open) is) q)
      rest Discarded mid is more q = absurd (both_ways mid.is_open (ap (λ (r : Port). r.is_open) is) q)

      joined : (l : Lane) (mid : Port) → mid.lane ≡ p.lane → with_port from p p' l ≡ with_port (with_port from p mid) mid p' l
      joined l mid lane = ⊎_elim
          (λ (t : same_lane l p.lane ≡ true).
          cond-true (same_lane l p.lane) (port_point p') (from l) t
          ∙ sym (cond-true (same_lane l mid.lane) (port_point p') (with_port from p mid l) (ap (λ (m : Lane). same_lane l m) lane ∙ t)))
          (λ (f : same_lane l p.lane ≡ false).
          cond-false (same_lane l p.lane) (port_point p') (from l) f
          ∙ sym (cond-false (same_lane l p.lane) (port_point mid) (from l) f)
          ∙ sym (cond-false (same_lane l mid.lane) (port_point p') (with_port from p mid l) (ap (λ (m : Lane). same_lane l m) lane ∙ f)))
          (cases_Bool (same_lane l p.lane))
