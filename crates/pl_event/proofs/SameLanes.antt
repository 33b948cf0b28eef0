-- Lanes that are the same are equal.
use Rattle.std.proofs.Common.{◌≡◌, true, false, refl, subst, ⊎_elim}
use Rattle.std.proofs.lemmas.Bool.{false≢true, and_parts, and_from, eqb-true, eq-eqb, cases_Bool, both_ways}
use Rattle.pl_event.specs.declared.envelopes.Kind.{Kind}
use Rattle.pl_event.specs.declared.envelopes.Kind.TheVariants.{Data, Flags}
use Rattle.pl_event.specs.declared.envelopes.Lane.{Lane}
use Rattle.pl_event.specs.Hops.{same_kind, same_lane}

same_kind-equal : (a b : Kind) → same_kind a b ≡ true → a ≡ b
same_kind-equal Data Data e = refl
same_kind-equal Data Flags e = absurd (false≢true e)
same_kind-equal Flags Data e = absurd (false≢true e)
same_kind-equal Flags Flags e = refl

same_kind-self : (a : Kind) → same_kind a a ≡ true
same_kind-self Data = refl
same_kind-self Flags = refl

pub same_lane-equal : (a b : Lane) → same_lane a b ≡ true → a ≡ b
unfolding same_lane
same_lane-equal a b e =
    let p = and_parts _ _ e in
    let q = and_parts _ _ p.0 in
    let c : a.channel ≡ b.channel = eqb-true _ _ q.0 in
    let h : a.hop ≡ b.hop = eqb-true _ _ q.1 in
    let k : a.kind ≡ b.kind = same_kind-equal _ _ p.1 in
    λ i. record { channel = c i; kind = k i; hop = h i }

pub same_lane-self : (a : Lane) → same_lane a a ≡ true
unfolding same_lane
same_lane-self a =
    and_from _ _ (and_from _ _ (eq-eqb a.channel a.channel refl) (eq-eqb a.hop a.hop refl)) (same_kind-self a.kind)

pub same_lane-flip : (a b : Lane) → same_lane a b ≡ false → same_lane b a ≡ false
same_lane-flip a b e = ⊎_elim (λ (t : same_lane b a ≡ true). absurd (both_ways (same_lane a b) e (subst (λ y. same_lane y b ≡ true) (same_lane-equal b a t) (same_lane-self b))))
    (λ (t : same_lane b a ≡ false). t) (cases_Bool (same_lane b a))
