-- How many items of each lane were taken, at a place that has taken one more.
use Rattle.std.proofs.Common.{◌≡◌, ℕ, ◌+◌, true, false, cond, refl, ap, sym, ◌∙◌, ⊎_elim, arith}
use Rattle.std.specs.Prelude.{◌&&◌, ◌==◌}
use Rattle.std.proofs.lemmas.Bool.{cond-true, cond-false, cases_Bool, both_ways, and_parts, and_from, eqb-true, eq-eqb}
use Rattle.pl_event.specs.declared.envelopes.Kind.{Kind}
use Rattle.pl_event.specs.declared.envelopes.Kind.TheVariants.{Data, Flags}
use Rattle.pl_event.specs.declared.envelopes.Lane.{Lane}
use Rattle.pl_event.specs.Hops.{same_lane}
use Rattle.pl_event.proofs.SameLanes.{same_lane-equal, same_lane-self}
use Rattle.pl_context.specs.ContextViews.{one_of}

-- so many items of a lane were taken at a hop that has taken so many of each kind
abbrev pub node_taken : ℕ → ℕ → (Kind → ℕ) → Lane → ℕ
node_taken channel hop count l = cond ((l.channel == channel) && (l.hop == hop)) (count l.kind) 0

one-more : (k : Kind) → one_of k k ≡ 1
one-more Data = refl
one-more Flags = refl

none-more : (l e : Lane) → l.channel ≡ e.channel → l.hop ≡ e.hop → same_lane l e ≡ false → one_of l.kind e.kind ≡ 0
none-more l e c h f = by l.kind e.kind refl refl
  where
    same : l.kind ≡ e.kind → ⊥
    same k = both_ways (same_lane l e) f (ap (λ (m : Lane). same_lane l m) (λ i. record { channel = sym c i; kind = sym k i; hop = sym h i }) ∙ same_lane-self l)

    by : (j k : Kind) → l.kind ≡ j → e.kind ≡ k → one_of j k ≡ 0
    by Data Data p q = absurd (same (p ∙ sym q))
    by Data Flags p q = refl
    by Flags Data p q = refl
    by Flags Flags p q = absurd (same (p ∙ sym q))

module _ (channel hop : ℕ) (e : Lane) (on_channel : e.channel ≡ channel) (at_hop : e.hop ≡ hop) where
  here : ((e.channel == channel) && (e.hop == hop)) ≡ true
  here = and_from (e.channel == channel) (e.hop == hop) (eq-eqb e.channel channel on_channel) (eq-eqb e.hop hop at_hop)

  pub taken-kind : (count : Kind → ℕ) → node_taken channel hop count e ≡ count e.kind
  taken-kind count = cond-true ((e.channel == channel) && (e.hop == hop)) (count e.kind) 0 here

  pub taken-next : (count count' : Kind → ℕ) (n : ℕ) → n ≡ count e.kind → ((k : Kind) → count' k ≡ count k + one_of k e.kind)
      → (l : Lane) → node_taken channel hop count' l ≡ cond (same_lane l e) (n + 1) (node_taken channel hop count l)
  taken-next count count' n number counts l = ⊎_elim
      (λ (t : same_lane l e ≡ true).
      let more : count' e.kind ≡ n + 1 = counts e.kind ∙ (λ i. sym number i + one-more e.kind i) in
      ap (λ (m : Lane). node_taken channel hop count' m) (same_lane-equal l e t) ∙ taken-kind count' ∙ more ∙ sym (cond-true (same_lane l e) (n + 1) (node_taken channel hop count l) t))
      (λ (f : same_lane l e ≡ false). ⊎_elim
      (λ (t : ((l.channel == channel) && (l.hop == hop)) ≡ true).
      let p = and_parts _ _ t in
      let lc : l.channel ≡ e.channel = eqb-true _ _ p.0 ∙ sym on_channel in
      let lh : l.hop ≡ e.hop = eqb-true _ _ p.1 ∙ sym at_hop in
      let none = none-more l e lc lh f in
      let more = counts l.kind in
      let stays : count' l.kind ≡ count l.kind = omega (arith, more, none) in
      ap (λ (k : ℕ). cond ((l.channel == channel) && (l.hop == hop)) k 0) stays ∙ sym (cond-false (same_lane l e) (n + 1) (node_taken channel hop count l) f))
      (λ (o : ((l.channel == channel) && (l.hop == hop)) ≡ false).
      cond-false ((l.channel == channel) && (l.hop == hop)) (count' l.kind) 0 o
      ∙ sym (cond-false ((l.channel == channel) && (l.hop == hop)) (count l.kind) 0 o)
      ∙ sym (cond-false (same_lane l e) (n + 1) (node_taken channel hop count l) f))
      (cases_Bool ((l.channel == channel) && (l.hop == hop))))
      (cases_Bool (same_lane l e))
