use Rattle.std.proofs.Common.{◌≡◌, ◌+◌, ℕ, true, Some, length, ltb, refl, ap, ◌∙◌, rules}
use Rattle.std.specs.Prelude.{nat_eq}
use Rattle.std.specs.List.{position, slice_get}
use Rattle.std.specs.Option.{option_map_or}
use Rattle.std.proofs.lemmas.Option.{get_or_from_slice_get, slice_get_read}
use Rattle.pl_context.proofs.Firsts.{position-first}
use Rattle.pl_context.proofs.FrontLemmas.{fronts-renew, ages-renew}
use Rattle.pl_context.proofs.fronts.Fronts.renew.Goals as goal

found : (c : goal.After-self-1) → position (λ (front : ℕ × ℕ). nat_eq c.args.target front.0) c.self.inside.ages.items ≡ Some c.in-Some-index_of.index
found c = search rules

here : (c : goal.After-self-1) → slice_get c.self.inside.ages.items c.in-Some-index_of.index ≡ Some c.index.result.now
here c =
    let fronts = c.self.inside.ages.items in
    let first = position-first (λ (front : ℕ × ℕ). nat_eq c.args.target front.0) fronts c.in-Some-index_of.index (found c) in
    slice_get_read fronts (length fronts) c.in-Some-index_of.index c.index.result.now refl first.within c.index.ensures

next : (c : goal.After-self-1) → option_map_or (λ (front : ℕ × ℕ). ltb c.in-Some.age front.1) (slice_get c.self.inside.ages.items (c.in-Some-index_of.index + 1)) true ≡ true
next c = search rules

same : (c : goal.After-self-1) → c.index_mut.result.now.0 ≡ c.index.result.now.0
same c =
    ap (λ (front : ℕ × ℕ). front.0) (c.index_mut.ensures.value ∙ get_or_from_slice_get c.self.inside.ages.items c.in-Some-index_of.index c.index.result.now c.index_mut.result.now (here c))

pub invariant_of-self : goal.invariant_of-self
invariant_of-self c =
    rw (same c)
    (fronts-renew c.self.inside.ages.items _ c.args.target c.self.invariant c.in-Some-index_of.index (found c) c.index.result.now (here c) c.in-Some.age c.if-age-index.false (next c))

pub returns-clause-ages : goal.returns-clause-ages
returns-clause-ages c = λ renewed y.
    rw (same c)
    (rw c.in-Some.is
    (rw (← c.self.view_is)
    (ages-renew c.self.inside.ages.items _ c.args.target c.self.invariant c.in-Some-index_of.index (found c) c.index.result.now (here c) c.in-Some.age c.if-age-index.false (next c) y)))
