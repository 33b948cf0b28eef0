use Rattle.std.proofs.Common.{◌≡◌, ℕ, true, false, List, ltb, is_ok, subst, sym, ◌∙◌, rules, arith}
use Rattle.std.specs.List.{insert}
use Rattle.std.specs.List.Sorted.{IsNonDecreasingBy, IsPartitionPoint}
use Rattle.std.proofs.lemmas.Bool.{cond-true}
use Rattle.std.proofs.lemmas.List.Sorted.{IsPartitionPoint-from_clause, IsPartitionedBy-ltb}
use Rattle.pl_context.proofs.FrontLemmas.{fronts-room, fronts-insert, ages-insert}
use Rattle.pl_context.proofs.fronts.Fronts.insert.Goals as goal

inserted : (c : goal.After-insert) → c.insert.new.self.items ≡ insert c.self.inside.ages.items c.partition_point-index.result (c.args.target, c.args.age)
inserted c =
    let room = fronts-room c.self.inside.ages.items _ c.args.target c.self.invariant (search rules) (search rules) in
    c.insert.ensures.items ∙ cond-true (is_ok c.insert.result) _ _ (c.insert.ensures.succeeds (omega (arith, room, c.self.inside.ages.ok.0)))

pub invariant_of-self : goal.invariant_of-self
invariant_of-self c =
    let fronts = c.as_slice.result.now in
    let same = c.as_slice.ensures.value in
    let older = λ (f : ℕ × ℕ). ltb f.1 c.args.age in
    let parted = IsPartitionedBy-ltb (λ (f : ℕ × ℕ). f.1) fronts c.args.age (subst (λ (l : List (ℕ × ℕ)). IsNonDecreasingBy (λ f. f.1) l) (sym same) c.self.invariant.order) in
    let point = IsPartitionPoint-from_clause older fronts _ c.partition_point-index.ensures.partitioned parted (λ a r q k. search rules) in
    rw (inserted c)
    (fronts-insert c.self.inside.ages.items _ c.args.target c.self.invariant (search rules) (search rules) c.args.age c.partition_point-index.result _ (search rules)
    (subst (λ (l : List (ℕ × ℕ)). IsPartitionPoint (λ f. older f ≡ true) (λ f. older f ≡ false) l c.partition_point-index.result) same point) c.insert.ensures.capacity)

pub returns-clause-ages : goal.returns-clause-ages
returns-clause-ages c = λ y.
    rw (inserted c)
    (rw (← c.self.view_is) (ages-insert c.self.inside.ages.items _ c.args.target c.self.invariant (search rules) (search rules) c.args.age c.partition_point-index.result y))
