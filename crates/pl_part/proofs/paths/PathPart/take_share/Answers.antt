use Rattle.std.proofs.Common.{◌≡◌, refl, ap, sym, subst, not, ◌∙◌, ◌<◌, ℕ, List, Option, Vec, length, arith}
use Rattle.std.specs.Prelude.{◌==◌}
use Rattle.std.proofs.lemmas.List.{with_items_is}
use Rattle.pl_context.specs.ContextViews.{ContextView}
use Rattle.pl_part.specs.Shares.{IsPathShare}
use Rattle.pl_part.specs.Paths.{PathPartView, IsPathPart}
use Rattle.std.proofs.lemmas.Result.{err_from_is_err_and}
use Rattle.std.specs.Vec.{with_items}
use Rattle.pl_part.proofs.ShareLemmas.{share-of}
use Rattle.pl_part.proofs.paths.PathPart.take_share.Goals as goal

pub returns-clause-share : goal.returns-clause-share
returns-clause-share g c =
    share-of (λ e. e == c.args.executor) _ _ c.self.view_is c.in_ok-executors.executors.items c.deref-2.result.now c.in_ok-contexts.contexts.items c.deref_mut.result.now c.take_where.result c.target.result
    (c.in_ok-executors.ensures.items_if_clones_equal (λ x y e. e) ∙ c.deref.ensures.value) c.deref-2.ensures.value c.deref_mut.ensures.value c.target.ensures
    c.in_ok-contexts.ensures.slots c.in_ok-contexts.ensures.taken c.take_where.ensures.taken

pub returns-clause-rest : goal.returns-clause-rest
returns-clause-rest g c =
    let slots : List (Option (ContextView g.row.S.Denot)) = c.take_contexts.new.contexts in
    let size : length slots ≡ c.self.inside.contexts.len = c.take_contexts.auto.contexts ∙ ap (λ (l : List (Option (ContextView g.row.S.Denot))). length l) c.deref_mut.ensures.value ∙ sym c.self.inside.contexts.ok.0 in
    subst (λ (l : List (Option (ContextView g.row.S.Denot))). IsPathShare (λ e. not (e == c.args.executor)) c.args.self.now (record {
      channel = c.self.inside.channel;
      executors = c.self.inside.executors.items;
      contexts = l;
      tail = c.take_where.new.slot;
      tail_hop = c.self.inside.tail_hop;
      turn = c.self.inside.turn;
    })) (sym (with_items_is c.self.inside.contexts slots size))
    (share-of (λ e. not (e == c.args.executor)) _ _ c.self.view_is c.self.inside.executors.items c.deref-2.result.now slots c.deref_mut.result.now c.take_where.new.slot c.target.result
    refl c.deref-2.ensures.value c.deref_mut.ensures.value c.target.ensures
    c.take_contexts.auto.contexts c.in_ok-contexts.ensures.left c.take_where.ensures.left)

pub returns-in_err-contexts-clause-kept : goal.returns-in_err-contexts-clause-kept
returns-in_err-contexts-clause-kept g c =
    let none = err_from_is_err_and c.from_residual-in_err-contexts.result c.from_residual-in_err-contexts.ensures.1 in
    let inside = c.self.inside in
    let slots : List (Option (ContextView g.row.S.Denot)) = c.take_contexts.new.contexts in
    let kept : slots ≡ inside.contexts.items = c.in_err-contexts.ensures.kept ∙ c.deref_mut.ensures.value in
    let size : length slots ≡ inside.contexts.len = ap (λ (l : List (Option (ContextView g.row.S.Denot))). length l) kept ∙ sym inside.contexts.ok.0 in
    let same = with_items_is inside.contexts slots size ∙ kept in
    rw none.1
    ((λ i. record { channel = inside.channel; executors = inside.executors.items; contexts = same i; tail = inside.tail; tail_hop = inside.tail_hop; turn = inside.turn }) ∙ c.self.view_is)

pub target-requires : goal.target-requires
target-requires g c =
    subst (λ (y : PathPartView _). c.self.inside.tail_hop < length y.executors) c.self.view_is (omega (arith, c.self.invariant.hops_are, c.self.invariant.within))

pub same-self : goal.same-self
same-self g c = refl

pub take_contexts-requires : goal.take_contexts-requires
take_contexts-requires g c =
    let contexts = ap (λ (l : List (Option (ContextView g.row.S.Denot))). length l) c.deref_mut.ensures.value in
    let executors = ap (λ (l : List ℕ). length l) c.deref-2.ensures.value in
    omega (arith, contexts, executors, c.self.invariant.hops_are)

pub returns-in_err-executors-clause-share : goal.returns-in_err-executors-clause-share
returns-in_err-executors-clause-share g c = let none = err_from_is_err_and c.from_residual.result c.from_residual.ensures.1 in rw none.1 tt

pub returns-in_err-executors-clause-rest : goal.returns-in_err-executors-clause-rest
returns-in_err-executors-clause-rest g c = let none = err_from_is_err_and c.from_residual.result c.from_residual.ensures.1 in rw none.1 tt

pub returns-in_err-contexts-clause-share : goal.returns-in_err-contexts-clause-share
returns-in_err-contexts-clause-share g c = let none = err_from_is_err_and c.from_residual-in_err-contexts.result c.from_residual-in_err-contexts.ensures.1 in rw none.1 tt

pub returns-in_err-contexts-clause-rest : goal.returns-in_err-contexts-clause-rest
returns-in_err-contexts-clause-rest g c = let none = err_from_is_err_and c.from_residual-in_err-contexts.result c.from_residual-in_err-contexts.ensures.1 in rw none.1 tt

still-part : {X Z : Type 0} (v : Vec X Z) (ws : List X) (hops tail_hop turn : ℕ) → length ws ≡ v.len → IsPathPart hops (length v.items) tail_hop turn → IsPathPart hops (length (with_items v ws).items) tail_hop turn
still-part v ws hops tail_hop turn size part = subst (λ (n : ℕ). IsPathPart hops n tail_hop turn) (sym (ap length (with_items_is v ws size) ∙ size ∙ v.ok.0)) part

pub invariant_of-self : goal.invariant_of-self
invariant_of-self g c =
    let size = c.take_contexts.auto.contexts ∙ ap (λ (l : List (Option (ContextView g.row.S.Denot))). length l) c.deref_mut.ensures.value ∙ sym c.self.inside.contexts.ok.0 in
    still-part c.self.inside.contexts c.take_contexts.new.contexts _ _ _ size c.self.invariant

pub invariant_of-self-2 : goal.invariant_of-self-2
invariant_of-self-2 g c =
    let size = c.take_contexts.auto.contexts ∙ ap (λ (l : List (Option (ContextView g.row.S.Denot))). length l) c.deref_mut.ensures.value ∙ sym c.self.inside.contexts.ok.0 in
    still-part c.self.inside.contexts c.take_contexts.new.contexts _ _ _ size c.self.invariant

pub invariant_of-result : goal.invariant_of-result
invariant_of-result g c =
    let hops = ap (λ (l : List ℕ). length l) (c.in_ok-executors.ensures.items_if_clones_equal (λ x y e. e) ∙ c.deref.ensures.value) in
    let slots = c.in_ok-contexts.ensures.slots ∙ ap (λ (l : List (Option (ContextView g.row.S.Denot))). length l) c.deref_mut.ensures.value in
    subst (λ (y : ℕ × ℕ). IsPathPart y.0 y.1 c.self.inside.tail_hop c.self.inside.turn) (λ i. (sym hops i, sym slots i)) c.self.invariant
