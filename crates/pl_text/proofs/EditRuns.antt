-- Edits one after the other.
use Rattle.std.proofs.Common.{◌≡◌, ℕ, zero, suc, ◌+◌, ◌<◌, ◌≤◌, List, [], ◌∷◌, length, get_or, drop, Result, Ok, Err, sym, subst, ap, ◌∙◌, arith, add-one}
use Rattle.std.specs.List.{AllByRecursion}
use Rattle.std.proofs.lemmas.List.{drop_all}
use Rattle.std.proofs.Math.Seq.{drop-cons}
use Rattle.pl_event.specs.Meaning.{Meaning}
use Rattle.pl_build.specs.declared.named_stages.NamedStage.{NamedStage}
use Rattle.pl_build.specs.declared.faults.BuildFault.{BuildFault}
use Rattle.pl_text.specs.declared.session_text.outline.Edit.{Edit}
use Rattle.pl_text.specs.SessionReading.{◌>>=◌}
use Rattle.pl_text.specs.SessionBuilding.{edited, all_edited}

-- what holds of each element holds of the one at an index
pub all_at : {X : Type 0} (P : X → Type 0) (xs : List X) (i : ℕ) (x : X) → AllByRecursion P xs → i < length xs → x ≡ get_or xs i x → P x
all_at P [] i x all lt is = absurd (omega arith)
all_at {X} P (y ∷ ys) zero x all lt is = subst P (sym is) all.0
all_at P (y ∷ ys) (suc i) x all lt is = all_at P ys i x all.1 (omega arith) is

here : (edits : List Edit) (i : ℕ) (edit : Edit) (handlers : List (NamedStage Meaning)) → i < length edits → edit ≡ get_or edits i edit
    → all_edited handlers (drop i edits) ≡ (edited handlers edit >>= λ next. all_edited next (drop (i + 1) edits))
here edits i edit handlers lt is =
    let left : drop i edits ≡ edit ∷ drop (i + 1) edits = drop-cons edits i edit lt ∙ ap (λ (e : Edit). e ∷ drop (suc i) edits) (sym is) ∙ ap (λ (n : ℕ). edit ∷ drop n edits) (sym (add-one i)) in
    ap (all_edited handlers) left

-- one edit more
pub edits_more : (edits : List Edit) (i : ℕ) (edit : Edit) (handlers next : List (NamedStage Meaning)) (whole : Result (List (NamedStage Meaning)) BuildFault) → i < length edits → edit ≡ get_or edits i edit
    → all_edited handlers (drop i edits) ≡ whole → edited handlers edit ≡ Ok next → all_edited next (drop (i + 1) edits) ≡ whole
edits_more edits i edit handlers next whole lt is so_far step =
    sym (here edits i edit handlers lt is ∙ ap (λ (r : Result (List (NamedStage Meaning)) BuildFault). r >>= λ hs. all_edited hs (drop (i + 1) edits)) step) ∙ so_far

-- the first refusal is the answer
pub edits_stop : (edits : List Edit) (i : ℕ) (edit : Edit) (handlers : List (NamedStage Meaning)) (whole : Result (List (NamedStage Meaning)) BuildFault) (f : BuildFault) → i < length edits → edit ≡ get_or edits i edit
    → all_edited handlers (drop i edits) ≡ whole → edited handlers edit ≡ Err f → whole ≡ Err f
edits_stop edits i edit handlers whole f lt is so_far step =
    sym so_far ∙ here edits i edit handlers lt is ∙ ap (λ (r : Result (List (NamedStage Meaning)) BuildFault). r >>= λ hs. all_edited hs (drop (i + 1) edits)) step

pub edits_end : (edits : List Edit) (i : ℕ) (handlers : List (NamedStage Meaning)) (whole : Result (List (NamedStage Meaning)) BuildFault) → length edits ≤ i
    → all_edited handlers (drop i edits) ≡ whole → whole ≡ Ok handlers
edits_end edits i handlers whole past so_far = sym so_far ∙ ap (all_edited handlers) (drop_all i edits past)
