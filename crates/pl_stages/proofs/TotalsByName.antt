-- A map whose keys are names, read by their bytes: what a change at one name leaves at any.
use Rattle.std.proofs.Common.{◌≡◌, ℕ, List, Bool, true, false, cond, Option, sym, ap, subst, ◌∙◌, ⊎_elim}
use Rattle.std.proofs.lemmas.Bool.{cases_Bool, cond-true, cond-false}
use Rattle.std.proofs.lemmas.Slice.Eq.{bytes_eq-Decides}
use Rattle.std.specs.Cmp.Lexicographic.{nat_list_eq_equiv}
use Rattle.std.specs.HashMap.{HashMap, UpdatesBy, get_by}
use Rattle.std.specs.Map.{KeepsOthers, IsKeyTest, AreApart, lookup}
use Rattle.std.specs.Str.{bytes_eq}
use Rattle.std.specs.declared.vec.Vec.{Vec}

keeps_apart : {K X : Type 0} (eq : K → K → Bool) (test : K → Bool) (old new : List (K × X)) → KeepsOthers eq test old new
    → (other : K → Bool) → IsKeyTest eq other → AreApart test other → lookup other new ≡ lookup other old
unfolding KeepsOthers
keeps_apart eq test old new h = h

apart : (name other key : List ℕ) → bytes_eq name other ≡ false → bytes_eq name key ≡ true → bytes_eq other key ≡ false
apart name other key differ same =
    nat_list_eq_equiv.symm other key ∙ sym (nat_list_eq_equiv.congr name key other same) ∙ differ

module _ {X A S : Type 0} (name : List ℕ) (old new : HashMap (Vec ℕ A) X S) (w : Option X) where
  updated : UpdatesBy (λ a b. bytes_eq a.items b.items) (λ k. bytes_eq name k.items) old new w
      → (other : List ℕ) → get_by (λ k. bytes_eq other k.items) new ≡ cond (bytes_eq name other) w (get_by (λ k. bytes_eq other k.items) old)
  updated h other =
      ⊎_elim
      (λ same. subst (λ (l : List ℕ). get_by (λ k. bytes_eq l k.items) new ≡ w) ((bytes_eq-Decides name other).0 same) h.1
      ∙ sym (cond-true (bytes_eq name other) w (get_by (λ k. bytes_eq other k.items) old) same))
      (λ differ. keeps_apart _ _ _ _ h.3 _ (λ x y. nat_list_eq_equiv.congr other x.items y.items) (λ k. apart name other k.items differ)
      ∙ sym (cond-false (bytes_eq name other) w (get_by (λ k. bytes_eq other k.items) old) differ))
      (cases_Bool (bytes_eq name other))

module _ {X A S : Type 0} (name stored : List ℕ) (old new : HashMap (Vec ℕ A) X S) (w : Option X) where
  pub get_by-updates : stored ≡ name → UpdatesBy (λ a b. bytes_eq a.items b.items) (λ k. bytes_eq stored k.items) old new w
      → (other : List ℕ) → get_by (λ k. bytes_eq other k.items) new ≡ cond (bytes_eq name other) w (get_by (λ k. bytes_eq other k.items) old)
  get_by-updates e h other =
      updated stored old new w h other
      ∙ ap (λ (l : List ℕ). cond (bytes_eq l other) w (get_by (λ k. bytes_eq other k.items) old)) e
