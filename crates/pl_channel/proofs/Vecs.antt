-- A `Vec` in which what stood at a place was put there again.
use Rattle.std.proofs.Common.{◌≡◌, ℕ, length, set, get_or, ap, ◌∙◌}
use Rattle.std.proofs.lemmas.List.{set-get_or}
use Rattle.std.specs.Global.{Vec}
use Rattle.std.specs.Vec.{with_item}
use Rattle.std.proofs.Math.Nat.{ℕ_set}
use mathlib.Core.HLevel.{is_prop→PathP}

unmoved : {X : Type 0} (v : Vec X) (i : ℕ) (x : X) → set v.items i x ≡ v.items → with_item v i x ≡ v
unmoved v i x e = λ j. record {
  ptr = v.ptr;
  len = v.len;
  cap = v.cap;
  alloc = v.alloc;
  items = e j;
  ok = (is_prop→PathP (λ k. v.len ≡ length (e k)) (λ k. ℕ_set v.len (length (e k))) (with_item v i x).ok.0 v.ok.0 j, v.ok.1);
  small = v.small;
}

-- v[i] is x, and is written with what is x
pub put-back : {X : Type 0} (v : Vec X) (i : ℕ) (x y : X) → x ≡ get_or v.items i x → y ≡ x → with_item v i y ≡ v
put-back v i x y at same = unmoved v i y (ap (λ z. set v.items i z) (same ∙ at) ∙ set-get_or v.items i x)
