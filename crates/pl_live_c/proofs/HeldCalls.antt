-- What a call makes of the channel that is held.
use Rattle.std.proofs.Common.{◌≡◌, ◌∙◌, sym, ap, subst, Option, None, Some}

held_or : {C : Type 0} → C → Option C → C
held_or c None = c
held_or c (Some d) = d

-- what is held is one channel
pub the_same : {C : Type 0} {held : Option C} {c d : C} → held ≡ Some c → held ≡ Some d → c ≡ d
unfolding held_or
the_same {c = c} e f = ap (held_or c) (sym e ∙ f)

-- A call is given the channel that is taken out, and leaves one that is held then. What it makes of the one holds of the two.
pub carried : {C : Type 0} (P Q : C → Type 0) {before after : Option C} {c d given taken left : C} → before ≡ Some c → after ≡ Some d
    → before ≡ Some taken → given ≡ taken → after ≡ Some left → (P given → Q left) → P c → Q d
carried P Q is_c is_d is_taken is_given is_left makes p = subst Q (the_same is_left is_d) (makes (subst P (the_same is_c is_taken ∙ sym is_given) p))

-- What a call tells of the channel that it is given holds of the one that is held.
pub told : {C : Type 0} (P : C → Type 0) {held : Option C} {c given taken : C} → held ≡ Some c → held ≡ Some taken → given ≡ taken → P given → P c
told P is_c is_taken is_given = subst P (is_given ∙ the_same is_taken is_c)
