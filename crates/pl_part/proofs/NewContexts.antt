-- Contexts that have taken nothing, hop by hop.
use Rattle.std.proofs.Common.{◌≡◌, ℕ, zero, suc, ◌⊎◌, inl, inr, List, [], ◌∷◌, ◌++◌, ◌+◌, length, get_or, replicate, Option, Some, None, refl, ap, sym, ◌∙◌, subst, arith}
use Rattle.std.proofs.lemmas.Option.{same_Some}
use Rattle.pl_event.specs.declared.events.Event.{Event}
use Rattle.pl_event.specs.declared.envelopes.Kind.{Kind}
use Rattle.pl_event.specs.declared.envelopes.Kind.TheVariants.{Data, Flags}
use Rattle.pl_event.specs.Meaning.{Meaning, IsLawful}
use Rattle.pl_event.specs.Worlds.{World}
use Rattle.pl_context.specs.ContextViews.{ContextView, kind_taken, new_context}
use Rattle.pl_context.specs.Contexts.{StandsAfter}
use Rattle.pl_part.specs.NewParts.{IsPlannedAt, IsNewAt, AreNewSlots, new_slots}
use Rattle.pl_part.proofs.ContextStarts.{new-holds, new-starts}

-- what is at an index behind which one more stands
get_or-push : {A : Type 0} (xs : List (Option A)) (last : Option A) (i : ℕ) (x : A) → get_or (xs ++ last ∷ []) i None ≡ Some x → (get_or xs i None ≡ Some x) ⊎ ((i ≡ length xs) × (last ≡ Some x))
get_or-push [] last zero x e = inr (refl, e)
get_or-push [] last (suc i) x e = inl e
get_or-push (y ∷ ys) last zero x e = inl e
get_or-push (y ∷ ys) last (suc i) x e = by (get_or-push ys last i x e)
  where
    by : (get_or ys i None ≡ Some x) ⊎ ((i ≡ length ys) × (last ≡ Some x)) → (get_or ys i None ≡ Some x) ⊎ ((suc i ≡ length (y ∷ ys)) × (last ≡ Some x))
    by (inl here) = inl here
    by (inr t) = inr (ap suc t.0, t.1)

pub replicate-push : {A B : Type 0} (xs : List A) (x : A) (b : B) → replicate (length (xs ++ x ∷ [])) b ≡ replicate (length xs) b ++ b ∷ []
replicate-push [] x b = refl
replicate-push (y ∷ ys) x b = ap (λ bs. b ∷ bs) (replicate-push ys x b)

-- the slots of one stage more
pub new_slots-push : {S : Type 0} (meaning : S → Meaning) (channel k hop : ℕ) (stages : List S) (stage : S)
    → new_slots meaning channel k hop (stages ++ stage ∷ []) ≡ new_slots meaning channel k hop stages ++ Some (new_context (meaning stage).direction channel (hop + length stages) k stage) ∷ []
new_slots-push meaning channel k hop [] stage = ap (λ (h : ℕ). Some (new_context (meaning stage).direction channel h k stage) ∷ []) (omega arith)
new_slots-push meaning channel k hop (first ∷ stages) stage =
    ap (λ (l : List (Option (ContextView _))). Some (new_context (meaning first).direction channel hop k first) ∷ l)
    (new_slots-push meaning channel k (hop + 1) stages stage
    ∙ ap (λ (h : ℕ). new_slots meaning channel k (hop + 1) stages ++ Some (new_context (meaning stage).direction channel h k stage) ∷ []) (omega arith))

module _ {S : Type 0} (world : World) (meaning : S → Meaning) (channel k turn : ℕ) (stands_after : S → List Event → Type 0) where
  pub new-at : (lawful : (s : S) → IsLawful (meaning s)) (hop : ℕ) (stage : S) (c : ContextView S) → IsPlannedAt world meaning channel k turn hop stage → c ≡ new_context (meaning stage).direction channel hop k stage
      → StandsAfter meaning stands_after c [] → IsNewAt world meaning channel k turn stands_after hop c
  new-at lawful hop stage c planned same stood = subst (λ (y : ContextView S). IsNewAt world meaning channel k turn stands_after hop y) (sym same) (record {
    holds = record {
      events = planned.events;
      holds = new-holds world meaning stands_after lawful channel hop k stage planned.at planned.events planned.plan (subst (λ (y : ContextView S). StandsAfter meaning stands_after y []) same stood);
    };
    at = record { channel_is = refl; hop_is = refl; fits = planned.at; turned = planned.turned; lanes = refl };
    none_taken = λ kind. none kind;
    starts = new-starts world meaning stands_after lawful channel hop k stage planned.at planned.events planned.plan;
  })
    where
      none : (kind : Kind) → kind_taken (new_context (meaning stage).direction channel hop k stage) kind ≡ 0
      none Data = refl
      none Flags = refl

  -- one more behind them
  pub new-push : (slots : List (Option (ContextView S))) (c : ContextView S) → AreNewSlots world meaning channel k turn stands_after slots → IsNewAt world meaning channel k turn stands_after (length slots) c
      → AreNewSlots world meaning channel k turn stands_after (slots ++ Some c ∷ [])
  new-push slots c are is hop x found = by (get_or-push slots (Some c) hop x found)
    where
      by : (get_or slots hop None ≡ Some x) ⊎ ((hop ≡ length slots) × (Some c ≡ Some x)) → IsNewAt world meaning channel k turn stands_after hop x
      by (inl here) = are hop x here
      by (inr t) =
          let same : c ≡ x = same_Some c x t.1 in
          subst (λ (y : ℕ × ContextView S). IsNewAt world meaning channel k turn stands_after y.0 y.1) (λ i. (sym t.0 i, same i)) is

  pub none-push : (slots : List (Option (ContextView S))) → AreNewSlots world meaning channel k turn stands_after slots → AreNewSlots world meaning channel k turn stands_after (slots ++ None ∷ [])
  none-push slots are hop x found = by (get_or-push slots None hop x found)
    where
      no : None ≡ Some x → ⊥
      no e = cc

      by : (get_or slots hop None ≡ Some x) ⊎ ((hop ≡ length slots) × (None ≡ Some x)) → IsNewAt world meaning channel k turn stands_after hop x
      by (inl here) = are hop x here
      by (inr t) = absurd (no t.1)

  -- none is there at first
  pub none-new : (slots : List (Option (ContextView S))) → slots ≡ [] → AreNewSlots world meaning channel k turn stands_after slots
  none-new slots empty hop x found = absurd (no (sym (ap (λ (l : List (Option (ContextView S))). get_or l hop None) empty) ∙ found))
    where
      no : None ≡ Some x → ⊥
      no e = cc
