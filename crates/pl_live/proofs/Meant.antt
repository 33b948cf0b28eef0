-- A part whose contexts mean what a plan says of their hops goes on so, whatever item it takes.
use Rattle.std.proofs.Common.{◌≡◌, ◌≢◌, ℕ, zero, suc, ◌<◌, ◌==◌, Bool, true, false, List, [], ◌∷◌, ◌++◌, length, map, get_or, Option, Some, None, refl, sym, ap, ◌∙◌, inl, inr, arith}
use Rattle.std.specs.Prelude.{is_some}
use Rattle.std.proofs.lemmas.Bool.{eq-eqb, ne_eqb}
use Rattle.std.proofs.lemmas.Bool.Decides.{eqb_tells}
use Rattle.std.proofs.lemmas.Option.{none-some, same_Some}
use Rattle.pl_event.specs.declared.events.Event.{Event}
use Rattle.pl_event.specs.declared.envelopes.Envelope.{Envelope}
use Rattle.pl_event.specs.Meaning.{Meaning}
use Rattle.pl_event.proofs.Lists.{some-of}
use Rattle.pl_context.specs.declared.standing.Took.{Took}
use Rattle.pl_context.specs.ContextViews.{ContextView}
use Rattle.pl_context.specs.OutputsViews.{OutputsView}
use Rattle.pl_head.specs.Transports.{TransportState}
use Rattle.pl_part.specs.Paths.{context_at}
use Rattle.pl_part.specs.Parts.{ChannelPartView, SamePart, PartTakes, head_hop}
use Rattle.pl_world.specs.Plans.{ChannelPlan, tail_hop}
use Rattle.pl_channel.specs.Feeding.{MeansPlan, meant_at}

-- ---- lists of slots

-- past the end there is none
some-within : {A : Type 0} (xs : List (Option A)) (i : ℕ) (x : A) → get_or xs i None ≡ Some x → i < length xs
some-within [] i x at = absurd (none-some x at)
some-within (y ∷ xs) zero x at = omega arith
some-within (y ∷ xs) (suc i) x at = let rest = some-within xs i x at in omega (arith, rest)

-- where one list has a node so has another with nodes at the same places
filled-too : {A : Type 0} (xs ys : List (Option A)) (i : ℕ) (x : A) → map (λ (s : Option A). is_some s) xs ≡ map (λ (s : Option A). is_some s) ys → get_or xs i None ≡ Some x → (y : A) × (get_or ys i None ≡ Some y)
filled-too xs ys i x same at = some-of (get_or ys i None) (at-place ys i ∙ sym (ap (λ (bs : List Bool). get_or bs i false) same) ∙ sym (at-place xs i) ∙ ap (λ (s : Option _). is_some s) at)
  where
    at-place : {A : Type 0} (zs : List (Option A)) (j : ℕ) → is_some (get_or zs j None) ≡ get_or (map (λ (s : Option A). is_some s) zs) j false
    at-place [] j = refl
    at-place (z ∷ zs) zero = refl
    at-place (z ∷ zs) (suc j) = at-place zs j

-- no handler is planned at the tail's hop
none-between : {A : Type 0} (xs ys : List A) → get_or (map (λ (y : A). Some y) xs ++ None ∷ map (λ (y : A). Some y) ys) (length xs) None ≡ None
none-between [] ys = refl
none-between (x ∷ xs) ys = none-between xs ys

-- ---- a part

module _ {S T : Type 0} (meaning : S → Meaning) (p : ChannelPlan) (part part' : ChannelPartView S T) where
  -- the contexts are those that they were
  pub path-means : part'.path ≡ part.path → MeansPlan meaning p part → MeansPlan meaning p part'
  path-means same means hop c there = means hop c (sym (ap (λ (path : _). context_at path hop) same) ∙ there)

  module _ (stands_after : S → List Event → Type 0) (is_spent : S → Bool) (state : T → TransportState) (e : Envelope) (before after : OutputsView) (answer : Took) (same : SamePart part part') (has : is_some part.head ≡ true)
      (t : PartTakes meaning stands_after is_spent state part e before answer part' after) (tail_at : part.path.tail_hop ≡ tail_hop p) (means : MeansPlan meaning p part) where
    pub takes-means : MeansPlan meaning p part'
    takes-means hop c' there =
        let was = filled-too part'.path.contexts part.path.contexts hop c' same.path.contexts there in
        let c = was.0 in
        let planned = means hop c was.1 in
        elim (eqb_tells e.lane.hop (head_hop part)) [
          | inl at ↦ path-means (t.head (some-of part.head has).0 (eq-eqb e.lane.hop (head_hop part) at.1) (some-of part.head has).1).3 means hop c' there
          | inr off ↦
              let path = (t.path (ne e.lane.hop (head_hop part) off.1)).0 in
              elim (eqb_tells hop e.lane.hop) [
                | inl own ↦ elim (eqb_tells e.lane.hop part.path.tail_hop) [
                  | inl tail ↦
                      let place : hop ≡ tail_hop p = own.1 ∙ tail.1 ∙ tail_at in
                      absurd (none-some (meaning c.stage) (sym (none-between p.inbound p.outbound) ∙ ap (λ (n : ℕ). meant_at p n) (sym place) ∙ planned))
                  | inr context ↦
                      let took = path.context c (ne e.lane.hop part.path.tail_hop context.1) (ap (λ (n : ℕ). context_at part.path n) (sym own.1) ∙ was.1) in
                      let new : took.0 ≡ c' = same_Some took.0 c' (sym took.1 ∙ ap (λ (n : ℕ). context_at part'.path n) (sym own.1) ∙ there) in
                      planned ∙ ap Some (sym took.2.meant ∙ ap (λ (d : ContextView S). meaning d.stage) new)
                ]
                | inr other ↦ means hop c' (sym (path.others hop (ne hop e.lane.hop other.1)) ∙ there)
              ]
        ]
      where
        ne : (a b : ℕ) → a ≢ b → (a == b) ≡ false
        ne a b off = ne_eqb a b off
