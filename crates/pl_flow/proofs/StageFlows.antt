-- What a stage makes of the next event of its lane is next on its own lanes.
use Rattle.std.proofs.Common.{◌≡◌, ℕ, ◌+◌, ◌<◌, true, false, List, [], ◌∷◌, ◌++◌, length, Some, slice_get, refl, ap, sym, ◌∙◌, subst, arith, append_assoc, length-append}
use Rattle.pl_event.specs.declared.events.Event.{Event}
use Rattle.pl_event.specs.declared.envelopes.Kind.TheVariants.{Data}
use Rattle.pl_event.specs.declared.envelopes.Item.TheVariants as item
use Rattle.pl_event.specs.declared.envelopes.Lane.{Lane}
use Rattle.pl_event.specs.Meaning.{Meaning, made_after, made_after-append, made-push, up_of, down_of}
use Rattle.pl_context.specs.Ports.{as_items}
use Rattle.pl_event.specs.Worlds.{World, FitsAsKind, FitsWorld, content_of}
use Rattle.pl_flow.specs.Flows.{IsGood}
use Rattle.pl_flow.specs.Makes.{AreGood}
use Rattle.pl_event.specs.declared.limits.TheConstants.{MAX_ITEMS}

at-end : (a : List Event) (x : Event) (rest : List Event) → slice_get (a ++ x ∷ rest) (length a) ≡ Some x
at-end [] x rest = refl
at-end (y ∷ a) x rest = at-end a x rest

module _ (world : World) (lane : Lane) (content : List Event) (kind : lane.kind ≡ Data) (is : content_of world lane ≡ Some content) (few : length content + 1 < MAX_ITEMS) where
  event-good : (a : List Event) (x : Event) (rest : List Event) (n : ℕ) → a ++ x ∷ rest ≡ content → n ≡ length a → IsGood world (record { lane = lane; number = n; item = item.Event x })
  unfolding FitsWorld
  event-good a x rest n whole count = record {
    fits = subst (λ k. FitsAsKind world k (record { lane = lane; number = n; item = item.Event x })) (sym kind)
        (content, is, ap (λ k. slice_get content k) count ∙ sym (ap (λ zs. slice_get zs (length a)) whole) ∙ at-end a x rest, tt);
    small = let l = ap length (sym whole) ∙ length-append a (x ∷ rest) in omega (arith, few, count, l);
  }

  -- events of the content, from those before on
  pub events-good : (a xs rest : List Event) (n : ℕ) → a ++ (xs ++ rest) ≡ content → n ≡ length a → AreGood world lane n (as_items xs)
  events-good a [] rest n whole count = tt
  events-good a (x ∷ xs) rest n whole count = (
    event-good a x (xs ++ rest) n whole count,
    (λ e. absurd (true-false e)),
    events-good (a ++ x ∷ []) xs rest (n + 1) (append_assoc a (x ∷ []) (xs ++ rest) ∙ whole) (let l = length-append a (x ∷ []) in omega (arith, count, l)),
  )
    where
      true-false : true ≡ false → ⊥
      true-false e = cc

-- what is made of the events up to the next begins what is made of all
pub made-within : (f : List Event → Event → List Event) (events before after : List Event) (x : Event) → before ++ x ∷ after ≡ events
    → (rest : List Event) × (made_after f [] before ++ (f before x ++ rest) ≡ made_after f [] events)
made-within f events before after x whole =
    let m = made_after-append f [] (before ++ x ∷ []) after in
    let w : (before ++ x ∷ []) ++ after ≡ events = append_assoc before (x ∷ []) after ∙ whole in (
      made_after f (before ++ x ∷ []) after,
      sym (append_assoc (made_after f [] before) (f before x) (made_after f (before ++ x ∷ []) after))
          ∙ ap (λ zs. zs ++ made_after f (before ++ x ∷ []) after) (sym (made-push f before x)) ∙ sym m ∙ ap (λ zs. made_after f [] zs) w,
    )

-- What is made upwards of event n of a lane is next upwards, where as much was made of those before it.
pub ups-good : (world : World) (m : Meaning) (lane : Lane) (events before after : List Event) (x : Event) (made : ℕ) → lane.kind ≡ Data → content_of world lane ≡ Some (up_of m events) → length (up_of m events) + 1 < MAX_ITEMS
    → before ++ x ∷ after ≡ events → made ≡ length (up_of m before) → AreGood world lane made (as_items (m.up before x))
ups-good world m lane events before after x made kind is few whole count =
    let w = made-within m.up events before after x whole in
    events-good world lane (up_of m events) kind is few (up_of m before) (m.up before x) w.0 made w.1 count

pub downs-good : (world : World) (m : Meaning) (lane : Lane) (events before after : List Event) (x : Event) (made : ℕ) → lane.kind ≡ Data → content_of world lane ≡ Some (down_of m events) → length (down_of m events) + 1 < MAX_ITEMS
    → before ++ x ∷ after ≡ events → made ≡ length (down_of m before) → AreGood world lane made (as_items (m.down before x))
downs-good world m lane events before after x made kind is few whole count =
    let w = made-within m.down events before after x whole in
    events-good world lane (down_of m events) kind is few (down_of m before) (m.down before x) w.0 made w.1 count
