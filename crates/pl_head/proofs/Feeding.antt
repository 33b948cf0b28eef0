-- Elements of a burst given to a lane one after another, each as its event.
use Rattle.std.proofs.Common.{◌≡◌, ℕ, ◌+◌, Bool, true, if◌then◌else◌, List, [], ◌∷◌, ◌++◌, length, map, sym, ap, subst, ◌∙◌, refl, arith, add-zero, append_assoc, append-nil, length-append}
use Rattle.std.specs.Prelude.{◌&&◌}
use Rattle.std.proofs.lemmas.List.{length-map}
use Rattle.pl_event.specs.declared.events.Event.{Event}
use Rattle.pl_event.specs.declared.events.Event.TheVariants as event
use Rattle.pl_event.specs.declared.elements.Element.{Element}
use Rattle.pl_event.specs.declared.envelopes.Item.{Item}
use Rattle.pl_event.specs.declared.envelopes.Item.TheVariants as item
use Rattle.pl_event.specs.declared.envelopes.Lane.{Lane}
use Rattle.pl_event.specs.declared.envelopes.Envelope.{Envelope}
use Rattle.pl_event.specs.Inputs.{element_event, burst_events}
use Rattle.pl_context.specs.declared.ports.Port.{Port}
use Rattle.pl_context.specs.Stops.{HasPlaces}
use Rattle.pl_context.specs.OutputsViews.{OutputsView, PutsAll}
use Rattle.pl_context.specs.Ports.{as_items, numbered, offered, port_after}
use Rattle.pl_context.proofs.PortLemmas.{as_items-append, numbered-append, puts_all-append}

-- the event of each element, as items
abbrev pub items_of : List Element → List Item
items_of elements = as_items (map element_event elements)

length-items_of : (elements : List Element) → length (items_of elements) ≡ length elements
length-items_of elements = length-map (map element_event elements) (λ (x : Event). item.Event x) ∙ length-map elements element_event

items_of-append : (a b : List Element) → items_of (a ++ b) ≡ items_of a ++ items_of b
items_of-append [] b = refl
items_of-append (x ∷ a) b = ap (λ (t : List Item). item.Event (element_event x) ∷ t) (items_of-append a b)

-- items behind others
put_behind : (lane : Lane) (n m : ℕ) (a b : List Item) (before now after : OutputsView) → m ≡ n + length a → PutsAll before (numbered lane n a) now → PutsAll now (numbered lane m b) after
    → PutsAll before (numbered lane n (a ++ b)) after
put_behind lane n m a b before now after is h k =
    subst (λ (es : List Envelope). PutsAll before es after)
    (ap (λ (j : ℕ). numbered lane n a ++ numbered lane j b) is ∙ sym (numbered-append lane n a b))
    (puts_all-append before now after (numbered lane n a) (numbered lane m b) h k)

-- what an open lane is offered
pub offered-open : (q : Port) (is : List Item) → q.is_open ≡ true → offered q is ≡ numbered q.lane q.made is
offered-open q is opened = ap (λ (b : Bool). if b then numbered q.lane q.made is else []) opened

-- an open lane is given an event
put-event : (q q' : Port) (x : Event) → q.is_open ≡ true → q' ≡ port_after (item.Event x ∷ []) q → q' ≡ record q { made = q.made + 1 }
put-event q q' x opened is =
    is ∙ ap (λ (b : Bool). record q { made = if b then q.made + 1 else q.made; is_open = b && true }) opened ∙ (λ i. record q { made = q.made + 1; is_open = sym opened i })

-- A port p was given the first of these elements, and these are left: it is q now, and the list before is now.
pub record Feeding (p q : Port) (before now : OutputsView) (all left : List Element) : Type 0 where
  pub done : List Element
  pub split : done ++ left ≡ all
  pub port : q ≡ record p { made = p.made + length done }
  pub puts : PutsAll before (numbered p.lane p.made (items_of done)) now
  pub place : HasPlaces now.stopped (p.lane ∷ [])

pub feeding-none : (p : Port) (before : OutputsView) (all left : List Element) → left ≡ all → HasPlaces before.stopped (p.lane ∷ []) → Feeding p p before before all left
feeding-none p before all left same place = record { done = []; split = same; port = ap (λ (n : ℕ). record p { made = n }) (sym (add-zero p.made)); puts = (refl, refl, omega arith); place = place }

pub feeding-step : (p q q' : Port) (before now after : OutputsView) (all left : List Element) (element : Element) → Feeding p q before now all (element ∷ left)
    → p.is_open ≡ true → q' ≡ port_after (item.Event (element_event element) ∷ []) q → PutsAll now (offered q (item.Event (element_event element) ∷ [])) after
    → (q.is_open ≡ true → HasPlaces after.stopped (q.lane ∷ [])) → Feeding p q' before after all left
feeding-step p q q' before now after all left element f opened given puts place =
    let is_open : q.is_open ≡ true = ap (λ (t : Port). t.is_open) f.port ∙ opened in
    let next = put-event q q' (element_event element) is_open given in
    let made : q.made ≡ p.made + length f.done = ap (λ (t : Port). t.made) f.port in
    let lane : q.lane ≡ p.lane = ap (λ (t : Port). t.lane) f.port in
    let size = length-append f.done (element ∷ []) in
    let count : p.made + length f.done + 1 ≡ p.made + length (f.done ++ element ∷ []) = omega (arith, size) in
    let items : q.made ≡ p.made + length (items_of f.done) = omega (arith, made, length-items_of f.done) in
    let behind = put_behind p.lane p.made q.made (items_of f.done) (item.Event (element_event element) ∷ []) before now after items f.puts
    (subst (λ (es : List Envelope). PutsAll now es after)
    (offered-open q (item.Event (element_event element) ∷ []) is_open ∙ ap (λ (l : Lane). numbered l q.made (item.Event (element_event element) ∷ [])) lane) puts) in
    record {
      done = f.done ++ element ∷ [];
      split = append_assoc f.done (element ∷ []) left ∙ f.split;
      port = next ∙ ap (λ (t : Port). record t { made = t.made + 1 }) f.port ∙ ap (λ (k : ℕ). record p { made = k }) count;
      puts = subst (λ (is : List Item). PutsAll before (numbered p.lane p.made is) after) (sym (items_of-append f.done (element ∷ []))) behind;
      place = subst (λ (l : Lane). HasPlaces after.stopped (l ∷ [])) lane (place is_open);
    }

-- all of them were given
pub feeding-end : (p q q' : Port) (before now after : OutputsView) (all : List Element) → Feeding p q before now all [] → p.is_open ≡ true
    → q' ≡ port_after (item.Event event.ReadComplete ∷ []) q → PutsAll now (offered q (item.Event event.ReadComplete ∷ [])) after
    → (q' ≡ record p { made = p.made + length (burst_events all) }) × PutsAll before (numbered p.lane p.made (as_items (burst_events all))) after
feeding-end p q q' before now after all f opened given puts =
    let is_open : q.is_open ≡ true = ap (λ (t : Port). t.is_open) f.port ∙ opened in
    let whole : f.done ≡ all = sym (append-nil f.done) ∙ f.split in
    let made : q.made ≡ p.made + length f.done = ap (λ (t : Port). t.made) f.port in
    let lane : q.lane ≡ p.lane = ap (λ (t : Port). t.lane) f.port in
    let items : q.made ≡ p.made + length (items_of f.done) = omega (arith, made, length-items_of f.done) in
    let behind = put_behind p.lane p.made q.made (items_of f.done) (item.Event event.ReadComplete ∷ []) before now after items f.puts
    (subst (λ (es : List Envelope). PutsAll now es after)
    (offered-open q (item.Event event.ReadComplete ∷ []) is_open ∙ ap (λ (l : Lane). numbered l q.made (item.Event event.ReadComplete ∷ [])) lane) puts) in
    let size = length-append (map element_event f.done) (event.ReadComplete ∷ []) in
    let count : p.made + length f.done + 1 ≡ p.made + length (burst_events all) =
    omega (arith, size, length-map f.done element_event) ∙ ap (λ (xs : List Element). p.made + length (burst_events xs)) whole in (
      put-event q q' event.ReadComplete is_open given ∙ ap (λ (t : Port). record t { made = t.made + 1 }) f.port ∙ ap (λ (k : ℕ). record p { made = k }) count,
      subst (λ (is : List Item). PutsAll before (numbered p.lane p.made is) after)
          (ap (λ (xs : List Element). items_of xs ++ item.Event event.ReadComplete ∷ []) whole ∙ sym (as_items-append (map element_event all) (event.ReadComplete ∷ [])))
          behind,
    )
