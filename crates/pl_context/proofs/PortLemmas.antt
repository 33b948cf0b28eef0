-- What a port gives a list of envelopes, item by item.
use Rattle.std.proofs.Common.{◌≡◌, ℕ, ◌+◌, ◌<◌, ◌≤◌, Bool, true, false, cond, List, [], ◌∷◌, ◌++◌, length, suc, sym, ap, subst, ◌∙◌, refl, arith, length-append, append_assoc, append-nil, add-zero}
use Rattle.std.specs.Prelude.{◌&&◌, ◌↔◌, ◌==◌, not}
use Rattle.std.specs.List.{list_any}
use Rattle.std.proofs.lemmas.List.{length-map, nil_from_length}
use Rattle.std.proofs.lemmas.Bool.{and_parts, eqb-true}
use Rattle.pl_event.specs.declared.events.Event.{Event}
use Rattle.pl_event.specs.declared.envelopes.Kind.{Kind}
use Rattle.pl_event.specs.declared.envelopes.Kind.TheVariants.{Data, Flags}
use Rattle.pl_event.specs.declared.envelopes.Lane.{Lane}
use Rattle.pl_event.specs.Fitting.{goes_on}
use Rattle.pl_event.specs.declared.envelopes.Item.{Item}
use Rattle.pl_event.specs.declared.envelopes.Item.TheVariants as item
use Rattle.pl_event.specs.declared.envelopes.Envelope.{Envelope}
use Rattle.pl_context.specs.declared.added.Added.{Added}
use Rattle.pl_context.specs.declared.added.Added.TheVariants.{Last, Discarded}
use Rattle.pl_context.specs.declared.ports.Port.{Port}
use Rattle.pl_context.specs.Stops.{StopsView, has_stopped, any_stopped, same_hop}
use Rattle.pl_context.specs.OutputsViews.{OutputsView, Puts, PutsAll, Appends, added_items, stopped_after}
use Rattle.pl_context.specs.Ports.{as_items, all_go_on, numbered, put_out, port_after}

-- ---- one envelope

-- what became of an envelope for which there was room: it is discarded or last
abbrev pub kept : Bool → List Envelope → List Envelope
kept stopped es = cond stopped [] es

pub puts-appends : (before after : OutputsView) (e : Envelope) (answer : Added) → Puts before e answer after → 0 < before.room → Appends before (kept (has_stopped before.stopped e.lane) (e ∷ [])) after
puts-appends before after e answer p room = by (has_stopped before.stopped e.lane) refl
  where
    became : (a : Added) → answer ≡ a → (es : List Envelope) → added_items a e ≡ es → stopped_after a before.stopped e.lane ≡ before.stopped → Appends before es after
    became a is es adds stays = record {
      items = p.items ∙ ap (λ (b : Added). before.items ++ added_items b e) is ∙ ap (λ (t : List Envelope). before.items ++ t) adds;
      stopped = p.stopped ∙ ap (λ (b : Added). stopped_after b before.stopped e.lane) is ∙ stays;
      room = subst (λ (t : List Envelope). before.room ≤ after.room + length t) (ap (λ (b : Added). added_items b e) is ∙ adds) p.room;
    }

    by : (b : Bool) → has_stopped before.stopped e.lane ≡ b → Appends before (kept b (e ∷ [])) after
    by true is = became Discarded (p.discarded.1 is) [] refl refl
    by false is = became Last (p.last is room) (e ∷ []) refl refl

-- ---- events, one after another

-- nothing
pub port_after-nil : (p : Port) → port_after [] p ≡ p
port_after-nil p = by p.is_open
  where
    by : (o : Bool) → ◌≡◌ {A = Port} (record { lane = p.lane; made = cond o (p.made + 0) p.made; is_open = o && true }) (record { lane = p.lane; made = p.made; is_open = o })
    by true = ap (λ (n : ℕ). record { lane = p.lane; made = n; is_open = true }) (add-zero p.made)
    by false = refl

pub put_out-nil : (s : StopsView) (p : Port) → put_out s p [] ≡ []
put_out-nil s p = by p.is_open (has_stopped s p.lane)
  where
    by : (o stopped : Bool) → cond o (cond stopped [] (numbered p.lane p.made [])) [] ≡ []
    by true true = refl
    by true false = refl
    by false stopped = refl

-- one item with which the lane goes on
pub port_after-one : (p : Port) (i : Item) → p.is_open ≡ true → goes_on i ≡ true → record p { made = p.made + 1 } ≡ port_after (i ∷ []) p
port_after-one p i o g = rw (o, g) refl

-- where no lane has stopped, this one has not
pub none-stopped : (s : StopsView) (lane : Lane) → any_stopped s ≡ false → has_stopped s lane ≡ false
none-stopped s lane none = by lane.kind
  where
    was : (b : Bool) → not b ≡ false → b ≡ true
    was true e = refl
    was false e = cc

    empty : (length s.lanes == 0 ≡ true) × (length s.flag_lanes == 0 ≡ true)
    empty = and_parts (length s.lanes == 0) (length s.flag_lanes == 0) (was (length s.lanes == 0 && length s.flag_lanes == 0) none)

    by : (k : Kind) → elim k [ Data ↦ list_any (same_hop lane) s.lanes | Flags ↦ list_any (same_hop lane) s.flag_lanes ] ≡ false
    by Data = ap (list_any (same_hop lane)) (nil_from_length s.lanes (eqb-true (length s.lanes) 0 empty.0))
    by Flags = ap (list_any (same_hop lane)) (nil_from_length s.flag_lanes (eqb-true (length s.flag_lanes) 0 empty.1))

pub as_items-append : (xs ys : List Event) → as_items (xs ++ ys) ≡ as_items xs ++ as_items ys
as_items-append [] ys = refl
as_items-append (x ∷ xs) ys = ap (λ (t : List Item). item.Event x ∷ t) (as_items-append xs ys)

pub all_go_on-events : (xs : List Event) → all_go_on (as_items xs) ≡ true
all_go_on-events [] = refl
all_go_on-events (x ∷ xs) = all_go_on-events xs

pub all_go_on-append : (a b : List Item) → all_go_on a ≡ true → all_go_on (a ++ b) ≡ all_go_on b
all_go_on-append [] b h = refl
all_go_on-append (item.Event e ∷ is) b h = all_go_on-append is b h
all_go_on-append (item.Flag v ∷ is) b h = all_go_on-append is b h
all_go_on-append (item.End ∷ is) b h = cc
all_go_on-append (item.Fail cause ∷ is) b h = cc

pub numbered-append : (lane : Lane) (n : ℕ) (a b : List Item) → numbered lane n (a ++ b) ≡ numbered lane n a ++ numbered lane (n + length a) b
numbered-append lane n [] b = ap (λ (m : ℕ). numbered lane m b) (sym (add-zero n))
numbered-append lane n (i ∷ is) b =
    let e : n + 1 + length is ≡ n + length (i ∷ is) = omega arith in
    ap (λ (t : List Envelope). record { lane = lane; number = n; item = i } ∷ t) (numbered-append lane (n + 1) is b ∙ ap (λ (m : ℕ). numbered lane (n + 1) is ++ numbered lane m b) e)

pub length-numbered : (lane : Lane) (n : ℕ) (is : List Item) → length (numbered lane n is) ≡ length is
length-numbered lane n [] = refl
length-numbered lane n (i ∷ is) = ap (λ (k : ℕ). suc k) (length-numbered lane (n + 1) is)

-- A port p that was given some of these events, and these are left: it is q now, and the list before is now.
pub record Putting (p q : Port) (before now : OutputsView) (all left : List Event) : Type 0 where
  pub is_open : q.is_open ≡ true
  pub lane : q.lane ≡ p.lane
  pub made : q.made + length left ≡ p.made + length all
  pub stopped : now.stopped ≡ before.stopped
  pub items : now.items ++ kept (has_stopped before.stopped p.lane) (numbered p.lane q.made (as_items left)) ≡ before.items ++ kept (has_stopped before.stopped p.lane) (numbered p.lane p.made (as_items all))
  pub room : before.room + length (kept (has_stopped before.stopped p.lane) (numbered p.lane q.made (as_items left))) ≤ now.room + length (kept (has_stopped before.stopped p.lane) (numbered p.lane p.made (as_items all)))
  pub enough : length left ≤ now.room

pub putting-start : (p : Port) (before : OutputsView) (all : List Event) → p.is_open ≡ true → length all ≤ before.room → Putting p p before before all all
putting-start p before all o room =
    record { is_open = o; lane = refl; made = refl; stopped = refl; items = refl; room = omega arith; enough = room }

abbrev envelope_of : Port → Event → Envelope
envelope_of q x = record { lane = q.lane; number = q.made; item = item.Event x }

kept-one : (b : Bool) (e : Envelope) → length (kept b (e ∷ [])) ≤ 1
kept-one true e = omega arith
kept-one false e = omega arith

module _ (p q : Port) (before now after : OutputsView) (all left : List Event) (x : Event) where
  step-facts : (b b' : Bool) → b' ≡ b → q.lane ≡ p.lane → Appends now (kept b' (envelope_of q x ∷ [])) after
      → now.items ++ kept b (numbered p.lane q.made (as_items (x ∷ left))) ≡ before.items ++ kept b (numbered p.lane p.made (as_items all))
      → before.room + length (kept b (numbered p.lane q.made (as_items (x ∷ left)))) ≤ now.room + length (kept b (numbered p.lane p.made (as_items all)))
      → (after.items ++ kept b (numbered p.lane (q.made + 1) (as_items left)) ≡ before.items ++ kept b (numbered p.lane p.made (as_items all)))
      × (before.room + length (kept b (numbered p.lane (q.made + 1) (as_items left))) ≤ after.room + length (kept b (numbered p.lane p.made (as_items all))))
  step-facts true true same lane a items room = (
    ap (λ (t : List Envelope). t ++ []) a.items ∙ append-nil (now.items ++ []) ∙ items,
    omega (arith, room, a.room),
  )
  step-facts true false same lane a items room = cc
  step-facts false true same lane a items room = cc
  step-facts false false same lane a items room = (
    ap (λ (t : List Envelope). t ++ numbered p.lane (q.made + 1) (as_items left)) a.items
        ∙ append_assoc now.items (envelope_of q x ∷ []) (numbered p.lane (q.made + 1) (as_items left))
        ∙ ap (λ (l : Lane). now.items ++ record { lane = l; number = q.made; item = item.Event x } ∷ numbered p.lane (q.made + 1) (as_items left)) lane
        ∙ items,
    omega (arith, room, a.room),
  )

pub putting-step : (p q : Port) (before now after : OutputsView) (all left : List Event) (x : Event) (answer : Added)
    → Putting p q before now all (x ∷ left) → Puts now (record { lane = q.lane; number = q.made; item = item.Event x }) answer after
    → Putting p (record q { made = q.made + 1 }) before after all left
putting-step p q before now after all left x answer g puts =
    let some : 0 < now.room = omega (arith, g.enough) in
    let a = puts-appends now after (envelope_of q x) answer puts some in
    let same = ap (λ (s : StopsView). has_stopped s q.lane) g.stopped ∙ ap (λ (l : Lane). has_stopped before.stopped l) g.lane in
    let facts = step-facts p q before now after all left x (has_stopped before.stopped p.lane) (has_stopped now.stopped q.lane) same g.lane a g.items g.room in
    let one = kept-one (has_stopped now.stopped q.lane) (envelope_of q x) in
    record {
      is_open = g.is_open;
      lane = g.lane;
      made = omega (arith, g.made);
      stopped = a.stopped ∙ g.stopped;
      items = facts.0;
      room = facts.1;
      enough = omega (arith, g.enough, a.room, one);
    }

-- an open port after as many events
pub port-events : (p : Port) (n : ℕ) (all : List Event) → p.is_open ≡ true → n ≡ length all → record p { made = p.made + n } ≡ port_after (as_items all) p
port-events p n all o is =
    ap (λ (k : ℕ). record p { made = p.made + k }) (is ∙ sym (length-map all (λ (x : Event). item.Event x))) ∙ rw (o, all_go_on-events all) refl

-- all of them are on the list
pub putting-end : (p q : Port) (before now : OutputsView) (all : List Event) → p.is_open ≡ true → Putting p q before now all []
    → (q ≡ port_after (as_items all) p) × Appends before (put_out before.stopped p (as_items all)) now
putting-end p q before now all o g =
    let n : q.made ≡ p.made + length (as_items all) = omega (arith, g.made, length-map all (λ (x : Event). item.Event x)) in
    let b = has_stopped before.stopped p.lane in (
      same_port q p.lane (p.made + length (as_items all)) g.lane n g.is_open
          ∙ ap (λ (t : Bool). record { lane = p.lane; made = p.made + length (as_items all); is_open = t }) (sym (all_go_on-events all))
          ∙ ap (λ (t : Bool). record { lane = p.lane; made = cond t (p.made + length (as_items all)) p.made; is_open = t && all_go_on (as_items all) }) (sym o),
      subst (λ (t : Bool). Appends before (cond t (kept b (numbered p.lane p.made (as_items all))) []) now) (sym o) (record {
        items = sym (append-nil now.items) ∙ ap (λ (t : List Envelope). now.items ++ t) (sym (kept-nil b)) ∙ g.items;
        stopped = g.stopped;
        room = omega (arith, g.room);
      }),
    )
  where
    same_port : (q : Port) (lane : Lane) (n : ℕ) → q.lane ≡ lane → q.made ≡ n → q.is_open ≡ true → q ≡ record { lane = lane; made = n; is_open = true }
    same_port q lane n e f g =
        ap (λ (l : Lane). record { lane = l; made = q.made; is_open = q.is_open }) e
        ∙ ap (λ (k : ℕ). record { lane = lane; made = k; is_open = q.is_open }) f
        ∙ ap (λ (t : Bool). record { lane = lane; made = n; is_open = t }) g

    kept-nil : (b : Bool) → kept b [] ≡ []
    kept-nil true = refl
    kept-nil false = refl

-- one item, for which there is room
pub put-appends : (p : Port) (i : Item) (before after : OutputsView) (answer : Added) → p.is_open ≡ true → Puts before (record { lane = p.lane; number = p.made; item = i }) answer after → 0 < before.room → Appends before (put_out before.stopped p (i ∷ [])) after
put-appends p i before after answer o puts room =
    subst (λ (t : Bool). Appends before (cond t (kept (has_stopped before.stopped p.lane) (numbered p.lane p.made (i ∷ []))) []) after) (sym o) (puts-appends before after (record { lane = p.lane; number = p.made; item = i }) answer puts room)

-- ---- lists put one after another

pub puts_all-from : (a b c : OutputsView) (es : List Envelope) → b.items ≡ a.items → b.stopped ≡ a.stopped → a.room ≤ b.room → PutsAll b es c → PutsAll a es c
puts_all-from a b c [] i s r h = (h.0 ∙ i, h.1 ∙ s, omega (arith, r, h.2))
puts_all-from a b c (e ∷ es) i s r h = (
  h.0,
  h.1,
  record {
    items = h.2.items ∙ ap (λ (t : List Envelope). t ++ added_items h.0 e) i;
    stopped = h.2.stopped ∙ ap (λ (t : StopsView). stopped_after h.0 t e.lane) s;
    discarded = subst (λ (t : StopsView). (h.0 ≡ Discarded) ↔ (has_stopped t e.lane ≡ true)) s h.2.discarded;
    last = λ none room. h.2.last (ap (λ (t : StopsView). has_stopped t e.lane) s ∙ none) (omega (arith, r, room));
    room = omega (arith, r, h.2.room);
  },
  h.3,
)

pub puts_all-append : (a b c : OutputsView) (es fs : List Envelope) → PutsAll a es b → PutsAll b fs c → PutsAll a (es ++ fs) c
puts_all-append a b c [] fs h k = puts_all-from a b c fs h.0 h.1 h.2 k
puts_all-append a b c (e ∷ es) fs h k = (h.0, h.1, h.2, puts_all-append h.1 b c es fs h.3 k)

-- lists appended one after another
pub appends-append : (a b c : OutputsView) (es fs : List Envelope) → Appends a es b → Appends b fs c → Appends a (es ++ fs) c
appends-append a b c es fs h k = record {
  items = k.items ∙ ap (λ (t : List Envelope). t ++ fs) h.items ∙ append_assoc a.items es fs;
  stopped = k.stopped ∙ h.stopped;
  room = omega (arith, h.room, k.room, length-append es fs);
}

-- a port that gives nothing adds nothing
pub appends-alone : (a b : OutputsView) (s : StopsView) (p : Port) (es : List Envelope) → Appends a es b → Appends a (es ++ put_out s p []) b
appends-alone a b s p es h =
    subst (λ (t : List Envelope). Appends a t b) (sym (ap (λ (t : List Envelope). es ++ t) (put_out-nil s p) ∙ append-nil es)) h
