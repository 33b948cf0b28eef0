-- What a context puts out, from what its ports did.
use Rattle.std.proofs.Common.{◌≡◌, ℕ, ◌+◌, ◌<◌, ◌≤◌, Bool, true, false, cond, List, [], ◌∷◌, ◌++◌, length, sym, ap, subst, ◌∙◌, refl, arith, length-append, append-nil}
use Rattle.std.specs.Prelude.{◌&&◌, if◌then◌else◌, Result, Ok, Err, OnErr}
use Rattle.std.proofs.lemmas.List.{length-map}
use Rattle.std.proofs.Math.Bool.{and-false}
use Rattle.std.proofs.lemmas.Bool.{and_parts}
use Rattle.pl_event.specs.declared.events.Event.{Event}
use Rattle.pl_event.specs.declared.envelopes.Kind.TheVariants.{Data}
use Rattle.pl_event.specs.declared.envelopes.Item.{Item}
use Rattle.pl_event.specs.declared.envelopes.Item.TheVariants as item
use Rattle.pl_event.specs.declared.envelopes.Envelope.{Envelope}
use Rattle.pl_event.specs.declared.stages.Turned.{Turned}
use Rattle.pl_event.specs.declared.stages.Turned.TheVariants.{Open, Ended}
use Rattle.pl_event.specs.declared.stages.Changed.{Changed}
use Rattle.pl_event.specs.declared.stages.Changed.TheVariants.{Up, Down}
use Rattle.pl_event.specs.declared.outcomes.Cause.TheVariants.{Memory}
use Rattle.pl_event.specs.declared.limits.TheConstants.{MAX_ITEMS}
use Rattle.pl_event.specs.Changes.{changed_up, changed_down}
use Rattle.pl_event.specs.Meaning.{Meaning, up_of, down_of, made-push, turned_after}
use Rattle.pl_context.specs.declared.ports.Port.{Port}
use Rattle.pl_context.specs.declared.standing.Standing.{Standing}
use Rattle.pl_context.specs.declared.standing.Standing.TheVariants as standings
use Rattle.pl_context.specs.declared.standing.Took.{Took}
use Rattle.pl_context.specs.declared.standing.Took.TheVariants as took
use Rattle.pl_context.specs.Standings.{has_failed}
use Rattle.pl_context.specs.Stops.{StopsView, has_stopped}
use Rattle.pl_context.specs.OutputsViews.{OutputsView, PutsAll, Appends}
use Rattle.pl_context.specs.Ports.{as_items, all_go_on, end_after, numbered, offered, put_out, port_after}
use Rattle.pl_context.specs.ContextViews.{ContextView, SameNode}
use Rattle.pl_context.specs.Contexts.{last_item, GivesLast, ups, downs, offers, counted, closed, PutsNone, IsSmall, ChangesOne, ChangesItem, Runs, RunsOut, MakesFew, TakesEvent, TakesItem, TakesData}
use Rattle.pl_context.proofs.PortLemmas.{port_after-nil, put_out-nil, puts_all-from, puts_all-append, appends-append, all_go_on-events, all_go_on-append, numbered-append, length-numbered}

-- both ports were given the last item
pub closes-from : {S : Type 0} (c : ContextView S) (standing : Standing) (before mid after : OutputsView) (i j : Item) (up down : Port)
    → i ≡ last_item standing → j ≡ last_item standing → up ≡ port_after (i ∷ []) c.up → down ≡ port_after (j ∷ []) c.down
    → PutsAll before (offered c.up (i ∷ [])) mid → PutsAll mid (offered c.down (j ∷ [])) after
    → GivesLast standing c before (record c { standing = standing; up = up; down = down }) after
closes-from c standing before mid after i j up down is js above below first second = record {
  context = ap (λ (p : Port). record c { standing = standing; up = p; down = down }) (above ∙ ap (λ (k : Item). port_after (k ∷ []) c.up) is)
      ∙ ap (λ (p : Port). record c { standing = standing; up = port_after (last_item standing ∷ []) c.up; down = p }) (below ∙ ap (λ (k : Item). port_after (k ∷ []) c.down) js);
  out = puts_all-append before mid after (offered c.up (last_item standing ∷ [])) (offered c.down (last_item standing ∷ []))
      (subst (λ (k : Item). PutsAll before (offered c.up (k ∷ [])) mid) is first) (subst (λ (k : Item). PutsAll mid (offered c.down (k ∷ [])) after) js second);
}

-- no port is open after it
pub closed-port : (standing : Standing) (p q : Port) (i : Item) → i ≡ last_item standing → q ≡ port_after (i ∷ []) p → q.is_open ≡ false
closed-port standing p q i is e = ap (λ (t : Port). t.is_open) e ∙ ap (λ (k : Item). p.is_open && all_go_on (k ∷ [])) is ∙ by standing p.is_open
  where
    by : (s : Standing) (o : Bool) → (o && all_go_on (last_item s ∷ [])) ≡ false
    by standings.Open true = refl
    by standings.Open false = refl
    by standings.Ended true = refl
    by standings.Ended false = refl
    by (standings.Failed cause) true = refl
    by (standings.Failed cause) false = refl

-- ---- a step: events up, events down, and the end where the stage has quit

-- the last two ports
pub port_after-downs : (p q r : Port) (xs : List Event) (t : Turned) → q ≡ port_after (as_items xs) p → r ≡ port_after (end_after t) q → r ≡ port_after (as_items xs ++ end_after t) p
port_after-downs p q r xs t e f =
    f ∙ ap (λ (k : Port). port_after (end_after t) k) e ∙ sym (port_after-append p (as_items xs) (end_after t) (all_go_on-events xs))
  where
    port_after-append : (p : Port) (a b : List Item) → all_go_on a ≡ true → port_after (a ++ b) p ≡ port_after b (port_after a p)
    port_after-append p a b h = by p.is_open
      where
        by : (o : Bool) → ◌≡◌ {A = Port} (record { lane = p.lane; made = cond o (p.made + length (a ++ b)) p.made; is_open = o && all_go_on (a ++ b) })
            (record { lane = p.lane; made = cond (o && all_go_on a) (cond o (p.made + length a) p.made + length b) (cond o (p.made + length a) p.made); is_open = (o && all_go_on a) && all_go_on b })
        by true =
            let e : p.made + length (a ++ b) ≡ p.made + length a + length b = omega (arith, length-append a b) in
            ap (λ (k : ℕ). record { lane = p.lane; made = k; is_open = all_go_on (a ++ b) }) e
            ∙ ap (λ (t : Bool). record { lane = p.lane; made = p.made + length a + length b; is_open = t }) (all_go_on-append a b h)
            ∙ ap (λ (t : Bool). record { lane = p.lane; made = cond t (p.made + length a + length b) (p.made + length a); is_open = t && all_go_on b }) (sym h)
        by false = refl

pub put_out-downs : (s : StopsView) (p q : Port) (xs : List Event) (t : Turned) → q ≡ port_after (as_items xs) p → put_out s p (as_items xs) ++ put_out s q (end_after t) ≡ put_out s p (as_items xs ++ end_after t)
put_out-downs s p q xs t e =
    ap (λ (k : Port). put_out s p (as_items xs) ++ put_out s k (end_after t)) e ∙ sym (put_out-append s p (as_items xs) (end_after t) (all_go_on-events xs))
  where
    put_out-append : (s : StopsView) (p : Port) (a b : List Item) → all_go_on a ≡ true → put_out s p (a ++ b) ≡ put_out s p a ++ put_out s (port_after a p) b
    put_out-append s p a b h = by p.is_open (has_stopped s p.lane)
      where
        by : (o stopped : Bool) → cond o (cond stopped [] (numbered p.lane p.made (a ++ b))) []
            ≡ cond o (cond stopped [] (numbered p.lane p.made a)) [] ++ cond (o && all_go_on a) (cond stopped [] (numbered p.lane (cond o (p.made + length a) p.made) b)) []
        by true true = ap (λ (t : Bool). cond t [] []) (sym h) ∙ refl
        by true false =
            numbered-append p.lane p.made a b
            ∙ ap (λ (t : Bool). numbered p.lane p.made a ++ cond t (numbered p.lane (p.made + length a) b) []) (sym h)
        by false stopped = refl

pub runs-out-list : (before mid mid' after : OutputsView) (up down below : Port) (above xs : List Event) (t : Turned)
    → Appends before (put_out before.stopped up (as_items above)) mid → Appends mid (put_out mid.stopped down (as_items xs)) mid' → Appends mid' (put_out mid'.stopped below (end_after t)) after
    → below ≡ port_after (as_items xs) down → Appends before (put_out before.stopped up (as_items above) ++ put_out before.stopped down (as_items xs ++ end_after t)) after
runs-out-list before mid mid' after up down below above xs t first second third e =
    let one = put_out before.stopped up (as_items above) in
    let second' : Appends mid (put_out before.stopped down (as_items xs)) mid' = subst (λ (s : StopsView). Appends mid (put_out s down (as_items xs)) mid') first.stopped second in
    let third' : Appends mid' (put_out before.stopped below (end_after t)) after = subst (λ (s : StopsView). Appends mid' (put_out s below (end_after t)) after) (second.stopped ∙ first.stopped) third in
    let rest = appends-append mid mid' after (put_out before.stopped down (as_items xs)) (put_out before.stopped below (end_after t)) second' third' in
    appends-append before mid after one (put_out before.stopped down (as_items xs ++ end_after t)) first
    (subst (λ (es : List Envelope). Appends mid es after) (put_out-downs before.stopped down below xs t e) rest)

-- what a lane was given before, and what it was given now, is what it was given of all events
pub stands-up : (m : Meaning) (p q : Port) (xs : List Event) (x : Event) → q ≡ port_after (as_items (m.up xs x)) p → (p.is_open ≡ true → p.made ≡ length (up_of m xs)) → q.is_open ≡ true → q.made ≡ length (up_of m (xs ++ x ∷ []))
stands-up m p q xs x e h o = by p.is_open refl
  where
    by : (b : Bool) → p.is_open ≡ b → q.made ≡ length (up_of m (xs ++ x ∷ []))
    by true is =
        let made : q.made ≡ p.made + length (as_items (m.up xs x)) = ap (λ (t : Port). t.made) e ∙ ap (λ (b : Bool). cond b (p.made + length (as_items (m.up xs x))) p.made) is in
        omega (arith, made, h is, length-map (m.up xs x) (λ (y : Event). item.Event y), ap (λ (ys : List Event). length ys) (made-push m.up xs x), length-append (up_of m xs) (m.up xs x))
    by false is =
        let shut : q.is_open ≡ false = ap (λ (t : Port). t.is_open) e ∙ ap (λ (b : Bool). b && all_go_on (as_items (m.up xs x))) is in
        cc

pub stands-down : (m : Meaning) (p q : Port) (xs : List Event) (x : Event) (t : Turned) → q ≡ port_after (as_items (m.down xs x) ++ end_after t) p → (p.is_open ≡ true → p.made ≡ length (down_of m xs)) → q.is_open ≡ true → q.made ≡ length (down_of m (xs ++ x ∷ []))
stands-down m p q xs x t e h o = by t p.is_open refl e
  where
    by : (t : Turned) (b : Bool) → p.is_open ≡ b → q ≡ port_after (as_items (m.down xs x) ++ end_after t) p → q.made ≡ length (down_of m (xs ++ x ∷ []))
    by Open true is e =
        let made : q.made ≡ p.made + length (as_items (m.down xs x)) =
        ap (λ (t : Port). t.made) e ∙ ap (λ (b : Bool). cond b (p.made + length (as_items (m.down xs x) ++ [])) p.made) is ∙ ap (λ (is : List Item). p.made + length is) (append-nil (as_items (m.down xs x))) in
        omega (arith, made, h is, length-map (m.down xs x) (λ (y : Event). item.Event y), ap (λ (ys : List Event). length ys) (made-push m.down xs x), length-append (down_of m xs) (m.down xs x))
    by Open false is e =
        let shut : q.is_open ≡ false = ap (λ (t : Port). t.is_open) e ∙ ap (λ (b : Bool). b && all_go_on (as_items (m.down xs x) ++ [])) is in
        cc
    by Ended b is e =
        let shut : q.is_open ≡ false =
        ap (λ (t : Port). t.is_open) e ∙ ap (λ (g : Bool). p.is_open && g) (all_go_on-append (as_items (m.down xs x)) (item.End ∷ []) (all_go_on-events (m.down xs x))) ∙ and-false p.is_open in
        cc

-- ---- room

pub open-count : (b : Bool) (n r : ℕ) → r ≡ (if b then n else 0) → b ≡ true → r ≡ n
open-count b n r e o = e ∙ ap (λ (t : Bool). if t then n else 0) o

pub length-put_out : (s : StopsView) (p : Port) (is : List Item) (r : ℕ) → r ≡ (if p.is_open then length is else 0) → length (put_out s p is) ≤ r
length-put_out s p is r e = by p.is_open (has_stopped s p.lane) e
  where
    by : (o stopped : Bool) → r ≡ (if o then length is else 0) → length (cond o (cond stopped [] (numbered p.lane p.made is)) []) ≤ r
    by true true e = omega arith
    by true false e = omega (arith, e, length-numbered p.lane p.made is)
    by false stopped e = omega arith

pub length-offered : (p : Port) (is : List Item) (r : ℕ) → r ≡ (if p.is_open then length is else 0) → length (offered p is) ≡ r
length-offered p is r e = by p.is_open e
  where
    by : (o : Bool) → r ≡ (if o then length is else 0) → length (cond o (numbered p.lane p.made is) []) ≡ r
    by true e = length-numbered p.lane p.made is ∙ sym e
    by false e = sym e

-- a port that is open after some items was open before
pub was-open : (p q : Port) (is : List Item) → q ≡ port_after is p → q.is_open ≡ true → p.is_open ≡ true
was-open p q is e o = (and_parts p.is_open (all_go_on is) (sym (ap (λ (t : Port). t.is_open) e) ∙ o)).0

pub length-items : (xs : List Event) → length (as_items xs) ≡ length xs
length-items xs = length-map xs (λ (y : Event). item.Event y)

pub sum-count : (b : Bool) (m n r s : ℕ) → r ≡ (if b then m else 0) → s ≡ (if b then n else 0) → r + s ≡ (if b then m + n else 0)
sum-count true m n r s e f = omega (arith, e, f)
sum-count false m n r s e f = omega (arith, e, f)

-- the same from a list that shows as much and has no more room
pub appends-from : (a b c : OutputsView) (up down : Port) (above below : List Item) → b.items ≡ a.items → b.stopped ≡ a.stopped → a.room ≤ b.room
    → Appends b (put_out b.stopped up above ++ put_out b.stopped down below) c → Appends a (put_out a.stopped up above ++ put_out a.stopped down below) c
appends-from a b c up down above below i s r h =
    let es = put_out b.stopped up above ++ put_out b.stopped down below in
    let from : Appends a es c = record {
      items = h.items ∙ ap (λ (t : List Envelope). t ++ es) i;
      stopped = h.stopped ∙ s;
      room = omega (arith, r, h.room);
    } in
    subst (λ (t : StopsView). Appends a (put_out t up above ++ put_out t down below) c) s from

-- Where there is not room for what both ports would be given, they and the list are as they were.
pub none-put : (above below : List Item) (p q : Port) (before after : OutputsView) → after.items ≡ before.items → after.stopped ≡ before.stopped → before.room ≤ after.room
    → before.room < length (offers p q above below) → PutsNone above below p q before p q after
none-put above below p q before after items stopped room why = record { up = refl; down = refl; items = items; stopped = stopped; room = room; why = why }

-- ---- a step, from what its stage made

module _ {S : Type 0} (meaning : S → Meaning) (stands_after : S → List Event → Type 0) where
  pub runs-from : (c : ContextView S) (x : Event) (before after : OutputsView) (stage : S) (up down : Port) (above below : List Event) (turned : Turned)
      → ((xs : List Event) → stands_after c.stage xs → stands_after stage (xs ++ x ∷ []))
      → meaning stage ≡ meaning c.stage
      → ((xs : List Event) → stands_after c.stage xs → above ≡ (meaning c.stage).up xs x)
      → ((xs : List Event) → stands_after c.stage xs → below ≡ (meaning c.stage).down xs x)
      → ((xs : List Event) → stands_after c.stage xs → turned ≡ turned_after (meaning c.stage) (xs ++ x ∷ []))
      → up ≡ port_after (as_items above) c.up
      → down ≡ port_after (as_items below ++ end_after turned) c.down
      → Appends before (put_out before.stopped c.up (as_items above) ++ put_out before.stopped c.down (as_items below ++ end_after turned)) after
      → Runs meaning stands_after c x before (record c { stage = stage; up = up; down = down }) after
  runs-from c x before after stage up down above below turned stands same ups_are downs_are turned_is e f out = record {
    same = refl;
    up = above_is;
    down = below_is;
    out = λ xs h.
        subst (λ (is : List Item). Appends before (put_out before.stopped c.up is ++ put_out before.stopped c.down (downs (meaning c.stage) xs x)) after) (ap as_items (ups_are xs h))
        (subst (λ (is : List Item). Appends before (put_out before.stopped c.up (as_items above) ++ put_out before.stopped c.down is) after) (downs_is xs h) out);
    stage = stands;
    stands = λ xs h. record {
      stands = stands xs h.stands;
      above = λ o. stands-up (meaning c.stage) c.up up xs x (above_is xs h.stands) h.above o ∙ ap (λ (m : Meaning). length (up_of m (xs ++ x ∷ []))) (sym same);
      below = λ o. stands-down (meaning c.stage) c.down down xs x (turned_after (meaning c.stage) (xs ++ x ∷ [])) (below_is xs h.stands) h.below o ∙ ap (λ (m : Meaning). length (down_of m (xs ++ x ∷ []))) (sym same);
    };
  }
    where
      downs_is : (xs : List Event) → stands_after c.stage xs → as_items below ++ end_after turned ≡ downs (meaning c.stage) xs x
      downs_is xs h = ap (λ (ys : List Event). as_items ys ++ end_after turned) (downs_are xs h) ∙ ap (λ (t : Turned). as_items ((meaning c.stage).down xs x) ++ end_after t) (turned_is xs h)

      above_is : (xs : List Event) → stands_after c.stage xs → up ≡ port_after (ups (meaning c.stage) xs x) c.up
      above_is xs h = e ∙ ap (λ (ys : List Event). port_after (as_items ys) c.up) (ups_are xs h)

      below_is : (xs : List Event) → stands_after c.stage xs → down ≡ port_after (downs (meaning c.stage) xs x) c.down
      below_is xs h = f ∙ ap (λ (is : List Item). port_after is c.down) (downs_is xs h)

-- what a step offers, whichever way it was made
pub offers-made : (m : Meaning) (xs : List Event) (x : Event) (up down : Port) (above below : List Event) (turned : Turned) (n : ℕ)
    → above ≡ m.up xs x → below ≡ m.down xs x → turned ≡ turned_after m (xs ++ x ∷ [])
    → n < length (offers up down (as_items above) (as_items below ++ end_after turned)) → n < length (offers up down (ups m xs x) (downs m xs x))
offers-made m xs x up down above below turned n e f g less =
    subst (λ (ys : List Event). n < length (offers up down (as_items ys) (downs m xs x))) e
    (subst (λ (ys : List Event). n < length (offers up down (as_items above) (as_items ys ++ end_after (turned_after m (xs ++ x ∷ []))))) f
    (subst (λ (t : Turned). n < length (offers up down (as_items above) (as_items below ++ end_after t))) g less))

-- what was made is all that an empty buffer has
pub all-made : {start made more : List Event} → made ≡ start ++ more → start ≡ [] → made ≡ more
all-made {more = more} is none = is ∙ ap (λ (t : List Event). t ++ more) none

-- whatever the error is
pub on_err : {T E P : Type 0} (r : Result T E) → P → OnErr r P
on_err (Ok x) p = tt
on_err (Err e) p = p

-- the numbers of a port stay small
pub within-after : (p q : Port) (is : List Item) → q ≡ port_after is p → (p.is_open ≡ true → p.made + length is ≤ MAX_ITEMS) → q.is_open ≡ true → q.made ≤ MAX_ITEMS
within-after p q is e small o =
    let was = was-open p q is e o in
    let made : q.made ≡ p.made + length is = ap (λ (t : Port). t.made) e ∙ ap (λ (b : Bool). cond b (p.made + length is) p.made) was in
    omega (arith, made, small was)

-- ---- an event that its stage changed in its place

module _ {S : Type 0} (meaning : S → Meaning) (stands_after : S → List Event → Type 0) where
  still_open : (m : Meaning) (xs : List Event) → m.ended xs ≡ false → Open ≡ turned_after m xs
  still_open m xs e = sym (ap (λ (b : Bool). cond b Ended Open) e)

  -- its numbers are small
  pub small-changed : (stage stage' : S) (up down : Port) (x y : Event) (way : Changed) (made : List Event)
      → ChangesOne meaning stands_after stage x way stage' y made
      → (xs : List Event) × IsSmall meaning stands_after stage up down xs x
      → (up.is_open ≡ true → up.made + length (changed_up way y) ≤ MAX_ITEMS) × (down.is_open ≡ true → down.made + length (changed_down way y ++ made) ≤ MAX_ITEMS)
  small-changed stage stage' up down x y way made h few =
      let xs = few.0 in
      let m = meaning stage in
      let above = ap (λ (ys : List Event). length ys) (h.up xs few.1.stands) in
      let below = ap (λ (ys : List Event). length ys) (h.down xs few.1.stands) in (
        λ o. omega (arith, few.1.above o, above, length-items (m.up xs x)),
        λ o. omega (arith, few.1.below o, below, length-items (m.down xs x), length-append (as_items (m.down xs x)) (end_after (turned_after m (xs ++ x ∷ [])))),
      )

  -- it goes up, and others down
  pub runs-up : (c : ContextView S) (x y : Event) (made : List Event) (before after : OutputsView) (stage : S) (up down : Port)
      → ChangesOne meaning stands_after c.stage x Up stage y made
      → meaning stage ≡ meaning c.stage
      → up ≡ port_after (item.Event y ∷ []) c.up
      → down ≡ port_after (as_items made) c.down
      → Appends before (put_out before.stopped c.up (item.Event y ∷ []) ++ put_out before.stopped c.down (as_items made)) after
      → Runs meaning stands_after c x before (record c { stage = stage; up = up; down = down }) after
  runs-up c x y made before after stage up down h same e f out =
      let all : as_items made ≡ as_items made ++ [] = sym (append-nil (as_items made)) in
      runs-from meaning stands_after c x before after stage up down (y ∷ []) made Open h.stands same (λ xs s. sym (h.up xs s)) (λ xs s. sym (h.down xs s))
      (λ xs s. still_open (meaning c.stage) (xs ++ x ∷ []) (h.stays_open xs s)) e
      (f ∙ ap (λ (is : List Item). port_after is c.down) all)
      (subst (λ (is : List Item). Appends before (put_out before.stopped c.up (item.Event y ∷ []) ++ put_out before.stopped c.down is) after) all out)

  -- it goes down alone
  pub runs-down : (c : ContextView S) (x y : Event) (before after : OutputsView) (stage : S) (down : Port)
      → ChangesOne meaning stands_after c.stage x Down stage y []
      → meaning stage ≡ meaning c.stage
      → down ≡ port_after (item.Event y ∷ []) c.down
      → Appends before (put_out before.stopped c.down (item.Event y ∷ [])) after
      → Runs meaning stands_after c x before (record c { stage = stage; down = down }) after
  runs-down c x y before after stage down h same f out =
      runs-from meaning stands_after c x before after stage c.up down [] (y ∷ []) Open h.stands same (λ xs s. sym (h.up xs s)) (λ xs s. sym (h.down xs s))
      (λ xs s. still_open (meaning c.stage) (xs ++ x ∷ []) (h.stays_open xs s)) (sym (port_after-nil c.up)) f
      (subst (λ (es : List Envelope). Appends before (es ++ put_out before.stopped c.down (item.Event y ∷ [])) after) (sym (put_out-nil before.stopped c.up)) out)

  -- what it offers
  pub offers-changed : (stage stage' : S) (x y : Event) (made : List Event) (up down : Port) (n : ℕ)
      → ChangesOne meaning stands_after stage x Up stage' y made
      → n < length (offers up down (item.Event y ∷ []) (as_items made))
      → (xs : List Event) → stands_after stage xs → n < length (offers up down (ups (meaning stage) xs x) (downs (meaning stage) xs x))
  offers-changed stage stage' x y made up down n h less xs s =
      offers-made (meaning stage) xs x up down (y ∷ []) made Open n (sym (h.up xs s)) (sym (h.down xs s)) (still_open (meaning stage) (xs ++ x ∷ []) (h.stays_open xs s))
      (subst (λ (is : List Item). n < length (offers up down (item.Event y ∷ []) is)) (sym (append-nil (as_items made))) less)

  -- the numbers of an item that it changed, in a context v, which is seen as w
  pub small-up : (v w : ContextView S) → v ≡ w → (stage' : S) (i j : Item) (made : List Event)
      → ChangesItem meaning stands_after v.stage i Up stage' j made
      → v.standing ≡ standings.Open → (w.standing ≡ standings.Open → MakesFew meaning stands_after w i)
      → (v.up.is_open ≡ true → v.up.made + 1 ≤ MAX_ITEMS) × (v.down.is_open ≡ true → v.down.made + length made ≤ MAX_ITEMS)
  small-up v w same stage' i j made h opened few =
      let few' = subst (λ (c : ContextView S). c.standing ≡ standings.Open → MakesFew meaning stands_after c i) (sym same) few opened in
      small-changed v.stage stage' v.up v.down h.0 h.1 Up made h.4 (subst (λ (k : Item). MakesFew meaning stands_after v k) h.2 few')

  pub small-down : (v w : ContextView S) → v ≡ w → (stage' : S) (i j : Item) (made : List Event)
      → ChangesItem meaning stands_after v.stage i Down stage' j made → made ≡ []
      → v.standing ≡ standings.Open → (w.standing ≡ standings.Open → MakesFew meaning stands_after w i)
      → v.down.is_open ≡ true → v.down.made + 1 ≤ MAX_ITEMS
  small-down v w same stage' i j made h none opened few =
      let one = subst (λ (ys : List Event). ChangesOne meaning stands_after v.stage h.0 Down stage' h.1 ys) none h.4 in
      let few' = subst (λ (c : ContextView S). c.standing ≡ standings.Open → MakesFew meaning stands_after c i) (sym same) few opened in
      (small-changed v.stage stage' v.up v.down h.0 h.1 Down [] one (subst (λ (k : Item). MakesFew meaning stands_after v k) h.2 few')).1

  -- the same where nothing has changed
  pub few-unchanged : (v w : ContextView S) → v ≡ w → (stage : S) (i j : Item) → stage ≡ v.stage → j ≡ i
      → (w.standing ≡ standings.Open → MakesFew meaning stands_after w i)
      → v.standing ≡ standings.Open → MakesFew meaning stands_after (record (counted Data v) { stage = stage }) j
  few-unchanged v w same stage i j e f few opened =
      let few' = subst (λ (c : ContextView S). c.standing ≡ standings.Open → MakesFew meaning stands_after c i) (sym same) few opened in
      subst (λ (s : S). MakesFew meaning stands_after (record (counted Data v) { stage = s }) j) (sym e) (subst (λ (k : Item). MakesFew meaning stands_after (counted Data v) k) (sym f) few')

pub counted-same : {S : Type 0} (v w : ContextView S) → v ≡ w → (stage : S) → stage ≡ v.stage → record (counted Data v) { stage = stage } ≡ counted Data w
counted-same {S = S} v w same stage e = ap (λ (s : S). record (counted Data v) { stage = s }) e ∙ ap (λ (c : ContextView S). counted Data c) same

-- a context that stands open has neither ended nor failed
pub open-ended : {S : Type 0} (v w : ContextView S) → v ≡ w → v.standing ≡ standings.Open → w.standing ≡ standings.Ended → ⊥
open-ended {S = S} v w same is_open ended =
    let clash : standings.Open ≡ standings.Ended = sym is_open ∙ ap (λ (c : ContextView S). c.standing) same ∙ ended in
    cc

pub open-failed : {S : Type 0} (v w : ContextView S) → v ≡ w → v.standing ≡ standings.Open → has_failed w.standing ≡ true → ⊥
open-failed {S = S} v w same is_open failed =
    let clash : false ≡ true = ap has_failed (sym is_open ∙ ap (λ (c : ContextView S). c.standing) same) ∙ failed in
    cc

module _ {S : Type 0} (meaning : S → Meaning) (stands_after : S → List Event → Type 0) (is_spent : S → Bool) where
  -- the same of the answer
  pub takes-unchanged : (v w : ContextView S) → v ≡ w → (stage : S) (i j : Item) (before after : OutputsView) (answer : Took) (c' : ContextView S)
      → stage ≡ v.stage → j ≡ i
      → TakesItem meaning stands_after is_spent (record (counted Data v) { stage = stage }) j before answer c' after
      → TakesItem meaning stands_after is_spent (counted Data w) i before answer c' after
  takes-unchanged v w same stage i j before after answer c' e f takes =
      subst (λ (c : ContextView S). TakesItem meaning stands_after is_spent (counted Data c) i before answer c' after) same
      (subst (λ (k : Item). TakesItem meaning stands_after is_spent (counted Data v) k before answer c' after) f
      (subst (λ (s : S). TakesItem meaning stands_after is_spent (record (counted Data v) { stage = s }) j before answer c' after) e takes))

  -- One that was open took an item by which its stage, which was not spent, has changed.
  pub takes-open : (v w : ContextView S) → v ≡ w → (i : Item) (before after : OutputsView) (answer : Took) (c' : ContextView S)
      → v.standing ≡ standings.Open → (is_spent v.stage ≡ true → ⊥) → meaning c'.stage ≡ meaning v.stage → SameNode (counted Data v) c'
      → TakesItem meaning stands_after is_spent (counted Data w) i before answer c' after
      → TakesData meaning stands_after is_spent (counted Data w) i before answer c' after
  takes-open v w seen i before after answer c' was unspent same place takes = record {
    same_meaning = same ∙ ap (λ (c : ContextView S). meaning c.stage) seen;
    same_node = subst (λ (c : ContextView S). SameNode (counted Data c) c') seen place;
    takes = λ _. takes;
    spent = λ _ spent x is. absurd (unspent (ap (λ (c : ContextView S). is_spent c.stage) seen ∙ spent));
    ended = λ e. absurd (open-ended v w seen was e);
    dropped = λ e. absurd (open-failed v w seen was e);
  }

  -- an item that its stage changed goes up, and others down
  pub takes-up : (v w : ContextView S) → v ≡ w → (i j : Item) (made below : List Event) (before after : OutputsView) (stage : S) (up down : Port)
      → ChangesItem meaning stands_after v.stage i Up stage j made
      → meaning stage ≡ meaning v.stage
      → below ≡ made
      → up ≡ port_after (j ∷ []) v.up
      → down ≡ port_after (as_items below) v.down
      → Appends before (put_out before.stopped v.up (j ∷ []) ++ put_out before.stopped v.down (as_items below)) after
      → TakesItem meaning stands_after is_spent (counted Data w) i before took.Ran (record (counted Data v) { stage = stage; up = up; down = down }) after
  takes-up v w seen i j made below before after stage up down h same all e f out =
      let c = counted Data v in
      subst (λ (s : ContextView S). TakesItem meaning stands_after is_spent (counted Data s) i before took.Ran (record c { stage = stage; up = up; down = down }) after) seen
      (subst (λ (k : Item). TakesItem meaning stands_after is_spent c k before took.Ran (record c { stage = stage; up = up; down = down }) after) (sym h.2)
      (runs-up meaning stands_after c h.0 h.1 made before after stage up down h.4 same
      (e ∙ ap (λ (k : Item). port_after (k ∷ []) c.up) h.3)
      (f ∙ ap (λ (ys : List Event). port_after (as_items ys) c.down) all)
      (subst (λ (ys : List Event). Appends before (put_out before.stopped c.up (item.Event h.1 ∷ []) ++ put_out before.stopped c.down (as_items ys)) after) all
      (subst (λ (k : Item). Appends before (put_out before.stopped c.up (k ∷ []) ++ put_out before.stopped c.down (as_items below)) after) h.3 out))))

  -- it goes down alone
  pub takes-down : (v w : ContextView S) → v ≡ w → (i j : Item) (made : List Event) (before after : OutputsView) (stage : S) (down : Port)
      → ChangesItem meaning stands_after v.stage i Down stage j made
      → meaning stage ≡ meaning v.stage
      → made ≡ []
      → down ≡ port_after (j ∷ []) v.down
      → Appends before (put_out before.stopped v.down (j ∷ [])) after
      → TakesItem meaning stands_after is_spent (counted Data w) i before took.Ran (record (counted Data v) { stage = stage; down = down }) after
  takes-down v w seen i j made before after stage down h same none f out =
      let c = counted Data v in
      subst (λ (s : ContextView S). TakesItem meaning stands_after is_spent (counted Data s) i before took.Ran (record c { stage = stage; down = down }) after) seen
      (subst (λ (k : Item). TakesItem meaning stands_after is_spent c k before took.Ran (record c { stage = stage; down = down }) after) (sym h.2)
      (runs-down meaning stands_after c h.0 h.1 before after stage down
      (subst (λ (ys : List Event). ChangesOne meaning stands_after c.stage h.0 Down stage h.1 ys) none h.4) same
      (f ∙ ap (λ (k : Item). port_after (k ∷ []) c.down) h.3)
      (subst (λ (k : Item). Appends before (put_out before.stopped c.down (k ∷ [])) after) h.3 out)))

  -- there was not room for what it makes
  pub takes-fault : (v w : ContextView S) → v ≡ w → (i j : Item) (made below : List Event) (before mid after : OutputsView) (stage : S) (up down : Port) (c' : ContextView S) (answer : Took)
      → ChangesItem meaning stands_after v.stage i Up stage j made
      → below ≡ made
      → PutsNone (j ∷ []) (as_items below) v.up v.down before up down mid
      → answer ≡ took.Failed Memory
      → GivesLast (standings.Failed Memory) (record (counted Data v) { stage = stage; up = up; down = down }) mid c' after
      → TakesItem meaning stands_after is_spent (counted Data w) i before answer c' after
  takes-fault v w seen i j made below before mid after stage up down c' answer h all kept is closes =
      let c = counted Data v in
      let full = standings.Failed Memory in
      let stage_is : c'.stage ≡ stage = ap (λ (k : ContextView S). k.stage) closes.context in
      let given = item.Fail Memory ∷ [] in
      let less' : before.room < length (offers c.up c.down (item.Event h.1 ∷ []) (as_items made)) =
      subst (λ (ys : List Event). before.room < length (offers c.up c.down (item.Event h.1 ∷ []) (as_items ys))) all
      (subst (λ (k : Item). before.room < length (offers c.up c.down (k ∷ []) (as_items below))) h.3 kept.why) in
      let out : RunsOut meaning stands_after is_spent c h.0 before c' after = record {
        closes = record {
          context = closes.context
              ∙ ap (λ (p : Port). closed full (record c { stage = stage; up = p; down = down })) kept.up
              ∙ ap (λ (p : Port). closed full (record c { stage = stage; down = p })) kept.down
              ∙ ap (λ (s : S). closed full (record c { stage = s })) (sym stage_is);
          out = puts_all-from before mid after (offers c.up c.down given given) kept.items kept.stopped kept.room
              (subst (λ (p : Port). PutsAll mid (offers c.up p given given) after) kept.down
              (subst (λ (p : Port). PutsAll mid (offers p down given given) after) kept.up closes.out));
        };
        why = λ unspent. offers-changed meaning stands_after c.stage stage h.0 h.1 made c.up c.down before.room h.4 less';
      } in
      subst (λ (s : ContextView S). TakesItem meaning stands_after is_spent (counted Data s) i before answer c' after) seen
      (subst (λ (k : Item). TakesItem meaning stands_after is_spent c k before answer c' after) (sym h.2)
      (subst (λ (a : Took). TakesEvent meaning stands_after is_spent c h.0 before a c' after) (sym is) (refl, out)))
