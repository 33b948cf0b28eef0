-- What a port is given, by lane: one port after the other.
use Rattle.std.proofs.Common.{◌≡◌, ℕ, ◌+◌, Bool, true, false, not, ◌&&◌, cond, List, [], ◌∷◌, ◌++◌, length, refl, ap, sym, ◌∙◌, subst, ⊎_elim, append-nil, append_assoc, arith, length-append}
use Rattle.std.proofs.lemmas.Bool.{cond-true, cond-false, cases_Bool, both_ways, and_right, and_from, and_left, and_parts, or_left, or_right}
use Rattle.pl_event.specs.declared.envelopes.Kind.TheVariants.{Data, Flags}
use Rattle.pl_event.specs.declared.envelopes.Lane.{Lane}
use Rattle.pl_event.specs.declared.envelopes.Item.{Item}
use Rattle.pl_event.specs.declared.envelopes.Item.TheVariants as item
use Rattle.pl_event.specs.declared.envelopes.Envelope.{Envelope}
use Rattle.pl_context.specs.declared.added.Added.{Added}
use Rattle.pl_context.specs.declared.added.Added.TheVariants.{Last, Refused, Discarded}
use Rattle.pl_context.specs.declared.ports.Port.{Port}
use Rattle.pl_context.specs.Stops.{StopsView, has_stopped}
use Rattle.pl_context.specs.OutputsViews.{OutputsView, Puts, PutsAll, Appends}
use Rattle.pl_context.specs.Ports.{numbered, all_go_on, offered, put_out, port_after, flag_port_after}
use Rattle.pl_event.specs.Hops.{same_lane}
use Rattle.pl_event.specs.Worlds.{World}
use Rattle.pl_event.proofs.SameLanes.{same_lane-equal, same_lane-self}
use Rattle.pl_flow.specs.Flows.{Point, point, nowhere, IsNext, IsGood, after}
use Rattle.pl_part.specs.ContextHolds.{port_point, ports_came, ports_write}
use Rattle.pl_flow.specs.Makes.{Makes, made_one, made_all, NoneStopped, AreGood}
use Rattle.pl_flow.proofs.MakeLemmas.{all-put, one-put, makes-none, makes-then, stops-here}
use Rattle.pl_flow.proofs.PortFlows.{appends-makes, numbered-next, numbered-made, numbered-other}

-- where a lane that has not stopped has come
pub makes-to : (world : World) (writes : Lane → Bool) (from to to' : Lane → Point) (b a : OutputsView) → Makes world writes from to b a → ((l : Lane) → has_stopped a.stopped l ≡ false → to' l ≡ to l)
    → Makes world writes from to' b a
makes-to world writes from to to' b a m same = record {
  added = m.added;
  items = m.items;
  lanes = λ l. record {
    idle = (m.lanes l).idle;
    discards = (m.lanes l).discards;
    flow = (m.lanes l).flow;
    up_to = λ f. (m.lanes l).up_to f ∙ sym (same l f);
  };
}

-- ---- one port

-- where each lane is once a port has moved
abbrev pub moved : (Lane → Point) → Port → Port → Lane → Point
moved from p q l = cond (p.is_open && same_lane l p.lane) (port_point q) (from l)

module _ (world : World) (writes : Lane → Bool) (from : Lane → Point) (p : Port) (own : p.is_open ≡ true → writes p.lane ≡ true) (at : p.is_open ≡ true → from p.lane ≡ point p.made false)
    (is : List Item) (good : p.is_open ≡ true → AreGood world p.lane p.made is) where
  moved-open : p.is_open ≡ true → (l : Lane) → moved from p (port_after is p) l ≡ made_all from (numbered p.lane p.made is) l
  moved-open t l = ⊎_elim
      (λ (e : same_lane l p.lane ≡ true).
      cond-true (p.is_open && same_lane l p.lane) (port_point (port_after is p)) (from l) (and_from p.is_open (same_lane l p.lane) t e)
      ∙ ap (λ (o : Bool). point (cond o (p.made + length is) p.made) (not (o && all_go_on is))) t
      ∙ sym (numbered-made world p.lane is p.made from (at t) (good t))
      ∙ ap (λ (m : Lane). made_all from (numbered p.lane p.made is) m) (sym (same_lane-equal l p.lane e)))
      (λ (e : same_lane l p.lane ≡ false).
      cond-false (p.is_open && same_lane l p.lane) (port_point (port_after is p)) (from l) (and_right p.is_open (same_lane l p.lane) e)
      ∙ sym (numbered-other p.lane is p.made from l e))
      (cases_Bool (same_lane l p.lane))

  moved-closed : p.is_open ≡ false → (l : Lane) → moved from p (port_after is p) l ≡ from l
  moved-closed f l = cond-false (p.is_open && same_lane l p.lane) (port_point (port_after is p)) (from l) (and_left p.is_open (same_lane l p.lane) f)

  -- It is given items, each of which finds a place, or is refused or discarded.
  pub port-puts : (b a : OutputsView) → PutsAll b (offered p is) a → Makes world writes from (moved from p (port_after is p)) b a
  port-puts b a puts = ⊎_elim
      (λ (t : p.is_open ≡ true).
      let es = numbered p.lane p.made is in
      let all = subst (λ zs. PutsAll b zs a) (cond-true p.is_open es [] t) puts in
      makes-to world writes from (made_all from es) (moved from p (port_after is p)) b a
      (all-put world writes es from b a (numbered-next world writes p.lane is p.made from (own t) (at t) (good t)) all) (λ l n. moved-open t l))
      (λ (f : p.is_open ≡ false).
      let none = subst (λ zs. PutsAll b zs a) (cond-false p.is_open (numbered p.lane p.made is) [] f) puts in
      makes-to world writes from from (moved from p (port_after is p)) b a (makes-none world writes from b a none.0 none.1) (λ l n. moved-closed f l))
      (cases_Bool p.is_open)

  none-here : (s : StopsView) (lane : Lane) (n : ℕ) (js : List Item) → has_stopped s lane ≡ false → NoneStopped s (numbered lane n js)
  none-here s lane n [] f = tt
  none-here s lane n (j ∷ js) f = (f, none-here s lane (n + 1) js f)

  -- It is given items for which there is room.
  pub port-appends : (b a : OutputsView) → Appends b (put_out b.stopped p is) a → Makes world writes from (moved from p (port_after is p)) b a
  port-appends b a appends = ⊎_elim
      (λ (t : p.is_open ≡ true).
      let es = numbered p.lane p.made is in
      let out = cond-true p.is_open (cond (has_stopped b.stopped p.lane) [] es) [] t in
      ⊎_elim
      (λ (s : has_stopped b.stopped p.lane ≡ true).
      let none = subst (λ zs. Appends b zs a) (out ∙ cond-true (has_stopped b.stopped p.lane) [] es s) appends in
      makes-to world writes from from (moved from p (port_after is p)) b a (makes-none world writes from b a (none.items ∙ append-nil b.items) none.stopped)
      (λ l n. cond-false (p.is_open && same_lane l p.lane) (port_point (port_after is p)) (from l)
      (and_right p.is_open (same_lane l p.lane) (other l (ap (λ (k : StopsView). has_stopped k l) (sym appends.stopped) ∙ n) s))))
      (λ (s : has_stopped b.stopped p.lane ≡ false).
      let all = subst (λ zs. Appends b zs a) (out ∙ cond-false (has_stopped b.stopped p.lane) [] es s) appends in
      appends-makes world writes es from (moved from p (port_after is p)) b a (numbered-next world writes p.lane is p.made from (own t) (at t) (good t)) (none-here b.stopped p.lane p.made is s) all
      (λ l n. moved-open t l))
      (cases_Bool (has_stopped b.stopped p.lane)))
      (λ (f : p.is_open ≡ false).
      let none = subst (λ zs. Appends b zs a) (cond-false p.is_open (cond (has_stopped b.stopped p.lane) [] (numbered p.lane p.made is)) [] f) appends in
      makes-to world writes from from (moved from p (port_after is p)) b a (makes-none world writes from b a (none.items ∙ append-nil b.items) none.stopped) (λ l n. moved-closed f l))
      (cases_Bool p.is_open)
    where
      other : (l : Lane) → has_stopped b.stopped l ≡ false → has_stopped b.stopped p.lane ≡ true → same_lane l p.lane ≡ false
      other l f s = ⊎_elim
          (λ (e : same_lane l p.lane ≡ true). absurd (both_ways (has_stopped b.stopped l) f (ap (λ (m : Lane). has_stopped b.stopped m) (same_lane-equal l p.lane e) ∙ s)))
          (λ (e : same_lane l p.lane ≡ false). e)
          (cases_Bool (same_lane l p.lane))

-- ---- one port's items, and then the other's

pub puts-split : (b a : OutputsView) (es fs : List Envelope) → PutsAll b (es ++ fs) a → (mid : OutputsView) × PutsAll b es mid × PutsAll mid fs a
puts-split b a [] fs puts = (b, (refl, refl, omega arith), puts)
puts-split b a (e ∷ es) fs puts =
    let rest = puts-split puts.1 a es fs puts.3 in
    (rest.0, (puts.0, puts.1, puts.2, rest.1), rest.2)

pub appends-split : (b a : OutputsView) (es fs : List Envelope) → Appends b (es ++ fs) a → (mid : OutputsView) × (mid.stopped ≡ b.stopped) × Appends b es mid × Appends mid fs a
appends-split b a es fs h =
    let mid : OutputsView = record { items = b.items ++ es; stopped = b.stopped; room = a.room + length fs } in
    let r = h.room in
    let n = length-append es fs in (
      mid,
      refl,
      record { items = refl; stopped = refl; room = omega (arith, r, n) },
      record { items = h.items ∙ sym (append_assoc b.items es fs); stopped = h.stopped; room = omega arith },
    )

-- ---- a stage's ports

same-back : (a b : Lane) → same_lane a b ≡ false → same_lane b a ≡ true → ⊥
same-back a b f t = both_ways (same_lane a b) f (ap (λ (m : Lane). same_lane a m) (same_lane-equal b a t) ∙ same_lane-self a)

module _ (hu hd : Bool) (p q f : Port) (up_has : p.is_open ≡ true → hu ≡ true) (down_has : q.is_open ≡ true → hd ≡ true) (apart : hu ≡ true → hd ≡ true → same_lane p.lane q.lane ≡ false) where
  not-both : (l : Lane) → hu ≡ true → hd ≡ true → same_lane l p.lane ≡ true → same_lane l q.lane ≡ true → ⊥
  not-both l u d e g = both_ways (same_lane p.lane q.lane) (apart u d) (ap (λ (m : Lane). same_lane m q.lane) (sym (same_lane-equal l p.lane e)) ∙ g)

  pub up-writes : p.is_open ≡ true → ports_write hu hd p.lane q.lane f.lane p.lane ≡ true
  up-writes o = or_left (hu && same_lane p.lane p.lane) _ (and_from hu (same_lane p.lane p.lane) (up_has o) (same_lane-self p.lane))

  pub down-writes : q.is_open ≡ true → ports_write hu hd p.lane q.lane f.lane q.lane ≡ true
  down-writes o = or_right (hu && same_lane q.lane p.lane) _ (or_left (hd && same_lane q.lane q.lane) _ (and_from hd (same_lane q.lane q.lane) (down_has o) (same_lane-self q.lane)))

  pub up-at : p.is_open ≡ true → ports_came hu hd p q f p.lane ≡ point p.made false
  up-at o =
      cond-true (hu && same_lane p.lane p.lane) (port_point p) _ (and_from hu (same_lane p.lane p.lane) (up_has o) (same_lane-self p.lane))
      ∙ ap (λ (b : Bool). point p.made (not b)) o

  not-up : q.is_open ≡ true → (hu && same_lane q.lane p.lane) ≡ false
  not-up o = ⊎_elim
      (λ (u : hu ≡ true). ⊎_elim
      (λ (e : same_lane q.lane p.lane ≡ true). absurd (same-back p.lane q.lane (apart u (down_has o)) e))
      (λ (e : same_lane q.lane p.lane ≡ false). and_right hu (same_lane q.lane p.lane) e)
      (cases_Bool (same_lane q.lane p.lane)))
      (λ (u : hu ≡ false). and_left hu (same_lane q.lane p.lane) u)
      (cases_Bool hu)

  not-moved : (l : Lane) → (hu && same_lane l p.lane) ≡ false → (p.is_open && same_lane l p.lane) ≡ false
  not-moved l e = ⊎_elim
      (λ (o : p.is_open ≡ true). and_right p.is_open (same_lane l p.lane) (ap (λ (b : Bool). b && same_lane l p.lane) (sym (up_has o)) ∙ e))
      (λ (o : p.is_open ≡ false). and_left p.is_open (same_lane l p.lane) o)
      (cases_Bool p.is_open)

  not-moved-down : (l : Lane) → (hd && same_lane l q.lane) ≡ false → (q.is_open && same_lane l q.lane) ≡ false
  not-moved-down l e = ⊎_elim
      (λ (o : q.is_open ≡ true). and_right q.is_open (same_lane l q.lane) (ap (λ (b : Bool). b && same_lane l q.lane) (sym (down_has o)) ∙ e))
      (λ (o : q.is_open ≡ false). and_left q.is_open (same_lane l q.lane) o)
      (cases_Bool q.is_open)

  pub down-at : (p' : Port) → q.is_open ≡ true → moved (ports_came hu hd p q f) p p' q.lane ≡ point q.made false
  down-at p' o =
      cond-false (p.is_open && same_lane q.lane p.lane) (port_point p') _ (not-moved q.lane (not-up o))
      ∙ cond-false (hu && same_lane q.lane p.lane) (port_point p) _ (not-up o)
      ∙ cond-true (hd && same_lane q.lane q.lane) (port_point q) _ (and_from hd (same_lane q.lane q.lane) (down_has o) (same_lane-self q.lane))
      ∙ ap (λ (b : Bool). point q.made (not b)) o

  same-closed : (r : Port) (is : List Item) → r.is_open ≡ false → port_point (port_after is r) ≡ port_point r
  same-closed r is o =
      ap (λ (b : Bool). point (cond b (r.made + length is) r.made) (not (b && all_go_on is))) o ∙ ap (λ (b : Bool). point r.made (not b)) (sym o)

  -- how far each lane has come once both ports were given items
  pub came-after : (is js : List Item) (l : Lane) → ports_came hu hd (port_after is p) (port_after js q) f l
      ≡ moved (moved (ports_came hu hd p q f) p (port_after is p)) q (port_after js q) l
  came-after is js l =
      let came = ports_came hu hd p q f in
      let p' = port_after is p in
      let q' = port_after js q in
      ⊎_elim
      (λ (u : (hu && same_lane l p.lane) ≡ true).
      let us = and_parts hu (same_lane l p.lane) u in
      let none : (q.is_open && same_lane l q.lane) ≡ false = ⊎_elim
      (λ (e : same_lane l q.lane ≡ true). ⊎_elim
      (λ (o : q.is_open ≡ true). absurd (not-both l us.0 (down_has o) us.1 e))
      (λ (o : q.is_open ≡ false). and_left q.is_open (same_lane l q.lane) o)
      (cases_Bool q.is_open))
      (λ (e : same_lane l q.lane ≡ false). and_right q.is_open (same_lane l q.lane) e)
      (cases_Bool (same_lane l q.lane)) in
      cond-true (hu && same_lane l p.lane) (port_point p') _ u
      ∙ ⊎_elim
      (λ (o : p.is_open ≡ true). sym (cond-true (p.is_open && same_lane l p.lane) (port_point p') (came l) (and_from p.is_open (same_lane l p.lane) o us.1)))
      (λ (o : p.is_open ≡ false). same-closed p is o ∙ sym (cond-true (hu && same_lane l p.lane) (port_point p) _ u)
      ∙ sym (cond-false (p.is_open && same_lane l p.lane) (port_point p') (came l) (and_left p.is_open (same_lane l p.lane) o)))
      (cases_Bool p.is_open)
      ∙ sym (cond-false (q.is_open && same_lane l q.lane) (port_point q') (moved came p p' l) none))
      (λ (u : (hu && same_lane l p.lane) ≡ false).
      let still = cond-false (p.is_open && same_lane l p.lane) (port_point p') (came l) (not-moved l u) in
      cond-false (hu && same_lane l p.lane) (port_point p') _ u
      ∙ ⊎_elim
      (λ (d : (hd && same_lane l q.lane) ≡ true).
      let ds = and_parts hd (same_lane l q.lane) d in
      cond-true (hd && same_lane l q.lane) (port_point q') _ d
      ∙ ⊎_elim
      (λ (o : q.is_open ≡ true). sym (cond-true (q.is_open && same_lane l q.lane) (port_point q') (moved came p p' l) (and_from q.is_open (same_lane l q.lane) o ds.1)))
      (λ (o : q.is_open ≡ false). same-closed q js o ∙ sym (cond-true (hd && same_lane l q.lane) (port_point q) _ d)
      ∙ sym (cond-false (hu && same_lane l p.lane) (port_point p) _ u) ∙ sym still
      ∙ sym (cond-false (q.is_open && same_lane l q.lane) (port_point q') (moved came p p' l) (and_left q.is_open (same_lane l q.lane) o)))
      (cases_Bool q.is_open))
      (λ (d : (hd && same_lane l q.lane) ≡ false).
      cond-false (hd && same_lane l q.lane) (port_point q') _ d
      ∙ sym (cond-false (hd && same_lane l q.lane) (port_point q) _ d)
      ∙ sym (cond-false (hu && same_lane l p.lane) (port_point p) _ u) ∙ sym still
      ∙ sym (cond-false (q.is_open && same_lane l q.lane) (port_point q') (moved came p p' l) (not-moved-down l d)))
      (cases_Bool (hd && same_lane l q.lane)))
      (cases_Bool (hu && same_lane l p.lane))

  -- Both ports are given items.
  module _ (world : World) (is js : List Item) (above : p.is_open ≡ true → AreGood world p.lane p.made is) (below : q.is_open ≡ true → AreGood world q.lane q.made js) (b a : OutputsView) where
    joined : (mid : OutputsView) → Makes world (ports_write hu hd p.lane q.lane f.lane) (ports_came hu hd p q f) (moved (ports_came hu hd p q f) p (port_after is p)) b mid
        → Makes world (ports_write hu hd p.lane q.lane f.lane) (moved (ports_came hu hd p q f) p (port_after is p)) (moved (moved (ports_came hu hd p q f) p (port_after is p)) q (port_after js q)) mid a
        → Makes world (ports_write hu hd p.lane q.lane f.lane) (ports_came hu hd p q f) (ports_came hu hd (port_after is p) (port_after js q) f) b a
    joined mid one two =
        let writes = ports_write hu hd p.lane q.lane f.lane in
        let came = ports_came hu hd p q f in
        let first = moved came p (port_after is p) in
        makes-to world writes came (moved first q (port_after js q)) (ports_came hu hd (port_after is p) (port_after js q) f) b a
        (makes-then world writes came first (moved first q (port_after js q)) b mid a one two) (λ l n. came-after is js l)

    pub both-put : PutsAll b (offered p is ++ offered q js) a → Makes world (ports_write hu hd p.lane q.lane f.lane) (ports_came hu hd p q f) (ports_came hu hd (port_after is p) (port_after js q) f) b a
    both-put puts =
        let s = puts-split b a (offered p is) (offered q js) puts in
        let writes = ports_write hu hd p.lane q.lane f.lane in
        let came = ports_came hu hd p q f in
        joined s.0 (port-puts world writes came p up-writes up-at is above b s.0 s.1)
        (port-puts world writes (moved came p (port_after is p)) q down-writes (down-at (port_after is p)) js below s.0 a s.2)

    pub both-append : Appends b (put_out b.stopped p is ++ put_out b.stopped q js) a → Makes world (ports_write hu hd p.lane q.lane f.lane) (ports_came hu hd p q f) (ports_came hu hd (port_after is p) (port_after js q) f) b a
    both-append out =
        let s = appends-split b a (put_out b.stopped p is) (put_out b.stopped q js) out in
        let writes = ports_write hu hd p.lane q.lane f.lane in
        let came = ports_came hu hd p q f in
        joined s.0 (port-appends world writes came p up-writes up-at is above b s.0 s.2)
        (port-appends world writes (moved came p (port_after is p)) q down-writes (down-at (port_after is p)) js below s.0 a
        (subst (λ (k : StopsView). Appends s.0 (put_out k q js) a) (sym s.1) s.3))

-- ---- a flag

flag-apart : (l r : Lane) → l.kind ≡ Flags → r.kind ≡ Data → same_lane l r ≡ false
flag-apart l r e f = ⊎_elim
    (λ (t : same_lane l r ≡ true). let both : Flags ≡ Data = sym e ∙ ap (λ (x : Lane). x.kind) (same_lane-equal l r t) ∙ f in absurd (kinds-apart both))
    (λ (t : same_lane l r ≡ false). t)
    (cases_Bool (same_lane l r))
  where
    kinds-apart : Flags ≡ Data → ⊥
    kinds-apart e = cc

module _ (hu hd : Bool) (p q f : Port) (has : f.is_open ≡ true → hu ≡ true) (aside : f.lane.kind ≡ Flags) (above : p.lane.kind ≡ Data) (below : q.lane.kind ≡ Data) (world : World) (goes : f.is_open ≡ true) (value : Bool)
    (good : IsGood world (record { lane = f.lane; number = f.made; item = item.Flag value })) (b a : OutputsView) where
  here-up : (hu && same_lane f.lane p.lane) ≡ false
  here-up = and_right hu (same_lane f.lane p.lane) (flag-apart f.lane p.lane aside above)

  here-down : (hd && same_lane f.lane q.lane) ≡ false
  here-down = and_right hd (same_lane f.lane q.lane) (flag-apart f.lane q.lane aside below)

  flag-came : (g : Port) → g.lane ≡ f.lane → ports_came hu hd p q g f.lane ≡ port_point g
  flag-came g same =
      cond-false (hu && same_lane f.lane p.lane) (port_point p) _ here-up
      ∙ cond-false (hd && same_lane f.lane q.lane) (port_point q) _ here-down
      ∙ cond-true (hu && same_lane f.lane g.lane) (port_point g) nowhere (and_from hu (same_lane f.lane g.lane) (has goes) (ap (λ (m : Lane). same_lane f.lane m) same ∙ same_lane-self f.lane))

  flag-else : (g : Port) → g.lane ≡ f.lane → (l : Lane) → same_lane l f.lane ≡ false → ports_came hu hd p q g l ≡ ports_came hu hd p q f l
  flag-else g same l e = ap (λ (t : Point). cond (hu && same_lane l p.lane) (port_point p) (cond (hd && same_lane l q.lane) (port_point q) t))
      (cond-false (hu && same_lane l g.lane) (port_point g) nowhere (and_right hu (same_lane l g.lane) (ap (λ (m : Lane). same_lane l m) same ∙ e))
      ∙ sym (cond-false (hu && same_lane l f.lane) (port_point f) nowhere (and_right hu (same_lane l f.lane) e)))

  abbrev pub flag : Envelope
  flag = record { lane = f.lane; number = f.made; item = item.Flag value }

  flag-lane : (answer : Added) → (flag_port_after answer f).lane ≡ f.lane
  flag-lane Last = refl
  flag-lane Refused = refl
  flag-lane Discarded = refl

  flag-here : (answer : Added) → Puts b flag answer a → has_stopped a.stopped f.lane ≡ false → port_point (flag_port_after answer f) ≡ after flag
  flag-here Last puts n = ap (λ (t : Bool). point (f.made + 1) (not t)) goes
  flag-here Refused puts n = absurd (both_ways (has_stopped a.stopped f.lane) n (ap (λ (s : StopsView). has_stopped s f.lane) puts.stopped ∙ stops-here b.stopped f.lane))
  flag-here Discarded puts n = absurd (both_ways (has_stopped a.stopped f.lane) n (ap (λ (s : StopsView). has_stopped s f.lane) puts.stopped ∙ puts.discarded.0 refl))

  flag-writes : ports_write hu hd p.lane q.lane f.lane f.lane ≡ true
  flag-writes = or_right (hu && same_lane f.lane p.lane) _ (or_right (hd && same_lane f.lane q.lane) (hu && same_lane f.lane f.lane) (and_from hu (same_lane f.lane f.lane) (has goes) (same_lane-self f.lane)))

  -- A flag is handed on, or its lane stops.
  pub flag-put : (answer : Added) → Puts b flag answer a → Makes world (ports_write hu hd p.lane q.lane f.lane) (ports_came hu hd p q f) (ports_came hu hd p q (flag_port_after answer f)) b a
  flag-put answer puts =
      let came = ports_came hu hd p q f in
      let writes = ports_write hu hd p.lane q.lane f.lane in
      let at = flag-came f refl in
      let next : IsNext world (came f.lane) flag = record { over = ap (λ (t : Point). t.over) at ∙ ap not goes; number = sym (ap (λ (t : Point). t.next) at); good = good } in
      makes-to world writes came (made_one came flag) (ports_came hu hd p q (flag_port_after answer f)) b a (one-put world writes came b a flag flag-writes next answer puts)
      (λ l n. ⊎_elim
      (λ (e : same_lane l f.lane ≡ true).
      let same = same_lane-equal l f.lane e in
      ap (λ (m : Lane). ports_came hu hd p q (flag_port_after answer f) m) same ∙ flag-came (flag_port_after answer f) (flag-lane answer)
      ∙ flag-here answer puts (ap (λ (m : Lane). has_stopped a.stopped m) (sym same) ∙ n)
      ∙ sym (cond-true (same_lane l f.lane) (after flag) (came l) e))
      (λ (e : same_lane l f.lane ≡ false).
      flag-else (flag_port_after answer f) (flag-lane answer) l e ∙ sym (cond-false (same_lane l f.lane) (after flag) (came l) e))
      (cases_Bool (same_lane l f.lane)))
