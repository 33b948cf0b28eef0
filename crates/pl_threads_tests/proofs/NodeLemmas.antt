-- What the nodes of the tests make, and what they have taken.
use Rattle.std.proofs.Common.{arith, ◌≡◌, ◌≢◌, ◌<◌, ◌^◌, ◌%◌, ◌+◌, ◌==◌, ◌&&◌, ◌||◌, ℕ, Bool, true, false, not, nat_le, cond, List, [], ◌∷◌, Some, refl, ap, sym, ◌∙◌, subst, ⊎_elim}
use Rattle.std.proofs.lemmas.Bool.{cond-true, cond-false, cases_Bool, both_ways, or_left, or_right, or_cases, and_parts, and_from, eqb-true, eq-eqb}
use Rattle.std.proofs.Math.Dec.{leb-zero}
use Rattle.std.specs.List.{list_any}
use Rattle.pl_event.specs.declared.envelopes.Envelope.{Envelope}
use Rattle.pl_event.specs.declared.envelopes.Item.TheVariants as item
use Rattle.pl_event.specs.declared.envelopes.Kind.{Kind}
use Rattle.pl_event.specs.declared.envelopes.Kind.TheVariants.{Data, Flags}
use Rattle.pl_event.specs.declared.envelopes.Lane.{Lane}
use Rattle.pl_event.specs.Hops.{same_hop, same_kind, same_lane}
use Rattle.pl_event.specs.Worlds.{World, FitsWorld, closes}
use Rattle.pl_event.proofs.SameLanes.{same_lane-equal, same_lane-self}
use Rattle.pl_context.specs.declared.added.Added.{Added}
use Rattle.pl_context.specs.OutputsViews.{OutputsView, Puts}
use Rattle.pl_context.specs.Stops.{AreAmong, has_stopped}
use Rattle.pl_queue.specs.declared.views.SendCount.{SendCount}
use Rattle.pl_queue.specs.declared.views.SenderView.{SenderView}
use Rattle.pl_queue.specs.Views.{after_offer, send_count, sent_of, set_send_count}
use Rattle.pl_flow.specs.Flows.{Point, point, on}
use Rattle.pl_flow.specs.Makes.{Makes, LaneGrows, made_one}
use Rattle.pl_flow.proofs.MakeLemmas.{one-put}
use Rattle.pl_threads.specs.NodesViews.{NodesKeep}
use Rattle.pl_threads_tests.specs.declared.nodes.Node.{Node}
use Rattle.pl_threads_tests.specs.declared.nodes.Outlet.{Outlet}
use Rattle.pl_threads_tests.specs.Nodes.{NodeStands, came, has_made_all, lane_to, makes, node_view, outlets_of, taken_of, target_of, writes}

-- how far lanes come may be said in other words
makes-to : (world : World) (w : Lane → Bool) (from to to' : Lane → Point) (b a : OutputsView) → ((l : Lane) → to l ≡ to' l) → Makes world w from to b a → Makes world w from to' b a
makes-to world w from to to' b a same m = record {
  added = m.added;
  items = m.items;
  lanes = λ l. subst (λ (p : Point). LaneGrows world (w l) (has_stopped b.stopped l) (has_stopped a.stopped l) (from l) (on l m.added) p) (same l) (m.lanes l);
}

-- a flag fits any world
pub flag-fits : (world : World) (x : Envelope) (executor n : ℕ) → x.lane ≡ lane_to executor → x.number ≡ n → x.item ≡ item.Flag (n % 2 == 1) → FitsWorld world x
unfolding FitsWorld
flag-fits world x executor n lane number is =
    subst (λ (y : Envelope). FitsWorld world y) (λ i. record { lane = sym lane i; number = sym number i; item = sym is i }) refl

-- what an outlet makes goes on its lane
pub makes-lane : (o : Outlet) (l : Lane) → makes o l ≡ true → l ≡ lane_to o.target
makes-lane o l e = same_lane-equal l (lane_to o.target) (and_parts _ _ e).1

-- so a lane that is written enters the executor of its hop
pub target-written : (n : Node) (l : Lane) → writes n l ≡ true → target_of l ≡ l.hop
target-written n l w = ⊎_elim (own n.first) (own n.second) (or_cases (makes n.first l) (makes n.second l) w)
  where
    own : (o : Outlet) → makes o l ≡ true → target_of l ≡ l.hop
    own o e = subst (λ (m : Lane). target_of m ≡ m.hop) (sym (makes-lane o l e)) (cond-true ((o.target == o.target) && same_kind Flags Flags) o.target 65536 (and_from (o.target == o.target) (same_kind Flags Flags) (eq-eqb o.target o.target refl) refl))

pub makes-some : (o : Outlet) (l : Lane) → (o.count == 0) ≡ false → makes o l ≡ same_lane l (lane_to o.target)
makes-some o l some = ap (λ (b : Bool). not b && same_lane l (lane_to o.target)) some

makes-own : (o : Outlet) → (o.count == 0) ≡ false → (x : Lane) → x ≡ lane_to o.target → makes o x ≡ true
makes-own o some x is = makes-some o x some ∙ ap (λ (m : Lane). same_lane m (lane_to o.target)) is ∙ same_lane-self (lane_to o.target)

makes-none : (o : Outlet) (x : Lane) (target : ℕ) → o.target ≢ target → x ≡ lane_to target → makes o x ≡ false
makes-none o x target apart is = ⊎_elim
    (λ (t : makes o x ≡ true). absurd (apart (ap (λ (l : Lane). l.hop) (sym (makes-lane o x t) ∙ is))))
    (λ (f : makes o x ≡ false). f) (cases_Bool (makes o x))

-- where one is left to make, some are
pub makes-more : (o : Outlet) → has_made_all o ≡ false → (o.count == 0) ≡ false
makes-more o more = ⊎_elim
    (λ (t : (o.count == 0) ≡ true). absurd (both_ways (has_made_all o) more (or_right o.is_refused (nat_le o.count o.made) (ap (λ (n : ℕ). nat_le n o.made) (eqb-true o.count 0 t) ∙ leb-zero o.made))))
    (λ (f : (o.count == 0) ≡ false). f) (cases_Bool (o.count == 0))

module _ (world : World) (n : Node) (s : NodeStands n) (b a : OutputsView) (x : Envelope) (answer : Added) (small : x.number < 2 ^ 32) (puts : Puts b x answer a) where
  pub first-made : (n' : Node) → n' ≡ record n { first = record n.first { made = n.first.made + 1 } } → has_made_all n.first ≡ false → x.lane ≡ lane_to n.first.target → x.number ≡ n.first.made → x.item ≡ item.Flag (n.first.made % 2 == 1) → Makes world (writes n) (came n) (came n') b a
  first-made n' is more lane number flag =
      let some = makes-more n.first more in
      let own : makes n.first x.lane ≡ true = makes-own n.first some x.lane lane in
      let here : came n x.lane ≡ point n.first.made false = cond-true _ _ _ own in
      subst (λ (m : Node). Makes world (writes n) (came n) (came m) b a) (sym is)
      (makes-to world (writes n) (came n) (made_one (came n) x) (came (record n { first = record n.first { made = n.first.made + 1 } })) b a
      (λ l. ⊎_elim
      (λ (t : same_lane l x.lane ≡ true).
      cond-true _ _ _ t ∙ (λ i. point (number i + 1) (ap (λ z. closes z) flag i))
      ∙ sym (cond-true _ _ _ (makes-own n.first some l (same_lane-equal l x.lane t ∙ lane))))
      (λ (f : same_lane l x.lane ≡ false).
      let other : makes n.first l ≡ false = makes-some n.first l some ∙ ap (λ (m : Lane). same_lane l m) (sym lane) ∙ f in
      cond-false _ _ _ f ∙ cond-false _ _ _ other ∙ sym (cond-false _ _ _ other))
      (cases_Bool (same_lane l x.lane)))
      (one-put world (writes n) (came n) b a x (or_left _ _ own)
      (record { over = ap (λ (p : Point). p.over) here; number = number ∙ sym (ap (λ (p : Point). p.next) here); good = record { fits = flag-fits world x n.first.target n.first.made lane number flag; small = small } }) answer puts))

  pub second-made : (n' : Node) → n' ≡ record n { second = record n.second { made = n.second.made + 1 } } → has_made_all n.second ≡ false → x.lane ≡ lane_to n.second.target → x.number ≡ n.second.made → x.item ≡ item.Flag (n.second.made % 2 == 1) → Makes world (writes n) (came n) (came n') b a
  second-made n' is more lane number flag =
      let some = makes-more n.second more in
      let own : makes n.second x.lane ≡ true = makes-own n.second some x.lane lane in
      let not-first : makes n.first x.lane ≡ false = makes-none n.first x.lane n.second.target s.apart lane in
      let here : came n x.lane ≡ point n.second.made false = cond-false _ _ _ not-first ∙ cond-true _ _ _ own in
      subst (λ (m : Node). Makes world (writes n) (came n) (came m) b a) (sym is)
      (makes-to world (writes n) (came n) (made_one (came n) x) (came (record n { second = record n.second { made = n.second.made + 1 } })) b a
      (λ l. ⊎_elim
      (λ (t : same_lane l x.lane ≡ true).
      let at : l ≡ lane_to n.second.target = same_lane-equal l x.lane t ∙ lane in
      cond-true _ _ _ t ∙ (λ i. point (number i + 1) (ap (λ z. closes z) flag i))
      ∙ sym (cond-true _ _ _ (makes-own n.second some l at)) ∙ sym (cond-false _ _ _ (makes-none n.first l n.second.target s.apart at)))
      (λ (f : same_lane l x.lane ≡ false).
      let other : makes n.second l ≡ false = makes-some n.second l some ∙ ap (λ (m : Lane). same_lane l m) (sym lane) ∙ f in
      cond-false _ _ _ f
      ∙ ap (λ (p : Point). cond (makes n.first l) (point n.first.made false) p) (cond-false _ _ _ other ∙ sym (cond-false _ _ _ other)))
      (cases_Bool (same_lane l x.lane)))
      (one-put world (writes n) (came n) b a x (or_right _ _ own)
      (record { over = ap (λ (p : Point). p.over) here; number = number ∙ sym (ap (λ (p : Point). p.next) here); good = record { fits = flag-fits world x n.second.target n.second.made lane number flag; small = small } }) answer puts))

pub second-among : (n : Node) (hops : List Lane) (lane : Lane) → lane ≡ lane_to n.second.target → AreAmong (outlets_of n) hops → AreAmong (lane ∷ []) hops
second-among n hops lane is among l own = among l (or_right (same_hop l (lane_to n.first.target)) _ (subst (λ (m : Lane). list_any (same_hop l) (m ∷ []) ≡ true) is own))

-- ---- what comes

same-flags : (k : Kind) → same_kind k Flags ≡ true → k ≡ Flags
same-flags Data e = absurd (both_ways false refl e)
same-flags Flags e = refl

-- what enters an executor is on its lane
pub enters-own : (l : Lane) (executor : ℕ) → executor < 2 ^ 16 → target_of l ≡ executor → l ≡ lane_to executor
enters-own l executor small here = ⊎_elim
    (λ (t : ((l.channel == l.hop) && same_kind l.kind Flags) ≡ true).
    let hop : l.hop ≡ executor = sym (cond-true _ _ _ t) ∙ here in
    let parts = and_parts _ _ t in
    let channel : l.channel ≡ executor = eqb-true l.channel l.hop parts.0 ∙ hop in
    let kind : l.kind ≡ Flags = same-flags l.kind parts.1 in
    λ i. record { channel = channel i; kind = kind i; hop = hop i })
    (λ (f : ((l.channel == l.hop) && same_kind l.kind Flags) ≡ false).
    let none : 65536 ≡ executor = sym (cond-false _ _ _ f) ∙ here in absurd (omega (arith, none, small)))
    (cases_Bool ((l.channel == l.hop) && same_kind l.kind Flags))

-- one more has come
pub taken-one : (n n' : Node) → NodeStands n → (lane : Lane) (count : ℕ) → target_of lane ≡ n.executor → n'.executor ≡ n.executor → n'.taken ≡ count → taken_of n' ≡ (λ l. cond (same_lane l lane) count (taken_of n l))
taken-one n n' s lane count here same more = λ i l. at l i
  where
    at : (l : Lane) → taken_of n' l ≡ cond (same_lane l lane) count (taken_of n l)
    at l =
        let is : lane ≡ lane_to n.executor = enters-own lane n.executor s.small here in
        ⊎_elim
        (λ (t : same_lane l (lane_to n.executor) ≡ true).
        cond-true _ _ _ (ap (λ (e : ℕ). same_lane l (lane_to e)) same ∙ t) ∙ more ∙ sym (cond-true _ _ _ (ap (λ (m : Lane). same_lane l m) is ∙ t)))
        (λ (f : same_lane l (lane_to n.executor) ≡ false).
        cond-false _ _ _ (ap (λ (e : ℕ). same_lane l (lane_to e)) same ∙ f) ∙ sym (cond-false _ _ _ f) ∙ sym (cond-false _ _ _ (ap (λ (m : Lane). same_lane l m) is ∙ f)))
        (cases_Bool (same_lane l (lane_to n.executor)))

-- they go the same ways, whatever they make and take
pub keeps-own : (n n' : Node) → n'.executor ≡ n.executor → n'.first.target ≡ n.first.target → n'.first.count ≡ n.first.count → n'.second.target ≡ n.second.target → n'.second.count ≡ n.second.count → NodesKeep (node_view n) (node_view n')
keeps-own n n' same first first-count second second-count = record {
  executor = same;
  routes = λ i. record (node_view n').lanes {
    written = λ l. (not (first-count i == 0) && same_lane l (lane_to (first i))) || (not (second-count i == 0) && same_lane l (lane_to (second i)));
    places = lane_to (first i) ∷ lane_to (second i) ∷ [];
  };
  heads = refl;
}

-- ---- what is sent

-- the next flag of the one lane of a sender is its next
pub sent-one : (counts : List SendCount) (x : Envelope) (executor next : ℕ) → counts ≡ send_count (lane_to executor) next false ∷ [] → x.lane ≡ lane_to executor → x.number ≡ next → sent_of x.lane counts ≡ Some (x.number, false)
sent-one counts x executor next are lane number =
    ap (λ (ss : List SendCount). sent_of x.lane ss) are
    ∙ cond-true _ _ _ (ap (λ (l : Lane). same_lane l (lane_to executor)) lane ∙ same_lane-self (lane_to executor))
    ∙ ap (λ (n : ℕ). Some (n, false)) (sym number)

-- and once it is sent, there is one more
pub sends-one : (before after : SenderView) (x : Envelope) (executor next next' : ℕ) (flag : Bool) → before.send_counts ≡ send_count (lane_to executor) next false ∷ [] → x.lane ≡ lane_to executor → x.number ≡ next → x.item ≡ item.Flag flag
    → after ≡ after_offer before x → next' ≡ next + 1 → after.send_counts ≡ send_count (lane_to executor) next' false ∷ []
sends-one before after x executor next next' flag are lane number is sent more =
    ap (λ (s : SenderView). s.send_counts) sent
    ∙ ap (λ (ss : List SendCount). set_send_count x.lane (x.number + 1) (closes x.item) ss) are
    ∙ cond-true _ _ _ (ap (λ (l : Lane). same_lane l (lane_to executor)) lane ∙ same_lane-self (lane_to executor))
    ∙ (λ i. send_count (lane_to executor) ((ap (λ (n : ℕ). n + 1) number ∙ sym more) i) (closes (is i)) ∷ [])
