-- What a port is given is next on its lane, in turn, where each item fits; and a list that has room for it has it all.
use Rattle.std.proofs.Common.{◌≡◌, ℕ, ◌+◌, Bool, true, false, not, ◌&&◌, List, [], ◌∷◌, length, refl, ap, sym, ◌∙◌, subst, ⊎_elim, arith}
use Rattle.std.proofs.lemmas.Bool.{cond-true, cond-false, cases_Bool, both_ways}
use Rattle.pl_event.specs.declared.envelopes.Envelope.{Envelope}
use Rattle.pl_event.specs.declared.envelopes.Item.{Item}
use Rattle.pl_event.specs.declared.envelopes.Item.TheVariants as item
use Rattle.pl_event.specs.declared.envelopes.Lane.{Lane}
use Rattle.pl_event.specs.Fitting.{goes_on}
use Rattle.pl_event.specs.Hops.{same_lane}
use Rattle.pl_event.specs.Worlds.{World, closes}
use Rattle.pl_event.proofs.SameLanes.{same_lane-equal, same_lane-self}
use Rattle.pl_context.specs.Stops.{StopsView, has_stopped}
use Rattle.pl_context.specs.OutputsViews.{OutputsView, Appends}
use Rattle.pl_context.specs.Ports.{numbered, all_go_on}
use Rattle.pl_flow.specs.Flows.{Point, point, after, on, IsNext, IsFlow, past}
use Rattle.pl_flow.specs.Makes.{made_one, made_all, AreNext, AreGood, NoneStopped, Makes}
use Rattle.pl_flow.proofs.FlowLemmas.{on-own, on-other}

-- ---- a flow, of what is next in turn

one-on : (from : Lane → Point) (x : Envelope) (l : Lane) → same_lane l x.lane ≡ true → made_one from x l ≡ after x
one-on from x l t = cond-true (same_lane l x.lane) _ _ t

one-off : (from : Lane → Point) (x : Envelope) (l : Lane) → same_lane l x.lane ≡ false → made_one from x l ≡ from l
one-off from x l t = cond-false (same_lane l x.lane) _ _ t

pub next-flow : (world : World) (writes : Lane → Bool) (xs : List Envelope) (from : Lane → Point) (l : Lane) → AreNext world writes from xs → IsFlow world (from l) (on l xs)
next-flow world writes [] from l are = tt
next-flow world writes (x ∷ xs) from l are =
    let rest = next-flow world writes xs (made_one from x) l are.2 in
    ⊎_elim
    (λ (t : same_lane l x.lane ≡ true).
    let n = subst (λ m. IsNext world (from m) x) (sym (same_lane-equal l x.lane t)) are.1 in
    subst (λ zs. IsFlow world (from l) zs) (sym (on-own l x xs t)) (n, subst (λ p. IsFlow world p (on l xs)) (one-on from x l t) rest))
    (λ (f : same_lane l x.lane ≡ false).
    subst (λ zs. IsFlow world (from l) zs) (sym (on-other l x xs f)) (subst (λ p. IsFlow world p (on l xs)) (one-off from x l f) rest))
    (cases_Bool (same_lane l x.lane))

pub next-past : (xs : List Envelope) (from : Lane → Point) (l : Lane) → past (from l) (on l xs) ≡ made_all from xs l
next-past [] from l = refl
next-past (x ∷ xs) from l =
    let rest = next-past xs (made_one from x) l in
    ⊎_elim
    (λ (t : same_lane l x.lane ≡ true).
    ap (λ zs. past (from l) zs) (on-own l x xs t) ∙ ap (λ p. past p (on l xs)) (sym (one-on from x l t)) ∙ rest)
    (λ (f : same_lane l x.lane ≡ false).
    ap (λ zs. past (from l) zs) (on-other l x xs f) ∙ ap (λ p. past p (on l xs)) (sym (one-off from x l f)) ∙ rest)
    (cases_Bool (same_lane l x.lane))

-- ---- a list that has room for all

unwritten : (world : World) (writes : Lane → Bool) (xs : List Envelope) (from : Lane → Point) (l : Lane) → AreNext world writes from xs → writes l ≡ false → on l xs ≡ []
unwritten world writes [] from l are w = refl
unwritten world writes (x ∷ xs) from l are w = ⊎_elim
    (λ (t : same_lane l x.lane ≡ true). absurd (both_ways (writes l) w (subst (λ m. writes m ≡ true) (sym (same_lane-equal l x.lane t)) are.0)))
    (λ (f : same_lane l x.lane ≡ false). on-other l x xs f ∙ unwritten world writes xs (made_one from x) l are.2 w)
    (cases_Bool (same_lane l x.lane))

none-stopped : (s : StopsView) (xs : List Envelope) (l : Lane) → NoneStopped s xs → has_stopped s l ≡ true → on l xs ≡ []
none-stopped s [] l none has = refl
none-stopped s (x ∷ xs) l none has = ⊎_elim
    (λ (t : same_lane l x.lane ≡ true). absurd (both_ways (has_stopped s l) (subst (λ m. has_stopped s m ≡ false) (sym (same_lane-equal l x.lane t)) none.0) has))
    (λ (f : same_lane l x.lane ≡ false). on-other l x xs f ∙ none-stopped s xs l none.1 has)
    (cases_Bool (same_lane l x.lane))

-- All of them stand behind the others. Where a lane has stopped it does not matter how far it has come.
pub appends-makes : (world : World) (writes : Lane → Bool) (xs : List Envelope) (from to : Lane → Point) (b a : OutputsView) → AreNext world writes from xs → NoneStopped b.stopped xs → Appends b xs a
    → ((l : Lane) → has_stopped b.stopped l ≡ false → to l ≡ made_all from xs l) → Makes world writes from to b a
appends-makes world writes xs from to b a are none appends comes = record {
  added = xs;
  items = appends.items;
  lanes = λ l. record {
    idle = λ w. unwritten world writes xs from l are w;
    discards = λ t. (none-stopped b.stopped xs l none t, ap (λ (s : StopsView). has_stopped s l) appends.stopped ∙ t);
    flow = λ f. next-flow world writes xs from l are;
    up_to = λ f. next-past xs from l ∙ sym (comes l (sym (ap (λ (s : StopsView). has_stopped s l) appends.stopped) ∙ f));
  };
}

-- ---- numbered items of one lane

closes-not : (i : Item) → closes i ≡ not (goes_on i && true)
closes-not (item.Event e) = refl
closes-not item.End = refl
closes-not (item.Fail c) = refl
closes-not (item.Flag b) = refl

goes-more : (i j : Item) (is : List Item) → (goes_on i ≡ false → j ∷ is ≡ []) → closes i ≡ false
goes-more (item.Event e) j is h = refl
goes-more item.End j is h = let none = h refl in cc
goes-more (item.Fail c) j is h = let none = h refl in cc
goes-more (item.Flag b) j is h = refl

pub numbered-next : (world : World) (writes : Lane → Bool) (lane : Lane) (is : List Item) (n : ℕ) (from : Lane → Point) → writes lane ≡ true → from lane ≡ point n false → AreGood world lane n is
    → AreNext world writes from (numbered lane n is)
numbered-next world writes lane [] n from own is good = tt
numbered-next world writes lane (i ∷ []) n from own is good =
    (own, record { over = ap (λ (p : Point). p.over) is; number = sym (ap (λ (p : Point). p.next) is); good = good.0 }, tt)
numbered-next world writes lane (i ∷ j ∷ is) n from own at good =
    let x : Envelope = record { lane = lane; number = n; item = i } in (
      own,
      record { over = ap (λ (p : Point). p.over) at; number = sym (ap (λ (p : Point). p.next) at); good = good.0 },
      numbered-next world writes lane (j ∷ is) (n + 1) (made_one from x) own
          (one-on from x lane (same_lane-self lane) ∙ ap (λ b. point (n + 1) b) (goes-more i j is good.1)) good.2,
    )

-- where that leaves the lane
pub numbered-made : (world : World) (lane : Lane) (is : List Item) (n : ℕ) (from : Lane → Point) → from lane ≡ point n false → AreGood world lane n is
    → made_all from (numbered lane n is) lane ≡ point (n + length is) (not (all_go_on is))
numbered-made world lane [] n from at good = at ∙ ap (λ k. point k false) (omega arith)
numbered-made world lane (i ∷ []) n from at good = cond-true (same_lane lane lane) _ _ (same_lane-self lane) ∙ (λ k. point (n + 1) (closes-not i k))
numbered-made world lane (i ∷ j ∷ is) n from at good =
    let x : Envelope = record { lane = lane; number = n; item = i } in
    numbered-made world lane (j ∷ is) (n + 1) (made_one from x) (one-on from x lane (same_lane-self lane) ∙ ap (λ b. point (n + 1) b) (goes-more i j is good.1)) good.2
    ∙ (λ k. point (more k) (not (goes i j is good.1 k)))
  where
    more : (n + 1) + length (j ∷ is) ≡ n + length (i ∷ j ∷ is)
    more = omega arith

    goes : (i j : Item) (is : List Item) → (goes_on i ≡ false → j ∷ is ≡ []) → all_go_on (j ∷ is) ≡ all_go_on (i ∷ j ∷ is)
    goes (item.Event e) j is h = refl
    goes item.End j is h = let none = h refl in cc
    goes (item.Fail c) j is h = let none = h refl in cc
    goes (item.Flag b) j is h = refl

-- no other lane moves
pub numbered-other : (lane : Lane) (is : List Item) (n : ℕ) (from : Lane → Point) (l : Lane) → same_lane l lane ≡ false → made_all from (numbered lane n is) l ≡ from l
numbered-other lane [] n from l f = refl
numbered-other lane (i ∷ is) n from l f =
    let x : Envelope = record { lane = lane; number = n; item = i } in
    numbered-other lane is (n + 1) (made_one from x) l f ∙ one-off from x l f
