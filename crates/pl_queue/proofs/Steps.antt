-- Each kind of step keeps the queue rule.
use Rattle.std.proofs.Common.{◌≡◌, ◌≢◌, ◌⊎◌, ◌+◌, ◌<◌, ◌^◌, ℕ, zero, suc, Bool, true, false, cond, eqb, List, [], ◌∷◌, ◌++◌, length, set, Option, Some, None, refl, ap, sym, ◌∙◌, subst, inl, inr, ⊎_elim, arith, true≢false}
use Rattle.std.proofs.lemmas.Bool.{cond-true, cond-false, cases_Bool, both_ways, ne_eqb, eq-eqb}
use Rattle.std.proofs.lemmas.Option.{same_Some, none-some}
use mathlib.Core.Option.{some, some-ne-none}
use lib.ListN.{get_elem?}
use Rattle.crossbeam_queue.specs.Fifo.{Pushes, Pops, Forks, Merges, Learns}
use Rattle.crossbeam_queue.proofs.Lists.{at_set, at_snoc}
use Rattle.pl_event.specs.declared.envelopes.Lane.{Lane}
use Rattle.pl_event.specs.declared.envelopes.Envelope.{Envelope}
use Rattle.pl_event.specs.Hops.{same_lane}
use Rattle.pl_event.specs.Worlds.{World, FitsWorld, closes}
use Rattle.pl_event.proofs.SameLanes.{same_lane-equal, same_lane-self}
use Rattle.pl_queue.specs.declared.views.PassView.{PassView}
use Rattle.pl_queue.specs.Views.{sent_of, next_of, fresh_take_counts, has_lane, pass_offered, taken as after, dealing, dealt, pass_joined, spent, newcomer}
use Rattle.pl_queue.specs.Rule.{numbers_of, IsRun, Each, IsQueued, PassStands, Keeps, IsTakersNext, SenderSees, TakerSees, BothSee}
use Rattle.pl_queue.proofs.Lists.{at_lane, at_this, at_other, numbers_of-snoc, IsRun-le, IsRun-more, IsRun-less, Each-snoc, Each-weaker, sent_of-set, next_of-set, sent_of-append, sent_of-fresh, next_of-append, next_of-front, next_of-fresh}

at_end : (l : List PassView) (a b : PassView) (j : ℕ) → get_elem? (l ++ a ∷ []) j ≡ some b → (get_elem? l j ≡ some b) ⊎ ((j ≡ length l) × (a ≡ b))
at_end [] a b zero e = ⊎_elim (λ x. absurd (some-ne-none b (sym x))) (λ (x : a ≡ b). inr (refl, x)) (at_snoc [] a b zero e)
at_end [] a b (suc j) e = absurd (some-ne-none b (sym e))
at_end (x ∷ xs) a b zero e = inl e
at_end (x ∷ xs) a b (suc j) e = ⊎_elim (λ r. inl r) (λ r. inr (ap suc r.0, r.1)) (at_end xs a b j e)

at_start : (v u : PassView) (j : ℕ) → get_elem? (v ∷ []) j ≡ some u → (j ≡ 0) × (v ≡ u)
at_start v u j e = ⊎_elim (λ x. absurd (some-ne-none u (sym x))) (λ (x : (j ≡ 0) × (v ≡ u)). x) (at_end [] v u j e)

module _ (world : World) where
  -- the empty queue, with the taker's pass alone
  pub begins : Keeps world [] (newcomer ∷ [])
  begins = record {
    owner = λ l. None;
    next = λ l. 0;
    ended = λ l. false;
    taker = 0;
    taken = λ l. 0;
    in_turn = λ l. refl;
    queued = tt;
    seats = λ j u e.
        let here = at_start newcomer u j e in
        subst (λ (w : PassView). PassStands (λ l. None) (λ l. 0) (λ l. false) 0 (λ l. 0) j w) here.1 (record {
          sends = λ l n f x. absurd (none-some (n, f) x);
          takes = λ t. here.0;
          known = λ t l n x. absurd (none-some n x);
          rest = λ t l x. (refl, refl, refl, refl);
        });
  }

  -- a push of the next envelope of a lane of one's own
  pub pushes : (n pass : ℕ) (v : PassView) (x : Envelope) → sent_of x.lane v.sends.send_counts ≡ Some (x.number, false) → x.number < 2 ^ 32 → FitsWorld world x
      → Pushes (Keeps world) n pass v x (λ w. w ≡ pass_offered v x)
  pushes n pass v x send_count small fits items views room h at =
      let seat = h.seats pass v at in
      let mine = seat.sends x.lane x.number false send_count in
      let next' : Lane → ℕ = at_lane h.next x.lane (x.number + 1) in
      let ended' : Lane → Bool = at_lane h.ended x.lane (closes x.item) in
      let self = same_lane-self x.lane in
      -- a lane that another pass sends on is another lane
      let apart : (l : Lane) → (h.owner l ≡ Some pass → ⊥) → same_lane l x.lane ≡ false = λ l no.
      ⊎_elim (λ (t : same_lane l x.lane ≡ true). absurd (no (subst (λ y. h.owner y ≡ Some pass) (sym (same_lane-equal l x.lane t)) mine.0)))
      (λ (t : same_lane l x.lane ≡ false). t) (cases_Bool (same_lane l x.lane)) in
      -- nothing is sent on a lane that has no owner
      let unsent : (j : ℕ) (u : PassView) → PassStands h.owner h.next h.ended h.taker h.taken j u → u.taker ≡ true → (l : Lane) → next_of l u.takes.counts ≡ None
      → (h.owner l ≡ None) × (next' l ≡ 0) × (ended' l ≡ false) × (h.taken l ≡ 0) = λ j u theirs t l y.
      let was = theirs.rest t l y in
      let other = apart l (λ o. none-some pass (sym was.0 ∙ o)) in
      (was.0, at_other h.next x.lane (x.number + 1) l other ∙ was.1, at_other h.ended x.lane (closes x.item) l other ∙ was.2, was.3) in
      let w = pass_offered v x in (
        w,
        record {
          owner = h.owner;
          next = next';
          ended = ended';
          taker = h.taker;
          taken = h.taken;
          in_turn = λ l.
              subst (λ ns. IsRun (h.taken l) ns (next' l)) (sym (numbers_of-snoc l items x))
              (IsRun-more (h.taken l) (numbers_of l items) (h.next l) x.number (same_lane l x.lane)
              (λ t. subst (λ y. h.next y ≡ x.number) (sym (same_lane-equal l x.lane t)) mine.1) (h.in_turn l));
          queued = Each-snoc (IsQueued world next' ended') items x
              (Each-weaker (IsQueued world h.next h.ended) (IsQueued world next' ended')
              (λ y q. record {
                fits = q.fits;
                small = q.small;
                last = λ c.
                    let d = q.last c in
                    ⊎_elim
                    (λ (t : same_lane y.lane x.lane ≡ true).
                    absurd (both_ways (h.ended x.lane) mine.2 (subst (λ z. h.ended z ≡ true) (same_lane-equal y.lane x.lane t) d.0)))
                    (λ (t : same_lane y.lane x.lane ≡ false).
                    (at_other h.ended x.lane (closes x.item) y.lane t ∙ d.0, at_other h.next x.lane (x.number + 1) y.lane t ∙ d.1))
                    (cases_Bool (same_lane y.lane x.lane));
              })
              items h.queued)
              (record {
                fits = fits;
                small = small;
                last = λ c. (at_this h.ended x.lane (closes x.item) x.lane self ∙ c, at_this h.next x.lane (x.number + 1) x.lane self);
              });
          seats = λ j u e.
              ⊎_elim
              (λ (here : (j ≡ pass) × (w ≡ u)).
              subst (λ (y : ℕ × PassView). PassStands h.owner next' ended' h.taker h.taken y.0 y.1) (λ i. (sym here.0 i, here.1 i)) (record {
                sends = λ l k f y.
                    ⊎_elim
                    (λ (r : (same_lane l x.lane ≡ true) × (x.number + 1 ≡ k) × (closes x.item ≡ f)). (
                      subst (λ m. h.owner m ≡ Some pass) (sym (same_lane-equal l x.lane r.0)) mine.0,
                      at_this h.next x.lane (x.number + 1) l r.0 ∙ r.1,
                      at_this h.ended x.lane (closes x.item) l r.0 ∙ r.2,
                    ))
                    (λ (r : (same_lane l x.lane ≡ false) × (sent_of l v.sends.send_counts ≡ Some (k, f))).
                    let was = seat.sends l k f r.1 in
                    (was.0, at_other h.next x.lane (x.number + 1) l r.0 ∙ was.1, at_other h.ended x.lane (closes x.item) l r.0 ∙ was.2))
                    (sent_of-set x.lane l (x.number + 1) (closes x.item) v.sends.send_counts k f y);
                takes = seat.takes;
                known = seat.known;
                rest = unsent pass v seat;
              }))
              (λ (there : (j ≢ pass) × (get_elem? views j ≡ some u)).
              let theirs = h.seats j u there.1 in
              record {
                sends = λ l k f y.
                    let was = theirs.sends l k f y in
                    let other = apart l (λ o. there.0 (same_Some j pass (sym was.0 ∙ o))) in
                    (was.0, at_other h.next x.lane (x.number + 1) l other ∙ was.1, at_other h.ended x.lane (closes x.item) l other ∙ was.2);
                takes = theirs.takes;
                known = theirs.known;
                rest = unsent j u theirs;
              })
              (at_set views pass j w u e);
        },
        refl,
      )

  pub pops : (pass : ℕ) (v : PassView) → v.taker ≡ true → Pops (Keeps world) pass v (λ x w. IsTakersNext world v x × (w ≡ after v x))
  pops pass v may x items views h at =
      let seat = h.seats pass v at in
      let self = same_lane-self x.lane in
      let front = h.queued.0 in
      let run : (x.number ≡ h.taken x.lane) × IsRun (h.taken x.lane + 1) (numbers_of x.lane items) (h.next x.lane) =
      subst (λ b. IsRun (h.taken x.lane) (cond b (x.number ∷ numbers_of x.lane items) (numbers_of x.lane items)) (h.next x.lane)) self (h.in_turn x.lane) in
      let sent : 0 < h.next x.lane = omega (arith, IsRun-le (h.taken x.lane + 1) (numbers_of x.lane items) (h.next x.lane) run.1) in
      let marked : (o : Option ℕ) → next_of x.lane v.takes.counts ≡ o → o ≡ Some x.number = λ o.
      elim o as (λ o. next_of x.lane v.takes.counts ≡ o → o ≡ Some x.number) [
        | None ↦ λ e. let z = (seat.rest may x.lane e).1 in absurd (omega arith)
        | Some k ↦ λ e. ap Some (sym (seat.known may x.lane k e) ∙ sym run.0)
      ] in
      let number : next_of x.lane v.takes.counts ≡ Some x.number = marked (next_of x.lane v.takes.counts) refl in
      let taken' : Lane → ℕ = at_lane h.taken x.lane (x.number + 1) in
      let w = after v x in (
        w,
        record {
          owner = h.owner;
          next = h.next;
          ended = h.ended;
          taker = h.taker;
          taken = taken';
          in_turn = λ l. IsRun-less (h.taken l) (numbers_of l items) (h.next l) x.number (same_lane l x.lane) (h.in_turn l);
          queued = h.queued.1;
          seats = λ j u e.
              ⊎_elim
              (λ (here : (j ≡ pass) × (w ≡ u)).
              subst (λ (y : ℕ × PassView). PassStands h.owner h.next h.ended h.taker taken' y.0 y.1) (λ i. (sym here.0 i, here.1 i)) (record {
                sends = seat.sends;
                takes = seat.takes;
                known = λ t l k y.
                    let is = next_of-set x.lane l (x.number + 1) v.takes.counts x.number number in
                    ⊎_elim
                    (λ (s : same_lane l x.lane ≡ true).
                    at_this h.taken x.lane (x.number + 1) l s
                    ∙ same_Some (x.number + 1) k (sym (cond-true (same_lane l x.lane) (Some (x.number + 1)) (next_of l v.takes.counts) s) ∙ sym is ∙ y))
                    (λ (s : same_lane l x.lane ≡ false).
                    at_other h.taken x.lane (x.number + 1) l s
                    ∙ seat.known t l k (sym (cond-false (same_lane l x.lane) (Some (x.number + 1)) (next_of l v.takes.counts) s) ∙ sym is ∙ y))
                    (cases_Bool (same_lane l x.lane));
                rest = λ t l y.
                    let is = next_of-set x.lane l (x.number + 1) v.takes.counts x.number number in
                    ⊎_elim
                    (λ (s : same_lane l x.lane ≡ true).
                    absurd (none-some (x.number + 1) (sym y ∙ is ∙ cond-true (same_lane l x.lane) (Some (x.number + 1)) (next_of l v.takes.counts) s)))
                    (λ (s : same_lane l x.lane ≡ false).
                    let was = seat.rest t l (sym (cond-false (same_lane l x.lane) (Some (x.number + 1)) (next_of l v.takes.counts) s) ∙ sym is ∙ y) in
                    (was.0, was.1, was.2, at_other h.taken x.lane (x.number + 1) l s ∙ was.3))
                    (cases_Bool (same_lane l x.lane));
              }))
              (λ (there : (j ≢ pass) × (get_elem? views j ≡ some u)).
              let theirs = h.seats j u there.1 in
              record {
                sends = theirs.sends;
                takes = theirs.takes;
                known = λ t l k y. absurd (there.0 (theirs.takes t ∙ sym (seat.takes may)));
                rest = λ t l y. absurd (there.0 (theirs.takes t ∙ sym (seat.takes may)));
              })
              (at_set views pass j w u e);
        },
        (
          record {
            fits = front.fits;
            small = front.small;
            number = number;
            last = λ c n e s. sym ((seat.sends x.lane n e s).1) ∙ (front.last c).1;
          },
          refl,
        ),
      )

  -- the same of an envelope that was handed back, by a pass whose view is as it was
  pub pushes_same : (n pass : ℕ) (v w : PassView) (x y : Envelope) → x ≡ y → v ≡ w → sent_of y.lane w.sends.send_counts ≡ Some (y.number, false) → y.number < 2 ^ 32
      → FitsWorld world y → Pushes (Keeps world) n pass v x (λ u. u ≡ pass_offered v x)
  pushes_same n pass v w x y same view next small fits =
      pushes n pass v x
      (subst (λ (z : Envelope × PassView). sent_of z.0.lane z.1.sends.send_counts ≡ Some (z.0.number, false)) (λ i. (sym same i, sym view i)) next)
      (subst (λ (z : Envelope). z.number < 2 ^ 32) (sym same) small)
      (subst (λ z. FitsWorld world z) (sym same) fits)

  -- the same queue, in whose seats these owners hold
  reseated : (items : List Envelope) (views views' : List PassView) (h : Keeps world items views) (owner : Lane → Option ℕ)
      → ((j : ℕ) (u : PassView) → get_elem? views' j ≡ some u → PassStands owner h.next h.ended h.taker h.taken j u) → Keeps world items views'
  reseated items views views' h owner seats = record {
    owner = owner;
    next = h.next;
    ended = h.ended;
    taker = h.taker;
    seats = seats;
    taken = h.taken;
    in_turn = h.in_turn;
    queued = h.queued;
  }

  -- the taker makes a sender of these lanes, none of which it has dealt before
  pub forks : (pass : ℕ) (v : PassView) (ls : List Lane) → v.taker ≡ true → ((l : Lane) → has_lane l ls ≡ true → next_of l v.takes.counts ≡ None)
      → Forks (Keeps world) pass v (dealing ls v) (dealt ls)
  forks pass v ls may new items views h at =
      let seat = h.seats pass v at in
      let vs = set views pass (dealing ls v) in
      let owner' : Lane → Option ℕ = λ l. cond (has_lane l ls) (Some (length vs)) (h.owner l) in
      -- a lane that has an owner is not among them
      let kept : (l : Lane) (j : ℕ) → h.owner l ≡ Some j → owner' l ≡ Some j = λ l j o.
      ⊎_elim (λ (t : has_lane l ls ≡ true). absurd (none-some j (sym (seat.rest may l (new l t)).0 ∙ o)))
      (λ (t : has_lane l ls ≡ false). cond-false (has_lane l ls) (Some (length vs)) (h.owner l) t ∙ o) (cases_Bool (has_lane l ls)) in
      reseated items views (vs ++ dealt ls ∷ []) h owner'
      (λ j u e.
      ⊎_elim
      (λ (old : get_elem? vs j ≡ some u).
      ⊎_elim
      (λ (here : (j ≡ pass) × (dealing ls v ≡ u)).
      subst (λ (y : ℕ × PassView). PassStands owner' h.next h.ended h.taker h.taken y.0 y.1) (λ i. (sym here.0 i, here.1 i)) (record {
        sends = λ l n f y. let was = seat.sends l n f y in (kept l pass was.0, was.1, was.2);
        takes = seat.takes;
        known = λ t l n y.
            let split : (o : Option ℕ) → next_of l v.takes.counts ≡ o → h.taken l ≡ n = λ o.
            elim o as (λ o. next_of l v.takes.counts ≡ o → h.taken l ≡ n) [
              | None ↦ λ z.
                  let f = next_of-append l v.takes.counts (fresh_take_counts ls) z ∙ next_of-fresh l ls in
                  let was = seat.rest t l z in
                  ⊎_elim (λ (b : has_lane l ls ≡ true). was.3 ∙ same_Some 0 n (sym (cond-true (has_lane l ls) (Some 0) None b) ∙ sym f ∙ y))
                  (λ (b : has_lane l ls ≡ false). absurd (none-some n (sym (cond-false (has_lane l ls) (Some 0) None b) ∙ sym f ∙ y))) (cases_Bool (has_lane l ls))
              | Some k ↦ λ z. seat.known t l k z ∙ same_Some k n (sym (next_of-front l v.takes.counts (fresh_take_counts ls) k z) ∙ y)
            ] in
            split (next_of l v.takes.counts) refl;
        rest = λ t l y.
            let split : (o : Option ℕ) → next_of l v.takes.counts ≡ o → (owner' l ≡ None) × (h.next l ≡ 0) × (h.ended l ≡ false) × (h.taken l ≡ 0) = λ o.
            elim o as (λ o. next_of l v.takes.counts ≡ o → (owner' l ≡ None) × (h.next l ≡ 0) × (h.ended l ≡ false) × (h.taken l ≡ 0)) [
              | None ↦ λ z.
                  let f = next_of-append l v.takes.counts (fresh_take_counts ls) z ∙ next_of-fresh l ls in
                  let was = seat.rest t l z in
                  ⊎_elim (λ (b : has_lane l ls ≡ true). absurd (none-some 0 (sym y ∙ f ∙ cond-true (has_lane l ls) (Some 0) None b)))
                  (λ (b : has_lane l ls ≡ false). (cond-false (has_lane l ls) (Some (length vs)) (h.owner l) b ∙ was.0, was.1, was.2, was.3)) (cases_Bool (has_lane l ls))
              | Some k ↦ λ z. absurd (none-some k (sym y ∙ next_of-front l v.takes.counts (fresh_take_counts ls) k z))
            ] in
            split (next_of l v.takes.counts) refl;
      }))
      (λ (there : (j ≢ pass) × (get_elem? views j ≡ some u)).
      let theirs = h.seats j u there.1 in
      record {
        sends = λ l n f y. let was = theirs.sends l n f y in (kept l j was.0, was.1, was.2);
        takes = theirs.takes;
        known = theirs.known;
        rest = λ t l y. absurd (there.0 (theirs.takes t ∙ sym (seat.takes may)));
      })
      (at_set views pass j (dealing ls v) u old))
      (λ (last : (j ≡ length vs) × (dealt ls ≡ u)).
      subst (λ (y : ℕ × PassView). PassStands owner' h.next h.ended h.taker h.taken y.0 y.1) (λ i. (sym last.0 i, last.1 i)) (record {
        sends = λ l n f y.
            let r = sent_of-fresh l ls n f y in
            let was = seat.rest may l (new l r.0) in
            (cond-true (has_lane l ls) (Some (length vs)) (h.owner l) r.0, was.1 ∙ r.1, was.2 ∙ r.2);
        takes = λ t. absurd (true≢false (sym t));
        known = λ t l n y. absurd (true≢false (sym t));
        rest = λ t l y. absurd (true≢false (sym t));
      }))
      (at_end vs (dealt ls) u j e))

  -- a pass takes in the lanes of another
  pub merges : (pass : ℕ) (v : PassView) (other : ℕ) (u : PassView) → Merges (Keeps world) pass v other u (pass_joined v u) spent
  merges pass v other u items views h at two at' =
      let mine = h.seats pass v at in
      let vs = set views pass (pass_joined v u) in
      let was : get_elem? views other ≡ some u = ⊎_elim (λ x. absurd (two x.0)) (λ x. x.1) (at_set views pass other (pass_joined v u) u at') in
      let theirs = h.seats other u was in
      let moved : Option ℕ → Option ℕ = λ o. elim o as (λ o. Option ℕ) [ None ↦ None | Some j ↦ Some (cond (eqb j other) pass j) ] in
      let owner' : Lane → Option ℕ = λ l. moved (h.owner l) in
      let stays : (l : Lane) (j : ℕ) → j ≢ other → h.owner l ≡ Some j → owner' l ≡ Some j = λ l j ne o.
      ap moved o ∙ ap Some (cond-false (eqb j other) pass j (ne_eqb j other ne)) in
      let moves : (l : Lane) → h.owner l ≡ Some other → owner' l ≡ Some pass = λ l o.
      ap moved o ∙ ap Some (cond-true (eqb other other) pass other (eq-eqb other other refl)) in
      reseated items views (set vs other spent) h owner'
      (λ j w e.
      ⊎_elim
      (λ (gone : (j ≡ other) × (spent ≡ w)).
      subst (λ (y : ℕ × PassView). PassStands owner' h.next h.ended h.taker h.taken y.0 y.1) (λ i. (sym gone.0 i, gone.1 i)) (record {
        sends = λ l n f y. absurd (none-some (n, f) y);
        takes = λ t. absurd (true≢false (sym t));
        known = λ t l n y. absurd (true≢false (sym t));
        rest = λ t l y. absurd (true≢false (sym t));
      }))
      (λ (left : (j ≢ other) × (get_elem? vs j ≡ some w)).
      ⊎_elim
      (λ (here : (j ≡ pass) × (pass_joined v u ≡ w)).
      subst (λ (y : ℕ × PassView). PassStands owner' h.next h.ended h.taker h.taken y.0 y.1) (λ i. (sym here.0 i, here.1 i)) (record {
        sends = λ l n f y.
            ⊎_elim (λ s. let r = mine.sends l n f s in (stays l pass (λ p. two (sym p)) r.0, r.1, r.2))
            (λ s. let r = theirs.sends l n f s in (moves l r.0, r.1, r.2))
            (sent_of-append l v.sends.send_counts u.sends.send_counts n f y);
        takes = mine.takes;
        known = mine.known;
        rest = λ t l y. let r = mine.rest t l y in (ap moved r.0, r.1, r.2, r.3);
      }))
      (λ (there : (j ≢ pass) × (get_elem? views j ≡ some w)).
      let r = h.seats j w there.1 in
      record {
        sends = λ l n f y. let s = r.sends l n f y in (stays l j left.0 s.0, s.1, s.2);
        takes = r.takes;
        known = r.known;
        rest = λ t l y. let s = r.rest t l y in (ap moved s.0, s.1, s.2, s.3);
      })
      (at_set views pass j (pass_joined v u) w left.1))
      (at_set vs other j spent w e))

  fits_of : (next : Lane → ℕ) (ended : Lane → Bool) (items : List Envelope) → Each (IsQueued world next ended) items → Each (FitsWorld world) items
  fits_of next ended items q = Each-weaker (IsQueued world next ended) (FitsWorld world) (λ x r. r.fits) items q

  pub sender_learns : (pass : ℕ) (v : PassView) → Learns (Keeps world) pass v (SenderSees world v.sends)
  sender_learns pass v items views h at =
      let seat = h.seats pass v at in
      record {
        fit = fits_of h.next h.ended items h.queued;
        lanes = λ l n e y. (h.taken l, subst (λ k. IsRun (h.taken l) (numbers_of l items) k) (seat.sends l n e y).1 (h.in_turn l));
      }

  pub taker_learns : (pass : ℕ) (v : PassView) → v.taker ≡ true → Learns (Keeps world) pass v (TakerSees world v.takes)
  taker_learns pass v may items views h at =
      let seat = h.seats pass v at in
      record {
        fit = fits_of h.next h.ended items h.queued;
        lanes = λ l n y. (h.next l, subst (λ k. IsRun k (numbers_of l items) (h.next l)) (seat.known may l n y) (h.in_turn l));
      }

  pub both_learn : (pass : ℕ) (v : PassView) → v.taker ≡ true → Learns (Keeps world) pass v (BothSee world v)
  both_learn pass v may items views h at =
      let seat = h.seats pass v at in
      record {
        taker = taker_learns pass v may items views h at;
        lanes = λ l n m e y z.
            subst (λ k. IsRun n (numbers_of l items) k) (seat.sends l m e z).1
            (subst (λ k. IsRun k (numbers_of l items) (h.next l)) (seat.known may l n y) (h.in_turn l));
      }
