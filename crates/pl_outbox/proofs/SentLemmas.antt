-- What was sent, and what waits behind it: what is added at the end, and what leaves at the front.
use Rattle.std.proofs.Common.{◌≡◌, ℕ, ◌+◌, Bool, true, false, cond, List, [], ◌∷◌, ◌++◌, Some, ap, sym, ◌∙◌, subst, ◌↔◌, ⊎_elim, append-nil, refl}
use Rattle.std.proofs.lemmas.Bool.{cond-true, cond-false, cases_Bool, both_ways, false≢true}
use Rattle.std.proofs.lemmas.Option.{none-some}
use Rattle.pl_event.specs.declared.envelopes.Envelope.{Envelope}
use Rattle.pl_event.specs.declared.envelopes.Lane.{Lane}
use Rattle.pl_event.specs.Hops.{same_lane}
use Rattle.pl_event.specs.Worlds.{World, closes}
use Rattle.pl_event.proofs.SameLanes.{same_lane-equal, same_lane-self}
use Rattle.pl_context.specs.declared.added.Added.{Added}
use Rattle.pl_context.specs.declared.added.Added.TheVariants.{Discarded}
use Rattle.pl_context.specs.Stops.{StopsView, has_stopped}
use Rattle.pl_context.specs.OutputsViews.{added_items, stopped_after}
use Rattle.pl_queue.specs.declared.views.SendCount.{SendCount}
use Rattle.pl_queue.specs.Views.{sent_of, set_send_count}
use Rattle.pl_flow.specs.Flows.{Point, point, after, on, IsGood, IsNext, IsFlow, past}
use Rattle.pl_flow.specs.Makes.{LaneGrows, made_one}
use Rattle.pl_flow.proofs.FlowLemmas.{on-append, past-append, IsFlow-append, on-own, on-other}
use Rattle.pl_flow.proofs.MakeLemmas.{one-grows}
use Rattle.pl_outbox.specs.Sent.{sent_at, AreBehind, behind}

-- ---- one more waits, or what stands in for it

module _ (world : World) (counts : List SendCount) (waits : List Envelope) (s s' : StopsView) (x : Envelope) (next : has_stopped s x.lane ≡ false → IsNext world (behind counts waits x.lane) x)
    (answer : Added) (stops : s' ≡ stopped_after answer s x.lane) (iff : (answer ≡ Discarded) ↔ (has_stopped s x.lane ≡ true)) where
  grows : (l : Lane) → LaneGrows world true (has_stopped s l) (has_stopped s' l) (behind counts waits l) (on l (added_items answer x)) (made_one (behind counts waits) x l)
  grows = one-grows world (λ l. true) (behind counts waits) s s' x refl next answer stops iff

  pub added-behind : AreBehind world counts waits → AreBehind world counts (waits ++ added_items answer x)
  added-behind are l =
      let g = grows l in
      subst (λ zs. IsFlow world (sent_at counts l) zs) (sym (on-append l waits (added_items answer x)))
      (⊎_elim
      (λ (t : has_stopped s l ≡ true). subst (λ zs. IsFlow world (sent_at counts l) (on l waits ++ zs)) (sym (g.discards t).0) (subst (λ zs. IsFlow world (sent_at counts l) zs) (sym (append-nil (on l waits))) (are l)))
      (λ (f : has_stopped s l ≡ false). IsFlow-append world (sent_at counts l) (on l waits) (on l (added_items answer x)) (are l) (g.flow f))
      (cases_Bool (has_stopped s l)))

  pub added-reached : (l : Lane) → has_stopped s' l ≡ false → behind counts (waits ++ added_items answer x) l ≡ cond (same_lane l x.lane) (after x) (behind counts waits l)
  added-reached l goes =
      ap (λ zs. past (sent_at counts l) zs) (on-append l waits (added_items answer x)) ∙ past-append (sent_at counts l) (on l waits) (on l (added_items answer x)) ∙ (grows l).up_to goes

-- ---- one lane of a sender

-- a lane on which something may come is one of the sender's
pub sent_at-sent : (counts : List SendCount) (l : Lane) (n : ℕ) → (sent_at counts l).over ≡ false → n ≡ (sent_at counts l).next → sent_of l counts ≡ Some (n, false)
sent_at-sent [] l n goes is = absurd (false≢true (sym goes))
sent_at-sent (s ∷ ss) l n goes is = ⊎_elim
    (λ (t : same_lane l s.lane ≡ true).
    let here : sent_at (s ∷ ss) l ≡ point s.next s.ended = cond-true (same_lane l s.lane) _ _ t in
    cond-true (same_lane l s.lane) _ _ t ∙ (λ i. Some ((sym (is ∙ ap (λ (p : Point). p.next) here)) i, (sym (ap (λ (p : Point). p.over) here) ∙ goes) i)))
    (λ (t : same_lane l s.lane ≡ false).
    let there : sent_at (s ∷ ss) l ≡ sent_at ss l = cond-false (same_lane l s.lane) _ _ t in
    cond-false (same_lane l s.lane) _ _ t ∙ sent_at-sent ss l n (sym (ap (λ (p : Point). p.over) there) ∙ goes) (is ∙ ap (λ (p : Point). p.next) there))
    (cases_Bool (same_lane l s.lane))

-- how far each lane has come once one has been set
pub sent_at-set : (counts : List SendCount) (l : Lane) (n : ℕ) (e : Bool) (k : ℕ) (f : Bool) → sent_of l counts ≡ Some (k, f)
    → (m : Lane) → sent_at (set_send_count l n e counts) m ≡ cond (same_lane m l) (point n e) (sent_at counts m)
sent_at-set [] l n e k f found m = absurd (none-some (k, f) found)
sent_at-set (s ∷ ss) l n e k f found m = ⊎_elim
    (λ (here : same_lane l s.lane ≡ true).
    let same : s.lane ≡ l = sym (same_lane-equal l s.lane here) in
    let first : sent_at (set_send_count l n e (s ∷ ss)) m ≡ cond (same_lane m s.lane) (point n e) (sent_at ss m) = ap (λ zs. sent_at zs m) (cond-true (same_lane l s.lane) _ _ here) in
    first ∙ ⊎_elim
    (λ (t : same_lane m s.lane ≡ true).
    cond-true (same_lane m s.lane) _ _ t ∙ sym (cond-true (same_lane m l) (point n e) _ (subst (λ y. same_lane m y ≡ true) same t)))
    (λ (t : same_lane m s.lane ≡ false).
    cond-false (same_lane m s.lane) _ _ t ∙ sym (cond-false (same_lane m s.lane) (point s.next s.ended) (sent_at ss m) t)
    ∙ sym (cond-false (same_lane m l) (point n e) _ (subst (λ y. same_lane m y ≡ false) same t)))
    (cases_Bool (same_lane m s.lane)))
    (λ (here : same_lane l s.lane ≡ false).
    let rest = sent_at-set ss l n e k f (sym (cond-false (same_lane l s.lane) (Some (s.next, s.ended)) (sent_of l ss) here) ∙ found) m in
    let first : sent_at (set_send_count l n e (s ∷ ss)) m ≡ cond (same_lane m s.lane) (point s.next s.ended) (sent_at (set_send_count l n e ss) m) = ap (λ zs. sent_at zs m) (cond-false (same_lane l s.lane) _ _ here) in
    first ∙ ⊎_elim
    (λ (t : same_lane m s.lane ≡ true).
    let other : same_lane m l ≡ false = ⊎_elim
    (λ (u : same_lane m l ≡ true). absurd (both_ways (same_lane l s.lane) here (subst (λ y. same_lane y s.lane ≡ true) (same_lane-equal m l u) t)))
    (λ (u : same_lane m l ≡ false). u) (cases_Bool (same_lane m l)) in
    cond-true (same_lane m s.lane) _ _ t ∙ sym (cond-true (same_lane m s.lane) (point s.next s.ended) (sent_at ss m) t) ∙ sym (cond-false (same_lane m l) (point n e) _ other))
    (λ (t : same_lane m s.lane ≡ false).
    cond-false (same_lane m s.lane) _ _ t ∙ rest ∙ ap (λ y. cond (same_lane m l) (point n e) y) (sym (cond-false (same_lane m s.lane) (point s.next s.ended) (sent_at ss m) t)))
    (cases_Bool (same_lane m s.lane)))
    (cases_Bool (same_lane l s.lane))

-- ---- the front

module _ (world : World) (counts : List SendCount) (x : Envelope) (xs : List Envelope) (are : AreBehind world counts (x ∷ xs)) where
  -- the front is the sender's next of its lane
  pub front-sent : (sent_of x.lane counts ≡ Some (x.number, false)) × IsGood world x
  front-sent =
      let f = subst (λ zs. IsFlow world (sent_at counts x.lane) zs) (on-own x.lane x xs (same_lane-self x.lane)) (are x.lane) in
      (sent_at-sent counts x.lane x.number f.0.over f.0.number, f.0.good)

  after-front : (l : Lane) → sent_at (set_send_count x.lane (x.number + 1) (closes x.item) counts) l ≡ cond (same_lane l x.lane) (after x) (sent_at counts l)
  after-front l = sent_at-set counts x.lane (x.number + 1) (closes x.item) x.number false front-sent.0 l

  -- the others follow it
  pub front-leaves : AreBehind world (set_send_count x.lane (x.number + 1) (closes x.item) counts) xs
  front-leaves l = subst (λ p. IsFlow world p (on l xs)) (sym (after-front l)) (⊎_elim
      (λ (t : same_lane l x.lane ≡ true).
      let f = subst (λ zs. IsFlow world (sent_at counts l) zs) (on-own l x xs t) (are l) in
      subst (λ p. IsFlow world p (on l xs)) (sym (cond-true (same_lane l x.lane) (after x) (sent_at counts l) t)) f.1)
      (λ (t : same_lane l x.lane ≡ false).
      let f = subst (λ zs. IsFlow world (sent_at counts l) zs) (on-other l x xs t) (are l) in
      subst (λ p. IsFlow world p (on l xs)) (sym (cond-false (same_lane l x.lane) (after x) (sent_at counts l) t)) f)
      (cases_Bool (same_lane l x.lane)))

  -- and each lane has come as far behind them as before
  pub front-behind : (l : Lane) → behind (set_send_count x.lane (x.number + 1) (closes x.item) counts) xs l ≡ behind counts (x ∷ xs) l
  front-behind l = ap (λ p. past p (on l xs)) (after-front l) ∙ ⊎_elim
      (λ (t : same_lane l x.lane ≡ true).
      ap (λ p. past p (on l xs)) (cond-true (same_lane l x.lane) (after x) (sent_at counts l) t) ∙ sym (ap (λ zs. past (sent_at counts l) zs) (on-own l x xs t)))
      (λ (t : same_lane l x.lane ≡ false).
      ap (λ p. past p (on l xs)) (cond-false (same_lane l x.lane) (after x) (sent_at counts l) t) ∙ sym (ap (λ zs. past (sent_at counts l) zs) (on-other l x xs t)))
      (cases_Bool (same_lane l x.lane))
