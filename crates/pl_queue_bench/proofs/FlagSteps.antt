-- What a sender's next numbers are once it has sent a flag.
use Rattle.std.specs.Global.{Vec}
use Rattle.std.proofs.Common.{◌≡◌, ◌+◌, ◌<◌, ◌≤◌, ℕ, zero, suc, true, false, cond, List, [], ◌∷◌, ◌++◌, Some, map, length, get_or, refl, ap, sym, ◌∙◌, subst, ⊎_elim, arith}
use Rattle.std.proofs.lemmas.Bool.{cond-true, cond-false, cases_Bool, cases_eq, false≢true}
use Rattle.std.proofs.lemmas.List.{length-map}
use Rattle.pl_event.specs.declared.envelopes.Envelope.{Envelope}
use Rattle.pl_event.specs.declared.envelopes.Lane.{Lane}
use Rattle.pl_event.specs.Hops.{flags_lane, same_lane}
use Rattle.pl_event.proofs.SameLanes.{same_lane-equal, same_lane-self}
use Rattle.pl_queue.specs.declared.views.SenderView.{SenderView}
use Rattle.pl_queue.specs.Rule.{Each}
use Rattle.pl_queue.specs.Views.{sent_of, fresh_send_counts, fresh_sends, after_offer, has_lane}
use Rattle.pl_queue.proofs.Lists.{Each-at, has-front}
use Rattle.pl_queue_tests.specs.Openings.{hops_below, HaveChannels}
use Rattle.pl_queue_tests.proofs.RelayLemmas.{now-sent, sent_of-other}
use Rattle.pl_queue_tests.specs.Flags.{flag_at}
use Rattle.pl_queue_bench.specs.Sending.{HasNext, AllHaveNext}

other-hop : (c h k : ℕ) → (h ≡ k → ⊥) → same_lane (flags_lane c h) (flags_lane c k) ≡ false
other-hop c h k differ = ⊎_elim
    (λ (t : same_lane (flags_lane c h) (flags_lane c k) ≡ true). absurd (differ (ap (λ (l : Lane). l.hop) (same_lane-equal (flags_lane c h) (flags_lane c k) t))))
    (λ (t : same_lane (flags_lane c h) (flags_lane c k) ≡ false). t)
    (cases_Bool (same_lane (flags_lane c h) (flags_lane c k)))

-- the lanes of other hops have had no more
still : (c from to hop n k : ℕ) (s : SenderView) → ((h : ℕ) → from ≤ h → h < to → h ≡ hop → ⊥) → HasNext c from to k s → HasNext c from to k (after_offer s (flag_at (flags_lane c hop) n))
still c from to hop n k s apart had = record {
  next = λ h low high. sent_of-other (flags_lane c h) (flags_lane c hop) (n + 1) false s.send_counts (other-hop c h hop (apart h low high)) ∙ had.next h low high;
}

-- a sender that goes from hop to hop
pub record IsAtHop (channel hops hop number : ℕ) (s : SenderView) : Type 0 where
  pub done : HasNext channel 0 hop (number + 1) s
  pub rest : HasNext channel hop hops number s

pub next-hop : (c hops hop n : ℕ) (s t : SenderView) (l : Lane) (x : Envelope) → l ≡ flags_lane c hop → x ≡ flag_at l n → t ≡ after_offer s x → hop < hops → IsAtHop c hops hop n s
    → IsAtHop c hops (hop + 1) n t
next-hop c hops hop n s t l x e f is below at =
    let u = after_offer s (flag_at (flags_lane c hop) n) in
    let same : t ≡ u = is ∙ ap (λ y. after_offer s y) (f ∙ ap (λ m. flag_at m n) e) in
    let done = still c 0 hop hop n (n + 1) s (λ h _ less y. omega (arith, less, y)) at.done in
    let rest = still c (hop + 1) hops hop n n s (λ h more _ y. omega (arith, more, y)) (record { next = λ h low high. at.rest.next h (omega (arith, low)) high }) in
    subst (λ v. IsAtHop c hops (hop + 1) n v) (sym same) (record {
      done = record {
        next = λ h low high. ⊎_elim
            (λ (y : h ≡ hop). subst (λ k. sent_of (flags_lane c k) u.send_counts ≡ Some (n + 1, false)) (sym y)
            (now-sent c hop n s u (flags_lane c hop) (flag_at (flags_lane c hop) n) refl refl refl (at.rest.next hop (omega arith) below)))
            (λ (y : h ≡ hop → ⊥). done.next h low (omega (arith, high, y)))
            (cases_eq h hop);
      };
      rest = rest;
    })

-- senders of which each is one round further up to a channel
pub record AreAtChannel {S : Type 0} (made : S → Type 0) (sends : S → SenderView) (hops channels channel number : ℕ) (senders : List S) : Type 0 where
  pub done : AllHaveNext made sends hops (number + 1) 0 channel senders
  pub rest : AllHaveNext made sends hops number channel channels senders

-- senders as a mailbox is opened with them
in-fresh : (l : Lane) (ls : List Lane) → has_lane l ls ≡ true → sent_of l (fresh_send_counts ls) ≡ Some (0, false)
in-fresh l [] h = absurd (false≢true h)
in-fresh l (m ∷ ms) h = ⊎_elim
    (λ (t : same_lane l m ≡ true). cond-true (same_lane l m) (Some (0, false)) (sent_of l (fresh_send_counts ms)) t)
    (λ (t : same_lane l m ≡ false).
    cond-false (same_lane l m) (Some (0, false)) (sent_of l (fresh_send_counts ms)) t ∙ in-fresh l ms (sym (cond-false (same_lane l m) true (has_lane l ms) t) ∙ h))
    (cases_Bool (same_lane l m))

has-last : (l : Lane) (xs : List Lane) → has_lane l (xs ++ l ∷ []) ≡ true
has-last l [] = cond-true (same_lane l l) true false (same_lane-self l)
has-last l (x ∷ xs) = elim (same_lane l x) as (λ b. cond b true (has_lane l (xs ++ l ∷ [])) ≡ true) [ true ↦ refl | false ↦ has-last l xs ]

has-hop : (c h n : ℕ) → h < n → has_lane (flags_lane c h) (hops_below c n) ≡ true
has-hop c h zero less = absurd (omega arith)
has-hop c h (suc n) less = ⊎_elim
    (λ (e : h ≡ n). subst (λ k. has_lane (flags_lane c k) (hops_below c n ++ flags_lane c n ∷ []) ≡ true) (sym e) (has-last (flags_lane c n) (hops_below c n)))
    (λ (e : h ≡ n → ⊥). has-front (flags_lane c h) (hops_below c n) (flags_lane c n ∷ []) (has-hop c h n (omega (arith, less, e))))
    (cases_eq h n)

same-at : {A B C : Type 0} (f : A → C) (g : B → C) (xs : List A) (ys : List B) (i : ℕ) (x : A) → map f xs ≡ map g ys → i < length xs → x ≡ get_or xs i x
    → (y : B) × (y ≡ get_or ys i y) × (f x ≡ g y)
same-at f g [] ys i x e h is = absurd (omega arith)
same-at f g (a ∷ xs) [] i x e h is = absurd (let n = ap length e in omega (arith, n))
same-at f g (a ∷ xs) (b ∷ ys) zero x e h is = (b, refl, ap f is ∙ cc e)
same-at f g (a ∷ xs) (b ∷ ys) (suc i) x e h is = let tails : map f xs ≡ map g ys = cc e in same-at f g xs ys i x tails (omega (arith, h)) is

pub same-length : {A B C : Type 0} (f : A → C) (g : B → C) (xs : List A) (ys : List B) → map f xs ≡ map g ys → length xs ≡ length ys
same-length f g xs ys e = sym (length-map xs f) ∙ ap length e ∙ length-map ys g

pub opened-all : {S : Type 0} (made : S → Type 0) (sends : S → SenderView) (senders : List S) (lists : List (Vec Lane)) (hops channels : ℕ) → Each made senders
    → map sends senders ≡ map (λ (v : Vec Lane). fresh_sends v.items) lists → channels ≤ length senders → HaveChannels hops channels lists → AllHaveNext made sends hops 0 0 channels senders
opened-all made sends senders lists hops channels all is there have = λ i s low high e.
    let at = same-at sends (λ (v : Vec Lane). fresh_sends v.items) senders lists i s is (omega (arith, high, there)) e in
    let own : sends s ≡ fresh_sends (hops_below i hops) = at.2 ∙ ap fresh_sends (have i at.0 high at.1) in (
      Each-at made senders i s (omega (arith, high, there)) e all,
      record {
        next = λ h _ less. ap (λ (v : SenderView). sent_of (flags_lane i h) v.send_counts) own ∙ in-fresh (flags_lane i h) (hops_below i hops) (has-hop i h hops less);
      },
    )
