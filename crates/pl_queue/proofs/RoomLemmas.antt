-- Few pushes, since lanes are few and their numbers small.
use Rattle.std.proofs.Common.{◌≡◌, ◌≤◌, ◌<◌, ◌^◌, ◌+◌, ◌*◌, ◌++◌, ℕ, Bool, true, false, cond, List, [], ◌∷◌, Some, length, refl, ap, sym, ◌∙◌, ⊎_elim, arith}
use Rattle.std.proofs.lemmas.Bool.{cond-true, cond-false, cases_Bool}
use Rattle.std.proofs.lemmas.List.{length-append}
use Rattle.std.proofs.lemmas.Option.{same_Some, none-some}
use Rattle.pl_event.specs.declared.envelopes.Envelope.{Envelope}
use Rattle.pl_event.specs.declared.envelopes.Lane.{Lane}
use Rattle.pl_event.specs.Hops.{same_lane}
use Rattle.pl_event.specs.Worlds.{closes}
use Rattle.pl_queue.specs.declared.views.SendCount.{SendCount}
use Rattle.pl_queue.specs.declared.views.SenderView.{SenderView}
use Rattle.pl_queue.specs.Left.{send_counts_of}
use Rattle.pl_queue.specs.Room.{sent_on, all_pushes, IsCounted}
use Rattle.pl_queue.specs.Rule.{Each}
use Rattle.pl_queue.specs.Views.{send_count, sent_of, set_send_count, fresh_sends, after_offer}

pub counted-begins : (lanes : List Lane) → IsCounted (fresh_sends lanes)
counted-begins [] = record { pushes = refl; small = tt }
counted-begins (l ∷ ls) = let rest = counted-begins ls in record { pushes = omega (arith, rest.pushes); small = (omega arith, rest.small) }

sent_on-set : (l : Lane) (n : ℕ) (e : Bool) (cs : List SendCount) → sent_of l cs ≡ Some (n, false) → sent_on (set_send_count l (n + 1) e cs) ≡ sent_on cs + 1
sent_on-set l n e [] h = absurd (none-some (n, false) h)
sent_on-set l n e (c ∷ cs) h = ⊎_elim
    (λ (t : same_lane l c.lane ≡ true).
    let is : c.next ≡ n = ap (λ (q : ℕ × Bool). q.0) (same_Some (c.next, c.ended) (n, false) (sym (cond-true (same_lane l c.lane) _ _ t) ∙ h)) in
    ap sent_on (cond-true (same_lane l c.lane) (send_count c.lane (n + 1) e ∷ cs) (c ∷ set_send_count l (n + 1) e cs) t) ∙ omega (arith, is))
    (λ (t : same_lane l c.lane ≡ false).
    let rest = sent_on-set l n e cs (sym (cond-false (same_lane l c.lane) _ _ t) ∙ h) in
    ap sent_on (cond-false (same_lane l c.lane) (send_count c.lane (n + 1) e ∷ cs) (c ∷ set_send_count l (n + 1) e cs) t) ∙ omega (arith, rest))
    (cases_Bool (same_lane l c.lane))

small-set : (l : Lane) (n : ℕ) (e : Bool) (cs : List SendCount) → n < 2 ^ 32 → Each (λ (c : SendCount). c.next ≤ 2 ^ 32) cs → Each (λ (c : SendCount). c.next ≤ 2 ^ 32) (set_send_count l (n + 1) e cs)
small-set l n e [] h p = tt
small-set l n e (c ∷ cs) h p =
    elim (same_lane l c.lane) as (λ b. Each (λ (c : SendCount). c.next ≤ 2 ^ 32) (cond b (send_count c.lane (n + 1) e ∷ cs) (c ∷ set_send_count l (n + 1) e cs))) [
      | true ↦ (omega (arith, h), p.1)
      | false ↦ (p.0, small-set l n e cs h p.1)
    ]

pub counted-goes_on : (s : SenderView) (x : Envelope) → IsCounted s → sent_of x.lane s.send_counts ≡ Some (x.number, false) → x.number < 2 ^ 32 → IsCounted (after_offer s x)
counted-goes_on s x h is small = record {
  pushes = omega (arith, h.pushes, sent_on-set x.lane x.number (closes x.item) s.send_counts is);
  small = small-set x.lane x.number (closes x.item) s.send_counts small h.small;
}

pub sent_on-append : (cs ds : List SendCount) → sent_on (cs ++ ds) ≡ sent_on cs + sent_on ds
sent_on-append [] ds = omega arith
sent_on-append (c ∷ cs) ds = omega (arith, sent_on-append cs ds)

sent_on-few : (cs : List SendCount) → Each (λ (c : SendCount). c.next ≤ 2 ^ 32) cs → sent_on cs ≤ 2 ^ 32 * length cs
sent_on-few [] p = omega arith
sent_on-few (c ∷ cs) p = omega (arith, p.0, sent_on-few cs p.1)

pub pushes-few : (ss : List SenderView) → Each IsCounted ss → all_pushes ss ≤ 2 ^ 32 * length (send_counts_of ss)
pushes-few [] h = omega arith
pushes-few (s ∷ ss) h =
    omega (arith, h.0.pushes, sent_on-few s.send_counts h.0.small, pushes-few ss h.1, length-append s.send_counts (send_counts_of ss))

pub pushes-room : (ss : List SenderView) → Each IsCounted ss → length (send_counts_of ss) ≤ 8192 → all_pushes ss ≤ 2 ^ 45
pushes-room ss h few = omega (arith, pushes-few ss h, few)
