-- Seats with the lanes of 64 channels each, as they are opened and as they send.
use Rattle.std.proofs.Common.{◌≡◌, ◌+◌, ◌*◌, ◌<◌, ◌≤◌, ℕ, zero, suc, true, false, cond, List, [], ◌∷◌, ◌++◌, Option, Some, map, replicate, set, take, drop, length, get_or, refl, ap, sym, ◌∙◌, subst, ⊎_elim, arith, get_or-set_other, get_or-set_same}
use Rattle.std.proofs.Math.Seq.{take-append_seam}
use Rattle.std.proofs.lemmas.List.{length-set, get_or-replicate}
use Rattle.std.proofs.lemmas.Bool.{cond-true, cond-false, cases_Bool, cases_eq}
use Rattle.pl_event.specs.declared.envelopes.Envelope.{Envelope}
use Rattle.pl_event.specs.declared.envelopes.Lane.{Lane}
use Rattle.pl_event.specs.Hops.{data_lane, same_lane}
use Rattle.pl_event.specs.Worlds.{content_in}
use Rattle.pl_event.proofs.SameLanes.{same_lane-equal, same_lane-self}
use Rattle.pl_queue.specs.declared.views.SenderView.{SenderView}
use Rattle.pl_queue.specs.Ends.{MailboxEnds}
use Rattle.pl_queue.specs.Left.{Apart, lanes_of_senders}
use Rattle.pl_queue.specs.Rule.{Each}
use Rattle.pl_queue.specs.Views.{sent_of, fresh_send_counts, fresh_sends, after_offer}
use Rattle.pl_queue_tests.specs.Relays.{event, lane_events}
use Rattle.pl_queue_tests.proofs.RelayLemmas.{event-sent, sent_of-other}
use Rattle.pl_post.specs.Posts.{PostView, PostSeatView, IsSeatOf}
use Rattle.pl_post_tests.specs.Feeding.{IsNext}
use Rattle.pl_post_tests.specs.Turns.{lanes_from, lists_from, all_carry, CarriesAll, AreNext, IsInTurn}

differ : (c d : ℕ) → (c ≡ d → ⊥) → same_lane (data_lane c 0) (data_lane d 0) ≡ false
differ c d apart = ⊎_elim
    (λ (t : same_lane (data_lane c 0) (data_lane d 0) ≡ true). absurd (apart (ap (λ (l : Lane). l.channel) (same_lane-equal (data_lane c 0) (data_lane d 0) t))))
    (λ (t : same_lane (data_lane c 0) (data_lane d 0) ≡ false). t)
    (cases_Bool (same_lane (data_lane c 0) (data_lane d 0)))

-- no lane stands twice
later : (c d n : ℕ) → c < d → Each (λ m. same_lane (data_lane c 0) m ≡ false) (lanes_from d n)
later c d zero less = tt
later c d (suc n) less = (differ c d (λ e. omega (arith, e, less)), later c (d + 1) n (omega (arith, less)))

apart : (c n : ℕ) → Apart (lanes_from c n)
apart c zero = tt
apart c (suc n) = (later c (c + 1) n (omega arith), apart (c + 1) n)

pub four-apart : (lists : List (List Lane)) → lists ≡ lists_from 0 4 → Apart (lanes_of_senders lists)
four-apart lists is = subst (λ ls. Apart (lanes_of_senders ls)) (sym is) (apart 0 256)

-- what is found of a lane, where each of these has the same
found : {A : Type 0} (a : A) (get : Lane → List Lane → Option A) → ((l m : Lane) (ms : List Lane) → get l (m ∷ ms) ≡ cond (same_lane l m) (Some a) (get l ms))
    → (c n k channel : ℕ) → k < n → channel ≡ c + k → get (data_lane channel 0) (lanes_from c n) ≡ Some a
found a get step c zero k channel less is = absurd (omega (arith, less))
found a get step c (suc n) zero channel less is =
    let same : channel ≡ c = omega (arith, is) in
    step (data_lane channel 0) (data_lane c 0) (lanes_from (c + 1) n)
    ∙ cond-true (same_lane (data_lane channel 0) (data_lane c 0)) (Some a) (get (data_lane channel 0) (lanes_from (c + 1) n))
    (subst (λ d. same_lane (data_lane channel 0) (data_lane d 0) ≡ true) same (same_lane-self (data_lane channel 0)))
found a get step c (suc n) (suc k) channel less is =
    step (data_lane channel 0) (data_lane c 0) (lanes_from (c + 1) n)
    ∙ cond-false (same_lane (data_lane channel 0) (data_lane c 0)) (Some a) (get (data_lane channel 0) (lanes_from (c + 1) n)) (differ channel c (λ e. omega (arith, e, is)))
    ∙ found a get step (c + 1) n k channel (omega (arith, less)) (omega (arith, is))

pub all-carry : CarriesAll all_carry
all-carry = record {
  each = λ channel less. found (lane_events 999) (λ l ms. content_in (map (λ m. (m, lane_events 999)) ms) l) (λ l m ms. refl) 0 256 channel channel less (omega arith);
}

fresh-next : (first : ℕ) (sent : List ℕ) (s : SenderView) → s ≡ fresh_sends (lanes_from first 64) → ((turn : ℕ) → turn < 64 → get_or sent turn 0 ≡ 0) → AreNext first sent s
fresh-next first sent s is none = λ turn less.
    ap (λ (v : SenderView). sent_of (data_lane (first + turn) 0) v.send_counts) is
    ∙ found (0, false) (λ l ms. sent_of l (fresh_send_counts ms)) (λ l m ms. refl) first 64 turn (first + turn) less refl
    ∙ ap (λ n. Some (n, false)) (sym (none turn less))

-- the lane whose turn it is has had an envelope more
next-turn : (first turn n : ℕ) (sent : List ℕ) (s t : SenderView) (x : Envelope) → x ≡ event (data_lane (first + turn) 0) n → t ≡ after_offer s x → turn < length sent → n ≡ get_or sent turn 0 → turn < 64
    → AreNext first sent s → AreNext first (set sent turn (n + 1)) t
next-turn first turn n sent s t x e is there at low next = λ k less. ⊎_elim
    (λ (y : k ≡ turn).
    subst (λ j. IsNext (data_lane (first + j) 0) (get_or (set sent turn (n + 1)) j 0) t) (sym y)
    (event-sent (data_lane (first + turn) 0) n s t x e is (subst (λ j. IsNext (data_lane (first + turn) 0) j s) (sym at) (next turn low))
    ∙ ap (λ j. Some (j, false)) (sym (get_or-set_same sent turn (n + 1) 0 there))))
    (λ (y : k ≡ turn → ⊥).
    ap (λ (v : SenderView). sent_of (data_lane (first + k) 0) v.send_counts) (is ∙ ap (λ z. after_offer s z) e)
    ∙ sent_of-other (data_lane (first + k) 0) (data_lane (first + turn) 0) (n + 1) false s.send_counts (differ (first + k) (first + turn) (λ z. y (omega (arith, z))))
    ∙ next k less
    ∙ ap (λ j. Some (j, false)) (sym (get_or-set_other sent turn k (n + 1) 0 y)))
    (cases_eq k turn)

-- no more than 999
turn-few : (turn n : ℕ) (sent : List ℕ) → n < 999 → ((k : ℕ) → k < 64 → get_or sent k 0 ≤ 999) → turn < length sent → (k : ℕ) → k < 64 → get_or (set sent turn (n + 1)) k 0 ≤ 999
turn-few turn n sent small few there k less = ⊎_elim
    (λ (y : k ≡ turn). subst (λ j. get_or (set sent turn (n + 1)) j 0 ≤ 999) (sym y) (subst (λ j. j ≤ 999) (sym (get_or-set_same sent turn (n + 1) 0 there)) (omega (arith, small))))
    (λ (y : k ≡ turn → ⊥). subst (λ j. j ≤ 999) (sym (get_or-set_other sent turn k (n + 1) 0 y)) (few k less))
    (cases_eq k turn)

-- what holds at each place holds of each
pub each-place : {A : Type 0} (P : A → Type 0) (xs : List A) → ((i : ℕ) (x : A) → i < length xs → x ≡ get_or xs i x → P x) → Each P xs
each-place P [] all = tt
each-place P (x ∷ xs) all = (all 0 x (omega arith) refl, each-place P xs (λ i y less is. all (suc i) y (omega (arith, less)) is))

-- the same of what is written back to a list of so many
pub each-written : {A : Type 0} (P : A → Type 0) (n : ℕ) (xs ys : List A) → n ≡ length xs → Each P xs → Each P (take n (xs ++ drop (length xs) ys))
each-written P n xs ys is all = subst (λ m. Each P (take m (xs ++ drop (length xs) ys))) (sym is) (subst (λ l. Each P l) (sym (take-append_seam xs (drop (length xs) ys))) all)

-- the seats that are left of those that were opened, from a channel on
pub record AreLeft {S : Type 0} (sends : S → SenderView) (first : ℕ) (seats : List S) : Type 0 where
  pub count : ℕ
  pub all : first + 64 * count ≡ 256
  pub fresh : map sends seats ≡ map fresh_sends (lists_from first count)

after : {S : Type 0} (sends : S → SenderView) (first count : ℕ) (x : S) (xs : List S) → first + 64 * count ≡ 256 → map sends (x ∷ xs) ≡ map fresh_sends (lists_from first count)
    → (first ≤ 192) × (sends x ≡ fresh_sends (lanes_from first 64)) × AreLeft sends (first + 64) xs
after sends first zero x xs all e = absurd (let n = ap length e in omega (arith, n))
after sends first (suc count) x xs all e = (omega (arith, all), cc, record { count = count; all = omega (arith, all); fresh = cc })

pub next-left : {S : Type 0} (sends : S → SenderView) (first : ℕ) (seats : List S) (x : S) (xs : List S) → seats ≡ x ∷ xs → AreLeft sends first seats
    → (first ≤ 192) × (sends x ≡ fresh_sends (lanes_from first 64)) × AreLeft sends (first + 64) xs
next-left sends first seats x xs is left = after sends first left.count x xs left.all (ap (λ ss. map sends ss) (sym is) ∙ left.fresh)

module _ {M S T : Type 0} (ends : MailboxEnds M S T) where
  pub opened-turn : (p : PostView M) (s : PostSeatView S) (first : ℕ) → IsSeatOf ends p s → first ≤ 192 → ends.sends_of s.sender ≡ fresh_sends (lanes_from first 64) → IsInTurn ends p s first (replicate 64 0)
  opened-turn p s first own low is = record {
    seat = own;
    low = low;
    all = refl;
    next = fresh-next first (replicate 64 0) (ends.sends_of s.sender) is (λ turn less. get_or-replicate 64 turn 0 0 less);
    few = λ turn less. subst (λ n. n ≤ 999) (sym (get_or-replicate 64 turn 0 0 less)) (omega arith);
  }

  pub sent-turn : (p : PostView M) (s t : PostSeatView S) (first turn n : ℕ) (sent : List ℕ) (x : Envelope) → IsInTurn ends p s first sent → IsSeatOf ends p t → turn < 64 → n ≡ get_or sent turn 0 → n < 999
      → x ≡ event (data_lane (first + turn) 0) n → ends.sends_of t.sender ≡ after_offer (ends.sends_of s.sender) x → IsInTurn ends p t first (set sent turn (n + 1))
  sent-turn p s t first turn n sent x was own low at small e is =
      let there : turn < length sent = omega (arith, low, was.all) in
      record {
        seat = own;
        low = was.low;
        all = length-set sent turn (n + 1) ∙ was.all;
        next = next-turn first turn n sent (ends.sends_of s.sender) (ends.sends_of t.sender) x e is there at low was.next;
        few = turn-few turn n sent small was.few there;
      }
