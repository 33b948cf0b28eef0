-- Counting lanes, and what is within the limits.
use Rattle.std.proofs.Common.{◌≡◌, ◌≤◌, ◌<◌, ◌+◌, ◌∙◌, ◌++◌, ℕ, List, true, false, not, ap, sym, length, map, take, drop, suc, get_or, ⊎_elim, arith, eqb}
use Rattle.std.proofs.lemmas.Bool.{leb-true, le-leb, and_parts, and_from, cases_Bool, ne_eqb}
use Rattle.std.proofs.lemmas.List.{length-append, length-map}
use Rattle.pl_event.specs.declared.envelopes.Lane.{Lane}
use Rattle.pl_queue.specs.Left.{lanes_of_senders}
use Rattle.pl_queue.specs.Limits.{is_mailbox_within}
use Rattle.pl_queue.specs.Views.{take_count, fresh_take_counts}
use Rattle.pl_queue.proofs.Lists.{lanes-more, lanes-split}

-- one list more
pub count-more : {A : Type 0} (f : A → List Lane) (xs : List A) (i : ℕ) (x : A) → i < length xs → x ≡ get_or xs i x
    → length (lanes_of_senders (map f (take (i + 1) xs))) ≡ length (lanes_of_senders (map f (take i xs))) + length (f x)
count-more f xs i x h e = ap length (lanes-more f xs i x h e) ∙ length-append (lanes_of_senders (map f (take i xs))) (f x)

-- the first lists have no more lanes than all
pub count-part : {A : Type 0} (f : A → List Lane) (xs : List A) (i : ℕ) (x : A) → i < length xs → x ≡ get_or xs i x
    → length (lanes_of_senders (map f (take i xs))) + length (f x) ≤ length (lanes_of_senders (map f xs))
count-part f xs i x h e =
    let before = lanes_of_senders (map f (take i xs)) in
    let rest = lanes_of_senders (map f (drop (suc i) xs)) in
    omega (arith, ap length (lanes-split f xs i x h e) ∙ length-append before (f x ++ rest), length-append (f x) rest)

pub beyond : (lanes : List (List Lane)) (capacity : ℕ) → 8192 < length (lanes_of_senders lanes) → false ≡ is_mailbox_within lanes capacity
beyond lanes capacity h = ⊎_elim
    (λ (t : is_mailbox_within lanes capacity ≡ true). absurd (omega (arith, leb-true (length (lanes_of_senders lanes)) 8192 (and_parts _ _ t).1, h)))
    (λ (t : is_mailbox_within lanes capacity ≡ false). sym t)
    (cases_Bool (is_mailbox_within lanes capacity))

nonzero : (n : ℕ) → (n ≡ 0 → ⊥) → not (eqb n 0) ≡ true
nonzero n h = ap not (ne_eqb n 0 h)

pub within : (lanes : List (List Lane)) (capacity : ℕ) → (capacity ≡ 0 → ⊥) → capacity ≤ 65536 → length lanes ≤ 65535 → length (lanes_of_senders lanes) ≤ 8192 → is_mailbox_within lanes capacity ≡ true
within lanes capacity a b c d =
    and_from _ _ (and_from _ _ (and_from _ _ (nonzero capacity a) (le-leb capacity 65536 b)) (le-leb (length lanes) 65535 c)) (le-leb (length (lanes_of_senders lanes)) 8192 d)

-- within the limits there are few lanes
pub few-counts : (lanes : List (List Lane)) (capacity : ℕ) → is_mailbox_within lanes capacity ≡ true → length (fresh_take_counts (lanes_of_senders lanes)) ≤ 8192
few-counts lanes capacity t = omega (arith, leb-true (length (lanes_of_senders lanes)) 8192 (and_parts _ _ t).1, length-map (lanes_of_senders lanes) (λ l. take_count l 0))
