-- The seats of a post that is being opened.
use Rattle.std.specs.Global.{Vec}
use Rattle.std.specs.Prelude.{All}
use Rattle.std.proofs.Common.{◌≡◌, ◌≤◌, ℕ, true, if◌then◌else◌, List, [], ◌∷◌, length, map, None, Some, refl, ap, sym, subst, ◌∙◌, ⊎_elim, arith}
use Rattle.std.proofs.lemmas.Bool.{leb-true, and_parts, cases_Bool}
use Rattle.std.proofs.lemmas.List.Elements.{All-head, All-tail}
use Rattle.std.proofs.lemmas.Option.{none-some}
use Rattle.pl_event.specs.declared.envelopes.Lane.{Lane}
use Rattle.pl_event.proofs.Lists.{head-is, tail-is}
use Rattle.pl_queue.specs.declared.views.SenderView.{SenderView}
use Rattle.pl_queue.specs.declared.mailbox.OpenRefusal.TheVariants.{Limit}
use Rattle.pl_queue.specs.Ends.{MailboxEnds}
use Rattle.pl_queue.specs.Left.{lanes_of_senders}
use Rattle.pl_queue.specs.Limits.{is_mailbox_within, opening_fault}
use Rattle.pl_queue.specs.Room.{IsCounted}
use Rattle.pl_queue.specs.Rule.{Each}
use Rattle.pl_queue.specs.Views.{fresh_sends}
use Rattle.pl_queue.proofs.RoomLemmas.{counted-begins}
use Rattle.pl_queue.proofs.Lists.{Each-weaker}
use Rattle.pl_words.specs.Admissions.{SendSeatView, new_send_seat}
use Rattle.pl_words.specs.Names.{Name}
use Rattle.pl_post.specs.Posts.{PostView, PostSeatView, IsSeatOf}

pub each-of : {A : Type 0} (P : A → Type 0) (xs : List A) → All P xs → Each P xs
each-of P [] all = tt
each-of P (x ∷ xs) all = (All-head P x xs all, each-of P xs (All-tail P x xs all))

-- a new seat keeps nothing
pub all-unused : (name : Name) (seats : List SendSeatView) → All (λ s. s ≡ new_send_seat name s.number) seats → Each (λ (s : SendSeatView). s.kept ≡ 0) seats
all-unused name seats all =
    Each-weaker (λ (s : SendSeatView). s ≡ new_send_seat name s.number) (λ (s : SendSeatView). s.kept ≡ 0) (λ s is. ap (λ (t : SendSeatView). t.kept) is) seats
    (each-of (λ (s : SendSeatView). s ≡ new_send_seat name s.number) seats all)

abbrev pub IsFresh : SenderView → Type 0
IsFresh s = IsCounted s × (s.pushes ≡ 0)

fresh-is : (s : SenderView) (lanes : List Lane) → s ≡ fresh_sends lanes → IsFresh s
fresh-is s lanes is = (subst IsCounted (sym is) (counted-begins lanes), ap (λ (t : SenderView). t.pushes) is)

-- a new sender has sent nothing
pub all-fresh : {S : Type 0} (f : S → SenderView) (senders : List S) (lanes : List (Vec Lane)) → map f senders ≡ map (λ v. fresh_sends v.items) lanes → Each (λ s. IsFresh (f s)) senders
all-fresh f [] lanes is = tt
all-fresh f (s ∷ ss) [] is = absurd (let n = ap length is in omega (arith, n))
all-fresh f (s ∷ ss) (l ∷ ls) is = (
  fresh-is (f s) l.items (head-is (f s) (fresh_sends l.items) (map f ss) (map (λ v. fresh_sends v.items) ls) is),
  all-fresh f ss ls (tail-is (f s) (fresh_sends l.items) (map f ss) (map (λ v. fresh_sends v.items) ls) is),
)

unfaulted : (lanes : List (List Lane)) (capacity : ℕ) → opening_fault lanes capacity ≡ None → is_mailbox_within lanes capacity ≡ true
unfaulted lanes capacity none = ⊎_elim
    (λ (t : is_mailbox_within lanes capacity ≡ true). t)
    (λ t. absurd (none-some Limit (sym none ∙ ap (λ b. if b then None else Some Limit) t)))
    (cases_Bool (is_mailbox_within lanes capacity))

-- what was opened is within the limits
pub few-lanes : (lanes : List (List Lane)) (capacity : ℕ) → opening_fault lanes capacity ≡ None → length (lanes_of_senders lanes) ≤ 8192
few-lanes lanes capacity none = leb-true (length (lanes_of_senders lanes)) 8192 (and_parts _ _ (unfaulted lanes capacity none)).1

-- each seat that was made is the post's
pub all-made : {M S T : Type 0} (ends : MailboxEnds M S T) (p : PostView M) (made : List (PostSeatView S)) (senders : List S) (seats : List SendSeatView)
    → map (λ s. s.sender) made ≡ senders → map (λ s. s.seat) made ≡ seats → Each (ends.is_sender p.mailbox) senders → Each (λ s. s ≡ new_send_seat p.name s.number) seats
    → Each (λ s. IsSeatOf ends p s × (s.seat ≡ new_send_seat p.name s.seat.number)) made
all-made ends p [] senders seats a b each new = tt
all-made ends p (m ∷ ms) [] seats a b each new = absurd (let n = ap length a in omega (arith, n))
all-made ends p (m ∷ ms) (s ∷ ss) [] a b each new = absurd (let n = ap length b in omega (arith, n))
all-made {S = S} ends p (m ∷ ms) (s ∷ ss) (t ∷ ts) a b each new =
    let sender = head-is m.sender s (map (λ (z : PostSeatView S). z.sender) ms) ss a in
    let seat = head-is m.seat t (map (λ (z : PostSeatView S). z.seat) ms) ts b in
    let is : m.seat ≡ new_send_seat p.name m.seat.number = subst (λ z. z ≡ new_send_seat p.name z.number) (sym seat) new.0 in (
      (record { sender = subst (ends.is_sender p.mailbox) (sym sender) each.0; seat = ap (λ (z : SendSeatView). z.name) is }, is),
      all-made ends p ms ss ts (tail-is m.sender s (map (λ (z : PostSeatView S). z.sender) ms) ss a) (tail-is m.seat t (map (λ (z : PostSeatView S). z.seat) ms) ts b) each.1 new.1,
    )

-- what the seats have sent is what their senders have
pub sends-made : {S : Type 0} (f : S → SenderView) (made : List (PostSeatView S)) (senders : List S) → map (λ s. s.sender) made ≡ senders → map (λ s. f s.sender) made ≡ map f senders
sends-made f [] [] a = refl
sends-made f [] (s ∷ ss) a = absurd (let n = ap length a in omega (arith, n))
sends-made f (m ∷ ms) [] a = absurd (let n = ap length a in omega (arith, n))
sends-made {S = S} f (m ∷ ms) (s ∷ ss) a =
    let first = ap f (head-is m.sender s (map (λ (z : PostSeatView S). z.sender) ms) ss a) in
    let rest = sends-made f ms ss (tail-is m.sender s (map (λ (z : PostSeatView S). z.sender) ms) ss a) in
    λ i. first i ∷ rest i
