-- What a relay sends fits, and which lanes its senders and its taker have.
use Rattle.std.proofs.Common.{◌≡◌, ◌+◌, ◌<◌, ℕ, zero, suc, Bool, true, false, cond, List, [], ◌∷◌, ◌++◌, Some, None, replicate, slice_get, get_or, map, length, refl, ap, sym, ◌∙◌, subst, ⊎_elim, arith}
use Rattle.std.proofs.lemmas.Bool.{cond-true, cond-false, cases_Bool}
use Rattle.std.proofs.lemmas.Option.{none-some}
use Rattle.pl_event.specs.declared.envelopes.Envelope.{Envelope}
use Rattle.pl_event.specs.declared.envelopes.Item.{Item}
use Rattle.pl_event.specs.declared.envelopes.Item.TheVariants as item
use Rattle.pl_event.specs.declared.envelopes.Kind.TheVariants.{Data, Flags}
use Rattle.pl_event.specs.declared.envelopes.Lane.{Lane}
use Rattle.pl_event.specs.declared.events.Event.{Event}
use Rattle.pl_event.specs.declared.events.Event.TheVariants.{ReadComplete}
use Rattle.pl_event.specs.Hops.{flags_lane, same_lane}
use Rattle.pl_event.specs.Fitting.{Fits}
use Rattle.pl_event.specs.Worlds.{World, content_of, content_in, FitsWorld, FitsAsKind, MayCome, closes}
use Rattle.pl_event.proofs.SameLanes.{same_lane-equal, same_lane-self}
use Rattle.pl_queue.specs.declared.views.SendCount.{SendCount}
use Rattle.pl_queue.specs.declared.views.SenderView.{SenderView}
use Rattle.pl_queue.specs.declared.views.TakerView.{TakerView}
use Rattle.pl_queue.specs.Left.{send_counts_of, lanes_of_senders, AreAll}
use Rattle.pl_queue.specs.Rule.{Each}
use Rattle.pl_queue.specs.Views.{fresh_sends, send_count, sent_of, set_send_count, lanes_of_send_counts, lanes_of_counts, after_offer, after_take, sends, fresh_takes, fresh_take_counts}
use Rattle.pl_queue.proofs.Drains.{set_send_count-lanes, set_take_count-lanes, all-given}
use Rattle.pl_queue.proofs.Lists.{map-append}
use Rattle.pl_queue_tests.specs.Flags.{flag_at}
use Rattle.pl_queue_tests.specs.Lines.{CarriesLines, line_read}
use Rattle.pl_queue_tests.specs.Relays.{IsFresh, lane_events, event_at, event, sending_lanes, taking_lanes}

in_replicate : {A : Type 0} (a : A) (n count : ℕ) → n < count → slice_get (replicate count a) n ≡ Some a
in_replicate a n zero h = absurd (omega arith)
in_replicate a zero (suc count) h = refl
in_replicate a (suc n) (suc count) h = in_replicate a n count (omega arith)

in_lane : (n last : ℕ) → n < last → slice_get (lane_events last) n ≡ Some (event_at n)
in_lane n zero h = absurd (omega arith)
in_lane zero (suc last) h = refl
in_lane (suc n) (suc last) h = in_replicate ReadComplete n last (omega arith)

count_replicate : {A : Type 0} (a : A) (n : ℕ) → n ≡ length (replicate n a)
count_replicate a zero = refl
count_replicate a (suc n) = ap suc (count_replicate a n)

lane_length : (last : ℕ) → last ≡ length (lane_events last)
lane_length zero = refl
lane_length (suc last) = ap suc (count_replicate ReadComplete last)

pub later-event : (n : ℕ) → (n ≡ 0 → ⊥) → ReadComplete ≡ event_at n
later-event zero h = absurd (h refl)
later-event (suc n) h = refl

pub item-fits : (world : World) (l : Lane) (n : ℕ) (events : List Event) (i : Item) → l.kind ≡ Data → content_of world l ≡ Some events → Fits events n i → MayCome world i
    → FitsWorld world (record { lane = l; number = n; item = i })
unfolding FitsWorld
item-fits world l n events i kind is fits may = subst (λ k. FitsAsKind world k (record { lane = l; number = n; item = i })) (sym kind) (events, is, fits, may)

pub event-fits : (world : World) (l : Lane) (n last : ℕ) (x : Envelope) → l.kind ≡ Data → content_of world l ≡ Some (lane_events last) → n < last → x ≡ event l n → FitsWorld world x
event-fits world l n last x kind is h same = subst (FitsWorld world) (sym same) (item-fits world l n (lane_events last) (item.Event (event_at n)) kind is (in_lane n last h) tt)

pub last-fits : (world : World) (l : Lane) (last : ℕ) → l.kind ≡ Data → content_of world l ≡ Some (lane_events last) → FitsWorld world (record { lane = l; number = last; item = item.End })
last-fits world l last kind is = item-fits world l last (lane_events last) item.End kind is (lane_length last) tt

-- a flag fits every world
pub flag-fits : (world : World) (l : Lane) (n : ℕ) (x : Envelope) → l.kind ≡ Flags → x ≡ flag_at l n → FitsWorld world x
unfolding FitsWorld
flag-fits world l n x kind is = subst (FitsWorld world) (sym is) (subst (λ k. FitsAsKind world k (flag_at l n)) (sym kind) refl)

at-map : {A B : Type 0} (f : A → B) (xs : List A) (n : ℕ) (x : A) → n < length xs → x ≡ get_or xs n x → slice_get (map f xs) n ≡ Some (f x)
at-map f [] n x h e = absurd (omega arith)
at-map f (y ∷ ys) zero x h e = ap (λ z. Some (f z)) (sym e)
at-map f (y ∷ ys) (suc n) x h e = at-map f ys n x (omega arith) e

map-length : {A B : Type 0} (f : A → B) (xs : List A) → length xs ≡ length (map f xs)
map-length f [] = refl
map-length f (x ∷ xs) = ap suc (map-length f xs)

pub line-fits : (world : World) (l : Lane) (lines : List (List ℕ)) (n : ℕ) (line : List ℕ) → CarriesLines world l lines → n < length lines → line ≡ get_or lines n line
    → FitsWorld world (record { lane = l; number = n; item = item.Event (line_read line) })
line-fits world l lines n line c h e = item-fits world l n (map line_read lines) (item.Event (line_read line)) c.kind c.content (at-map line_read lines n line h e) tt

pub lines-end : (world : World) (l : Lane) (lines : List (List ℕ)) (n : ℕ) → CarriesLines world l lines → n ≡ length lines → FitsWorld world (record { lane = l; number = n; item = item.End })
lines-end world l lines n c e = item-fits world l n (map line_read lines) item.End c.kind c.content (e ∙ map-length line_read lines) tt

-- a count that was found is found as it was set
pub sent_of-this : (l : Lane) (n : ℕ) (e : Bool) (ss : List SendCount) (k : ℕ) (f : Bool) → sent_of l ss ≡ Some (k, f) → sent_of l (set_send_count l n e ss) ≡ Some (n, e)
sent_of-this l n e [] k f h = absurd (none-some (k, f) h)
sent_of-this l n e (s ∷ ss) k f h = ⊎_elim
    (λ (t : same_lane l s.lane ≡ true).
    subst (λ b. sent_of l (cond b (send_count s.lane n e ∷ ss) (s ∷ set_send_count l n e ss)) ≡ Some (n, e)) (sym t) (cond-true (same_lane l s.lane) (Some (n, e)) (sent_of l ss) t))
    (λ (t : same_lane l s.lane ≡ false).
    let g = sym (cond-false (same_lane l s.lane) (Some (s.next, s.ended)) (sent_of l ss) t) ∙ h in
    subst (λ b. sent_of l (cond b (send_count s.lane n e ∷ ss) (s ∷ set_send_count l n e ss)) ≡ Some (n, e)) (sym t)
    (cond-false (same_lane l s.lane) (Some (s.next, s.ended)) (sent_of l (set_send_count l n e ss)) t ∙ sent_of-this l n e ss k f g))
    (cases_Bool (same_lane l s.lane))

-- a lane has had an envelope more, which is not its last
pub one-more : (s t : SenderView) (x : Envelope) → closes x.item ≡ false → t ≡ after_offer s x → sent_of x.lane s.send_counts ≡ Some (x.number, false) → sent_of x.lane t.send_counts ≡ Some (x.number + 1, false)
one-more s t x goes_on is h =
    ap (λ (v : SenderView). sent_of x.lane v.send_counts) (is ∙ ap (λ e. sends (set_send_count x.lane (x.number + 1) e s.send_counts) (s.pushes + 1) (Some x)) goes_on)
    ∙ sent_of-this x.lane (x.number + 1) false s.send_counts x.number false h

-- a lane has had a flag more
pub now-sent : (c hop n : ℕ) (s t : SenderView) (l : Lane) (x : Envelope) → l ≡ flags_lane c hop → x ≡ flag_at l n → t ≡ after_offer s x → sent_of (flags_lane c hop) s.send_counts ≡ Some (n, false)
    → sent_of (flags_lane c hop) t.send_counts ≡ Some (n + 1, false)
now-sent c hop n s t l x e f is h = one-more s t (flag_at (flags_lane c hop) n) refl (is ∙ ap (λ y. after_offer s y) (f ∙ ap (λ m. flag_at m n) e)) h

-- a lane has had an event more
pub event-sent : (l : Lane) (n : ℕ) (s t : SenderView) (x : Envelope) → x ≡ event l n → t ≡ after_offer s x → sent_of l s.send_counts ≡ Some (n, false) → sent_of l t.send_counts ≡ Some (n + 1, false)
event-sent l n s t x e is h = one-more s t (event l n) refl (is ∙ ap (λ y. after_offer s y) e) h

pub lanes-stay : (s : SenderView) (x : Envelope) → sending_lanes (after_offer s x) ≡ sending_lanes s
lanes-stay s x = set_send_count-lanes x.lane _ _ s.send_counts

pub taken-lanes-stay : (t : TakerView) (x : Envelope) → taking_lanes (after_take t x) ≡ taking_lanes t
taken-lanes-stay t x = set_take_count-lanes x.lane _ t.counts

size : {A B : Type 0} (f : A → B) (r : List A) (x y : A) → 0 < length (map f ((r ++ x ∷ []) ++ y ∷ []))
size f [] x y = omega arith
size f (z ∷ r) x y = omega arith

three : {A B : Type 0} (f : A → B) (r : List A) (x y : A) (a b : B) (z : A) → map f (((z ∷ r) ++ x ∷ []) ++ y ∷ []) ≡ a ∷ b ∷ [] → ⊥
three f [] x y a b z e = cc
three f (w ∷ r) x y a b z e = let n = ap length e in omega (arith, n, size f r x y)

-- the last two of a list whose images are two
pub last_two : {A B : Type 0} (f : A → B) (r : List A) (x y : A) (a b : B) → map f ((r ++ x ∷ []) ++ y ∷ []) ≡ a ∷ b ∷ [] → (f x ≡ a) × (f y ≡ b)
last_two f [] x y a b e = (cc, cc)
last_two f (z ∷ r) x y a b e = absurd (three f r x y a b z e)

Each-two : {S : Type 0} (P : S → Type 0) (r : List S) (x y : S) → Each P ((r ++ x ∷ []) ++ y ∷ []) → P x × P y
Each-two P [] x y h = (h.0, h.1.0)
Each-two P (z ∷ r) x y h = Each-two P r x y h.1

pub fresh : (l : Lane) (s : SenderView) → s ≡ fresh_sends (l ∷ []) → IsFresh l s
fresh l s e =
    (ap (λ (t : SenderView). sent_of l t.send_counts) e ∙ cond-true (same_lane l l) (Some (0, false)) None (same_lane-self l), ap sending_lanes e)

-- the two senders of a mailbox with a lane each
pub opened_two : {S V : Type 0} (P : S → Type 0) (f : S → SenderView) (h : V → List Lane) (all front r : List S) (x y : S) (lanes : List V) (a b : V) (first second : Lane)
    → Each P all → map f all ≡ map (λ v. fresh_sends (h v)) lanes → all ≡ front ++ y ∷ [] → front ≡ r ++ x ∷ [] → lanes ≡ a ∷ b ∷ [] → h a ≡ first ∷ [] → h b ≡ second ∷ []
    → (P x × IsFresh first (f x)) × (P y × IsFresh second (f y))
opened_two P f h all front r x y lanes a b first second each is e d l p q =
    let w : all ≡ (r ++ x ∷ []) ++ y ∷ [] = e ∙ ap (λ xs. xs ++ y ∷ []) d in
    let m : map f ((r ++ x ∷ []) ++ y ∷ []) ≡ fresh_sends (h a) ∷ fresh_sends (h b) ∷ [] = ap (λ xs. map f xs) (sym w) ∙ is ∙ ap (λ vs. map (λ v. fresh_sends (h v)) vs) l in
    let two = last_two f r x y (fresh_sends (h a)) (fresh_sends (h b)) m in
    let these = Each-two P r x y (subst (λ xs. Each P xs) w each) in
    ((these.0, fresh first (f x) (two.0 ∙ ap fresh_sends p)), (these.1, fresh second (f y) (two.1 ∙ ap fresh_sends q)))

-- the taker of such a mailbox
pub opened_taker : {V : Type 0} (h : V → List Lane) (t : TakerView) (lanes : List V) (a b : V) (first second : Lane)
    → t ≡ fresh_takes (lanes_of_senders (map h lanes)) → lanes ≡ a ∷ b ∷ [] → h a ≡ first ∷ [] → h b ≡ second ∷ [] → taking_lanes t ≡ first ∷ second ∷ []
opened_taker h t lanes a b first second is l p q =
    ap taking_lanes is ∙ ap (λ vs. lanes_of_counts (fresh_take_counts (lanes_of_senders (map h vs)))) l
    ∙ ap (λ ls. lanes_of_counts (fresh_take_counts (ls ++ (h b ++ [])))) p
    ∙ ap (λ ls. lanes_of_counts (fresh_take_counts (first ∷ (ls ++ [])))) q

-- both senders' lanes are all that the taker has
pub both-given : (s u : SenderView) (t : TakerView) (first second : Lane) → sending_lanes s ≡ first ∷ [] → sending_lanes u ≡ second ∷ [] → taking_lanes t ≡ first ∷ second ∷ []
    → AreAll (send_counts_of (s ∷ u ∷ [])) t.counts
both-given s u t first second p q r = all-given (send_counts_of (s ∷ u ∷ [])) t.counts
    (map-append (λ (c : SendCount). c.lane) s.send_counts (u.send_counts ++ [])
    ∙ ap (λ ls. lanes_of_send_counts s.send_counts ++ ls) (map-append (λ (c : SendCount). c.lane) u.send_counts [] ∙ ap (λ ls. ls ++ []) q)
    ∙ ap (λ ls. ls ++ second ∷ []) p
    ∙ sym r)

-- the same of a list into which both were pushed
pub both-senders : {S : Type 0} (f : S → SenderView) (none front all : List S) (x y : S) (t : TakerView) (first second : Lane) → none ≡ [] → front ≡ none ++ x ∷ [] → all ≡ front ++ y ∷ []
    → sending_lanes (f x) ≡ first ∷ [] → sending_lanes (f y) ≡ second ∷ [] → taking_lanes t ≡ first ∷ second ∷ [] → AreAll (send_counts_of (map f all)) t.counts
both-senders f none front all x y t first second a b c p q r =
    let is : all ≡ x ∷ y ∷ [] = c ∙ ap (λ ss. ss ++ y ∷ []) (b ∙ ap (λ ss. ss ++ x ∷ []) a) in
    subst (λ ss. AreAll (send_counts_of (map f ss)) t.counts) (sym is) (both-given (f x) (f y) t first second p q r)

last_one : {A B : Type 0} (f : A → B) (r : List A) (x : A) (a : B) → map f (r ++ x ∷ []) ≡ a ∷ [] → f x ≡ a
last_one f [] x a e = cc
last_one f (z ∷ []) x a e = absurd (let n = ap length e in omega (arith, n))
last_one f (z ∷ w ∷ r) x a e = absurd (let n = ap length e in omega (arith, n))

Each-last : {S : Type 0} (P : S → Type 0) (r : List S) (x : S) → Each P (r ++ x ∷ []) → P x
Each-last P [] x h = h.0
Each-last P (z ∷ r) x h = Each-last P r x h.1

-- the sender of a mailbox with one lane
pub opened_one : {S V : Type 0} (P : S → Type 0) (f : S → SenderView) (h : V → List Lane) (all front : List S) (x : S) (lanes : List V) (a : V) (first : Lane)
    → Each P all → map f all ≡ map (λ v. fresh_sends (h v)) lanes → all ≡ front ++ x ∷ [] → lanes ≡ a ∷ [] → h a ≡ first ∷ [] → P x × IsFresh first (f x)
opened_one P f h all front x lanes a first each is e l p =
    let m : map f (front ++ x ∷ []) ≡ fresh_sends (h a) ∷ [] = ap (λ xs. map f xs) (sym e) ∙ is ∙ ap (λ vs. map (λ v. fresh_sends (h v)) vs) l in
    (Each-last P front x (subst (λ xs. Each P xs) e each), fresh first (f x) (last_one f front x (fresh_sends (h a)) m ∙ ap fresh_sends p))

pub opened_one-taker : {V : Type 0} (h : V → List Lane) (t : TakerView) (lanes : List V) (a : V) (first : Lane)
    → t ≡ fresh_takes (lanes_of_senders (map h lanes)) → lanes ≡ a ∷ [] → h a ≡ first ∷ [] → taking_lanes t ≡ first ∷ []
opened_one-taker h t lanes a first is l p =
    ap taking_lanes is ∙ ap (λ vs. lanes_of_counts (fresh_take_counts (lanes_of_senders (map h vs)))) l ∙ ap (λ ls. lanes_of_counts (fresh_take_counts (ls ++ []))) p

-- its lane is all that the taker has
pub one-sender : {S : Type 0} (f : S → SenderView) (none all : List S) (x : S) (t : TakerView) (first : Lane) → none ≡ [] → all ≡ none ++ x ∷ [] → sending_lanes (f x) ≡ first ∷ []
    → taking_lanes t ≡ first ∷ [] → AreAll (send_counts_of (map f all)) t.counts
one-sender f none all x t first a b own taker =
    let is : all ≡ x ∷ [] = b ∙ ap (λ ss. ss ++ x ∷ []) a in
    subst (λ ss. AreAll (send_counts_of (map f ss)) t.counts) (sym is)
    (all-given (send_counts_of (f x ∷ [])) t.counts (map-append (λ (c : SendCount). c.lane) (f x).send_counts [] ∙ ap (λ ls. ls ++ []) own ∙ sym taker))

-- worlds of one lane, and of two
pub in_first : (l : Lane) (events : List Event) (rest : List (Lane × List Event)) → content_in ((l, events) ∷ rest) l ≡ Some events
in_first l events rest = cond-true (same_lane l l) _ _ (same_lane-self l)

pub in_second : (l m : Lane) (events others : List Event) → same_lane m l ≡ false → content_in ((l, events) ∷ (m, others) ∷ []) m ≡ Some others
in_second l m events others apart = cond-false (same_lane m l) _ _ apart ∙ in_first m others []

-- a count of another lane stays
pub sent_of-other : (m l : Lane) (n : ℕ) (e : Bool) (ss : List SendCount) → same_lane m l ≡ false → sent_of m (set_send_count l n e ss) ≡ sent_of m ss
sent_of-other m l n e [] h = refl
sent_of-other m l n e (s ∷ ss) h = ⊎_elim
    (λ (t : same_lane l s.lane ≡ true).
    let apart : same_lane m s.lane ≡ false = subst (λ k. same_lane m k ≡ false) (same_lane-equal l s.lane t) h in
    ap (λ b. sent_of m (cond b (send_count s.lane n e ∷ ss) (s ∷ set_send_count l n e ss))) t
    ∙ cond-false (same_lane m s.lane) (Some (n, e)) (sent_of m ss) apart ∙ sym (cond-false (same_lane m s.lane) (Some (s.next, s.ended)) (sent_of m ss) apart))
    (λ (t : same_lane l s.lane ≡ false).
    ap (λ b. sent_of m (cond b (send_count s.lane n e ∷ ss) (s ∷ set_send_count l n e ss))) t
    ∙ ap (λ o. cond (same_lane m s.lane) (Some (s.next, s.ended)) o) (sent_of-other m l n e ss h))
    (cases_Bool (same_lane l s.lane))
