-- The nodes of executors, each of which takes its shares of channels, with the seats of their heads, out of what is left.
use Rattle.std.proofs.Common.{◌≡◌, ◌≢◌, ℕ, ◌+◌, ◌<◌, ◌≤◌, Bool, true, false, not, ◌&&◌, List, [], ◌∷◌, ◌++◌, length, map, get_or, set, slice_get, Option, Some, refl, ap, sym, ◌∙◌, subst, ⊎_elim, arith, inl, inr}
use Rattle.std.specs.Prelude.{◌==◌, cond, is_some}
use Rattle.std.specs.List.{range_with_len}
use Rattle.std.proofs.lemmas.Bool.{both_ways, cases_Bool, cases_eq, eqb-true, false≢true, ne_eqb}
use Rattle.std.proofs.lemmas.List.{length-set, length_push}
use Rattle.std.proofs.lemmas.Option.{none-some, slice_get_within, same_Some}
use Rattle.pl_event.specs.declared.events.Event.{Event}
use Rattle.pl_event.specs.Meaning.{Meaning}
use Rattle.pl_event.proofs.Lists.{at-index, at_set_same, at_set_other, slice_get-push}
use Rattle.pl_context.proofs.WaitingCalls.{at-set_there}
use Rattle.pl_head.specs.Transports.{TransportState}
use Rattle.pl_part.specs.Parts.{ChannelPartView, head_hop}
use Rattle.pl_part.specs.Shares.{IsShare, IsShareBy, IsShareOf, executor_of, only_if}
use Rattle.pl_part.proofs.ShareLemmas.{share-is-of, share-within}
use Rattle.pl_exec.specs.declared.nodes.ExecutorNodes.{ExecutorNodes}
use Rattle.pl_exec.specs.ChannelRows.{IsChannelRow, row_position}
use Rattle.pl_exec.specs.ExecutorNodes.{AreInOrder, heads_of}
use Rattle.pl_exec.specs.SessionWords.{ChannelNames, SeatsView}
use Rattle.pl_exec.specs.Sharing.{AreRests, AreShared, Gets, HasShare, HasShares, IsRestOf}
use Rattle.pl_exec.proofs.HeadLists.{heads-more}
use Rattle.pl_exec.proofs.ListSteps.{both-push}

-- ---- one share

still-some : {A : Type 0} (b : Bool) (o p : Option A) → p ≡ only_if b o → is_some p ≡ true → (b ≡ true) × (is_some o ≡ true)
still-some true o p is some = (refl, sym (ap (λ (q : Option _). is_some q) is) ∙ some)
still-some false o p is some = absurd (both_ways (is_some p) (ap (λ (q : Option _). is_some q) is) some)

not-some : {A : Type 0} (b : Bool) (o p : Option A) → p ≡ only_if b o → not b ≡ true → is_some p ≡ false
not-some true o p is off = absurd (false≢true off)
not-some false o p is off = ap (λ (q : Option _). is_some q) is

only-same : {A : Type 0} (b : Bool) (o p : Option A) → (b ≡ true → o ≡ p) → only_if b o ≡ only_if b p
only-same true o p same = same refl
only-same false o p same = refl

other-executor : (e x n : ℕ) → e ≢ x → ((n == e) && not (n == x)) ≡ (n == e)
other-executor e x n apart = ⊎_elim
    (λ (t : (n == e) ≡ true). let off : (n == x) ≡ false = ne_eqb n x (λ same. apart (sym (eqb-true n e t) ∙ same)) in (λ i. t i && not (off i)) ∙ sym t)
    (λ (f : (n == e) ≡ false). (λ i. f i && not (n == x)) ∙ sym f)
    (cases_Bool (n == e))

module _ {S T : Type 0} (x : ℕ) where
  -- what is left of a channel where the executor has taken its share
  pub rest-is : (p share p' : ChannelPartView S T) (slot slot' : Option SeatsView) → IsShareBy (λ e. e == x) p share → IsShareBy (λ e. not (e == x)) p p' → slot' ≡ only_if (not (is_some share.head)) slot → IsRestOf x p p' slot slot'
  rest-is p share p' slot slot' taken rest left = record {
    shares = λ e other apart is. share-within (λ n. n == e) (λ n. not (n == x)) (λ n. n == e) p p' other (λ n. other-executor e x n apart) rest is;
    seats = λ some.
        let here = executor_of p.path (head_hop p) == x in
        let head = still-some (not here) p.head p'.head rest.head some in
        (head.1, left ∙ ap (λ (b : Bool). only_if (not b) slot) (not-some here p.head share.head taken.head head.0));
  }

  -- and of a channel of which it has none
  pub rest-same : (p : ChannelPartView S T) (slot : Option SeatsView) → IsRestOf x p p slot slot
  rest-same p slot = record { shares = λ e share apart is. is; seats = λ some. (some, refl) }

-- ---- the channels of one row

module _ {S T : Type 0} (x : ℕ) (before : List (ChannelPartView S T)) (seats : List (Option SeatsView)) (row : List ℕ) where
  -- The executor has taken its shares of the first of these channels.
  pub record AreTaken (k : ℕ) (after : List (ChannelPartView S T)) (seats' : List (Option SeatsView)) : Type 0 where
    pub rests : AreRests x before seats after seats'
    pub ahead : (j : ℕ) → k ≤ j → j < length row → slice_get after (get_or row j 0) ≡ slice_get before (get_or row j 0)
    pub seats_ahead : (j : ℕ) → k ≤ j → j < length row → slice_get seats' (get_or row j 0) ≡ slice_get seats (get_or row j 0)

  pub none-taken : AreTaken 0 before seats
  none-taken = record {
    rests = record {
      parts_count = refl;
      seats_count = refl;
      each = λ c p p' slot slot' was seat now seat'.
          let part : p ≡ p' = same_Some p p' (sym was ∙ now) in
          let same : slot ≡ slot' = same_Some slot slot' (sym seat ∙ seat') in
          subst (λ (z : ChannelPartView S T × Option SeatsView). IsRestOf x p z.0 slot z.1) (λ i. (part i, same i)) (rest-same x p slot);
    };
    ahead = λ j le lt. refl;
    seats_ahead = λ j le lt. refl;
  }

  pub next-taken : (k : ℕ) (after : List (ChannelPartView S T)) (seats' : List (Option SeatsView)) (p p' : ChannelPartView S T) (slot slot' : Option SeatsView) → IsChannelRow (length before) row → k < length row → AreTaken k after seats'
      → slice_get before (get_or row k 0) ≡ Some p → slice_get seats (get_or row k 0) ≡ Some slot → IsRestOf x p p' slot slot' → AreTaken (k + 1) (set after (get_or row k 0) p') (set seats' (get_or row k 0) slot')
  next-taken k after seats' p p' slot slot' is within so_far was seat left = record {
    rests = record {
      parts_count = length-set after c p' ∙ so_far.rests.parts_count;
      seats_count = length-set seats' c slot' ∙ so_far.rests.seats_count;
      each = λ d q q' t t' at-q at-t at-q' at-t'. ⊎_elim
          (λ (e : d ≡ c).
          let old : q ≡ p = same_Some q p (sym at-q ∙ ap (λ (n : ℕ). slice_get before n) e ∙ was) in
          let old-seat : t ≡ slot = same_Some t slot (sym at-t ∙ ap (λ (n : ℕ). slice_get seats n) e ∙ seat) in
          let new = at_set_same after c p' q' (ap (λ (n : ℕ). slice_get (set after c p') n) (sym e) ∙ at-q') in
          let new-seat = at_set_same seats' c slot' t' (ap (λ (n : ℕ). slice_get (set seats' c slot') n) (sym e) ∙ at-t') in
          subst (λ (z : ChannelPartView S T × ChannelPartView S T × Option SeatsView × Option SeatsView). IsRestOf x z.0 z.1 z.2 z.3) (λ i. (sym old i, sym new i, sym old-seat i, sym new-seat i)) left)
          (λ (other : d ≢ c). so_far.rests.each d q q' t t' at-q at-t (at_set_other after c d p' q' other at-q') (at_set_other seats' c d slot' t' other at-t'))
          (cases_eq d c);
    };
    ahead = λ j le lt. at-set_there after c (get_or row j 0) p' (apart j le lt) ∙ so_far.ahead j (omega (arith, le)) lt;
    seats_ahead = λ j le lt. at-set_there seats' c (get_or row j 0) slot' (apart j le lt) ∙ so_far.seats_ahead j (omega (arith, le)) lt;
  }
    where
      c : ℕ
      c = get_or row k 0

      -- another channel stands there
      apart : (j : ℕ) → k + 1 ≤ j → j < length row → get_or row j 0 ≢ c
      apart j le lt e =
          let one = is.once j lt in
          let other = is.once k within in
          let same : j ≡ k = sym one ∙ ap (λ (n : ℕ). row_position row n) e ∙ other in
          omega (arith, same, le)

-- ---- its nodes

module _ {S T : Type 0} (meaning : S → Meaning) (stands_after : S → List Event → Type 0) (state : T → TransportState) (wholes : List (ChannelPartView S T)) (words : List ChannelNames) (heads : List (Option SeatsView)) (x : ℕ) (row : List ℕ) where
  -- What an executor has of the first channels of its row.
  pub record HasFirst (k : ℕ) (nodes : ExecutorNodes S T) : Type 0 where
    pub number : nodes.number ≡ x
    pub unrefused : nodes.was_refused ≡ false
    pub words_are : nodes.words.now ≡ words
    pub here : nodes.here.items ≡ row
    pub positions : nodes.positions.items ≡ map (row_position row) (range_with_len 0 (length wholes))
    pub parts : length nodes.parts.items ≡ k
    pub seats : length nodes.seats.items ≡ k
    pub each : (j : ℕ) (share : ChannelPartView S T) (slot : Option SeatsView) → slice_get nodes.parts.items j ≡ Some share → slice_get nodes.seats.items j ≡ Some slot → HasShare meaning stands_after state wholes words heads x (get_or row j 0) share slot
    pub own : nodes.heads.items ≡ heads_of nodes.parts.items

  pub next-share : (k : ℕ) (old new : ExecutorNodes S T) (whole share : ChannelPartView S T) (slot : Option SeatsView) → HasFirst k old → Gets old share slot new → slice_get wholes (get_or row k 0) ≡ Some whole → slice_get heads (get_or row k 0) ≡ Some slot
      → IsShareOf meaning stands_after state (λ e. e == x) whole share → HasFirst (k + 1) new
  next-share k old new whole share slot had got at own is = record {
    number = ap (λ (n : ExecutorNodes S T). n.number) got.same ∙ had.number;
    unrefused = ap (λ (n : ExecutorNodes S T). n.was_refused) got.same ∙ had.unrefused;
    words_are = ap (λ (n : ExecutorNodes S T). n.words.now) got.same ∙ had.words_are;
    here = ap (λ (n : ExecutorNodes S T). n.here.items) got.same ∙ had.here;
    positions = ap (λ (n : ExecutorNodes S T). n.positions.items) got.same ∙ had.positions;
    parts = ap (λ (l : List (ChannelPartView S T)). length l) got.parts ∙ length_push old.parts.items share ∙ ap (λ (n : ℕ). n + 1) had.parts;
    seats = ap (λ (l : List (Option SeatsView)). length l) got.seats ∙ length_push old.seats.items taken ∙ ap (λ (n : ℕ). n + 1) had.seats;
    each = λ j p t at-p at-t. elim (slice_get-push old.parts.items share p j (ap (λ (l : List (ChannelPartView S T)). slice_get l j) (sym got.parts) ∙ at-p)) [
      | inl earlier ↦ had.each j p t earlier (before j t (let within = slice_get_within old.parts.items j p earlier in let size = had.parts in omega (arith, within, size)) at-t)
      | inr last ↦
          let here : j ≡ k = last.0 ∙ had.parts in
          subst (λ (z : ℕ × ChannelPartView S T × Option SeatsView). HasShare meaning stands_after state wholes words heads x (get_or row z.0 0) z.1 z.2) (λ i. (sym here i, sym last.1 i, sym (latest j t here at-t) i)) new-share
    ];
    own = got.own ∙ ap (λ (l : List ℕ). l ++ cond (is_some share.head) (length old.parts.items ∷ []) []) had.own ∙ sym (heads-more old.parts.items share) ∙ ap (λ (l : List (ChannelPartView S T)). heads_of l) (sym got.parts);
  }
    where
      taken : Option SeatsView
      taken = only_if (is_some share.head) slot

      new-share : HasShare meaning stands_after state wholes words heads x (get_or row k 0) share taken
      new-share = record { whole = whole; whole_at = at; is = is; own = slot; own_at = own; seats = refl }

      slots : (j : ℕ) (t : Option SeatsView) → slice_get new.seats.items j ≡ Some t → slice_get (old.seats.items ++ taken ∷ []) j ≡ Some t
      slots j t at-t = ap (λ (l : List (Option SeatsView)). slice_get l j) (sym got.seats) ∙ at-t

      before : (j : ℕ) (t : Option SeatsView) → j < k → slice_get new.seats.items j ≡ Some t → slice_get old.seats.items j ≡ Some t
      before j t lt at-t = elim (slice_get-push old.seats.items taken t j (slots j t at-t)) [
        | inl earlier ↦ earlier
        | inr last ↦ absurd (let e = last.0 in let size = had.seats in omega (arith, e, size, lt))
      ]

      latest : (j : ℕ) (t : Option SeatsView) → j ≡ k → slice_get new.seats.items j ≡ Some t → t ≡ taken
      latest j t here at-t = elim (slice_get-push old.seats.items taken t j (slots j t at-t)) [
        | inl earlier ↦ absurd (let within = slice_get_within old.seats.items j t earlier in let size = had.seats in omega (arith, within, size, here))
        | inr last ↦ last.1
      ]

  -- it has all
  pub all-shares : (nodes : ExecutorNodes S T) → IsChannelRow (length wholes) row → HasFirst (length row) nodes → HasShares meaning stands_after state wholes words heads x row nodes
  all-shares nodes is had = record {
    number = had.number;
    unrefused = had.unrefused;
    words_are = had.words_are;
    here = had.here;
    in_order = record {
      row = subst (λ (l : List ℕ). IsChannelRow (length wholes) l) (sym had.here) is;
      parts = had.parts ∙ sym (ap (λ (l : List ℕ). length l) had.here);
      seats = had.seats ∙ sym (ap (λ (l : List ℕ). length l) had.here);
      positions = had.positions ∙ ap (λ (l : List ℕ). map (row_position l) (range_with_len 0 (length wholes))) (sym had.here);
    };
    each = had.each;
    own = had.own;
  }

-- ---- all executors

module _ {S T : Type 0} (wholes : List (ChannelPartView S T)) (heads : List (Option SeatsView)) where
  -- When the first executors have their shares, those of the others are as they were; and where a head is left, so are its seats.
  pub record AreLeftFor (n : ℕ) (rests : List (ChannelPartView S T)) (seats : List (Option SeatsView)) : Type 0 where
    pub parts_count : length rests ≡ length wholes
    pub seats_count : length seats ≡ length heads
    pub shares : (c : ℕ) (whole rest : ChannelPartView S T) → slice_get wholes c ≡ Some whole → slice_get rests c ≡ Some rest → (e : ℕ) (share : ChannelPartView S T) → n ≤ e → IsShare e rest share → IsShare e whole share
    pub own : (c : ℕ) (rest : ChannelPartView S T) (s slot : Option SeatsView) → slice_get rests c ≡ Some rest → slice_get heads c ≡ Some s → slice_get seats c ≡ Some slot → is_some rest.head ≡ true → slot ≡ s

  pub all-left : AreLeftFor 0 wholes heads
  all-left = record {
    parts_count = refl;
    seats_count = refl;
    shares = λ c whole rest at there e share le is. subst (λ (p : ChannelPartView S T). IsShare e p share) (same_Some rest whole (sym there ∙ at)) is;
    own = λ c rest s slot there at seat some. same_Some slot s (sym seat ∙ at);
  }

  module _ (n : ℕ) (rests : List (ChannelPartView S T)) (seats : List (Option SeatsView)) (left : AreLeftFor n rests seats) (same : length heads ≡ length wholes) where
    -- what is left of a channel, and what was before
    record IsRestAt (rests' : List (ChannelPartView S T)) (seats' : List (Option SeatsView)) (c : ℕ) (rest' : ChannelPartView S T) : Type 0 where
      pub rest : ChannelPartView S T
      pub rest_at : slice_get rests c ≡ Some rest
      pub slot : Option SeatsView
      pub slot_at : slice_get seats c ≡ Some slot
      pub slot' : Option SeatsView
      pub slot'_at : slice_get seats' c ≡ Some slot'
      pub left_is : IsRestOf n rest rest' slot slot'

    rest-at : (rests' : List (ChannelPartView S T)) (seats' : List (Option SeatsView)) → AreRests n rests seats rests' seats' → (c : ℕ) (rest' : ChannelPartView S T) → slice_get rests' c ≡ Some rest' → IsRestAt rests' seats' c rest'
    rest-at rests' seats' are c rest' there =
        let within = slice_get_within rests' c rest' there in
        let size = are.parts_count in
        let parts = left.parts_count in
        let slots = left.seats_count in
        let slots' = are.seats_count in
        let rest = at-index rests c (omega (arith, within, size)) in
        let slot = at-index seats c (omega (arith, within, size, parts, slots, same)) in
        let slot' = at-index seats' c (omega (arith, within, size, parts, slots, slots', same)) in
        record { rest = rest.0; rest_at = rest.1; slot = slot.0; slot_at = slot.1; slot' = slot'.0; slot'_at = slot'.1; left_is = are.each c rest.0 rest' slot.0 slot'.0 rest.1 slot.1 there slot'.1 }

    -- the next has its own
    pub next-left : (rests' : List (ChannelPartView S T)) (seats' : List (Option SeatsView)) → AreRests n rests seats rests' seats' → AreLeftFor (n + 1) rests' seats'
    next-left rests' seats' are = record {
      parts_count = are.parts_count ∙ left.parts_count;
      seats_count = are.seats_count ∙ left.seats_count;
      shares = λ c whole rest' at there e share le is.
          let r = rest-at rests' seats' are c rest' there in
          left.shares c whole r.rest at r.rest_at e share (omega (arith, le)) (r.left_is.shares e share (λ s. omega (arith, s, le)) is);
      own = λ c rest' s slot' there at seat' some.
          let r = rest-at rests' seats' are c rest' there in
          let is = same_Some r.slot' slot' (sym r.slot'_at ∙ seat') in
          let kept = r.left_is.seats some in
          sym is ∙ kept.1 ∙ left.own c r.rest s r.slot r.rest_at at r.slot_at kept.0;
    }

    -- shares of what is left are shares of the whole
    pub shares-of-whole : (meaning : S → Meaning) (stands_after : S → List Event → Type 0) (state : T → TransportState) (words : List ChannelNames) (row : List ℕ) (nodes : ExecutorNodes S T)
        → HasShares meaning stands_after state rests words seats n row nodes → HasShares meaning stands_after state wholes words heads n row nodes
    shares-of-whole meaning stands_after state words row nodes has = record {
      number = has.number;
      unrefused = has.unrefused;
      words_are = has.words_are;
      here = has.here;
      in_order = subst (λ (m : ℕ). AreInOrder m nodes) left.parts_count has.in_order;
      each = λ k share slot at-share at-slot. whole-share (get_or row k 0) share slot (has.each k share slot at-share at-slot);
      own = has.own;
    }
      where
        whole-share : (c : ℕ) (share : ChannelPartView S T) (slot : Option SeatsView) → HasShare meaning stands_after state rests words seats n c share slot → HasShare meaning stands_after state wholes words heads n c share slot
        whole-share c share slot h =
            let within = slice_get_within rests c h.whole h.whole_at in
            let size = left.parts_count in
            let whole = at-index wholes c (omega (arith, within, size)) in
            let s = at-index heads c (omega (arith, within, size, same)) in
            record {
              whole = whole.0;
              whole_at = whole.1;
              is = share-is-of (λ (e : ℕ). e == n) whole.0 share (left.shares c whole.0 h.whole whole.1 h.whole_at n share (omega arith) h.is.share_is) meaning stands_after state;
              own = s.0;
              own_at = s.1;
              seats = h.seats ∙ only-same (is_some share.head) h.own s.0 (λ some. left.own c h.whole s.0 h.own h.whole_at s.1 h.own_at (still-some (executor_of h.whole.path (head_hop h.whole) == n) h.whole.head share.head h.is.share_is.head some).1);
            }

module _ {S T : Type 0} (meaning : S → Meaning) (stands_after : S → List Event → Type 0) (state : T → TransportState) (wholes : List (ChannelPartView S T)) (words : List ChannelNames) (heads : List (Option SeatsView)) where
  -- none so far
  pub none-shared : (all : List (ExecutorNodes S T)) → all ≡ [] → AreShared meaning stands_after state wholes words heads [] all
  none-shared all none = subst (AreShared meaning stands_after state wholes words heads []) (sym none) (record { count = refl; each = λ x nodes row at. absurd (none-some nodes at) })

  -- one executor more
  pub executor-shared : (rows : List (List ℕ)) (row : List ℕ) (all grown : List (ExecutorNodes S T)) (new : ExecutorNodes S T) → grown ≡ all ++ new ∷ [] → HasShares meaning stands_after state wholes words heads (length all) row new
      → AreShared meaning stands_after state wholes words heads rows all → AreShared meaning stands_after state wholes words heads (rows ++ row ∷ []) grown
  executor-shared rows row all grown new added has so_far = subst (AreShared meaning stands_after state wholes words heads (rows ++ row ∷ [])) (sym added) (record {
    count = length_push all new ∙ ap (λ (k : ℕ). k + 1) so_far.count ∙ sym (length_push rows row);
    each = both-push (λ x nodes r. HasShares meaning stands_after state wholes words heads x r nodes) all rows new row so_far.count so_far.each has;
  })
