-- A buffer of which the writes before the first that waits are forgotten; and what events write behind others that have left.
use Rattle.std.proofs.Common.{◌≡◌, ℕ, ◌+◌, ◌-◌, ◌<◌, ◌≤◌, Bool, true, false, cond, ◌||◌, List, [], ◌∷◌, ◌++◌, length, map, take, drop, get_or, Option, Some, None, is_some, refl, sym, ap, ap₂, subst, ◌∙◌, arith, length-append, append_assoc, suc}
use Rattle.std.proofs.lemmas.List.{length-map, map-append, nil_from_length}
use Rattle.std.proofs.Math.Seq.{drop-append_seam}
use Rattle.pl_event.specs.declared.events.Event.{Event}
use Rattle.pl_event.specs.declared.events.Event.TheVariants.{Active, Read, ReadComplete, Caught, User, Write, Flush}
use Rattle.pl_event.specs.declared.events.Message.TheVariants.{Bytes, Line, Command, Reply}
use Rattle.pl_event.specs.declared.outcomes.Cause.{Cause}
use Rattle.pl_event.specs.declared.outcomes.Outcome.{Outcome}
use Rattle.pl_head.specs.declared.outbound_buffer.Entry.{Entry}
use Rattle.pl_head.specs.Writes.{HasLeft, write_by, is_flush, has_flush, bytes_of, out, flushed_writes, unflushed_writes, unflushed_outcome, waiting}
use Rattle.pl_head.specs.WaitingMessages.{entries_numbered, first_number, renumbered, settled}
use Rattle.pl_head.specs.Marks.{Change}
use Rattle.pl_head.specs.Settling.{numbers_from}
use Rattle.pl_head.specs.Buffers.{OutboundBufferView, BufferStands, ForgetsWrites, first_waiting}
use Rattle.pl_head.specs.HeadStand.{BufferAfter}
use Rattle.pl_head.proofs.Buffering.{bytes_of-append, nothing_left}
use Rattle.pl_head.proofs.Flushing.{has_flush-longer, flushed-none}
use Rattle.pl_head.proofs.Renumbering.{size-of}
use Rattle.pl_head.proofs.WaitingSizes.{all_accepted}

-- ---- writes, of which the first that has bytes waits

-- Those in front have none. The messages are those of the others, and the first of these has the next number.
record FirstWaits (n : ℕ) (ws : List (Option (List ℕ))) : Type 0 where
  front : List (Option (List ℕ))
  rest : List (Option (List ℕ))
  parts : front ++ rest ≡ ws
  none : bytes_of front ≡ []
  entries : entries_numbered n ws ≡ entries_numbered (n + length front) rest
  first : (writes : ℕ) → writes ≡ n + length ws → first_number (entries_numbered n ws) writes ≡ n + length front

first-waits : (n : ℕ) (ws : List (Option (List ℕ))) → FirstWaits n ws
first-waits n [] = record { front = []; rest = []; parts = refl; none = refl; entries = refl; first = λ writes e. e }
first-waits n (None ∷ ws) =
    let r = first-waits (n + 1) ws in
    let next : (k : ℕ) → n + 1 + k ≡ n + suc k = λ k. omega arith in
    record {
      front = None ∷ r.front;
      rest = r.rest;
      parts = ap (λ (xs : List (Option (List ℕ))). None ∷ xs) r.parts;
      none = r.none;
      entries = r.entries ∙ ap (λ (k : ℕ). entries_numbered k r.rest) (next (length r.front));
      first = λ writes e. r.first writes (e ∙ sym (next (length ws))) ∙ next (length r.front);
    }
first-waits n (Some b ∷ ws) =
    let same : n ≡ n + 0 = omega arith in
    record {
      front = [];
      rest = Some b ∷ ws;
      parts = refl;
      none = refl;
      entries = ap (λ (k : ℕ). entries_numbered k (Some b ∷ ws)) same;
      first = λ writes e. same;
    }

renumbered-entries : (first n m : ℕ) (ws : List (Option (List ℕ))) → m ≡ first + n → renumbered first (entries_numbered m ws) ≡ entries_numbered n ws
renumbered-entries first n m [] e = refl
renumbered-entries first n m (None ∷ ws) e = renumbered-entries first (n + 1) (m + 1) ws (omega (arith, e))
renumbered-entries first n m (Some b ∷ ws) e =
    let number : m - first ≡ n = omega (arith, e) in
    let rest = renumbered-entries first (n + 1) (m + 1) ws (omega (arith, e)) in
    λ i. record { number = number i; bytes = b } ∷ rest i

-- ---- events, cut behind the last flush and before some of the writes that come there

record CutEvents (ys : List Event) (us vs : List (Option (List ℕ))) : Type 0 where
  first : List Event
  left : List Event
  parts : first ++ left ≡ ys
  flushes : has_flush first ≡ has_flush ys
  flushed : flushed_writes first ≡ flushed_writes ys
  unflushed : unflushed_writes first ≡ us
  last_flush : has_flush left ≡ false
  last : unflushed_writes left ≡ vs

-- the first event is among the first ones
module _ (y : Event) (ys : List Event) (us us' vs : List (Option (List ℕ))) (r : CutEvents ys us' vs) (own : cond (has_flush (y ∷ ys)) [] (write_by y) ++ us' ≡ us) where
  flushes-more : has_flush (y ∷ r.first) ≡ has_flush (y ∷ ys)
  flushes-more = ap (λ (b : Bool). is_flush y || b) r.flushes

  cut-more : CutEvents (y ∷ ys) us vs
  cut-more = record {
    first = y ∷ r.first;
    left = r.left;
    parts = ap (λ (xs : List Event). y ∷ xs) r.parts;
    flushes = flushes-more;
    flushed = λ i. cond (flushes-more i) (write_by y) [] ++ r.flushed i;
    unflushed = (λ i. cond (flushes-more i) [] (write_by y) ++ r.unflushed i) ∙ own;
    last_flush = r.last_flush;
    last = r.last;
  }

-- none is among them
cut-here : (ys : List Event) (vs : List (Option (List ℕ))) → has_flush ys ≡ false → vs ≡ unflushed_writes ys → CutEvents ys [] vs
cut-here ys vs none e = record {
  first = [];
  left = ys;
  parts = refl;
  flushes = sym none;
  flushed = sym (flushed-none ys none);
  unflushed = refl;
  last_flush = none;
  last = sym e;
}

one-write : (y : Event) → length (write_by y) ≤ 1
one-write Active = omega arith
one-write (Read m) = omega arith
one-write ReadComplete = omega arith
one-write (Caught c) = omega arith
one-write (User number) = omega arith
one-write (Write (Bytes b)) = omega arith
one-write (Write (Line b)) = omega arith
one-write (Write (Command c)) = omega arith
one-write (Write (Reply r)) = omega arith
one-write Flush = omega arith

same-parts : {A : Type 0} (x y : A) (xs ys : List A) → x ∷ xs ≡ y ∷ ys → (x ≡ y) × (xs ≡ ys)
same-parts {A = A} x y xs ys e = (ap (λ (zs : List A). get_or zs 0 x) e, ap (λ (zs : List A). drop 1 zs) e)

-- the write of an event comes off the front
peel : (ws us vs rest : List (Option (List ℕ))) → length ws ≤ 1 → 0 < length us → us ++ vs ≡ ws ++ rest → (us' : List (Option (List ℕ))) × (ws ++ us' ≡ us) × (us' ++ vs ≡ rest)
peel [] us vs rest few some e = (us, refl, e)
peel (w ∷ []) [] vs rest few some e = absurd (omega (arith, some))
peel (w ∷ []) (u ∷ us) vs rest few some e = let own = same-parts u w (us ++ vs) rest e in (us, ap (λ (x : Option (List ℕ)). x ∷ us) (sym own.0), own.1)
peel (w ∷ (x ∷ ws)) us vs rest few some e = absurd (omega (arith, few))

cut-next : (y : Event) (ys : List Event) → ((us vs : List (Option (List ℕ))) → us ++ vs ≡ unflushed_writes ys → CutEvents ys us vs)
    → (flush : Bool) → has_flush (y ∷ ys) ≡ flush → (us vs : List (Option (List ℕ))) → us ++ vs ≡ cond flush [] (write_by y) ++ unflushed_writes ys → CutEvents (y ∷ ys) us vs
cut-next y ys others true is us vs e = cut-more y ys us us vs (others us vs e) (ap (λ (b : Bool). cond b [] (write_by y) ++ us) is)
cut-next y ys others false is [] vs e = cut-here (y ∷ ys) vs is (e ∙ ap (λ (b : Bool). cond b [] (write_by y) ++ unflushed_writes ys) (sym is))
cut-next y ys others false is (u ∷ us) vs e =
    let p = peel (write_by y) (u ∷ us) vs (unflushed_writes ys) (one-write y) (omega arith) e in
    cut-more y ys (u ∷ us) p.0 vs (others p.0 vs p.2) (ap (λ (b : Bool). cond b [] (write_by y) ++ p.0) is ∙ p.1)

both-nil : {A : Type 0} (xs ys : List A) → xs ++ ys ≡ [] → (xs ≡ []) × (ys ≡ [])
both-nil [] ys e = (refl, e)
both-nil (x ∷ xs) ys e = cc e

cut-events : (ys : List Event) (us vs : List (Option (List ℕ))) → us ++ vs ≡ unflushed_writes ys → CutEvents ys us vs
cut-events [] us vs e =
    let none = both-nil us vs e in
    record { first = []; left = []; parts = refl; flushes = refl; flushed = refl; unflushed = sym none.0; last_flush = refl; last = sym none.1 }
cut-events (y ∷ ys) us vs e = cut-next y ys (λ us vs e. cut-events ys us vs e) (has_flush (y ∷ ys)) refl us vs e

-- ---- a buffer of which no flushed message waits

module _ (accepted : List ℕ) (b : OutboundBufferView) (ys : List Event) (sizes : List Change) (s : BufferStands accepted b ys false sizes) (none : b.flushed ≡ 0) where
  entries-are : b.entries ≡ entries_numbered (length (flushed_writes ys)) (unflushed_writes ys)
  entries-are =
      s.messages.entries_are
      ∙ ap (λ (es : List Entry). es ++ entries_numbered (length (flushed_writes ys)) (unflushed_writes ys))
      (nil_from_length (entries_numbered (length s.messages.done) s.messages.mid) (sym s.messages.count_is ∙ none))

  w : FirstWaits (length (flushed_writes ys)) (unflushed_writes ys)
  w = first-waits (length (flushed_writes ys)) (unflushed_writes ys)

  cut : CutEvents ys w.front w.rest
  cut = cut-events ys w.front w.rest w.parts

  abbrev unsent : List (Option (List ℕ)) → List (Option Outcome)
  unsent ws = map (unflushed_outcome false) ws

  -- the outcomes of the writes before the first that waits
  abbrev gone : List (Option Outcome)
  gone = map settled s.messages.done ++ map waiting s.messages.mid ++ unsent w.front

  outcomes-are : b.outcomes ≡ gone ++ unsent w.rest
  outcomes-are =
      s.messages.outcomes_are
      ∙ ap (λ (ws : List (Option (List ℕ))). map settled s.messages.done ++ (map waiting s.messages.mid ++ unsent ws)) (sym w.parts)
      ∙ ap (λ (os : List (Option Outcome)). map settled s.messages.done ++ (map waiting s.messages.mid ++ os)) (map-append (unflushed_outcome false) w.front w.rest)
      ∙ sym (append_assoc (map settled s.messages.done) (map waiting s.messages.mid) (unsent w.front ++ unsent w.rest))
      ∙ sym (append_assoc (map settled s.messages.done ++ map waiting s.messages.mid) (unsent w.front) (unsent w.rest))

  gone-length : length gone ≡ length (flushed_writes ys) + length w.front
  gone-length =
      let done = map settled s.messages.done in
      let mid = map waiting s.messages.mid in
      let whole = ap (λ (ws : List (Option (List ℕ))). length ws) (sym s.messages.split) in
      omega (
        arith,
        length-append (done ++ mid) (unsent w.front),
        length-append done mid,
        length-append s.messages.done s.messages.mid,
        length-map s.messages.done settled,
        length-map s.messages.mid waiting,
        length-map w.front (unflushed_outcome false),
        whole,
      )

  first-is : first_waiting b ≡ length gone
  first-is =
      let all = ap (λ (os : List (Option Outcome)). length os) outcomes-are in
      let whole = ap (λ (ws : List (Option (List ℕ))). length ws) (sym w.parts) in
      ap (λ (es : List Entry). first_number es (length b.outcomes)) entries-are
      ∙ w.first (length b.outcomes) (omega (arith, all, whole, length-append gone (unsent w.rest), length-append w.front w.rest, length-map w.rest (unflushed_outcome false), gone-length))
      ∙ sym gone-length

  entries-left : renumbered (first_waiting b) b.entries ≡ entries_numbered 0 w.rest
  entries-left =
      ap₂ (λ (n : ℕ) (es : List Entry). renumbered n es) (first-is ∙ gone-length) (entries-are ∙ w.entries)
      ∙ renumbered-entries (length (flushed_writes ys) + length w.front) 0 (length (flushed_writes ys) + length w.front) w.rest (omega arith)

  outcomes-left : drop (first_waiting b) b.outcomes ≡ unsent w.rest
  outcomes-left = ap₂ (λ (n : ℕ) (os : List (Option Outcome)). drop n os) first-is outcomes-are ∙ drop-append_seam gone (unsent w.rest)

  -- what came before that write has left
  has-left : HasLeft accepted cut.first
  has-left = record {
    output =
        all_accepted accepted s.left (out ys) (nothing_left b.entries b.offset b.flushed b.outcomes (flushed_writes ys) (unflushed_writes ys) s.left false s.messages none) s.output
        ∙ ap (λ (ws : List (Option (List ℕ))). bytes_of ws) (sym cut.flushed);
    flushed = ap (λ (ws : List (Option (List ℕ))). bytes_of ws) cut.unflushed ∙ w.none;
  }

  -- once it is forgotten, the buffer stands as one that only the others were written to
  stands-anew : (b' : OutboundBufferView) → b.offset ≡ 0 → ForgetsWrites b b' → BufferStands [] b' cut.left false sizes
  stands-anew b' start f =
      let unflushed = flushed-none cut.left cut.last_flush in
      subst (λ (v : OutboundBufferView). BufferStands [] v cut.left false sizes) (sym f)
      (record {
        left = [];
        messages = record {
          done = [];
          mid = [];
          split = sym unflushed;
          entries_are = entries-left ∙ λ i. entries_numbered (length (sym unflushed i)) (sym cut.last i);
          count_is = none;
          outcomes_are = outcomes-left ∙ ap (λ (ws : List (Option (List ℕ))). unsent ws) (sym cut.last);
          rest = ap (λ (n : ℕ). drop n []) start;
          fits = omega (arith, start);
        };
        output = ap (λ (ws : List (Option (List ℕ))). bytes_of ws) (sym unflushed);
        at_rest = λ (some : 0 < b.flushed). absurd (omega (arith, some, none));
        size = s.size ∙ sym (size-of (first_waiting b) b.entries);
        marks = s.marks;
      })

  pub forgets-first : (b' : OutboundBufferView) → b.offset ≡ 0 → ForgetsWrites b b' → (first left : List Event) × (first ++ left ≡ ys) × HasLeft accepted first × BufferStands [] b' left false sizes
  forgets-first b' start f = (cut.first, cut.left, cut.parts, has-left, stands-anew b' start f)

pub forgets-by : (b b' : OutboundBufferView) (first : ℕ) → b' ≡ record b { entries = b'.entries; outcomes = b'.outcomes; entries_room = b'.entries_room; outcomes_room = b'.outcomes_room; settled = b'.settled; told = b'.told } → first ≡ first_waiting b
    → b'.entries ≡ renumbered first b.entries → b'.outcomes ≡ drop first b.outcomes → b'.entries_room ≡ b.entries_room → b'.settled ≡ numbers_from first b.settled → b'.told ≡ length (numbers_from first (take b.told b.settled))
    → ForgetsWrites b b'
forgets-by b b' first same is entries outcomes room settled told =
    same
    ∙ λ i. record b {
      entries = (entries ∙ ap (λ (n : ℕ). renumbered n b.entries) is) i;
      outcomes = (outcomes ∙ ap (λ (n : ℕ). drop n b.outcomes) is) i;
      entries_room = room i;
      outcomes_room = b'.outcomes_room;
      settled = (settled ∙ ap (λ (n : ℕ). numbers_from n b.settled) is) i;
      told = (told ∙ ap (λ (n : ℕ). length (numbers_from n (take b.told b.settled))) is) i;
    }

-- so it is with that of a head whose lane is open, and which has not failed
pub forgets-after : (f : Option Cause) (accepted accepted' : List ℕ) (b b' : OutboundBufferView) (ys zs : List Event) (ended : Bool) (sizes : List Change) → (ended || is_some f) ≡ false → accepted' ≡ [] → BufferAfter f accepted b ys zs ended sizes
    → (BufferStands accepted b ys false sizes → (first left : List Event) × (first ++ left ≡ ys) × HasLeft accepted first × BufferStands [] b' left false sizes)
    → (zs ≡ []) × (first left : List Event) × (first ++ left ≡ ys) × HasLeft accepted first × BufferAfter f accepted' b' left [] ended sizes
forgets-after None accepted accepted' b b' ys zs false sizes going none s forgets =
    let now = forgets s.1 in
    (s.0, now.0, now.1, now.2, now.3, (refl, subst (λ (bs : List ℕ). BufferStands bs b' now.1 false sizes) (sym none) now.4))
forgets-after None accepted accepted' b b' ys zs true sizes going none s forgets = cc going
forgets-after (Some cause) accepted accepted' b b' ys zs false sizes going none s forgets = cc going
forgets-after (Some cause) accepted accepted' b b' ys zs true sizes going none s forgets = cc going

-- ---- what has left, and what comes behind it

module _ (x : Event) (xs ys : List Event) (none : bytes_of (unflushed_writes (x ∷ xs)) ≡ []) where
  abbrev flush : Bool
  flush = has_flush (x ∷ xs)

  abbrev flush' : Bool
  flush' = has_flush (x ∷ (xs ++ ys))

  abbrev own : List (Option (List ℕ))
  own = write_by x

  parts : (bytes_of (cond flush [] own) ≡ []) × (bytes_of (unflushed_writes xs) ≡ [])
  parts = both-nil (bytes_of (cond flush [] own)) (bytes_of (unflushed_writes xs)) (sym (bytes_of-append (cond flush [] own) (unflushed_writes xs)) ∙ none)

  -- the bytes of one that is not flushed by them
  no-bytes : flush ≡ false → bytes_of own ≡ []
  no-bytes off = ap (λ (b : Bool). bytes_of (cond b [] own)) (sym off) ∙ parts.0

  front-written : out (x ∷ (xs ++ ys)) ≡ bytes_of (cond flush own []) ++ out (xs ++ ys)
  front-written = bytes_of-append (cond flush' own []) (flushed_writes (xs ++ ys)) ∙ ap (λ (bs : List ℕ). bs ++ out (xs ++ ys)) (by flush refl)
    where
      either : (b : Bool) → bytes_of own ≡ [] → bytes_of (cond b own []) ≡ []
      either true e = e
      either false e = refl

      by : (b : Bool) → flush ≡ b → bytes_of (cond flush' own []) ≡ bytes_of (cond b own [])
      by true on = ap (λ (b : Bool). bytes_of (cond b own [])) (has_flush-longer (x ∷ xs) ys on)
      by false off = either flush' (no-bytes off)

  front-unwritten : bytes_of (cond flush' [] own) ≡ []
  front-unwritten = by flush refl
    where
      either : (b : Bool) → bytes_of own ≡ [] → bytes_of (cond b [] own) ≡ []
      either true e = refl
      either false e = e

      by : (b : Bool) → flush ≡ b → bytes_of (cond flush' [] own) ≡ []
      by true on = ap (λ (b : Bool). bytes_of (cond b [] own)) (has_flush-longer (x ∷ xs) ys on)
      by false off = either flush' (no-bytes off)

pub out-behind : (xs ys : List Event) → bytes_of (unflushed_writes xs) ≡ [] → out (xs ++ ys) ≡ out xs ++ out ys
out-behind [] ys none = refl
out-behind (x ∷ xs) ys none =
    front-written x xs ys none
    ∙ ap (λ (bs : List ℕ). bytes_of (cond (has_flush (x ∷ xs)) (write_by x) []) ++ bs) (out-behind xs ys (parts x xs ys none).1)
    ∙ sym (append_assoc (bytes_of (cond (has_flush (x ∷ xs)) (write_by x) [])) (out xs) (out ys))
    ∙ ap (λ (bs : List ℕ). bs ++ out ys) (sym (bytes_of-append (cond (has_flush (x ∷ xs)) (write_by x) []) (flushed_writes xs)))

pub unflushed-behind : (xs ys : List Event) → bytes_of (unflushed_writes xs) ≡ [] → bytes_of (unflushed_writes ys) ≡ [] → bytes_of (unflushed_writes (xs ++ ys)) ≡ []
unflushed-behind [] ys none last = last
unflushed-behind (x ∷ xs) ys none last =
    bytes_of-append (cond (has_flush (x ∷ (xs ++ ys))) [] (write_by x)) (unflushed_writes (xs ++ ys))
    ∙ ap₂ (λ (a b : List ℕ). a ++ b) (front-unwritten x xs ys none) (unflushed-behind xs ys (parts x xs ys none).1 last)
