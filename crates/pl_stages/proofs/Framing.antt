-- Closed and open segments of a stream: one byte more, and two pieces joined.
use Rattle.std.proofs.Common.{◌≡◌, ℕ, ◌+◌, ◌-◌, ◌<◌, suc, List, [], ◌∷◌, ◌++◌, length, map, take, drop, get_or, Some, None, Bool, true, false, cond, ◌==◌, sym, refl, ap, ◌∙◌, append-nil, append_assoc, subst, arith}
use Rattle.std.proofs.lemmas.List.{map-append, drop_at, drop_more, take-append-drop, length-take-le, get_or-take, take_rest, drop-drop, drop_all}
use Rattle.std.proofs.lemmas.Bool.{eqb-true, MatchBool-at_false}
use Rattle.std.proofs.lemmas.Grind.{flat_map-append}
use Rattle.std.specs.List.{slice_split, onto_first as split_onto_first}
use Rattle.pl_event.specs.declared.events.Event.{Event}
use Rattle.pl_event.specs.declared.events.Event.TheVariants.{Read}
use Rattle.pl_event.specs.declared.events.Message.TheVariants.{Bytes}
use Rattle.memchr.specs.Find.{IsFirstByte, is_byte}
use Rattle.pl_stages.specs.Cutting.{joined, read_bytes, cutting_up}
use Rattle.pl_stages.specs.LineFraming.{closed_segments, open_segment, onto_first_segment, unless_closed, lines_of, framed, KeepsSegment}

-- with no closed segment, all is open
pub open_segment-none : (bytes : List ℕ) → closed_segments bytes ≡ [] → open_segment bytes ≡ bytes
open_segment-none [] none = refl
open_segment-none (b ∷ bs) none = ap (λ (segments : List (List ℕ)). unless_closed segments (b ∷ bs) (open_segment bs)) none

one_more : (is_feed is_last : Bool) (b : ℕ) (bs rest : List ℕ) (segments : List (List ℕ)) → (segments ≡ [] → rest ≡ bs)
    → cond is_feed ([] ∷ cond is_last (segments ++ rest ∷ []) segments) (onto_first_segment b (cond is_last (segments ++ rest ∷ []) segments))
    ≡ cond is_last (cond is_feed ([] ∷ segments) (onto_first_segment b segments) ++ unless_closed (cond is_feed ([] ∷ segments) (onto_first_segment b segments)) (b ∷ bs) rest ∷ []) (cond is_feed ([] ∷ segments) (onto_first_segment b segments))
one_more true true b bs rest segments h = refl
one_more true false b bs rest segments h = refl
one_more false false b bs rest segments h = refl
one_more false true b bs rest [] h = ap (λ (r : List ℕ). (b ∷ r) ∷ []) (h refl)
one_more false true b bs rest (p ∷ ps) h = refl

-- one byte more closes the open segment where it is a line feed
pub closed_segments-push : (bytes : List ℕ) (c : ℕ)
    → closed_segments (bytes ++ c ∷ []) ≡ cond (c == 10) (closed_segments bytes ++ open_segment bytes ∷ []) (closed_segments bytes)
closed_segments-push [] c = refl
closed_segments-push (b ∷ bs) c =
    ap (λ (segments : List (List ℕ)). cond (b == 10) ([] ∷ segments) (onto_first_segment b segments)) (closed_segments-push bs c)
    ∙ one_more (b == 10) (c == 10) b bs (open_segment bs) (closed_segments bs) (open_segment-none bs)

first_open : (is_last : Bool) (c : ℕ) → unless_closed (cond is_last ([] ∷ []) []) (c ∷ []) [] ≡ cond is_last [] (c ∷ [])
first_open true c = refl
first_open false c = refl

still_open : (is_last : Bool) (segments : List (List ℕ)) (last whole rest : List ℕ) (c : ℕ)
    → unless_closed (cond is_last (segments ++ last ∷ []) segments) (whole ++ c ∷ []) (cond is_last [] (rest ++ c ∷ []))
    ≡ cond is_last [] (unless_closed segments whole rest ++ c ∷ [])
still_open true [] last whole rest c = refl
still_open true (p ∷ ps) last whole rest c = refl
still_open false [] last whole rest c = refl
still_open false (p ∷ ps) last whole rest c = refl

-- one byte more is open unless it is a line feed
pub open_segment-push : (bytes : List ℕ) (c : ℕ) → open_segment (bytes ++ c ∷ []) ≡ cond (c == 10) [] (open_segment bytes ++ c ∷ [])
open_segment-push [] c = first_open (c == 10) c
open_segment-push (b ∷ bs) c =
    ap (λ (segments : List (List ℕ)). unless_closed segments (b ∷ bs ++ c ∷ []) (open_segment (bs ++ c ∷ []))) (closed_segments-push (b ∷ bs) c)
    ∙ ap (λ (rest : List ℕ). unless_closed (cond (c == 10) (closed_segments (b ∷ bs) ++ open_segment (b ∷ bs) ∷ []) (closed_segments (b ∷ bs))) (b ∷ bs ++ c ∷ []) rest) (open_segment-push bs c)
    ∙ still_open (c == 10) (closed_segments (b ∷ bs)) (open_segment (b ∷ bs)) (b ∷ bs) (open_segment bs) c

none_closed : (segments : List (List ℕ)) (whole rest : List ℕ) → closed_segments whole ≡ segments → closed_segments rest ≡ []
    → closed_segments (unless_closed segments whole rest) ≡ []
none_closed [] whole rest w r = w
none_closed (p ∷ ps) whole rest w r = r

-- no segment of what is open is closed
pub closed_segments-open_segment : (bytes : List ℕ) → closed_segments (open_segment bytes) ≡ []
closed_segments-open_segment [] = refl
closed_segments-open_segment (b ∷ bs) =
    none_closed (closed_segments (b ∷ bs)) (b ∷ bs) (open_segment bs) refl (closed_segments-open_segment bs)

onto_more : (is_feed : Bool) (b : ℕ) (segments more : List (List ℕ)) (p : List ℕ) (ps : List (List ℕ))
    → cond is_feed ([] ∷ segments) (onto_first_segment b segments) ≡ p ∷ ps
    → cond is_feed ([] ∷ segments ++ more) (onto_first_segment b (segments ++ more))
    ≡ cond is_feed ([] ∷ segments) (onto_first_segment b segments) ++ more
onto_more true b segments more p ps h = refl
onto_more false b [] more p ps h = cc
onto_more false b (q ∷ qs) more p ps h = refl

joined_segments : (b : ℕ) (bs ys : List ℕ) (segments : List (List ℕ)) → closed_segments (b ∷ bs) ≡ segments
    → closed_segments (bs ++ ys) ≡ closed_segments bs ++ closed_segments (open_segment bs ++ ys)
    → closed_segments (b ∷ bs ++ ys) ≡ closed_segments (b ∷ bs) ++ closed_segments (unless_closed segments (b ∷ bs) (open_segment bs) ++ ys)
joined_segments b bs ys [] e h = sym (ap (λ (ps : List (List ℕ)). ps ++ closed_segments (b ∷ bs ++ ys)) e)
joined_segments b bs ys (p ∷ ps) e h =
    ap (λ (t : List (List ℕ)). cond (b == 10) ([] ∷ t) (onto_first_segment b t)) h
    ∙ onto_more (b == 10) b (closed_segments bs) (closed_segments (open_segment bs ++ ys)) p ps e

-- two pieces: the second goes on where the first is open
pub closed_segments-append : (xs ys : List ℕ) → closed_segments (xs ++ ys) ≡ closed_segments xs ++ closed_segments (open_segment xs ++ ys)
closed_segments-append [] ys = refl
closed_segments-append (b ∷ bs) ys = joined_segments b bs ys (closed_segments (b ∷ bs)) refl (closed_segments-append bs ys)

joined_open : (b : ℕ) (bs ys : List ℕ) (segments : List (List ℕ)) → closed_segments (b ∷ bs) ≡ segments
    → open_segment (bs ++ ys) ≡ open_segment (open_segment bs ++ ys)
    → open_segment (b ∷ bs ++ ys) ≡ open_segment (unless_closed segments (b ∷ bs) (open_segment bs) ++ ys)
joined_open b bs ys [] e h = refl
joined_open b bs ys (p ∷ ps) e h =
    ap (λ (t : List (List ℕ)). unless_closed t (b ∷ bs ++ ys) (open_segment (bs ++ ys)))
    (joined_segments b bs ys (p ∷ ps) e (closed_segments-append bs ys) ∙ ap (λ (t : List (List ℕ)). t ++ closed_segments (open_segment bs ++ ys)) e)
    ∙ h

-- the open segment of two pieces
pub open_segment-append : (xs ys : List ℕ) → open_segment (xs ++ ys) ≡ open_segment (open_segment xs ++ ys)
open_segment-append [] ys = refl
open_segment-append (b ∷ bs) ys = joined_open b bs ys (closed_segments (b ∷ bs)) refl (open_segment-append bs ys)

-- the lines of two pieces
pub lines_of-append : (max : ℕ) (xs ys : List ℕ)
    → lines_of max (xs ++ ys) ≡ lines_of max xs ++ lines_of max (open_segment xs ++ ys)
lines_of-append max xs ys =
    ap (map (framed max)) (closed_segments-append xs ys)
    ∙ map-append (framed max) (closed_segments xs) (closed_segments (open_segment xs ++ ys))

-- with no closed segment there is no line
pub lines_of-none : (max : ℕ) (xs : List ℕ) → closed_segments xs ≡ [] → lines_of max xs ≡ []
lines_of-none max xs none = ap (map (framed max)) none

one_line : (is_feed : Bool) (max : ℕ) (segments : List (List ℕ)) (segment : List ℕ)
    → map (framed max) (cond is_feed (segments ++ segment ∷ []) segments)
    ≡ map (framed max) segments ++ cond is_feed (framed max segment ∷ []) []
one_line true max segments segment = map-append (framed max) segments (segment ∷ [])
one_line false max segments segment = sym (append-nil (map (framed max) segments))

-- a line feed makes a line of the open segment
pub lines_of-push : (max : ℕ) (xs : List ℕ) (c : ℕ)
    → lines_of max (xs ++ c ∷ []) ≡ lines_of max xs ++ cond (c == 10) (framed max (open_segment xs) ∷ []) []
lines_of-push max xs c =
    ap (map (framed max)) (closed_segments-push xs c) ∙ one_line (c == 10) max (closed_segments xs) (open_segment xs)

-- the bytes of one event more
pub joined-push : (xs : List Event) (x : Event) → joined (xs ++ x ∷ []) ≡ joined xs ++ read_bytes x
joined-push xs x =
    flat_map-append read_bytes xs (x ∷ []) ∙ ap (λ (t : List ℕ). joined xs ++ t) (append-nil (read_bytes x))

-- a read makes the lines of what it and the open segment are together
pub lines_of-read : (max : ℕ) (xs : List Event) (b : List ℕ)
    → cutting_up (lines_of max) xs (Read (Bytes b)) ≡ lines_of max (open_segment (joined xs) ++ b)
lines_of-read max xs b =
    ap (drop (length (lines_of max (joined xs)))) (lines_of-append max (joined xs) b)
    ∙ drop_at (lines_of max (joined xs)) (lines_of max (open_segment (joined xs) ++ b)) (length (lines_of max (joined xs))) refl

-- a line feed after what is open leaves nothing open
pub open_segment_at : (xs ys : List ℕ) → open_segment (xs ++ 10 ∷ ys) ≡ open_segment ys
open_segment_at xs ys =
    ap open_segment (sym (append_assoc xs (10 ∷ []) ys)) ∙ open_segment-append (xs ++ 10 ∷ []) ys
    ∙ ap (λ (t : List ℕ). open_segment (t ++ ys)) (open_segment-push xs 10)

-- a line feed after what is open makes a line of it
pub lines_of_at : (max : ℕ) (xs ys : List ℕ) → closed_segments xs ≡ []
    → lines_of max (xs ++ 10 ∷ ys) ≡ framed max xs ∷ lines_of max ys
lines_of_at max xs ys none =
    ap (lines_of max) (sym (append_assoc xs (10 ∷ []) ys)) ∙ lines_of-append max (xs ++ 10 ∷ []) ys
    ∙ ap (λ (t : List ℕ). lines_of max (xs ++ 10 ∷ []) ++ lines_of max (t ++ ys)) (open_segment-push xs 10)
    ∙ ap (λ (t : List Event). t ++ lines_of max ys) (lines_of-push max xs 10)
    ∙ ap (λ (t : List Event). t ++ framed max (open_segment xs) ∷ [] ++ lines_of max ys) (lines_of-none max xs none)
    ∙ ap (λ (t : List ℕ). framed max t ∷ lines_of max ys) (open_segment-none xs none)

still_none : (is_feed : Bool) (b : ℕ) (segments later : List (List ℕ))
    → cond is_feed ([] ∷ segments) (onto_first_segment b segments) ≡ [] → (segments ≡ [] → later ≡ [])
    → cond is_feed ([] ∷ later) (onto_first_segment b later) ≡ []
still_none true b segments later none h = cc
still_none false b [] later none h = ap (onto_first_segment b) (h refl)
still_none false b (p ∷ ps) later none h = cc

-- two pieces with no line feed
pub closed_segments-both : (xs ys : List ℕ) → closed_segments xs ≡ [] → closed_segments ys ≡ [] → closed_segments (xs ++ ys) ≡ []
closed_segments-both [] ys none none' = none'
closed_segments-both (b ∷ bs) ys none none' =
    still_none (b == 10) b (closed_segments bs) (closed_segments (bs ++ ys)) none (λ e. closed_segments-both bs ys e none')

-- no byte of these is a line feed
HasNoFeed : List ℕ → Type 0
HasNoFeed bytes = (k : ℕ) → k < length bytes → (get_or bytes k 0 == 10) ≡ true → ⊥

no_feed_first : (is_feed : Bool) (b : ℕ) (segments : List (List ℕ)) → (is_feed ≡ true → ⊥) → segments ≡ []
    → cond is_feed ([] ∷ segments) (onto_first_segment b segments) ≡ []
no_feed_first true b segments h none = absurd (h refl)
no_feed_first false b segments h none = ap (onto_first_segment b) none

closed_segments-no_feed : (bytes : List ℕ) → HasNoFeed bytes → closed_segments bytes ≡ []
unfolding HasNoFeed
closed_segments-no_feed [] none = refl
closed_segments-no_feed (b ∷ bs) none =
    no_feed_first (b == 10) b (closed_segments bs) (none 0 (omega arith)) (closed_segments-no_feed bs (λ k h. none (suc k) (omega arith)))

-- where a search finds no line feed, none is there
pub closed_segments_none : (bytes : List ℕ) → IsFirstByte (is_byte 10) bytes None → closed_segments bytes ≡ []
unfolding HasNoFeed
closed_segments_none bytes none = closed_segments-no_feed bytes (λ k h. none k (omega arith) h)

-- where a search finds the first line feed, none is before it
pub closed_segments_before : (bytes : List ℕ) (at : ℕ) → IsFirstByte (is_byte 10) bytes (Some at)
    → closed_segments (take at bytes) ≡ []
unfolding HasNoFeed
closed_segments_before bytes at first =
    let short : length (take at bytes) ≡ at = length-take-le at bytes (omega (arith, first.0.high)) in
    closed_segments-no_feed (take at bytes)
    (λ k h e. let below : k < at = omega arith in first.0.before k (omega arith) below (rw (get_or-take at bytes k 0 below) at e))

-- the bytes round the first line feed
pub bytes_round : (bytes : List ℕ) (at : ℕ) → IsFirstByte (is_byte 10) bytes (Some at)
    → bytes ≡ take at bytes ++ 10 ∷ drop (at + 1) bytes
bytes_round bytes at first =
    sym (take-append-drop at bytes)
    ∙ ap (λ (t : List ℕ). take at bytes ++ t) (drop_more bytes at 0 first.0.high)
    ∙ ap (λ (b : ℕ). take at bytes ++ b ∷ drop (at + 1) bytes) (eqb-true (get_or bytes at 0) 10 first.1)

-- What is still to do with bytes of which `rest` is left, when `up` has the lines so far: the segment kept and the
-- rest make together what the whole makes, from `before` on.
pub record Resumes (max : ℕ) (before : List Event) (whole : List ℕ) (partial : List ℕ) (is_overlong : Bool) (up : List Event) (rest : List ℕ) : Type 0 where
  pub segment : List ℕ
  pub none_closed : closed_segments segment ≡ []
  pub keeps : KeepsSegment max partial is_overlong segment
  pub open_kept : open_segment (segment ++ rest) ≡ open_segment whole
  pub lines_kept : up ++ lines_of max (segment ++ rest) ≡ before ++ lines_of max whole

-- one line more
pub Resumes-closed : (max : ℕ) (before : List Event) (whole partial partial' : List ℕ) (is_overlong is_overlong' : Bool) (up up' : List Event) (rest : List ℕ) (at : ℕ)
    → Resumes max before whole partial is_overlong up rest → IsFirstByte (is_byte 10) rest (Some at)
    → KeepsSegment max partial' is_overlong' []
    → ((segment : List ℕ) → KeepsSegment max partial is_overlong segment → up' ≡ up ++ framed max (segment ++ take at rest) ∷ [])
    → Resumes max before whole partial' is_overlong' up' (drop (at + 1) rest)
Resumes-closed max before whole partial partial' is_overlong is_overlong' up up' rest at r first empty made =
    let later = drop (at + 1) rest in
    let line = r.segment ++ take at rest in
    let round : r.segment ++ rest ≡ line ++ 10 ∷ later =
    ap (λ (t : List ℕ). r.segment ++ t) (bytes_round rest at first) ∙ sym (append_assoc r.segment (take at rest) (10 ∷ later)) in
    let none : closed_segments line ≡ [] = closed_segments-both r.segment (take at rest) r.none_closed (closed_segments_before rest at first) in
    record {
      segment = [];
      none_closed = refl;
      keeps = empty;
      open_kept = sym (open_segment_at line later) ∙ ap open_segment (sym round) ∙ r.open_kept;
      lines_kept =
          ap (λ (t : List Event). t ++ lines_of max later) (made r.segment r.keeps)
          ∙ append_assoc up (framed max line ∷ []) (lines_of max later)
          ∙ ap (λ (t : List Event). up ++ t) (sym (lines_of_at max line later none) ∙ ap (lines_of max) (sym round))
          ∙ r.lines_kept;
    }

-- no line more
pub Resumes-open : (max : ℕ) (before : List Event) (whole partial partial' : List ℕ) (is_overlong is_overlong' : Bool) (up : List Event) (rest : List ℕ)
    → Resumes max before whole partial is_overlong up rest → IsFirstByte (is_byte 10) rest None
    → ((segment : List ℕ) → KeepsSegment max partial is_overlong segment → KeepsSegment max partial' is_overlong' (segment ++ rest))
    → KeepsSegment max partial' is_overlong' (open_segment whole) × (up ≡ before ++ lines_of max whole)
Resumes-open max before whole partial partial' is_overlong is_overlong' up rest r ends kept =
    let none : closed_segments (r.segment ++ rest) ≡ [] = closed_segments-both r.segment rest r.none_closed (closed_segments_none rest ends) in
    let kept_part : r.segment ++ rest ≡ open_segment whole = sym (open_segment-none (r.segment ++ rest) none) ∙ r.open_kept in (
      subst (λ (t : List ℕ). KeepsSegment max partial' is_overlong' t) kept_part (kept r.segment r.keeps),
      sym (append-nil up) ∙ ap (λ (t : List Event). up ++ t) (sym (lines_of-none max (r.segment ++ rest) none)) ∙ r.lines_kept,
    )

-- what is after the line feed that `more` begins with
pub after_feed : (rest more : List ℕ) (at : ℕ) → more ≡ drop at rest
    → take (length more - 1) (drop 1 more) ≡ drop (at + 1) rest
after_feed rest more at e = take_rest more 1 ∙ ap (drop 1) e ∙ drop-drop 1 at rest

-- where nothing is kept, nothing is open
pub kept_none : (max : ℕ) (partial segment : List ℕ) (is_overlong : Bool) → (is_overlong ≡ false) × (partial ≡ [])
    → KeepsSegment max partial is_overlong segment → segment ≡ []
kept_none max partial segment is_overlong nothing keeps = sym (MatchBool-at_false _ _ nothing.0 keeps) ∙ nothing.1

pub keeps_none : (max : ℕ) (partial : List ℕ) (is_overlong : Bool) → (is_overlong ≡ false) × (partial ≡ [])
    → KeepsSegment max partial is_overlong []
keeps_none max partial is_overlong nothing =
    subst (λ (b : Bool). KeepsSegment max partial b []) (sym nothing.0) nothing.1

-- a chunk that ends at its first line feed, after no open segment
pub chunk_round : (segment chunk : List ℕ) (at : ℕ) → segment ≡ [] → IsFirstByte (is_byte 10) chunk (Some at)
    → at + 1 ≡ length chunk → segment ++ chunk ≡ take at chunk ++ 10 ∷ []
chunk_round segment chunk at empty first whole =
    ap (λ (p : List ℕ). p ++ chunk) empty ∙ bytes_round chunk at first
    ∙ ap (λ (t : List ℕ). take at chunk ++ 10 ∷ t) (drop_all (at + 1) chunk (omega arith))

pub open_segment_chunk : (segment chunk : List ℕ) (at : ℕ) → segment ≡ [] → IsFirstByte (is_byte 10) chunk (Some at)
    → at + 1 ≡ length chunk → open_segment (segment ++ chunk) ≡ []
open_segment_chunk segment chunk at empty first whole =
    ap open_segment (chunk_round segment chunk at empty first whole) ∙ open_segment_at (take at chunk) []

pub lines_of_chunk : (max : ℕ) (segment chunk : List ℕ) (at : ℕ) → segment ≡ [] → IsFirstByte (is_byte 10) chunk (Some at)
    → at + 1 ≡ length chunk
    → lines_of max (segment ++ chunk) ≡ framed max (take at chunk) ∷ []
lines_of_chunk max segment chunk at empty first whole =
    ap (lines_of max) (chunk_round segment chunk at empty first whole)
    ∙ lines_of_at max (take at chunk) [] (closed_segments_before chunk at first)

-- a chunk with no line feed, after no open segment
pub keeps_chunk : (max : ℕ) (partial segment chunk : List ℕ) (is_overlong : Bool)
    → (is_overlong ≡ false) × (partial ≡ []) → KeepsSegment max partial is_overlong segment
    → IsFirstByte (is_byte 10) chunk None → KeepsSegment max chunk is_overlong (open_segment (segment ++ chunk))
keeps_chunk max partial segment chunk is_overlong nothing keeps none =
    let empty = kept_none max partial segment is_overlong nothing keeps in
    let all_open : open_segment (segment ++ chunk) ≡ chunk =
    ap (λ (p : List ℕ). open_segment (p ++ chunk)) empty ∙ open_segment-none chunk (closed_segments_none chunk none) in
    subst (λ (b : Bool). KeepsSegment max chunk b (open_segment (segment ++ chunk))) (sym nothing.0) (sym all_open)

pub lines_of_open : (max : ℕ) (segment chunk : List ℕ) → closed_segments segment ≡ [] → IsFirstByte (is_byte 10) chunk None
    → lines_of max (segment ++ chunk) ≡ []
lines_of_open max segment chunk none ends =
    lines_of-none max (segment ++ chunk) (closed_segments-both segment chunk none (closed_segments_none chunk ends))

split_more : (is_feed : Bool) (b : ℕ) (bs rest : List ℕ) (segments : List (List ℕ)) → (segments ≡ [] → rest ≡ bs)
    → cond is_feed ([] ∷ (segments ++ rest ∷ [])) (split_onto_first b (segments ++ rest ∷ []))
    ≡ cond is_feed ([] ∷ segments) (onto_first_segment b segments) ++ unless_closed (cond is_feed ([] ∷ segments) (onto_first_segment b segments)) (b ∷ bs) rest ∷ []
split_more true b bs rest segments h = refl
split_more false b bs rest [] h = ap (λ (r : List ℕ). (b ∷ r) ∷ []) (h refl)
split_more false b bs rest (p ∷ ps) h = refl

-- the closed segments, and the open segment after them
pub slice_split-feeds : (bytes : List ℕ) → slice_split (λ b. b == 10) bytes ≡ closed_segments bytes ++ open_segment bytes ∷ []
slice_split-feeds [] = refl
slice_split-feeds (b ∷ bs) =
    ap (λ (segments : List (List ℕ)). cond (b == 10) ([] ∷ segments) (split_onto_first b segments)) (slice_split-feeds bs)
    ∙ split_more (b == 10) b bs (open_segment bs) (closed_segments bs) (open_segment-none bs)
