-- Frames of a stream: the first of them and those of what follows it, and two pieces joined.
use Rattle.std.proofs.Common.{◌≡◌, ℕ, zero, suc, ◌+◌, ◌-◌, ◌*◌, ◌^◌, ◌<◌, ◌≤◌, List, [], ◌∷◌, ◌++◌, length, take, drop, Bool, true, false, inl, inr, sym, refl, ap, ◌∙◌, append-nil, append_assoc, arith}
use Rattle.std.specs.Prelude.{nat_le, nat_lt, if◌then◌else◌, slice_index}
use Rattle.std.proofs.lemmas.List.{get_or-drop, drop-drop, drop_all, length-drop, length-append, drop_at, take-append-le, drop-append-le}
use Rattle.std.proofs.Math.Seq.{drop-append-add}
use Rattle.std.proofs.lemmas.Bool.{cases_lt, le-leb, lt-leb}
use Rattle.pl_event.specs.declared.events.Event.{Event}
use Rattle.pl_event.specs.declared.events.Event.TheVariants.{Read, Caught}
use Rattle.pl_event.specs.declared.events.Message.TheVariants.{Line}
use Rattle.pl_event.specs.declared.events.Caught.TheVariants.{TooLong}
use Rattle.byteorder.specs.Endian.{big_from}
use Rattle.byteorder.specs.Numbers.{big_from-append}
use Rattle.pl_stages.specs.LengthFraming.{is_width, payload_len, frame_end, frame_start, is_too_long, given_at, frame_event, given_frame, given_frames, frames_of}
use Rattle.pl_stages.specs.LengthSteps.{open_start}

-- a length field has some byte
pub some_width : (width : ℕ) → is_width width ≡ true → 1 ≤ width
some_width zero widths = absurd cc
some_width (suc n) widths = omega arith

-- the number at a place is that of what is dropped before it
big_from-drop : (e i n : ℕ) (xs : List ℕ) → big_from (e + i) n xs ≡ big_from i n (drop e xs)
big_from-drop e i zero xs = refl
big_from-drop e i (suc n) xs =
    let next : suc (e + i) ≡ e + suc i = omega arith in
    let rest = ap (λ (k : ℕ). big_from k n xs) next ∙ big_from-drop e (suc i) n xs in
    ap (λ (b : ℕ). b * 256 ^ n + big_from (suc (e + i)) n xs) (sym (get_or-drop e xs i 0))
    ∙ ap (λ (r : ℕ). slice_index (drop e xs) i * 256 ^ n + r) rest

frame_end-drop : (width : ℕ) (bytes : List ℕ) (e p : ℕ) → frame_end width bytes (e + p) ≡ e + frame_end width (drop e bytes) p
frame_end-drop width bytes e p = let same = big_from-drop e p width bytes in omega (arith, same)

-- the frames after the first begin where those of what follows it do
frame_start-rest : (width : ℕ) (bytes : List ℕ) (n : ℕ)
    → frame_start width bytes (suc n) ≡ frame_end width bytes 0 + frame_start width (drop (frame_end width bytes 0) bytes) n
unfolding frame_start
frame_start-rest width bytes zero = omega arith
frame_start-rest width bytes (suc n) =
    ap (frame_end width bytes) (frame_start-rest width bytes n)
    ∙ frame_end-drop width bytes (frame_end width bytes 0) (frame_start width (drop (frame_end width bytes 0) bytes) n)

-- no frame begins before as many bytes as frames
frame_start-ge : (width : ℕ) (bytes : List ℕ) (n : ℕ) → 1 ≤ width → n ≤ frame_start width bytes n
unfolding frame_start
frame_start-ge width bytes zero h = omega arith
frame_start-ge width bytes (suc n) h = let before = frame_start-ge width bytes n h in omega arith

-- where a frame is given is after its field and not after its end
given_at-cases : (is_long : Bool) (p width v : ℕ)
    → (p + width ≤ (if is_long then p + width else p + width + v)) × ((if is_long then p + width else p + width + v) ≤ p + width + v)
given_at-cases true p width v = (omega arith, omega arith)
given_at-cases false p width v = (omega arith, omega arith)

pub given_at-within : (width max : ℕ) (bytes : List ℕ) (p : ℕ)
    → (p + width ≤ given_at width max bytes p) × (given_at width max bytes p ≤ frame_end width bytes p)
given_at-within width max bytes p = given_at-cases (is_too_long width max bytes p) p width (payload_len width bytes p)

pub given_frame-none : (width max : ℕ) (bytes : List ℕ) (p : ℕ) → length bytes < given_at width max bytes p → given_frame width max bytes p ≡ []
unfolding given_frame
given_frame-none width max bytes p late =
    ap (λ (is_given : Bool). if is_given then frame_event width max bytes p ∷ [] else []) (lt-leb (given_at width max bytes p) (length bytes) late)

given_frame-given : (width max : ℕ) (bytes : List ℕ) (p : ℕ) → given_at width max bytes p ≤ length bytes
    → given_frame width max bytes p ≡ frame_event width max bytes p ∷ []
unfolding given_frame
given_frame-given width max bytes p given =
    ap (λ (is_given : Bool). if is_given then frame_event width max bytes p ∷ [] else []) (le-leb (given_at width max bytes p) (length bytes) given)

test-moved : (e t n : ℕ) → 0 < t → nat_le (e + t) n ≡ nat_le t (n - e)
test-moved e t n some = elim (cases_lt n (e + t)) [
  | inl late ↦ lt-leb (e + t) n late ∙ sym (lt-leb t (n - e) (omega arith))
  | inr given ↦ le-leb (e + t) n given ∙ sym (le-leb t (n - e) (omega arith))
]

-- the frame at p, by what its field says and the bytes after it
abbrev given_as : Bool → ℕ → ℕ → ℕ → ℕ → List ℕ → List Event
given_as is_long width v p n rest =
    if nat_le (if is_long then p + width else p + width + v) n
    then (if is_long then Caught TooLong else Read (Line (take v rest))) ∷ [] else []

given_as-moved : (is_long : Bool) (width v e p n : ℕ) (rest : List ℕ) → 1 ≤ width
    → given_as is_long width v (e + p) n rest ≡ given_as is_long width v p (n - e) rest
given_as-moved true width v e p n rest some =
    let same : e + p + width ≡ e + (p + width) = omega arith in
    ap (λ (is_given : Bool). if is_given then Caught TooLong ∷ [] else [])
    (ap (λ (t : ℕ). nat_le t n) same ∙ test-moved e (p + width) n (omega arith))
given_as-moved false width v e p n rest some =
    let same : e + p + width + v ≡ e + (p + width + v) = omega arith in
    ap (λ (is_given : Bool). if is_given then Read (Line (take v rest)) ∷ [] else [])
    (ap (λ (t : ℕ). nat_le t n) same ∙ test-moved e (p + width + v) n (omega arith))

given_frame-drop : (width max : ℕ) (bytes : List ℕ) (e p : ℕ) → 1 ≤ width
    → given_frame width max bytes (e + p) ≡ given_frame width max (drop e bytes) p
unfolding given_frame
given_frame-drop width max bytes e p some =
    let field = big_from-drop e p width bytes in
    let after : drop (e + p + width) bytes ≡ drop (p + width) (drop e bytes) =
    ap (λ (k : ℕ). drop k bytes) (let same : e + p + width ≡ e + (p + width) = omega arith in same) ∙ sym (drop-drop (p + width) e bytes) in
    ap (λ (v : ℕ). given_as (nat_lt max (width + v)) width v (e + p) (length bytes) (drop (e + p + width) bytes)) field
    ∙ given_as-moved (nat_lt max (width + payload_len width (drop e bytes) p)) width (payload_len width (drop e bytes) p) e p (length bytes) (drop (e + p + width) bytes) some
    ∙ ap (λ (rest : List ℕ). given_as (nat_lt max (width + payload_len width (drop e bytes) p)) width (payload_len width (drop e bytes) p) p (length bytes - e) rest) after
    ∙ ap (λ (n : ℕ). given_as (nat_lt max (width + payload_len width (drop e bytes) p)) width (payload_len width (drop e bytes) p) p n (drop (p + width) (drop e bytes))) (sym (length-drop e bytes))

-- the given frames are the first, if it is given, and those of what follows it
given_frames-first : (width max : ℕ) (bytes : List ℕ) (n : ℕ) → 1 ≤ width
    → given_frames width max bytes (suc n)
    ≡ given_frame width max bytes 0 ++ given_frames width max (drop (frame_end width bytes 0) bytes) n
unfolding given_frames frame_start
given_frames-first width max bytes zero some = sym (append-nil (given_frame width max bytes 0))
given_frames-first width max bytes (suc n) some =
    let rest = drop (frame_end width bytes 0) bytes in
    ap (λ (t : List Event). t ++ given_frame width max bytes (frame_start width bytes (suc n))) (given_frames-first width max bytes n some)
    ∙ append_assoc (given_frame width max bytes 0) (given_frames width max rest n) (given_frame width max bytes (frame_start width bytes (suc n)))
    ∙ ap (λ (t : List Event). given_frame width max bytes 0 ++ (given_frames width max rest n ++ t))
    (ap (given_frame width max bytes) (frame_start-rest width bytes n) ∙ given_frame-drop width max bytes (frame_end width bytes 0) (frame_start width rest n) some)

-- beyond one frame for each byte there are no more
given_frames-beyond : (width max : ℕ) (bytes : List ℕ) (k n : ℕ) → 1 ≤ width → n ≡ length bytes + k
    → given_frames width max bytes n ≡ frames_of width max bytes
unfolding given_frames frames_of
given_frames-beyond width max bytes zero n some e =
    let same : n ≡ length bytes = omega arith in ap (given_frames width max bytes) same
given_frames-beyond width max bytes (suc k) n some e =
    let next : n ≡ suc (length bytes + k) = omega arith in
    let begins = frame_start-ge width bytes (length bytes + k) some in
    let late = (given_at-within width max bytes (frame_start width bytes (length bytes + k))).0 in
    ap (given_frames width max bytes) next
    ∙ ap (λ (t : List Event). given_frames width max bytes (length bytes + k) ++ t)
    (given_frame-none width max bytes (frame_start width bytes (length bytes + k)) (omega (arith, begins, late, some)))
    ∙ append-nil (given_frames width max bytes (length bytes + k))
    ∙ given_frames-beyond width max bytes k (length bytes + k) some refl

given_frames-all : (width max : ℕ) (bytes : List ℕ) (n : ℕ) → 1 ≤ width → length bytes ≤ n
    → given_frames width max bytes n ≡ frames_of width max bytes
given_frames-all width max bytes n some enough = given_frames-beyond width max bytes (n - length bytes) n some (omega arith)

-- the frames of a stream are the first, if it is given, and those of what follows it
pub frames_of-first : (width max : ℕ) (bytes : List ℕ) → 1 ≤ width
    → frames_of width max bytes ≡ given_frame width max bytes 0 ++ frames_of width max (drop (frame_end width bytes 0) bytes)
frames_of-first width max bytes some =
    let rest = drop (frame_end width bytes 0) bytes in
    let fewer = length-drop (frame_end width bytes 0) bytes in
    sym (given_frames-all width max bytes (suc (length bytes)) some (omega arith))
    ∙ given_frames-first width max bytes (length bytes) some
    ∙ ap (λ (t : List Event). given_frame width max bytes 0 ++ t)
    (given_frames-all width max rest (length bytes) some (omega (arith, fewer)))

-- with no frame given first, none is given
pub frames_of-none : (width max : ℕ) (bytes : List ℕ) → 1 ≤ width → length bytes < given_at width max bytes 0
    → frames_of width max bytes ≡ []
unfolding frames_of given_frames
frames_of-none width max bytes some late =
    let end = (given_at-within width max bytes 0).1 in
    frames_of-first width max bytes some
    ∙ ap (λ (t : List Event). t ++ frames_of width max (drop (frame_end width bytes 0) bytes)) (given_frame-none width max bytes 0 late)
    ∙ ap (frames_of width max) (drop_all (frame_end width bytes 0) bytes (omega (arith, end)))

pub open_start-none : (width max : ℕ) (bytes : List ℕ) → 1 ≤ width → length bytes < given_at width max bytes 0
    → open_start width max bytes ≡ 0
unfolding open_start frame_start
open_start-none width max bytes some late =
    ap (λ (given : List Event). frame_start width bytes (length given)) (frames_of-none width max bytes some late)

-- with a frame given first, the others are those of what follows it
pub frames_of-given : (width max : ℕ) (bytes : List ℕ) → 1 ≤ width → given_at width max bytes 0 ≤ length bytes
    → frames_of width max bytes ≡ frame_event width max bytes 0 ∷ frames_of width max (drop (frame_end width bytes 0) bytes)
frames_of-given width max bytes some given =
    frames_of-first width max bytes some
    ∙ ap (λ (t : List Event). t ++ frames_of width max (drop (frame_end width bytes 0) bytes)) (given_frame-given width max bytes 0 given)

pub open_start-given : (width max : ℕ) (bytes : List ℕ) → 1 ≤ width → given_at width max bytes 0 ≤ length bytes
    → open_start width max bytes ≡ frame_end width bytes 0 + open_start width max (drop (frame_end width bytes 0) bytes)
unfolding open_start
open_start-given width max bytes some given =
    let rest = drop (frame_end width bytes 0) bytes in
    ap (λ (given : List Event). frame_start width bytes (length given)) (frames_of-given width max bytes some given)
    ∙ frame_start-rest width bytes (length (frames_of width max rest))

given_frame-few : (width max : ℕ) (bytes : List ℕ) (p : ℕ) → length (given_frame width max bytes p) ≤ 1
unfolding given_frame
given_frame-few width max bytes p = elim (nat_le (given_at width max bytes p) (length bytes)) as (λ is_given. length (if is_given then frame_event width max bytes p ∷ [] else []) ≤ 1) [
  | true ↦ omega arith
  | false ↦ omega arith
]

length-given_frames-le : (width max : ℕ) (bytes : List ℕ) (n : ℕ) → length (given_frames width max bytes n) ≤ n
unfolding given_frames
length-given_frames-le width max bytes zero = omega arith
length-given_frames-le width max bytes (suc n) =
    let before = length-given_frames-le width max bytes n in
    let one = given_frame-few width max bytes (frame_start width bytes n) in
    omega (arith, before, one, length-append (given_frames width max bytes n) (given_frame width max bytes (frame_start width bytes n)))

-- there are no more frames than bytes
length-frames_of-le : (width max : ℕ) (bytes : List ℕ) → length (frames_of width max bytes) ≤ length bytes
unfolding frames_of
length-frames_of-le width max bytes = length-given_frames-le width max bytes (length bytes)

pub drop-append : (n : ℕ) (xs ys : List ℕ) → drop n (xs ++ ys) ≡ drop n xs ++ drop (n - length xs) ys
drop-append n xs ys = elim (cases_lt (length xs) n) [
  | inl beyond ↦
      let over : n ≡ length xs + (n - length xs) = omega arith in
      ap (λ (k : ℕ). drop k (xs ++ ys)) over ∙ drop-append-add xs ys (n - length xs)
      ∙ ap (λ (t : List ℕ). t ++ drop (n - length xs) ys) (sym (drop_all n xs (omega arith)))
  | inr within ↦
      let none : n - length xs ≡ 0 = omega arith in
      drop-append-le n xs ys within ∙ ap (λ (k : ℕ). drop n xs ++ drop k ys) (sym none)
]

-- More bytes after a field leave what it says.
pub payload_len-append : (width : ℕ) (xs ys : List ℕ) → width ≤ length xs → payload_len width (xs ++ ys) 0 ≡ payload_len width xs 0
payload_len-append width xs ys field = big_from-append width xs ys field

given_at-append : (width max : ℕ) (xs ys : List ℕ) → width ≤ length xs → given_at width max (xs ++ ys) 0 ≡ given_at width max xs 0
given_at-append width max xs ys field =
    ap (λ (v : ℕ). if nat_lt max (width + v) then 0 + width else 0 + width + v) (payload_len-append width xs ys field)

read_same : (is_long : Bool) (width v : ℕ) (xs ys : List ℕ) → width ≤ length xs
    → (if is_long then 0 + width else 0 + width + v) ≤ length xs
    → (if is_long then Caught TooLong else Read (Line (take v (drop (0 + width) (xs ++ ys)))))
    ≡ (if is_long then Caught TooLong else Read (Line (take v (drop (0 + width) xs))))
read_same true width v xs ys field given = refl
read_same false width v xs ys field given =
    ap (λ (t : List ℕ). Read (Line t))
    (ap (take v) (drop-append-le (0 + width) xs ys (omega arith))
    ∙ take-append-le v (drop (0 + width) xs) ys (omega (arith, length-drop (0 + width) xs)))

frame_read-append : (width max : ℕ) (xs ys : List ℕ) → given_at width max xs 0 ≤ length xs
    → frame_event width max (xs ++ ys) 0 ≡ frame_event width max xs 0
frame_read-append width max xs ys given =
    let bounds = given_at-within width max xs 0 in
    let field : width ≤ length xs = omega (arith, bounds.0) in
    ap (λ (v : ℕ). if nat_lt max (width + v) then Caught TooLong else Read (Line (take v (drop (0 + width) (xs ++ ys))))) (payload_len-append width xs ys field)
    ∙ read_same (nat_lt max (width + payload_len width xs 0)) width (payload_len width xs 0) xs ys field given

-- Of two pieces, the frames of the first come first. Those after them are the frames of what the first leaves unfinished, with
-- the second behind it, and are no more than bytes of the second.
pub record Continues (width max : ℕ) (xs ys : List ℕ) : Type 0 where
  pub frames : frames_of width max (xs ++ ys) ≡ frames_of width max xs ++ frames_of width max (drop (open_start width max xs) (xs ++ ys))
  pub start : open_start width max (xs ++ ys) ≡ open_start width max xs + open_start width max (drop (open_start width max xs) (xs ++ ys))
  pub few : length (frames_of width max (drop (open_start width max xs) (xs ++ ys))) ≤ length ys

-- each byte after an unfinished frame gives at most one frame more
frames_of-few : (width max : ℕ) (part ys : List ℕ) → 1 ≤ width → length part < given_at width max part 0
    → length (frames_of width max (part ++ ys)) ≤ length ys
frames_of-few width max part ys some unfinished = elim (cases_lt (length (part ++ ys)) (given_at width max (part ++ ys) 0)) [
  | inl late ↦ let none = ap length (frames_of-none width max (part ++ ys) some late) in omega (arith, none)
  | inr given ↦
      let bounds = given_at-within width max (part ++ ys) 0 in
      let beyond : length part < given_at width max (part ++ ys) 0 = elim (cases_lt (length part) width) [
        | inl short ↦ omega (arith, bounds.0, short)
        | inr field ↦ let same = given_at-append width max part ys field in omega (arith, same, unfinished)
      ] in
      let first = ap length (frames_of-given width max (part ++ ys) some given) in
      let later = length-frames_of-le width max (drop (frame_end width (part ++ ys) 0) (part ++ ys)) in
      let left = length-drop (frame_end width (part ++ ys) 0) (part ++ ys) in
      omega (arith, first, later, left, bounds.1, beyond, given, length-append part ys)
]

continues_none : (width max : ℕ) (xs ys : List ℕ) → 1 ≤ width → length xs < given_at width max xs 0 → Continues width max xs ys
continues_none width max xs ys some late =
    let none = frames_of-none width max xs some late in
    let start = open_start-none width max xs some late in
    record {
      frames = rw (none, start) refl;
      start = rw start (omega arith);
      few = rw start (frames_of-few width max xs ys some late);
    }

continues_first : (width max : ℕ) (xs ys : List ℕ) → 1 ≤ width → given_at width max xs 0 ≤ length xs
    → Continues width max (drop (frame_end width xs 0) xs) (drop (frame_end width xs 0 - length xs) ys) → Continues width max xs ys
continues_first width max xs ys some given rest =
    let end = frame_end width xs 0 in
    let field : width ≤ length xs = omega (arith, (given_at-within width max xs 0).0) in
    let same_end : frame_end width (xs ++ ys) 0 ≡ end = ap (λ (v : ℕ). 0 + width + v) (payload_len-append width xs ys field) in
    let given' : given_at width max (xs ++ ys) 0 ≤ length (xs ++ ys) =
    omega (arith, given_at-append width max xs ys field, length-append xs ys) in
    let pieces : drop (frame_end width (xs ++ ys) 0) (xs ++ ys) ≡ drop end xs ++ drop (end - length xs) ys =
    ap (λ (k : ℕ). drop k (xs ++ ys)) same_end ∙ drop-append end xs ys in
    let start = open_start-given width max xs some given in
    let from : drop (open_start width max xs) (xs ++ ys) ≡ drop (open_start width max (drop end xs)) (drop end xs ++ drop (end - length xs) ys) =
    ap (λ (k : ℕ). drop k (xs ++ ys)) start ∙ sym (drop-drop (open_start width max (drop end xs)) end (xs ++ ys))
    ∙ ap (drop (open_start width max (drop end xs))) (drop-append end xs ys) in
    record {
      frames =
          frames_of-given width max (xs ++ ys) some given'
          ∙ ap (λ (t : List ℕ). frame_event width max (xs ++ ys) 0 ∷ frames_of width max t) pieces
          ∙ ap (λ (t : List Event). frame_event width max (xs ++ ys) 0 ∷ t) rest.frames
          ∙ ap (λ (t : Event). t ∷ (frames_of width max (drop end xs) ++ frames_of width max (drop (open_start width max (drop end xs)) (drop end xs ++ drop (end - length xs) ys)))) (frame_read-append width max xs ys given)
          ∙ ap (λ (t : List ℕ). frame_event width max xs 0 ∷ (frames_of width max (drop end xs) ++ frames_of width max t)) (sym from)
          ∙ ap (λ (t : List Event). t ++ frames_of width max (drop (open_start width max xs) (xs ++ ys))) (sym (frames_of-given width max xs some given));
      start =
          let whole = open_start-given width max (xs ++ ys) some given' in
          let after = ap (open_start width max) pieces in
          let later = ap (open_start width max) from in
          omega (arith, whole, after, later, rest.start, start, same_end);
      few = let later = ap (λ (t : List ℕ). length (frames_of width max t)) from in omega (arith, later, rest.few, length-drop (end - length xs) ys);
    }

continues_within : (n width max : ℕ) (xs ys : List ℕ) → 1 ≤ width → length xs ≤ n → Continues width max xs ys
continues_within zero width max xs ys some small = elim (cases_lt (length xs) (given_at width max xs 0)) [
  | inl late ↦ continues_none width max xs ys some late
  | inr given ↦ let bounds = given_at-within width max xs 0 in absurd (omega (arith, bounds.0))
]
continues_within (suc n) width max xs ys some small = elim (cases_lt (length xs) (given_at width max xs 0)) [
  | inl late ↦ continues_none width max xs ys some late
  | inr given ↦
      let end = frame_end width xs 0 in
      let bounds = given_at-within width max xs 0 in
      continues_first width max xs ys some given
      (continues_within n width max (drop end xs) (drop (end - length xs) ys) some (omega (arith, bounds.0, bounds.1, length-drop end xs)))
]

-- Of two pieces, however they are cut.
pub continues : (width max : ℕ) (xs ys : List ℕ) → 1 ≤ width → Continues width max xs ys
continues width max xs ys some = continues_within (length xs) width max xs ys some (omega arith)

-- a read gives the frames of what is unfinished before it, with it
pub frames_of-read : (width max : ℕ) (xs ys : List ℕ) → 1 ≤ width
    → drop (length (frames_of width max xs)) (frames_of width max (xs ++ ys)) ≡ frames_of width max (drop (open_start width max xs) (xs ++ ys))
frames_of-read width max xs ys some =
    ap (drop (length (frames_of width max xs))) (continues width max xs ys some).frames
    ∙ drop_at (frames_of width max xs) (frames_of width max (drop (open_start width max xs) (xs ++ ys))) (length (frames_of width max xs)) refl
