-- What the frames of a stream are, by what it begins with, and that cutting it changes nothing.
use Rattle.std.proofs.Common.{◌≡◌, ℕ, ◌+◌, ◌^◌, ◌<◌, ◌≤◌, List, [], ◌∷◌, ◌++◌, length, take, drop, map, Bool, true, sym, refl, ap, ◌∙◌, append-nil, append_assoc, arith}
use Rattle.std.specs.Prelude.{if◌then◌else◌}
use Rattle.std.specs.List.{concat, AllByRecursion}
use Rattle.std.proofs.lemmas.Bool.{lt-ltb, le-ltb}
use Rattle.std.proofs.lemmas.List.{length-append, drop_at, drop-drop, take_at}
use Rattle.byteorder.specs.Endian.{big_bytes}
use Rattle.byteorder.specs.Numbers.{length-bytes_high_first, big_number-reads_back}
use Rattle.pl_event.specs.declared.events.Event.{Event}
use Rattle.pl_event.specs.declared.events.Event.TheVariants.{Read, Write, Caught}
use Rattle.pl_event.specs.declared.events.Message.TheVariants.{Bytes, Line}
use Rattle.pl_event.specs.declared.events.Caught.TheVariants.{TooLong}
use Rattle.pl_event.specs.Meaning.{made_after, up_of, down_of}
use Rattle.pl_stages.specs.Cutting.{joined, cutting_up}
use Rattle.pl_stages.specs.LengthFraming.{is_width, payload_len, frame_end, given_at, frame_event, given_frames, frames_of, length_framing}
use Rattle.pl_stages.specs.LengthPrepending.{prefixed, length_prepending}
use Rattle.pl_stages.specs.Frames.{some_width, given_at-within, frames_of-none, frames_of-given, continues, frames_of-read}
use Rattle.pl_stages.proofs.Framing.{joined-push}

-- ---- what a stream begins with

-- the field of a stream says the number that it was made of
payload_len-field : (width len : ℕ) (rest : List ℕ) → len < 256 ^ width → payload_len width (big_bytes width len ++ rest) 0 ≡ len
payload_len-field width len rest fits = big_number-reads_back width len rest fits

-- a frame that is not too long is given at its end, and one that is too long at the end of its field
pub given_at-short : (width max : ℕ) (bytes : List ℕ) → width + payload_len width bytes 0 ≤ max
    → given_at width max bytes 0 ≡ width + payload_len width bytes 0
given_at-short width max bytes short =
    ap (λ (is_long : _). if is_long then 0 + width else 0 + width + payload_len width bytes 0) (le-ltb max (width + payload_len width bytes 0) short)
    ∙ omega arith

pub given_at-long : (width max : ℕ) (bytes : List ℕ) → max < width + payload_len width bytes 0 → given_at width max bytes 0 ≡ width
given_at-long width max bytes long =
    ap (λ (is_long : _). if is_long then 0 + width else 0 + width + payload_len width bytes 0) (lt-ltb max (width + payload_len width bytes 0) long)
    ∙ omega arith

pub frame_read-short : (width max : ℕ) (bytes : List ℕ) → width + payload_len width bytes 0 ≤ max
    → frame_event width max bytes 0 ≡ Read (Line (take (payload_len width bytes 0) (drop (0 + width) bytes)))
frame_read-short width max bytes short =
    ap (λ (is_long : _). if is_long then Caught TooLong else Read (Line (take (payload_len width bytes 0) (drop (0 + width) bytes)))) (le-ltb max (width + payload_len width bytes 0) short)

pub frame_read-long : (width max : ℕ) (bytes : List ℕ) → max < width + payload_len width bytes 0 → frame_event width max bytes 0 ≡ Caught TooLong
frame_read-long width max bytes long =
    ap (λ (is_long : _). if is_long then Caught TooLong else Read (Line (take (payload_len width bytes 0) (drop (0 + width) bytes)))) (lt-ltb max (width + payload_len width bytes 0) long)

pub frames_of-whole : (width max : ℕ) (payload rest : List ℕ) → is_width width ≡ true
    → length payload < 256 ^ width → width + length payload ≤ max
    → frames_of width max (prefixed width payload ++ rest) ≡ Read (Line payload) ∷ frames_of width max rest
frames_of-whole width max payload rest widths fits short =
    let field = big_bytes width (length payload) in
    let bytes = field ++ (payload ++ rest) in
    let len : payload_len width bytes 0 ≡ length payload = payload_len-field width (length payload) (payload ++ rest) fits in
    let wide = length-bytes_high_first width (length payload) in
    let given : given_at width max bytes 0 ≤ length bytes =
    omega (arith, given_at-short width max bytes (omega (arith, len, short)), len, wide, length-append field (payload ++ rest), length-append payload rest) in
    let end : frame_end width bytes 0 ≡ width + length payload = omega (arith, len) in
    let after : drop (frame_end width bytes 0) bytes ≡ rest =
    ap (λ (k : ℕ). drop k bytes) end ∙ sym (drop-drop (length payload) width bytes)
    ∙ ap (drop (length payload)) (drop_at field (payload ++ rest) width wide) ∙ drop_at payload rest (length payload) refl in
    let read : frame_event width max bytes 0 ≡ Read (Line payload) =
    frame_read-short width max bytes (omega (arith, len, short))
    ∙ ap (λ (n : ℕ). Read (Line (take n (drop (0 + width) bytes)))) len
    ∙ ap (λ (t : List ℕ). Read (Line (take (length payload) t))) (drop_at field (payload ++ rest) (0 + width) (omega (arith, wide)))
    ∙ ap (λ (t : List ℕ). Read (Line t)) (take_at payload rest (length payload) refl) in
    ap (frames_of width max) (append_assoc field payload rest)
    ∙ frames_of-given width max bytes (some_width width widths) given
    ∙ ap (λ (t : Event). t ∷ frames_of width max (drop (frame_end width bytes 0) bytes)) read
    ∙ ap (λ (t : List ℕ). Read (Line payload) ∷ frames_of width max t) after

pub frames_of-too_long : (width max len : ℕ) (rest : List ℕ) → is_width width ≡ true
    → len < 256 ^ width → max < width + len
    → frames_of width max (big_bytes width len ++ rest) ≡ Caught TooLong ∷ frames_of width max (drop len rest)
frames_of-too_long width max len rest widths fits long =
    let field = big_bytes width len in
    let bytes = field ++ rest in
    let same : payload_len width bytes 0 ≡ len = payload_len-field width len rest fits in
    let wide = length-bytes_high_first width len in
    let given : given_at width max bytes 0 ≤ length bytes =
    omega (arith, given_at-long width max bytes (omega (arith, same, long)), wide, length-append field rest) in
    let end : frame_end width bytes 0 ≡ width + len = omega (arith, same) in
    let after : drop (frame_end width bytes 0) bytes ≡ drop len rest =
    ap (λ (k : ℕ). drop k bytes) end ∙ sym (drop-drop len width bytes) ∙ ap (drop len) (drop_at field rest width wide) in
    frames_of-given width max bytes (some_width width widths) given
    ∙ ap (λ (t : Event). t ∷ frames_of width max (drop (frame_end width bytes 0) bytes)) (frame_read-long width max bytes (omega (arith, same, long)))
    ∙ ap (λ (t : List ℕ). Caught TooLong ∷ frames_of width max t) after

pub frames_of-unfinished_payload : (width max len : ℕ) (part : List ℕ) → is_width width ≡ true
    → len < 256 ^ width → width + len ≤ max → length part < len → frames_of width max (big_bytes width len ++ part) ≡ []
frames_of-unfinished_payload width max len part widths fits short few =
    let bytes = big_bytes width len ++ part in
    let same : payload_len width bytes 0 ≡ len = payload_len-field width len part fits in
    let late = given_at-short width max bytes (omega (arith, same, short)) in
    frames_of-none width max bytes (some_width width widths)
    (omega (arith, late, same, few, length-bytes_high_first width len, length-append (big_bytes width len) part))

pub frames_of-unfinished_field : (width max : ℕ) (part : List ℕ) → is_width width ≡ true → length part < width → frames_of width max part ≡ []
frames_of-unfinished_field width max part widths few =
    frames_of-none width max part (some_width width widths) (omega (arith, few, (given_at-within width max part 0).0))

frames_of-prefixed : (width max : ℕ) (payloads : List (List ℕ)) → is_width width ≡ true
    → AllByRecursion (λ payload. (length payload < 256 ^ width) × (width + length payload ≤ max)) payloads
    → frames_of width max (concat (map (prefixed width) payloads)) ≡ map (λ payload. Read (Line payload)) payloads
frames_of-prefixed width max [] widths all = frames_of-unfinished_field width max [] widths (some_width width widths)
frames_of-prefixed width max (payload ∷ payloads) widths all =
    frames_of-whole width max payload (concat (map (prefixed width) payloads)) widths all.0.0 all.0.1
    ∙ ap (λ (t : List Event). Read (Line payload) ∷ t) (frames_of-prefixed width max payloads widths all.1)

-- ---- however it is cut

pub frames_of-grows : (width max : ℕ) (xs ys : List ℕ) → 1 ≤ width
    → frames_of width max xs ++ drop (length (frames_of width max xs)) (frames_of width max (xs ++ ys)) ≡ frames_of width max (xs ++ ys)
frames_of-grows width max xs ys some =
    ap (λ (t : List Event). frames_of width max xs ++ t) (frames_of-read width max xs ys some) ∙ sym (continues width max xs ys some).frames

made_of_reads : (width max : ℕ) (before : List Event) (chunks : List (List ℕ)) → 1 ≤ width
    → frames_of width max (joined before) ++ made_after (cutting_up (frames_of width max)) before (map (λ chunk. Read (Bytes chunk)) chunks)
    ≡ frames_of width max (joined before ++ concat chunks)
made_of_reads width max before [] some =
    append-nil (frames_of width max (joined before)) ∙ ap (frames_of width max) (sym (append-nil (joined before)))
made_of_reads width max before (chunk ∷ chunks) some =
    let next = before ++ Read (Bytes chunk) ∷ [] in
    let made = made_after (cutting_up (frames_of width max)) next (map (λ chunk. Read (Bytes chunk)) chunks) in
    sym (append_assoc (frames_of width max (joined before)) (drop (length (frames_of width max (joined before))) (frames_of width max (joined before ++ chunk))) made)
    ∙ ap (λ (t : List Event). t ++ made) (frames_of-grows width max (joined before) chunk some)
    ∙ ap (λ (t : List ℕ). frames_of width max t ++ made) (sym (joined-push before (Read (Bytes chunk))))
    ∙ made_of_reads width max next chunks some
    ∙ ap (λ (t : List ℕ). frames_of width max (t ++ concat chunks)) (joined-push before (Read (Bytes chunk)))
    ∙ ap (frames_of width max) (append_assoc (joined before) chunk (concat chunks))

pub frames_of-however_cut : (width max : ℕ) (chunks : List (List ℕ)) → is_width width ≡ true
    → up_of (length_framing width max) (map (λ chunk. Read (Bytes chunk)) chunks) ≡ frames_of width max (concat chunks)
unfolding frames_of given_frames
frames_of-however_cut width max chunks widths = made_of_reads width max [] chunks (some_width width widths)

pub frames_of-up : (width max : ℕ) (xs : List Event) (chunk : List ℕ) → is_width width ≡ true
    → frames_of width max (joined xs) ++ (length_framing width max).up xs (Read (Bytes chunk)) ≡ frames_of width max (joined xs ++ chunk)
frames_of-up width max xs chunk widths = frames_of-grows width max (joined xs) chunk (some_width width widths)

-- ---- there and back

prepended_after : (width : ℕ) (before : List Event) (payloads : List (List ℕ)) → AllByRecursion (λ payload. length payload < 256 ^ width) payloads
    → made_after (length_prepending width).down before (map (λ payload. Write (Bytes payload)) payloads)
    ≡ map (λ payload. Write (Bytes (prefixed width payload))) payloads
prepended_after width before [] all = refl
prepended_after width before (payload ∷ payloads) all =
    ap (λ (fits : Bool). (if fits then Write (Bytes (prefixed width payload)) else Write (Line payload))
    ∷ made_after (length_prepending width).down (before ++ Write (Bytes payload) ∷ []) (map (λ (payload : List ℕ). Write (Bytes payload)) payloads))
    (lt-ltb (length payload) (256 ^ width) all.0)
    ∙ ap (λ (t : List Event). Write (Bytes (prefixed width payload)) ∷ t) (prepended_after width (before ++ Write (Bytes payload) ∷ []) payloads all.1)

pub prepended : (width : ℕ) (payloads : List (List ℕ)) → AllByRecursion (λ payload. length payload < 256 ^ width) payloads
    → down_of (length_prepending width) (map (λ payload. Write (Bytes payload)) payloads) ≡ map (λ payload. Write (Bytes (prefixed width payload))) payloads
prepended width payloads all = prepended_after width [] payloads all

pub frames_of-round_trip : (width max : ℕ) (payloads chunks : List (List ℕ)) → is_width width ≡ true
    → AllByRecursion (λ payload. (length payload < 256 ^ width) × (width + length payload ≤ max)) payloads
    → concat chunks ≡ concat (map (prefixed width) payloads)
    → up_of (length_framing width max) (map (λ chunk. Read (Bytes chunk)) chunks) ≡ map (λ payload. Read (Line payload)) payloads
frames_of-round_trip width max payloads chunks widths all same =
    frames_of-however_cut width max chunks widths ∙ ap (frames_of width max) same ∙ frames_of-prefixed width max payloads widths all
