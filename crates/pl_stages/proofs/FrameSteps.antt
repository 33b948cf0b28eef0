-- The steps of a length framer: bytes that are skipped, that are kept, that end a frame, and two steps in turn.
use Rattle.std.proofs.Common.{◌≡◌, ℕ, ◌+◌, ◌-◌, ◌<◌, ◌≤◌, List, [], ◌∷◌, ◌++◌, length, drop, true, inl, inr, sym, refl, ap, ◌∙◌, subst, append-nil, append_assoc, arith}
use Rattle.std.proofs.lemmas.Bool.{cases_lt}
use Rattle.std.proofs.lemmas.List.{length-append, length-drop, drop-append-le, drop-drop, drop_all, drop_at, take_all}
use Rattle.pl_event.specs.declared.events.Event.{Event}
use Rattle.pl_event.specs.declared.events.Event.TheVariants.{Read, Caught}
use Rattle.pl_event.specs.declared.events.Message.TheVariants.{Line}
use Rattle.pl_event.specs.declared.events.Caught.TheVariants.{TooLong}
use Rattle.pl_stages.specs.LengthFraming.{is_width, payload_len, frame_end, given_at, frame_event, given_frames, frame_start, frames_of}
use Rattle.pl_stages.specs.LengthSteps.{open_start, KeepsFrame, IsUnfinished, TakesBytes}
use Rattle.pl_stages.specs.Frames.{some_width, given_at-within, frames_of-none, open_start-none, frames_of-given, open_start-given, frames_of-read, continues, payload_len-append}
use Rattle.pl_stages.proofs.FrameLaws.{given_at-short, given_at-long, frame_read-short, frame_read-long, frames_of-grows}

-- ---- no bytes

frames_of-empty : (width max : ℕ) → frames_of width max [] ≡ []
unfolding frames_of given_frames
frames_of-empty width max = refl

open_start-empty : (width max : ℕ) → open_start width max [] ≡ 0
unfolding open_start frame_start
open_start-empty width max = ap (λ (given : List Event). frame_start width [] (length given)) (frames_of-empty width max)

-- before any byte nothing is kept
pub keeps_nothing : (width max : ℕ) → KeepsFrame width max [] 0 []
keeps_nothing width max = record {
  part = sym (ap (λ (n : ℕ). drop n []) (open_start-empty width max));
  skip = omega (arith, open_start-empty width max);
}

-- ---- one step

-- with nothing to skip, what is not given yet is what is kept and what comes
open_stream : (width max : ℕ) (partial : List ℕ) (to_skip : ℕ) (taken stream bytes : List ℕ) → to_skip ≡ 0 → stream ≡ partial ++ taken
    → KeepsFrame width max partial to_skip bytes → drop (open_start width max bytes) (bytes ++ taken) ≡ stream
open_stream width max partial to_skip taken stream bytes none whole keeps =
    drop-append-le (open_start width max bytes) bytes taken (omega (arith, none, keeps.skip))
    ∙ ap (λ (t : List ℕ). t ++ taken) (sym keeps.part) ∙ sym whole

-- What is kept and what comes is cut as it stands, with nothing to skip.
takes_cut : (width max : ℕ) (partial : List ℕ) (to_skip : ℕ) (taken stream : List ℕ) (before : List Event) (partial' : List ℕ) (to_skip' : ℕ) (after : List Event)
    → is_width width ≡ true → to_skip ≡ 0 → stream ≡ partial ++ taken
    → partial' ≡ drop (open_start width max stream) stream
    → to_skip' ≡ open_start width max stream - length stream
    → after ≡ before ++ frames_of width max stream
    → TakesBytes width max partial to_skip taken before partial' to_skip' after
takes_cut width max partial to_skip taken stream before partial' to_skip' after widths none whole part skip given = record {
  kept = λ bytes keeps.
      let rest = open_stream width max partial to_skip taken stream bytes none whole keeps in
      let start : open_start width max (bytes ++ taken) ≡ open_start width max bytes + open_start width max stream =
      (continues width max bytes taken (some_width width widths)).start ∙ ap (λ (t : List ℕ). open_start width max bytes + open_start width max t) rest in
      record {
        part =
            part ∙ ap (drop (open_start width max stream)) (sym rest)
            ∙ drop-drop (open_start width max stream) (open_start width max bytes) (bytes ++ taken)
            ∙ ap (λ (n : ℕ). drop n (bytes ++ taken)) (sym start);
        skip =
            let size : length stream ≡ length (bytes ++ taken) - open_start width max bytes =
            sym (ap length rest) ∙ length-drop (open_start width max bytes) (bytes ++ taken) in
            omega (arith, skip, start, size, none, keeps.skip, length-append bytes taken);
      };
  given = λ bytes keeps.
      given ∙ ap (λ (t : List Event). before ++ t)
      (ap (frames_of width max) (sym (open_stream width max partial to_skip taken stream bytes none whole keeps))
      ∙ sym (frames_of-read width max bytes taken (some_width width widths)));
}

skipped_stream : (width max : ℕ) (partial : List ℕ) (to_skip : ℕ) (taken bytes : List ℕ) → 0 < to_skip → length taken ≤ to_skip
    → KeepsFrame width max partial to_skip bytes → drop (open_start width max bytes) (bytes ++ taken) ≡ []
skipped_stream width max partial to_skip taken bytes some few keeps =
    drop_all (open_start width max bytes) (bytes ++ taken) (omega (arith, keeps.skip, few, some, length-append bytes taken))

-- what is unfinished is given later
unfinished_is_late : (width max : ℕ) (stream : List ℕ) → IsUnfinished width max stream → length stream < given_at width max stream 0
unfinished_is_late width max stream unfinished = elim (cases_lt (length stream) width) [
  | inl short ↦ omega (arith, short, (given_at-within width max stream 0).0)
  | inr field ↦
      let within = unfinished field in
      omega (arith, given_at-short width max stream within.0, within.1)
]

-- bytes that are skipped give nothing
pub takes_skipped : (width max : ℕ) (partial : List ℕ) (to_skip : ℕ) (taken : List ℕ) (before : List Event) (left : ℕ)
    → is_width width ≡ true → partial ≡ [] → 0 < to_skip → length taken ≤ to_skip → left ≡ to_skip - length taken
    → TakesBytes width max partial to_skip taken before partial left before
takes_skipped width max partial to_skip taken before left widths empty some few less = record {
  kept = λ bytes keeps.
      let none = skipped_stream width max partial to_skip taken bytes some few keeps in
      let start : open_start width max (bytes ++ taken) ≡ open_start width max bytes =
      (continues width max bytes taken (some_width width widths)).start
      ∙ ap (λ (t : List ℕ). open_start width max bytes + open_start width max t) none
      ∙ omega (arith, open_start-empty width max) in
      record {
        part = empty ∙ sym none ∙ ap (λ (n : ℕ). drop n (bytes ++ taken)) (sym start);
        skip = omega (arith, less, start, keeps.skip, length-append bytes taken, some);
      };
  given = λ bytes keeps.
      sym (append-nil before)
      ∙ ap (λ (t : List Event). before ++ t)
      (sym (frames_of-read width max bytes taken (some_width width widths)
      ∙ ap (frames_of width max) (skipped_stream width max partial to_skip taken bytes some few keeps) ∙ frames_of-empty width max));
}

one_frame : (width max : ℕ) (stream : List ℕ) → 1 ≤ width → given_at width max stream 0 ≤ length stream
    → drop (frame_end width stream 0) stream ≡ [] → frames_of width max stream ≡ frame_event width max stream 0 ∷ []
one_frame width max stream some given rest =
    frames_of-given width max stream some given
    ∙ ap (λ (t : List ℕ). frame_event width max stream 0 ∷ frames_of width max t) rest
    ∙ ap (λ (t : List Event). frame_event width max stream 0 ∷ t) (frames_of-empty width max)

-- bytes that leave the frame unfinished are kept
pub takes_kept : (width max : ℕ) (partial : List ℕ) (to_skip : ℕ) (taken stream : List ℕ) (before : List Event)
    → is_width width ≡ true → to_skip ≡ 0 → stream ≡ partial ++ taken
    → IsUnfinished width max stream
    → TakesBytes width max partial to_skip taken before stream to_skip before
takes_kept width max partial to_skip taken stream before widths none whole unfinished =
    let late = unfinished_is_late width max stream unfinished in
    let start = open_start-none width max stream (some_width width widths) late in
    takes_cut width max partial to_skip taken stream before stream to_skip before widths none whole
    (ap (λ (n : ℕ). drop n stream) (sym start)) (omega (arith, none, start))
    (sym (append-nil before) ∙ ap (λ (t : List Event). before ++ t) (sym (frames_of-none width max stream (some_width width widths) late)))

-- bytes that end a frame give it
pub takes_whole : (width max : ℕ) (partial : List ℕ) (to_skip : ℕ) (taken stream : List ℕ) (before : List Event) (partial' : List ℕ) (after : List Event)
    → is_width width ≡ true → to_skip ≡ 0 → stream ≡ partial ++ taken → partial' ≡ []
    → width + payload_len width stream 0 ≤ max
    → width + payload_len width stream 0 ≡ length stream
    → after ≡ before ++ Read (Line (drop width stream)) ∷ []
    → TakesBytes width max partial to_skip taken before partial' to_skip after
takes_whole width max partial to_skip taken stream before partial' after widths none whole gone short ends given =
    let some = some_width width widths in
    let is_given : given_at width max stream 0 ≤ length stream = omega (arith, given_at-short width max stream short, ends) in
    let rest : drop (frame_end width stream 0) stream ≡ [] = drop_all (frame_end width stream 0) stream (omega (arith, ends)) in
    let start : open_start width max stream ≡ length stream =
    open_start-given width max stream some is_given
    ∙ omega (arith, ap (open_start width max) rest, open_start-empty width max, ends) in
    let read = frame_read-short width max stream short
    ∙ ap (λ (t : List ℕ). Read (Line t))
    (take_all (payload_len width stream 0) (drop (0 + width) stream) (omega (arith, length-drop (0 + width) stream, ends))
    ∙ ap (λ (n : ℕ). drop n stream) (let same : 0 + width ≡ width = omega arith in same)) in
    takes_cut width max partial to_skip taken stream before partial' to_skip after widths none whole
    (gone ∙ sym (drop_all (open_start width max stream) stream (omega (arith, start)))) (omega (arith, none, start))
    (given ∙ ap (λ (t : List Event). before ++ t) (sym (one_frame width max stream some is_given rest ∙ ap (λ (t : Event). t ∷ []) read)))

-- a field that says too much is given, and its payload is to be skipped
pub takes_too_long : (width max : ℕ) (partial : List ℕ) (to_skip : ℕ) (taken stream : List ℕ) (before : List Event) (partial' : List ℕ) (payload : ℕ) (after : List Event)
    → is_width width ≡ true → to_skip ≡ 0 → stream ≡ partial ++ taken → partial' ≡ []
    → payload ≡ payload_len width stream 0
    → max < width + payload → length stream ≡ width
    → after ≡ before ++ Caught TooLong ∷ []
    → TakesBytes width max partial to_skip taken before partial' payload after
takes_too_long width max partial to_skip taken stream before partial' payload after widths none whole gone says long field given =
    let some = some_width width widths in
    let over : max < width + payload_len width stream 0 = omega (arith, says, long) in
    let is_given : given_at width max stream 0 ≤ length stream = omega (arith, given_at-long width max stream over, field) in
    let rest : drop (frame_end width stream 0) stream ≡ [] = drop_all (frame_end width stream 0) stream (omega (arith, field)) in
    let start : open_start width max stream ≡ width + payload_len width stream 0 =
    open_start-given width max stream some is_given
    ∙ omega (arith, ap (open_start width max) rest, open_start-empty width max) in
    takes_cut width max partial to_skip taken stream before partial' payload after widths none whole
    (gone ∙ sym (drop_all (open_start width max stream) stream (omega (arith, start, field)))) (omega (arith, start, field, says))
    (given ∙ ap (λ (t : List Event). before ++ t)
    (sym (one_frame width max stream some is_given rest ∙ ap (λ (t : Event). t ∷ []) (frame_read-long width max stream over))))

-- ---- how far a frame is filled

-- What a frame lacks is what its field lacks, or else its payload.
pub record Lacks (width : ℕ) (partial : List ℕ) (missing : ℕ) : Type 0 where
  pub field : length partial < width → missing + length partial ≡ width
  pub payload : width ≤ length partial → missing + length partial ≡ width + payload_len width partial 0

-- filled with no more than it lacks, a frame that is whole ends there
pub fills_payload : (width : ℕ) (partial taken stream : List ℕ) (missing : ℕ) → Lacks width partial missing
    → stream ≡ partial ++ taken → length taken ≤ missing → width + payload_len width stream 0 ≤ length stream
    → width + payload_len width stream 0 ≡ length stream
fills_payload width partial taken stream missing lacks whole few enough =
    let size : length stream ≡ length partial + length taken = ap length whole ∙ length-append partial taken in
    elim (cases_lt (length partial) width) [
      | inl short ↦ let most = lacks.field short in omega (arith, size, most, few, enough)
      | inr field ↦
          let most = lacks.payload field in
          let same : payload_len width stream 0 ≡ payload_len width partial 0 =
          ap (λ (t : List ℕ). payload_len width t 0) whole ∙ payload_len-append width partial taken field in
          omega (arith, size, most, same, few, enough)
    ]

-- and the field of one that is too long does
pub fills_field : (width max : ℕ) (partial taken stream : List ℕ) (missing : ℕ) → Lacks width partial missing
    → stream ≡ partial ++ taken → length taken ≤ missing → IsUnfinished width max partial
    → max < width + payload_len width stream 0 → width ≤ length stream → length stream ≡ width
fills_field width max partial taken stream missing lacks whole few unfinished long enough =
    let size : length stream ≡ length partial + length taken = ap length whole ∙ length-append partial taken in
    elim (cases_lt (length partial) width) [
      | inl short ↦ let most = lacks.field short in omega (arith, size, most, few, enough)
      | inr field ↦
          let within = unfinished field in
          let same : payload_len width stream 0 ≡ payload_len width partial 0 =
          ap (λ (t : List ℕ). payload_len width t 0) whole ∙ payload_len-append width partial taken field in
          absurd (omega (arith, within.0, same, long))
    ]

-- ---- two steps

pub takes_both : (width max : ℕ) (partial : List ℕ) (to_skip : ℕ) (first : List ℕ) (before : List Event)
    (partial' : List ℕ) (to_skip' : ℕ) (between : List Event) (second partial'' : List ℕ) (to_skip'' : ℕ) (after : List Event)
    → is_width width ≡ true
    → TakesBytes width max partial to_skip first before partial' to_skip' between
    → TakesBytes width max partial' to_skip' second between partial'' to_skip'' after
    → TakesBytes width max partial to_skip (first ++ second) before partial'' to_skip'' after
takes_both width max partial to_skip first before partial' to_skip' between second partial'' to_skip'' after widths one two = record {
  kept = λ bytes keeps.
      subst (λ (t : List ℕ). KeepsFrame width max partial'' to_skip'' t) (append_assoc bytes first second)
      (two.kept (bytes ++ first) (one.kept bytes keeps));
  given = λ bytes keeps.
      let some = some_width width widths in
      let given = frames_of width max bytes in
      let more = drop (length given) (frames_of width max (bytes ++ first)) in
      let last = drop (length (frames_of width max (bytes ++ first))) (frames_of width max ((bytes ++ first) ++ second)) in
      let all : frames_of width max ((bytes ++ first) ++ second) ≡ given ++ (more ++ last) =
      sym (frames_of-grows width max (bytes ++ first) second some)
      ∙ ap (λ (t : List Event). t ++ last) (sym (frames_of-grows width max bytes first some))
      ∙ append_assoc given more last in
      two.given (bytes ++ first) (one.kept bytes keeps)
      ∙ ap (λ (t : List Event). t ++ last) (one.given bytes keeps)
      ∙ append_assoc before more last
      ∙ ap (λ (t : List Event). before ++ t)
      (sym (ap (drop (length given)) (ap (frames_of width max) (sym (append_assoc bytes first second)) ∙ all)
      ∙ drop_at given (more ++ last) (length given) refl));
}
