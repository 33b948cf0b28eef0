-- Which handlers are thrifty: any, by what it makes of each event, and the built-in ones.
use Rattle.std.specs.Prelude.{◌≡◌, ℕ, zero, suc, ◌+◌, ◌*◌, ◌≤◌, List, [], ◌∷◌, ◌++◌, length, map, take, drop, Bool, true, false, ◌==◌, nat_le, Result, Ok, Err, if◌then◌else◌}
use Rattle.std.proofs.Common.{ap, arith, length-append}
use Rattle.std.proofs.lemmas.List.{length-map, length-drop, drop-map}
use Rattle.std.proofs.lemmas.List.Sums.{sum_by-append, sum_by-cons}
use Rattle.pl_event.specs.declared.events.Event.{Event}
use Rattle.pl_event.specs.declared.events.Event.TheVariants.{Active, Read, ReadComplete, Caught, User, Write, Flush}
use Rattle.pl_event.specs.declared.events.Message.TheVariants.{Bytes, Line, Command, Reply}
use Rattle.pl_event.specs.declared.events.Command.{Command as CommandKind}
use Rattle.pl_event.specs.declared.events.Command.TheVariants.{Ping, Quit, Echo, Add, Get}
use Rattle.pl_event.specs.declared.events.Caught.{Caught as CaughtKind}
use Rattle.pl_event.specs.declared.events.Caught.TheVariants.{TooLong}
use Rattle.pl_event.specs.declared.stages.Direction.TheVariants.{Outbound}
use Rattle.pl_event.specs.Meaning.{Meaning, made_after}
use Rattle.pl_event.specs.Mappings.{mapping_up, mapping_down}
use Rattle.pl_stages.specs.Counts.{IsThrifty, event_weight, weight}
use Rattle.pl_stages.specs.Cutting.{cutting, cutting_up, joined}
use Rattle.pl_stages.specs.LineFraming.{line_framing, onto_first_segment, closed_segments, lines_of, framed, without_return}
use Rattle.pl_stages.specs.LengthFraming.{length_framing, is_width, payload_len, frame_start, is_too_long, given_at, frame_event, given_frame, given_frames, frames_of}
use Rattle.pl_stages.specs.LengthSteps.{open_start}
use Rattle.pl_stages.specs.LengthPrepending.{length_prepending, with_length}
use Rattle.pl_stages.specs.Frames.{some_width, frames_of-read, continues}
use Rattle.pl_stages.specs.Commands.{command_decoding, command_of, decoded, read_as}
use Rattle.pl_stages.specs.Service.{line_service, has_quit, replies_to, accepted, Addition}
use Rattle.pl_stages.specs.Replies.{reply_encoding, encoded}
use Rattle.pl_stages.specs.LineEnding.{line_ending, with_line_end}
use Rattle.pl_stages.specs.Flushes.{flush_every, flush_every_down, passes}
use Rattle.pl_event.specs.Passing.{passing_up, passing_down}

-- at most n events for each one
length-made_after-le : (f : List Event → Event → List Event) (n : ℕ)
    → ((before : List Event) (x : Event) → length (f before x) ≤ n)
    → (before xs : List Event) → length (made_after f before xs) ≤ n * length xs
length-made_after-le f n each before [] = omega arith
length-made_after-le f n each before (x ∷ xs) =
    let first = each before x in
    let rest = length-made_after-le f n each (before ++ x ∷ []) xs in
    omega (arith, first, rest, length-append (f before x) (made_after f (before ++ x ∷ []) xs))

-- no more weight for each one
weight-made_after-le : (f : List Event → Event → List Event)
    → ((before : List Event) (x : Event) → weight (f before x) ≤ event_weight x)
    → (before xs : List Event) → weight (made_after f before xs) ≤ weight xs
weight-made_after-le f each before [] = omega arith
weight-made_after-le f each before (x ∷ xs) =
    let first = each before x in
    let rest = weight-made_after-le f each (before ++ x ∷ []) xs in
    let made = sum_by-append event_weight (f before x) (made_after f (before ++ x ∷ []) xs) in
    let taken = sum_by-cons event_weight x xs in
    omega (arith, first, rest, made, taken)

-- A handler is thrifty where what it makes of each event weighs no more, and is at most two events downwards, of an
-- outbound handler at most one.
pub thrifty : (m : Meaning)
    → ((before : List Event) (x : Event) → weight (m.up before x) ≤ event_weight x)
    → ((before : List Event) (x : Event) → length (m.down before x) ≤ 2)
    → (m.direction ≡ Outbound → (before : List Event) (x : Event) → length (m.down before x) ≤ 1)
    → IsThrifty m
thrifty m up down out = record {
  upwards = weight-made_after-le m.up up [];
  downwards = length-made_after-le m.down 2 down [];
  outbound = λ e xs. let h = length-made_after-le m.down 1 (out e) [] xs in omega (arith, h);
}

-- what is made upwards of each event weighs no more
pub passing_up-thrifty : (f : List Event → Event → List Event) → ((before : List Event) (x : Event) → weight (f before x) ≤ event_weight x) → IsThrifty (passing_up f)
passing_up-thrifty f each = thrifty (passing_up f) each (λ before x. omega arith) (λ e before x. omega arith)

-- at most one event downwards of each
pub passing_down-thrifty : (f : List Event → Event → List Event) → ((before : List Event) (x : Event) → length (f before x) ≤ 1) → IsThrifty (passing_down f)
passing_down-thrifty f each =
    thrifty (passing_down f) (λ before x. omega arith) (λ before x. let h = each before x in omega (arith, h)) (λ e before x. each before x)

-- one event of no greater weight for each one
pub mapping_up-thrifty : (f : Event → Event) → ((x : Event) → event_weight (f x) ≤ event_weight x) → IsThrifty (mapping_up f)
mapping_up-thrifty f each = passing_up-thrifty (λ xs x. f x ∷ []) (λ before x. let h = each x in omega (arith, h))

pub mapping_down-thrifty : (f : Event → Event) → IsThrifty (mapping_down f)
mapping_down-thrifty f = passing_down-thrifty (λ xs x. f x ∷ []) (λ before x. omega arith)

segment_more : (is_feed : Bool) (b : ℕ) (parts more : List (List ℕ)) (n : ℕ) → length more ≤ length parts + n
    → length (if is_feed then [] ∷ more else onto_first_segment b more) ≤ length (if is_feed then [] ∷ parts else onto_first_segment b parts) + n
segment_more true b parts more n h = omega arith
segment_more false b [] [] n h = omega arith
segment_more false b [] (m ∷ more) n h = omega arith
segment_more false b (p ∷ parts) [] n h = omega arith
segment_more false b (p ∷ parts) (m ∷ more) n h = omega arith

segment_first : (is_feed : Bool) (b : ℕ) (parts : List (List ℕ)) (n : ℕ) → length parts ≤ n
    → length (if is_feed then [] ∷ parts else onto_first_segment b parts) ≤ n + 1
segment_first true b parts n h = omega arith
segment_first false b [] n h = omega arith
segment_first false b (p ∷ parts) n h = omega arith

length-closed_segments-le : (bytes : List ℕ) → length (closed_segments bytes) ≤ length bytes
length-closed_segments-le [] = omega arith
length-closed_segments-le (b ∷ bs) =
    let h = segment_first (b == 10) b (closed_segments bs) (length bs) (length-closed_segments-le bs) in omega (arith, h)

-- each byte more closes at most one segment
length-closed_segments-append-le : (xs ys : List ℕ) → length (closed_segments (xs ++ ys)) ≤ length (closed_segments xs) + length ys
length-closed_segments-append-le [] ys = let h = length-closed_segments-le ys in omega (arith, h)
length-closed_segments-append-le (b ∷ bs) ys =
    segment_more (b == 10) b (closed_segments bs) (closed_segments (bs ++ ys)) (length ys) (length-closed_segments-append-le bs ys)

-- a line weighs one
framed_weight : (fits : Bool) (line : List ℕ) → event_weight (if fits then Read (Line line) else Caught TooLong) ≤ 1
framed_weight true line = omega arith
framed_weight false line = omega arith

line_weight : (max : ℕ) (part : List ℕ) → event_weight (framed max part) ≤ 1
line_weight max part = framed_weight (nat_le (length (without_return part)) max) (without_return part)

lines_weight : (max : ℕ) (parts : List (List ℕ)) → weight (map (framed max) parts) ≤ length parts
lines_weight max [] = omega arith
lines_weight max (part ∷ parts) =
    let first = line_weight max part in
    let rest = lines_weight max parts in
    omega (arith, first, rest, sum_by-cons event_weight (framed max part) (map (framed max) parts))

lines_more : (max : ℕ) (xs ys : List ℕ) → weight (drop (length (lines_of max xs)) (lines_of max (xs ++ ys))) ≤ length ys
lines_more max xs ys =
    let fewer = length-closed_segments-append-le xs ys in
    let n = length (lines_of max xs) in
    let lines = length-map (closed_segments xs) (framed max) in
    let later = drop n (closed_segments (xs ++ ys)) in
    let light = lines_weight max later in
    let same = ap weight (drop-map (framed max) n (closed_segments (xs ++ ys))) in
    omega (arith, fewer, lines, light, same, length-drop n (closed_segments (xs ++ ys)))

cut_more : (items : List ℕ → List Event)
    → ((xs ys : List ℕ) → weight (drop (length (items xs)) (items (xs ++ ys))) ≤ length ys)
    → (before : List Event) (x : Event) → weight (cutting_up items before x) ≤ event_weight x
cut_more items each before (Read (Bytes b)) = let h = each (joined before) b in omega (arith, h)
cut_more items each before (Read (Line b)) = omega arith
cut_more items each before (Read (Command c)) = omega arith
cut_more items each before (Read (Reply r)) = omega arith
cut_more items each before Active = omega arith
cut_more items each before ReadComplete = omega arith
cut_more items each before (Caught c) = omega arith
cut_more items each before (User number) = omega arith
cut_more items each before (Write m) = omega arith
cut_more items each before Flush = omega arith

-- more bytes give items that weigh no more than these
pub cutting-thrifty : (items : List ℕ → List Event)
    → ((xs ys : List ℕ) → weight (drop (length (items xs)) (items (xs ++ ys))) ≤ length ys) → IsThrifty (cutting items)
cutting-thrifty items each = passing_up-thrifty (cutting_up items) (cut_more items each)

pub line_framing-thrifty : (max : ℕ) → IsThrifty (line_framing max)
line_framing-thrifty max =
    cutting-thrifty (lines_of max) (lines_more max)

-- a frame weighs one
frame_weight : (is_long : Bool) (payload : List ℕ) → event_weight (if is_long then Caught TooLong else Read (Line payload)) ≤ 1
frame_weight true payload = omega arith
frame_weight false payload = omega arith

given_frame_weight : (width max : ℕ) (bytes : List ℕ) (p : ℕ) → weight (given_frame width max bytes p) ≤ length (given_frame width max bytes p)
unfolding given_frame
given_frame_weight width max bytes p =
    let one = frame_weight (is_too_long width max bytes p) (take (payload_len width bytes p) (drop (p + width) bytes)) in
    elim (nat_le (given_at width max bytes p) (length bytes))
    as (λ is_given. weight (if is_given then frame_event width max bytes p ∷ [] else []) ≤ length (if is_given then frame_event width max bytes p ∷ [] else [])) [
      | true ↦ omega (arith, one)
      | false ↦ omega arith
    ]

given_frames_weight : (width max : ℕ) (bytes : List ℕ) (n : ℕ) → weight (given_frames width max bytes n) ≤ length (given_frames width max bytes n)
unfolding given_frames
given_frames_weight width max bytes zero = omega arith
given_frames_weight width max bytes (suc n) =
    let before = given_frames width max bytes n in
    let next = given_frame width max bytes (frame_start width bytes n) in
    let first = given_frames_weight width max bytes n in
    let last = given_frame_weight width max bytes (frame_start width bytes n) in
    omega (arith, first, last, sum_by-append event_weight before next, length-append before next)

frames_weight : (width max : ℕ) (bytes : List ℕ) → weight (frames_of width max bytes) ≤ length (frames_of width max bytes)
unfolding frames_of
frames_weight width max bytes = given_frames_weight width max bytes (length bytes)

frames_more : (width max : ℕ) → 1 ≤ width → (xs ys : List ℕ)
    → weight (drop (length (frames_of width max xs)) (frames_of width max (xs ++ ys))) ≤ length ys
frames_more width max some xs ys =
    let same = ap weight (frames_of-read width max xs ys some) in
    let light = frames_weight width max (drop (open_start width max xs) (xs ++ ys)) in
    omega (arith, same, light, (continues width max xs ys some).few)

pub length_framing-thrifty : (width max : ℕ) → is_width width ≡ true → IsThrifty (length_framing width max)
length_framing-thrifty width max widths =
    cutting-thrifty (frames_of width max) (frames_more width max (some_width width widths))

read_as_weight : (r : Result CommandKind CaughtKind) → event_weight (read_as r) ≤ 1
read_as_weight (Ok c) = omega arith
read_as_weight (Err c) = omega arith

decoded_weight : (x : Event) → event_weight (decoded x) ≤ event_weight x
decoded_weight (Read (Line line)) = read_as_weight (command_of line)
decoded_weight (Read (Bytes b)) = omega arith
decoded_weight (Read (Command c)) = omega arith
decoded_weight (Read (Reply r)) = omega arith
decoded_weight Active = omega arith
decoded_weight ReadComplete = omega arith
decoded_weight (Caught c) = omega arith
decoded_weight (User number) = omega arith
decoded_weight (Write m) = omega arith
decoded_weight Flush = omega arith

pub command_decoding-thrifty : IsThrifty command_decoding
command_decoding-thrifty = mapping_up-thrifty decoded decoded_weight

unless_quit : (quits : Bool) (xs : List Event) (n : ℕ) → length xs ≤ n → length (if quits then [] else xs) ≤ n
unless_quit true xs n h = omega arith
unless_quit false xs n h = h

passed_weight : (quits : Bool) (x : Event) → weight (if quits then [] else x ∷ []) ≤ event_weight x
passed_weight true x = omega arith
passed_weight false x = omega arith

replies_few : (additions : List Addition) (x : Event) → length (replies_to additions x) ≤ 2
replies_few additions (Read (Command Ping)) = omega arith
replies_few additions (Read (Command Quit)) = omega arith
replies_few additions (Read (Command (Echo text))) = omega arith
replies_few additions (Read (Command (Add key n))) = omega arith
replies_few additions (Read (Command (Get key))) = omega arith
replies_few additions (Read (Bytes b)) = omega arith
replies_few additions (Read (Line b)) = omega arith
replies_few additions (Read (Reply r)) = omega arith
replies_few additions Active = omega arith
replies_few additions ReadComplete = omega arith
replies_few additions (Caught c) = omega arith
replies_few additions (User number) = omega arith
replies_few additions (Write m) = omega arith
replies_few additions Flush = omega arith

pub line_service-thrifty : IsThrifty line_service
line_service-thrifty =
    thrifty line_service (λ before x. passed_weight (has_quit before) x)
    (λ before x. unless_quit (has_quit before) (replies_to (accepted before) x) 2 (replies_few (accepted before) x)) (λ e before x. cc)

pub reply_encoding-thrifty : IsThrifty reply_encoding
reply_encoding-thrifty = mapping_down-thrifty encoded

pub line_ending-thrifty : IsThrifty line_ending
line_ending-thrifty = mapping_down-thrifty with_line_end

pub length_prepending-thrifty : (width : ℕ) → IsThrifty (length_prepending width)
length_prepending-thrifty width = mapping_down-thrifty (with_length width)

one_or_none : (is : Bool) (x : Event) → length (if is then x ∷ [] else []) ≤ 1
one_or_none true x = omega arith
one_or_none false x = omega arith

pub flush_every-thrifty : (n : ℕ) → IsThrifty (flush_every n)
flush_every-thrifty n = passing_down-thrifty (flush_every_down n) (λ before x. one_or_none (passes n before x) x)
