-- What a channel and an edit mean, row by row (docs/FORMATS.md, "Session").
use Rattle.std.specs.Prelude.{ℕ, Bool, true, false, ◌&&◌, List, length, Option, is_some, if◌then◌else◌, Result, Ok, Err, codes}
use Rattle.std.specs.Result.{result_ok}
use Rattle.hex.specs.Hex.{decode_of}
use Rattle.serde_json.specs.Data.{Data}
use Rattle.serde_json.specs.Find.{as_object}
use Rattle.pl_event.specs.declared.elements.Element.{Element}
use Rattle.pl_event.specs.declared.elements.Element.TheVariants.{Chunk, User}
use Rattle.pl_event.specs.Inputs.{Bursts}
use Rattle.pl_build.specs.declared.limits.TheConstants.{MAX_MARK, DEFAULT_LOW, DEFAULT_HIGH}
use Rattle.pl_world.specs.declared.limits.TheConstants.{MAX_BURSTS}
use Rattle.pl_world.specs.Limits.{fits}
use Rattle.pl_stages.specs.declared.limits.TheConstants.{MAX_LINE, MAX_FLUSHES, MAX_FRAME}
use Rattle.pl_stages.specs.LengthFraming.{is_width}
use Rattle.pl_text.specs.declared.session_text.limits.TheConstants.{MAX_EDITS, MAX_WINDOW, MAX_FAIL_AT, MAX_USER_EVENT, DEFAULT_WINDOW}
use Rattle.pl_text.specs.declared.faults.SessionFault.{SessionFault}
use Rattle.pl_text.specs.declared.faults.SessionFault.TheVariants.{Kind, Limit}
use Rattle.pl_text.specs.declared.session_text.version.Version.{Version}
use Rattle.pl_text.specs.declared.session_text.version.Version.TheVariants.{One, Two}
use Rattle.pl_text.specs.declared.session_text.outline.HandlerKind.{HandlerKind}
use Rattle.pl_text.specs.declared.session_text.outline.HandlerKind.TheVariants.{Lines, Decode, LineEnd, Encode, Service, FlushEvery, Length, Prepend}
use Rattle.pl_text.specs.declared.session_text.outline.Operation.{Operation}
use Rattle.pl_text.specs.declared.session_text.outline.Operation.TheVariants as operation
use Rattle.pl_text.specs.declared.session_text.outline.Addition.{Addition}
use Rattle.pl_text.specs.declared.session_text.outline.Edit.{Edit}
use Rattle.pl_text.specs.declared.session_text.outline.Edit.TheVariants.{First, Last, Before, After, Remove}
use Rattle.pl_text.specs.declared.session_text.outline.ChannelOutline.{ChannelOutline}
use Rattle.pl_text.specs.SessionReading.{◌>>=◌, known, whole, whole_in, text, same_text, an_object, required, optional, with_default, array_in, array_of}

-- ---- edits

abbrev pub operation_named : List ℕ → Result Operation SessionFault
operation_named name =
    if same_text name (codes "first") then Ok operation.First
    else if same_text name (codes "last") then Ok operation.Last
    else if same_text name (codes "before") then Ok operation.Before
    else if same_text name (codes "after") then Ok operation.After
    else if same_text name (codes "remove") then Ok operation.Remove
    else Err Kind

unfoldable pub operation_in : Data → Result Operation SessionFault
operation_in d = text d >>= operation_named

-- each kind is read with the members that only it has
abbrev pub lines_in : Data → Result HandlerKind SessionFault
lines_in edit = do
  max ← required (codes "max") (whole_in 1 MAX_LINE) edit
  Ok (Lines max)

abbrev pub flush_every_in : Data → Result HandlerKind SessionFault
flush_every_in edit = do
  n ← required (codes "n") (whole_in 1 MAX_FLUSHES) edit
  Ok (FlushEvery n)

-- how many bytes a length field has
abbrev pub known_width : ℕ → Result ℕ SessionFault
known_width n = if is_width n then Ok n else Err Limit

unfoldable pub width_in : Data → Result ℕ SessionFault
width_in d = whole d >>= known_width

abbrev pub length_in : Data → Result HandlerKind SessionFault
length_in edit = do
  width ← required (codes "width") width_in edit
  max ← required (codes "max") (whole_in 1 MAX_FRAME) edit
  Ok (Length width max)

abbrev pub prepend_in : Data → Result HandlerKind SessionFault
prepend_in edit = do
  width ← required (codes "width") width_in edit
  Ok (Prepend width)

-- only version 2 knows the handlers of length fields
abbrev pub knows_length_fields : Version → Bool
knows_length_fields One = false
knows_length_fields Two = true

abbrev pub handler_named : Version → Data → List ℕ → Result HandlerKind SessionFault
handler_named version edit kind =
    if same_text kind (codes "lines") then lines_in edit
    else if same_text kind (codes "decode") then Ok Decode
    else if same_text kind (codes "lineend") then Ok LineEnd
    else if same_text kind (codes "encode") then Ok Encode
    else if same_text kind (codes "service") then Ok Service
    else if same_text kind (codes "flush_every") then flush_every_in edit
    else if same_text kind (codes "length") && knows_length_fields version then length_in edit
    else if same_text kind (codes "prepend") && knows_length_fields version then prepend_in edit
    else Err Kind

unfoldable pub handler_in : Version → Data → Result HandlerKind SessionFault
handler_in version edit = required (codes "kind") text edit >>= handler_named version edit

-- the handler of this name that an edit adds
unfoldable pub addition_in : Version → List ℕ → Data → Result Addition SessionFault
addition_in version name edit = do
  handler ← handler_in version edit
  group ← optional (codes "group") text edit
  Ok (record { name = name; handler = handler; group = group })

-- an edit beside another handler says beside which, and one that removes says no more than the name
unfoldable pub edit_of : Version → Operation → List ℕ → Data → Result Edit SessionFault
edit_of version operation.First name edit = do
  addition ← addition_in version name edit
  Ok (First addition)
edit_of version operation.Last name edit = do
  addition ← addition_in version name edit
  Ok (Last addition)
edit_of version operation.Before name edit = do
  at ← required (codes "at") text edit
  addition ← addition_in version name edit
  Ok (Before at addition)
edit_of version operation.After name edit = do
  at ← required (codes "at") text edit
  addition ← addition_in version name edit
  Ok (After at addition)
edit_of version operation.Remove name edit = Ok (Remove name)

unfoldable pub edit_in : Version → Data → Result Edit SessionFault
edit_in version d = do
  edit ← an_object d
  operation ← required (codes "op") operation_in edit
  name ← required (codes "name") text edit
  edit_of version operation name edit

-- ---- channels

-- a mark, in bytes
unfoldable pub mark_in : List ℕ → ℕ → Data → Result ℕ SessionFault
mark_in name default channel = with_default name (whole_in 0 MAX_MARK) default channel

-- how many bytes the transport accepts in one call
unfoldable pub window_in : Data → Result ℕ SessionFault
window_in channel = with_default (codes "window") (whole_in 1 MAX_WINDOW) DEFAULT_WINDOW channel

-- the call of the transport that fails, from 1, if one does
unfoldable pub fail_at_in : Data → Result (Option ℕ) SessionFault
fail_at_in channel = optional (codes "fail_at") (whole_in 1 MAX_FAIL_AT) channel

-- the bytes that hex digits say, of either case
abbrev pub hex_decoded : List ℕ → Result (List ℕ) SessionFault
hex_decoded digits = known Kind (result_ok (decode_of digits))

-- the number of a user event
unfoldable pub user_in : Data → Result ℕ SessionFault
user_in event = required (codes "user") (whole_in 0 MAX_USER_EVENT) event

-- the bytes of a chunk: in version 1 the UTF-8 bytes of a text, in version 2 those that its hex digits say
unfoldable pub chunk_in : Version → Data → Result (List ℕ) SessionFault
chunk_in One d = text d
chunk_in Two d = text d >>= hex_decoded

-- only version 2 knows user events
abbrev pub knows_user_events : Version → Bool
knows_user_events One = false
knows_user_events Two = true

-- an element of a burst: where user events are known an object is read as one, and all else as a chunk
unfoldable pub element_in : Version → Data → Result Element SessionFault
element_in version d =
    if knows_user_events version && is_some (as_object d) then (user_in d >>= λ number. Ok (User number))
    else (chunk_in version d >>= λ bytes. Ok (Chunk bytes))

-- the limits on elements and bytes come after all bursts
abbrev pub limited : Bursts → Result Bursts SessionFault
limited bursts = if fits bursts then Ok bursts else Err Limit

unfoldable pub bursts_in : Version → Data → Result Bursts SessionFault
bursts_in version d = array_in MAX_BURSTS (array_of (element_in version)) d >>= limited

-- after how many of the bursts it is aborted, if it is
unfoldable pub abort_after_in : ℕ → Data → Result (Option ℕ) SessionFault
abort_after_in count channel = optional (codes "abort_after") (whole_in 0 count) channel

unfoldable pub channel_in : Version → Data → Result ChannelOutline SessionFault
channel_in version d = do
  channel ← an_object d
  edits ← required (codes "handlers") (array_in MAX_EDITS (edit_in version)) channel
  low ← mark_in (codes "low") DEFAULT_LOW channel
  high ← mark_in (codes "high") DEFAULT_HIGH channel
  window ← window_in channel
  fail_at ← fail_at_in channel
  bursts ← required (codes "bursts") (bursts_in version) channel
  abort_after ← abort_after_in (length bursts) channel
  Ok (record { edits = edits; low = low; high = high; window = window; fail_at = fail_at; bursts = bursts; abort_after = abort_after })
