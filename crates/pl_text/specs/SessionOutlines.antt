-- What the members of a session say, row by row (docs/FORMATS.md, "Session").
use Rattle.std.specs.Prelude.{◌≡◌, ◌≤◌, ℕ, ◌==◌, List, [], length, true, if◌then◌else◌, Option, IfSome, Result, Ok, Err, codes}
use Rattle.std.specs.List.{AllByRecursion}
use Rattle.serde_json.specs.Data.{Data}
use Rattle.pl_build.specs.declared.limits.TheConstants.{MAX_EXECUTORS}
use Rattle.pl_world.specs.declared.limits.TheConstants.{MAX_CAPACITY, MAX_CHANNELS}
use Rattle.pl_world.specs.Limits.{fits, aborts_within}
use Rattle.pl_stages.specs.declared.limits.TheConstants.{MAX_LINE, MAX_FLUSHES, MAX_FRAME}
use Rattle.pl_stages.specs.LengthFraming.{is_width}
use Rattle.pl_text.specs.declared.session_text.limits.TheConstants.{MAX_GROUP_SIZE, MAX_WINDOW, MAX_FAIL_AT}
use Rattle.pl_text.specs.declared.faults.SessionFault.{SessionFault}
use Rattle.pl_text.specs.declared.faults.SessionFault.TheVariants as fault
use Rattle.pl_text.specs.declared.session_text.version.Version.{Version}
use Rattle.pl_text.specs.declared.session_text.version.Version.TheVariants.{One, Two}
use Rattle.pl_text.specs.declared.session_text.outline.HandlerKind.{HandlerKind}
use Rattle.pl_text.specs.declared.session_text.outline.HandlerKind.TheVariants.{Lines, Decode, LineEnd, Encode, Service, FlushEvery, Length, Prepend}
use Rattle.pl_text.specs.declared.session_text.outline.Edit.{Edit}
use Rattle.pl_text.specs.declared.session_text.outline.Edit.TheVariants.{First, Last, Before, After, Remove}
use Rattle.pl_text.specs.declared.session_text.outline.ChannelOutline.{ChannelOutline}
use Rattle.pl_text.specs.declared.session_text.outline.GroupOutline.{GroupOutline}
use Rattle.pl_text.specs.declared.session_text.outline.Outline.{Outline}
use Rattle.pl_text.specs.SessionReading.{◌>>=◌, whole, whole_in, text, an_object, required, with_default, array_in, array_of}
use Rattle.pl_text.specs.SessionChannels.{channel_in}

-- ---- the members

abbrev pub known_version : ℕ → Result Version SessionFault
known_version n = if n == 1 then Ok One else if n == 2 then Ok Two else Err fault.Version

unfoldable pub version_in : Data → Result Version SessionFault
version_in d = whole d >>= known_version

unfoldable pub group_in : Data → Result GroupOutline SessionFault
group_in d = do
  group ← an_object d
  name ← required (codes "name") text group
  size ← required (codes "size") (whole_in 0 MAX_GROUP_SIZE) group
  Ok (record { name = name; size = size })

unfoldable pub groups_in : Data → Result (List GroupOutline) SessionFault
groups_in top = with_default (codes "groups") (array_of group_in) [] top

unfoldable pub outline_in : Data → Result Outline SessionFault
outline_in d = do
  top ← an_object d
  version ← required (codes "version") version_in top
  capacity ← required (codes "capacity") (whole_in 1 MAX_CAPACITY) top
  loops ← required (codes "loops") (whole_in 1 MAX_EXECUTORS) top
  groups ← groups_in top
  channels ← required (codes "channels") (array_in MAX_CHANNELS (channel_in version)) top
  Ok (record { capacity = capacity; loops = loops; groups = groups; channels = channels })

-- ---- their limits

-- a handler's own numbers are in their ranges
abbrev pub IsHandlerWithin : HandlerKind → Type 0
IsHandlerWithin (Lines max) = (1 ≤ max) × (max ≤ MAX_LINE)
IsHandlerWithin Decode = Unit {0}
IsHandlerWithin LineEnd = Unit {0}
IsHandlerWithin Encode = Unit {0}
IsHandlerWithin Service = Unit {0}
IsHandlerWithin (FlushEvery n) = (1 ≤ n) × (n ≤ MAX_FLUSHES)
IsHandlerWithin (Length width max) = (is_width width ≡ true) × (1 ≤ max) × (max ≤ MAX_FRAME)
IsHandlerWithin (Prepend width) = is_width width ≡ true

abbrev pub IsEditWithin : Edit → Type 0
IsEditWithin (First addition) = IsHandlerWithin addition.handler
IsEditWithin (Last addition) = IsHandlerWithin addition.handler
IsEditWithin (Before at addition) = IsHandlerWithin addition.handler
IsEditWithin (After at addition) = IsHandlerWithin addition.handler
IsEditWithin (Remove name) = Unit {0}

-- the number of a call, where there is one
abbrev pub IsCallWithin : Option ℕ → Type 0
IsCallWithin call = IfSome call (λ n. (1 ≤ n) × (n ≤ MAX_FAIL_AT))

pub record IsChannelOutlineWithin (channel : ChannelOutline) : Type 0 where
  pub edits : AllByRecursion IsEditWithin channel.edits
  pub window_at_least : 1 ≤ channel.window
  pub window_at_most : channel.window ≤ MAX_WINDOW
  pub fail_at : IsCallWithin channel.fail_at
  pub bursts : fits channel.bursts ≡ true
  pub abort_after : aborts_within channel.abort_after (length channel.bursts) ≡ true

pub record IsOutlineWithin (outline : Outline) : Type 0 where
  pub capacity_at_least : 1 ≤ outline.capacity
  pub capacity_at_most : outline.capacity ≤ MAX_CAPACITY
  pub channels_at_most : length outline.channels ≤ MAX_CHANNELS
  pub each_channel : AllByRecursion IsChannelOutlineWithin outline.channels
