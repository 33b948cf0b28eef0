-- What the members say is within the limits: each bind of a reading is taken apart at its Ok.
use Rattle.std.proofs.Common.{◌≡◌, ◌≤◌, ℕ, ◌&&◌, Bool, true, false, List, [], ◌∷◌, length, Option, Some, None, Result, Ok, Err, refl, ap, subst, arith, suc}
use Rattle.std.specs.Prelude.{nat_le, if◌then◌else◌, codes}
use Rattle.std.specs.List.{AllByRecursion}
use Rattle.std.proofs.lemmas.Bool.{le-leb, leb-true}
use Rattle.std.proofs.lemmas.Bool.Decides.{nat_tests}
use Rattle.serde_json.specs.Data.{Data}
use Rattle.serde_json.specs.Find.{get}
use Rattle.pl_event.specs.Inputs.{Bursts}
use Rattle.pl_build.specs.declared.limits.TheConstants.{MAX_EXECUTORS, DEFAULT_LOW, DEFAULT_HIGH}
use Rattle.pl_world.specs.declared.limits.TheConstants.{MAX_BURSTS, MAX_CAPACITY, MAX_CHANNELS}
use Rattle.pl_stages.specs.declared.limits.TheConstants.{MAX_LINE, MAX_FLUSHES, MAX_FRAME}
use Rattle.pl_stages.specs.LengthFraming.{is_width}
use Rattle.pl_text.specs.declared.session_text.limits.TheConstants.{MAX_EDITS, MAX_WINDOW, MAX_FAIL_AT, DEFAULT_WINDOW}
use Rattle.pl_world.specs.Limits.{fits, aborts_within}
use Rattle.pl_text.specs.declared.session_text.version.Version.{Version}
use Rattle.pl_text.specs.declared.session_text.outline.HandlerKind.{HandlerKind}
use Rattle.pl_text.specs.declared.session_text.outline.HandlerKind.TheVariants.{Lines, Decode, LineEnd, Encode, Service, FlushEvery, Length, Prepend}
use Rattle.pl_text.specs.declared.session_text.outline.Operation.{Operation}
use Rattle.pl_text.specs.declared.session_text.outline.Operation.TheVariants as operation
use Rattle.pl_text.specs.declared.faults.SessionFault.{SessionFault}
use Rattle.pl_text.specs.declared.faults.SessionFault.TheVariants.{Missing, Kind}
use Rattle.pl_text.specs.declared.session_text.outline.Addition.{Addition}
use Rattle.pl_text.specs.declared.session_text.outline.Edit.{Edit}
use Rattle.pl_text.specs.declared.session_text.outline.Edit.TheVariants.{First, Last, Before, After, Remove}
use Rattle.pl_text.specs.declared.session_text.outline.ChannelOutline.{ChannelOutline}
use Rattle.pl_text.specs.declared.session_text.outline.Outline.{Outline}
use Rattle.pl_text.specs.SessionReading.{◌>>=◌, known, whole, whole_in, between, text, an_object, required, optional, present, read_or, each, elements_of, of_at_most, array_in, array_of}
use Rattle.pl_text.specs.SessionChannels.{operation_in, lines_in, flush_every_in, known_width, width_in, length_in, prepend_in, handler_named, handler_in, addition_in, edit_of, edit_in, mark_in, window_in, fail_at_in, element_in, limited, bursts_in, abort_after_in, channel_in}
use Rattle.pl_text.specs.SessionOutlines.{IsHandlerWithin, IsEditWithin, IsCallWithin, IsChannelOutlineWithin, IsOutlineWithin, version_in, groups_in, outline_in}

-- ---- results

pub bind-ok : {A B F : Type 0} (r : Result A F) (f : A → Result B F) (y : B) → (r >>= f) ≡ Ok y → (x : A) × (r ≡ Ok x) × (f x ≡ Ok y)
bind-ok (Ok x) f y h = (x, refl, h)
bind-ok (Err e) f y h = cc

same_ok : {A F : Type 0} (x y : A) (r : Result A F) → r ≡ Ok x → r ≡ Ok y → x ≡ y
same_ok x y r p q = cc

pub choice-ok : {A F : Type 0} (test : Bool) (x y : A) (e : F) → (if test then Ok x else Err e) ≡ Ok y → (test ≡ true) × (x ≡ y)
choice-ok true x y e h = (refl, cc)
choice-ok false x y e h = cc

both_le : (a b c d : ℕ) → (nat_le a b && nat_le c d) ≡ true → (a ≤ b) × (c ≤ d)
both_le a b c d h = grind (arith, nat_tests)

whole_in-within : (low high : ℕ) (d : Data) (n : ℕ) → whole_in low high d ≡ Ok n → (low ≤ n) × (n ≤ high)
unfolding whole_in
whole_in-within low high d n h =
    let p = bind-ok (whole d) (between low high) n h in
    let q = choice-ok _ _ _ _ p.2 in
    subst (λ (m : ℕ). (low ≤ m) × (m ≤ high)) q.1 (both_le _ _ _ _ q.0)

-- ---- arrays

any_is_any : {A : Type 0} (xs : List A) → AllByRecursion (λ _. Unit {0}) xs
any_is_any [] = tt
any_is_any (x ∷ xs) = (tt, any_is_any xs)

each-within : {A B F : Type 0} (Q : A → Type 0) (P : B → Type 0) (read : A → Result B F) → ((d : A) (x : B) → Q d → read d ≡ Ok x → P x) → (ds : List A) (xs : List B) → AllByRecursion Q ds → each read ds ≡ Ok xs → AllByRecursion P xs × (length xs ≡ length ds)
each-within {B} Q P read holds [] xs given h =
    let e : [] ≡ xs = cc in
    subst (λ (ys : List B). AllByRecursion P ys × (length ys ≡ 0)) e (tt, refl)
each-within {B} Q P read holds (d ∷ ds) xs given h =
    let first = bind-ok (read d) _ xs h in
    let others = bind-ok (each read ds) _ xs first.2 in
    let rest = each-within Q P read holds ds others.0 given.1 others.1 in
    let e : first.0 ∷ others.0 ≡ xs = cc in
    subst (λ (ys : List B). AllByRecursion P ys × (length ys ≡ length (d ∷ ds))) e ((holds d first.0 given.0 first.1, rest.0), ap suc rest.1)

array_in-within : {A : Type 0} (P : A → Type 0) (most : ℕ) (read : Data → Result A SessionFault) → ((d : Data) (x : A) → read d ≡ Ok x → P x) → (d : Data) (xs : List A) → array_in most read d ≡ Ok xs → (length xs ≤ most) × AllByRecursion P xs
array_in-within P most read holds d xs h =
    let p = bind-ok (elements_of d >>= of_at_most most) (each read) xs h in
    let q = bind-ok (elements_of d) (of_at_most most) p.0 p.1 in
    let room = choice-ok _ _ _ _ q.2 in
    let length_is : length p.0 ≤ most = subst (λ (ds : List Data). length ds ≤ most) room.1 (leb-true _ most room.0) in
    let all = each-within (λ _. Unit {0}) P read (λ e x _ is. holds e x is) p.0 xs (any_is_any p.0) p.2 in
    (omega (arith, all.1, length_is), all.0)

required-ok : {A : Type 0} (name : List ℕ) (read : Data → Result A SessionFault) (d : Data) (x : A) → required name read d ≡ Ok x → (e : Data) × (read e ≡ Ok x)
required-ok name read d x h = let p = bind-ok (known Missing (get name d)) read x h in (p.0, p.2)

-- ---- edits

number-within : (name : List ℕ) (low high : ℕ) (d : Data) (n : ℕ) → required name (whole_in low high) d ≡ Ok n → (low ≤ n) × (n ≤ high)
number-within name low high d n h =
    let number = required-ok name (whole_in low high) d n h in
    whole_in-within low high number.0 n number.1

-- a kind that is read there, or else one of those after it
kind-within : (test : Bool) (here after : Result HandlerKind SessionFault) (handler : HandlerKind)
    → (here ≡ Ok handler → IsHandlerWithin handler) → (after ≡ Ok handler → IsHandlerWithin handler) → (if test then here else after) ≡ Ok handler → IsHandlerWithin handler
kind-within true here after handler is others h = is h
kind-within false here after handler is others h = others h

-- a kind with no number of its own
alone-within : (kind handler : HandlerKind) (read : Result HandlerKind SessionFault) → IsHandlerWithin kind → read ≡ Ok kind → read ≡ Ok handler → IsHandlerWithin handler
alone-within kind handler read within is h = subst IsHandlerWithin (same_ok kind handler read is h) within

no_kind-within : (handler : HandlerKind) (read : Result HandlerKind SessionFault) → read ≡ Err Kind → read ≡ Ok handler → IsHandlerWithin handler
no_kind-within handler read is h = cc

lines-within : (edit : Data) (handler : HandlerKind) → lines_in edit ≡ Ok handler → IsHandlerWithin handler
lines-within edit handler h =
    let max = bind-ok (required (codes "max") (whole_in 1 MAX_LINE) edit) _ handler h in
    let is : Lines max.0 ≡ handler = cc in
    subst IsHandlerWithin is (number-within (codes "max") 1 MAX_LINE edit max.0 max.1)

flush_every-within : (edit : Data) (handler : HandlerKind) → flush_every_in edit ≡ Ok handler → IsHandlerWithin handler
flush_every-within edit handler h =
    let n = bind-ok (required (codes "n") (whole_in 1 MAX_FLUSHES) edit) _ handler h in
    let is : FlushEvery n.0 ≡ handler = cc in
    subst IsHandlerWithin is (number-within (codes "n") 1 MAX_FLUSHES edit n.0 n.1)

width-within : (edit : Data) (width : ℕ) → required (codes "width") width_in edit ≡ Ok width → is_width width ≡ true
unfolding width_in
width-within edit width h =
    let value = required-ok (codes "width") width_in edit width h in
    let number = bind-ok (whole value.0) known_width width value.1 in
    let known = choice-ok _ _ _ _ number.2 in
    subst (λ (n : ℕ). is_width n ≡ true) known.1 known.0

length-within : (edit : Data) (handler : HandlerKind) → length_in edit ≡ Ok handler → IsHandlerWithin handler
length-within edit handler h =
    let width = bind-ok (required (codes "width") width_in edit) _ handler h in
    let max = bind-ok (required (codes "max") (whole_in 1 MAX_FRAME) edit) _ handler width.2 in
    let is : Length width.0 max.0 ≡ handler = cc in
    let range = number-within (codes "max") 1 MAX_FRAME edit max.0 max.1 in
    subst IsHandlerWithin is (width-within edit width.0 width.1, range.0, range.1)

prepend-within : (edit : Data) (handler : HandlerKind) → prepend_in edit ≡ Ok handler → IsHandlerWithin handler
prepend-within edit handler h =
    let width = bind-ok (required (codes "width") width_in edit) _ handler h in
    let is : Prepend width.0 ≡ handler = cc in
    subst IsHandlerWithin is (width-within edit width.0 width.1)

handler_in-within : (version : Version) (edit : Data) (handler : HandlerKind) → handler_in version edit ≡ Ok handler → IsHandlerWithin handler
unfolding handler_in
handler_in-within version edit handler h =
    let kind = bind-ok (required (codes "kind") text edit) (handler_named version edit) handler h in
    kind-within _ _ _ handler (lines-within edit handler)
    (kind-within _ _ _ handler (alone-within Decode handler (Ok Decode) tt refl)
    (kind-within _ _ _ handler (alone-within LineEnd handler (Ok LineEnd) tt refl)
    (kind-within _ _ _ handler (alone-within Encode handler (Ok Encode) tt refl)
    (kind-within _ _ _ handler (alone-within Service handler (Ok Service) tt refl)
    (kind-within _ _ _ handler (flush_every-within edit handler)
    (kind-within _ _ _ handler (length-within edit handler)
    (kind-within _ _ _ handler (prepend-within edit handler)
    (no_kind-within handler (Err Kind) refl)))))))) kind.2

addition_in-within : (version : Version) (name : List ℕ) (edit : Data) (addition : Addition) → addition_in version name edit ≡ Ok addition → IsHandlerWithin addition.handler
unfolding addition_in
addition_in-within version name edit addition h =
    let handler = bind-ok (handler_in version edit) _ addition h in
    let group = bind-ok (optional (codes "group") text edit) _ addition handler.2 in
    let is : handler.0 ≡ addition.handler = cc in
    subst IsHandlerWithin is (handler_in-within version edit handler.0 handler.1)

edit_of-within : (version : Version) (o : Operation) (name : List ℕ) (d : Data) (edit : Edit) → edit_of version o name d ≡ Ok edit → IsEditWithin edit
unfolding edit_of
edit_of-within version operation.First name d edit h =
    let addition = bind-ok (addition_in version name d) _ edit h in
    let is : First addition.0 ≡ edit = cc in
    subst IsEditWithin is (addition_in-within version name d addition.0 addition.1)
edit_of-within version operation.Last name d edit h =
    let addition = bind-ok (addition_in version name d) _ edit h in
    let is : Last addition.0 ≡ edit = cc in
    subst IsEditWithin is (addition_in-within version name d addition.0 addition.1)
edit_of-within version operation.Before name d edit h =
    let at = bind-ok (required (codes "at") text d) _ edit h in
    let addition = bind-ok (addition_in version name d) _ edit at.2 in
    let is : Before at.0 addition.0 ≡ edit = cc in
    subst IsEditWithin is (addition_in-within version name d addition.0 addition.1)
edit_of-within version operation.After name d edit h =
    let at = bind-ok (required (codes "at") text d) _ edit h in
    let addition = bind-ok (addition_in version name d) _ edit at.2 in
    let is : After at.0 addition.0 ≡ edit = cc in
    subst IsEditWithin is (addition_in-within version name d addition.0 addition.1)
edit_of-within version operation.Remove name d edit h =
    let is : Remove name ≡ edit = cc in
    subst IsEditWithin is tt

edit_in-within : (version : Version) (d : Data) (edit : Edit) → edit_in version d ≡ Ok edit → IsEditWithin edit
unfolding edit_in
edit_in-within version d edit h =
    let object = bind-ok (an_object d) _ edit h in
    let op = bind-ok (required (codes "op") operation_in object.0) _ edit object.2 in
    let name = bind-ok (required (codes "name") text object.0) _ edit op.2 in
    edit_of-within version op.0 name.0 object.0 edit name.2

-- ---- channels

with_default-within : {A : Type 0} (Q : A → Type 0) (read : Data → Result A SessionFault) (default : A) (d : Option Data) (x : A)
    → Q default → ((e : Data) (y : A) → read e ≡ Ok y → Q y) → read_or read default d ≡ Ok x → Q x
with_default-within Q read default None x is each h = let same : default ≡ x = cc in subst Q same is
with_default-within Q read default (Some d) x is each h = each d x h

window_in-within : (d : Data) (window : ℕ) → window_in d ≡ Ok window → (1 ≤ window) × (window ≤ MAX_WINDOW)
unfolding window_in
window_in-within d window h =
    with_default-within (λ (n : ℕ). (1 ≤ n) × (n ≤ MAX_WINDOW)) (whole_in 1 MAX_WINDOW) DEFAULT_WINDOW (present (codes "window") d) window (omega arith, omega arith) (whole_in-within 1 MAX_WINDOW) h

bursts_in-within : (version : Version) (d : Data) (bursts : Bursts) → bursts_in version d ≡ Ok bursts → fits bursts ≡ true
unfolding bursts_in
bursts_in-within version d bursts h =
    let p = bind-ok (array_in MAX_BURSTS (array_of (element_in version)) d) limited bursts h in
    let within = choice-ok _ _ _ _ p.2 in
    subst (λ (t : Bursts). fits t ≡ true) within.1 within.0

-- a number of which there may be none
optional-within : (Q : Option ℕ → Type 0) (name : List ℕ) (low high : ℕ) (d : Data) (number : Option ℕ)
    → Q None → ((n : ℕ) → low ≤ n → n ≤ high → Q (Some n)) → optional name (whole_in low high) d ≡ Ok number → Q number
optional-within Q name low high d number none some h =
    with_default-within Q (λ member. whole_in low high member >>= λ x. Ok (Some x)) None (present name d) number none
    (λ e y is.
    let p = bind-ok (whole_in low high e) _ y is in
    let range = whole_in-within low high e p.0 p.1 in
    let same : Some p.0 ≡ y = cc in
    subst Q same (some p.0 range.0 range.1))
    h

fail_at_in-within : (d : Data) (call : Option ℕ) → fail_at_in d ≡ Ok call → IsCallWithin call
unfolding fail_at_in
fail_at_in-within d call h = optional-within IsCallWithin (codes "fail_at") 1 MAX_FAIL_AT d call tt (λ n low high. (low, high)) h

abort_after_in-within : (count : ℕ) (d : Data) (after : Option ℕ) → abort_after_in count d ≡ Ok after → aborts_within after count ≡ true
unfolding abort_after_in
abort_after_in-within count d after h =
    optional-within (λ (o : Option ℕ). aborts_within o count ≡ true) (codes "abort_after") 0 count d after refl (λ n low high. le-leb n count high) h

channel_in-within : (version : Version) (d : Data) (channel : ChannelOutline) → channel_in version d ≡ Ok channel → IsChannelOutlineWithin channel
unfolding channel_in
channel_in-within version d channel h =
    let object = bind-ok (an_object d) _ channel h in
    let edits = bind-ok (required (codes "handlers") (array_in MAX_EDITS (edit_in version)) object.0) _ channel object.2 in
    let low = bind-ok (mark_in (codes "low") DEFAULT_LOW object.0) _ channel edits.2 in
    let high = bind-ok (mark_in (codes "high") DEFAULT_HIGH object.0) _ channel low.2 in
    let window = bind-ok (window_in object.0) _ channel high.2 in
    let fail_at = bind-ok (fail_at_in object.0) _ channel window.2 in
    let bursts = bind-ok (required (codes "bursts") (bursts_in version) object.0) _ channel fail_at.2 in
    let abort_after = bind-ok (abort_after_in (length bursts.0) object.0) _ channel bursts.2 in
    let handlers = required-ok (codes "handlers") (array_in MAX_EDITS (edit_in version)) object.0 edits.0 edits.1 in
    let recorded = required-ok (codes "bursts") (bursts_in version) object.0 bursts.0 bursts.1 in
    let all = array_in-within IsEditWithin MAX_EDITS (edit_in version) (edit_in-within version) handlers.0 edits.0 handlers.1 in
    let room = window_in-within object.0 window.0 window.1 in
    let is : record { edits = edits.0; low = low.0; high = high.0; window = window.0; fail_at = fail_at.0; bursts = bursts.0; abort_after = abort_after.0 } ≡ channel = same_ok _ channel _ refl abort_after.2 in
    subst IsChannelOutlineWithin is (record {
      edits = all.1;
      window_at_least = room.0;
      window_at_most = room.1;
      fail_at = fail_at_in-within object.0 fail_at.0 fail_at.1;
      bursts = bursts_in-within version recorded.0 bursts.0 recorded.1;
      abort_after = abort_after_in-within (length bursts.0) object.0 abort_after.0 abort_after.1;
    })

-- ---- the top object

pub outline_is_within : (d : Data) (outline : Outline) → outline_in d ≡ Ok outline → IsOutlineWithin outline
unfolding outline_in
outline_is_within d outline h =
    let object = bind-ok (an_object d) _ outline h in
    let version = bind-ok (required (codes "version") version_in object.0) _ outline object.2 in
    let capacity = bind-ok (required (codes "capacity") (whole_in 1 MAX_CAPACITY) object.0) _ outline version.2 in
    let loops = bind-ok (required (codes "loops") (whole_in 1 MAX_EXECUTORS) object.0) _ outline capacity.2 in
    let groups = bind-ok (groups_in object.0) _ outline loops.2 in
    let channels = bind-ok (required (codes "channels") (array_in MAX_CHANNELS (channel_in version.0)) object.0) _ outline groups.2 in
    let array = required-ok (codes "channels") (array_in MAX_CHANNELS (channel_in version.0)) object.0 channels.0 channels.1 in
    let range = number-within (codes "capacity") 1 MAX_CAPACITY object.0 capacity.0 capacity.1 in
    let all = array_in-within IsChannelOutlineWithin MAX_CHANNELS (channel_in version.0) (channel_in-within version.0) array.0 channels.0 array.1 in
    let is : record { capacity = capacity.0; loops = loops.0; groups = groups.0; channels = channels.0 } ≡ outline = cc in
    subst IsOutlineWithin is (record { capacity_at_least = range.0; capacity_at_most = range.1; channels_at_most = all.0; each_channel = all.1 })
