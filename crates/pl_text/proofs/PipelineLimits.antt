-- The handlers of a pipeline that is built are few, each of a built-in kind.
use Rattle.std.proofs.Common.{◌≡◌, ℕ, zero, ◌+◌, ◌<◌, ◌≤◌, Bool, true, false, cond, not, List, [], ◌∷◌, ◌++◌, length, take, drop, filter, suc, Option, Some, None, Ok, Err, refl, ap, subst, arith, length-append}
use Rattle.std.specs.Prelude.{All, is_some, if◌then◌else◌, nat_le, nat_lt, ◌||◌, insert, remove}
use Rattle.std.specs.List.{AllByRecursion, prefix_len}
use Rattle.std.specs.Option.{option_map_or}
use Rattle.std.proofs.lemmas.Bool.Decides.{nat_tests}
use Rattle.std.proofs.lemmas.List.{length-take, length-drop, length-reverse, take-append-drop}
use Rattle.std.proofs.lemmas.List.Filters.{length-filter_both}
use Rattle.std.proofs.lemmas.List.Elements.{All-nil, All-cons, All-append, All-take, All-drop, All-filter, All-map, All-weaker, filter_passes}
use Rattle.pl_event.specs.Meaning.{Meaning}
use Rattle.pl_event.specs.declared.stages.Direction.TheVariants.{Outbound}
use Rattle.pl_event.specs.Paths.{inbound_chain, outbound_chain, is_outbound, is_turn}
use Rattle.pl_event.proofs.Lists.{All-reverse}
use Rattle.pl_build.specs.declared.named_stages.NamedStage.{NamedStage}
use Rattle.pl_build.specs.declared.faults.BuildFault.{BuildFault}
use Rattle.pl_build.specs.declared.faults.BuildFault.TheVariants.{NoSuchName, Limit, Marks}
use Rattle.pl_build.specs.declared.limits.TheConstants.{MAX_HANDLERS, MAX_MARK}
use Rattle.pl_build.specs.Names.{is_name}
use Rattle.pl_build.specs.Pipelines.{index_of, without, meanings}
use Rattle.pl_build.specs.Refusals.{unless, naming_fault, beside_fault, marks_answer, building_fault}
use Rattle.pl_world.proofs.SmallLanes.{is_out}
use Rattle.pl_text.specs.declared.session_text.outline.HandlerKind.{HandlerKind}
use Rattle.pl_text.specs.declared.session_text.outline.HandlerKind.TheVariants.{Lines, Decode, LineEnd, Encode, Service, FlushEvery, Length, Prepend}
use Rattle.pl_text.specs.declared.session_text.outline.Addition.{Addition}
use Rattle.pl_text.specs.declared.session_text.outline.Edit.{Edit}
use Rattle.pl_text.specs.declared.session_text.outline.Edit.TheVariants.{First, Last, Before, After, Remove}
use Rattle.pl_text.specs.declared.session_text.outline.ChannelOutline.{ChannelOutline}
use Rattle.pl_text.specs.SessionOutlines.{IsHandlerWithin, IsEditWithin}
use Rattle.pl_text.specs.SessionHandlers.{meaning_of}
use Rattle.pl_text.specs.SessionBuilding.{made_unless, added, put_before, put_after, edited, all_edited, pipeline_built}
use Rattle.pl_stages.specs.Counts.{IsThrifty}
use Rattle.pl_stages.specs.Thrift.{line_framing-thrifty, command_decoding-thrifty, line_ending-thrifty, reply_encoding-thrifty, line_service-thrifty, flush_every-thrifty, length_framing-thrifty, length_prepending-thrifty}
use Rattle.pl_text.proofs.SessionLimitLaws.{bind-ok, choice-ok}

meaning_thrifty : (kind : HandlerKind) → IsHandlerWithin kind → IsThrifty (meaning_of kind)
meaning_thrifty (Lines max) within = line_framing-thrifty max
meaning_thrifty Decode within = command_decoding-thrifty
meaning_thrifty LineEnd within = line_ending-thrifty
meaning_thrifty Encode within = reply_encoding-thrifty
meaning_thrifty Service within = line_service-thrifty
meaning_thrifty (FlushEvery n) within = flush_every-thrifty n
meaning_thrifty (Length width max) within = length_framing-thrifty width max within.0
meaning_thrifty (Prepend width) within = length_prepending-thrifty width

abbrev IsBuiltIn : NamedStage Meaning → Type 0
IsBuiltIn handler = IsThrifty handler.stage

-- few handlers, each of a built-in kind
pub record AreWithin (handlers : List (NamedStage Meaning)) : Type 0 where
  pub built_in : All IsBuiltIn handlers
  pub at_most : length handlers ≤ MAX_HANDLERS

-- ---- edits

unless-ok : {A : Type 0} (o : Option BuildFault) (made got : A) → made_unless o made ≡ Ok got → (o ≡ None) × (made ≡ got)
unless-ok None made got e = (refl, cc)
unless-ok (Some f) made got e = cc

room_by : (named full : Bool) (o : Option BuildFault) → (if not named || full then Some Limit else o) ≡ None → full ≡ false
room_by true true o e = cc
room_by true false o e = refl
room_by false full o e = cc

room : (name : List ℕ) (handlers : List (NamedStage Meaning)) → naming_fault name handlers ≡ None → length handlers < MAX_HANDLERS
room name handlers e =
    let full : nat_le MAX_HANDLERS (length handlers) ≡ false = room_by (is_name name) (nat_le MAX_HANDLERS (length handlers)) _ e in
    grind (arith, nat_tests)

naming_of : (naming : Option BuildFault) (there : Bool) → (if is_some naming then naming else if there then None else Some NoSuchName) ≡ None → naming ≡ None
naming_of None there e = refl
naming_of (Some f) there e = cc

added_within : (a : Addition) → IsHandlerWithin a.handler → IsBuiltIn (added a)
added_within a is = meaning_thrifty a.handler is

insert_within : (handlers : List (NamedStage Meaning)) (index : ℕ) (a : Addition) → IsHandlerWithin a.handler → AreWithin handlers → length handlers < MAX_HANDLERS → AreWithin (insert handlers index (added a))
insert_within handlers index a is within free = record {
  built_in = All-append IsBuiltIn (take index handlers) (added a ∷ drop index handlers) (All-take IsBuiltIn index handlers within.built_in)
      (All-cons IsBuiltIn (added a) (drop index handlers) (added_within a is) (All-drop IsBuiltIn index handlers within.built_in));
  at_most = omega (arith, length-append (take index handlers) (added a ∷ drop index handlers), ap (λ (hs : List (NamedStage Meaning)). length hs) (take-append-drop index handlers), length-append (take index handlers) (drop index handlers));
}

insert_at_within : (o : Option ℕ) (shift : ℕ → ℕ) (handlers : List (NamedStage Meaning)) (a : Addition) → IsHandlerWithin a.handler → AreWithin handlers → length handlers < MAX_HANDLERS
    → AreWithin (option_map_or (λ index. insert handlers (shift index) (added a)) o handlers)
insert_at_within None shift handlers a is within free = within
insert_at_within (Some index) shift handlers a is within free = insert_within handlers (shift index) a is within free

remove_within : (o : Option ℕ) (handlers : List (NamedStage Meaning)) → AreWithin handlers → AreWithin (option_map_or (λ index. remove handlers index) o handlers)
remove_within None handlers within = within
remove_within (Some index) handlers within = record {
  built_in = All-append IsBuiltIn (take index handlers) (drop (suc index) handlers) (All-take IsBuiltIn index handlers within.built_in) (All-drop IsBuiltIn (suc index) handlers within.built_in);
  at_most = omega (arith, within.at_most, length-append (take index handlers) (drop (suc index) handlers), length-take index handlers, length-drop (suc index) handlers);
}

edited-within : (handlers next : List (NamedStage Meaning)) (edit : Edit) → IsEditWithin edit → edited handlers edit ≡ Ok next → AreWithin handlers → AreWithin next
unfolding edited
edited-within handlers next (First a) is e within =
    let p = unless-ok (naming_fault a.name handlers) (added a ∷ handlers) next e in
    let free = room a.name handlers p.0 in
    subst AreWithin p.1 (record { built_in = All-cons IsBuiltIn (added a) handlers (added_within a is) within.built_in; at_most = omega (arith, free) })
edited-within handlers next (Last a) is e within =
    let p = unless-ok (naming_fault a.name handlers) (handlers ++ added a ∷ []) next e in
    let free = room a.name handlers p.0 in
    subst AreWithin p.1 (record {
      built_in = All-append IsBuiltIn handlers (added a ∷ []) within.built_in (All-cons IsBuiltIn (added a) [] (added_within a is) (All-nil IsBuiltIn));
      at_most = omega (arith, free, length-append handlers (added a ∷ []));
    })
edited-within handlers next (Before at a) is e within =
    let p = unless-ok (beside_fault at a.name handlers) (put_before at (added a) handlers) next e in
    let free = room a.name handlers (naming_of (naming_fault a.name handlers) (is_some (index_of at handlers)) p.0) in
    subst AreWithin p.1 (insert_at_within (index_of at handlers) (λ n. n) handlers a is within free)
edited-within handlers next (After at a) is e within =
    let p = unless-ok (beside_fault at a.name handlers) (put_after at (added a) handlers) next e in
    let free = room a.name handlers (naming_of (naming_fault a.name handlers) (is_some (index_of at handlers)) p.0) in
    subst AreWithin p.1 (insert_at_within (index_of at handlers) (λ n. n + 1) handlers a is within free)
edited-within handlers next (Remove name) is e within =
    let p = choice-ok (is_some (index_of name handlers)) (without name handlers) next NoSuchName e in
    subst AreWithin p.1 (remove_within (index_of name handlers) handlers within)

all_edited-within : (handlers last : List (NamedStage Meaning)) (edits : List Edit) → AllByRecursion IsEditWithin edits → all_edited handlers edits ≡ Ok last → AreWithin handlers → AreWithin last
all_edited-within handlers last [] all e within = let is : handlers ≡ last = cc in subst AreWithin is within
all_edited-within handlers last (edit ∷ edits) all e within =
    let p = bind-ok (edited handlers edit) (λ next. all_edited next edits) last e in
    all_edited-within p.0 last edits all.1 p.2 (edited-within handlers p.0 edit all.0 p.1 within)

-- ---- marks

marks_by : (low high : Bool) (above : Bool) (u : Unit {0}) → (if low || high then Err Limit else if above then Err Marks else Ok tt) ≡ Ok u → (high ≡ false) × (above ≡ false)
marks_by true high above u e = cc
marks_by false true above u e = cc
marks_by false false true u e = cc
marks_by false false false u e = (refl, refl)

marks-within : (low high : ℕ) (u : Unit {0}) → marks_answer low high ≡ Ok u → (low ≤ high) × (high ≤ MAX_MARK)
marks-within low high u e =
    let p = marks_by (nat_lt MAX_MARK low) (nat_lt MAX_MARK high) (nat_lt high low) u e in
    (below high low p.1, below MAX_MARK high p.0)
  where
    below : (a b : ℕ) → nat_lt a b ≡ false → b ≤ a
    below a b e = grind (arith, nat_tests)

pub pipeline-within : (sizes : List (List ℕ × ℕ)) (channel : ChannelOutline) (handlers : List (NamedStage Meaning)) → AllByRecursion IsEditWithin channel.edits → pipeline_built sizes channel ≡ Ok handlers
    → AreWithin handlers × (channel.low ≤ channel.high) × (channel.high ≤ MAX_MARK)
unfolding pipeline_built
pipeline-within sizes channel handlers all e =
    let edits = bind-ok (all_edited [] channel.edits) _ handlers e in
    let marks = bind-ok (marks_answer channel.low channel.high) _ handlers edits.2 in
    let built = bind-ok (unless (building_fault (λ m. m) sizes edits.0)) _ handlers marks.2 in
    let is : edits.0 ≡ handlers = cc in
    let levels = marks-within channel.low channel.high marks.0 marks.1 in
    let within = all_edited-within [] edits.0 channel.edits all edits.1 (record { built_in = All-nil IsBuiltIn; at_most = omega arith }) in
    (subst AreWithin is within, levels.0, levels.1)

-- ---- chains

length-filter-take : (p : Meaning → Bool) (n : ℕ) (ms : List Meaning) → length (filter p (take n ms)) ≤ length (filter p ms)
length-filter-take p zero ms = omega arith
length-filter-take p (suc n) [] = omega arith
length-filter-take p (suc n) (m ∷ ms) =
    by (p m) (length-filter-take p n ms)
  where
    by : (b : Bool) → length (filter p (take n ms)) ≤ length (filter p ms) → length (cond b (m ∷ filter p (take n ms)) (filter p (take n ms))) ≤ length (cond b (m ∷ filter p ms) (filter p ms))
    by true h = omega (arith, h)
    by false h = h

abbrev outbound : Meaning → Bool
outbound m = is_outbound m.direction

abbrev inbound : Meaning → Bool
inbound m = not (is_outbound m.direction)

-- how many of the handlers stand before the turn
abbrev fronts : List Meaning → ℕ
fronts ms = prefix_len (λ m. not (is_turn m.direction)) ms

pub chains-length : (ms : List Meaning) → length (inbound_chain ms) + length (outbound_chain ms) ≤ length ms
chains-length ms =
    omega (arith, length-filter_both outbound inbound (λ m. refl) ms, length-filter-take outbound (fronts ms) ms, length-reverse (filter outbound (take (fronts ms) ms)))

pub inbound-all : (P : Meaning → Type 0) (ms : List Meaning) → All P ms → All P (inbound_chain ms)
inbound-all P ms all = All-filter inbound P ms all

pub outbound-all : (P : Meaning → Type 0) (ms : List Meaning) → All P ms → All P (outbound_chain ms)
outbound-all P ms all =
    All-reverse P (filter outbound (take (fronts ms) ms)) (All-filter outbound P (take (fronts ms) ms) (All-take P (fronts ms) ms all))

pub outbound-out : (ms : List Meaning) → All (λ m. m.direction ≡ Outbound) (outbound_chain ms)
outbound-out ms =
    All-reverse (λ (m : Meaning). m.direction ≡ Outbound) (filter outbound (take (fronts ms) ms))
    (All-weaker (λ (m : Meaning). outbound m ≡ true) (λ (m : Meaning). m.direction ≡ Outbound) (λ m e. is_out m.direction e) (filter outbound (take (fronts ms) ms)) (filter_passes outbound (take (fronts ms) ms)))

pub meanings-all : (handlers : List (NamedStage Meaning)) → AreWithin handlers → All IsThrifty (meanings (λ m. m) handlers)
meanings-all handlers within = All-map IsThrifty (λ (h : NamedStage Meaning). h.stage) handlers within.built_in
