-- A member that is taken out leaves the others.
use Rattle.std.proofs.Common.{◌≡◌, ℕ, Bool, true, false, true≢false, List, [], ◌∷◌, cond, Option, Some, None, option_map, Ordering, Less, Equal, Greater, refl, sym, ap, ◌∙◌, String, BTreeMap, Global, string_bytes, nat_cmp, is_eq, bytes_eq}
use Rattle.std.specs.Prelude.{if◌then◌else◌}
use Rattle.std.specs.Cmp.Lexicographic.{slice_cmp}
use Rattle.std.specs.Ordering.{match_ordering}
use Rattle.std.specs.BTreeMap.{is_at, get_by_text}
use Rattle.std.specs.Map.{remove_entry}
use Rattle.std.proofs.lemmas.Map.Text.{is_eq-slice_cmp}
use Rattle.std.proofs.lemmas.Slice.Eq.{bytes_eq-Decides}
use Rattle.serde_json.specs.Data.{Data, null, boolean, number, string, array, object, Members, no_members, member}
use Rattle.serde_json.specs.Find.{get, get_member, as_object}
use Rattle.serde_json.specs.View.{view, members_view}
use Rattle.serde_json.specs.declared.value.Value.{Value, Object}
use Rattle.serde_json.proofs.Views.{Entry, view-Object, view-lookup}
use Rattle.pl_text.specs.SessionMembers.{except, members_except}

-- ---- an object, and what is none

same_members : (ms ns : Members) → Some ms ≡ Some ns → ms ≡ ns
same_members ms ns e = cc

is_object : (d : Data) (ms : Members) → Some ms ≡ as_object d → d ≡ object ms
is_object (object ns) ms e = ap (λ (l : Members). object l) (sym (same_members ms ns e))
is_object null ms e = cc
is_object (boolean b) ms e = cc
is_object (number n) ms e = cc
is_object (string s) ms e = cc
is_object (array ds) ms e = cc

-- where there are no members none is found, and none is taken
pub no_members_in : (d : Data) (name : List ℕ) → None ≡ as_object d → (None ≡ get name d) × (d ≡ except name d)
unfolding except
no_members_in (object ms) name e = cc
no_members_in null name e = (refl, refl)
no_members_in (boolean b) name e = (refl, refl)
no_members_in (number n) name e = (refl, refl)
no_members_in (string s) name e = (refl, refl)
no_members_in (array ds) name e = (refl, refl)

-- ---- what a map has and leaves

pub found_in : (members : BTreeMap (String Global) Value) (d : Data) (name : List ℕ) → Some (members_view members.entries) ≡ as_object d
    → option_map view (get_by_text members name) ≡ get name d
found_in members d name e = view-lookup name members.entries ∙ ap (get name) (sym (is_object d (members_view members.entries) e))

view_choice : (here : Bool) (xs ys : List Entry) (ms : Members) → members_view ys ≡ ms → members_view (cond here xs ys) ≡ (if here then members_view xs else ms)
view_choice true xs ys ms e = refl
view_choice false xs ys ms e = e

entries_left : (name : List ℕ) (es : List Entry) → members_view (remove_entry (is_at (λ key. slice_cmp nat_cmp name (string_bytes key))) es) ≡ members_except name (members_view es)
entries_left name [] = refl
entries_left name (e ∷ es) =
    view_choice (is_eq (slice_cmp nat_cmp name (string_bytes e.0))) es _ _ (ap (member (string_bytes e.0) (view e.1)) (entries_left name es))
    ∙ ap (λ (here : Bool). if here then members_view es else member (string_bytes e.0) (view e.1) (members_except name (members_view es))) (is_eq-slice_cmp name (string_bytes e.0))

pub left_in : (old new : BTreeMap (String Global) Value) (d : Data) (name : List ℕ) → Some (members_view old.entries) ≡ as_object d
    → new.entries ≡ remove_entry (is_at (λ key. slice_cmp nat_cmp name (string_bytes key))) old.entries → view (Object new) ≡ except name d
unfolding except
left_in old new d name e removed =
    view-Object new ∙ ap (λ (ms : Members). object ms) (ap members_view removed ∙ entries_left name old.entries) ∙ ap (except name) (sym (is_object d (members_view old.entries) e))

-- ---- what is found in it

passes : (o : Ordering) (rest here : Option Data) → is_eq o ≡ false → match_ordering o rest here rest ≡ rest
passes Less rest here e = refl
passes Equal rest here e = absurd (true≢false e)
passes Greater rest here e = refl

found_past : (here : Bool) (name other key : List ℕ) (d : Data) (ms : Members) → bytes_eq name key ≡ here → bytes_eq other name ≡ false
    → get_member other (members_except name ms) ≡ get_member other ms → get_member other (if here then ms else member key d (members_except name ms)) ≡ get_member other (member key d ms)
found_past true name other key d ms is apart rest =
    let same : name ≡ key = (bytes_eq-Decides name key).0 is in
    sym (passes (slice_cmp nat_cmp other key) _ _ (is_eq-slice_cmp other key ∙ ap (bytes_eq other) (sym same) ∙ apart))
found_past false name other key d ms is apart rest = ap (λ (r : Option Data). match_ordering (slice_cmp nat_cmp other key) r (Some d) r) rest

get_member_except : (ms : Members) (name other : List ℕ) → bytes_eq other name ≡ false → get_member other (members_except name ms) ≡ get_member other ms
get_member_except no_members name other apart = refl
get_member_except (member key d ms) name other apart = found_past (bytes_eq name key) name other key d ms refl apart (get_member_except ms name other apart)

-- the other members stay
pub get_except : (d : Data) (name other : List ℕ) → bytes_eq other name ≡ false → get other (except name d) ≡ get other d
unfolding except
get_except null name other apart = refl
get_except (boolean b) name other apart = refl
get_except (number n) name other apart = refl
get_except (string s) name other apart = refl
get_except (array ds) name other apart = refl
get_except (object ms) name other apart = get_member_except ms name other apart
