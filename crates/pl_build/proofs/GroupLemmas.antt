-- Groups of executors: what is asked of them, what placing leaves, and that it goes by the count of earlier pipelines.
use Rattle.std.proofs.Common.{◌≡◌, ℕ, ◌+◌, ◌%◌, ◌<◌, ◌≤◌, Bool, true, false, ◌&&◌, ◌||◌, not, cond, leb, List, [], ◌∷◌, ◌++◌, length, take, drop, map, sum_by, get_or, Option, None, Some, sym, refl, ap, ◌∙◌, subst, arith, add-one}
use Rattle.std.specs.Prelude.{All, count_by, nat_le, find}
use Rattle.std.specs.Borrow.{Bor}
use Rattle.std.specs.List.{list_any, list_all, take_while}
use Rattle.std.specs.Option.{option_map_or}
use Rattle.std.specs.Str.{bytes_eq}
use Rattle.std.proofs.Math.Nat.{mod-lt, zero-mod, suc-mod}
use Rattle.std.proofs.lemmas.Bool.{le-leb, lt-leb, leb-true, and_parts}
use Rattle.std.proofs.lemmas.List.{take_all, length-append, length-map, take-append-le}
use Rattle.std.proofs.lemmas.List.Elements.{All-map, All-weaker, All-head, All-tail}
use Rattle.std.proofs.lemmas.List.Folds.{list_all-map}
use Rattle.std.proofs.lemmas.List.Sums.{sum_by_more_le, sum_by_push, sum_by-cons, take_while-cons, AllPass-from_list_all}
use Rattle.std.proofs.lemmas.Slice.Eq.{bytes_eq-Decides}
use Rattle.pl_build.specs.declared.limits.TheConstants.{MAX_EXECUTORS}
use Rattle.std.proofs.lemmas.Simd.{map-map}
use Rattle.pl_event.proofs.Lists.{list_any-map, sum_by-map}
use Rattle.pl_build.specs.Names.{is_name, names_and_sizes}
use Rattle.pl_build.specs.Refusals.{executor_count, has_double, are_groups_within, grouping_fault, is_known}
use Rattle.pl_build.specs.Executors.{GroupsView, IsGrouping, HasPlaced, sizes_of, uses, first_executor, size_of, executor_after}
use Rattle.pl_build.specs.Counts.{group_after, groups_after, grouping_after, executor_from, executor_now}
use Rattle.pl_build.specs.declared.grouping.Group.{Group}
use Rattle.pl_build.specs.declared.faults.BuildFault.{BuildFault}
use Rattle.pl_build.specs.declared.faults.BuildFault.TheVariants.{Limit, DuplicateName}

-- a group's name and size
abbrev pub entry : Group → List ℕ × ℕ
entry group = (group.name, group.size)

-- ---- what is asked of new groups

count-given : (loops : ℕ) (groups : List (Bor (List ℕ) × ℕ)) → executor_count loops (names_and_sizes groups) ≡ loops + sum_by (λ group. group.1) groups
count-given loops groups = ap (λ (n : ℕ). loops + n) (sum_by-map (λ (p : List ℕ × ℕ). p.1) (λ (g : Bor (List ℕ) × ℕ). (g.0.now, g.1)) groups)

pub too_many : (loops left i : ℕ) (groups : List (Bor (List ℕ) × ℕ)) (d : Bor (List ℕ) × ℕ) → i < length groups → loops + sum_by (λ group. group.1) (take i groups) + left ≡ MAX_EXECUTORS → left < (get_or groups i d).1 → false ≡ leb (executor_count loops (names_and_sizes groups)) MAX_EXECUTORS
too_many loops left i groups d within sum more =
    let count = count-given loops groups in
    let part = sum_by_more_le (λ (g : Bor (List ℕ) × ℕ). g.1) groups i d within in
    sym (lt-leb (executor_count loops (names_and_sizes groups)) MAX_EXECUTORS (omega (arith, count, part)))

pub few : (loops left i : ℕ) (groups : List (Bor (List ℕ) × ℕ)) → length groups ≤ i → loops + sum_by (λ group. group.1) (take i groups) + left ≡ MAX_EXECUTORS → true ≡ leb (executor_count loops (names_and_sizes groups)) MAX_EXECUTORS
few loops left i groups past sum =
    let count = count-given loops groups in
    let all = ap (λ (xs : List (Bor (List ℕ) × ℕ)). sum_by (λ group. group.1) xs) (take_all i groups past) in
    sym (le-leb (executor_count loops (names_and_sizes groups)) MAX_EXECUTORS (omega (arith, count, all)))

pub not_doubled : (groups rest : List (Bor (List ℕ) × ℕ)) (first : Bor (List ℕ) × ℕ) → groups ≡ first ∷ rest → list_any (λ group. bytes_eq group.0.now first.0.now) rest ≡ false → has_double (names_and_sizes groups) ≡ has_double (names_and_sizes rest)
not_doubled groups rest first e fresh =
    ap (λ (t : List (Bor (List ℕ) × ℕ)). has_double (names_and_sizes t)) e
    ∙ ap (λ (b : Bool). b || has_double (names_and_sizes rest)) (list_any-map (λ (o : List ℕ × ℕ). bytes_eq o.0 first.0.now) (λ (g : Bor (List ℕ) × ℕ). (g.0.now, g.1)) rest ∙ fresh)

pub doubled : (groups rest : List (Bor (List ℕ) × ℕ)) (first : Bor (List ℕ) × ℕ) → groups ≡ first ∷ rest → list_any (λ group. bytes_eq group.0.now first.0.now) rest ≡ true → has_double (names_and_sizes groups) ≡ true
doubled groups rest first e taken =
    ap (λ (t : List (Bor (List ℕ) × ℕ)). has_double (names_and_sizes t)) e
    ∙ ap (λ (b : Bool). b || has_double (names_and_sizes rest)) (list_any-map (λ (o : List ℕ × ℕ). bytes_eq o.0 first.0.now) (λ (g : Bor (List ℕ) × ℕ). (g.0.now, g.1)) rest ∙ taken)

pub possible : (groups : List (Bor (List ℕ) × ℕ)) → list_all (λ group. is_name group.0 && nat_le 1 group.1) (names_and_sizes groups) ≡ list_all (λ group. is_name group.0.now && nat_le 1 group.1) groups
possible groups = list_all-map (λ (g : List ℕ × ℕ). is_name g.0 && nat_le 1 g.1) (λ (g : Bor (List ℕ) × ℕ). (g.0.now, g.1)) groups

-- ---- new groups

abbrev pub unused : Bor (List ℕ) × ℕ → Group
unused group = record { name = group.0.now; size = group.1; next = 0 }

-- where a call is not refused for this reason
pub true_from_none : (b : Bool) (fault : BuildFault) (o : Option BuildFault) → cond (not b) (Some fault) o ≡ None → b ≡ true
true_from_none true fault o e = refl
true_from_none false fault o e = cc

pub rest_from_none : (b : Bool) (fault : BuildFault) (o : Option BuildFault) → cond (not b) (Some fault) o ≡ None → o ≡ None
rest_from_none true fault o e = e
rest_from_none false fault o e = cc

within : (loops : ℕ) (groups : List (Bor (List ℕ) × ℕ)) → grouping_fault loops (names_and_sizes groups) ≡ None → are_groups_within loops (names_and_sizes groups) ≡ true
within loops groups none = true_from_none (are_groups_within loops (names_and_sizes groups)) Limit (cond (has_double (names_and_sizes groups)) (Some DuplicateName) None) none

pub sizes-unused : (groups : List (Bor (List ℕ) × ℕ)) → map entry (map unused groups) ≡ names_and_sizes groups
sizes-unused groups = map-map entry unused groups

pub IsGrouping-new : (loops : ℕ) (groups : List (Bor (List ℕ) × ℕ)) (made : List Group) → grouping_fault loops (names_and_sizes groups) ≡ None → made ≡ map unused groups → IsGrouping (record { loops = loops; next_loop = 0; groups = made })
IsGrouping-new loops groups made none is =
    let parts = and_parts (nat_le 1 loops && list_all (λ (g : List ℕ × ℕ). is_name g.0 && nat_le 1 g.1) (names_and_sizes groups)) (nat_le (executor_count loops (names_and_sizes groups)) MAX_EXECUTORS) (within loops groups none) in
    let fronts = and_parts (nat_le 1 loops) (list_all (λ (g : List ℕ × ℕ). is_name g.0 && nat_le 1 g.1) (names_and_sizes groups)) parts.0 in
    let each = AllPass-from_list_all (λ (g : Bor (List ℕ) × ℕ). is_name g.0.now && nat_le 1 g.1) groups (sym (possible groups) ∙ fronts.1) in
    let size : (g : Bor (List ℕ) × ℕ) → (is_name g.0.now && nat_le 1 g.1) ≡ true → 0 < g.1 = λ g h. let le = leb-true 1 g.1 (and_parts (is_name g.0.now) (nat_le 1 g.1) h).1 in omega arith in
    let made_is : IsGrouping (record { loops = loops; next_loop = 0; groups = map unused groups }) = record {
      loop = (let le = leb-true 1 loops fronts.0 in omega arith);
      nexts = All-map (λ (g : Group). g.next < g.size) unused groups (All-weaker (λ (g : Bor (List ℕ) × ℕ). (is_name g.0.now && nat_le 1 g.1) ≡ true) (λ (g : Bor (List ℕ) × ℕ). 0 < g.1) size groups each);
      within = (let le = leb-true (executor_count loops (names_and_sizes groups)) MAX_EXECUTORS parts.1 in rw (sizes-unused groups) le);
    } in
    let P : List Group → Type 0 = λ gs. IsGrouping (record { loops = loops; next_loop = 0; groups = gs }) in subst P (sym is) made_is

pub HasPlaced-new : (loops : ℕ) (groups : List (Bor (List ℕ) × ℕ)) (made : List Group) → made ≡ map unused groups → HasPlaced (record { loops = loops; next_loop = 0; groups = made }) []
HasPlaced-new loops groups made is =
    let made_is : HasPlaced (record { loops = loops; next_loop = 0; groups = map unused groups }) [] = record {
      loop = sym (zero-mod loops);
      groups = All-map (λ (g : Group). g.next ≡ count_by (uses g.name) [] % g.size) unused groups (λ k d h. sym (zero-mod (get_or groups k d).1));
    } in
    let P : List Group → Type 0 = λ gs. HasPlaced (record { loops = loops; next_loop = 0; groups = gs }) [] in subst P (sym is) made_is

-- ---- a pipeline is placed

size-after : (group : Group) (b : Bool) → entry (cond b (group_after group) group) ≡ entry group
size-after group true = refl
size-after group false = refl

sizes-after : (groups : List Group) (pipeline : List (Option (List ℕ))) → map entry (groups_after groups pipeline) ≡ map entry groups
sizes-after [] pipeline = refl
sizes-after (group ∷ groups) pipeline =
    ap (λ (p : List ℕ × ℕ). p ∷ map entry (groups_after groups pipeline)) (size-after group (uses group.name pipeline))
    ∙ ap (λ (t : List (List ℕ × ℕ)). entry group ∷ t) (sizes-after groups pipeline)

pub sizes_of-after : (g : GroupsView) (pipeline : List (Option (List ℕ))) → sizes_of (grouping_after g pipeline) ≡ sizes_of g
sizes_of-after g pipeline = sizes-after g.groups pipeline

next-after : (group : Group) (b : Bool) → group.next < group.size → (cond b (group_after group) group).next < (cond b (group_after group) group).size
next-after group true h = mod-lt (group.next + 1) {m = group.size} (omega arith)
next-after group false h = h

pub IsGrouping-after : (g : GroupsView) (pipeline : List (Option (List ℕ))) → IsGrouping g → IsGrouping (grouping_after g pipeline)
IsGrouping-after g pipeline h = record {
  loop = (let some : 0 < g.loops = omega (arith, h.loop) in mod-lt (g.next_loop + 1) {m = g.loops} some);
  nexts = All-map (λ (x : Group). x.next < x.size) (λ (x : Group). cond (uses x.name pipeline) (group_after x) x) g.groups (λ k d within. next-after (get_or g.groups k d) (uses (get_or g.groups k d).name pipeline) (h.nexts k d within));
  within = rw (sizes_of-after g pipeline) h.within;
}

-- the same of groups that are written in place
pub IsGrouping-write : (loops next len : ℕ) (items written : List Group) (pipeline : List (Option (List ℕ))) → IsGrouping (record { loops = loops; next_loop = next; groups = items }) → length items ≡ len → written ≡ groups_after items pipeline → IsGrouping (record { loops = loops; next_loop = (next + 1) % loops; groups = take len (written ++ drop (length written) items) })
IsGrouping-write loops next len items written pipeline h long is =
    let P : List Group → Type 0 = λ gs. IsGrouping (record { loops = loops; next_loop = (next + 1) % loops; groups = gs }) in
    let same : length written ≡ len = ap (λ (gs : List Group). length gs) is ∙ length-map items (λ (x : Group). cond (uses x.name pipeline) (group_after x) x) ∙ long in
    let short : len ≤ length written = omega arith in
    let all : length written ≤ len = omega arith in
    subst P (sym (take-append-le len written (drop (length written) items) short ∙ take_all len written all ∙ is)) (IsGrouping-after (record { loops = loops; next_loop = next; groups = items }) pipeline h)

-- a number one higher, by its remainder
mod-more : (n m size : ℕ) → n ≡ m % size → (n + 1) % size ≡ (m + 1) % size
mod-more n m size e = rw (e, add-one, add-one) (sym (suc-mod m size))

count-after : (group : Group) (earlier : List (List (Option (List ℕ)))) (pipeline : List (Option (List ℕ))) (b : Bool) → uses group.name pipeline ≡ b → group.next ≡ count_by (uses group.name) earlier % group.size → (cond b (group_after group) group).next ≡ count_by (uses (cond b (group_after group) group).name) (earlier ++ pipeline ∷ []) % (cond b (group_after group) group).size
count-after group earlier pipeline true used h =
    mod-more group.next (count_by (uses group.name) earlier) group.size h
    ∙ ap (λ (n : ℕ). n % group.size) (sym (sum_by_push (λ p. cond (uses group.name p) 1 0) earlier pipeline ∙ ap (λ (b : Bool). count_by (uses group.name) earlier + cond b 1 0) used))
count-after group earlier pipeline false used h =
    let same : count_by (uses group.name) (earlier ++ pipeline ∷ []) ≡ count_by (uses group.name) earlier = (let e = sum_by_push (λ p. cond (uses group.name p) 1 0) earlier pipeline ∙ ap (λ (b : Bool). count_by (uses group.name) earlier + cond b 1 0) used in omega (arith, e)) in
    h ∙ ap (λ (n : ℕ). n % group.size) (sym same)

pub HasPlaced-after : (g : GroupsView) (earlier : List (List (Option (List ℕ)))) (pipeline : List (Option (List ℕ))) → HasPlaced g earlier → HasPlaced (grouping_after g pipeline) (earlier ++ pipeline ∷ [])
HasPlaced-after g earlier pipeline h = record {
  loop = mod-more g.next_loop (length earlier) g.loops h.loop ∙ ap (λ (n : ℕ). n % g.loops) (sym (length-append earlier (pipeline ∷ [])));
  groups = All-map (λ (x : Group). x.next ≡ count_by (uses x.name) (earlier ++ pipeline ∷ []) % x.size) (λ (x : Group). cond (uses x.name pipeline) (group_after x) x) g.groups (λ k d within. count-after (get_or g.groups k d) earlier pipeline (uses (get_or g.groups k d).name pipeline) refl (h.groups k d within));
}

-- ---- where a handler runs

from : (first : ℕ) (groups : List Group) (name : List ℕ) (earlier : List (List (Option (List ℕ)))) → All (λ group. group.next ≡ count_by (uses group.name) earlier % group.size) groups → is_known (map entry groups) (Some name) ≡ true → executor_from first groups name ≡ first_executor first (map entry groups) name + count_by (uses name) earlier % size_of (map entry groups) name
from first [] name earlier h known = cc
from first (group ∷ groups) name earlier h known =
    by_name (bytes_eq group.name name) refl (from (first + group.size) groups name earlier (All-tail (λ (x : Group). x.next ≡ count_by (uses x.name) earlier % x.size) group groups h))
  where
    here : (b : Bool) → bytes_eq group.name name ≡ b → executor_from first (group ∷ groups) name ≡ cond b (first + group.next) (executor_from (first + group.size) groups name)
    here b e = ap (λ (v : Bool). cond v (first + group.next) (executor_from (first + group.size) groups name)) e

    fronts : (b : Bool) → bytes_eq group.name name ≡ b → take_while (λ p. not (bytes_eq p.0 name)) (map entry (group ∷ groups)) ≡ cond (not b) (entry group ∷ take_while (λ p. not (bytes_eq p.0 name)) (map entry groups)) []
    fronts b e = take_while-cons (λ p. not (bytes_eq p.0 name)) (entry group) (map entry groups) ∙ ap (λ (v : Bool). cond (not v) (entry group ∷ take_while (λ p. not (bytes_eq p.0 name)) (map entry groups)) []) e

    sized : (b : Bool) → bytes_eq group.name name ≡ b → size_of (map entry (group ∷ groups)) name ≡ option_map_or (λ p. p.1) (cond b (Some (entry group)) (find (λ p. bytes_eq p.0 name) (map entry groups))) 1
    sized b e = ap (λ (v : Bool). option_map_or (λ (p : List ℕ × ℕ). p.1) (cond v (Some (entry group)) (find (λ p. bytes_eq p.0 name) (map entry groups))) 1) e

    others : (b : Bool) → bytes_eq group.name name ≡ b → is_known (map entry (group ∷ groups)) (Some name) ≡ (b || is_known (map entry groups) (Some name))
    others b e = ap (λ (v : Bool). v || is_known (map entry groups) (Some name)) e

    by_name : (b : Bool) → bytes_eq group.name name ≡ b
        → (is_known (map entry groups) (Some name) ≡ true → executor_from (first + group.size) groups name ≡ first_executor (first + group.size) (map entry groups) name + count_by (uses name) earlier % size_of (map entry groups) name)
        → executor_from first (group ∷ groups) name ≡ first_executor first (map entry (group ∷ groups)) name + count_by (uses name) earlier % size_of (map entry (group ∷ groups)) name
    by_name true e rest =
        let own : group.next ≡ count_by (uses group.name) earlier % group.size = All-head (λ (x : Group). x.next ≡ count_by (uses x.name) earlier % x.size) group groups h in
        let same : group.name ≡ name = (bytes_eq-Decides group.name name).0 e in
        let own_name : group.next ≡ count_by (uses name) earlier % group.size = own ∙ ap (λ (n : List ℕ). count_by (uses n) earlier % group.size) same in
        let before = ap (λ (ps : List (List ℕ × ℕ)). sum_by (λ p. p.1) ps) (fronts true e) in
        let turn = ap (λ (n : ℕ). count_by (uses name) earlier % n) (sized true e) in
        omega (arith, here true e, before, turn, own_name)
    by_name false e rest =
        let there = rest (sym (others false e) ∙ known) in
        let before = ap (λ (ps : List (List ℕ × ℕ)). sum_by (λ p. p.1) ps) (fronts false e) ∙ sum_by-cons (λ (p : List ℕ × ℕ). p.1) (entry group) (take_while (λ p. not (bytes_eq p.0 name)) (map entry groups)) in
        let turn = ap (λ (n : ℕ). count_by (uses name) earlier % n) (sized false e) in
        omega (arith, here false e, before, turn, there)

pub executor_now-is : (g : GroupsView) (earlier : List (List (Option (List ℕ)))) (group : Option (List ℕ)) → HasPlaced g earlier → is_known (sizes_of g) group ≡ true → executor_now g group ≡ executor_after g.loops (sizes_of g) earlier group
executor_now-is g earlier None h known = h.loop
executor_now-is g earlier (Some name) h known = from g.loops g.groups name earlier h.groups known

-- the executor of a known group is one of those that begin with the first
within_from : (first : ℕ) (groups : List Group) (name : List ℕ) → All (λ group. group.next < group.size) groups → is_known (map entry groups) (Some name) ≡ true → executor_from first groups name < executor_count first (map entry groups)
within_from first [] name h known = cc
within_from first (group ∷ groups) name h known =
    by_name (bytes_eq group.name name) refl (within_from (first + group.size) groups name (All-tail (λ (x : Group). x.next < x.size) group groups h))
  where
    here : (b : Bool) → bytes_eq group.name name ≡ b → executor_from first (group ∷ groups) name ≡ cond b (first + group.next) (executor_from (first + group.size) groups name)
    here b e = ap (λ (v : Bool). cond v (first + group.next) (executor_from (first + group.size) groups name)) e

    others : (b : Bool) → bytes_eq group.name name ≡ b → is_known (map entry (group ∷ groups)) (Some name) ≡ (b || is_known (map entry groups) (Some name))
    others b e = ap (λ (v : Bool). v || is_known (map entry groups) (Some name)) e

    by_name : (b : Bool) → bytes_eq group.name name ≡ b → (is_known (map entry groups) (Some name) ≡ true → executor_from (first + group.size) groups name < executor_count (first + group.size) (map entry groups)) → executor_from first (group ∷ groups) name < executor_count first (map entry (group ∷ groups))
    by_name true e rest =
        let own : group.next < group.size = All-head (λ (x : Group). x.next < x.size) group groups h in
        omega (arith, here true e, own, sum_by-cons (λ (p : List ℕ × ℕ). p.1) (entry group) (map entry groups))
    by_name false e rest =
        let there = rest (sym (others false e) ∙ known) in
        omega (arith, here false e, there, sum_by-cons (λ (p : List ℕ × ℕ). p.1) (entry group) (map entry groups))

pub executor_now-within : (g : GroupsView) (group : Option (List ℕ)) → IsGrouping g → is_known (sizes_of g) group ≡ true → executor_now g group < executor_count g.loops (sizes_of g)
executor_now-within g None h known = omega (arith, h.loop)
executor_now-within g (Some name) h known = within_from g.loops g.groups name h.nexts known
