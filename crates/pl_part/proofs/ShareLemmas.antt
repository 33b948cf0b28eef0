-- Shares of a part: how they are made, and what each keeps of the whole.
use Rattle.std.proofs.Common.{◌≡◌, ℕ, suc, ◌+◌, ◌-◌, ◌≤◌, Bool, true, false, ◌&&◌, cond, List, ◌∷◌, [], length, map, get_or, Option, Some, None, refl, ap, sym, ◌∙◌, subst, arith}
use Rattle.std.specs.Prelude.{◌==◌, is_some, if◌then◌else◌}
use Rattle.std.specs.List.{sum_by, range_with_len}
use Rattle.std.specs.Option.{option_map_or}
use Rattle.std.proofs.lemmas.Bool.{cond-true, eqb-true, and_parts}
use Rattle.std.proofs.lemmas.List.Sums.{sum_by-cons}
use Rattle.std.proofs.lemmas.Option.{none-some}
use Rattle.pl_event.specs.declared.events.Event.{Event}
use Rattle.pl_event.specs.declared.envelopes.Lane.{Lane}
use Rattle.pl_event.specs.Hops.{same_lane, data_lane}
use Rattle.pl_event.specs.Meaning.{Meaning}
use Rattle.pl_event.specs.Worlds.{World}
use Rattle.pl_context.specs.ContextViews.{ContextView, taken_of}
use Rattle.pl_context.specs.TailViews.{TailView, taken_of as tail_taken_of}
use Rattle.pl_flow.specs.Flows.{nowhere}
use Rattle.pl_head.specs.Transports.{TransportState}
use Rattle.pl_head.specs.HeadStand.{HeadView}
use Rattle.pl_part.specs.ContextHolds.{context_writes, context_came}
use Rattle.pl_part.specs.HeadHolds.{head_writes, head_came, head_taken}
use Rattle.pl_part.specs.Paths.{PathPartView, PathHolds, IsAt, context_at, writer_hop, enters_path, path_taken, path_writes, path_came}
use Rattle.pl_part.specs.Parts.{ChannelPartView, PartHolds, head_hop, has_entered, part_taken, part_lanes, part_writes, part_came}
use Rattle.pl_part.specs.Counts.{context_done, slot_done, tail_done, head_done, path_done, part_done}
use Rattle.pl_part.specs.Shares.{IsPathShare, IsShareBy, IsShareOf, only_if, executor_of}

-- ---- what is there where that is wanted

pub only-some : {A : Type 0} (b : Bool) (o : Option A) (x : A) → only_if b o ≡ Some x → o ≡ Some x
only-some true o x e = e
only-some false o x e = absurd (none-some x e)

only-both : {A : Type 0} (a b : Bool) (o : Option A) → only_if a (only_if b o) ≡ only_if (a && b) o
only-both true b o = refl
only-both false b o = refl

only-of : {A B : Type 0} (f : A → B) (d : B) (b : Bool) (o : Option A) → option_map_or f (only_if b o) d ≡ cond b (option_map_or f o d) d
only-of f d true o = refl
only-of f d false o = refl

and-last : (a b : Bool) → cond b a false ≡ (a && b)
and-last true true = refl
and-last true false = refl
and-last false true = refl
and-last false false = refl

only-if : {A : Type 0} (b : Bool) (o : Option A) → is_some (only_if b o) ≡ (is_some o && b)
only-if true None = refl
only-if true (Some x) = refl
only-if false None = refl
only-if false (Some x) = refl

only-less : {A : Type 0} (f : A → ℕ) (b : Bool) (o : Option A) → option_map_or f (only_if b o) 0 ≤ option_map_or f o 0
only-less f true o = omega arith
only-less f false o = omega arith

-- the same case on both sides
if-each : {A : Type 0} (c b : Bool) (x y x' y' d : A) → (c ≡ true → x ≡ cond b x' d) → (c ≡ false → y ≡ cond b y' d) → (if c then x else y) ≡ cond b (if c then x' else y') d
if-each true b x y x' y' d f g = f refl
if-each false b x y x' y' d f g = g refl

if-both : (c b x y x' y' : Bool) → (c ≡ true → x ≡ (x' && b)) → (c ≡ false → y ≡ (y' && b)) → (if c then x else y) ≡ ((if c then x' else y') && b)
if-both true b x y x' y' f g = f refl
if-both false b x y x' y' f g = g refl

and-between : (a x b : Bool) → (a && (x && b)) ≡ ((a && x) && b)
and-between true x b = refl
and-between false x b = refl

sum-less : {A : Type 0} (f : A → ℕ) (d : A) (xs ys : List A) → length xs ≡ length ys → ((i : ℕ) → f (get_or xs i d) ≤ f (get_or ys i d)) → sum_by f xs ≤ sum_by f ys
sum-less f d [] ys size each = omega arith
sum-less f d (x ∷ xs) [] size each = absurd (omega (arith, size))
sum-less f d (x ∷ xs) (y ∷ ys) size each =
    let first : f x ≤ f y = each 0 in
    let rest = sum-less f d xs ys (omega (arith, size)) (λ i. each (suc i)) in
    omega (arith, first, rest, sum_by-cons f x xs, sum_by-cons f y ys)

-- ---- how they are made

-- contexts and a tail that were taken out of a view, or were left there
pub share-of : {S : Type 0} (mine : ℕ → Bool) (p v : PathPartView S) → v ≡ p → (executors lent : List ℕ) (contexts old : List (Option (ContextView S))) (tail : Option TailView) (at : ℕ)
    → executors ≡ v.executors → lent ≡ v.executors → old ≡ v.contexts → at ≡ executor_of p v.tail_hop
    → length contexts ≡ length old → ((hop : ℕ) → get_or contexts hop None ≡ only_if (mine (get_or lent hop 0)) (get_or old hop None)) → tail ≡ only_if (mine at) v.tail
    → IsPathShare mine p (record v { executors = executors; contexts = contexts; tail = tail })
share-of mine p v same executors lent contexts old tail at executors-are lent-are old-are at-is size each tail-is =
    subst (λ (y : PathPartView _). IsPathShare mine y (record v { executors = executors; contexts = contexts; tail = tail })) same
    (record {
      channel = refl;
      executors = executors-are;
      tail_hop = refl;
      turn = refl;
      slots = size ∙ ap length old-are;
      contexts = λ hop. each hop ∙ (λ i. only_if (mine (get_or (lent-are i) hop 0)) (get_or (old-are i) hop None));
      tail = tail-is ∙ ap (λ (n : ℕ). only_if (mine n) v.tail) (at-is ∙ ap (λ (y : PathPartView _). executor_of y v.tail_hop) (sym same));
    })

pub with-head : {S T : Type 0} (mine : ℕ → Bool) (p v : ChannelPartView S T) → v ≡ p → (path : PathPartView S) (head : Option (HeadView T)) (at : ℕ)
    → IsPathShare mine v.path path → at ≡ executor_of v.path (head_hop v) → head ≡ only_if (mine at) v.head → IsShareBy mine p (record { path = path; head = head })
with-head mine p v same path head at path-is at-is head-is =
    subst (λ (y : ChannelPartView _ _). IsShareBy mine y (record { path = path; head = head })) same
    (record { path = path-is; head = head-is ∙ ap (λ (n : ℕ). only_if (mine n) v.head) at-is })

-- a share of a share
pub share-within : {S T : Type 0} (these those both : ℕ → Bool) (whole part share : ChannelPartView S T) → ((e : ℕ) → (these e && those e) ≡ both e)
    → IsShareBy those whole part → IsShareBy these part share → IsShareBy both whole share
share-within these those both whole part share are p s = record {
  path = record {
    channel = s.path.channel ∙ p.path.channel;
    executors = s.path.executors ∙ p.path.executors;
    tail_hop = s.path.tail_hop ∙ p.path.tail_hop;
    turn = s.path.turn ∙ p.path.turn;
    slots = s.path.slots ∙ p.path.slots;
    contexts = λ hop. s.path.contexts hop ∙ (λ i. only_if (these (get_or (p.path.executors i) hop 0)) (p.path.contexts hop i)) ∙ joined (executor_of whole.path hop) (context_at whole.path hop);
    tail = s.path.tail ∙ (λ i. only_if (these (get_or (p.path.executors i) (p.path.tail_hop i) 0)) (p.path.tail i)) ∙ joined (executor_of whole.path whole.path.tail_hop) whole.path.tail;
  };
  head = s.head ∙ (λ i. only_if (these (get_or (p.path.executors i) (p.path.slots i) 0)) (p.head i)) ∙ joined (executor_of whole.path (head_hop whole)) whole.head;
}
  where
    joined : {A : Type 0} (e : ℕ) (o : Option A) → only_if (these e) (only_if (those e) o) ≡ only_if (both e) o
    joined e o = only-both (these e) (those e) o ∙ ap (λ (b : Bool). only_if b o) (are e)

-- ---- what the contexts and the tail of a share keep

module _ {S : Type 0} (mine : ℕ → Bool) (whole share : PathPartView S) (is : IsPathShare mine whole share) where
  path-holds : (world : World) (meaning : S → Meaning) (stands_after : S → List Event → Type 0) → PathHolds world meaning stands_after whole → PathHolds world meaning stands_after share
  path-holds world meaning stands_after holds = record {
    contexts = λ hop c found.
        let held = holds.contexts hop c (only-some (mine (executor_of whole hop)) (context_at whole hop) c (sym (is.contexts hop) ∙ found)) in
        (held.0, subst (λ (y : ℕ × ℕ × ℕ). IsAt meaning y.0 hop y.1 y.2 c) (λ i. (sym is.channel i, sym is.tail_hop i, sym is.turn i)) held.1);
    tail = λ t found.
        let held = holds.tail t (only-some (mine (executor_of whole whole.tail_hop)) whole.tail t (sym is.tail ∙ found)) in
        (held.0, held.1 ∙ sym is.channel, held.2 ∙ sym is.tail_hop);
    few = let same = is.slots in let few = holds.few in omega (arith, same, few);
  }

  same-writer : (hop : ℕ) → writer_hop share hop ≡ writer_hop whole hop
  same-writer hop = (λ i. if hop == 0 then is.slots i else if hop == is.tail_hop i + 1 then is.turn i else hop - 1)

  path-entered : (l : Lane) → enters_path share l ≡ (enters_path whole l && mine (executor_of whole l.hop))
  path-entered l =
      (λ i. (l.channel == is.channel i) && (if l.hop == is.tail_hop i then is_some (is.tail i) else is_some (is.contexts l.hop i)))
      ∙ ap (λ (b : Bool). (l.channel == whole.channel) && b)
      (if-both (l.hop == whole.tail_hop) (mine (executor_of whole l.hop)) _ _ (is_some whole.tail) (is_some (context_at whole l.hop))
      (λ on.
      only-if (mine (executor_of whole whole.tail_hop)) whole.tail
      ∙ ap (λ (n : ℕ). is_some whole.tail && mine (executor_of whole n)) (sym (eqb-true l.hop whole.tail_hop on)))
      (λ off. only-if (mine (executor_of whole l.hop)) (context_at whole l.hop)))
      ∙ and-between (l.channel == whole.channel) _ (mine (executor_of whole l.hop))

  path-taken : (l : Lane) → path_taken share l ≡ cond (mine (executor_of whole l.hop)) (path_taken whole l) 0
  path-taken l =
      (λ i. if l.hop == is.tail_hop i then option_map_or (λ (t : TailView). tail_taken_of t l) (is.tail i) 0 else option_map_or (λ (c : ContextView S). taken_of c l) (is.contexts l.hop i) 0)
      ∙ if-each (l.hop == whole.tail_hop) (mine (executor_of whole l.hop)) _ _ (option_map_or (λ (t : TailView). tail_taken_of t l) whole.tail 0)
      (option_map_or (λ (c : ContextView S). taken_of c l) (context_at whole l.hop) 0) 0
      (λ on.
      only-of (λ (t : TailView). tail_taken_of t l) 0 (mine (executor_of whole whole.tail_hop)) whole.tail
      ∙ ap (λ (n : ℕ). cond (mine (executor_of whole n)) (option_map_or (λ (t : TailView). tail_taken_of t l) whole.tail 0) 0) (sym (eqb-true l.hop whole.tail_hop on)))
      (λ off. only-of (λ (c : ContextView S). taken_of c l) 0 (mine (executor_of whole l.hop)) (context_at whole l.hop))

  -- what is said of the writer of a lane
  at-writer : {A : Type 0} (of : ContextView S → A) (none : A) (hop : ℕ)
      → option_map_or of (context_at share (writer_hop share hop)) none ≡ cond (mine (executor_of whole (writer_hop whole hop))) (option_map_or of (context_at whole (writer_hop whole hop)) none) none
  at-writer of none hop =
      ap (λ (h : ℕ). option_map_or of (context_at share h) none) (same-writer hop)
      ∙ ap (λ (o : Option (ContextView S)). option_map_or of o none) (is.contexts (writer_hop whole hop))
      ∙ only-of of none (mine (executor_of whole (writer_hop whole hop))) (context_at whole (writer_hop whole hop))

  path-wrote : (meaning : S → Meaning) (l : Lane) → path_writes meaning share l ≡ (path_writes meaning whole l && mine (executor_of whole (writer_hop whole l.hop)))
  path-wrote meaning l =
      at-writer (λ (c : ContextView S). context_writes (meaning c.stage).direction c l) false l.hop
      ∙ and-last (path_writes meaning whole l) (mine (executor_of whole (writer_hop whole l.hop)))

  path-came : (meaning : S → Meaning) (l : Lane) → path_came meaning share l ≡ cond (mine (executor_of whole (writer_hop whole l.hop))) (path_came meaning whole l) nowhere
  path-came meaning l = at-writer (λ (c : ContextView S). context_came (meaning c.stage).direction c l) nowhere l.hop

  path-done : path_done share ≤ path_done whole
  path-done =
      let slots = sum-less (λ (slot : Option (ContextView S)). slot_done slot) None share.contexts whole.contexts is.slots
      (λ hop. subst (λ (o : Option (ContextView S)). slot_done o ≤ slot_done (context_at whole hop)) (sym (is.contexts hop))
      (only-less (λ (c : ContextView S). context_done c) (mine (executor_of whole hop)) (context_at whole hop))) in
      let tail = subst (λ (o : Option TailView). option_map_or (λ (t : TailView). tail_done t) o 0 ≤ option_map_or (λ (t : TailView). tail_done t) whole.tail 0) (sym is.tail)
      (only-less (λ (t : TailView). tail_done t) (mine (executor_of whole whole.tail_hop)) whole.tail) in
      omega (arith, slots, tail)

-- ---- what a share keeps

module _ {S T : Type 0} (mine : ℕ → Bool) (whole share : ChannelPartView S T) (is : IsShareBy mine whole share) where
  pub share-holds : (world : World) (meaning : S → Meaning) (stands_after : S → List Event → Type 0) (state : T → TransportState) → PartHolds world meaning stands_after state whole → PartHolds world meaning stands_after state share
  share-holds world meaning stands_after state holds = record {
    path = path-holds mine whole.path share.path is.path world meaning stands_after holds.path;
    head = λ h found.
        let held = holds.head h (only-some (mine (executor_of whole.path (head_hop whole))) whole.head h (sym is.head ∙ found)) in
        (held.0, held.1 ∙ sym is.path.channel, held.2 ∙ sym is.path.slots);
    hops = ap length is.path.executors ∙ holds.hops ∙ ap (λ (n : ℕ). n + 1) (sym is.path.slots);
  }

  -- its nodes are those of the whole whose executor is one of these
  pub share-entered : (l : Lane) → has_entered share l ≡ (has_entered whole l && mine (executor_of whole.path l.hop))
  share-entered l =
      (λ i. if l.hop == is.path.slots i then is_some (is.head i) && same_lane l (data_lane (is.path.channel i) (is.path.slots i)) else path-entered mine whole.path share.path is.path l i)
      ∙ if-both (l.hop == head_hop whole) (mine (executor_of whole.path l.hop)) _ _ (is_some whole.head && same_lane l (data_lane whole.path.channel (head_hop whole))) (enters_path whole.path l)
      (λ on.
      ap (λ (b : Bool). b && same_lane l (data_lane whole.path.channel (head_hop whole))) (only-if (mine (executor_of whole.path (head_hop whole))) whole.head)
      ∙ turned (is_some whole.head) (mine (executor_of whole.path (head_hop whole))) (same_lane l (data_lane whole.path.channel (head_hop whole)))
      ∙ ap (λ (n : ℕ). (is_some whole.head && same_lane l (data_lane whole.path.channel (head_hop whole))) && mine (executor_of whole.path n)) (sym (eqb-true l.hop (head_hop whole) on)))
      (λ off. refl)
    where
      turned : (a b c : Bool) → ((a && b) && c) ≡ ((a && c) && b)
      turned false b c = refl
      turned true true true = refl
      turned true true false = refl
      turned true false true = refl
      turned true false false = refl

  -- how many of a lane they have taken
  pub share-taken : (l : Lane) → part_taken share l ≡ cond (mine (executor_of whole.path l.hop)) (part_taken whole l) 0
  share-taken l =
      (λ i. if l.hop == is.path.slots i then option_map_or (λ (h : HeadView T). head_taken h l) (is.head i) 0 else path-taken mine whole.path share.path is.path l i)
      ∙ if-each (l.hop == head_hop whole) (mine (executor_of whole.path l.hop)) _ _ (option_map_or (λ (h : HeadView T). head_taken h l) whole.head 0) (path_taken whole.path l) 0
      (λ on.
      only-of (λ (h : HeadView T). head_taken h l) 0 (mine (executor_of whole.path (head_hop whole))) whole.head
      ∙ ap (λ (n : ℕ). cond (mine (executor_of whole.path n)) (option_map_or (λ (h : HeadView T). head_taken h l) whole.head 0) 0) (sym (eqb-true l.hop (head_hop whole) on)))
      (λ off. refl)

  -- the head writes the lanes of hop 0
  first-writer : (l : Lane) → (l.hop == 0) ≡ true → head_hop whole ≡ writer_hop whole.path l.hop
  first-writer l z = sym (cond-true (l.hop == 0) (head_hop whole) _ z)

  -- which lanes they write
  pub share-writes : (meaning : S → Meaning) (l : Lane) → part_writes meaning share l ≡ (part_writes meaning whole l && mine (executor_of whole.path (writer_hop whole.path l.hop)))
  share-writes meaning l =
      (λ i. if l.hop == 0 then option_map_or (λ (h : HeadView T). head_writes h l) (is.head i) false else path-wrote mine whole.path share.path is.path meaning l i)
      ∙ if-both (l.hop == 0) (mine (executor_of whole.path (writer_hop whole.path l.hop))) _ _ (option_map_or (λ (h : HeadView T). head_writes h l) whole.head false) (path_writes meaning whole.path l)
      (λ z.
      only-of (λ (h : HeadView T). head_writes h l) false (mine (executor_of whole.path (head_hop whole))) whole.head
      ∙ and-last (option_map_or (λ (h : HeadView T). head_writes h l) whole.head false) (mine (executor_of whole.path (head_hop whole)))
      ∙ ap (λ (n : ℕ). option_map_or (λ (h : HeadView T). head_writes h l) whole.head false && mine (executor_of whole.path n)) (first-writer l z))
      (λ off. refl)

  -- how far these have come
  pub share-came : (meaning : S → Meaning) (l : Lane) → part_came meaning share l ≡ cond (mine (executor_of whole.path (writer_hop whole.path l.hop))) (part_came meaning whole l) nowhere
  share-came meaning l =
      (λ i. if l.hop == 0 then option_map_or (λ (h : HeadView T). head_came h l) (is.head i) nowhere else path-came mine whole.path share.path is.path meaning l i)
      ∙ if-each (l.hop == 0) (mine (executor_of whole.path (writer_hop whole.path l.hop))) _ _ (option_map_or (λ (h : HeadView T). head_came h l) whole.head nowhere) (path_came meaning whole.path l) nowhere
      (λ z.
      only-of (λ (h : HeadView T). head_came h l) nowhere (mine (executor_of whole.path (head_hop whole))) whole.head
      ∙ ap (λ (n : ℕ). cond (mine (executor_of whole.path n)) (option_map_or (λ (h : HeadView T). head_came h l) whole.head nowhere) nowhere) (first-writer l z))
      (λ off. refl)

  pub share-lanes : part_lanes share ≡ part_lanes whole
  share-lanes = (λ i. map (λ hop. data_lane (is.path.channel i) hop) (range_with_len 0 (length (is.path.executors i))))

  pub share-done : part_done share ≤ part_done whole
  share-done =
      let path = path-done mine whole.path share.path is.path in
      let head = subst (λ (o : Option (HeadView T)). option_map_or (λ (h : HeadView T). head_done h) o 0 ≤ option_map_or (λ (h : HeadView T). head_done h) whole.head 0) (sym is.head)
      (only-less (λ (h : HeadView T). head_done h) (mine (executor_of whole.path (head_hop whole))) whole.head) in
      omega (arith, path, head)

  pub share-is-of : (meaning : S → Meaning) (stands_after : S → List Event → Type 0) (state : T → TransportState) → IsShareOf meaning stands_after state mine whole share
  share-is-of meaning stands_after state = record {
    share_is = is;
    holds = λ world holds. share-holds world meaning stands_after state holds;
    entered = share-entered;
    taken = share-taken;
    writes = share-writes meaning;
    came = share-came meaning;
    lanes = share-lanes;
    done = share-done;
  }

  -- ---- the same, of a lane that enters one of its nodes, or that one of them writes

  pub share-taken-none : (l : Lane) → part_taken whole l ≡ 0 → part_taken share l ≡ 0
  share-taken-none l none = share-taken l ∙ none-either (mine (executor_of whole.path l.hop)) (part_taken whole l) none
    where
      none-either : (b : Bool) (n : ℕ) → n ≡ 0 → cond b n 0 ≡ 0
      none-either true n e = e
      none-either false n e = refl

  pub share-came-same : (meaning : S → Meaning) (l : Lane) → part_writes meaning share l ≡ true → part_came meaning share l ≡ part_came meaning whole l
  share-came-same meaning l wrote =
      share-came meaning l ∙ cond-true (mine (executor_of whole.path (writer_hop whole.path l.hop))) _ nowhere (and_parts (part_writes meaning whole l) _ (sym (share-writes meaning l) ∙ wrote)).1
