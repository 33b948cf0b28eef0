-- The ends of channels among the nodes of executors: which of them were found, part by part and executor by executor.
use Rattle.std.proofs.Common.{◌≡◌, ◌≢◌, ℕ, ◌+◌, ◌<◌, ◌≤◌, Bool, true, false, List, length, map, get_or, replicate, slice_get, Option, Some, None, ⊎_elim, refl, ap, sym, subst, ◌∙◌, arith, zero-add, ◌||◌, ◌⊎◌, inl, inr}
use Rattle.std.specs.Prelude.{◌==◌, is_some, if◌then◌else◌}
use Rattle.std.specs.List.{list_all, range_with_len}
use Rattle.std.specs.Option.{option_map, option_map_or, option_or}
use Rattle.std.proofs.lemmas.Bool.{false≢true, cases_eq, eq-eqb, ne_eqb, and_parts, cond-true, cond-false}
use Rattle.std.proofs.lemmas.List.{length-map, length-replicate, get_or-replicate}
use Rattle.std.proofs.lemmas.List.Elements.{All-get_or}
use Rattle.std.proofs.lemmas.List.FromFn.{get_or-range_with_len, length-range_with_len}
use Rattle.std.proofs.lemmas.Option.{none-some, same_Some, slice_get_within, slice_get-map, get_or_from_slice_get}
use Rattle.pl_event.specs.declared.events.Event.{Event}
use Rattle.pl_event.specs.Meaning.{Meaning}
use Rattle.pl_event.specs.Worlds.{World}
use Rattle.pl_event.proofs.Lists.{All-at, at-index}
use Rattle.pl_context.specs.ContextViews.{ContextView}
use Rattle.pl_context.specs.Standings.{is_over}
use Rattle.pl_context.specs.TailViews.{TailView}
use Rattle.pl_head.specs.Transports.{TransportState}
use Rattle.pl_head.specs.HeadStand.{HeadView, gone_of}
use Rattle.pl_part.specs.Paths.{context_at, is_slot_over, path_over}
use Rattle.pl_part.specs.Parts.{ChannelPartView, head_hop}
use Rattle.pl_channel.specs.Lanes.{world_of}
use Rattle.pl_channel.specs.PlanStand.{PartKeepsPlan}
use Rattle.pl_channel.specs.Channels.{executor_at}
use Rattle.pl_world.specs.Plans.{ChannelPlan, Plan, tail_hop, planned_head_hop}
use Rattle.pl_world.specs.PlanRules.{IsChannelPlan, IsPlan}
use Rattle.pl_exec.specs.declared.nodes.ExecutorNodes.{ExecutorNodes}
use Rattle.pl_exec.specs.declared.reporting.Found.{Found}
use Rattle.pl_exec.specs.ChannelRows.{by_channel, held_for, row_position}
use Rattle.pl_exec.specs.ExecutorNodes.{AreInOrder, AreOver, IsPartOver, NodesStand, ShareStands, channel_parts}
use Rattle.pl_exec.specs.Reported.{IsLeftTail, IsLeftHead, AreLeft, nothing_found, with_part}
use Rattle.pl_exec.proofs.ByChannel.{by-count, slot-at}
use Rattle.pl_exec.proofs.PartsHere.{IsElsewhere, held-part, is-elsewhere, no-head, no-tail, parts-count}

-- ---- one end

-- One end of a channel, as far as it was found: what was found is right, and it was found where its executor is one of the
-- first.
pub record IsEnd {A : Type 0} (Right : A → Type 0) (executor first : ℕ) (o : Option A) : Type 0 where
  pub right : (x : A) → o ≡ Some x → Right x
  pub there : executor < first → is_some o ≡ true

pub end-none : {A : Type 0} (Right : A → Type 0) (executor : ℕ) → IsEnd Right executor 0 None
end-none Right executor = record { right = λ x is. absurd (none-some x is); there = λ lt. absurd (omega (arith, lt)) }

-- the next executor has it, or not
pub end-next : {A : Type 0} (Right : A → Type 0) (executor first : ℕ) (own o : Option A) → ((x : A) → own ≡ Some x → Right x) → is_some own ≡ (executor == first) → IsEnd Right executor first o
    → IsEnd Right executor (first + 1) (option_or own o)
end-next Right executor first (Some x) o right here e = record { right = right; there = λ lt. refl }
end-next Right executor first None o right here e = record {
  right = e.right;
  there = λ lt. ⊎_elim
      (λ (s : executor ≡ first). absurd (false≢true (here ∙ eq-eqb executor first s)))
      (λ (n : executor ≢ first). e.there (omega (arith, lt, n)))
      (cases_eq executor first);
}

-- every executor was looked through
pub end-all : {A : Type 0} (Right : A → Type 0) (executor count : ℕ) (o : Option A) → IsEnd Right executor count o → executor < count → (x : A) × (o ≡ Some x) × Right x
end-all Right executor count (Some x) e lt = (x, refl, e.right x refl)
end-all Right executor count None e lt = absurd (false≢true (e.there lt))

-- ---- both ends of a channel

-- the executor of a hop
abbrev pub executor_of : ChannelPlan → ℕ → ℕ
executor_of p hop = get_or p.executors hop 0

-- each hop has one
pub placed : (executors : ℕ) (p : ChannelPlan) → IsChannelPlan executors p → (hop : ℕ) → hop ≤ planned_head_hop p → executor_of p hop < executors
placed executors p is hop within = All-get_or (λ (x : ℕ). x < executors) p.executors hop 0 (let hops = is.hops in omega (arith, hops, within)) is.placed

module _ {T : Type 0} (state : T → TransportState) (plan : Plan) where
  -- The ends of a channel, as far as they are among the nodes of the first executors.
  pub record IsFound (first c : ℕ) (p : ChannelPlan) (f : Found T) : Type 0 where
    pub tail : IsEnd (IsLeftTail plan c p) (executor_of p (tail_hop p)) first f.tail
    pub head : IsEnd (IsLeftHead state plan c p) (executor_of p (planned_head_hop p)) first f.head

  -- So are those of each channel.
  pub record AreFound (first : ℕ) (fs : List (Found T)) : Type 0 where
    pub count : length fs ≡ length plan.channels
    pub each : (c : ℕ) (p : ChannelPlan) (f : Found T) → slice_get plan.channels c ≡ Some p → slice_get fs c ≡ Some f → IsFound first c p f

  -- before the first executor is looked through
  pub none-found : (fs : List (Found T)) → fs ≡ replicate (length plan.channels) nothing_found → AreFound 0 fs
  none-found fs are = record {
    count = ap (λ (l : List (Found T)). length l) are ∙ length-replicate (length plan.channels) nothing_found;
    each = λ c p f planned found.
        let within = slice_get_within plan.channels c p planned in
        let none : nothing_found ≡ f =
        sym (get_or-replicate (length plan.channels) c nothing_found f within) ∙ ap (λ (l : List (Found T)). get_or l c f) (sym are) ∙ get_or_from_slice_get fs c f f found in
        subst (λ (z : Found T). IsFound 0 c p z) none
        (record { tail = end-none (IsLeftTail plan c p) (executor_of p (tail_hop p)); head = end-none (IsLeftHead state plan c p) (executor_of p (planned_head_hop p)) });
  }

  -- behind the last
  pub all-left : (fs : List (Found T)) → IsPlan plan → AreFound plan.executors fs → AreLeft state plan fs
  all-left fs is are = record {
    count = are.count;
    each = λ c p f planned found.
        let each = are.each c p f planned found in
        let own = All-at (IsChannelPlan plan.executors) plan.channels c p is.channels planned in
        let tail = end-all (IsLeftTail plan c p) (executor_of p (tail_hop p)) plan.executors f.tail each.tail (placed plan.executors p own (tail_hop p) (omega arith)) in
        let head = end-all (IsLeftHead state plan c p) (executor_of p (planned_head_hop p)) plan.executors f.head each.head (placed plan.executors p own (planned_head_hop p) (omega arith)) in
        record { tail = tail.0; has_tail = tail.1; left_tail = tail.2; head = head.0; has_head = head.1; left_head = head.2 };
  }

  -- ---- the nodes of an executor that has ended

  module _ {S : Type 0} (meaning : S → Meaning) (stands_after : S → List Event → Type 0) (me : ℕ) (refused : Bool) where
    module _ (c : ℕ) (p : ChannelPlan) (part : ChannelPartView S T) (stands : ShareStands (world_of true plan) meaning stands_after state me refused c part) (keeps : PartKeepsPlan state p part) (over : IsPartOver state part) where
      -- the tail that is there
      left-tail : (t : TailView) → part.path.tail ≡ Some t → IsLeftTail plan c p t
      left-tail t there =
          let own = stands.holds.path.tail t there in
          let ended = (and_parts (path_over part.path) (option_map_or (λ (h : HeadView T). is_over h.standing || is_some h.failure) part.head true) over.over).0 in
          record {
            holds = own.0;
            channel = own.1 ∙ stands.channel;
            at = own.2 ∙ keeps.tail_at;
            handed = sym (ap (λ (o : Option TailView). option_map_or (λ (t : TailView). t.handed) o 0) there) ∙ keeps.handed;
            over = sym (ap (λ (o : Option TailView). option_map_or (λ (t : TailView). is_over t.standing) o true) there)
                ∙ (and_parts (list_all (λ (slot : Option (ContextView S)). is_slot_over slot) part.path.contexts) (option_map_or (λ (t : TailView). is_over t.standing) part.path.tail true) ended).1;
          }

      -- the head
      left-head : (h : HeadView T) → part.head ≡ Some h → IsLeftHead state plan c p h
      left-head h there =
          let own = stands.holds.head h there in
          let ended = (and_parts (path_over part.path) (option_map_or (λ (h : HeadView T). is_over h.standing || is_some h.failure) part.head true) over.over).1 in
          record {
            holds = own.0;
            channel = own.1 ∙ stands.channel;
            at = own.2 ∙ keeps.head_at;
            gone = sym (ap (λ (o : Option (HeadView T)). option_map_or (λ (h : HeadView T). gone_of h) o (0, false)) there) ∙ keeps.gone;
            over = sym (ap (λ (o : Option (HeadView T)). option_map_or (λ (h : HeadView T). is_over h.standing || is_some h.failure) o true) there) ∙ ended;
            written = λ ys zs sizes after. over.written h ys zs sizes there after;
            read = sym (ap (λ (o : Option (HeadView T)). option_map_or (λ (h : HeadView T). h.input.port.is_open) o false) there) ∙ over.read;
            keeps = keeps.head h there;
          }

      -- the executor that the plan gives a hop
      planned-at : (hop planned : ℕ) → hop ≡ planned → executor_at part hop ≡ executor_of p planned
      planned-at hop planned is = λ i. get_or (keeps.executors i) (is i) 0

      -- the tail is there just where its executor is this one
      tail-here : is_some part.path.tail ≡ (executor_of p (tail_hop p) == me)
      tail-here =
          let hop = part.path.tail_hop in
          let elsewhere : (hop == head_hop part) ≡ false = ne_eqb hop (head_hop part) (let within = stands.within in omega (arith, within)) in
          sym (cond-true (hop == hop) (is_some part.path.tail) (is_some (context_at part.path hop)) (eq-eqb hop hop refl))
          ∙ sym (cond-false (hop == head_hop part) (is_some part.head) (if hop == hop then is_some part.path.tail else is_some (context_at part.path hop)) elsewhere)
          ∙ stands.resident.nodes hop (let within = stands.within in omega (arith, within))
          ∙ ap (λ (x : ℕ). x == me) (planned-at hop (tail_hop p) keeps.tail_at)

      -- so is the head
      head-here : is_some part.head ≡ (executor_of p (planned_head_hop p) == me)
      head-here =
          let hop = head_hop part in
          sym (cond-true (hop == hop) (is_some part.head) (if hop == part.path.tail_hop then is_some part.path.tail else is_some (context_at part.path hop)) (eq-eqb hop hop refl))
          ∙ stands.resident.nodes hop (omega arith)
          ∙ ap (λ (x : ℕ). x == me) (planned-at hop (planned_head_hop p) keeps.head_at)

      -- what was found before, with the ends that are there
      found-next : (f : Found T) → IsFound me c p f → IsFound (me + 1) c p (with_part f part)
      found-next f is = record {
        tail = end-next (IsLeftTail plan c p) (executor_of p (tail_hop p)) me part.path.tail f.tail left-tail tail-here is.tail;
        head = end-next (IsLeftHead state plan c p) (executor_of p (planned_head_hop p)) me part.head f.head left-head head-here is.head;
      }

    module _ (nodes : ExecutorNodes S T) (order : AreInOrder (length plan.channels) nodes) where
      -- what was found of a channel, with the ends in its part
      grown : (c : ℕ) (f g : Found T) (q : ChannelPartView S T) → slice_get (channel_parts plan nodes) c ≡ Some q → ((part : ChannelPartView S T) × (held_for nodes.here.items nodes.parts.items c ≡ Some part) × (g ≡ with_part f part)) ⊎ ((length nodes.parts.items ≤ row_position nodes.here.items c) × (g ≡ f))
          → g ≡ with_part f q
      grown c f g q at (inl held) = held.2 ∙ ap (with_part f) (same_Some held.0 q (sym (held-part plan nodes order c held.0 within held.1) ∙ at))
        where
          within : c < length plan.channels
          within = let there = slice_get_within (channel_parts plan nodes) c q at in let size = parts-count plan nodes order in omega (arith, there, size)
      grown c f g q at (inr past) = past.1 ∙ sym (λ i. record { tail = option_or (no-tail c e.planned q (e.part q at) i) f.tail; head = option_or (no-head c e.planned q (e.part q at) i) f.head })
        where
          e : IsElsewhere plan nodes order c
          e = is-elsewhere plan nodes order c (let there = slice_get_within (channel_parts plan nodes) c q at in let size = parts-count plan nodes order in omega (arith, there, size)) (let size = order.parts in let behind = past.0 in omega (arith, size, behind))

      -- one executor more is looked through
      next-executor : (fs : List (Found T)) → NodesStand (world_of true plan) plan meaning stands_after state me refused (channel_parts plan nodes) → AreOver state (channel_parts plan nodes) → AreFound me fs
          → AreFound (me + 1) (by_channel with_part nodes.here.items nodes.parts.items fs)
      next-executor fs stand over are = record {
        count = by-count with_part nodes.here.items fs nodes.parts.items ∙ are.count;
        each = λ c p g planned found.
            let n = slot-at with_part nodes.here.items fs nodes.parts.items c g found in
            let q = at-index (channel_parts plan nodes) c (let within = slice_get_within plan.channels c p planned in let size = parts-count plan nodes order in omega (arith, within, size)) in
            subst (λ (z : Found T). IsFound (me + 1) c p z) (sym (grown c n.before g q.0 q.1 n.is))
            (found-next c p q.0 (stand.parts c q.0 q.1) (stand.keeps.each c p q.0 planned q.1) (over c q.0 q.1) n.before (are.each c p n.before planned n.was));
      }

      -- The next executor has ended, and left these nodes.
      pub next-finished : (world : World) (k : ℕ) (fs now : List (Found T)) → world ≡ world_of true plan → NodesStand world plan meaning stands_after state me refused (channel_parts plan nodes) → AreOver state (channel_parts plan nodes) → me ≡ k → AreFound k fs
          → now ≡ by_channel with_part nodes.here.items nodes.parts.items fs → AreFound (k + 1) now
      next-finished world k fs now of stand over own are is =
          subst (λ (x : ℕ). AreFound (x + 1) now) own
          (subst (λ (l : List (Found T)). AreFound (me + 1) l) (sym is)
          (next-executor fs (subst (λ (w : World). NodesStand w plan meaning stands_after state me refused (channel_parts plan nodes)) of stand) over (subst (λ (x : ℕ). AreFound x fs) (sym own) are)))

-- ---- the numbers of executors: 0, 1 and so on

-- as many as there are numbers
pub numbers-count : {A : Type 0} (number : A → ℕ) (all : List A) (count : ℕ) → map number all ≡ range_with_len 0 count → length all ≡ count
numbers-count number all count are = sym (length-map all number) ∙ ap (λ (l : List ℕ). length l) are ∙ length-range_with_len 0 count

-- the next of them has the next number
pub number-at : {A : Type 0} (number : A → ℕ) (all : List A) (count k : ℕ) (x : A) → map number all ≡ range_with_len 0 count → slice_get all k ≡ Some x → number x ≡ k
number-at number all count k x are found =
    let within = slice_get_within all k x found in
    sym (get_or_from_slice_get (map number all) k (number x) 0 (slice_get-map number all k ∙ ap (option_map number) found))
    ∙ ap (λ (l : List ℕ). get_or l k 0) are ∙ get_or-range_with_len 0 count k 0 (omega (arith, within, numbers-count number all count are)) ∙ zero-add k
