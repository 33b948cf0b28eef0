-- A part whose head has told more of its settled writes is else as it was.
use Rattle.std.proofs.Common.{◌≡◌, ℕ, ◌<◌, ◌≤◌, Bool, true, false, not, List, [], ◌∷◌, Option, Some, None, refl, ap, sym, ◌∙◌, subst, arith}
use Rattle.std.specs.Prelude.{is_some, nat_lt, slice_index_or, IfSome, if◌then◌else◌}
use Rattle.std.specs.Option.{option_map, option_map_or}
use Rattle.std.proofs.lemmas.Option.{none-some, same_Some}
use Rattle.std.proofs.lemmas.Bool.{lt-ltb, le-ltb}
use Rattle.pl_event.specs.declared.events.Event.{Event}
use Rattle.pl_event.specs.declared.envelopes.Lane.{Lane}
use Rattle.pl_event.specs.declared.outcomes.Cause.{Cause}
use Rattle.pl_event.specs.declared.outcomes.Outcome.{Outcome}
use Rattle.pl_event.specs.Meaning.{Meaning}
use Rattle.pl_event.specs.Worlds.{World}
use Rattle.pl_head.specs.Marks.{Change, levels_from, pending_from, pending_after, changed, is_unwritable, unwritable_from}
use Rattle.pl_head.specs.Transports.{TransportState}
use Rattle.pl_head.specs.Buffers.{OutboundBufferView, untold}
use Rattle.pl_head.specs.HeadStand.{HeadView, BufferAfter, HeadStandsAfter}
use Rattle.pl_head.proofs.HeadAfter.{marks_after}
use Rattle.pl_part.specs.HeadHolds.{HeadHolds}
use Rattle.pl_part.specs.Paths.{PathPartView}
use Rattle.pl_part.specs.Parts.{ChannelPartView, PartHolds, SamePart, head_hop, part_gone, part_taken, part_writes, part_came}
use Rattle.pl_part.specs.Told.{told_head, told_part, part_untold, IsTold, TellsNext}
use Rattle.pl_part.proofs.HeadTaken.{took-same}

-- ---- the marks

-- the last of some levels, or where they began
module _ (low high : ℕ) (ordered : low ≤ high) where
  -- above the high mark it is unwritable, below the low one it is not, if it was so before
  turned : (u : Bool) (p : ℕ) → (high < p → unwritable_from low high u (p ∷ []) ≡ true) × (p < low → unwritable_from low high u (p ∷ []) ≡ false)
  turned false p = (λ above. lt-ltb high p above, λ below. le-ltb high p (omega (arith, below, ordered)))
  turned true p = (
    λ above. ap (λ (b : Bool). if b then false else true) (le-ltb p low (omega (arith, above, ordered))),
    λ below. ap (λ (b : Bool). if b then false else true) (lt-ltb p low below),
  )

  marked-from : (u : Bool) (pending : ℕ) (cs : List Change) → (high < pending → u ≡ true) × (pending < low → u ≡ false)
      → (high < pending_from pending cs → unwritable_from low high u (levels_from pending cs) ≡ true) × (pending_from pending cs < low → unwritable_from low high u (levels_from pending cs) ≡ false)
  marked-from u pending [] is = is
  marked-from false pending (c ∷ cs) is = marked-from (nat_lt high (changed pending c)) (changed pending c) cs (turned false (changed pending c))
  marked-from true pending (c ∷ cs) is = marked-from (if nat_lt (changed pending c) low then false else true) (changed pending c) cs (turned true (changed pending c))

  pub marked : (cs : List Change) → (high < pending_after cs → is_unwritable low high cs ≡ true) × (pending_after cs < low → is_unwritable low high cs ≡ false)
  marked cs = marked-from false 0 cs (λ above. absurd (omega (arith, above)), λ below. refl)

module _ {T : Type 0} (state : T → TransportState) (world : World) (h : HeadView T) (holds : HeadHolds state world h) where
  -- what waits, by the sizes after which the head stands
  pub pending-is : (n : ℕ) → ((ys zs : List Event) (sizes : List Change) → HeadStandsAfter state h ys zs sizes → n ≡ pending_after sizes) → n ≡ h.buffer.pending
  pending-is n is =
      let took = holds.holds.took in
      let marks = marks_after h.failure (state h.transport).accepted h.buffer took.ys took.zs _ took.sizes took.after in
      is took.ys took.zs took.sizes took.after ∙ sym marks.pending_is

  pub head-marked : h.buffer.low ≤ h.buffer.high → (h.buffer.high < h.buffer.pending → h.buffer.is_unwritable ≡ true) × (h.buffer.pending < h.buffer.low → h.buffer.is_unwritable ≡ false)
  head-marked ordered =
      let took = holds.holds.took in
      let marks = marks_after h.failure (state h.transport).accepted h.buffer took.ys took.zs _ took.sizes took.after in
      let m = marked h.buffer.low h.buffer.high ordered took.sizes in
      let same = marks.pending_is in
      (λ above. marks.unwritable_is ∙ m.0 (omega (arith, above, same)), λ below. marks.unwritable_is ∙ m.1 (omega (arith, below, same)))

  -- so it is said of it
  module _ (ordered : h.buffer.low ≤ h.buffer.high) (x : HeadView T) (same : x ≡ h) (pending : ℕ) (writable : Bool) (is : pending ≡ x.buffer.pending) (says : writable ≡ not x.buffer.is_unwritable) where
    pub not-writable : h.buffer.high < pending → writable ≡ false
    not-writable above =
        let e = is ∙ ap (λ (y : HeadView T). y.buffer.pending) same in
        says ∙ ap (λ (y : HeadView T). not y.buffer.is_unwritable) same ∙ ap not ((head-marked ordered).0 (omega (arith, above, e)))

    pub is-writable : pending < h.buffer.low → writable ≡ true
    is-writable below =
        let e = is ∙ ap (λ (y : HeadView T). y.buffer.pending) same in
        says ∙ ap (λ (y : HeadView T). not y.buffer.is_unwritable) same ∙ ap not ((head-marked ordered).1 (omega (arith, below, e)))

pub same-head : {S T : Type 0} (p : ChannelPartView S T) (h k : HeadView T) → p.head ≡ Some h → p.head ≡ Some k → h ≡ k
same-head p h k at there = same_Some h k (sym at ∙ there)

-- ---- what was told

told-after : (f : Option Cause) (accepted : List ℕ) (b : OutboundBufferView) (n : ℕ) (ys zs : List Event) (ended : Bool) (sizes : List Change) → BufferAfter f accepted b ys zs ended sizes
    → BufferAfter f accepted (record b { told = n }) ys zs ended sizes
told-after None accepted b n ys zs ended sizes s = (s.0, record { left = s.1.left; messages = s.1.messages; output = s.1.output; at_rest = s.1.at_rest; size = s.1.size; marks = s.1.marks })
told-after (Some cause) accepted b n ys zs ended sizes s = record {
  left = s.left;
  output = s.output;
  entries = s.entries;
  pending = s.pending;
  late = s.late;
  unnumbered = s.unnumbered;
  split = s.split;
  all = s.all;
  outcomes_are = s.outcomes_are;
  marks = s.marks;
}

module _ {T : Type 0} (state : T → TransportState) where
  told-holds : (world : World) (h : HeadView T) (n : ℕ) → HeadHolds state world h → HeadHolds state world (told_head n h)
  told-holds world h n s =
      let t = s.holds in
      record {
        plan = s.plan;
        events = s.events;
        holds = record {
          own = t.own;
          few = t.few;
          took = took-same state s.events h (told_head n h) t.took t.took.sizes (told-after h.failure (state h.transport).accepted h.buffer n t.took.ys t.took.zs _ t.took.sizes t.took.after) refl refl refl refl;
          most = t.most;
          may = t.may;
          may_itself = t.may_itself;
          input = t.input;
          few_input = t.few_input;
          reads = t.reads;
          entrance = t.entrance;
          flags = t.flags;
          few_flags = t.few_flags;
        };
      }

module _ {S T : Type 0} (n : ℕ) (path : PathPartView S) where
  -- a part with this head, or none, when so many were told
  abbrev part : Option (HeadView T) → ChannelPartView S T
  part o = record { path = path; head = o }

  same-by : (o : Option (HeadView T)) → is_some (option_map (told_head n) o) ≡ is_some o
  same-by None = refl
  same-by (Some h) = refl

  gone-by : (o : Option (HeadView T)) → part_gone (told_part n (part o)) ≡ part_gone (part o)
  gone-by None = refl
  gone-by (Some h) = refl

  taken-by : (o : Option (HeadView T)) (l : Lane) → part_taken (told_part n (part o)) l ≡ part_taken (part o) l
  taken-by None l = refl
  taken-by (Some h) l = refl

  writes-by : (meaning : S → Meaning) (o : Option (HeadView T)) (l : Lane) → part_writes meaning (told_part n (part o)) l ≡ part_writes meaning (part o) l
  writes-by meaning None l = refl
  writes-by meaning (Some h) l = refl

  came-by : (meaning : S → Meaning) (o : Option (HeadView T)) (l : Lane) → part_came meaning (told_part n (part o)) l ≡ part_came meaning (part o) l
  came-by meaning None l = refl
  came-by meaning (Some h) l = refl

  again-by : (m : ℕ) (o : Option (HeadView T)) → told_part n (told_part m (part o)) ≡ told_part n (part o)
  again-by m None = refl
  again-by m (Some h) = refl

  holds-by : (state : T → TransportState) (world : World) (channel hop : ℕ) (o : Option (HeadView T)) → ((h : HeadView T) → o ≡ Some h → HeadHolds state world h × (h.channel ≡ channel) × (h.hop ≡ hop))
      → (h : HeadView T) → option_map (told_head n) o ≡ Some h → HeadHolds state world h × (h.channel ≡ channel) × (h.hop ≡ hop)
  holds-by state world channel hop None holds h at = absurd (none-some h at)
  holds-by state world channel hop (Some x) holds h at =
      let s = holds x refl in
      subst (λ (y : HeadView T). HeadHolds state world y × (y.channel ≡ channel) × (y.hop ≡ hop)) (same_Some (told_head n x) h at) (told-holds state world x n s.0, s.1, s.2)

-- All else is the same.
module _ {S T : Type 0} (n : ℕ) (p : ChannelPartView S T) where
  pub told-same : SamePart p (told_part n p)
  told-same = record {
    path = record { channel = refl; executors = refl; contexts = refl; tail = refl; tail_hop = refl; turn = refl; handed = refl };
    head = same-by n p.path p.head;
    gone = gone-by n p.path p.head;
  }

  pub told-taken : (l : Lane) → part_taken (told_part n p) l ≡ part_taken p l
  told-taken l = taken-by n p.path p.head l

  pub told-writes : (meaning : S → Meaning) (l : Lane) → part_writes meaning (told_part n p) l ≡ part_writes meaning p l
  told-writes meaning l = writes-by n p.path meaning p.head l

  pub told-came : (meaning : S → Meaning) (l : Lane) → part_came meaning (told_part n p) l ≡ part_came meaning p l
  told-came meaning l = came-by n p.path meaning p.head l

  pub told-again : (m : ℕ) → told_part n (told_part m p) ≡ told_part n p
  told-again m = again-by n p.path m p.head

  pub told-part-holds : (world : World) (meaning : S → Meaning) (stands_after : S → List Event → Type 0) (state : T → TransportState) → PartHolds world meaning stands_after state p
      → PartHolds world meaning stands_after state (told_part n p)
  told-part-holds world meaning stands_after state s = record {
    path = s.path;
    head = holds-by n p.path state world p.path.channel (head_hop p) p.head s.head;
    hops = s.hops;
  }

-- Its head has told none more.
pub none-told : {S T : Type 0} (p : ChannelPartView S T) → IsTold p p
none-told {S = S} {T = T} p = by p.head refl
  where
    by : (o : Option (HeadView T)) → p.head ≡ o → IsTold p p
    by None at = record { so_many = 0; is = λ i. record { path = p.path; head = (at ∙ sym (ap (option_map (told_head 0)) at)) i } }
    by (Some h) at = record { so_many = h.buffer.told; is = λ i. record { path = p.path; head = (at ∙ sym (ap (option_map (told_head h.buffer.told)) at)) i } }

-- It has told some, and then some more.
pub told-more : {S T : Type 0} (p q r : ChannelPartView S T) → IsTold p q → IsTold q r → IsTold p r
told-more p q r one more = record { so_many = more.so_many; is = more.is ∙ ap (told_part more.so_many) one.is ∙ told-again more.so_many p one.so_many }

-- It holds as before.
pub is-told-holds : {S T : Type 0} (p q : ChannelPartView S T) (world : World) (meaning : S → Meaning) (stands_after : S → List Event → Type 0) (state : T → TransportState) → IsTold p q
    → PartHolds world meaning stands_after state p → PartHolds world meaning stands_after state q
is-told-holds p q world meaning stands_after state told holds =
    subst (λ (x : ChannelPartView _ _). PartHolds world meaning stands_after state x) (sym told.is) (told-part-holds told.so_many p world meaning stands_after state holds)

-- ---- a call of its head

module _ {S T : Type 0} (p v : ChannelPartView S T) (is : v ≡ p) (h h' : HeadView T) (at : v.head ≡ Some h) where
  pub call-told : h' ≡ told_head h'.buffer.told h → IsTold p (record v { head = Some h' })
  call-told same = record {
    so_many = h'.buffer.told;
    is =
        ap (λ (x : HeadView T). record v { head = Some x }) same
        ∙ (λ i. record { path = v.path; head = option_map (told_head h'.buffer.told) (sym at i) })
        ∙ ap (told_part h'.buffer.told) is;
  }

  pub call-tells : (r : Option (ℕ × Outcome)) → IfSome r (λ next. untold h.buffer ≡ next.0 ∷ untold h'.buffer) → IfSome r (λ next. slice_index_or h.buffer.outcomes next.0 None ≡ Some next.1)
      → IfSome r (λ next. TellsNext p next.0 next.1 (record v { head = Some h' }))
  call-tells None next ended = next
  call-tells (Some found) next ended = record {
    head = h;
    has_head = sym (ap (λ (x : ChannelPartView S T). x.head) is) ∙ at;
    ended = ended;
    next = sym (ap (λ (x : ChannelPartView S T). part_untold x) is) ∙ ap (λ (o : Option (HeadView T)). option_map_or (λ (x : HeadView T). untold x.buffer) o []) at ∙ next;
  }
