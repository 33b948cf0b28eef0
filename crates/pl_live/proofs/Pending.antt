-- What of a live channel's output and of its tail's record is still to be handed out.
use Rattle.std.proofs.Common.{◌≡◌, ℕ, suc, ◌+◌, ◌-◌, ◌<◌, ◌≤◌, Bool, true, false, List, [], ◌∷◌, ◌++◌, length, take, drop, Option, Some, None, refl, sym, ap, subst, ◌∙◌, arith, length-append, append_assoc}
use Rattle.std.specs.Prelude.{is_some, slice_get, ◌||◌}
use Rattle.std.specs.Option.{option_map_or}
use Rattle.std.proofs.lemmas.Bool.{or_left}
use Rattle.std.proofs.lemmas.List.{length-drop, take-append-drop, take-append-le, take_all}
use Rattle.pl_event.specs.declared.events.Event.{Event}
use Rattle.pl_event.specs.declared.limits.TheConstants.{MAX_ITEMS}
use Rattle.pl_event.specs.Meaning.{Meaning}
use Rattle.pl_event.proofs.Lists.{some-of}
use Rattle.pl_context.specs.declared.standing.Standing.TheVariants as stand
use Rattle.pl_context.specs.Standings.{has_failed, is_over}
use Rattle.pl_context.specs.TailViews.{TailView}
use Rattle.pl_head.specs.HeadStand.{HeadView, HeadStandsAfter, is_idle}
use Rattle.pl_head.specs.Marks.{Change}
use Rattle.pl_head.specs.Transports.{TransportState}
use Rattle.pl_head.specs.Writes.{out}
use Rattle.pl_part.specs.Parts.{ChannelPartView, part_standing}
use Rattle.pl_part.proofs.Standings.{sound-head}
use Rattle.pl_world.specs.Plans.{ChannelPlan}
use Rattle.pl_world.specs.Reports.{head_of, tail_of}
use Rattle.pl_live.specs.LiveStand.{LiveView, LiveStands, LiveRests, HandsOut, IsSettled, IsSound, IsWritten, accepted_in, consumed_of, handed_in, head_in, parts_of, recorded_in, tail_in}
use Rattle.pl_live.proofs.CaughtUp.{accepted-begins, all-recorded, all-written, head-ended, recorded-begins, tail-ended}
use Rattle.pl_live.proofs.LiveEnds.{held-head, held-tail, to-tail, took}
use Rattle.pl_live.proofs.Moved.{accepted-at, gone-at, handed-at, head-in, recorded-at}
use Rattle.pl_live.proofs.Changed.{record-next}

-- ---- what is read of the two ends

-- the rest of the bytes that a transport accepted
pub slice-is : {S T : Type 0} (state : T → TransportState) (parts : List (ChannelPartView S T)) (h : HeadView T) → head_in parts ≡ Some h → (bytes : List ℕ) → bytes ≡ (state h.transport).accepted → (from consumed : ℕ) → from ≡ consumed
    → take (length bytes - from) (drop from bytes) ≡ drop consumed (accepted_in state parts)
slice-is state parts h at bytes is from consumed same =
    let size = length-drop from bytes in
    let all : bytes ≡ accepted_in state parts = is ∙ sym (ap (λ (o : Option (HeadView _)). option_map_or (λ (x : HeadView _). (state x.transport).accepted) o []) at) in
    take_all (length bytes - from) (drop from bytes) (omega (arith, size)) ∙ (λ i. drop (same i) (all i))

pub none-left : (consumed : ℕ) (bytes : List ℕ) → consumed ≤ length bytes → drop consumed bytes ≡ [] → consumed ≡ length bytes
none-left consumed bytes within none =
    let left = ap (λ (l : List ℕ). length l) none in
    let size = length-drop consumed bytes in
    omega (arith, within, left, size)

-- the record of a tail
pub record-is : {S T : Type 0} (parts : List (ChannelPartView S T)) (t : TailView) → tail_in parts ≡ Some t → (events : List Event) → events ≡ t.events → recorded_in parts ≡ events
record-is parts t at events is = ap (λ (o : Option TailView). option_map_or (λ (x : TailView). x.events) o []) at ∙ sym is

-- ---- what was handed out

module _ {S T : Type 0} (meaning : S → Meaning) (stands_after : S → List Event → Type 0) (state : T → TransportState) (p : ChannelPlan) (live : LiveView S T) (s : LiveStands meaning stands_after state p live) where
  abbrev part : ChannelPartView S T
  part = s.goes.part

  abbrev head : (h : HeadView T) × (part.head ≡ Some h)
  head = some-of part.head s.goes.by_plan.has_head

  abbrev tail : (t : TailView) × (part.path.tail ≡ Some t)
  tail = some-of part.path.tail s.goes.by_plan.has_tail

  accepted-is : accepted_in state (parts_of live) ≡ (state head.0.transport).accepted
  accepted-is = accepted-at part (parts_of live) s.goes.is_alone state head.0 head.1

  recorded-is : recorded_in (parts_of live) ≡ tail.0.events
  recorded-is = recorded-at part (parts_of live) s.goes.is_alone tail.0 tail.1

  -- what is gone of the output, and how much that is
  abbrev gone : List ℕ
  gone = out (took meaning stands_after state p live s head.0 head.1).gone

  gone-size : live.gone ≡ length gone
  gone-size = s.handed.gone_is ∙ gone-at part (parts_of live) s.goes.is_alone head.0 head.1 ∙ (took meaning stands_after state p live s head.0 head.1).bytes

  take-behind : (xs ys : List ℕ) (n : ℕ) → take (length xs + n) (xs ++ ys) ≡ xs ++ take n ys
  take-behind [] ys n = let same : 0 + n ≡ n = omega arith in ap (λ (m : ℕ). take m ys) same
  take-behind (x ∷ xs) ys n =
      let same : length (x ∷ xs) + n ≡ suc (length xs + n) = omega arith in
      ap (λ (m : ℕ). take m (x ∷ (xs ++ ys))) same ∙ ap (λ (zs : List ℕ). x ∷ zs) (take-behind xs ys n)

  -- What was accepted and not consumed comes next in the output.
  pub next-bytes : (rest : List ℕ) × (take (consumed_of live) (out (head_of p)) ++ drop live.consumed (accepted_in state (parts_of live)) ++ rest ≡ out (head_of p))
  next-bytes =
      let accepted = accepted_in state (parts_of live) in
      let begins = accepted-begins meaning stands_after state p live s head.0 head.1 in
      let whole : gone ++ accepted ++ begins.0 ≡ out (head_of p) = ap (λ (l : List ℕ). gone ++ l ++ begins.0) accepted-is ∙ begins.1 in
      let first : take (consumed_of live) (out (head_of p)) ≡ gone ++ take live.consumed accepted =
      ap (λ (l : List ℕ). take (consumed_of live) l) (sym whole ∙ append_assoc gone accepted begins.0) ∙ ap (λ (n : ℕ). take (n + live.consumed) (gone ++ (accepted ++ begins.0))) gone-size
      ∙ take-behind gone (accepted ++ begins.0) live.consumed ∙ ap (λ (l : List ℕ). gone ++ l) (take-append-le live.consumed accepted begins.0 s.handed.consumed_within) in (
        begins.0,
        ap (λ (l : List ℕ). l ++ drop live.consumed accepted ++ begins.0) first
            ∙ ap (λ (l : List ℕ). l ++ begins.0) (append_assoc gone (take live.consumed accepted) (drop live.consumed accepted))
            ∙ ap (λ (l : List ℕ). gone ++ l ++ begins.0) (take-append-drop live.consumed accepted)
            ∙ whole,
      )

  -- how many events the tail has handed over
  handed-count : handed_in (parts_of live) ≡ tail.0.handed
  handed-count = handed-at part (parts_of live) s.goes.is_alone ∙ ap (λ (o : Option TailView). option_map_or (λ (t : TailView). t.handed) o 0) tail.1

  -- its tail gets few events
  pub few-events : length (tail_of p) < MAX_ITEMS
  few-events =
      let few = (held-tail meaning stands_after state p live s tail.0 tail.1).holds.few in
      let same = ap (λ (es : List Event). length es) (to-tail meaning stands_after state p live s tail.0 tail.1) in
      omega (arith, few, same)

  -- Where the tail hands its record over, what that holds is next.
  pub record-handed : live.front ≡ [] → HandsOut (tail_of p) live.delivered (recorded_in (parts_of live)) (handed_in (parts_of live) + length (recorded_in (parts_of live)))
  record-handed none =
      let begins = recorded-begins meaning stands_after state p live s tail.0 tail.1 in
      let held = (held-tail meaning stands_after state p live s tail.0 tail.1).holds in
      record-next (tail_of p) live.delivered (handed_in (parts_of live)) (subst (λ (front : List Event). HandsOut (tail_of p) live.delivered front (handed_in (parts_of live))) none s.handed.events) held.gone (recorded_in (parts_of live)) (held.handed ∙ sym handed-count)
      (begins.0, ap (λ (es : List Event). (held.gone ++ es) ++ begins.0) recorded-is ∙ begins.1)

-- ---- a channel that rests, of which nothing has failed and all output was consumed

module _ {S T : Type 0} (meaning : S → Meaning) (stands_after : S → List Event → Type 0) (state : T → TransportState) (p : ChannelPlan) (live : LiveView S T) (r : LiveRests meaning stands_after state p live) (sound : IsSound live)
    (size : ℕ) (window : p.window ≡ Some (suc size)) (consumed : live.consumed ≡ length (accepted_in state (parts_of live))) where
  abbrev stands : LiveStands meaning stands_after state p live
  stands = r.stands

  abbrev its-head : (h : HeadView T) × (stands.goes.part.head ≡ Some h)
  its-head = head meaning stands_after state p live stands

  sound-part : has_failed (part_standing stands.goes.part) ≡ false
  sound-part = sym (ap (λ (ps : List (ChannelPartView S T)). option_map_or (λ (q : ChannelPartView S T). has_failed (part_standing q)) (slice_get ps 0) false) stands.goes.is_alone) ∙ sound.0

  pub settled : (h : HeadView T) → stands.goes.part.head ≡ Some h → IsSettled state live.ends h
  settled h there = r.settled h size (head-in stands.goes.part (parts_of live) stands.goes.is_alone ∙ there) consumed (sound-head stands.goes.part sound-part h there).0 window

  -- All output was sent,
  pub all-sent : consumed_of live ≡ length (out (head_of p))
  all-sent =
      let done = settled its-head.0 its-head.1 in
      let size = gone-size meaning stands_after state p live stands in
      let held = ap (λ (l : List ℕ). length l) (accepted-is meaning stands_after state p live stands) in
      let parts = length-append (gone meaning stands_after state p live stands) (state its-head.0.transport).accepted in
      let all = ap (λ (l : List ℕ). length l) (all-written meaning stands_after state p live stands sound its-head.0 its-head.1 done.all_read (stands.goes.by_plan.unclosed its-head.0 its-head.1) done.written) in
      omega (arith, size, consumed, held, parts, all)

  -- and all events were handed out, where none is left to be.
  pub all-delivered : live.front ≡ [] → recorded_in (parts_of live) ≡ [] → live.delivered ≡ length (tail_of p)
  all-delivered none empty =
      let last = tail meaning stands_after state p live stands in
      let done = settled its-head.0 its-head.1 in
      let held = (held-tail meaning stands_after state p live stands last.0 last.1).holds in
      let events = stands.handed.events in
      let whole = ap (λ (es : List Event). length es) (all-recorded meaning stands_after state p live stands sound its-head.0 its-head.1 done.all_read last.0 last.1) in
      let parts = length-append held.gone last.0.events in
      let none-held = ap (λ (es : List Event). length es) (sym (recorded-is meaning stands_after state p live stands) ∙ empty) in
      let count = held.handed in
      let handed = handed-count meaning stands_after state p live stands in
      let delivered = events.delivered_is in
      let front = ap (λ (es : List Event). length es) none in
      let all = events.handed_is in
      let both = length-append events.before live.front in
      omega (arith, whole, parts, none-held, count, handed, delivered, front, all, both)

  -- Where the end was said, both ends have taken it, and no flushed byte waits.
  pub record IsOver (t : TailView) (h : HeadView T) : Type 0 where
    pub tail : t.standing ≡ stand.Ended
    pub head : h.standing ≡ stand.Ended
    pub unfailed : h.failure ≡ None
    pub written : IsWritten state h

  pub all-over : live.ends ≡ true → (t : TailView) (h : HeadView T) → stands.goes.part.path.tail ≡ Some t → stands.goes.part.head ≡ Some h → IsOver t h
  all-over ends t h last first =
      let done = settled h first in
      let closed = done.end_read ends in
      record {
        tail = tail-ended meaning stands_after state p live stands sound h first done.all_read t last closed;
        head = head-ended meaning stands_after state p live stands sound h first done.all_read (stands.goes.by_plan.unclosed h first) closed;
        unfailed = (sound-head stands.goes.part sound-part h first).0;
        written = done.written;
      }

  -- So is what is read of them.
  module _ (ends : live.ends ≡ true) where
    pub tail-over : (t : TailView) → tail_in (parts_of live) ≡ Some t → is_over t.standing ≡ true
    tail-over t at = ap is_over (all-over ends t its-head.0 (sym (ap (λ (ps : List (ChannelPartView S T)). tail_in ps) stands.goes.is_alone) ∙ at) its-head.1).tail

    pub head-over : (h : HeadView T) → head_in (parts_of live) ≡ Some h → (is_over h.standing || is_some h.failure) ≡ true
    head-over h at =
        let last = tail meaning stands_after state p live stands in
        or_left (is_over h.standing) (is_some h.failure) (ap is_over (all-over ends last.0 h last.1 (sym (head-in stands.goes.part (parts_of live) stands.goes.is_alone) ∙ at)).head)

  pub written-out : (h : HeadView T) → head_in (parts_of live) ≡ Some h → (written : Bool) → ((ys zs : List Event) (sizes : List Change) → HeadStandsAfter state h ys zs sizes → written ≡ is_idle state h ys) → written ≡ true
  written-out h at written is =
      let there = sym (head-in stands.goes.part (parts_of live) stands.goes.is_alone) ∙ at in
      let took = (held-head meaning stands_after state p live stands h there).holds.took in
      is took.ys took.zs took.sizes took.after ∙ (settled h there).written took.ys took.zs took.sizes took.after
