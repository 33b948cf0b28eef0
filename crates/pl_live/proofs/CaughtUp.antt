-- A live channel of which nothing has failed, and whose head has read all bursts, has caught up with what it was fed.
use Rattle.std.proofs.Common.{◌≡◌, ℕ, ◌+◌, ◌≤◌, ◌||◌, true, false, List, [], ◌∷◌, ◌++◌, length, Option, None, Some, refl, sym, ap, subst, ◌∙◌, arith, length-append, append-nil}
use Rattle.std.specs.Prelude.{is_some, nat_le, slice_get}
use Rattle.std.proofs.lemmas.Bool.{both_ways, leb-true, or_from}
use Rattle.std.proofs.lemmas.List.{nil_from_length, take_all}
use Rattle.pl_event.specs.declared.envelopes.Lane.{Lane}
use Rattle.pl_event.specs.declared.events.Event.{Event}
use Rattle.pl_event.specs.declared.outcomes.Cause.{Cause}
use Rattle.pl_event.specs.Hops.{data_lane}
use Rattle.pl_event.specs.Inputs.{recorded_input}
use Rattle.pl_event.specs.Meaning.{Meaning}
use Rattle.pl_event.specs.Worlds.{World}
use Rattle.pl_event.proofs.LaneLemmas.{lane-near}
use Rattle.pl_event.proofs.Lists.{All-at}
use Rattle.pl_context.specs.declared.standing.Standing.{Standing}
use Rattle.pl_context.specs.declared.standing.Standing.TheVariants as standings
use Rattle.pl_context.specs.Standings.{has_failed, is_over}
use Rattle.pl_context.specs.TailViews.{TailView}
use Rattle.pl_flow.specs.Flows.{Point}
use Rattle.pl_head.specs.InputStand.{steps_left}
use Rattle.pl_head.specs.HeadStand.{HeadView, BufferAfter}
use Rattle.pl_head.specs.Transports.{TransportState}
use Rattle.pl_head.specs.Writes.{out}
use Rattle.pl_head.proofs.Forgetting.{out-behind}
use Rattle.pl_part.specs.HeadHolds.{HeadHolds, HeadTook}
use Rattle.pl_part.specs.Parts.{ChannelPartView, part_standing}
use Rattle.pl_part.specs.TailHolds.{TailHolds}
use Rattle.pl_part.proofs.Standings.{sound-head, sound-tail}
use Rattle.pl_world.specs.Plans.{ChannelPlan}
use Rattle.pl_world.specs.PlanRules.{IsChannelPlan}
use Rattle.pl_world.specs.Reports.{tail_of, head_of}
use Rattle.pl_channel.specs.Channels.{taken_of, came_of, writes_of}
use Rattle.pl_channel.specs.Lanes.{world_of}
use Rattle.pl_replay.specs.Moves.{nodes_view}
use Rattle.pl_live.specs.LiveStand.{LiveView, LiveStands, IsSound, IsWritten, alone, parts_of}
use Rattle.pl_live.proofs.AllHops.{head-took, tail-took}
use Rattle.pl_live.proofs.AllRead.{all-read, end-small, end_of, first-came, first-written}
use Rattle.pl_live.proofs.ContextsGive.{IsThrough, of-part}
use Rattle.pl_live.proofs.LiveEnds.{held-head, held-tail, its-part, output, part-stands, to-head, to-tail}
use Rattle.pl_live.proofs.TakenLanes.{all-taken}
pub use Rattle.pl_live.proofs.LiveEnds.{accepted-begins, recorded-begins}

module _ {S T : Type 0} (meaning : S → Meaning) (stands_after : S → List Event → Type 0) (state : T → TransportState) (p : ChannelPlan) (live : LiveView S T) (s : LiveStands meaning stands_after state p live)
    (sound : IsSound live) (h : HeadView T) (has : s.goes.part.head ≡ Some h) (read : steps_left h.input ≡ 0) where
  abbrev part : ChannelPartView S T
  part = s.goes.part

  abbrev ps : List (ChannelPartView S T)
  ps = parts_of live

  abbrev world : World
  world = world_of false (alone p)

  here : slice_get ps 0 ≡ Some part
  here = its-part meaning stands_after state p live s

  unfailed : has_failed (part_standing part) ≡ false
  unfailed = sym (of-part ps part here (λ (q : ChannelPartView S T). has_failed (part_standing q)) false) ∙ sound.0

  taken-all : (l : Lane) → writes_of meaning ps l ≡ true → taken_of ps l ≡ (came_of meaning ps l).next
  taken-all = all-taken world (nodes_view meaning live.stations.nodes) live.stations.stations.items s.backlogs live.stations.work s.stands.runs s.executors s.rests sound.1

  rule : IsChannelPlan 1 p
  rule = All-at (IsChannelPlan 1) (p ∷ []) 0 p s.plan.ruled.channels refl

  -- one item more than the events of a lane where the end was read
  abbrev more : ℕ
  more = end_of h.input.port.is_open

  first : IsThrough p ps more 0
  first =
      let stand = part-stands meaning stands_after state p live s in
      let fed = s.goes.by_plan.reads h has in
      let came = ap (λ (q : Point). q.next) (first-came world meaning stands_after state ps part here stand h has) in
      let taken = taken-all (data_lane 0 0) (first-written world meaning stands_after state ps part here stand h has) in
      let size = ap (λ (es : List Event). length es) (lane-near p.inbound p.outbound (recorded_input p.bursts) 0 (omega arith)) in
      omega (arith, taken, came, size, all-read p.bursts fed.reads h.input fed.failed fed.stand read)

  -- ---- the tail

  module _ (t : TailView) (there : part.path.tail ≡ Some t) where
    abbrev tail : TailHolds world t
    tail = held-tail meaning stands_after state p live s t there

    tail-is : tail.events ≡ tail_of p
    tail-is = to-tail meaning stands_after state p live s t there

    tail-all : length tail.events + more ≤ t.taken
    tail-all =
        let size = ap (λ (es : List Event). length es) tail-is in
        omega (arith, size, tail-took meaning stands_after state p ps part s.stands.hold here live.ends s.goes.by_plan rule unfailed taken-all more (end-small h.input.port.is_open) first t there)

    tail-sound : has_failed t.standing ≡ false
    tail-sound = sound-tail part unfailed t there

    pub all-recorded : tail.holds.gone ++ t.events ≡ tail_of p
    all-recorded = by t.standing refl ∙ tail-is
      where
        by : (x : Standing) → t.standing ≡ x → tail.holds.gone ++ t.events ≡ tail.events
        by standings.Open at = (tail.holds.taken at).1 ∙ take_all t.taken tail.events (let all = tail-all in omega (arith, all))
        by standings.Ended at = tail.holds.ended at
        by (standings.Failed cause) at = absurd (both_ways (has_failed t.standing) tail-sound (ap has_failed at))

    pub tail-ended : h.input.port.is_open ≡ false → t.standing ≡ standings.Ended
    tail-ended ended = by t.standing refl
      where
        by : (x : Standing) → t.standing ≡ x → t.standing ≡ standings.Ended
        by standings.Open at =
            let all = tail-all in
            let one = ap end_of ended in
            let few = (tail.holds.taken at).0 in
            absurd (omega (arith, all, one, few))
        by standings.Ended at = at
        by (standings.Failed cause) at = absurd (both_ways (has_failed t.standing) tail-sound (ap has_failed at))

  -- ---- the head

  -- One that has not failed by itself has noted no end since.
  module _ (unclosed : h.failure ≡ None → h.is_closed ≡ false) where
    abbrev head : HeadHolds state world h
    head = held-head meaning stands_after state p live s h has

    abbrev took : HeadTook state head.events h
    took = head.holds.took

    abbrev accepted : List ℕ
    accepted = (state h.transport).accepted

    head-is : head.events ≡ head_of p
    head-is = to-head meaning stands_after state p live s h has

    head-sound : (h.failure ≡ None) × (has_failed h.standing ≡ false)
    head-sound = sound-head part unfailed h has

    -- while its lane is open it takes what it counts
    head-open : h.standing ≡ standings.Open → length head.events + more ≤ took.count
    head-open at =
        let size = ap (λ (es : List Event). length es) head-is in
        let count = took.running (or_from (is_over h.standing) h.is_closed (ap is_over at) (unclosed head-sound.0)) in
        omega (arith, size, count, head-took meaning stands_after state p ps part s.stands.hold here live.ends s.goes.by_plan rule unfailed taken-all more (end-small h.input.port.is_open) first h has)

    counted : length head.events ≤ took.count
    counted = by h.standing refl
      where
        by : (x : Standing) → h.standing ≡ x → length head.events ≤ took.count
        by standings.Open at = let all = head-open at in omega (arith, all)
        by standings.Ended at = let all = took.ended at in omega (arith, all)
        by (standings.Failed cause) at = absurd (both_ways (has_failed h.standing) head-sound.1 (ap has_failed at))

    -- it has taken all before a failure of its own, which it has not
    all-came : took.gone ++ took.ys ≡ head_of p
    all-came =
        let none = (subst (λ (f : Option Cause). BufferAfter f accepted h.buffer took.ys took.zs (is_over h.standing) took.sizes) head-sound.0 took.after).0 in
        sym (append-nil (took.gone ++ took.ys)) ∙ ap (λ (zs : List Event). (took.gone ++ took.ys) ++ zs) (sym none) ∙ took.in_order ∙ take_all took.count head.events counted ∙ head-is

    pub all-written : IsWritten state h → out took.gone ++ accepted ≡ out (head_of p)
    all-written written =
        let left = output meaning stands_after state p live s h has in
        let idle = ap (λ (f : Option Cause). is_some f || nat_le (length (out took.ys)) (length accepted)) (sym head-sound.0) ∙ written took.ys took.zs took.sizes took.after in
        let least = leb-true (length (out took.ys)) (length accepted) idle in
        let whole = ap (λ (bs : List ℕ). length bs) left.1 in
        let none = nil_from_length left.0 (omega (arith, least, whole, length-append accepted left.0)) in
        ap (λ (bs : List ℕ). out took.gone ++ bs) (sym (append-nil accepted) ∙ ap (λ (bs : List ℕ). accepted ++ bs) (sym none) ∙ left.1)
        ∙ sym (out-behind took.gone took.ys took.flushed) ∙ ap out all-came

    pub head-ended : h.input.port.is_open ≡ false → h.standing ≡ standings.Ended
    head-ended ended = by h.standing refl
      where
        by : (x : Standing) → h.standing ≡ x → h.standing ≡ standings.Ended
        by standings.Open at =
            let all = head-open at in
            let one = ap end_of ended in
            let within = took.within in
            absurd (omega (arith, all, one, within))
        by standings.Ended at = at
        by (standings.Failed cause) at = absurd (both_ways (has_failed h.standing) head-sound.1 (ap has_failed at))
