-- What the tail of a live channel has recorded, and what its transport has accepted, begins what its handlers make of all that it was fed.
use Rattle.std.proofs.Common.{◌≡◌, ℕ, false, List, [], ◌++◌, Option, Some, None, refl, ap, subst, ◌∙◌, arith, append-nil}
use Rattle.std.specs.Prelude.{slice_get}
use Rattle.pl_event.specs.declared.events.Event.{Event}
use Rattle.pl_event.specs.declared.outcomes.Cause.{Cause}
use Rattle.pl_event.specs.Meaning.{Meaning, IsPrefixOf}
use Rattle.pl_event.specs.Worlds.{World}
use Rattle.pl_context.specs.declared.standing.Standing.{Standing}
use Rattle.pl_context.specs.declared.standing.Standing.TheVariants as standings
use Rattle.pl_context.specs.Standings.{has_failed, is_over}
use Rattle.pl_context.specs.TailViews.{TailView}
use Rattle.pl_head.specs.HeadStand.{HeadView, BufferAfter}
use Rattle.pl_head.specs.Transports.{TransportState}
use Rattle.pl_head.specs.Writes.{out}
use Rattle.pl_part.specs.HeadHolds.{HeadHolds, HeadTook}
use Rattle.pl_part.specs.Parts.{ChannelPartView}
use Rattle.pl_part.specs.TailHolds.{TailHolds}
use Rattle.pl_part.proofs.HeadReports.{bytes-behind}
use Rattle.pl_world.specs.Plans.{ChannelPlan, tail_hop, planned_head_hop}
use Rattle.pl_world.specs.Reports.{tail_of, head_of}
use Rattle.pl_channel.specs.Channels.{PartStands}
use Rattle.pl_channel.specs.Lanes.{world_of}
use Rattle.pl_channel.proofs.HeadLanes.{comes-to, first-of}
use Rattle.pl_channel.proofs.LaneContents.{content-planned}
use Rattle.pl_live.specs.LiveStand.{LiveView, LiveStands, alone, parts_of}

module _ {S T : Type 0} (meaning : S → Meaning) (stands_after : S → List Event → Type 0) (state : T → TransportState) (p : ChannelPlan) (live : LiveView S T) (s : LiveStands meaning stands_after state p live) where
  abbrev part : ChannelPartView S T
  part = s.goes.part

  abbrev world : World
  world = world_of false (alone p)

  pub its-part : slice_get (parts_of live) 0 ≡ Some part
  its-part = ap (λ (ps : List (ChannelPartView S T)). slice_get ps 0) s.goes.is_alone

  pub part-stands : PartStands world meaning stands_after state 0 part
  part-stands = s.stands.hold.parts 0 part its-part

  -- ---- the tail

  abbrev pub held-tail : (t : TailView) → part.path.tail ≡ Some t → TailHolds world t
  held-tail t has = (part-stands.holds.path.tail t has).0

  pub to-tail : (t : TailView) (has : part.path.tail ≡ Some t) → (held-tail t has).events ≡ tail_of p
  to-tail t has =
      let at = part-stands.holds.path.tail t has in
      comes-to false (alone p) 0 at.0.events (tail_of p) t.channel t.hop (tail_hop p) at.0.holds.own (at.1 ∙ part-stands.channel) (at.2 ∙ s.goes.by_plan.tail_at) (content-planned (alone p) 0 p refl (tail_hop p) (omega arith))

  -- what it has recorded, handed over or not
  abbrev pub all-recorded-by : (t : TailView) → part.path.tail ≡ Some t → List Event
  all-recorded-by t has = (held-tail t has).holds.gone ++ t.events

  pub recorded-begins : (t : TailView) (has : part.path.tail ≡ Some t) → (rest : List Event) × (all-recorded-by t has ++ rest ≡ tail_of p)
  recorded-begins t has = subst (λ (xs : List Event). IsPrefixOf (all-recorded-by t has) xs) (to-tail t has) (by t.standing refl)
    where
      by : (x : Standing) → t.standing ≡ x → IsPrefixOf (all-recorded-by t has) (held-tail t has).events
      by standings.Open at = first-of t.taken (all-recorded-by t has) (held-tail t has).events ((held-tail t has).holds.taken at).1
      by standings.Ended at = ([], append-nil (all-recorded-by t has) ∙ (held-tail t has).holds.ended at)
      by (standings.Failed cause) at = let some = (held-tail t has).holds.failed (ap has_failed at) in first-of some.0 (all-recorded-by t has) (held-tail t has).events some.2

  -- ---- the head

  module _ (h : HeadView T) (has : part.head ≡ Some h) where
    abbrev pub held-head : HeadHolds state world h
    held-head = (part-stands.holds.head h has).0

    pub to-head : held-head.events ≡ head_of p
    to-head =
        let at = part-stands.holds.head h has in
        comes-to false (alone p) 0 at.0.events (head_of p) h.channel h.hop (planned_head_hop p) at.0.holds.own (at.1 ∙ part-stands.channel) (at.2 ∙ s.goes.by_plan.head_at) (content-planned (alone p) 0 p refl (planned_head_hop p) (omega arith))

    abbrev pub took : HeadTook state held-head.events h
    took = held-head.holds.took

    abbrev accepted : List ℕ
    accepted = (state h.transport).accepted

    pub output : (left : List ℕ) × (accepted ++ left ≡ out took.ys)
    output = by h.failure took.after
      where
        by : (f : Option Cause) → BufferAfter f accepted h.buffer took.ys took.zs (is_over h.standing) took.sizes → (left : List ℕ) × (accepted ++ left ≡ out took.ys)
        by None a = (a.1.left, a.1.output)
        by (Some cause) a = (a.left, a.output)

    -- what is gone, and the bytes that its transport holds behind that
    pub accepted-begins : (rest : List ℕ) × (out took.gone ++ accepted ++ rest ≡ out (head_of p))
    accepted-begins = let b = bytes-behind state h held-head.events took in (b.0, b.1 ∙ ap out to-head)
