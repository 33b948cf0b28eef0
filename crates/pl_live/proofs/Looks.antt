-- What a look at a live channel's nodes tells of it.
use Rattle.std.proofs.Common.{◌≡◌, ℕ, true, false, not, List, Option, Some, None, refl, sym, ap, ◌∙◌}
use Rattle.std.specs.Prelude.{SomeIff, slice_get}
use Rattle.std.specs.Option.{option_map_or}
use Rattle.std.proofs.lemmas.Bool.{and_parts, both_ways}
use Rattle.std.proofs.lemmas.Option.{none-some}
use Rattle.pl_event.specs.declared.events.Event.{Event}
use Rattle.pl_event.specs.Meaning.{Meaning}
use Rattle.pl_context.specs.declared.standing.Standing.{Standing}
use Rattle.pl_context.specs.declared.standing.Standing.TheVariants as stand
use Rattle.pl_context.specs.Standings.{cause_of, has_failed, is_over}
use Rattle.pl_head.specs.HeadStand.{HeadView}
use Rattle.pl_head.specs.InputStand.{takes_bursts}
use Rattle.pl_head.specs.Transports.{TransportState}
use Rattle.pl_part.specs.Parts.{ChannelPartView, part_standing}
use Rattle.pl_world.specs.Plans.{ChannelPlan}
use Rattle.pl_live.specs.LiveStand.{LiveView, LiveStands, head_in, may_take, parts_of}
use Rattle.pl_live.proofs.Moved.{head-in}

-- what has no cause has not failed
pub no-cause : (s : Standing) → cause_of s ≡ None → has_failed s ≡ false
no-cause stand.Open e = refl
no-cause stand.Ended e = refl
no-cause (stand.Failed cause) e = absurd (none-some cause (sym e))

open-by : (s : Standing) → not (is_over s) ≡ true → s ≡ stand.Open
open-by stand.Open e = refl
open-by stand.Ended e = absurd (both_ways false refl e)
open-by (stand.Failed cause) e = absurd (both_ways false refl e)

-- a part of a limit, less more
pub some-less : (o : Option ℕ) (P Q : Type 0) (v w : ℕ) → SomeIff o P v → (P → Q) → (Q → P) → v ≡ w → SomeIff o Q w
some-less None P Q v w s to from e = λ q. s (from q)
some-less (Some x) P Q v w s to from e = (to s.0, s.1 ∙ e)

-- Where a burst may come, no node has ended or failed, and the head may be fed.
pub may-feed : {S T : Type 0} (meaning : S → Meaning) (stands_after : S → List Event → Type 0) (state : T → TransportState) (p : ChannelPlan) (live : LiveView S T) (s : LiveStands meaning stands_after state p live) → may_take live ≡ true
    → (part_standing s.goes.part ≡ stand.Open) × ((h : HeadView T) → s.goes.part.head ≡ Some h → takes_bursts h.input ≡ true)
may-feed meaning stands_after state p live s may =
    let stands = λ (ps : List (ChannelPartView _ _)). option_map_or (λ (q : ChannelPartView _ _). not (is_over (part_standing q))) (slice_get ps 0) false in
    let takes = λ (o : Option (HeadView _)). option_map_or (λ (h : HeadView _). takes_bursts h.input) o false in
    let both = and_parts (stands (parts_of live)) (takes (head_in (parts_of live))) may in (
      open-by (part_standing s.goes.part) (sym (ap stands s.goes.is_alone) ∙ both.0),
      λ h there. sym (ap takes (head-in s.goes.part (parts_of live) s.goes.is_alone ∙ there)) ∙ both.1,
    )
