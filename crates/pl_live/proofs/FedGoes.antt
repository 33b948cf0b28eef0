-- The nodes of a live channel that is fed a burst go by its plan with this burst more, and so does what was handed out.
use Rattle.std.proofs.Common.{◌≡◌, ℕ, ◌≤◌, Bool, true, false, List, [], ◌∷◌, ◌++◌, length, Option, Some, refl, sym, ap, subst, ◌∙◌, arith, length-append, append_assoc}
use Rattle.std.specs.Prelude.{is_some}
use Rattle.std.proofs.lemmas.Bool.{false≢true}
use Rattle.pl_event.specs.declared.elements.Element.{Element}
use Rattle.pl_event.specs.declared.events.Event.{Event}
use Rattle.pl_event.specs.Inputs.{burst_events, recorded_input}
use Rattle.pl_event.specs.Meaning.{Meaning, IsPrefixOf}
use Rattle.pl_event.proofs.LaneLemmas.{lane-prefix}
use Rattle.pl_context.specs.TailViews.{TailView}
use Rattle.pl_head.specs.HeadStand.{HeadView, fed_head, gone_of}
use Rattle.pl_head.specs.InputStand.{fed_plan, takes_bursts}
use Rattle.pl_head.specs.Transports.{TransportState}
use Rattle.pl_head.proofs.FedPlans.{fed_stands}
use Rattle.pl_part.specs.Growing.{fed_part}
use Rattle.pl_part.specs.Parts.{ChannelPartView}
use Rattle.pl_part.proofs.Growing.{input-more, reads-on, reads-open}
use Rattle.pl_world.specs.Plans.{ChannelPlan, content, tail_hop}
use Rattle.pl_world.specs.Reports.{tail_of}
use Rattle.pl_channel.specs.Feeding.{fed_channel}
use Rattle.pl_live.specs.LiveStand.{IsUnclosed, GoesByPlan, GoesAlone, HandsOut, ReadsFed, accepted_in, gone_in, handed_in}
use Rattle.pl_live.proofs.FedViews.{head-fed, of-head, still-there}

-- ---- other ends

-- Nodes of which the tail and the head alone are others go by the plan still, where both are there and this head reads what was fed.
pub goes-with : {S T : Type 0} (meaning : S → Meaning) (stands_after : S → List Event → Type 0) (state : T → TransportState) (p : ChannelPlan) (ends ends' : Bool) (part : ChannelPartView S T) (tail : Option TailView) (head : Option (HeadView T))
    → is_some tail ≡ true → is_some head ≡ true → ((h : HeadView T) → head ≡ Some h → ReadsFed p ends' h × ((state h.transport).window ≡ p.window) × IsUnclosed h)
    → GoesByPlan meaning stands_after state p ends part → GoesByPlan meaning stands_after state p ends' (record part { path = record part.path { tail = tail }; head = head })
goes-with meaning stands_after state p ends ends' part tail head tail_there head_there fed g = record {
  executors_are = g.executors_are;
  tail_at = g.tail_at;
  head_at = g.head_at;
  meant = g.meant;
  has_head = head_there;
  has_tail = tail_there;
  reads = λ h at. (fed h at).0;
  window = λ h at. (fed h at).1;
  unclosed = λ h at. (fed h at).2;
}

-- ---- a burst more

-- its head has made the same reads, and is open
reads-fed : {T : Type 0} (p : ChannelPlan) (burst : List Element) (ends : Bool) (h : HeadView T) → takes_bursts h.input ≡ true → ReadsFed p ends h → ReadsFed (fed_channel burst p) ends (fed_head burst h)
reads-fed p burst ends h may r =
    let more = length-append p.bursts (burst ∷ []) in
    record {
      reads = r.reads;
      failed = false;
      stand = fed_stands p.bursts burst r.reads h.input (reads-open h.input may).0 (reads-on (fed_plan p.bursts) r.reads r.failed h.input r.stand may);
      by_failure = λ e. absurd (false≢true e);
      not_ended = λ e. let few = r.not_ended e in omega (arith, few, more);
    }

module _ {S T : Type 0} (meaning : S → Meaning) (stands_after : S → List Event → Type 0) (state : T → TransportState) (p : ChannelPlan) (burst : List Element) (ends : Bool) where
  by-plan : (part : ChannelPartView S T) → ((h : HeadView T) → part.head ≡ Some h → takes_bursts h.input ≡ true) → GoesByPlan meaning stands_after state p ends part
      → GoesByPlan meaning stands_after state (fed_channel burst p) ends (fed_part burst part)
  by-plan part may g = record {
    executors_are = g.executors_are;
    tail_at = g.tail_at;
    head_at = g.head_at;
    meant = g.meant;
    has_head = still-there burst part ∙ g.has_head;
    has_tail = g.has_tail;
    reads = head-fed burst part (λ h. ReadsFed (fed_channel burst p) ends h) (λ h there. reads-fed p burst ends h (may h there) (g.reads h there));
    window = head-fed burst part (λ h. (state h.transport).window ≡ p.window) (λ h there. g.window h there);
    unclosed = head-fed burst part (λ h. IsUnclosed h) (λ h there. g.unclosed h there);
  }

  -- It is alone still.
  pub goes-fed : (parts : List (ChannelPartView S T)) (g : GoesAlone meaning stands_after state p ends parts) → ((h : HeadView T) → g.part.head ≡ Some h → takes_bursts h.input ≡ true)
      → GoesAlone meaning stands_after state (fed_channel burst p) ends (fed_part burst g.part ∷ [])
  goes-fed parts g may = record { part = fed_part burst g.part; is_alone = refl; by_plan = by-plan g.part may g.by_plan }

-- ---- what was handed out

longer : (p : ChannelPlan) (burst : List Element) (hop : ℕ) → IsPrefixOf (content p hop) (content (fed_channel burst p) hop)
longer p burst hop = lane-prefix p.inbound p.outbound hop (recorded_input p.bursts) (recorded_input (p.bursts ++ burst ∷ [])) (burst_events burst, sym (input-more burst p.bursts))

hands-more : (events more : List Event) (delivered : ℕ) (front : List Event) (handed : ℕ) → HandsOut events delivered front handed → HandsOut (events ++ more) delivered front handed
hands-more events more delivered front handed h = record {
  before = h.before;
  rest = h.rest ++ more;
  in_order = sym (append_assoc (h.before ++ front) h.rest more) ∙ ap (λ (es : List Event). es ++ more) h.in_order;
  delivered_is = h.delivered_is;
  handed_is = h.handed_is;
}

-- It begins what its plan says with this burst more.
module _ {S T : Type 0} (state : T → TransportState) (p : ChannelPlan) (burst : List Element) where
  pub handed-fed : (parts : List (ChannelPartView S T)) (part : ChannelPartView S T) (delivered : ℕ) (front : List Event) (gone consumed : ℕ) → parts ≡ part ∷ []
      → HandsOut (tail_of p) delivered front (handed_in parts) → gone ≡ gone_in parts → consumed ≤ length (accepted_in state parts)
      → HandsOut (tail_of (fed_channel burst p)) delivered front (handed_in (fed_part burst part ∷ [])) × (gone ≡ gone_in (fed_part burst part ∷ [])) × (consumed ≤ length (accepted_in state (fed_part burst part ∷ [])))
  handed-fed parts part delivered front gone consumed alone events gone-is within =
      let to-tail = longer p burst (tail_hop p) in (
        subst (λ (x : List Event × ℕ). HandsOut x.0 delivered front x.1) (λ i. (to-tail.1 i, ap (λ (ps : List (ChannelPartView S T)). handed_in ps) alone i)) (hands-more (tail_of p) to-tail.0 delivered front (handed_in parts) events),
        gone-is ∙ ap (λ (ps : List (ChannelPartView S T)). gone_in ps) alone ∙ ap (λ (x : ℕ × Bool). x.0) (sym (of-head burst part (λ h. gone_of h) (0, false) (λ h. refl))),
        subst (λ (x : List ℕ). consumed ≤ length x) (ap (λ (ps : List (ChannelPartView S T)). accepted_in state ps) alone ∙ sym (of-head burst part (λ h. (state h.transport).accepted) [] (λ h. refl))) within,
      )
