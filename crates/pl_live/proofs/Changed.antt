-- A live channel of which more was handed out, or whose end was said to come; and the event that is next.
use Rattle.std.proofs.Common.{◌≡◌, ℕ, ◌+◌, ◌<◌, ◌≤◌, Bool, true, List, [], ◌∷◌, ◌++◌, length, Some, refl, sym, ap, ◌∙◌, arith, length-append, append-nil, append_assoc}
use Rattle.std.specs.Prelude.{slice_get}
use Rattle.std.proofs.lemmas.Bool.{both_ways}
use Rattle.pl_event.specs.declared.events.Event.{Event}
use Rattle.pl_event.specs.Meaning.{Meaning}
use Rattle.pl_head.specs.HeadStand.{HeadView}
use Rattle.pl_head.specs.Transports.{TransportState}
use Rattle.pl_world.specs.Plans.{ChannelPlan}
use Rattle.pl_world.specs.Reports.{tail_of}
use Rattle.pl_live.specs.LiveStand.{LiveView, LiveStands, LiveRests, HandsOut, ReadsFed, accepted_in, handed_in, parts_of}
use Rattle.pl_live.proofs.FedGoes.{goes-with}

reads-end : {T : Type 0} (p : ChannelPlan) (ends : Bool) (h : HeadView T) → ReadsFed p ends h → ReadsFed p true h
reads-end p ends h r = record { reads = r.reads; failed = r.failed; stand = r.stand; by_failure = r.by_failure; not_ended = λ e. absurd (both_ways true e refl) }

module _ {S T : Type 0} (meaning : S → Meaning) (stands_after : S → List Event → Type 0) (state : T → TransportState) (p : ChannelPlan) (live : LiveView S T) (s : LiveStands meaning stands_after state p live) where
  pub handed-out : (delivered : ℕ) (front : List Event) (consumed : ℕ) → HandsOut (tail_of p) delivered front (handed_in (parts_of live)) → consumed ≤ length (accepted_in state (parts_of live))
      → LiveStands meaning stands_after state p (record live { delivered = delivered; front = front; consumed = consumed })
  handed-out delivered front consumed events within = record {
    plan = s.plan;
    fed = s.fed;
    goes = s.goes;
    handed = record { events = events; gone_is = s.handed.gone_is; consumed_within = within };
    executors = s.executors;
    backlogs = s.backlogs;
    stands = s.stands;
    rests = s.rests;
  }

  pub end-said : LiveStands meaning stands_after state p (record live { ends = true })
  end-said = record {
    plan = s.plan;
    fed = s.fed;
    goes = record {
      part = s.goes.part;
      is_alone = s.goes.is_alone;
      by_plan =
          let g = s.goes.by_plan in
          goes-with meaning stands_after state p live.ends true s.goes.part s.goes.part.path.tail s.goes.part.head g.has_tail g.has_head (λ h at. (reads-end p live.ends h (g.reads h at), g.window h at, g.unclosed h at)) g;
    };
    handed = record { events = s.handed.events; gone_is = s.handed.gone_is; consumed_within = s.handed.consumed_within };
    executors = s.executors;
    backlogs = s.backlogs;
    stands = s.stands;
    rests = s.rests;
  }

-- Between two calls it rests, whatever was delivered.
pub delivered-rests : {S T : Type 0} (meaning : S → Meaning) (stands_after : S → List Event → Type 0) (state : T → TransportState) (p : ChannelPlan) (live : LiveView S T) → LiveRests meaning stands_after state p live → (delivered : ℕ) (front : List Event)
    → HandsOut (tail_of p) delivered front (handed_in (parts_of live)) → LiveRests meaning stands_after state p (record live { delivered = delivered; front = front })
delivered-rests meaning stands_after state p live r delivered front events = record {
  stands = handed-out meaning stands_after state p live r.stands delivered front live.consumed events r.stands.handed.consumed_within;
  settled = r.settled;
}

-- ---- the next event

get-first : (before more : List Event) (x : Event) → slice_get (before ++ x ∷ more) (length before) ≡ Some x
get-first [] more x = refl
get-first (y ∷ before) more x = get-first before more x

module _ (events : List Event) (delivered : ℕ) (event : Event) (front : List Event) (handed : ℕ) (h : HandsOut events delivered (event ∷ front) handed) where
  pub next-is : slice_get events delivered ≡ Some event
  next-is =
      ap (λ (es : List Event). slice_get es delivered) (sym (sym (append_assoc h.before (event ∷ front) h.rest) ∙ h.in_order)) ∙ ap (λ (n : ℕ). slice_get (h.before ++ event ∷ (front ++ h.rest)) n) (sym h.delivered_is) ∙ get-first h.before (front ++ h.rest) event

  pub next-delivered : HandsOut events (delivered + 1) front handed
  next-delivered =
      let same : (h.before ++ event ∷ []) ++ front ≡ h.before ++ event ∷ front = append_assoc h.before (event ∷ []) front in
      record {
        before = h.before ++ event ∷ [];
        rest = h.rest;
        in_order = ap (λ (es : List Event). es ++ h.rest) same ∙ h.in_order;
        delivered_is = length-append h.before (event ∷ []) ∙ ap (λ (n : ℕ). n + 1) h.delivered_is;
        handed_is = ap (λ (es : List Event). length es) same ∙ h.handed_is;
      }

  -- so few were told
  pub delivered-few : delivered < length events
  delivered-few =
      let whole = ap (λ (es : List Event). length es) h.in_order in
      let parts = length-append (h.before ++ event ∷ front) h.rest in
      let first = length-append h.before (event ∷ front) in
      let delivered = h.delivered_is in
      omega (arith, whole, parts, first, delivered)

-- A tail hands over its record where none of the one before is left.
pub record-next : (events : List Event) (delivered handed : ℕ) → HandsOut events delivered [] handed → (gone record' : List Event) → length gone ≡ handed → (rest : List Event) × ((gone ++ record') ++ rest ≡ events) → HandsOut events delivered record' (handed + length record')
record-next events delivered handed h gone record' count begins = record {
  before = gone;
  rest = begins.0;
  in_order = begins.1;
  delivered_is = count ∙ sym h.handed_is ∙ ap (λ (es : List Event). length es) (append-nil h.before) ∙ h.delivered_is;
  handed_is = length-append gone record' ∙ ap (λ (n : ℕ). n + length record') count;
}
