-- What the world of a plan says of a lane.
use Rattle.std.proofs.Common.{◌≡◌, ℕ, zero, suc, ◌+◌, ◌<◌, ◌≤◌, Bool, true, false, cond, List, [], ◌∷◌, ◌++◌, map, Some, None, refl, sym, ap, ◌∙◌, subst, inl, inr, arith, ⊎_elim}
use Rattle.std.specs.Prelude.{slice_get}
use Rattle.std.specs.List.{range_with_len}
use Rattle.std.proofs.lemmas.Bool.{cond-true, cond-false, cases_Bool, cases_eq, cases_lt}
use Rattle.std.proofs.lemmas.Option.{none-some}
use Rattle.pl_event.specs.declared.events.Event.{Event}
use Rattle.pl_event.specs.declared.envelopes.Lane.{Lane}
use Rattle.pl_event.specs.Hops.{same_lane, data_lane}
use Rattle.pl_event.specs.Worlds.{content_in}
use Rattle.pl_event.proofs.SameLanes.{same_lane-equal, same_lane-self}
use Rattle.pl_world.specs.Plans.{ChannelPlan, Plan, content, planned_head_hop}
use Rattle.pl_channel.specs.Lanes.{channel_lanes, planned_lanes_from, planned_lanes}

-- ---- two worlds, one behind the other

-- what the first has stays
first-has : (w v : List (Lane × List Event)) (l : Lane) (events : List Event) → content_in w l ≡ Some events → content_in (w ++ v) l ≡ Some events
first-has [] v l events e = absurd (none-some events e)
first-has (entry ∷ w) v l events e = by (first-has w v l events) (same_lane l entry.0) e
  where
    by : (content_in w l ≡ Some events → content_in (w ++ v) l ≡ Some events) → (b : Bool) → cond b (Some entry.1) (content_in w l) ≡ Some events
        → cond b (Some entry.1) (content_in (w ++ v) l) ≡ Some events
    by rest true h = h
    by rest false h = rest h

-- what it has not the second may have
first-lacks : (w v : List (Lane × List Event)) (l : Lane) → content_in w l ≡ None → content_in (w ++ v) l ≡ content_in v l
first-lacks [] v l e = refl
first-lacks (entry ∷ w) v l e = by (first-lacks w v l) (same_lane l entry.0) e
  where
    no : Some entry.1 ≡ None → ⊥
    no e = cc

    by : (content_in w l ≡ None → content_in (w ++ v) l ≡ content_in v l) → (b : Bool) → cond b (Some entry.1) (content_in w l) ≡ None → cond b (Some entry.1) (content_in (w ++ v) l) ≡ content_in v l
    by rest true h = absurd (no h)
    by rest false h = rest h

-- ---- a channel

lanes-apart : (l m : Lane) → (l ≡ m → ⊥) → same_lane l m ≡ false
lanes-apart l m off = ⊎_elim (λ (t : same_lane l m ≡ true). absurd (off (same_lane-equal l m t))) (λ (f : same_lane l m ≡ false). f) (cases_Bool (same_lane l m))

module _ (channel : ℕ) (p : ChannelPlan) where
  -- some of its lanes, by hop
  abbrev some_lanes : ℕ → ℕ → List (Lane × List Event)
  some_lanes first n = map (λ hop. (data_lane channel hop, content p hop)) (range_with_len first n)

  own-lane : (hop n first : ℕ) → first ≤ hop → hop < first + n → content_in (some_lanes first n) (data_lane channel hop) ≡ Some (content p hop)
  own-lane hop zero first from to = absurd (omega (arith, from, to))
  own-lane hop (suc n) first from to = elim (cases_eq hop first) [
    | inl here ↦
        cond-true (same_lane (data_lane channel hop) (data_lane channel first)) (Some (content p first)) (content_in (some_lanes (first + 1) n) (data_lane channel hop))
        (subst (λ (k : ℕ). same_lane (data_lane channel hop) (data_lane channel k) ≡ true) here (same_lane-self (data_lane channel hop)))
        ∙ ap (λ (k : ℕ). Some (content p k)) (sym here)
    | inr later ↦
        cond-false (same_lane (data_lane channel hop) (data_lane channel first)) (Some (content p first)) (content_in (some_lanes (first + 1) n) (data_lane channel hop))
        (lanes-apart (data_lane channel hop) (data_lane channel first) (λ e. later (ap (λ (l : Lane). l.hop) e)))
        ∙ own-lane hop n (first + 1) (omega (arith, from, later)) (omega (arith, to))
  ]

  -- it has none of another channel
  no-lane : (other hop n first : ℕ) → (other ≡ channel → ⊥) → content_in (some_lanes first n) (data_lane other hop) ≡ None
  no-lane other hop zero first off = refl
  no-lane other hop (suc n) first off =
      cond-false (same_lane (data_lane other hop) (data_lane channel first)) (Some (content p first)) (content_in (some_lanes (first + 1) n) (data_lane other hop))
      (lanes-apart (data_lane other hop) (data_lane channel first) (λ e. off (ap (λ (l : Lane). l.channel) e)))
      ∙ no-lane other hop n (first + 1) off

  -- and none past its head's
  past-lane : (hop n first : ℕ) → first + n ≤ hop → content_in (some_lanes first n) (data_lane channel hop) ≡ None
  past-lane hop zero first past = refl
  past-lane hop (suc n) first past =
      cond-false (same_lane (data_lane channel hop) (data_lane channel first)) (Some (content p first)) (content_in (some_lanes (first + 1) n) (data_lane channel hop))
      (lanes-apart (data_lane channel hop) (data_lane channel first) (λ e. let same = ap (λ (l : Lane). l.hop) e in absurd (omega (arith, same, past))))
      ∙ past-lane hop n (first + 1) (omega (arith, past))

  -- each of its lanes carries what its plan gives it
  pub channel-lane : (hop : ℕ) → hop ≤ planned_head_hop p → content_in (channel_lanes channel p) (data_lane channel hop) ≡ Some (content p hop)
  channel-lane hop within = own-lane hop (planned_head_hop p + 1) 0 (omega arith) (omega (arith, within))

-- ---- a plan

-- the lanes of a channel behind the first are among those of the channels behind it
behind-first : (q : ChannelPlan) (ps : List ChannelPlan) (first i hop : ℕ) → content_in (planned_lanes_from first (q ∷ ps)) (data_lane (first + suc i) hop) ≡ content_in (planned_lanes_from (first + 1) ps) (data_lane ((first + 1) + i) hop)
behind-first q ps first i hop =
    let next : first + suc i ≡ (first + 1) + i = omega arith in
    first-lacks (channel_lanes first q) (planned_lanes_from (first + 1) ps) (data_lane (first + suc i) hop)
    (no-lane first q (first + suc i) hop (planned_head_hop q + 1) 0 (λ e. omega (arith, e)))
    ∙ ap (λ (c : ℕ). content_in (planned_lanes_from (first + 1) ps) (data_lane c hop)) next

lane-from : (ps : List ChannelPlan) (first i hop : ℕ) (p : ChannelPlan) → slice_get ps i ≡ Some p → hop ≤ planned_head_hop p → content_in (planned_lanes_from first ps) (data_lane (first + i) hop) ≡ Some (content p hop)
lane-from [] first i hop p at within = absurd (none-some p at)
lane-from (q ∷ ps) first zero hop p at within =
    let own : first + 0 ≡ first = omega arith in
    first-has (channel_lanes first q) (planned_lanes_from (first + 1) ps) (data_lane (first + 0) hop) (content p hop)
    (ap (λ (c : ℕ). content_in (channel_lanes first q) (data_lane c hop)) own ∙ ap (λ (r : ChannelPlan). content_in (channel_lanes first r) (data_lane first hop)) same ∙ channel-lane first p hop within)
  where
    same : q ≡ p
    same = cc at
lane-from (q ∷ ps) first (suc i) hop p at within = behind-first q ps first i hop ∙ lane-from ps (first + 1) i hop p at within

-- Each lane of a channel of the plan carries what its plan gives it.
pub content-planned : (plan : Plan) (channel : ℕ) (p : ChannelPlan) → slice_get plan.channels channel ≡ Some p → (hop : ℕ) → hop ≤ planned_head_hop p → content_in (planned_lanes plan) (data_lane channel hop) ≡ Some (content p hop)
content-planned plan channel p at hop within =
    let own : channel ≡ 0 + channel = omega arith in
    ap (λ (c : ℕ). content_in (planned_lanes plan) (data_lane c hop)) own ∙ lane-from plan.channels 0 channel hop p at within

-- the channels behind another have no lane of it
later-none : (ps : List ChannelPlan) (first other hop : ℕ) → other < first → content_in (planned_lanes_from first ps) (data_lane other hop) ≡ None
later-none [] first other hop before = refl
later-none (q ∷ ps) first other hop before =
    first-lacks (channel_lanes first q) (planned_lanes_from (first + 1) ps) (data_lane other hop)
    (no-lane first q other hop (planned_head_hop q + 1) 0 (λ e. omega (arith, e, before)))
    ∙ later-none ps (first + 1) other hop (omega (arith, before))

past-from : (ps : List ChannelPlan) (first i hop : ℕ) (p : ChannelPlan) → slice_get ps i ≡ Some p → planned_head_hop p < hop → content_in (planned_lanes_from first ps) (data_lane (first + i) hop) ≡ None
past-from [] first i hop p at past = absurd (none-some p at)
past-from (q ∷ ps) first zero hop p at past =
    let own : first + 0 ≡ first = omega arith in
    let far : planned_head_hop q < hop = subst (λ (r : ChannelPlan). planned_head_hop r < hop) (sym same) past in
    ap (λ (c : ℕ). content_in (planned_lanes_from first (q ∷ ps)) (data_lane c hop)) own
    ∙ first-lacks (channel_lanes first q) (planned_lanes_from (first + 1) ps) (data_lane first hop) (past-lane first q hop (planned_head_hop q + 1) 0 (omega (arith, far)))
    ∙ later-none ps (first + 1) first hop (omega arith)
  where
    same : q ≡ p
    same = cc at
past-from (q ∷ ps) first (suc i) hop p at past = behind-first q ps first i hop ∙ past-from ps (first + 1) i hop p at past

-- It has no other lanes.
pub lane-within : (plan : Plan) (channel : ℕ) (p : ChannelPlan) → slice_get plan.channels channel ≡ Some p → (hop : ℕ) (events : List Event) → content_in (planned_lanes plan) (data_lane channel hop) ≡ Some events → hop ≤ planned_head_hop p
lane-within plan channel p at hop events has = ⊎_elim
    (λ (past : planned_head_hop p < hop).
    let own : channel ≡ 0 + channel = omega arith in
    absurd (none-some events (sym (ap (λ (c : ℕ). content_in (planned_lanes plan) (data_lane c hop)) own ∙ past-from plan.channels 0 channel hop p at past) ∙ has)))
    (λ (within : hop ≤ planned_head_hop p). within)
    (cases_lt (planned_head_hop p) hop)
