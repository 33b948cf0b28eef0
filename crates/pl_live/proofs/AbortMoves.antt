-- What an abort leaves of a live channel.
use Rattle.std.proofs.Common.{◌≡◌, ℕ, ◌||◌, Bool, true, false, not, ◌&&◌, List, [], length, Option, Some, None, refl, sym, ap, subst, ◌∙◌, arith}
use Rattle.std.specs.Prelude.{is_some, slice_get, vec_len}
use Rattle.std.specs.Option.{option_map_or}
use Rattle.std.proofs.lemmas.Bool.{both_ways}
use Rattle.std.proofs.lemmas.Option.{same_Some}
use Rattle.pl_event.specs.declared.events.Event.{Event}
use Rattle.pl_event.specs.declared.outcomes.Cause.{Cause}
use Rattle.pl_event.specs.declared.outcomes.Cause.TheVariants.{Aborted}
use Rattle.pl_event.specs.Meaning.{Meaning}
use Rattle.pl_event.specs.Worlds.{World}
use Rattle.pl_event.proofs.Lists.{some-of}
use Rattle.pl_context.specs.declared.standing.Standing.{Standing}
use Rattle.pl_context.specs.declared.standing.Standing.TheVariants as standing
use Rattle.pl_context.specs.OutputsViews.{OutputsView}
use Rattle.pl_context.specs.Standings.{cause_of, is_over, together}
use Rattle.pl_context.specs.WaitingViews.{Entry}
use Rattle.pl_head.specs.HeadCalls.{HeadAborts}
use Rattle.pl_head.specs.HeadStand.{HeadView, first_cause}
use Rattle.pl_head.specs.InputStand.{fed_plan, takes_bursts}
use Rattle.pl_head.specs.Transports.{TransportState}
use Rattle.pl_net.specs.Nets.{AbortsHead, StationsStand}
use Rattle.pl_net.specs.Stations.{stations_view}
use Rattle.pl_net.specs.declared.stations.Stations.{Stations}
use Rattle.pl_part.specs.Parts.{ChannelPartView, PartAborts, SamePart, head_standing, part_standing}
use Rattle.pl_part.specs.Paths.{path_standing}
use Rattle.pl_channel.specs.Channels.{IsAbortedBy, home_of}
use Rattle.pl_replay.specs.Moves.{nodes_view, nodes_stand, nodes_take}
use Rattle.pl_replay.specs.declared.channels.Channels.{Channels}
use Rattle.pl_world.specs.Plans.{ChannelPlan}
use Rattle.pl_live.specs.LiveStand.{GoesByPlan, LiveView, LiveStands, ReadsFed, head_in, may_take, parts_of}
use Rattle.pl_live.proofs.Followed.{IsHeadFed, goes-same}
use Rattle.pl_live.proofs.Meant.{path-means}
use Rattle.pl_live.proofs.Moved.{Ran, accepted-at, has-moved, head-in, stands-moved}

-- ---- a head

module _ {T : Type 0} (state : T → TransportState) (p : ChannelPlan) (ends : Bool) (h h' : HeadView T) (b a : OutputsView) (aborted : HeadAborts state h b h' a) where
  fails : is_some h'.failure ≡ true
  fails = ap (λ (f : Option Cause). is_some f) aborted.failure ∙ some h.failure
    where
      some : (f : Option Cause) → is_some (first_cause f (Some Aborted)) ≡ true
      some None = refl
      some (Some cause) = refl

  same-transport : h'.transport ≡ h.transport
  same-transport = by h.failure refl
    where
      by : (f : Option Cause) → h.failure ≡ f → h'.transport ≡ h.transport
      by None none = ap (λ (x : HeadView T). x.transport) (aborted.aborts none).same
      by (Some cause) is = ap (λ (x : HeadView T). x.transport) (aborted.failed (ap (λ (f : Option Cause). is_some f) is)).0

  reads-on : ReadsFed p ends h → ReadsFed p ends h'
  reads-on fed = by h.failure refl
    where
      by : (f : Option Cause) → h.failure ≡ f → ReadsFed p ends h'
      by None none = record {
        reads = fed.reads;
        failed = h.input.port.is_open || fed.failed;
        stand = aborted.reads none (fed_plan p.bursts) fed.reads fed.failed fed.stand;
        by_failure = λ _. fails;
        not_ended = fed.not_ended;
      }
      by (Some cause) is = subst (λ (x : HeadView T). ReadsFed p ends x) (sym (aborted.failed (ap (λ (f : Option Cause). is_some f) is)).0) fed

-- ---- a part

module _ {S T : Type 0} (meaning : S → Meaning) (stands_after : S → List Event → Type 0) (state : T → TransportState) (p : ChannelPlan) (ends : Bool) (part part' : ChannelPartView S T) (b a : OutputsView)
    (same : SamePart part part') (g : GoesByPlan meaning stands_after state p ends part) (m : PartAborts state part b part' a) where
  abbrev head : (h : HeadView T) × (part.head ≡ Some h)
  head = some-of part.head g.has_head

  -- its head has failed, and sends as it did
  pub record PartAborted : Type 0 where
    pub h' : HeadView T
    pub is : part'.head ≡ Some h'
    pub fails : is_some h'.failure ≡ true
    pub transport : h'.transport ≡ head.0.transport
    pub goes : GoesByPlan meaning stands_after state p ends part'
    pub path : part'.path ≡ part.path

  aborts-go : PartAborted
  aborts-go =
      let now = m.head head.0 head.1 in
      let failed = fails state p ends head.0 now.0 b a now.2 in
      let transport = same-transport state p ends head.0 now.0 b a now.2 in
      record {
        h' = now.0;
        is = now.1;
        fails = failed;
        transport = transport;
        goes = goes-same meaning stands_after state p ends part part' same (path-means meaning p part part' m.path g.meant)
            (λ x at. let own = same_Some now.0 x (sym now.1 ∙ at) in
            subst (λ (y : HeadView T). IsHeadFed meaning stands_after state p ends y) own (
              reads-on state p ends head.0 now.0 b a now.2 (g.reads head.0 head.1),
              ap (λ (t : T). (state t).window) transport ∙ g.window head.0 head.1,
              λ none. absurd (both_ways (is_some now.0.failure) (ap (λ (f : Option Cause). is_some f) none) failed),
            )) g;
        path = m.path;
      }

-- where a head has failed by itself, so has its part
over-by : (f : Option Cause) (s : Standing) → is_some f ≡ true → is_over (option_map_or (λ (cause : Cause). standing.Failed cause) (first_cause f (cause_of s)) s) ≡ true
over-by (Some cause) s e = refl
over-by None s e = absurd (both_ways false refl e)

over-both : (a b : Standing) → is_over a ≡ true → is_over (together a b) ≡ true
over-both standing.Open b e = absurd (both_ways false refl e)
over-both standing.Ended standing.Open e = refl
over-both standing.Ended standing.Ended e = refl
over-both standing.Ended (standing.Failed cause) e = refl
over-both (standing.Failed cause) b e = refl

-- ---- a live channel

module _ {S T : Type 0} (meaning : S → Meaning) (stands_after : S → List Event → Type 0) (is_spent : S → Bool) (state : T → TransportState) where
  abbrev aborts : ChannelPartView S T → OutputsView → ChannelPartView S T → OutputsView → Type 0
  aborts q before q' after = PartAborts state q before q' after

  -- what a call that aborts the channel promises
  abbrev pub Aborts : LiveView S T → Stations (Channels S T) → Type 0
  Aborts live stations' = (world : World) (x : ℕ) (backlogs : ℕ → List (Entry (Unit {0}))) → StationsStand (nodes_view meaning) (nodes_stand meaning stands_after state) world x (stations_view live.stations backlogs)
      → (after : ℕ → List (Entry (Unit {0}))) × StationsStand (nodes_view meaning) (nodes_stand meaning stands_after state) world (home_of (parts_of live) 0) (stations_view stations' after)
      × AbortsHead (nodes_view meaning) (nodes_take meaning stands_after is_spent state) (λ (n : Channels S T) channel before (n' : Channels S T) after. IsAbortedBy state n.parts.items channel before n'.parts.items after) (home_of (parts_of live) 0) 0
      (stations_view live.stations backlogs) (stations_view stations' after)

  ran : (live : LiveView S T) (stations' : Stations (Channels S T)) → Aborts live stations' → Ran meaning stands_after is_spent state aborts live stations'
  ran live stations' runs world x backlogs s = let r = runs world x backlogs s in (r.0, r.1, record { nodes = r.2.nodes; work = r.2.work; moved = r.2.aborted; settles = r.2.settles })

  -- an aborted channel: it stands, its head has failed, and no burst may come
  pub record IsAborted (p : ChannelPlan) (live : LiveView S T) (stations' : Stations (Channels S T)) : Type 0 where
    pub stands : LiveStands meaning stands_after state p (record live { stations = stations' })
    pub failed : (h : HeadView T) → head_in stations'.nodes.parts.items ≡ Some h → is_some h.failure ≡ true
    pub closed : may_take (record live { stations = stations' }) ≡ false

  pub is-aborted : (p : ChannelPlan) (live : LiveView S T) (s : LiveStands meaning stands_after state p live) (stations' : Stations (Channels S T)) → Aborts live stations' → stations'.work.items ≡ [] → vec_len stations'.stations ≡ vec_len live.stations.stations → IsAborted p live stations'
  is-aborted p live s stations' runs rests count =
      let part = s.goes.part in
      let alone = s.goes.is_alone in
      let own = some-of part.head s.goes.by_plan.has_head in
      let m = has-moved meaning stands_after is_spent state p live s aborts stations' (ran live stations' runs) rests count in
      let r = aborts-go meaning stands_after state p live.ends part m.then live.stations.work m.after m.same s.goes.by_plan m.moved in
      let on = m.settles r.goes in
      let now = on.3.head r.h' r.is in
      let bytes = ap (λ (l : List ℕ). length l) (accepted-at part (parts_of live) alone state own.0 own.1 ∙ ap (λ (t : T). (state t).accepted) (sym (now.3 ∙ r.transport)) ∙ sym (accepted-at on.0 stations'.nodes.parts.items on.1 state now.0 now.1)) in
      let fails = now.4 r.fails in
      record {
        stands = stands-moved meaning stands_after is_spent state p live s aborts stations' (ran live stations' runs) rests count on.0 on.1 on.2 (on.3.handed ∙ m.same.path.handed) (on.3.gone ∙ m.same.gone) (omega (arith, bytes));
        failed = λ h is.
            let new : now.0 ≡ h = same_Some now.0 h (sym now.1 ∙ sym (head-in on.0 stations'.nodes.parts.items on.1) ∙ is) in
            ap (λ (x : HeadView T). is_some x.failure) (sym new) ∙ fails;
        closed =
            let head = ap (λ (o : Option (HeadView T)). option_map_or (λ (x : HeadView T). head_standing x) o standing.Open) now.1 in
            let over : is_over (part_standing on.0) ≡ true = over-both (option_map_or (λ (x : HeadView T). head_standing x) on.0.head standing.Open) (path_standing on.0.path) (ap is_over head ∙ over-by now.0.failure now.0.standing fails) in
            (λ i. option_map_or (λ (q : ChannelPartView S T). not (is_over (part_standing q))) (slice_get (on.1 i) 0) false && option_map_or (λ (x : HeadView T). takes_bursts x.input) (head_in stations'.nodes.parts.items) false)
            ∙ (λ i. not (over i) && option_map_or (λ (x : HeadView T). takes_bursts x.input) (head_in stations'.nodes.parts.items) false);
      }
