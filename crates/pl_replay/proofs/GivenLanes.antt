-- What a context that has not failed has given its lanes, by what its channel holds.
use Rattle.std.proofs.Common.{◌≡◌, ◌==◌, ◌+◌, ◌&&◌, ◌||◌, Bool, true, false, not, List, length, take, slice_get, Option, Some, ap, sym, ◌∙◌, refl, arith}
use Rattle.std.specs.Option.{option_map_or}
use Rattle.std.proofs.lemmas.Bool.{both_ways, cond-true, cond-false}
use Rattle.std.proofs.lemmas.List.{take_all}
use Rattle.pl_event.specs.declared.events.Event.{Event}
use Rattle.pl_event.specs.declared.envelopes.Lane.{Lane}
use Rattle.pl_event.specs.Hops.{same_lane}
use Rattle.pl_event.specs.Meaning.{Meaning, up_of, down_of}
use Rattle.pl_event.specs.Worlds.{World}
use Rattle.pl_event.proofs.SameLanes.{same_lane-self, same_lane-flip}
use Rattle.pl_context.specs.declared.ports.Port.{Port}
use Rattle.pl_context.specs.declared.standing.Standing.{Standing}
use Rattle.pl_context.specs.declared.standing.Standing.TheVariants as standings
use Rattle.pl_context.specs.Standings.{is_over, has_failed}
use Rattle.pl_context.specs.ContextViews.{ContextView, has_up, has_down}
use Rattle.pl_flow.specs.Flows.{point, nowhere}
use Rattle.pl_head.specs.Transports.{TransportState}
use Rattle.pl_part.specs.ContextHolds.{HoldsWith, port_point, ports_came, context_came}
use Rattle.pl_part.specs.Paths.{context_at, writer_hop, path_came}
use Rattle.pl_part.specs.Parts.{ChannelPartView, part_came}
use Rattle.pl_channel.specs.Channels.{ChannelsStand, came_of}
use Rattle.pl_replay.specs.Given.{HasGiven, point_given}

-- ---- how far the lanes of three ports have come

came-up : (hu hd : Bool) (up down flags : Port) → hu ≡ true → ports_came hu hd up down flags up.lane ≡ port_point up
came-up true hd up down flags has = cond-true (same_lane up.lane up.lane) (port_point up) _ (same_lane-self up.lane)
came-up false hd up down flags has = absurd (both_ways false refl has)

-- that downwards is not that upwards, where both are there
came-down : (hu hd : Bool) (up down flags : Port) → hd ≡ true → (hu ≡ true → hd ≡ true → same_lane up.lane down.lane ≡ false) → ports_came hu hd up down flags down.lane ≡ port_point down
came-down true true up down flags has apart =
    cond-false (same_lane down.lane up.lane) (port_point up) _ (same_lane-flip up.lane down.lane (apart refl refl))
    ∙ cond-true (same_lane down.lane down.lane) (port_point down) _ (same_lane-self down.lane)
came-down false true up down flags has apart = cond-true (same_lane down.lane down.lane) (port_point down) _ (same_lane-self down.lane)
came-down true false up down flags has apart = absurd (both_ways false refl has)
came-down false false up down flags has apart = absurd (both_ways false refl has)

-- so far has come what a port was given, which is open or closed
at-port : (made : List Event) (p : Port) (over : Bool) → p.is_open ≡ not over → (p.is_open ≡ true → p.made ≡ length made) → (p.is_open ≡ false → p.made ≡ length made + 1) → port_point p ≡ point_given made over
at-port made p true shut opened closed = λ i. point (closed shut i) (not (shut i))
at-port made p false shut opened closed =
    let all : p.made ≡ length made + 0 = let n = opened shut in omega (arith, n) in
    λ i. point (all i) (not (shut i))

-- a lane that is open where its stage has it and goes on
open-while : (has ended : Bool) → has ≡ true → (has && not ended) ≡ not ended
open-while true ended is = refl
open-while false ended is = absurd (both_ways false refl is)

-- ---- one lane

module _ {S T : Type 0} (world : World) (meaning : S → Meaning) (stands_after : S → List Event → Type 0) (state : T → TransportState) (ps : List (ChannelPartView S T)) (stand : ChannelsStand world meaning stands_after state ps)
    (l : Lane) (part : ChannelPartView S T) (c : ContextView S) (at : slice_get ps l.channel ≡ Some part) (inner : (l.hop == 0) ≡ false) (writer : context_at part.path (writer_hop part.path l.hop) ≡ Some c) (sound : has_failed c.standing ≡ false) where
  -- the point where it came is that of the context's port
  came-writer : came_of meaning ps l ≡ context_came (meaning c.stage).direction c l
  came-writer =
      ap (λ (o : Option (ChannelPartView S T)). option_map_or (λ (p : ChannelPartView S T). part_came meaning p l) o nowhere) at
      ∙ cond-false (l.hop == 0) _ (path_came meaning part.path l) inner
      ∙ ap (λ (o : Option (ContextView S)). option_map_or (λ (k : ContextView S). context_came (meaning k.stage).direction k l) o nowhere) writer

  module _ (events : List Event) (w : HoldsWith world meaning stands_after (meaning c.stage) events c) where
    -- a context with an open data lane is open
    live : (o : Bool) → o ≡ true → (is_over c.standing ≡ true → o ≡ false) → c.standing ≡ standings.Open
    live o opened over = by c.standing refl
      where
        by : (s : Standing) → c.standing ≡ s → c.standing ≡ standings.Open
        by standings.Open is = is
        by standings.Ended is = absurd (both_ways o (over (ap is_over is)) opened)
        by (standings.Failed cause) is = absurd (both_ways (has_failed c.standing) sound (ap has_failed is))

    up-closed : has_up (meaning c.stage).direction ≡ true → c.up.is_open ≡ false → c.up.made ≡ length (up_of (meaning c.stage) (take c.taken events)) + 1
    up-closed has closed = by c.standing refl
      where
        by : (s : Standing) → c.standing ≡ s → c.up.made ≡ length (up_of (meaning c.stage) (take c.taken events)) + 1
        by standings.Open is = absurd (both_ways c.up.is_open closed (w.up_open is ∙ has))
        by standings.Ended is = let whole = w.ended is in w.up_given is has ∙ ap (λ zs. length (up_of (meaning c.stage) zs) + 1) (sym (take_all c.taken events (omega (arith, whole))))
        by (standings.Failed cause) is = absurd (both_ways (has_failed c.standing) sound (ap has_failed is))

    -- whether a data lane of a context that has not failed is over
    up-over : has_up (meaning c.stage).direction ≡ true → c.up.is_open ≡ not (is_over c.standing)
    up-over has = by c.standing refl
      where
        by : (s : Standing) → c.standing ≡ s → c.up.is_open ≡ not (is_over c.standing)
        by standings.Open is = w.up_open is ∙ has ∙ sym (ap (λ (s : Standing). not (is_over s)) is)
        by standings.Ended is = let over = ap is_over is in w.up_over over ∙ sym (ap not over)
        by (standings.Failed cause) is = let over = ap is_over is in w.up_over over ∙ sym (ap not over)

    down-over : has_down (meaning c.stage).direction ≡ true → c.down.is_open ≡ not (is_over c.standing || (meaning c.stage).ended (take c.taken events))
    down-over has = by c.standing refl
      where
        quit : Bool
        quit = (meaning c.stage).ended (take c.taken events)

        by : (s : Standing) → c.standing ≡ s → c.down.is_open ≡ not (is_over c.standing || quit)
        by standings.Open is = w.down_open is ∙ open-while (has_down (meaning c.stage).direction) quit has ∙ sym (ap (λ (s : Standing). not (is_over s || quit)) is)
        by standings.Ended is = w.down_over (ap is_over is) ∙ sym (ap (λ (s : Standing). not (is_over s || quit)) is)
        by (standings.Failed cause) is = w.down_over (ap is_over is) ∙ sym (ap (λ (s : Standing). not (is_over s || quit)) is)

  pub has-given : HasGiven meaning world c l (came_of meaning ps l)
  has-given =
      let h = ((stand.parts l.channel part at).holds.path.contexts (writer_hop part.path l.hop) c writer).0 in
      let d = (meaning c.stage).direction in
      let w = h.holds in
      let took = take c.taken h.events in
      record {
        events = h.events;
        own = w.wired.own;
        within = w.within;
        all = w.ended;
        up = λ has is.
            came-writer ∙ ap (context_came d c) is ∙ came-up (has_up d) (has_down d) c.up c.down c.flags has
            ∙ at-port (up_of (meaning c.stage) took) c.up (is_over c.standing) (up-over h.events w has)
            (λ o. (w.stood (live h.events w c.up.is_open o w.up_over)).above o) (up-closed h.events w has);
        down = λ has is.
            came-writer ∙ ap (context_came d c) is ∙ came-down (has_up d) (has_down d) c.up c.down c.flags has w.wired.apart
            ∙ at-port (down_of (meaning c.stage) took) c.down (is_over c.standing || (meaning c.stage).ended took) (down-over h.events w has)
            (λ o. (w.stood (live h.events w c.down.is_open o w.down_over)).below o) (w.down_given sound has);
      }
