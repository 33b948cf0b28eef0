-- A context of a live channel of which nothing has failed: once it has taken all of its lane, it has given all to the lanes that it writes.
use Rattle.std.proofs.Common.{◌≡◌, ◌≢◌, ℕ, ◌+◌, ◌<◌, ◌≤◌, ◌==◌, ◌||◌, ◌&&◌, Bool, true, false, List, length, take, Option, Some, refl, sym, ap, ◌∙◌, arith}
use Rattle.std.specs.Prelude.{if◌then◌else◌, nat_lt, slice_get}
use Rattle.std.specs.Option.{option_map_or}
use Rattle.std.proofs.lemmas.Bool.{and_from, or_left, or_right, both_ways, cond-true, cond-false, lt-ltb, eq-eqb, ne_eqb}
use Rattle.std.proofs.lemmas.List.{take_all}
use Rattle.std.proofs.lemmas.Option.{same_Some}
use Rattle.pl_event.specs.declared.events.Event.{Event}
use Rattle.pl_event.specs.declared.envelopes.Kind.TheVariants.{Data}
use Rattle.pl_event.specs.declared.envelopes.Lane.{Lane}
use Rattle.pl_event.specs.Hops.{same_hop, same_lane, data_lane}
use Rattle.pl_event.specs.Meaning.{Meaning, up_of, down_of}
use Rattle.pl_event.specs.Worlds.{World, content_of}
use Rattle.pl_event.proofs.SameLanes.{same_lane-self}
use Rattle.pl_context.specs.declared.standing.Standing.{Standing}
use Rattle.pl_context.specs.declared.standing.Standing.TheVariants as standings
use Rattle.pl_context.specs.Standings.{is_over, has_failed}
use Rattle.pl_context.specs.ContextViews.{ContextView, has_up, has_down, down_hop, kind_taken, taken_of as context_taken_of}
use Rattle.pl_flow.specs.Flows.{Point}
use Rattle.pl_head.specs.Transports.{TransportState}
use Rattle.pl_part.specs.ContextHolds.{ContextHolds, context_writes}
use Rattle.pl_part.specs.Paths.{IsAt, context_at, path_taken, path_writes, writer_hop}
use Rattle.pl_part.specs.Parts.{ChannelPartView, head_hop, part_taken, part_writes, part_standing}
use Rattle.pl_part.proofs.PathSteps.{three-lanes}
use Rattle.pl_part.proofs.Standings.{sound-context}
use Rattle.pl_world.specs.Plans.{ChannelPlan, content, planned_head_hop}
use Rattle.pl_channel.specs.Channels.{ChannelsStand, PartStands, taken_of, came_of, writes_here, writes_of}
use Rattle.pl_channel.specs.Lanes.{world_of}
use Rattle.pl_channel.proofs.HeadLanes.{comes-to}
use Rattle.pl_channel.proofs.LaneContents.{content-planned}
use Rattle.pl_replay.specs.Given.{HasGiven, point_given}
use Rattle.pl_replay.proofs.GivenLanes.{has-given}
use Rattle.pl_live.specs.LiveStand.{alone}

-- ---- the part of a channel that is alone

pub of-part : {S T A : Type 0} (ps : List (ChannelPartView S T)) (part : ChannelPartView S T) → slice_get ps 0 ≡ Some part → (f : ChannelPartView S T → A) (none : A) → option_map_or f (slice_get ps 0) none ≡ f part
of-part ps part here f none = ap (λ (o : Option (ChannelPartView _ _)). option_map_or f o none) here

-- All of a lane was taken, and so many items more than its events.
abbrev pub IsThrough : {S T : Type 0} → ChannelPlan → List (ChannelPartView S T) → ℕ → ℕ → Type 0
IsThrough p ps more hop = length (content p hop) + more ≤ taken_of ps (data_lane 0 hop)

-- ---- points

-- a node that has not failed, and has taken more than the events of its lane, has ended
ends-with : (s : Standing) (taken size more : ℕ) → has_failed s ≡ false → (s ≡ standings.Open → taken ≤ size) → size + more ≤ taken → more ≤ 1 → more ≤ (if is_over s then 1 else 0)
ends-with standings.Open taken size more sound within took least = let most = within refl in omega (arith, most, took)
ends-with standings.Ended taken size more sound within took least = least
ends-with (standings.Failed cause) taken size more sound within took least = absurd (both_ways true sound refl)

or-quit : (over quit : Bool) (more : ℕ) → more ≤ (if over then 1 else 0) → more ≤ (if over || quit then 1 else 0)
or-quit true quit more h = h
or-quit false true more h = omega (arith, h)
or-quit false false more h = h

-- it has given all that its stage makes of these events
gives-all : (makes : List Event → List Event) (events all : List Event) (taken more : ℕ) (over : Bool) → makes events ≡ all → length events ≤ taken → more ≤ (if over then 1 else 0)
    → length all + more ≤ (point_given (makes (take taken events)) over).next
gives-all makes events all taken more over made took most =
    let given = ap (λ (es : List Event). length es) (ap makes (take_all taken events took) ∙ made) in omega (arith, given, most)

module _ {S T : Type 0} (meaning : S → Meaning) (stands_after : S → List Event → Type 0) (state : T → TransportState) (p : ChannelPlan) (ps : List (ChannelPartView S T)) (part : ChannelPartView S T)
    (stand : ChannelsStand (world_of false (alone p)) meaning stands_after state ps) (here : slice_get ps 0 ≡ Some part) (head_at : head_hop part ≡ planned_head_hop p) where
  abbrev world : World
  world = world_of false (alone p)

  own : PartStands world meaning stands_after state 0 part
  own = stand.parts 0 part here

  knows : (hop : ℕ) → hop ≤ planned_head_hop p → content_of world (data_lane 0 hop) ≡ Some (content p hop)
  knows hop within = content-planned (alone p) 0 p refl hop within

  -- ---- the context at a hop

  module _ (hop : ℕ) (c : ContextView S) (there : context_at part.path hop ≡ Some c) where
    abbrev m : Meaning
    m = meaning c.stage

    pub is : IsAt meaning part.path.channel hop part.path.tail_hop part.path.turn c
    is = (own.holds.path.contexts hop c there).1

    held : ContextHolds world meaning stands_after c
    held = (own.holds.path.contexts hop c there).0

    up-lane : c.up.lane ≡ data_lane 0 (hop + 1)
    up-lane = (three-lanes c.up.lane c.down.lane c.flags.lane _ _ _ is.lanes).0 ∙ ap (λ (n : ℕ). data_lane n (hop + 1)) own.channel

    down-lane : (n : ℕ) → down_hop m.direction hop part.path.tail_hop ≡ n → c.down.lane ≡ data_lane 0 n
    down-lane n at = (three-lanes c.up.lane c.down.lane c.flags.lane _ _ _ is.lanes).1 ∙ (λ i. data_lane (own.channel i) (at i))

    -- how many items of its lane were taken
    pub taken-here : hop < head_hop part → hop ≢ part.path.tail_hop → taken_of ps (data_lane 0 hop) ≡ c.taken
    taken-here before other =
        let l = data_lane 0 hop in
        of-part ps part here (λ (q : ChannelPartView S T). part_taken q l) 0
        ∙ cond-false (hop == head_hop part) _ (path_taken part.path l) (ne_eqb hop (head_hop part) (λ e. omega (arith, e, before)))
        ∙ cond-false (hop == part.path.tail_hop) _ _ (ne_eqb hop part.path.tail_hop other)
        ∙ ap (λ (o : Option (ContextView S)). option_map_or (λ (k : ContextView S). context_taken_of k l) o 0) there
        ∙ cond-true (same_hop l (record { channel = c.channel; kind = Data; hop = c.hop })) (kind_taken c Data) 0
        (and_from (0 == c.channel) (hop == c.hop) (eq-eqb 0 c.channel (sym (is.channel_is ∙ own.channel))) (eq-eqb hop c.hop (sym is.hop_is)))

    module _ (within : hop ≤ planned_head_hop p) where
      carries : (events : List Event) → content_of world (data_lane c.channel c.hop) ≡ Some events → events ≡ content p hop
      carries events has = comes-to false (alone p) 0 events (content p hop) c.channel c.hop hop has (is.channel_is ∙ own.channel) is.hop_is (knows hop within)

      -- what its stage makes of that is what the next lanes carry
      makes-up : has_up m.direction ≡ true → hop + 1 ≤ planned_head_hop p → up_of m (content p hop) ≡ content p (hop + 1)
      makes-up has next =
          ap (up_of m) (sym (carries held.events held.holds.wired.own))
          ∙ same_Some (up_of m held.events) (content p (hop + 1)) (sym (held.holds.wired.up has) ∙ ap (λ (l : Lane). content_of world l) up-lane ∙ knows (hop + 1) next)

      makes-down : (n : ℕ) → down_hop m.direction hop part.path.tail_hop ≡ n → has_down m.direction ≡ true → n ≤ planned_head_hop p → down_of m (content p hop) ≡ content p n
      makes-down n at has next =
          ap (down_of m) (sym (carries held.events held.holds.wired.own))
          ∙ same_Some (down_of m held.events) (content p n) (sym (held.holds.wired.down has) ∙ ap (λ (l : Lane). content_of world l) (down-lane n at) ∙ knows n next)

      module _ (n : ℕ) (inner : n ≢ 0) (next : n ≤ planned_head_hop p) (writer : writer_hop part.path n ≡ hop) where
        abbrev l : Lane
        l = data_lane 0 n

        by-this : context_at part.path (writer_hop part.path n) ≡ Some c
        by-this = ap (λ (k : ℕ). context_at part.path k) writer ∙ there

        written : context_writes m.direction c l ≡ true → writes_of meaning ps l ≡ true
        written w =
            of-part ps part here (λ (q : ChannelPartView S T). writes_here meaning q l) false
            ∙ and_from (nat_lt n (length part.path.executors)) (part_writes meaning part l) (lt-ltb n (length part.path.executors) (let hops = own.holds.hops in omega (arith, hops, head_at, next)))
            (cond-false (n == 0) _ (path_writes meaning part.path l) (ne_eqb n 0 inner) ∙ ap (λ (o : Option (ContextView S)). option_map_or (λ (k : ContextView S). context_writes (meaning k.stage).direction k l) o false) by-this ∙ w)

        module _ (sound : has_failed (part_standing part) ≡ false) (all-taken : (k : Lane) → writes_of meaning ps k ≡ true → taken_of ps k ≡ (came_of meaning ps k).next)
            (more : ℕ) (least : more ≤ 1) (took : length (content p hop) + more ≤ c.taken) where
          going : has_failed c.standing ≡ false
          going = sound-context part sound hop c there

          given : HasGiven meaning world c l (came_of meaning ps l)
          given = has-given world meaning stands_after state ps stand l part c here (ne_eqb n 0 inner) by-this going

          took-all : length given.events + more ≤ c.taken
          took-all = let size = ap (λ (es : List Event). length es) (carries given.events given.own) in omega (arith, size, took)

          over : more ≤ (if is_over c.standing then 1 else 0)
          over = ends-with c.standing c.taken (length given.events) more going given.within took-all least

          through : (q : Point) → came_of meaning ps l ≡ q → length (content p n) + more ≤ q.next → context_writes m.direction c l ≡ true → IsThrough p ps more n
          through q came most w =
              let next = ap (λ (z : Point). z.next) came in omega (arith, next, most, all-taken l (written w))

          pub up-through : has_up m.direction ≡ true → n ≡ hop + 1 → IsThrough p ps more n
          up-through has at =
              let lane : l ≡ c.up.lane = ap (λ (k : ℕ). data_lane 0 k) at ∙ sym up-lane in
              let made = makes-up has (omega (arith, at, next)) ∙ ap (λ (k : ℕ). content p k) (sym at) in
              through (point_given (up_of m (take c.taken given.events)) (is_over c.standing)) (given.up has lane)
              (gives-all (up_of m) given.events (content p n) c.taken more (is_over c.standing) (ap (up_of m) (carries given.events given.own) ∙ made) (let t = took-all in omega (arith, t)) over)
              (or_left _ _ (and_from (has_up m.direction) (same_lane l c.up.lane) has (ap (λ (k : Lane). same_lane k c.up.lane) lane ∙ same_lane-self c.up.lane)))

          pub down-through : has_down m.direction ≡ true → down_hop m.direction hop part.path.tail_hop ≡ n → IsThrough p ps more n
          down-through has at =
              let lane : l ≡ c.down.lane = sym (down-lane n at) in
              let quit = m.ended (take c.taken given.events) in
              through (point_given (down_of m (take c.taken given.events)) (is_over c.standing || quit)) (given.down has lane)
              (gives-all (down_of m) given.events (content p n) c.taken more (is_over c.standing || quit) (ap (down_of m) (carries given.events given.own) ∙ makes-down n at has next) (let t = took-all in omega (arith, t)) (or-quit (is_over c.standing) quit more over))
              (or_right (has_up m.direction && same_lane l c.up.lane) _ (or_left _ _ (and_from (has_down m.direction) (same_lane l c.down.lane) has (ap (λ (k : Lane). same_lane k c.down.lane) lane ∙ same_lane-self c.down.lane))))
