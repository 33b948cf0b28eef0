-- What a read step of its head leads to in a live channel, and when there is none.
use Rattle.std.proofs.Common.{◌≡◌, ℕ, ◌+◌, ◌≤◌, ◌<◌, ◌⊎◌, inl, inr, Bool, true, false, List, [], length, Option, Some, None, refl, sym, ap, subst, ◌∙◌, arith, ⊎_elim}
use Rattle.std.specs.Prelude.{is_some, slice_get, vec_len, not, ◌&&◌, nat_lt, nat_le}
use Rattle.std.proofs.lemmas.Bool.{cases_Bool, both_ways, and_parts, leb-true, ltb-false}
use Rattle.std.proofs.lemmas.Option.{same_Some}
use Rattle.pl_event.specs.declared.events.Event.{Event}
use Rattle.pl_event.specs.declared.outcomes.Cause.{Cause}
use Rattle.pl_event.specs.Meaning.{Meaning}
use Rattle.pl_event.specs.Worlds.{World}
use Rattle.pl_event.proofs.Lists.{some-of}
use Rattle.pl_context.specs.WaitingViews.{Entry}
use Rattle.pl_flow.specs.declared.head_moves.HeadMove.{HeadMove}
use Rattle.pl_flow.specs.declared.head_moves.HeadMove.TheVariants as by
use Rattle.pl_head.specs.HeadStand.{HeadView, is_idle, is_read_held}
use Rattle.pl_head.specs.InputStand.{InputView, fed_plan, steps_left}
use Rattle.pl_head.proofs.FedPlans.{count}
use Rattle.pl_head.specs.ReadSteps.{has_step, is_burst, plan_steps}
use Rattle.pl_head.specs.Transports.{TransportState}
use Rattle.pl_net.specs.Nets.{StationsStand, Gives}
use Rattle.pl_net.specs.Stations.{stations_view}
use Rattle.pl_net.specs.declared.stations.Stations.{Stations}
use Rattle.pl_context.specs.OutputsViews.{OutputsView}
use Rattle.pl_part.specs.HeadHolds.{HeadTook}
use Rattle.pl_part.specs.Parts.{ChannelPartView, PartMoves}
use Rattle.pl_channel.specs.Channels.{MayRead, home_of}
use Rattle.pl_replay.specs.Moves.{nodes_view, nodes_stand, nodes_take, nodes_move}
use Rattle.pl_replay.specs.declared.channels.Channels.{Channels}
use Rattle.pl_world.specs.Plans.{ChannelPlan}
use Rattle.pl_live.specs.LiveStand.{LiveView, LiveStands, IsSettled, IsWritten, ReadsFed, head_in, left_in, open_in, parts_of}
use Rattle.pl_live.proofs.Moved.{Ran, accepted-at, head-in, has-moved, left-at, open-at, stands-moved}
use Rattle.pl_live.proofs.Reading.{reads-go, steps-left}

module _ {S T : Type 0} (meaning : S → Meaning) (stands_after : S → List Event → Type 0) (is_spent : S → Bool) (state : T → TransportState) (may_refuse : T → ℕ → Type 0) where
  -- what a call that moves the head promises of a move that it made
  abbrev pub Runs : LiveView S T → HeadMove → Stations (Channels S T) → Type 0
  Runs live move stations' = (world : World) (x : ℕ) (backlogs : ℕ → List (Entry (Unit {0}))) → StationsStand (nodes_view meaning) (nodes_stand meaning stands_after state) world x (stations_view live.stations backlogs)
      → (after : ℕ → List (Entry (Unit {0}))) × StationsStand (nodes_view meaning) (nodes_stand meaning stands_after state) world (home_of (parts_of live) 0) (stations_view stations' after)
      × Gives (nodes_view meaning) (nodes_take meaning stands_after is_spent state) (nodes_move state may_refuse) (home_of (parts_of live) 0) move 0 (stations_view live.stations backlogs) (stations_view stations' after)

  -- what the part of the channel has done then
  abbrev pub Made : HeadMove → ChannelPartView S T → OutputsView → ChannelPartView S T → OutputsView → Type 0
  Made move q before q' after = PartMoves state may_refuse q move before true q' after

  pub ran : (live : LiveView S T) (move : HeadMove) (stations' : Stations (Channels S T)) → Runs live move stations' → Ran meaning stands_after is_spent state (Made move) live stations'
  ran live move stations' runs world x backlogs s = let r = runs world x backlogs s in (r.0, r.1, record { nodes = r.2.nodes; work = r.2.work; moved = r.2.moved; settles = r.2.settles })

  -- a live channel after a read step: it stands, and has read a burst, or its reads are closed
  pub record IsRead (p : ChannelPlan) (live : LiveView S T) (stations' : Stations (Channels S T)) : Type 0 where
    pub stands : LiveStands meaning stands_after state p (record live { stations = stations' })
    pub read : (open_in stations'.nodes.parts.items ≡ false) ⊎ (left_in stations'.nodes.parts.items + 1 ≡ left_in (parts_of live))
    pub least : left_in (parts_of live) ≤ left_in stations'.nodes.parts.items + 1
    pub most : left_in stations'.nodes.parts.items ≤ left_in (parts_of live)

  module _ (p : ChannelPlan) (live : LiveView S T) (s : LiveStands meaning stands_after state p live) where
    abbrev part : ChannelPartView S T
    part = s.goes.part

    abbrev pub head : (h : HeadView T) × (part.head ≡ Some h)
    head = some-of part.head s.goes.by_plan.has_head

    pub is-read : (stations' : Stations (Channels S T)) → Runs live by.Read stations' → stations'.work.items ≡ [] → vec_len stations'.stations ≡ vec_len live.stations.stations
        → (left_in (parts_of live) ≡ 0 → live.ends ≡ true) → IsRead p live stations'
    is-read stations' runs rests count more =
        let m = has-moved meaning stands_after is_spent state p live s (Made by.Read) stations' (ran live by.Read stations' runs) rests count in
        let alone = s.goes.is_alone in
        let was-left = left-at part (parts_of live) alone head.0 head.1 in
        let r = reads-go meaning stands_after state may_refuse p live.ends part m.then live.stations.work m.after m.same s.goes.by_plan m.moved (λ none. more (was-left ∙ none)) in
        let on = m.settles r.goes in
        let now = on.3.head r.h' r.is in
        let left : left_in stations'.nodes.parts.items ≡ steps_left r.h'.input = left-at on.0 stations'.nodes.parts.items on.1 now.0 now.1 ∙ ap (λ (i : InputView). steps_left i) now.2 in
        let least = r.read.least in
        let most = r.read.most in
        let bytes = ap (λ (l : List ℕ). length l) (accepted-at part (parts_of live) alone state head.0 head.1 ∙ ap (λ (t : T). (state t).accepted) (sym (now.3 ∙ r.read.transport)) ∙ sym (accepted-at on.0 stations'.nodes.parts.items on.1 state now.0 now.1)) in
        record {
          stands = stands-moved meaning stands_after is_spent state p live s (Made by.Read) stations' (ran live by.Read stations' runs) rests count on.0 on.1 on.2 (on.3.handed ∙ m.same.path.handed) (on.3.gone ∙ m.same.gone) (omega (arith, bytes));
          read = elim r.read.read [
            | inl closed ↦ inl (open-at on.0 stations'.nodes.parts.items on.1 now.0 now.1 ∙ ap (λ (i : InputView). i.port.is_open) now.2 ∙ closed)
            | inr one ↦ inr (omega (arith, one, left, was-left))
          ];
          least = omega (arith, least, left, was-left);
          most = omega (arith, most, left, was-left);
        }

    -- what its head has read, and the events that it took
    abbrev fed : ReadsFed p live.ends head.0
    fed = s.goes.by_plan.reads head.0 head.1

    took : (events : List Event) × HeadTook state events head.0
    took =
        let at : slice_get (parts_of live) 0 ≡ Some part = ap (λ (ps : List (ChannelPartView S T)). slice_get ps 0) s.goes.is_alone in
        let holds = ((s.stands.hold.parts 0 part at).holds.head head.0 head.1).0 in
        (holds.events, holds.holds.took)

    -- whether a read step was made, by these
    made-by : (made : Bool) → MayRead state (parts_of live) 0 made → made ≡ (has_step (fed_plan p.bursts) fed.reads fed.failed && not (is_read_held state (fed_plan p.bursts) fed.reads head.0 took.1.ys))
    made-by made may =
        let at : slice_get (parts_of live) 0 ≡ Some part = ap (λ (ps : List (ChannelPartView S T)). slice_get ps 0) s.goes.is_alone in
        may part head.0 (fed_plan p.bursts) fed.reads fed.failed took.1.ys took.1.zs took.1.sizes at head.1 fed.stand took.1.after

    -- where none was made the reads are closed, or a burst is held, which waits for a write
    pub not-read : MayRead state (parts_of live) 0 false → (open_in (parts_of live) ≡ false) ⊎ ((0 < left_in (parts_of live)) × ((h : HeadView T) → head_in (parts_of live) ≡ Some h → IsWritten state h → ⊥))
    not-read may =
        let alone = s.goes.is_alone in
        let h = head.0 in
        let plan = fed_plan p.bursts in
        let ys = took.1.ys in
        ⊎_elim
        (λ (left : h.input.port.is_open ≡ true).
        let held = held-by (has_step plan fed.reads fed.failed) (is_read_held state plan fed.reads h ys) (sym fed.stand.is_open ∙ left) (made-by false may) in
        let parts = and-three (is_burst p.bursts fed.reads) h.buffer.is_unwritable (not (is_idle state h ys)) held in
        let burst = and_parts (nat_lt 0 fed.reads) (nat_le fed.reads (length p.bursts)) parts.0 in
        let within = leb-true fed.reads (length p.bursts) burst.1 in
        let size = left-at part (parts_of live) alone h head.1 ∙ steps-left p.bursts fed.reads fed.failed h.input fed.stand in
        inr (
          omega (arith, within, size),
          λ x there written.
              let own : h ≡ x = same_Some h x (sym head.1 ∙ sym (head-in part (parts_of live) alone) ∙ there) in
              both_ways (not (is_idle state h ys)) (ap not (subst (λ (y : HeadView T). IsWritten state y) (sym own) written ys took.1.zs took.1.sizes took.1.after)) parts.1,
        ))
        (λ (closed : h.input.port.is_open ≡ false). inl (open-at part (parts_of live) alone h head.1 ∙ closed))
        (cases_Bool h.input.port.is_open)
      where
        held-by : (left held : Bool) → left ≡ true → false ≡ (left && not held) → held ≡ true
        held-by true true l e = refl
        held-by true false l e = absurd (both_ways true (sym e) refl)
        held-by false held l e = absurd (both_ways false refl l)

        and-three : (a b c : Bool) → (a && b && c) ≡ true → (a ≡ true) × (c ≡ true)
        and-three true true true e = (refl, refl)
        and-three true true false e = absurd (both_ways false refl e)
        and-three true false c e = absurd (both_ways false refl e)
        and-three false b c e = absurd (both_ways false refl e)

    -- one is made only of reads that are not closed
    pub was-open : MayRead state (parts_of live) 0 true → open_in (parts_of live) ≡ true
    was-open may =
        let alone = s.goes.is_alone in
        let plan = fed_plan p.bursts in
        let both = and_parts (has_step plan fed.reads fed.failed) (not (is_read_held state plan fed.reads head.0 took.1.ys)) (sym (made-by true may)) in
        open-at part (parts_of live) alone head.0 head.1 ∙ fed.stand.is_open ∙ both.0

    -- Where nothing is left to be read, or no more can be, and no flushed byte waits, nothing is left to be done.
    pub settles : (h : HeadView T) → head_in (parts_of live) ≡ Some h → h.failure ≡ None → IsWritten state h → (open_in (parts_of live) ≡ false) ⊎ ((left_in (parts_of live) ≡ 0) × (live.ends ≡ true → open_in (parts_of live) ≡ false)) → IsSettled state live.ends h
    settles h is unfailed written done =
        let alone = s.goes.is_alone in
        let there : part.head ≡ Some h = sym (head-in part (parts_of live) alone) ∙ is in
        let left = left-at part (parts_of live) alone h there in
        let opened = open-at part (parts_of live) alone h there in
        elim done [
          | inl closed ↦ record { all_read = none-left h there unfailed (sym opened ∙ closed); end_read = λ _. sym opened ∙ closed; written = written }
          | inr all ↦ record { all_read = sym left ∙ all.0; end_read = λ ends. sym opened ∙ all.1 ends; written = written }
        ]
      where
        none-left : (x : HeadView T) → part.head ≡ Some x → x.failure ≡ None → x.input.port.is_open ≡ false → steps_left x.input ≡ 0
        none-left x there sound closed =
            let fed = s.goes.by_plan.reads x there in
            let unfailed = no-failure fed.failed x.failure sound fed.by_failure in
            let last = not-left fed.failed (nat_lt fed.reads (plan_steps (fed_plan p.bursts))) unfailed (sym fed.stand.is_open ∙ closed) in
            let past = ltb-false fed.reads (plan_steps (fed_plan p.bursts)) last in
            let all = count p.bursts in
            let left = steps-left p.bursts fed.reads fed.failed x.input fed.stand in
            omega (arith, past, all, left)
          where
            no-failure : (f : Bool) (c : Option Cause) → c ≡ None → (f ≡ true → is_some c ≡ true) → f ≡ false
            no-failure false c none by = refl
            no-failure true c none by = absurd (both_ways (is_some c) (ap (λ (o : Option Cause). is_some o) none) (by refl))

            not-left : (f b : Bool) → f ≡ false → (not f && b) ≡ false → b ≡ false
            not-left false b e n = n
            not-left true b e n = absurd (both_ways true e refl)
