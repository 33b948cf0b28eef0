use Rattle.std.proofs.Common.{◌≡◌, ◌++◌, ◌∷◌, ℕ, true, false, [], List, length, replicate, Result, Ok, Err, Some, refl, sym, ap, ap₂, subst, ◌∙◌, arith}
use Rattle.std.specs.Prelude.{IfOk, All}
use Rattle.std.proofs.lemmas.List.{length-map}
use Rattle.std.proofs.lemmas.Result.{IfOk-at_ok}
use Rattle.pl_event.specs.Meaning.{Meaning}
use Rattle.pl_event.specs.Paths.{is_turn}
use Rattle.pl_event.specs.Worlds.{World, carrying}
use Rattle.pl_event.proofs.Lists.{position_or_len-map}
use Rattle.pl_context.specs.TailViews.{new_tail}
use Rattle.pl_part.specs.NewParts.{ArePlannedWith, whole_slots}
use Rattle.pl_part.proofs.NewHeads.{IsFresh, new-holds, new-came, new-taken}
use Rattle.pl_world.specs.Plans.{channel_planned, planned_head_hop}
use Rattle.pl_channel.specs.Lanes.{channel_lanes, world_of}
use Rattle.pl_channel.proofs.LaneContents.{channel-lane, content-planned}
use Rattle.pl_channel.proofs.PlannedLanes.{Knows, are-planned, few-input, head-planned}
use Rattle.pl_channel.proofs.NewChannels.{new-unmoved}
use Rattle.pl_channel.proofs.recorded_parts.whole_part.Goals as goal
use Rattle.pl_channel.proofs.recorded_parts.whole_part.Goals.{After-whole}
use Rattle.pl_channel.proofs.recorded_parts.whole_part.Given.{Over}

if-ok : {X E : Type 0} (r : Result X E) (P : X → Type 0) → ((x : X) → r ≡ Ok x → P x) → IfOk r P
if-ok (Ok x) P holds = holds x refl
if-ok (Err e) P holds = tt

pub new-head-requires-clause-few : goal.new-head-requires-clause-few
new-head-requires-clause-few g c =
    let p = channel_planned g.S.Stage.meaning g.T.Transport.state c.args.recorded in
    few-input g.S.Stage.meaning g.S.Stage.stands_after g.T.Transport.state c.args.recorded c.inbound.ensures.path c.requires.small (carrying (channel_lanes c.args.number p)) c.args.number (channel-lane c.args.number p)

pub whole-requires-clause-stages : goal.whole-requires-clause-stages
whole-requires-clause-stages g c =
    let p = channel_planned g.S.Stage.meaning g.T.Transport.state c.args.recorded in
    let chains = c.into_parts-inbound.ensures.chains in
    record {
      new_inbound = chains.new_inbound;
      new_outbound = chains.new_outbound;
      planned = (
        carrying (channel_lanes c.args.number p),
        are-planned g.S.Stage.meaning g.S.Stage.stands_after g.T.Transport.state c.args.recorded c.inbound.ensures.path c.requires.small (carrying (channel_lanes c.args.number p)) c.args.number (channel-lane c.args.number p)
            c.turn-turn.result c.into_parts-inbound.result.0.items c.into_parts-inbound.result.1.items c.turn-turn.ensures.hop chains.inbound chains.outbound,
      );
    }

-- the head is new, at the last hop
head-fresh : (g : Over) (c : After-whole g) → IsFresh g.T.Transport.state c.args.recorded.input c.args.number (planned_head_hop (channel_planned g.S.Stage.meaning g.T.Transport.state c.args.recorded)) c.new-head.result
head-fresh g c =
    let meaning = g.S.Stage.meaning in
    let path = c.args.recorded.pipeline in
    let made = c.new-head.ensures in
    record {
      after = made.stands;
      reads = made.reads;
      entrance = made.entrance;
      at_hop = (made.at_hop.0, omega (arith, made.at_hop.1, c.inbound.ensures.count, c.outbound.ensures.count, length-map path.inbound meaning, length-map path.outbound meaning));
      flags = made.flags;
      taken = made.taken;
      standing = made.standing;
      failure = made.failure;
      few = made.few;
      gone = made.gone;
    }

-- a world that knows the channel's lanes knows them for the two chains
chains-planned : (g : Over) (c : After-whole g) (world : World) → Knows world c.args.number (channel_planned g.S.Stage.meaning g.T.Transport.state c.args.recorded)
    → ArePlannedWith world g.S.Stage.meaning c.args.number c.turn-turn.result c.into_parts-inbound.result.0.items c.into_parts-inbound.result.1.items
chains-planned g c world knows =
    let chains = c.into_parts-inbound.ensures.chains in
    are-planned g.S.Stage.meaning g.S.Stage.stands_after g.T.Transport.state c.args.recorded c.inbound.ensures.path c.requires.small world c.args.number knows
    c.turn-turn.result c.into_parts-inbound.result.0.items c.into_parts-inbound.result.1.items c.turn-turn.ensures.hop chains.inbound chains.outbound

pub returns-clause-whole : goal.returns-clause-whole
returns-clause-whole g c = if-ok c.whole.result _ (λ part is.
    let meaning = g.S.Stage.meaning in
    let path = c.args.recorded.pipeline in
    let chains = c.into_parts-inbound.ensures.chains in
    let made = c.new-head.ensures in
    let above = length-map path.inbound meaning in
    let below = length-map path.outbound meaning in
    let up = ap length chains.inbound ∙ sym above in
    let down = ap length chains.outbound ∙ sym below in
    let place = IfOk-at_ok _ is c.whole.ensures.path in
    record {
      channel_is = place.0;
      executors_are = place.1 ∙ c.into_parts-inbound.ensures.executors;
      hops = omega (arith, c.inbound.ensures.path.hops, above, below);
      few = omega (arith, c.inbound.ensures.path.within, above, below);
      tail_hop_is = place.2 ∙ up;
      turn_is = place.3 ∙ c.turn-turn.ensures.hop ∙ sym (position_or_len-map (λ (m : Meaning). is_turn m.direction) meaning path.inbound);
      turned = omega (arith, place.3, place.2, c.turn-turn.ensures.within, ap length chains.inbound);
      filled = IfOk-at_ok _ is c.whole.ensures.filled ∙ ap₂ (λ (n m : ℕ). replicate n true ++ false ∷ replicate m true) up down;
      tail = IfOk-at_ok _ is c.whole.ensures.tail ∙ ap (λ (k : ℕ). Some (new_tail c.args.number k)) up;
      head = (
        c.new-head.result,
        IfOk-at_ok _ is c.whole.ensures.head,
        record {
          channel_is = made.at_hop.0;
          hop_is = (head-fresh g c).at_hop.1;
          transport_is = made.transport;
          uncalled = c.requires.uncalled;
          low = made.marks.0 ∙ c.low-low.ensures.low;
          high = made.marks.1 ∙ c.high-high.ensures.high;
          taken = made.taken;
          standing = made.standing;
          failure = made.failure;
          closed = made.closed;
          numbering = made.numbering;
          flags = made.flags;
          entrance_is = made.entrance;
          reads = made.reads;
          after = made.stands;
          settled = made.told.0;
          told = made.told.1;
          gone = made.gone;
        },
      );
    })

pub returns-clause-stages : goal.returns-clause-stages
returns-clause-stages g c = if-ok c.whole.result _ (λ part is.
    let meaning = g.S.Stage.meaning in
    let AreNew : List g.row.S.Denot → Type 0 = λ stages. All (λ stage. g.S.Stage.stands_after stage []) stages in
    let chains = c.into_parts-inbound.ensures.chains in
    record {
      inbound_new = subst AreNew chains.inbound chains.new_inbound;
      outbound_new = subst AreNew chains.outbound chains.new_outbound;
      contexts_are = IfOk-at_ok _ is c.whole.ensures.contexts ∙ ap₂ (λ (inbound outbound : List g.row.S.Denot). whole_slots meaning c.args.number inbound outbound) chains.inbound chains.outbound;
    })

pub returns-clause-unmoved : goal.returns-clause-unmoved
returns-clause-unmoved g c = if-ok c.whole.result _ (λ part is.
    let p = channel_planned g.S.Stage.meaning g.T.Transport.state c.args.recorded in
    let world = carrying (channel_lanes c.args.number p) in
    let state = g.T.Transport.state in
    let fresh = head-fresh g c in
    new-unmoved g.S.Stage.meaning g.S.Stage.stands_after world c.args.number (length c.into_parts-inbound.result.0.items) c.turn-turn.result part
    (IfOk-at_ok _ is c.whole.ensures.new world (chains-planned g c world (channel-lane c.args.number p)))
    (IfOk-at_ok _ is c.whole.ensures.tail) c.new-head.result (IfOk-at_ok _ is c.whole.ensures.head)
    (new-came state c.args.recorded.input c.args.number (planned_head_hop p) c.new-head.result fresh)
    (new-taken state c.args.recorded.input c.args.number (planned_head_hop p) c.new-head.result fresh))

pub returns-clause-holds : goal.returns-clause-holds
returns-clause-holds g c = if-ok c.whole.result _ (λ part is refuses plan at.
    let meaning = g.S.Stage.meaning in
    let stands_after = g.S.Stage.stands_after in
    let state = g.T.Transport.state in
    let recorded = c.args.recorded in
    let p = channel_planned meaning state recorded in
    let world = world_of refuses plan in
    let knows = content-planned plan c.args.number p at in
    let head = head-planned meaning stands_after state recorded c.inbound.ensures.path c.requires.small world c.args.number knows in
    let few = few-input meaning stands_after state recorded c.inbound.ensures.path c.requires.small world c.args.number knows in
    IfOk-at_ok _ is c.whole.ensures.holds world (chains-planned g c world knows)
    (new-holds state recorded.input c.args.number (planned_head_hop p) c.new-head.result (head-fresh g c) world head few))
