use Rattle.std.proofs.Common.{◌≡◌, ◌<◌, ◌∷◌, [], List, length, get_or, set, refl, ap, sym, subst, ◌∙◌, arith, length-append, ℕ}
use Rattle.std.proofs.lemmas.List.{get_or_default, length-map, nil_from_length}
use Rattle.std.specs.Global.{Vec}
use Rattle.std.specs.Prelude.{Option}
use Rattle.pl_part.specs.declared.kept.KeptStage.{KeptStage}
use Rattle.pl_part.specs.Parts.{ChannelPartView}
use Rattle.pl_exec.specs.declared.reporting.Found.{Found}
use Rattle.pl_exec.specs.ChannelRows.{IsChannelRow, by_channel}
use Rattle.pl_exec.specs.Reported.{with_part}
use Rattle.pl_exec.specs.RunStages.{slots_in, with_stages}
use Rattle.pl_exec.proofs.ByChannel.{by-count, by-next, by-none, row-within}
use Rattle.pl_exec.proofs.FilledSlots.{slots-next}
use Rattle.pl_exec.proofs.ListSteps.{all-done, next-within, one-more}
use Rattle.pl_exec.proofs.reporting.find_nodes.Goals as goal
use Rattle.pl_exec.proofs.reporting.find_nodes.Goals.{After-index-channel, In-Some}

pub loop-part-init : goal.loop-part-init
loop-part-init g c = record {
  rest = c.into_iter-part-iterator.ensures.into_iter_gives.0;
  at = refl;
  found = sym (by-none (with_part {S = g.row.S.Denot} {T = g.row.T.Denot}) c.args.here.items c.args.found.now.items);
  stages = sym (by-none (with_stages {S = g.row.S.Denot} {T = g.row.T.Denot}) c.args.here.items (slots_in c.args.stages.now.items));
}

-- the next part is at a position of the row
within : (g : _) (c : In-Some g) → c.loop-part.position < length c.args.here.items
within g c =
    let inv = c.loop-part.invariant in
    let next = next-within c.args.parts.items c.loop-part.yielded c.loop-part.part-iterator.rest.items c.next.new.self.rest.items c.in-Some.part (length c.loop-part.yielded) inv.rest c.in-Some.ensures.steps.0 refl in
    omega (arith, inv.at, next, c.requires.parts)

-- whose channel is there
channel : (g : _) (c : After-index-channel g) → c.loop-part.position < length c.args.here.items → (c.index-channel.result.now ≡ get_or c.args.here.items c.loop-part.position 0) × (c.index-channel.result.now < length c.args.found.now.items)
channel g c within =
    let row = c.args.here.items in
    let k = c.loop-part.position in
    let is = c.index-channel.ensures ∙ get_or_default row k c.index-channel.result.now 0 within in
    let there = row-within (with_part {S = g.row.S.Denot} {T = g.row.T.Denot}) row c.args.found.now.items c.requires.row k within in (is, omega (arith, is, there))

pub index-channel-requires : goal.index-channel-requires
index-channel-requires g c = let lt = within g (goal.at.index-channel-requires g c).In-Some in omega (arith, lt, c.args.here.ok.0)

pub index_mut-requires : goal.index_mut-requires
index_mut-requires g c =
    let at = goal.at.index_mut-requires g c in
    let there = (channel g at.After-index-channel (within g at.In-Some)).1 in
    let size = ap (λ (l : List (Found g.row.T.Denot)). length l) c.loop-part.invariant.found ∙ by-count (with_part {S = g.row.S.Denot} {T = g.row.T.Denot}) c.args.here.items c.args.found.now.items c.loop-part.yielded in
    omega (arith, there, size, c.loop-part.found.ok.0)

pub index_mut-requires-in-loop-part : goal.index_mut-requires-in-loop-part
index_mut-requires-in-loop-part g c =
    let at = goal.at.index_mut-requires-in-loop-part g c in
    let there = (channel g at.After-index-channel (within g at.In-Some)).1 in
    let items = λ (slots : Vec (Option (KeptStage g.row.S.Denot))). slots.items in
    let size =
    sym (length-map c.loop-part.stages.items items)
    ∙ ap (λ (l : List (List (Option (KeptStage g.row.S.Denot)))). length l) c.loop-part.invariant.stages
    ∙ by-count (with_stages {S = g.row.S.Denot} {T = g.row.T.Denot}) c.args.here.items (slots_in c.args.stages.now.items) c.loop-part.yielded
    ∙ length-map c.args.stages.now.items items in
    omega (arith, there, size, c.requires.count, c.loop-part.stages.ok.0)

pub loop-part-preserved : goal.loop-part-preserved
loop-part-preserved g c =
    let inv = c.loop-part.invariant in
    let row = c.args.here.items in
    let k = c.loop-part.position in
    let done = c.loop-part.yielded in
    let part = c.in-Some.part in
    let at = goal.at.loop-part-preserved g c in
    let within = within g at.In-Some in
    let channel = (channel g at.After-index-channel within).0 in
    record {
      rest = one-more c.args.parts.items done c.loop-part.part-iterator.rest.items c.next.new.self.rest.items part c.in-Some.ensures.steps.0 inv.rest;
      at = omega (arith, inv.at, length-append done (part ∷ []));
      found =
          (λ i. set (inv.found i) (channel i) c.find.new.found)
          ∙ by-next (with_part {S = g.row.S.Denot} {T = g.row.T.Denot}) row c.args.found.now.items c.requires.row done k part c.index_mut.result.now c.find.new.found within inv.at
          (c.index_mut.ensures.value ∙ (λ i. get_or (inv.found i) (channel i) c.index_mut.result.now)) c.in_ok-find.ensures.ends;
      stages =
          slots-next row c.args.stages.now.items c.loop-part.stages.items done k c.index-channel.result.now part c.index_mut-in-loop-part.result.now c.find.new.stages (subst (λ (n : ℕ). IsChannelRow n row) (sym c.requires.count) c.requires.row) within inv.at
          channel inv.stages c.index_mut-in-loop-part.ensures.value c.in_ok-find.ensures.stages;
    }

pub returns-clause-ends : goal.returns-clause-ends
returns-clause-ends g c =
    let inv = c.loop-part.invariant in
    let left = c.loop-part.part-iterator.rest in
    inv.found
    ∙ ap (λ (ps : List (ChannelPartView g.row.S.Denot g.row.T.Denot)). by_channel with_part c.args.here.items ps c.args.found.now.items)
    (all-done c.args.parts.items c.loop-part.yielded left.items (nil_from_length left.items (omega (arith, c.in-None.ensures.steps.0, left.ok))) inv.rest)

pub returns-clause-stages : goal.returns-clause-stages
returns-clause-stages g c =
    let inv = c.loop-part.invariant in
    let left = c.loop-part.part-iterator.rest in
    inv.stages
    ∙ ap (λ (ps : List (ChannelPartView g.row.S.Denot g.row.T.Denot)). by_channel with_stages c.args.here.items ps (slots_in c.args.stages.now.items))
    (all-done c.args.parts.items c.loop-part.yielded left.items (nil_from_length left.items (omega (arith, c.in-None.ensures.steps.0, left.ok))) inv.rest)
