use Rattle.std.specs.Global.{Vec}
use Rattle.std.proofs.Common.{◌≡◌, [], ◌∷◌, ℕ, List, length, refl, ap, sym, subst, ◌∙◌, arith, length-append}
use Rattle.std.specs.Option.{option_map}
use Rattle.std.proofs.lemmas.List.{length-map, map-append, nil_from_length}
use Rattle.std.proofs.lemmas.Option.{slice_get-map}
use Rattle.pl_event.proofs.Lists.{All-at}
use Rattle.pl_exec.specs.ChannelRows.{IsChannelRow}
use Rattle.pl_exec.specs.Sharing.{AreRests, AreShared, HasShares, rows_in}
use Rattle.pl_exec.proofs.ListSteps.{all-done, at-next, one-more}
use Rattle.pl_exec.proofs.SharesMade.{AreLeftFor, all-left, executor-shared, next-left, none-shared, shares-of-whole}
use Rattle.pl_exec.proofs.sharing.shares.Goals as goal

pub loop-here-init : goal.loop-here-init
loop-here-init g c = record {
  rest = c.into_iter-here-iterator.ensures.into_iter_gives.0;
  shared = none-shared g.S.Stage.meaning g.S.Stage.stands_after g.T.Transport.state c.args.parts.items c.args.words.now c.args.seats.items c.in_ok-all.all.items c.in_ok-all.ensures.items;
  left = all-left c.args.parts.items c.args.seats.items;
}

pub nodes_on-requires-clause-row : goal.nodes_on-requires-clause-row
nodes_on-requires-clause-row g c =
    let inv = c.loop-here.invariant in
    let done = c.loop-here.yielded in
    let at = at-next c.args.rows.items done c.loop-here.here-iterator.rest.items c.next.new.self.rest.items c.in-Some.here (length done) inv.rest c.in-Some.ensures.steps.0 refl in
    subst (λ (n : ℕ). IsChannelRow n c.in-Some.here.items) (sym inv.left.parts_count)
    (All-at (IsChannelRow (length c.args.parts.items)) (rows_in c.args.rows.items) (length done) c.in-Some.here.items c.requires.rows (slice_get-map (λ (row : Vec ℕ). row.items) c.args.rows.items (length done) ∙ ap (option_map (λ (row : Vec ℕ). row.items)) at))

pub nodes_on-requires-clause-few : goal.nodes_on-requires-clause-few
nodes_on-requires-clause-few g c = let size = c.loop-here.invariant.left.parts_count in omega (arith, size, c.requires.few)

pub nodes_on-requires-clause-seats : goal.nodes_on-requires-clause-seats
nodes_on-requires-clause-seats g c = c.loop-here.invariant.left.seats_count ∙ c.requires.seats ∙ sym c.loop-here.invariant.left.parts_count

pub loop-here-preserved : goal.loop-here-preserved
loop-here-preserved g c =
    let inv = c.loop-here.invariant in
    let all = c.loop-here.all in
    let done = c.loop-here.yielded in
    let count : length all.items ≡ length done = inv.shared.count ∙ length-map done (λ (r : Vec ℕ). r.items) in
    let row = c.in-Some.here in
    let wholes = c.args.parts.items in
    let heads = c.args.seats.items in
    let number : c.len-number.result ≡ length done = omega (arith, c.len-number.ensures, all.ok.0, count) in
    let made = c.in_ok-nodes_on.ensures in
    let nodes = c.in_ok-nodes_on.field-0 in
    let has : HasShares g.S.Stage.meaning g.S.Stage.stands_after g.T.Transport.state c.loop-here.left.items c.args.words.now c.loop-here.seats.items (length done) row.items nodes =
    subst (λ (n : ℕ). HasShares g.S.Stage.meaning g.S.Stage.stands_after g.T.Transport.state c.loop-here.left.items c.args.words.now c.loop-here.seats.items n row.items nodes) number made.shares in
    record {
      rest = one-more c.args.rows.items done c.loop-here.here-iterator.rest.items c.next.new.self.rest.items row c.in-Some.ensures.steps.0 inv.rest;
      shared =
          subst (λ (rows : List (List ℕ)). AreShared g.S.Stage.meaning g.S.Stage.stands_after g.T.Transport.state wholes c.args.words.now heads rows c.push.new.self.items) (sym (map-append (λ (r : Vec ℕ). r.items) done (row ∷ [])))
          (executor-shared g.S.Stage.meaning g.S.Stage.stands_after g.T.Transport.state wholes c.args.words.now heads (rows_in done) row.items all.items c.push.new.self.items nodes c.in_ok-push.ensures.items
          (subst (λ (n : ℕ). HasShares g.S.Stage.meaning g.S.Stage.stands_after g.T.Transport.state wholes c.args.words.now heads n row.items nodes) (sym count)
          (shares-of-whole wholes heads (length done) c.loop-here.left.items c.loop-here.seats.items inv.left c.requires.seats g.S.Stage.meaning g.S.Stage.stands_after g.T.Transport.state c.args.words.now row.items nodes has))
          inv.shared);
      left =
          subst (λ (n : ℕ). AreLeftFor wholes heads n c.nodes_on.new.left.items c.nodes_on.new.seats.items) (omega (arith, length-append done (row ∷ [])))
          (next-left wholes heads (length done) c.loop-here.left.items c.loop-here.seats.items inv.left c.requires.seats c.nodes_on.new.left.items c.nodes_on.new.seats.items
          (subst (λ (n : ℕ). AreRests n c.loop-here.left.items c.loop-here.seats.items c.nodes_on.new.left.items c.nodes_on.new.seats.items) number made.rests));
    }

pub returns : goal.returns
returns g c =
    let inv = c.loop-here.invariant in
    let left = c.loop-here.here-iterator.rest in
    subst (λ (rows : List (Vec ℕ)). AreShared g.S.Stage.meaning g.S.Stage.stands_after g.T.Transport.state c.args.parts.items c.args.words.now c.args.seats.items (rows_in rows) c.loop-here.all.items)
    (all-done c.args.rows.items c.loop-here.yielded left.items (nil_from_length left.items (omega (arith, c.in-None.ensures.steps.0, left.ok))) inv.rest) inv.shared
