use Rattle.std.proofs.Common.{◌≡◌, ℕ, ◌++◌, ◌∷◌, [], List, length, sym, subst, ◌∙◌, arith, rules}
use Rattle.std.proofs.lemmas.List.{map-id}
use Rattle.std.proofs.lemmas.Iterator.Adapters.{YieldsList-from_vec}
use Rattle.std.proofs.lemmas.Iterator.Consumers.{YieldsList-turn, YieldsList-end}
use Rattle.pl_part.specs.Parts.{ChannelPartView}
use Rattle.pl_world.specs.Plans.{channel_planned}
use Rattle.pl_world.specs.PlanRules.{IsSmallChannel}
use Rattle.pl_world.specs.Worlds.{IsUncalled}
use Rattle.pl_world.specs.declared.session.Recorded.{Recorded}
use Rattle.pl_channel.specs.WholeParts.{IsWholePart, AreWholeParts}
use Rattle.pl_channel.proofs.WholeChannels.{placed-none, placed-push}
use Rattle.pl_channel.proofs.recorded_parts.whole_parts.Goals as goal

pub overflow_cast-number : goal.overflow_cast-number
overflow_cast-number g c =
    let so_far = c.loop-record in
    let yields = YieldsList-from_vec {s = c.into_iter-record-iterator.result} c.args.recorded.items (search rules) (search rules) in
    let turn = YieldsList-turn yields so_far.yielded so_far.record-iterator so_far.yielded_by c.next.result c.next.new.self c.in-Some.record c.in-Some.is c.next.ensures.steps in
    let size = so_far.invariant.count in
    omega (arith, turn.0, size, c.len-number.ensures, c.requires.count, c.args.recorded.ok, so_far.parts.ok)

pub loop-record-init : goal.loop-record-init
loop-record-init g c =
    subst (λ (l : List (ChannelPartView g.row.S.Denot g.row.T.Denot)). AreWholeParts g.S.Stage.meaning g.S.Stage.stands_after g.T.Transport.state [] l) (sym c.in_ok-parts.ensures.items) (placed-none g.S.Stage.meaning g.S.Stage.stands_after g.T.Transport.state)

pub whole_part-requires-clause-small : goal.whole_part-requires-clause-small
whole_part-requires-clause-small g c =
    let so_far = c.loop-record in
    let yields = YieldsList-from_vec {s = c.into_iter-record-iterator.result} c.args.recorded.items (search rules) (search rules) in
    let turn = YieldsList-turn yields so_far.yielded so_far.record-iterator so_far.yielded_by c.next.result c.next.new.self c.in-Some.record c.in-Some.is c.next.ensures.steps in
    subst (λ (r : Recorded g.row.S.Denot g.row.T.Denot). IsSmallChannel (channel_planned g.S.Stage.meaning g.T.Transport.state r)) (sym turn.1)
    (c.requires.small (length so_far.yielded) c.in-Some.record turn.0)

pub whole_part-requires-clause-uncalled : goal.whole_part-requires-clause-uncalled
whole_part-requires-clause-uncalled g c =
    let so_far = c.loop-record in
    let yields = YieldsList-from_vec {s = c.into_iter-record-iterator.result} c.args.recorded.items (search rules) (search rules) in
    let turn = YieldsList-turn yields so_far.yielded so_far.record-iterator so_far.yielded_by c.next.result c.next.new.self c.in-Some.record c.in-Some.is c.next.ensures.steps in
    subst (λ (r : Recorded g.row.S.Denot g.row.T.Denot). IsUncalled (g.T.Transport.state r.transport)) (sym turn.1)
    (c.requires.uncalled (length so_far.yielded) c.in-Some.record turn.0)

pub loop-record-preserved : goal.loop-record-preserved
loop-record-preserved g c =
    let meaning = g.S.Stage.meaning in
    let stands = g.S.Stage.stands_after in
    let state = g.T.Transport.state in
    let so_far = c.loop-record in
    let r = c.in-Some.record in
    let part = c.in_ok-whole_part.field-0 in
    let made = c.in_ok-whole_part.ensures in
    let number : c.len-number.result ≡ length so_far.parts.items = omega (arith, c.len-number.ensures, so_far.parts.ok) in
    let placed : IsWholePart meaning stands state c.len-number.result r part = record { whole = made.whole; stages = made.stages; unmoved = made.unmoved; holds = made.holds } in
    subst (λ (t : List (ChannelPartView g.row.S.Denot g.row.T.Denot)). AreWholeParts meaning stands state (so_far.yielded ++ r ∷ []) t) (sym c.in_ok-push.ensures.items)
    (placed-push meaning stands state so_far.yielded so_far.parts.items r part so_far.invariant (subst (λ (n : ℕ). IsWholePart meaning stands state n r part) number placed))

pub returns : goal.returns
returns g c =
    let so_far = c.loop-record in
    let yields = YieldsList-from_vec {s = c.into_iter-record-iterator.result} c.args.recorded.items (search rules) (search rules) in
    let end = YieldsList-end yields so_far.yielded so_far.record-iterator so_far.yielded_by c.next.result c.next.new.self c.in-None.is c.next.ensures.steps in
    let whole : so_far.yielded ≡ c.args.recorded.items = sym (map-id so_far.yielded) ∙ end.0 in
    subst (λ (t : List (Recorded g.row.S.Denot g.row.T.Denot)). AreWholeParts g.S.Stage.meaning g.S.Stage.stands_after g.T.Transport.state t so_far.parts.items) whole so_far.invariant
