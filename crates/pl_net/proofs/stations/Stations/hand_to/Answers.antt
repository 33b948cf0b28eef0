use Rattle.std.proofs.Common.{length, set, refl, sym, subst, ◌∙◌, arith}
use Rattle.std.proofs.lemmas.List.{length-set}
use Rattle.std.proofs.lemmas.Option.{slice_get_read, same_Some}
use Rattle.pl_net.specs.Nets.{HandsOver}
use Rattle.pl_net.specs.Stations.{stations_view}
use Rattle.pl_net.proofs.OneExecutor.{replaces-set}
use Rattle.pl_net.proofs.StationSteps.{backlogs_left, handed_stations, hand-stands, hand-first, hand-is}
use Rattle.pl_net.proofs.stations.Stations.hand_to.Goals as goal

pub returns-clause-hands : goal.returns-clause-hands
returns-clause-hands g c = λ world x backlogs k h found.
    let es = c.args.self.now.stations.items in
    let o = c.args.me in
    let t = c.args.target in
    let a = c.index_mut.result.now in
    let a' = c.take_for.new.self in
    let es2 = set es o a' in
    let b = c.index_mut-in-Some.result.now in
    let b' = c.hand_over.new.self in
    let size = c.args.self.now.stations.ok.0 in
    let r = replaces-set es o a a' (slice_get_read es (length es) o a refl (omega (arith, c.requires.there.0, size)) c.index_mut.ensures.value) in
    let s = replaces-set es2 t b b' (slice_get_read es2 (length es2) t b refl (omega (arith, c.requires.there.1, size, length-set es o a')) c.index_mut-in-Some.ensures.value) in
    let from = stations_view c.args.self.now backlogs in
    let view_of = g.N.Nodes.view_of in
    let stands = g.N.Nodes.stands in
    let e = c.in-Some.envelope in
    let out = c.in-Some.ensures in
    let queue = c.hand_over.ensures.queue in
    let waiting = c.hand_over.ensures.waiting in
    let es3 = set es2 t b' in
    let at = same_Some _ k (sym (hand-first view_of stands world x from h o t es2 es3 a a' b b' r s e out queue waiting) ∙ found) in (
      backlogs_left view_of stands world x from h o t es2 es3 a a' b b' r s e out queue waiting,
      hand-stands view_of stands world x from h o t es2 es3 a a' b b' r s e out queue waiting,
      subst (λ j. HandsOver o j from (handed_stations view_of stands world x from h o t es2 es3 a a' b b' r s e out queue waiting)) at
          (hand-is view_of stands world x from h o t es2 es3 a a' b b' r s e out queue waiting),
    )
