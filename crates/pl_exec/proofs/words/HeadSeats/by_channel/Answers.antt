use Rattle.std.proofs.Common.{◌++◌, List, Option, Some, map, ap, subst, ◌∙◌, arith}
use Rattle.std.specs.Vec.Iter.{into_iter_items}
use Rattle.std.proofs.lemmas.List.{nil_from_length}
use Rattle.pl_exec.specs.SessionWords.{AreUnused, SeatsView}
use Rattle.pl_exec.proofs.ListSteps.{made-next, made-whole}
use Rattle.pl_exec.proofs.words.HeadSeats.by_channel.Goals as goal

pub loop-own-init : goal.loop-own-init
loop-own-init c =
    ap (λ (l : List (Option SeatsView)). l ++ map (λ (s : SeatsView). Some s) (into_iter_items c.into_iter-own-iterator.result)) c.in_ok-seats.ensures.items
    ∙ ap (map (λ (s : SeatsView). Some s)) (c.into_iter-own-iterator.ensures.into_iter_gives.0 ∙ c.self.view_is)

pub loop-own-preserved : goal.loop-own-preserved
loop-own-preserved c =
    made-next (λ (s : SeatsView). Some s) (map (λ (s : SeatsView). Some s) c.args.self) c.loop-own.seats.items c.push.new.self.items c.loop-own.own-iterator.rest.items c.next.new.self.rest.items c.in-Some.own
    c.in-Some.ensures.steps.0 c.in_ok-push.ensures.items c.loop-own.invariant

pub returns-clause-each : goal.returns-clause-each
returns-clause-each c =
    let left = c.loop-own.own-iterator.rest in
    made-whole (λ (s : SeatsView). Some s) (map (λ (s : SeatsView). Some s) c.args.self) c.loop-own.seats.items left.items (nil_from_length left.items (omega (arith, c.in-None.ensures.steps.0, left.ok))) c.loop-own.invariant

pub returns-clause-unused : goal.returns-clause-unused
returns-clause-unused c = subst AreUnused c.self.view_is c.self.invariant
