use Rattle.std.proofs.Common.{ap, sym, ◌∙◌}
use Rattle.pl_context.proofs.Places.{places-put}
use Rattle.pl_threads_tests.specs.declared.nodes.Outlet.{Outlet}
use Rattle.pl_threads_tests.proofs.NodeLemmas.{first-made, second-made, second-among}
use Rattle.pl_threads_tests.proofs.nodes.Node.make.Goals as goal

pub returns-then-not-has_made_all-clause-made : goal.returns-then-not-has_made_all-clause-made
returns-then-not-has_made_all-clause-made g c =
    let n = c.args.self.now in
    let e = c.next-envelope.ensures in
    first-made g.W.Named.world n c.requires.stands c.args.work.now c.put.new.self c.next-envelope.result c.put.result e.small c.put.ensures
    (record n { first = c.next-envelope.new.self }) (ap (λ (o : Outlet). record n { first = o }) e.same) (sym c.has_made_all.ensures ∙ c.if-not-has_made_all.true) e.lane e.number e.item

pub returns-then-not-has_made_all-2-clause-placed : goal.returns-then-not-has_made_all-2-clause-placed
returns-then-not-has_made_all-2-clause-placed g c hops among places =
    let e = c.next-envelope-then-not-has_made_all-2.ensures in
    let put = c.put-then-not-has_made_all-2 in
    let x = c.next-envelope-then-not-has_made_all-2.result in
    places-put c.args.work.now put.new.self x put.result hops places (second-among c.args.self.now hops x.lane e.lane among) put.ensures

pub returns-then-not-has_made_all-2-clause-made : goal.returns-then-not-has_made_all-2-clause-made
returns-then-not-has_made_all-2-clause-made g c =
    let n = c.args.self.now in
    let next = c.next-envelope-then-not-has_made_all-2 in
    let put = c.put-then-not-has_made_all-2 in
    let e = next.ensures in
    second-made g.W.Named.world n c.requires.stands c.args.work.now put.new.self next.result put.result e.small put.ensures
    (record n { second = next.new.self }) (ap (λ (o : Outlet). record n { second = o }) e.same) (sym c.has_made_all-2.ensures ∙ c.if-not-has_made_all-2.true) e.lane e.number e.item
