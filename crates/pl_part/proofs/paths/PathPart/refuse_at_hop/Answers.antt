use Rattle.std.proofs.Common.{◌≡◌, ◌∙◌, ◌<◌, ◌≤◌, ℕ, None, length, refl, sym, subst, ap, arith}
use Rattle.std.proofs.lemmas.List.{length-set}
use Rattle.pl_context.specs.Stops.{HasPlaces}
use Rattle.pl_part.specs.Paths.{PathPartView, IsPathPart, context_at, path_lanes, writer_hop}
use Rattle.pl_part.specs.PathCalls.{PathRefused}
use Rattle.pl_part.proofs.PathSteps.{context-places, context-refused, none-refused, beyond-refused, slot-at, set-same, refusing-of, refused-of}
use Rattle.pl_part.proofs.paths.PathPart.refuse_at_hop.Goals as goal

pub refuse_at-requires-clause-holds : goal.refuse_at-requires-clause-holds
refuse_at-requires-clause-holds g c =
    let some = refusing-of g.S.Stage.meaning g.S.Stage.stands_after _ _ c.self.view_is c.requires.holds in
    let at = slot-at c.self.inside.contexts.items c.args.hop c.index_mut.result.now _ (omega (arith, c.len.ensures, c.if-hop-len.true, c.self.inside.contexts.ok.0)) c.index_mut.ensures.value c.in-Some.is in
    (some.0, some.1, (some.2.contexts c.args.hop c.in-Some.context at).0)

pub refuse_at-requires-clause-places : goal.refuse_at-requires-clause-places
refuse_at-requires-clause-places g c =
    let some = refusing-of g.S.Stage.meaning g.S.Stage.stands_after _ _ c.self.view_is c.requires.holds in
    let at = slot-at c.self.inside.contexts.items c.args.hop c.index_mut.result.now _ (omega (arith, c.len.ensures, c.if-hop-len.true, c.self.inside.contexts.ok.0)) c.index_mut.ensures.value c.in-Some.is in
    context-places g.S.Stage.meaning g.S.Stage.stands_after _ c.self.invariant (some.0, some.2) c.args.hop c.in-Some.context at c.args.work.now
    (subst (λ (y : PathPartView _). HasPlaces c.args.work.now.stopped (path_lanes y)) (sym c.self.view_is) c.requires.places)

pub returns-in-Some : goal.returns-in-Some
returns-in-Some g c =
    let some = refusing-of g.S.Stage.meaning g.S.Stage.stands_after _ _ c.self.view_is c.requires.holds in
    let at = slot-at c.self.inside.contexts.items c.args.hop c.index_mut.result.now _ (omega (arith, c.len.ensures, c.if-hop-len.true, c.self.inside.contexts.ok.0)) c.index_mut.ensures.value c.in-Some.is in
    let writer = subst (λ (y : PathPartView _). c.args.hop ≡ writer_hop y c.args.lane.hop) (sym c.self.view_is) c.requires.writer in
    let t = c.refuse_at.ensures in
    refused-of g.S.Stage.meaning g.S.Stage.stands_after _ _ c.self.view_is _ _ _ c.args.lane
    (context-refused g.S.Stage.meaning g.S.Stage.stands_after _ c.self.invariant (some.0, some.2) c.args.hop c.in-Some.context at c.refuse_at.new.context t.meaning t.same_node t.lanes c.args.lane c.args.work.now c.refuse_at.new.work writer
    t.refused t.over t.taken t.holds t.made t.placed t.more)

pub returns-in_default : goal.returns-in_default
returns-in_default g c =
    let meaning = g.S.Stage.meaning in
    let stands = g.S.Stage.stands_after in
    let value = c.index_mut.ensures.value in
    let within : c.args.hop < length c.self.inside.contexts.items = omega (arith, c.len.ensures, c.if-hop-len.true, c.self.inside.contexts.ok.0) in
    let none = slot-at c.self.inside.contexts.items c.args.hop c.index_mut.result.now _ within value c.in_default.is in
    let at = subst (λ (y : PathPartView _). context_at y c.args.hop ≡ None) c.self.view_is none in
    subst (λ (y : PathPartView _). PathRefused meaning stands c.args.self.now c.args.lane c.args.work.now y c.args.work.now)
    (sym c.self.view_is ∙ (λ i. record {
      channel = c.self.inside.channel;
      executors = c.self.inside.executors.items;
      contexts = sym (set-same c.self.inside.contexts.items c.args.hop c.index_mut.result.now value) i;
      tail = c.self.inside.tail;
      tail_hop = c.self.inside.tail_hop;
      turn = c.self.inside.turn;
    }))
    (none-refused meaning stands c.args.self.now c.args.lane c.args.work.now (ap (λ (h : ℕ). context_at c.args.self.now h) (sym c.requires.writer) ∙ at))

pub returns-else-hop-len : goal.returns-else-hop-len
returns-else-hop-len g c =
    let past = subst (λ (y : PathPartView _). length y.contexts ≤ c.args.hop) c.self.view_is (omega (arith, c.len.ensures, c.if-hop-len.false, c.self.inside.contexts.ok.0)) in
    beyond-refused g.S.Stage.meaning g.S.Stage.stands_after c.args.self.now c.args.lane c.args.work.now (subst (λ (h : ℕ). length c.args.self.now.contexts ≤ h) c.requires.writer past)

pub index_mut-requires : goal.index_mut-requires
index_mut-requires g c = omega (arith, c.len.ensures, c.if-hop-len.true, c.self.inside.contexts.ok.0)

pub invariant_of-self : goal.invariant_of-self
invariant_of-self g c =
    subst (λ (n : ℕ). IsPathPart (length c.self.inside.executors.items) n c.self.inside.tail_hop c.self.inside.turn) (sym (length-set c.self.inside.contexts.items _ _)) c.self.invariant

pub invariant_of-self-in_default : goal.invariant_of-self-in_default
invariant_of-self-in_default g c =
    subst (λ (n : ℕ). IsPathPart (length c.self.inside.executors.items) n c.self.inside.tail_hop c.self.inside.turn) (sym (length-set c.self.inside.contexts.items _ _)) c.self.invariant

pub same-self : goal.same-self
same-self g c = refl
