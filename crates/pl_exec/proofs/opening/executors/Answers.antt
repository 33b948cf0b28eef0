use Rattle.std.proofs.Common.{rules, ◌≡◌, ◌≤◌, ◌++◌, [], ◌∷◌, ℕ, List, Some, slice_get, length, map, inl, inr, ⊎_elim, refl, ap, sym, subst, ◌∙◌, arith, append_assoc, length-append}
use Rattle.std.proofs.lemmas.List.{length-map, length-set, map-append, nil_from_length}
use Rattle.std.proofs.lemmas.Option.{slice_get_read, slice_get_within}
use Rattle.pl_event.proofs.Lists.{at-index, at_set_other, slice_get-push}
use Rattle.pl_threads.specs.Running.{ExecutorView}
use Rattle.pl_exec.specs.Opening.{HasWays, IsFirst, WaysView, inbox_view}
use Rattle.pl_exec.proofs.Columns.{inboxes-count}
use Rattle.pl_exec.proofs.ListSteps.{at-next, left-front, left-behind, none-left, all-done}
use Rattle.pl_exec.proofs.StartLemmas.{each-starts, start-deals}
use Rattle.pl_exec.proofs.opening.executors.Goals as goal

pub ways_of_all-requires-clause-few : goal.ways_of_all-requires-clause-few
ways_of_all-requires-clause-few g c = c.requires.few

pub ways_of_all-requires-clause-deal : goal.ways_of_all-requires-clause-deal
ways_of_all-requires-clause-deal g c =
    let inboxes = map inbox_view c.args.inboxes.now in
    let start = c.requires.start in (
      start.lanes,
      start-deals g.M.Mailbox.ends g.N.OwnNodes.view_of g.N.OwnNodes.stands inboxes c.args.ends.items c.args.columns.items c.args.nodes.items c.args.data_lanes c.args.places.now start,
    )

pub executor-requires-clause-there : goal.executor-requires-clause-there
executor-requires-clause-there g c =
    let within = slice_get_within c.args.ends.items c.loop-own_ends.number c.in-Some.own_ends (left-front c.args.ends.items c.next.new.self.a.rest.items c.loop-own_ends.number c.in-Some.own_ends (c.loop-own_ends.invariant.own ∙ c.in-Some.ensures.steps.0.0)) in
    omega (arith, within, c.requires.start.opened.count, inboxes-count c.args.inboxes.now)

pub executor-requires-clause-few : goal.executor-requires-clause-few
executor-requires-clause-few g c = c.requires.few

pub overflow_add-number : goal.overflow_add-number
overflow_add-number g c =
    let within = slice_get_within c.args.ends.items c.loop-own_ends.number c.in-Some.own_ends (left-front c.args.ends.items c.next.new.self.a.rest.items c.loop-own_ends.number c.in-Some.own_ends (c.loop-own_ends.invariant.own ∙ c.in-Some.ensures.steps.0.0)) in
    omega (arith, within, c.requires.start.opened.count, inboxes-count c.args.inboxes.now, c.requires.few)

pub loop-own_ends-init : goal.loop-own_ends-init
loop-own_ends-init g c =
    record {
      at = search rules;
      own = search rules;
      ways_count = c.in_ok-rows.ensures.count;
      ways = λ lanes can y v row le at-v at-row. c.in_ok-rows.ensures.ways lanes can y v row at-v at-row;
      parts = search rules;
      first = search rules;
    }

pub index_mut-requires : goal.index_mut-requires
index_mut-requires g c =
    let within = slice_get_within c.args.ends.items c.loop-own_ends.number c.in-Some.own_ends (left-front c.args.ends.items c.next.new.self.a.rest.items c.loop-own_ends.number c.in-Some.own_ends (c.loop-own_ends.invariant.own ∙ c.in-Some.ensures.steps.0.0)) in
    omega (arith, within, c.requires.start.opened.count, inboxes-count c.args.inboxes.now, c.loop-own_ends.invariant.ways_count, c.loop-own_ends.rows.ok.0)

pub executor-requires-clause-starts : goal.executor-requires-clause-starts
executor-requires-clause-starts g c =
    let inv = c.loop-own_ends.invariant in
    let steps = c.in-Some.ensures.steps in
    let next = c.next.new.self in
    let left = c.loop-own_ends.own_ends-iterator in
    let number = c.loop-own_ends.number in
    let start = c.requires.start in
    let inboxes = map inbox_view c.args.inboxes.now in
    let places = c.args.places.now in
    let can = start-deals g.M.Mailbox.ends g.N.OwnNodes.view_of g.N.OwnNodes.stands inboxes c.args.ends.items c.args.columns.items c.args.nodes.items c.args.data_lanes places start in
    let at-own = left-front c.args.ends.items next.a.rest.items number c.in-Some.own_ends (inv.own ∙ steps.0.0) in
    let within = slice_get_within c.args.ends.items number c.in-Some.own_ends at-own in
    let row = at-index places number (omega (arith, within, start.opened.count, start.count, start.fit.places_count)) in
    let at-ways = slice_get_read c.loop-own_ends.rows.items (length c.loop-own_ends.rows.items) number c.index_mut.result.now refl (omega (arith, within, start.opened.count, inboxes-count c.args.inboxes.now, inv.ways_count)) c.index_mut.ensures.value in
    let here : number ≤ number = omega arith in
    each-starts g.M.Mailbox.ends g.N.OwnNodes.view_of g.N.OwnNodes.stands inboxes c.args.ends.items c.args.columns.items c.args.nodes.items c.args.data_lanes places start number c.in-Some.own_ends c.in-Some.nodes row.0 c.take-ways.result at-own
    (at-next c.args.nodes.items _ left.b.rest.items next.b.rest.items c.in-Some.nodes number inv.parts steps.1.0 (inv.at ∙ sym (length-map c.loop-own_ends.executors.items _)))
    row.1 (subst (λ (v : WaysView). HasWays start.lanes number row.0.items (length start.lanes) v) (sym c.take-ways.ensures) (inv.ways start.lanes can number c.index_mut.result.now row.0 here at-ways row.1))

pub loop-own_ends-preserved : goal.loop-own_ends-preserved
loop-own_ends-preserved g c =
    let inv = c.loop-own_ends.invariant in
    let steps = c.in-Some.ensures.steps in
    let own = λ (e : ExecutorView g.row.N.Denot × _). e.0.nodes in
    let next = c.next.new.self in
    let made = c.loop-own_ends.executors.items in
    let number = c.loop-own_ends.number in
    let first = λ (e : ExecutorView g.row.N.Denot × _). e.0 in
    let new = c.in_ok-executor.field-0 in
    let added = c.in_ok-push.ensures.items in
    record {
      at = let more = ap (λ (l : List (ExecutorView g.row.N.Denot × _)). length l) added in omega (arith, inv.at, more, length-append made (new ∷ []));
      own = left-behind c.args.ends.items next.a.rest.items number c.in-Some.own_ends (inv.own ∙ steps.0.0);
      ways_count = length-set c.loop-own_ends.rows.items number c.take-ways.new.self ∙ inv.ways_count;
      ways = λ lanes can y v row le at-v at-row. inv.ways lanes can y v row (omega (arith, le)) (at_set_other c.loop-own_ends.rows.items number y c.take-ways.new.self v (λ e. omega (arith, le, e)) at-v) at-row;
      parts =
          ap (λ (l : List (ExecutorView g.row.N.Denot × _)). map own l ++ next.b.rest.items) added
          ∙ ap (λ (l : List g.row.N.Denot). l ++ next.b.rest.items) (map-append own made (new ∷ []))
          ∙ append_assoc (map own made) (new.0.nodes ∷ []) next.b.rest.items
          ∙ ap (λ (p : g.row.N.Denot). map own made ++ p ∷ next.b.rest.items) c.in_ok-executor.ensures.nodes
          ∙ ap (λ (l : List g.row.N.Denot). map own made ++ l) (sym steps.1.0) ∙ inv.parts;
      first = λ y e found. ⊎_elim
          (λ (a : slice_get (map first made) y ≡ Some e). inv.first y e a)
          (λ (a : (y ≡ length (map first made)) × (e ≡ new.0)).
          subst (λ (z : ℕ × ExecutorView g.row.N.Denot). IsFirst z.0 z.1) (λ i. ((inv.at ∙ sym (length-map made first) ∙ sym a.0) i, sym a.1 i)) c.in_ok-executor.ensures.first)
          (slice_get-push (map first made) new.0 e y (sym (ap (λ (l : List (ExecutorView g.row.N.Denot)). slice_get l y) (ap (map first) added ∙ map-append first made (new ∷ []))) ∙ found));
    }

pub returns-clause-parts : goal.returns-clause-parts
returns-clause-parts g c =
    let inv = c.loop-own_ends.invariant in
    let left = c.loop-own_ends.own_ends-iterator in
    let own = λ (e : ExecutorView g.row.N.Denot × _). e.0.nodes in
    let made = c.loop-own_ends.executors.items in
    let place = inv.at ∙ sym (length-map made own) in
    let start = c.requires.start in
    elim c.in-None.ensures.steps [
      | inl h ↦ none-left c.args.ends.items c.args.nodes.items (map own made) left.b.rest.items c.loop-own_ends.number (inv.own ∙ nil_from_length left.a.rest.items (omega (arith, h.1.0, left.a.rest.ok))) place
          (start.opened.count ∙ start.count ∙ sym start.fit.nodes_count) inv.parts
      | inr h ↦ all-done c.args.nodes.items (map own made) left.b.rest.items (nil_from_length left.b.rest.items (omega (arith, h.1.0, left.b.rest.ok))) inv.parts
    ]
