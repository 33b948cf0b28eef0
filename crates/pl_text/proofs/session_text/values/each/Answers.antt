use Rattle.std.proofs.Common.{◌≡◌, ◌∷◌, List, true, Ok, map, sym, ap, ◌∙◌, arith, rules}
use Rattle.std.specs.Prelude.{is_ok}
use Rattle.std.specs.Vec.Iter.{into_iter_items}
use Rattle.std.proofs.lemmas.List.{nil_from_length}
use Rattle.std.proofs.lemmas.Result.{err_from_is_err_and}
use Rattle.serde_json.specs.View.{view}
use Rattle.pl_text.proofs.SessionElements.{each-begins, each-more, each-stops, each-ends}
use Rattle.pl_text.proofs.session_text.values.each.Goals as goal

pub loop-value-init : goal.loop-value-init
loop-value-init g c = rw (c.in_ok-read.ensures.items, c.into_iter-value-iterator.ensures.into_iter_gives.0) (each-begins _)

pub returns-in_err-from_data : goal.returns-in_err-from_data
returns-in_err-from_data g c =
    let p = err_from_is_err_and c.from_residual-in_err-from_data.result c.from_residual-in_err-from_data.ensures.1 in
    let next : into_iter_items c.loop-value.value-iterator ≡ c.in-Some.value ∷ into_iter_items c.next.new.self = c.in-Some.ensures.steps.0 in
    rw (p.1, p.2) (λ other. each-stops (g.T.FromData.meaning c.args.version) _ _ _ _ _ (rw next at c.loop-value.invariant) (c.in_err-from_data.ensures other))

pub loop-value-preserved : goal.loop-value-preserved
loop-value-preserved g c =
    let pushed : is_ok c.push.result ≡ true = search rules in
    let next : into_iter_items c.loop-value.value-iterator ≡ c.in-Some.value ∷ into_iter_items c.next.new.self = c.in-Some.ensures.steps.0 in
    rw (c.push.ensures.items, pushed) (each-more (g.T.FromData.meaning c.args.version) _ _ _ _ _ (rw next at c.loop-value.invariant) c.in_ok-from_data.ensures)

pub returns : goal.returns
returns g c =
    let last = nil_from_length c.loop-value.value-iterator.rest.items (omega (arith, c.loop-value.value-iterator.rest.ok.0, c.in-None.ensures.steps.0)) in
    each-ends _ _ _ _ c.loop-value.invariant (ap (map view) last) ∙ ap (λ (xs : List _). Ok xs) (sym c.from_vec.ensures)
