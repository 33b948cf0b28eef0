use Rattle.std.proofs.Common.{List, ◌++◌, ◌∷◌, [], Option, sym, ap, ◌∙◌, rules}
use Rattle.std.proofs.lemmas.List.{map-id, map-append}
use Rattle.std.specs.Option.{option_map}
use Rattle.std.proofs.lemmas.Iterator.Adapters.{YieldsList-from_vec}
use Rattle.std.proofs.lemmas.Iterator.Consumers.{YieldsList-end}
use Rattle.pl_context.specs.ContextViews.{ContextView}
use Rattle.pl_part.specs.Keeping.{kept_stage, kept_stages}
use Rattle.pl_part.proofs.kept.stages_of.Goals as goal

pub loop-slot-preserved : goal.loop-slot-preserved
loop-slot-preserved g c =
    let so_far = c.loop-slot in
    c.in_ok-push.ensures.items
    ∙ (λ i. so_far.invariant i ++ c.stage_at.ensures i ∷ [])
    ∙ sym (map-append (λ (slot : Option (ContextView g.row.S.Denot)). option_map kept_stage slot) so_far.yielded (c.in-Some.slot ∷ []))

pub returns : goal.returns
returns g c =
    let so_far = c.loop-slot in
    let yields = YieldsList-from_vec {s = c.into_iter-slot-iterator.result} c.args.contexts.items (search rules) (search rules) in
    let end = YieldsList-end yields so_far.yielded so_far.slot-iterator so_far.yielded_by c.next.result c.next.new.self c.in-None.is c.next.ensures.steps in
    so_far.invariant ∙ ap (λ (l : List (Option (ContextView g.row.S.Denot))). kept_stages l) (sym (map-id so_far.yielded) ∙ end.0)
