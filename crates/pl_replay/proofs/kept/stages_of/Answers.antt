use Rattle.std.proofs.Common.{List, map, ◌++◌, ◌∷◌, [], Option, sym, ap, ◌∙◌, rules}
use Rattle.std.specs.Global.{Vec}
use Rattle.std.proofs.lemmas.List.{map-id, map-append}
use Rattle.std.proofs.lemmas.Iterator.Adapters.{YieldsList-from_vec}
use Rattle.std.proofs.lemmas.Iterator.Consumers.{YieldsList-end}
use Rattle.pl_part.specs.declared.kept.KeptStage.{KeptStage}
use Rattle.pl_part.specs.Keeping.{part_stages}
use Rattle.pl_part.specs.Parts.{ChannelPartView}
use Rattle.pl_replay.proofs.kept.stages_of.Goals as goal

pub loop-part-preserved : goal.loop-part-preserved
loop-part-preserved g c =
    let so_far = c.loop-part in
    let stages = c.in_ok-into_stages in
    let items = (λ (row : Vec (Option (KeptStage g.row.S.Denot))). row.items) in
    ap (λ (l : List (Vec (Option (KeptStage g.row.S.Denot)))). map items l) c.in_ok-push.ensures.items
    ∙ map-append items so_far.channels.items (stages.field-0 ∷ [])
    ∙ (λ i. so_far.invariant i ++ stages.ensures.stages i ∷ [])
    ∙ sym (map-append (λ (part : ChannelPartView g.row.S.Denot g.row.T.Denot). part_stages part) so_far.yielded (c.in-Some.part ∷ []))

pub returns : goal.returns
returns g c =
    let so_far = c.loop-part in
    let yields = YieldsList-from_vec {s = c.into_iter-part-iterator.result} c.args.parts.items (search rules) (search rules) in
    let end = YieldsList-end yields so_far.yielded so_far.part-iterator so_far.yielded_by c.next.result c.next.new.self c.in-None.is c.next.ensures.steps in
    so_far.invariant ∙ ap (λ (l : List (ChannelPartView g.row.S.Denot g.row.T.Denot)). map (λ (part : ChannelPartView g.row.S.Denot g.row.T.Denot). part_stages part) l) (sym (map-id so_far.yielded) ∙ end.0)
