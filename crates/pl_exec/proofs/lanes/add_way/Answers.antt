use Rattle.std.proofs.Common.{◌++◌, [], ◌∷◌, List, ap, ◌∙◌}
use Rattle.std.proofs.lemmas.List.{map_push}
use Rattle.pl_event.specs.declared.envelopes.Lane.{Lane}
use Rattle.pl_exec.specs.declared.lanes.WayIn.{WayIn}
use Rattle.pl_exec.specs.Opening.{way_by, ways_in}
use Rattle.pl_exec.proofs.WaysMade.{way_of}
use Rattle.pl_exec.proofs.lanes.add_way.Goals as goal

pub returns : goal.returns
returns c =
    let items = c.args.ways.now.items in
    ap (λ (l : List WayIn). ways_in l) c.in_ok-push.ensures.items
    ∙ map_push way_of items _
    ∙ ap (λ (lanes : List Lane). ways_in items ++ way_by c.args.origin lanes ∷ []) c.new.ensures.items
