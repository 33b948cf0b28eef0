use Rattle.std.proofs.Common.{◌&&◌, Bool, true, List, Option, sym, ap, ◌∙◌}
use Rattle.std.specs.List.{list_all}
use Rattle.std.specs.Option.{option_map_or}
use Rattle.pl_context.specs.Standings.{is_over}
use Rattle.pl_context.specs.ContextViews.{ContextView}
use Rattle.pl_context.specs.TailViews.{TailView}
use Rattle.pl_part.specs.Paths.{PathPartView, is_slot_over, path_over}
use Rattle.pl_part.proofs.paths.PathPart.has_ended.Goals as goal

pub returns-then-are_over : goal.returns-then-are_over
returns-then-are_over g c =
    let all = sym c.if-are_over.true ∙ c.are_over.ensures ∙ ap (λ (l : List (Option (ContextView g.row.S.Denot))). list_all (λ slot. is_slot_over slot) l) c.deref.ensures.value in
    c.is_tail_over.ensures
    ∙ ap (λ (b : Bool). b && option_map_or (λ (t : TailView). is_over t.standing) c.self.inside.tail true) all
    ∙ ap (λ (y : PathPartView g.row.S.Denot). path_over y) c.self.view_is

pub returns-else-are_over : goal.returns-else-are_over
returns-else-are_over g c =
    let all = sym c.if-are_over.false ∙ c.are_over.ensures ∙ ap (λ (l : List (Option (ContextView g.row.S.Denot))). list_all (λ slot. is_slot_over slot) l) c.deref.ensures.value in
    c.if-are_over.false
    ∙ ap (λ (b : Bool). b && option_map_or (λ (t : TailView). is_over t.standing) c.self.inside.tail true) all
    ∙ ap (λ (y : PathPartView g.row.S.Denot). path_over y) c.self.view_is
