use Rattle.std.proofs.Common.{◌≡◌, List, ℕ, Option, Bool, cond, sym, ap, ◌∙◌, rules}
use Rattle.std.specs.List.{list_any}
use Rattle.std.proofs.lemmas.List.Edits.{map_over_more}
use Rattle.pl_build.specs.Names.{is_among}
use Rattle.pl_build.specs.Executors.{uses, groups_of}
use Rattle.pl_build.specs.Counts.{group_after}
use Rattle.pl_build.specs.declared.grouping.Group.{Group}
use Rattle.pl_build.specs.declared.named_stages.NamedStage.{NamedStage}
use Rattle.pl_event.proofs.Lists.{list_any-map}
use Rattle.pl_build.proofs.grouping.advance_used.Goals as goal

pub loop-group-preserved : goal.loop-group-preserved
loop-group-preserved g c =
    let group = c.group-item.result in
    let used : c.is_used-is_used.result ≡ list_any (λ h. is_among h.group group.name) c.args.handlers.now = search rules in
    let mapped = used ∙ sym (list_any-map (λ (name : Option (List ℕ)). is_among name group.name) (λ (h : NamedStage g.row.S.Denot). h.group) c.args.handlers.now) in
    let counted : c.advance.new.self ≡ cond c.is_used-is_used.result (group_after group) group = search rules in
    rw (counted ∙ ap (λ (b : Bool). cond b (group_after group) group) mapped) (map_over_more (λ (x : Group). cond (uses x.name (groups_of c.args.handlers.now)) (group_after x) x) c.args.groups.now c.loop-group.groups c.loop-group.group-index group c.loop-group-test.true c.loop-group.invariant c.group-item.is)
