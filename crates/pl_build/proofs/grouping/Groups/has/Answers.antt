use Rattle.std.proofs.Common.{◌≡◌, List, ℕ, sym, ◌∙◌, rules}
use Rattle.std.specs.List.{list_any}
use Rattle.std.specs.Str.{bytes_eq}
use Rattle.pl_build.specs.declared.grouping.Group.{Group}
use Rattle.pl_event.proofs.Lists.{list_any-map}
use Rattle.pl_build.proofs.grouping.Groups.has.Goals as goal

pub returns-in-Some : goal.returns-in-Some
returns-in-Some c =
    let there : c.has_name.result ≡ list_any (λ group. bytes_eq group.name c.in-Some.name) c.self.inside.groups.items = search rules in
    rw (c.in-Some.is, ← c.self.view_is) (there ∙ sym (list_any-map (λ (g : List ℕ × ℕ). bytes_eq g.0 c.in-Some.name) (λ (g : Group). (g.name, g.size)) c.self.inside.groups.items))
