use Rattle.std.proofs.Common.{◌∙◌}
use Rattle.pl_part.specs.Parts.{ChannelPartView}
use Rattle.pl_part.proofs.Forgotten.{gone-at, none-gone}
use Rattle.pl_part.proofs.parts.ChannelPart.gone.Goals as goal

pub returns-in-Some : goal.returns-in-Some
returns-in-Some g c =
    let v : ChannelPartView _ _ = record { path = c.self.inside.path; head = c.self.inside.head } in
    c.gone.ensures ∙ gone-at c.args.self.now v c.self.view_is c.in-Some.head c.in-Some.is

pub returns-in-None : goal.returns-in-None
returns-in-None g c =
    let v : ChannelPartView _ _ = record { path = c.self.inside.path; head = c.self.inside.head } in
    none-gone c.args.self.now v c.self.view_is c.in-None.is
