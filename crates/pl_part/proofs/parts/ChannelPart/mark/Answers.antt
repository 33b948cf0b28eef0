use Rattle.std.proofs.Common.{◌≡◌, Some, ap, sym, ◌∙◌}
use Rattle.pl_part.specs.Parts.{ChannelPartView}
use Rattle.pl_part.proofs.ToldLemmas.{same-head, pending-is, not-writable, is-writable}
use Rattle.pl_part.proofs.parts.ChannelPart.mark.Goals as goal

has-head : (g : _) (c : goal.After-is_writable g) → c.args.self.now.head ≡ Some c.in-Some.head
has-head g c = sym (ap (λ (p : ChannelPartView g.row.S.Denot g.row.T.Denot). p.head) c.self.view_is) ∙ c.in-Some.is

pending : (g : _) (c : goal.After-is_writable g) → c.pending.result ≡ c.in-Some.head.buffer.pending
pending g c =
    let own = c.requires.holds.1.head c.in-Some.head (has-head g c) in
    pending-is g.T.Transport.state c.requires.holds.0 c.in-Some.head own.0 c.pending.result c.pending.ensures.sizes

pub returns-in-Some-clause-some : goal.returns-in-Some-clause-some
returns-in-Some-clause-some g c = (c.in-Some.head, has-head g c, pending g c, c.is_writable.ensures.view)

pub returns-in-Some-clause-above : goal.returns-in-Some-clause-above
returns-in-Some-clause-above g c = λ h at ordered above.
    let own = c.requires.holds.1.head h at in
    not-writable g.T.Transport.state c.requires.holds.0 h own.0 ordered c.in-Some.head (same-head c.args.self.now c.in-Some.head h (has-head g c) at) c.pending.result c.is_writable.result (pending g c) c.is_writable.ensures.view above

pub returns-in-Some-clause-below : goal.returns-in-Some-clause-below
returns-in-Some-clause-below g c = λ h at ordered below.
    let own = c.requires.holds.1.head h at in
    is-writable g.T.Transport.state c.requires.holds.0 h own.0 ordered c.in-Some.head (same-head c.args.self.now c.in-Some.head h (has-head g c) at) c.pending.result c.is_writable.result (pending g c) c.is_writable.ensures.view below
