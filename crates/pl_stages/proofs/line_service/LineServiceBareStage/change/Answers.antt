use Rattle.std.proofs.Common.{sym, ◌∙◌}
use Rattle.pl_stages.proofs.Accepted.{stands-open}
use Rattle.pl_stages.proofs.line_service.LineServiceBareStage.change.Goals as goal

pub returns-then-write_at_once-clause-stands : goal.returns-then-write_at_once-clause-stands
returns-then-write_at_once-clause-stands c = λ changed xs stood.
    let written = c.write_at_once.ensures in
    stands-open c.args.self.now.totals c.write_at_once.new.totals c.args.self.now.has_quit c.args.self.now.has_quit xs c.args.event.now c.if-self.false
    (c.if-self.false ∙ sym (written.open c.if-write_at_once.true)) (written.totals c.if-write_at_once.true) stood
