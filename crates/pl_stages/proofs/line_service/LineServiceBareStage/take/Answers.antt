use Rattle.pl_stages.proofs.Accepted.{stands-open, stands-ended}
use Rattle.pl_stages.proofs.line_service.LineServiceBareStage.take.Goals as goal

pub returns-then-self-clause-stands : goal.returns-then-self-clause-stands
returns-then-self-clause-stands c = λ xs stood.
    stands-ended c.args.self.now.totals c.args.self.now.has_quit xs c.args.event c.if-self.true stood

pub returns-then-quits-clause-stands : goal.returns-then-quits-clause-stands
returns-then-quits-clause-stands c = λ xs stood.
    stands-open c.args.self.now.totals c.write_replies-replied.new.totals c.args.self.now.has_quit c.is_quit-quits.result xs c.args.event c.if-self.false c.is_quit-quits.ensures (rw c.in_ok-replied.was at c.write_replies-replied.ensures.totals) stood

pub returns-else-quits-clause-stands : goal.returns-else-quits-clause-stands
returns-else-quits-clause-stands c = λ xs stood.
    stands-open c.args.self.now.totals c.write_replies-replied.new.totals c.args.self.now.has_quit c.is_quit-quits.result xs c.args.event c.if-self.false c.is_quit-quits.ensures (rw c.in_ok-replied.was at c.write_replies-replied.ensures.totals) stood
