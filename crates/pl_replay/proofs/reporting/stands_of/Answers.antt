use Rattle.pl_replay.proofs.reporting.stands_of.Goals as goal

pub returns : goal.returns
returns g c = record {
  ends = record { tail = c.ends.result.0.now; head = c.ends.result.1.now; has_tail = c.ends.ensures.tail; has_head = c.ends.ensures.head };
  stands = c.stands.ensures;
}
