use Rattle.std.proofs.Common.{false, refl}
use Rattle.pl_channel.proofs.EndReports.{ends-report, ends-keep}
use Rattle.pl_channel.proofs.reports.into_report.Goals as goal

pub returns-clause-ends : goal.returns-clause-ends
returns-clause-ends g c = λ ys zs sizes after. record {
  stands_is = c.stands-stands.ensures ys zs sizes after;
  tail_is = c.into_record.ensures;
  bytes_are = c.in_ok-bytes.ensures.prefix ys zs sizes after;
  writes_are = c.in_ok-bytes.ensures.outcomes ys zs sizes after;
}

pub returns-clause-keeps : goal.returns-clause-keeps
returns-clause-keeps g c = λ refuses plan number p held.
    ends-keep g.T.Transport.state refuses plan number p c.args.tail c.args.head held _ (returns-clause-ends g c)

pub returns-clause-planned : goal.returns-clause-planned
returns-clause-planned g c = λ plan number p held keeps.
    ends-report g.T.Transport.state false plan number p c.args.tail c.args.head held _ (returns-clause-ends g c) refl keeps
