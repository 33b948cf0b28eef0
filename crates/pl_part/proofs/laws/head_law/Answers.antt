use Rattle.pl_part.proofs.HeadReports.{bytes-begin}
use Rattle.pl_part.proofs.laws.head_law.Goals as goal

pub returns : goal.returns
returns g c = λ world h held. bytes-begin g.T.Transport.state h world held
