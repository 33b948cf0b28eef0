use Rattle.std.proofs.Common.{◌<◌, length, None, sym, ◌∙◌, arith}
use Rattle.std.proofs.lemmas.List.{get_or_default}
use Rattle.pl_head.proofs.Accounts.{told_some}
use Rattle.pl_head.proofs.outbound_buffer.OutboundBuffer.next_settled.Goals as goal

pub index-requires : goal.index-requires
index-requires c =
    let m = c.args.self.now in
    let left : m.told < length m.settled.items = omega (arith, m.told_within, c.if-self-len.false, c.len.ensures, m.settled.ok.0) in
    let found = told_some m.settled.items m.outcomes.items m.told c.index-number.result.now m.account c.index-number.ensures left in
    omega (arith, found.2, m.outcomes.ok.0)

pub unreachable-requires : goal.unreachable-requires
unreachable-requires c =
    let m = c.args.self.now in
    let left : m.told < length m.settled.items = omega (arith, m.told_within, c.if-self-len.false, c.len.ensures, m.settled.ok.0) in
    let found = told_some m.settled.items m.outcomes.items m.told c.index-number.result.now m.account c.index-number.ensures left in
    let same = get_or_default m.outcomes.items c.index-number.result.now None c.index.result.now found.2 in
    cc (found.1, same, c.index.ensures, c.in-None.is)

pub returns-clause-outcome : goal.returns-clause-outcome
returns-clause-outcome c =
    let m = c.args.self.now in
    let left : m.told < length m.settled.items = omega (arith, m.told_within, c.if-self-len.false, c.len.ensures, m.settled.ok.0) in
    let found = told_some m.settled.items m.outcomes.items m.told c.index-number.result.now m.account c.index-number.ensures left in
    get_or_default m.outcomes.items c.index-number.result.now None c.index.result.now found.2 ∙ sym c.index.ensures ∙ c.in-Some.is
