use Rattle.std.proofs.Common.{not, rules, ap, sym, ◌∙◌, subst}
use Rattle.std.proofs.lemmas.Bool.{both_ways}
use denote.Enum.Bare.{sameb, same_true}
use Rattle.pl_flow.specs.declared.head_moves.HeadMove.{HeadMove}
use Rattle.pl_head.specs.contracts.heads.ReadStep.{the_type}
use Rattle.pl_head.specs.declared.heads.ReadStep.TheVariants as reading
use Rattle.pl_part.specs.Parts.{PartMoves}
use Rattle.pl_part.proofs.parts.ChannelPart.move_head.Goals as goal
use Rattle.pl_part.proofs.parts.ChannelPart.move_head.Goals.{in-Idle, in_default}

pub returns-in-Read-clause-moves : goal.returns-in-Read-clause-moves
returns-in-Read-clause-moves g c =
    subst (λ (m : HeadMove). PartMoves g.T.Transport.state g.T.Transport.may_refuse c.args.self.now m c.args.work.now c.eq.result c.next_read.new.self c.next_read.new.work) (sym c.in-Read.is) (record {
      answer = c.next_read.result;
      reads = c.next_read.ensures.reads;
      gave = λ e. same_true the_type (search rules) c.next_read.result reading.Gave (sym c.eq.ensures ∙ e);
      other = λ e is. both_ways c.eq.result e (c.eq.ensures ∙ ap (λ step. sameb the_type step reading.Gave) is);
    })

pub returns-after-matches-clause-moves : goal.returns-after-matches-clause-moves
returns-after-matches-clause-moves g c =
    subst (λ (m : HeadMove). PartMoves g.T.Transport.state g.T.Transport.may_refuse c.args.self.now m c.args.work.now (not c.match-matches.matches) c.write_once.new.self c.write_once.new.work) (sym c.in-Out.is) (record {
      answer = c.write_once.result;
      writes = c.write_once.ensures.writes_out;
      wrote = λ e. elim c.match-matches.branch [ in-Idle w ↦ absurd (both_ways (not c.match-matches.matches) (ap not w.matches-is) e) | in_default w ↦ w.in_default.not-Idle ];
      idle = λ e. elim c.match-matches.branch [ in-Idle w ↦ w.in-Idle.is | in_default w ↦ absurd (both_ways (not c.match-matches.matches) e (ap not w.matches-is)) ];
    })
