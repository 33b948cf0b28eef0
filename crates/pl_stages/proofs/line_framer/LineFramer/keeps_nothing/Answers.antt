use Rattle.pl_stages.proofs.line_framer.LineFramer.keeps_nothing.Goals as goal

pub returns-else-is_empty : goal.returns-else-is_empty
returns-else-is_empty c = λ empty. let other = c.if-is_empty.false in cc
