use Rattle.pl_stages.proofs.handlers.HandlerStage.step.Goals as goal

pub returns-in-Decode : goal.returns-in-Decode
returns-in-Decode c = rw c.in-Decode.is c.step-in-Decode.ensures

pub returns-in-LineEnd : goal.returns-in-LineEnd
returns-in-LineEnd c = rw c.in-LineEnd.is c.step-in-LineEnd.ensures

pub returns-in-Prepend : goal.returns-in-Prepend
returns-in-Prepend c = rw c.in-Prepend.is c.step-in-Prepend.ensures

pub returns-in-Encode : goal.returns-in-Encode
returns-in-Encode c = rw c.in-Encode.is c.step-in-Encode.ensures
