use Rattle.pl_stages.proofs.handlers.HandlerStage.change.Goals as goal

pub returns-in-Length-clause-down : goal.returns-in-Length-clause-down
returns-in-Length-clause-down c = rw c.in-Length.is c.change-in-Length.ensures.down

pub returns-in-Decode-clause-down : goal.returns-in-Decode-clause-down
returns-in-Decode-clause-down c = rw c.in-Decode.is c.change-in-Decode.ensures.down

pub returns-in-LineEnd-clause-down : goal.returns-in-LineEnd-clause-down
returns-in-LineEnd-clause-down c = rw c.in-LineEnd.is c.change-in-LineEnd.ensures.down

pub returns-in-Prepend-clause-down : goal.returns-in-Prepend-clause-down
returns-in-Prepend-clause-down c = rw c.in-Prepend.is c.change-in-Prepend.ensures.down

pub returns-in-Encode-clause-down : goal.returns-in-Encode-clause-down
returns-in-Encode-clause-down c = rw c.in-Encode.is c.change-in-Encode.ensures.down

pub returns-in-Lines-clause-down : goal.returns-in-Lines-clause-down
returns-in-Lines-clause-down c = rw c.in-Lines.is c.change.ensures.down

pub returns-in-Decode-clause-up : goal.returns-in-Decode-clause-up
returns-in-Decode-clause-up c = rw c.in-Decode.is c.change-in-Decode.ensures.up

pub returns-in-Prepend-clause-same_meaning : goal.returns-in-Prepend-clause-same_meaning
returns-in-Prepend-clause-same_meaning c = rw c.in-Prepend.is c.change-in-Prepend.ensures.same_meaning
