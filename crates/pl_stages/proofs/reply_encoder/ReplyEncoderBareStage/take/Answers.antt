use Rattle.pl_stages.proofs.reply_encoder.ReplyEncoderBareStage.take.Goals as goal

pub returns-clause-down : goal.returns-clause-down
returns-clause-down c = λ xs stood. rw (← c.in_ok-encoded.ensures) c.in_ok-push.ensures.items
