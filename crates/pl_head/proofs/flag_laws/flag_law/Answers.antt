use Rattle.pl_head.proofs.FlagSteps.{pass_closed, all_sent, open_by_room, open_unstopped, places_stay}
use Rattle.pl_head.proofs.flag_laws.flag_law.Goals as goal

pub returns-clause-open : goal.returns-clause-open
returns-clause-open c = λ values p p' before after h open_. all_sent values p p' before after h open_

pub returns-clause-room : goal.returns-clause-room
returns-clause-room c = λ values p p' before after h open_ goes room.
    all_sent values p p' before after h (open_by_room values p p' before after h open_ goes room)

pub returns-clause-none_stopped : goal.returns-clause-none_stopped
returns-clause-none_stopped c = λ values p p' before after h open_ goes same.
    all_sent values p p' before after h (open_unstopped values p p' before after h open_ goes same)

pub returns-clause-closed : goal.returns-clause-closed
returns-clause-closed c = λ values p p' before after h shut. pass_closed values p p' before after h shut

pub returns-clause-places : goal.returns-clause-places
returns-clause-places c = λ values p p' before after lanes h places own. places_stay values p p' before after lanes h places own
