use Rattle.pl_queue.proofs.RoomLemmas.{counted-begins, counted-goes_on, pushes-room}
use Rattle.pl_queue.proofs.room_laws.room_law.Goals as goal

pub returns : goal.returns
returns c = assumption (counted-begins, counted-goes_on, pushes-room)
