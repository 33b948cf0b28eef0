use Rattle.pl_stages.proofs.FrameLaws.{frames_of-whole, frames_of-too_long, frames_of-unfinished_payload, frames_of-unfinished_field, frames_of-up, frames_of-however_cut, prepended, frames_of-round_trip}
use Rattle.pl_stages.proofs.laws.length_framing_law.Goals as goal

pub returns : goal.returns
returns c = assumption (frames_of-whole, frames_of-too_long, frames_of-unfinished_payload, frames_of-unfinished_field, frames_of-up, frames_of-however_cut, prepended, frames_of-round_trip)
