use Rattle.std.proofs.Common.{◌≡◌, length, replicate, take}
use Rattle.pl_exec.specs.SessionWords.{new_head_seats, new_sights}
use Rattle.pl_exec.proofs.words.words_of.Given as goal

abbrev pub invariant-loop-channel : goal.invariant-loop-channel
invariant-loop-channel g l = record {
  count : length l.words.items ≡ l.channel-index;
  heads : l.heads.items ≡ new_head_seats l.words.items (take l.channel-index l.channels);
  readers : l.all.items ≡ replicate l.readers (new_sights l.words.items);
}
