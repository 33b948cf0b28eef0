use Rattle.std.proofs.Common.{List, replicate}
use Rattle.std.proofs.lemmas.List.Elements.{All-replicate, All-same}
use Rattle.pl_exec.specs.SessionWords.{SightView, IsReaderOf, new_sights}
use Rattle.pl_exec.proofs.WordLemmas.{new-reader-of}
use Rattle.pl_exec.proofs.words.Words.of_world.Goals as goal

pub returns-clause-own_heads : goal.returns-clause-own_heads
returns-clause-own_heads g c = c.in_ok-words_of.ensures.own_heads

pub returns-clause-own_readers : goal.returns-clause-own_readers
returns-clause-own_readers g c =
    let new = c.in_ok-words_of.field-0 in
    let words = new.0 in
    let P = λ (r : List SightView). IsReaderOf words r in
    All-same P new.2.items (replicate c.args.readers (new_sights words)) c.in_ok-words_of.ensures.readers (All-replicate P c.args.readers (new_sights words) (new-reader-of words))
