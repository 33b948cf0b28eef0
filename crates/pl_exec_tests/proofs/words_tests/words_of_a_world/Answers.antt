use Rattle.std.proofs.Common.{List, [], ◌∷◌, subst}
use Rattle.std.specs.Prelude.{All}
use Rattle.std.proofs.lemmas.List.Elements.{All-head, All-tail}
use Rattle.pl_exec.specs.SessionWords.{IsReaderOf}
use Rattle.pl_exec_tests.proofs.words_tests.words_of_a_world.Goals as goal

pub look-requires : goal.look-requires
look-requires g c =
    let own = IsReaderOf c.in_ok-words.words in
    All-head own c.pair-first.result.0 (c.pair-first.result.1 ∷ []) (subst (λ (readers : List _). All own readers) c.pair-first.ensures c.in_ok-words.ensures.own_readers)

pub peek-requires : goal.peek-requires
peek-requires g c =
    let own = IsReaderOf c.in_ok-words.words in
    All-head own c.pair-first.result.1 []
    (All-tail own c.pair-first.result.0 (c.pair-first.result.1 ∷ []) (subst (λ (readers : List _). All own readers) c.pair-first.ensures c.in_ok-words.ensures.own_readers))
