use Rattle.std.proofs.Common.{List, [], subst}
use Rattle.std.specs.Prelude.{All}
use Rattle.std.proofs.lemmas.List.Elements.{All-head}
use Rattle.pl_exec.specs.SessionWords.{IsReaderOf}
use Rattle.pl_example_handlers.proofs.recipe.counted_on_threads.Goals as goal

-- The seats and the reader are of these words: the reader is one of theirs.
pub join-ran-requires-after_bounds : goal.join-ran-requires-after_bounds
join-ran-requires-after_bounds g c κs within =
    let new = c.in_ok-words.ensures in
    let own = IsReaderOf c.in_ok-words.words in
    ((new.own_heads, new.marks), All-head own c.only-reader.result [] (subst (λ (readers : List _). All own readers) c.only-reader.ensures new.own_readers))
