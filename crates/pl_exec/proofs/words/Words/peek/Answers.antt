use Rattle.std.proofs.Common.{◌<◌, ℕ, List, slice_set, ap, sym, subst, ◌∙◌}
use Rattle.pl_exec.specs.SessionWords.{SightView, IsReaderOf, sight_names}
use Rattle.pl_exec.proofs.WordLemmas.{reader-at, reader-kept}
use Rattle.pl_exec.proofs.words.Words.peek.Goals as goal

pub returns-clause-own : goal.returns-clause-own
returns-clause-own c =
    let words = c.args.self.now in
    let reader = c.reader.inside.channels.items in
    let sight = c.behind-reader.inside in
    reader-kept words reader c.args.channel c.index_mut.result.now (record { mark = sight.mark; promises = c.peek.new.seat })
    (subst (λ (r : List SightView). IsReaderOf words r) (sym c.reader.view_is) c.requires) c.index_mut.ensures.value
    ((λ i. record { mark = sight.mark.name; promises = c.peek.ensures.same i }) ∙ ap sight_names c.behind-reader.view_is)

pub returns-clause-found : goal.returns-clause-found
returns-clause-found c = λ there few.
    let words = c.args.self.now in
    let channel = c.args.channel in
    let sight : SightView = record { mark = c.behind-reader.inside.mark; promises = c.behind-reader.inside.promises } in
    let kept = subst (λ (n : ℕ). c.args.n < n) (sym c.words.invariant) few in
    record {
      sight = sight;
      seen = c.peek.new.seat;
      there = reader-at words c.args.reader.now c.reader.inside.channels.items channel c.index_mut.result.now sight c.reader.view_is c.requires there c.index_mut.ensures.value (sym c.behind-reader.view_is);
      peeks = c.peek.ensures.found kept;
      again = c.peek.ensures.again kept;
      others = ap (λ (r : List SightView). slice_set r channel (record { mark = sight.mark; promises = c.peek.new.seat })) c.reader.view_is;
    }
