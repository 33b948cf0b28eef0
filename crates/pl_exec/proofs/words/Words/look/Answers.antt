use Rattle.std.proofs.Common.{◌<◌, List, length, slice_set, ap, sym, subst, ◌∙◌}
use Rattle.pl_exec.specs.SessionWords.{ChannelNames, SightView, IsReaderOf, sight_names}
use Rattle.pl_exec.proofs.WordLemmas.{reader-at, reader-kept}
use Rattle.pl_exec.proofs.words.Words.look.Goals as goal

pub returns-clause-own : goal.returns-clause-own
returns-clause-own c =
    let words = c.args.self.now in
    let reader = c.reader.inside.channels.items in
    let sight = c.behind-reader.inside in
    reader-kept words reader c.args.channel c.index_mut.result.now (record { mark = c.look.new.seat; promises = sight.promises })
    (subst (λ (r : List SightView). IsReaderOf words r) (sym c.reader.view_is) c.requires) c.index_mut.ensures.value
    ((λ i. record { mark = (c.look.ensures.looks.same i).name; promises = sight.promises.name }) ∙ ap sight_names c.behind-reader.view_is)

pub returns-clause-found : goal.returns-clause-found
returns-clause-found c =
    let words = c.args.self.now in
    let channel = c.args.channel in
    let sight : SightView = record { mark = c.behind-reader.inside.mark; promises = c.behind-reader.inside.promises } in
    let there : channel < length words = subst (λ (l : List ChannelNames). channel < length l) (c.deref.ensures.value ∙ c.self.view_is) c.in_ok-words.ensures.lookup.3.0 in
    record {
      sight = sight;
      seen = c.look.new.seat;
      there = reader-at words c.args.reader.now c.reader.inside.channels.items channel c.index_mut.result.now sight c.reader.view_is c.requires there c.index_mut.ensures.value (sym c.behind-reader.view_is);
      looks = c.look.ensures.looks;
      found = c.look.ensures.found;
      others = ap (λ (r : List SightView). slice_set r channel (record { mark = c.look.new.seat; promises = sight.promises })) c.reader.view_is;
    }
