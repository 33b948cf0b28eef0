use Rattle.std.proofs.Common.{◌≡◌, true, inr, ℕ, ◌==◌, lit<, List, length, refl, sym, ap, ◌∙◌, arith, rules}
use Rattle.std.specs.Prelude.{is_ok}
use Rattle.std.specs.List.{slice_split}
use Rattle.std.specs.Str.Iter.{split_text, split_has_more, split_pattern}
use Rattle.std.proofs.lemmas.List.{take_all, length_push}
use Rattle.std.proofs.lemmas.Iterator.Splits.{YieldsList-from_str_split}
use Rattle.std.proofs.lemmas.Iterator.Consumers.{YieldsList-turn, YieldsList-end}
use Rattle.pl_text.proofs.MovesTerms.{fits_push, terms_more, some_between, is_stopped}
use Rattle.pl_text.proofs.moves_text.read_terms.Goals as goal

pub loop-piece-preserved : goal.loop-piece-preserved
loop-piece-preserved c =
    let begin = c.into_iter-piece-iterator.ensures.into_iter_gives in
    let yields = YieldsList-from_str_split {s = c.into_iter-piece-iterator.result} 32 c.args.text.now (lit< tt) (ap split_text begin ∙ c.split-piece-items.ensures.text) (ap split_has_more begin ∙ c.split-piece-items.ensures.has_more) (ap split_pattern begin ∙ c.split-piece-items.ensures.pattern) in
    let cut = some_between c.args.text.now c.is_empty.result c.is_empty.ensures c.if-is_empty.false in
    let t = YieldsList-turn yields c.loop-piece.yielded _ c.loop-piece.yielded_by _ _ c.in-Some.piece c.in-Some.is c.next.ensures.steps in
    let pieces : List (List ℕ) = slice_split (λ b. b == 32) c.args.text.now in
    let found = c.in-Some-read_term.ensures.some in
    let pushed : is_ok c.push.result ≡ true = search rules in
    rw (c.push.ensures.items, pushed, length_push c.loop-piece.yielded c.in-Some.piece, cut) record {
      texts = terms_more pieces (length c.loop-piece.yielded) c.loop-piece.terms.items c.in-Some-read_term.term c.in-Some.piece.now t.0 t.1 found.0 (rw cut at c.loop-piece.invariant.texts);
      fit = fits_push c.loop-piece.terms.items c.in-Some-read_term.term c.loop-piece.invariant.fit found.1;
    }

pub returns-in-None-read_term-clause-err : goal.returns-in-None-read_term-clause-err
returns-in-None-read_term-clause-err c =
    let begin = c.into_iter-piece-iterator.ensures.into_iter_gives in
    let yields = YieldsList-from_str_split {s = c.into_iter-piece-iterator.result} 32 c.args.text.now (lit< tt) (ap split_text begin ∙ c.split-piece-items.ensures.text) (ap split_has_more begin ∙ c.split-piece-items.ensures.has_more) (ap split_pattern begin ∙ c.split-piece-items.ensures.pattern) in
    let cut = some_between c.args.text.now c.is_empty.result c.is_empty.ensures c.if-is_empty.false in
    let t = YieldsList-turn yields c.loop-piece.yielded _ c.loop-piece.yielded_by _ _ c.in-Some.piece c.in-Some.is c.next.ensures.steps in
    inr (refl, is_stopped c.args.text.now (slice_split (λ b. b == 32) c.args.text.now) (length c.loop-piece.yielded) c.in-Some.piece.now cut t.0 t.1 c.in-None-read_term.ensures.none)

pub returns-clause-ok : goal.returns-clause-ok
returns-clause-ok c =
    let begin = c.into_iter-piece-iterator.ensures.into_iter_gives in
    let yields = YieldsList-from_str_split {s = c.into_iter-piece-iterator.result} 32 c.args.text.now (lit< tt) (ap split_text begin ∙ c.split-piece-items.ensures.text) (ap split_has_more begin ∙ c.split-piece-items.ensures.has_more) (ap split_pattern begin ∙ c.split-piece-items.ensures.pattern) in
    let cut = some_between c.args.text.now c.is_empty.result c.is_empty.ensures c.if-is_empty.false in
    let t = YieldsList-end yields c.loop-piece.yielded _ c.loop-piece.yielded_by _ _ c.in-None.is c.next.ensures.steps in
    record { texts_are = cut ∙ sym (take_all (length c.loop-piece.yielded) (slice_split (λ b. b == 32) c.args.text.now) (omega (arith, t))) ∙ sym (rw cut at c.loop-piece.invariant.texts); fit = c.loop-piece.invariant.fit }
