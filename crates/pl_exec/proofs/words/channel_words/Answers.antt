use Rattle.std.proofs.Common.{◌≡◌, ◌-◌, ◌<◌, List, length, get_or, ap, sym, ◌∙◌, arith}
use Rattle.std.specs.Prelude.{vec_len}
use Rattle.std.proofs.lemmas.List.{length-map}
use Rattle.std.proofs.lemmas.Option.{same_Some}
use Rattle.pl_words.specs.PromiseViews.{new_settler, new_reader as new_promise_seat}
use Rattle.pl_words.specs.Watermarks.{ReadSeatView as MarkSeatView, new_reader as new_mark_seat}
use Rattle.pl_exec.specs.SessionWords.{SightView}
use Rattle.pl_exec.specs.declared.words.TheConstants.{PROMISES}
use Rattle.pl_exec.proofs.WordLemmas.{sights-same}
use Rattle.pl_exec.proofs.words.channel_words.Goals as goal

pub returns-clause-seats : goal.returns-clause-seats
returns-clause-seats c =
    let made = c.in_ok-promises in
    let settle = c.in-Some.settle in
    let some : 0 < vec_len made.settlers = omega (arith, made.ensures.settlers.0, made.settlers.ok.0) in
    let last = vec_len made.settlers - 1 in
    let popped : settle ≡ get_or made.settlers.items last settle = same_Some settle (get_or made.settlers.items last settle) (c.in-Some.ensures.value settle some) in
    let new : settle ≡ new_settler made.promises.name PROMISES 1 = popped ∙ made.ensures.settlers.1 last settle (omega (arith, some, made.settlers.ok.0)) in
    (λ i. record { mark = c.in_ok-mark.ensures.head i; settle = new i })

pub returns-clause-count : goal.returns-clause-count
returns-clause-count c =
    sym (length-map c.in_ok-sights.sights.items (λ (s : SightView). s.mark)) ∙ ap (λ (l : List MarkSeatView). length l) c.in_ok-sights.ensures.marks ∙ c.in_ok-mark.ensures.readers.0

pub returns-clause-sights : goal.returns-clause-sights
returns-clause-sights c =
    sights-same c.in_ok-sights.sights.items c.in_ok-mark.marks.items c.in_ok-promises.peeks.items (new_mark_seat c.in_ok-mark.mark.name) (new_promise_seat c.in_ok-promises.promises.name PROMISES)
    c.in_ok-sights.ensures.marks c.in_ok-sights.ensures.promises c.in_ok-mark.ensures.readers.1 c.in_ok-promises.ensures.readers.1
