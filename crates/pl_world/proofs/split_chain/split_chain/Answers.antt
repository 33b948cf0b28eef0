use Rattle.std.proofs.Common.{◌≡◌, ℕ, ◌++◌, ◌+◌, List, take, drop, get_or, true, ap, ◌∙◌, arith}
use Rattle.std.specs.List.{list_any, position_or_len}
use Rattle.std.proofs.lemmas.List.{get_or-take}
use Rattle.std.proofs.lemmas.List.Sums.{passes_at_first}
use Rattle.pl_event.specs.Paths.{is_turn}
use Rattle.pl_world.proofs.SplitChains.{none_before, front_kept, split_whole}
use Rattle.pl_world.proofs.split_chain.split_chain.Goals as goal

pub returns-clause-before : goal.returns-clause-before
returns-clause-before g c =
    let turns = λ (s : g.row.S.Denot). is_turn (g.S.Stage.meaning s).direction in
    let items = c.args.inbound.items in
    let hop = c.args.hop in
    let kept : c.remove-turn.new.self.items ≡ take hop items =
    c.remove-turn.ensures.by_index.2 ∙ ap (λ (t : List g.row.S.Denot). take hop t ++ drop (hop + 1) t) c.in_ok-after.ensures.items ∙ front_kept items hop in
    ap (list_any turns) kept ∙ none_before turns items hop c.requires.turn

pub returns-clause-turn : goal.returns-clause-turn
returns-clause-turn g c =
    let turns = λ (s : g.row.S.Denot). is_turn (g.S.Stage.meaning s).direction in
    let items = c.args.inbound.items in
    let hop = c.args.hop in
    let turn = c.remove-turn.result in
    let here : turn ≡ get_or items hop turn =
    c.remove-turn.ensures.value ∙ ap (λ (t : List g.row.S.Denot). get_or t hop turn) c.in_ok-after.ensures.items ∙ get_or-take (hop + 1) items hop turn (omega arith) in
    let first : hop ≡ position_or_len turns items = c.requires.turn in
    let passes : turns (get_or items (position_or_len turns items) turn) ≡ true = passes_at_first turns items turn (omega (arith, first, c.requires.within)) in
    ap turns (here ∙ ap (λ (k : ℕ). get_or items k turn) first) ∙ passes

pub returns-clause-whole : goal.returns-clause-whole
returns-clause-whole g c =
    let cut = c.in_ok-after.ensures in
    let removed = c.remove-turn.ensures in
    split_whole c.args.inbound.items _ _ _ c.args.hop _ c.requires.within cut.items removed.by_index.2 removed.value cut.tail
