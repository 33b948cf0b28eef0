-- What a part's head tells of its settled writes, one after another.
use Rattle.std.specs.Prelude.{◌≡◌, ℕ, List, [], ◌∷◌, Some, None, slice_index_or}
use Rattle.std.specs.Option.{option_map, option_map_or}
use Rattle.pl_event.specs.declared.outcomes.Outcome.{Outcome}
use Rattle.pl_head.specs.Buffers.{untold}
use Rattle.pl_head.specs.HeadStand.{HeadView}
use Rattle.pl_part.specs.Parts.{ChannelPartView}

-- a head, when so many of its settled writes were told
abbrev pub told_head : {T : Type 0} → ℕ → HeadView T → HeadView T
told_head n h = record h { buffer = record h.buffer { told = n } }

-- a part whose head has told so many
abbrev pub told_part : {S T : Type 0} → ℕ → ChannelPartView S T → ChannelPartView S T
told_part n p = record p { head = option_map (told_head n) p.head }

-- the settled writes that its head has not told
abbrev pub part_untold : {S T : Type 0} → ChannelPartView S T → List ℕ
part_untold p = option_map_or (λ (h : HeadView _). untold h.buffer) p.head []

-- Its head has told some settled writes, or none. All else is as it was.
pub record IsTold {S T : Type 0} (p p' : ChannelPartView S T) : Type 0 where
  pub so_many : ℕ
  pub is : p' ≡ told_part so_many p

-- Its head tells how its next settled write ended.
pub record TellsNext {S T : Type 0} (p : ChannelPartView S T) (n : ℕ) (outcome : Outcome) (p' : ChannelPartView S T) : Type 0 where
  pub head : HeadView T
  pub has_head : p.head ≡ Some head
  pub ended : slice_index_or head.buffer.outcomes n None ≡ Some outcome
  pub next : part_untold p ≡ n ∷ part_untold p'
