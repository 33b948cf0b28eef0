-- How much was done by nodes: items that they took, and items that their ports were given.
use Rattle.std.specs.Prelude.{ℕ, ◌+◌, Option}
use Rattle.std.specs.List.{sum_by}
use Rattle.std.specs.Option.{option_map_or}
use Rattle.pl_context.specs.ContextViews.{ContextView}
use Rattle.pl_context.specs.TailViews.{TailView}
use Rattle.pl_head.specs.HeadStand.{HeadView}
use Rattle.pl_part.specs.Paths.{PathPartView}
use Rattle.pl_part.specs.Parts.{ChannelPartView}

abbrev pub context_done : {S : Type 0} → ContextView S → ℕ
context_done c = c.taken + c.flags_taken + c.up.made + c.down.made + c.flags.made

abbrev pub tail_done : TailView → ℕ
tail_done t = t.taken + t.flags_taken

-- how much a head took and gave
abbrev pub head_done : {T : Type 0} → HeadView T → ℕ
head_done h = h.taken + h.input.port.made + h.buffer.flags.made

-- that of a context, where there is one
abbrev pub slot_done : {S : Type 0} → Option (ContextView S) → ℕ
slot_done slot = option_map_or (λ (c : ContextView _). context_done c) slot 0

-- how much contexts and tail took and gave
abbrev pub path_done : {S : Type 0} → PathPartView S → ℕ
path_done p = sum_by (λ (slot : Option (ContextView _)). slot_done slot) p.contexts + option_map_or (λ (t : TailView). tail_done t) p.tail 0

-- how much all nodes took and gave
abbrev pub part_done : {S T : Type 0} → ChannelPartView S T → ℕ
part_done p = path_done p.path + option_map_or (λ (h : HeadView _). head_done h) p.head 0
