-- What a part forgets: the events that its tail has handed over, and what its head took.
use Rattle.std.specs.Prelude.{◌≡◌, Bool, false, List, [], Some}
use Rattle.std.specs.Option.{option_map, option_map_or}
use Rattle.pl_event.specs.declared.events.Event.{Event}
use Rattle.pl_context.specs.TailViews.{TailView, handed_over}
use Rattle.pl_head.specs.HeadCalls.{HeadForgets}
use Rattle.pl_head.specs.HeadStand.{HeadView, can_forget}
use Rattle.pl_head.specs.Transports.{TransportState}
use Rattle.pl_part.specs.Paths.{PathPartView}
use Rattle.pl_part.specs.Parts.{ChannelPartView}

-- what its tail holds of its record
abbrev pub path_record : {S : Type 0} → PathPartView S → List Event
path_record p = option_map_or (λ (t : TailView). t.events) p.tail []

-- a path whose tail, where that is among its nodes, has handed its record over
abbrev pub path_handed : {S : Type 0} → PathPartView S → PathPartView S
path_handed p = record p { tail = option_map handed_over p.tail }

-- so has the tail of a part
abbrev pub part_handed : {S T : Type 0} → ChannelPartView S T → ChannelPartView S T
part_handed p = record p { path = path_handed p.path }

-- its head is among its nodes, and can forget
abbrev pub part_can_forget : {S T : Type 0} → ChannelPartView S T → Bool
part_can_forget p = option_map_or (λ (h : HeadView _). can_forget h) p.head false

-- Its head has forgotten what it took. All else is as it was.
pub record PartForgets {S T : Type 0} (state : T → TransportState) (p p' : ChannelPartView S T) : Type 0 where
  pub before : HeadView T
  pub has_head : p.head ≡ Some before
  pub after : HeadView T
  pub forgets : HeadForgets state before after
  pub is : p' ≡ record p { head = Some after }
