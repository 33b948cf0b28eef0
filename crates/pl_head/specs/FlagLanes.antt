-- Flags on the lane of a channel's first hop.
use Rattle.std.specs.Prelude.{◌≡◌, ◌+◌, List, [], ◌∷◌, ◌++◌, length, map, Bool}
use Rattle.pl_event.specs.declared.envelopes.Item.{Item}
use Rattle.pl_event.specs.declared.envelopes.Item.TheVariants as item
use Rattle.pl_context.specs.declared.ports.Port.{Port}
use Rattle.pl_context.specs.OutputsViews.{OutputsView}
use Rattle.pl_context.specs.Ports.{FlagPasses, numbered}

abbrev pub as_flags : List Bool → List Item
as_flags values = map (λ value. item.Flag value) values

-- Flags are handed on one after another (ChannelInboundHandler). It goes on until one finds no place: the lane has
-- then stopped.
abbrev pub FlagsPass : List Bool → Port → OutputsView → Port → OutputsView → Type 0
FlagsPass [] p before p' after = (p' ≡ p) × (after ≡ before)
FlagsPass (value ∷ values) p before p' after =
    (mid : Port) × (between : OutputsView) × FlagPasses p value before mid between × FlagsPass values mid between p' after

-- All of these flags were sent (flag_law). They stand after the others with the next numbers, and the lane goes on.
pub record AllSent (values : List Bool) (p : Port) (before : OutputsView) (p' : Port) (after : OutputsView) : Type 0 where
  pub items : after.items ≡ before.items ++ numbered p.lane p.made (as_flags values)
  pub stopped : after.stopped ≡ before.stopped
  pub port : p' ≡ record p { made = p.made + length values }
