-- The parts of all channels, as executors see their nodes.
use Rattle.std.specs.Prelude.{List, length}
use Rattle.pl_event.specs.Meaning.{Meaning}
use Rattle.pl_part.specs.Parts.{ChannelPartView}
use Rattle.pl_net.specs.NodesViews.{NodesView}
use Rattle.pl_channel.specs.Channels.{home_of, target_of, origin_of, lanes_view, done_of}

-- the channels' nodes, as executors see them (EventExecutorGroup)
abbrev pub channels_view : {S T : Type 0} → (S → Meaning) → List (ChannelPartView S T) → NodesView
channels_view meaning ps = record {
  channels = length ps;
  home = home_of ps;
  origin = origin_of ps;
  lanes = lanes_view meaning (target_of ps) ps;
  work_done = done_of ps;
}
