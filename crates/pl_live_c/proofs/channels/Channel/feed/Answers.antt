use Rattle.std.proofs.Common.{List, subst}
use Rattle.pl_event.specs.declared.elements.Element.{Element}
use Rattle.pl_channel.specs.Feeding.{fed_channel}
use Rattle.pl_world.specs.Plans.{ChannelPlan}
use Rattle.pl_live_c.specs.Channels.{RestsAt}
use Rattle.pl_live_c.proofs.channels.Channel.feed.Goals as goal

pub returns-clause-fed : goal.returns-clause-fed
returns-clause-fed c = λ p rests.
    let Fed : List Element → Type 0 = λ burst. RestsAt (fed_channel burst p) c.feed.new.self in
    c.drop_events.ensures.rests _ (subst Fed c.in_ok-burst.ensures (c.in_ok-feed.ensures.fed p rests))
