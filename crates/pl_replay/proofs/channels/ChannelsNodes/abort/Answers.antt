use Rattle.std.proofs.Common.{◌≡◌, slice_get, Some, refl}
use Rattle.std.proofs.lemmas.Option.{slice_get_read}
use Rattle.pl_channel.proofs.OneChannel.{places-of}
use Rattle.pl_replay.proofs.CallViews.{head-gives}
use Rattle.pl_replay.proofs.channels.ChannelsNodes.abort.Goals as goal
use Rattle.pl_replay.proofs.channels.ChannelsNodes.abort.Goals.{After-index_mut}

own : (g : _) (c : After-index_mut g) → slice_get c.args.self.now.parts.items c.args.channel ≡ Some c.index_mut.result.now
own g c = slice_get_read c.args.self.now.parts.items _ c.args.channel c.index_mut.result.now refl c.requires.there c.index_mut.ensures.value

pub abort-requires : goal.abort-requires
abort-requires g c =
    let is = own g (goal.at.abort-requires g c).After-index_mut in
    record {
      holds = (c.requires.stands.0, (c.requires.stands.1.parts c.args.channel c.index_mut.result.now is).holds);
      places = places-of c.args.self.now.parts.items c.args.channel c.index_mut.result.now c.index_mut.result.now is c.args.work.now c.requires.places;
    }

pub returns-clause-aborts : goal.returns-clause-aborts
returns-clause-aborts g c = record { before = c.index_mut.result.now; after = c.abort.new.self; was = own g (goal.at.returns-clause-aborts g c).After-index_mut; becomes = refl; same = c.abort.ensures.given.puts.same; done = c.abort.ensures.aborts }

pub returns-clause-gives : goal.returns-clause-gives
returns-clause-gives g c =
    head-gives c.args.self.now.parts c.args.channel c.index_mut.result.now c.abort.new.self (own g (goal.at.returns-clause-gives g c).After-index_mut) g.S.Stage.meaning g.S.Stage.stands_after g.T.Transport.state c.requires.stands c.args.work.now c.abort.new.work c.abort.ensures.given
