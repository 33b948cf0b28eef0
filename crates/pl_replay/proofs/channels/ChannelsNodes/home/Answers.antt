use Rattle.std.proofs.Common.{length, refl, arith}
use Rattle.std.proofs.lemmas.Option.{slice_get_read}
use Rattle.pl_channel.proofs.OneChannel.{home-last}
use Rattle.pl_replay.proofs.channels.ChannelsNodes.home.Goals as goal

pub target-requires : goal.target-requires
target-requires g c =
    let own = slice_get_read c.args.self.now.parts.items (length c.args.self.now.parts.items) c.args.channel c.index-part.result.now refl (omega (arith, c.requires.there)) c.index-part.ensures in
    omega (arith, (c.requires.stands.1.parts c.args.channel c.index-part.result.now own).holds.hops, c.head_hop.ensures)

pub returns : goal.returns
returns g c =
    let own = slice_get_read c.args.self.now.parts.items (length c.args.self.now.parts.items) c.args.channel c.index-part.result.now refl (omega (arith, c.requires.there)) c.index-part.ensures in
    let w = c.requires.stands in
    home-last c.args.self.now.parts.items c.args.channel c.index-part.result.now c.index-part.result.now own g.S.Stage.meaning g.S.Stage.stands_after g.T.Transport.state w.0 w.1 c.head_hop.result c.target.result c.head_hop.ensures c.target.ensures
