use Rattle.std.proofs.Common.{◌≡◌, Bool, slice_get, Some, refl, subst}
use Rattle.std.proofs.lemmas.Option.{slice_get_read}
use Rattle.pl_part.specs.Parts.{PartMoves}
use Rattle.pl_channel.proofs.Vecs.{put-back}
use Rattle.pl_channel.proofs.HeadMoves.{moves-idle, may-move}
use Rattle.pl_channel.proofs.OneChannel.{places-of}
use Rattle.pl_replay.proofs.CallViews.{head-gives}
use Rattle.pl_replay.proofs.channels.ChannelsNodes.move_head.Goals as goal
use Rattle.pl_replay.proofs.channels.ChannelsNodes.move_head.Goals.{After-index_mut}

own : (g : _) (c : After-index_mut g) → slice_get c.args.self.now.parts.items c.args.channel ≡ Some c.index_mut.result.now
own g c = slice_get_read c.args.self.now.parts.items _ c.args.channel c.index_mut.result.now refl c.requires.there c.index_mut.ensures.value

pub move_head-requires : goal.move_head-requires
move_head-requires g c =
    let is = own g (goal.at.move_head-requires g c).After-index_mut in
    record {
      holds = (c.requires.stands.0, (c.requires.stands.1.parts c.args.channel c.index_mut.result.now is).holds);
      places = places-of c.args.self.now.parts.items c.args.channel c.index_mut.result.now c.index_mut.result.now is c.args.work.now c.requires.places;
    }

pub returns-clause-enabled : goal.returns-clause-enabled
returns-clause-enabled g c =
    may-move g.T.Transport.state c.index_mut.result.now c.args.work.now c.move_head.new.self c.move_head.new.work g.T.Transport.may_refuse c.args.by c.move_head.result c.move_head.ensures.moves
    c.args.self.now.parts.items c.args.channel (own g (goal.at.returns-clause-enabled g c).After-index_mut)

pub returns-clause-idle : goal.returns-clause-idle
returns-clause-idle g c = λ idle.
    let p = c.index_mut.result.now in
    let same = moves-idle g.T.Transport.state p c.args.work.now c.move_head.new.self c.move_head.new.work g.T.Transport.may_refuse c.args.by c.move_head.result c.move_head.ensures.moves idle in
    ((λ i. record { parts = put-back c.args.self.now.parts c.args.channel p c.move_head.new.self c.index_mut.ensures.value same.0 i }), same.1)

pub returns-clause-moves : goal.returns-clause-moves
returns-clause-moves g c = λ made.
    let does = λ (b : Bool). PartMoves g.T.Transport.state g.T.Transport.may_refuse c.index_mut.result.now c.args.by c.args.work.now b c.move_head.new.self c.move_head.new.work in
    record { before = c.index_mut.result.now; after = c.move_head.new.self; was = own g (goal.at.returns-clause-moves g c).After-index_mut; becomes = refl; same = c.move_head.ensures.given.puts.same; done = subst does made c.move_head.ensures.moves }

pub returns-clause-gives : goal.returns-clause-gives
returns-clause-gives g c =
    head-gives c.args.self.now.parts c.args.channel c.index_mut.result.now c.move_head.new.self (own g (goal.at.returns-clause-gives g c).After-index_mut) g.S.Stage.meaning g.S.Stage.stands_after g.T.Transport.state c.requires.stands c.args.work.now c.move_head.new.work c.move_head.ensures.given
