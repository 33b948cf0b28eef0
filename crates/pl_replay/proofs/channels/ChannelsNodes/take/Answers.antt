use Rattle.std.proofs.Common.{◌≡◌, length, slice_get, Some, refl}
use Rattle.std.proofs.lemmas.Option.{slice_get_read}
use Rattle.pl_part.specs.PartCalls.{Taken}
use Rattle.pl_channel.proofs.OneChannel.{channel-there, next-for}
use Rattle.pl_replay.proofs.CallViews.{take-view, take-stands, take-makes}
use Rattle.pl_replay.proofs.channels.ChannelsNodes.take.Goals as goal

pub take-requires : goal.take-requires
take-requires g c =
    let ps = c.args.self.now.parts.items in
    let p = c.index_mut.result.now in
    let e = c.args.envelope in
    let meaning = g.S.Stage.meaning in
    let own = slice_get_read ps (length ps) e.lane.channel p refl (channel-there meaning ps e.lane c.requires.written) c.index_mut.ensures.value in
    let w = c.requires.next in
    record {
      next = (w.0, next-for ps e.lane.channel p p own meaning g.S.Stage.stands_after g.T.Transport.state w.0 w.1 e c.args.work.now refl c.requires.written c.requires.number w.2 c.requires.places);
    }

own : (g : _) (c : goal.After-self-1 g) → slice_get c.args.self.now.parts.items c.args.envelope.lane.channel ≡ Some c.index_mut.result.now
own g c =
    let ps = c.args.self.now.parts.items in
    slice_get_read ps (length ps) c.args.envelope.lane.channel c.index_mut.result.now refl (channel-there g.S.Stage.meaning ps c.args.envelope.lane c.requires.written) c.index_mut.ensures.value

-- what the call of the part has done
taken : (g : _) (c : goal.After-self-1 g) → Taken g.S.Stage.meaning g.S.Stage.stands_after g.T.Transport.state g.S.Stage.is_spent c.index_mut.result.now c.args.envelope c.args.work.now c.take.result c.take.new.self c.take.new.work
taken g c = c.take.ensures

pub returns-clause-takes : goal.returns-clause-takes
returns-clause-takes g c = record { before = c.index_mut.result.now; after = c.take.new.self; was = own g c; becomes = refl; same = c.take.ensures.puts.same; done = (c.take.result, c.take.ensures.takes) }

pub returns-clause-view : goal.returns-clause-view
returns-clause-view g c =
    let w = c.requires.next in
    take-view c.args.self.now.parts.items c.args.envelope.lane.channel c.index_mut.result.now c.take.new.self (own g c) g.S.Stage.meaning g.S.Stage.stands_after g.T.Transport.state w.0 w.1 g.S.Stage.is_spent
    c.args.envelope c.args.work.now c.take.result c.take.new.work refl (taken g c)

pub returns-clause-stands : goal.returns-clause-stands
returns-clause-stands g c = λ world held good.
    take-stands c.args.self.now.parts.items c.args.envelope.lane.channel c.index_mut.result.now c.take.new.self (own g c) g.S.Stage.meaning g.S.Stage.stands_after g.T.Transport.state world held g.S.Stage.is_spent
    c.args.envelope c.args.work.now c.take.result c.take.new.work refl (taken g c) good

pub returns-clause-makes : goal.returns-clause-makes
returns-clause-makes g c = λ world held good.
    take-makes c.args.self.now.parts.items c.args.envelope.lane.channel c.index_mut.result.now c.take.new.self (own g c) g.S.Stage.meaning g.S.Stage.stands_after g.T.Transport.state world held g.S.Stage.is_spent
    c.args.envelope c.args.work.now c.take.result c.take.new.work refl (taken g c) good
