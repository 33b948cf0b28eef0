use Rattle.std.proofs.Common.{List, map, ap, ◌∙◌, arith}
use Rattle.std.specs.List.{range_with_len}
use Rattle.std.proofs.lemmas.List.{take_all}
use Rattle.pl_part.specs.Parts.{ChannelPartView}
use Rattle.pl_exec.specs.Sharing.{channels_on, rows_in}
use Rattle.pl_exec.proofs.ChannelRows.{rows-lower, rows-more, rows-none}
use Rattle.pl_exec.proofs.sharing.channels_on.Goals as goal

pub loop-channel-init : goal.loop-channel-init
loop-channel-init g c = rows-none c.in_ok-rows.rows.items c.args.count c.in_ok-rows.ensures.count c.in_ok-rows.ensures.none

pub note_channel-requires : goal.note_channel-requires
note_channel-requires g c =
    rows-lower c.args.parts.now c.args.count c.loop-channel.channel (rows_in c.loop-channel.rows.items) c.loop-channel.invariant (omega (arith, c.loop-channel-test.true))

pub loop-channel-preserved : goal.loop-channel-preserved
loop-channel-preserved g c =
    rows-more c.args.parts.now c.args.count c.loop-channel.channel (rows_in c.loop-channel.rows.items) c.loop-channel.invariant c.index-parts-channel.result (rows_in c.note_channel.new.rows.items) c.loop-channel-test.true
    c.index-parts-channel.is c.in_ok-note_channel.ensures

pub returns : goal.returns
returns g c =
    c.loop-channel.invariant
    ∙ ap (λ (l : List (ChannelPartView g.row.S.Denot g.row.T.Denot)). map (channels_on l) (range_with_len 0 c.args.count)) (take_all c.loop-channel.channel c.args.parts.now c.loop-channel-test.false)
